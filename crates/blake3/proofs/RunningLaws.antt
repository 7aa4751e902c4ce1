-- Bytes fed one after the other are bytes fed at once. Assumes nothing.
use Rattle.std.proofs.Common.{◌≡◌, ℕ, List, [], ◌∷◌, ◌++◌, refl}
use Rattle.blake3.specs.Running.{with_byte, with_bytes}
use Rattle.blake3.specs.declared.running.Running.{Running}

pub with_both : (r : Running) (p q : List ℕ) → with_bytes r (p ++ q) ≡ with_bytes (with_bytes r p) q
unfolding with_bytes
with_both r [] q = refl
with_both r (x ∷ p) q = with_both (with_byte r x) p q
