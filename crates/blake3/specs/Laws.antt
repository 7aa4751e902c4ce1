-- What the floors above may rely on beside the calls' promises: how long a hash is, and how feeding
-- adds up. Statements, proved in proofs/Laws.antt; no other law of this crate is seen above.
use Rattle.std.specs.Prelude.{◌≡◌, ℕ, ◌+◌, ◌≤◌, List, ◌++◌, length, Ok}
use Rattle.blake3.specs.Tree.{hash}
use Rattle.blake3.specs.Running.{most_fed, with_bytes, fed_with, FedBytes}
use Rattle.blake3.specs.declared.running.Running.{Running}

pub record HashLaws : Type 0 where
  pub length-hash : (xs : List ℕ) → length (hash xs) ≡ 32

pub record FeedLaws : Type 0 where
  -- bytes fed one after the other are bytes fed at once
  pub with_both : (r : Running) (p q : List ℕ) → with_bytes r (p ++ q) ≡ with_bytes (with_bytes r p) q
  -- a feed within the limit is taken
  pub fed_within : (r : Running) (p : List ℕ) → r.fed + length p ≤ most_fed → fed_with r p ≡ Ok (with_bytes r p)
  -- what is counted then, and what a fresh record ends with
  pub fed_bytes : (xs : List ℕ) → FedBytes xs
