-- `add_bytes` meets its contract. Assumes nothing.
use mathlib.Core.Path.{◌≡◌}
use Prim.Native.Nat.{ℕ, ◌≤◌, ◌<◌}
use lib.Bits.{bit_xor}
use lib.ListN.{get_or}
use Rattle.cauchy.proofs.tables.add_bytes.Given as goal

abbrev pub invariant-loop-i : goal.invariant-loop-i
invariant-loop-i l = ((k : ℕ) → l.i ≤ k → get_or l.dst k 0 ≡ get_or l.initial.dst k 0) × ((k : ℕ) → k < l.i → get_or l.dst k 0 ≡ bit_xor (get_or l.initial.dst k 0) (get_or l.src k 0))
