-- `spread` meets its contract. Assumes nothing.
use mathlib.Core.Path.{◌≡◌}
use Prim.Native.Nat.{ℕ, ◌+◌, ◌<◌}
use lib.Bits.{bit_xor}
use lib.ListN.{length, get_or}
use Rattle.cauchy.proofs.tables.spread.Given as goal

abbrev pub invariant-loop-i : goal.invariant-loop-i
invariant-loop-i l = (length l.t ≡ length l.initial.t) × ((j : ℕ) → j < l.n → get_or l.t j 0 ≡ get_or l.initial.t j 0) × ((j : ℕ) → j < l.i → get_or l.t (l.n + j) 0 ≡ bit_xor (get_or l.initial.t j 0) l.x)
