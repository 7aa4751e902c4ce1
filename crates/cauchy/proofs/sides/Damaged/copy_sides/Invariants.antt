-- `copy_sides` meets its contract. Assumes nothing.
use mathlib.Core.List.{List}
use Prim.Native.Nat.{ℕ, ◌<◌}
use Rattle.cauchy.specs.Code.{Held}
use Rattle.cauchy.proofs.sides.SideLaws.{Sided}
use Rattle.cauchy.proofs.sides.Damaged.copy_sides.Given as goal

abbrev pub invariant-loop-i : goal.invariant-loop-i
invariant-loop-i l =
    let d = l.self in
    (marks : List ℕ) → ((j : ℕ) → j < d.code.n → Held marks j → ⊥) → Sided d.code.n d.code.m d.code.s d.range.first d.range.count marks d.rows.now d.store.now l.initial.scratch l.i l.scratch
