-- `put_sides` meets its contract. Assumes nothing.
use mathlib.Core.Path.{◌≡◌}
use Prim.Native.Nat.{◌%◌, ◌<◌}
use lib.ListN.{length}
use Rattle.cauchy.proofs.sides.SideLaws.{SumsAt, Sided}
use Rattle.cauchy.proofs.sides.Damaged.put_sides.Given as goal

abbrev pub invariant-loop-i : goal.invariant-loop-i
invariant-loop-i l =
    let d = l.self in
    (length l.acc ≡ d.range.count) × (0 < l.i % 4 → SumsAt d.code.n d.code.m d.code.s d.range.first d.range.count d.marks.now d.rows.now d.store.now l.i l.acc)
    × Sided d.code.n d.code.m d.code.s d.range.first d.range.count d.marks.now d.rows.now d.store.now l.initial.scratch l.i l.scratch
