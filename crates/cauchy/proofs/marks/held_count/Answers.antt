-- `held_count` meets its contract. Assumes nothing.
use mathlib.Core.Path.{◌∙◌, ap}
use Prim.Native.Nat.{ℕ}
use native.Mathlib.Omega.{arith}
use lib.Dec.{eqb}
use Rattle.std.specs.List.{count_by}
use Rattle.std.proofs.lemmas.List.{take_all}
use Rattle.cauchy.proofs.marks.ListLaws.{holding-count}
use Rattle.cauchy.proofs.marks.held_count.Goals as goal

pub returns : goal.returns
returns c =
    let l = c.loop-mark in
    let marks = c.args.marks.now in
    l.invariant.1 ∙ ap (count_by (λ (mark : ℕ). eqb mark 1)) (take_all l.mark-index marks (omega (arith, c.loop-mark-test.false))) ∙ holding-count marks
