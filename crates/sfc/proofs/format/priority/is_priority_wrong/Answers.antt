-- `sfc::format::priority::is_priority_wrong` meets its contract; a list longer than n is wrong at once. Assumes nothing.
use Rattle.std.proofs.Common.{◌≤◌, ◌+◌, ◌*◌, ◌∙◌, refl, ap, not, length}
use borrow.Author.Tests.{ltb-false}
use Rattle.little.proofs.Laws.{test_laws}
use Rattle.sfc.specs.format.Header.{distinct_below, priority_wrong}
use Rattle.sfc.proofs.format.ListLaws.{stored}
use Rattle.sfc.proofs.format.priority.is_priority_wrong.Goals as goal

pub returns-then-n-p : goal.returns-then-n-p
unfolding priority_wrong
returns-then-n-p c = rw c.if-n-p.true refl

pub returns : goal.returns
unfolding priority_wrong
returns c =
    let a = c.args in
    let room : 335 + 4 * a.p ≤ length a.r.now = ltb-false (length a.r.now) (335 + 4 * a.p) (test_laws.or-false _ _ c.if-n-p.false).1 in
    rw c.if-n-p.false (ap not (c.is_distinct_below.ensures ∙ ap (distinct_below a.n) (stored a.r.now 335 _ a.p refl room)))
