-- `lay_sides` meets its contract. Assumes nothing.
use Rattle.cauchy.proofs.marks.ListLaws.{all-missing}
use Rattle.cauchy.proofs.sides.Damaged.lay_sides.Goals as goal

pub returns-then-self : goal.returns-then-self
returns-then-self c =
    let d = c.args.self.now in
    c.copy_sides.ensures d.marks.now (all-missing d.code.n d.code.m d.e d.marks.now d.marks_long d.each c.if-self.true)
