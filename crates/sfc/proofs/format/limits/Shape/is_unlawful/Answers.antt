-- `sfc::format::limits::Shape::is_unlawful` meets its contract; blocks of no bytes are unlawful at once. Assumes nothing.
use Rattle.sfc.specs.format.Limits.{unlawful}
use Rattle.sfc.proofs.format.LimitLaws.{empty_unlawful}
use Rattle.sfc.proofs.format.limits.Shape.is_unlawful.Goals as goal

pub returns-then-s-eq0 : goal.returns-then-s-eq0
returns-then-s-eq0 c = let a = c.args.self in empty_unlawful a.size a.n a.m a.s c.if-s-eq0.true

pub returns : goal.returns
unfolding unlawful
returns c = simp c.wanted_blocks.ensures
