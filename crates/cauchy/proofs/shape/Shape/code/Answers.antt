-- `code` meets its contract. Assumes nothing.
use mathlib.Core.Path.{sym, ◌∙◌}
use Rattle.cauchy.proofs.shape.ShapeLaws.{right}
use Rattle.cauchy.proofs.shape.Shape.code.Goals as goal

pub invariant_of-result : goal.invariant_of-result
invariant_of-result c =
    let r = right c.args.self.n c.args.self.m c.args.self.s (sym c.is_wrong.ensures ∙ c.if-is_wrong.false) in
    record { n_least = r.n_least; n_most = r.n_most; m_most = r.m_most; s_least = r.s_least; s_most = r.s_most; even = r.even }
