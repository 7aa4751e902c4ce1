-- `rebuild_all` meets its contract. Assumes nothing.
use mathlib.Core.Path.{◌∙◌}
use Rattle.cauchy.proofs.decoding.Decoded.{all_is}
use Rattle.cauchy.proofs.rebuild_all.Goals as goal

pub returns : goal.returns
returns c =
    let a = c.args in
    c.rebuild.ensures ∙ all_is a.shape.n a.shape.m a.shape.s a.marks.now a.store.now a.scratch.now a.numbers.now
