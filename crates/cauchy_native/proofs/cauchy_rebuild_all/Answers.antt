-- `cauchy_rebuild_all` hands on what `rebuild_all` promises.
use mathlib.Core.Path.{ap, ◌∙◌}
use Rattle.cauchy.specs.Calls.{Rebuilt}
use Rattle.cauchy_native.specs.Number.{number_of}
use Rattle.cauchy_native.proofs.cauchy_rebuild_all.Goals as goal

pub returns : goal.returns
returns c =
    let e = c.rebuild_all.ensures in
    let a = c.number.ensures ∙ ap (λ (r : Rebuilt). number_of r.answer) e in
    λ i. record { scratch = (e i).scratch; numbers = (e i).numbers; answer = a i }
