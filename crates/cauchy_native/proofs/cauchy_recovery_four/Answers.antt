-- `cauchy_recovery_four` hands on what `recovery` promises.
use mathlib.Core.Path.{ap, ◌∙◌}
use Rattle.cauchy.specs.Calls.{Recovered}
use Rattle.cauchy_native.specs.Number.{number_of}
use Rattle.cauchy_native.proofs.cauchy_recovery_four.Goals as goal

pub returns : goal.returns
returns c =
    let e = c.recovery_four.ensures in
    let a = c.number.ensures ∙ ap (λ (r : Recovered). number_of r.answer) e in
    λ i. record { out = (e i).out; answer = a i }
