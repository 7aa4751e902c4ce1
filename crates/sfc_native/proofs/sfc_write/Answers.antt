-- `sfc_write` hands on what `write` promises, with the answer as a number. Assumes nothing.
use Prim.Native.Nat.{ℕ}
use mathlib.Core.Path.{◌≡◌, ap, ◌∙◌}
use mathlib.Core.List.{List}
use Rattle.sfc.specs.answer.Numbers.{Answered, answered}
use Rattle.std.specs.Prelude.{Result}
use Rattle.sfc.specs.declared.answer.reason.Reason.{Reason}
use Rattle.sfc_native.specs.Answers.{length_for, measured}
use Rattle.sfc_native.proofs.sfc_write.Goals as goal

-- the answer's number beside the output
with_number : (k : ℕ) (answer : Result ℕ Reason) (out : List ℕ) (promised : Answered (Result ℕ Reason)) → k ≡ length_for answer → answered answer out ≡ promised
    → answered k out ≡ measured promised
with_number k answer out promised e written = ap (λ (n : ℕ). answered n out) e ∙ ap measured written

pub returns : goal.returns
returns c = with_number _ _ _ _ c.length_or_number.ensures c.write.ensures
