-- `sfc_release` hands on the number of a refused header, and else what `release` promises for the header that was read. Assumes nothing.
use Prim.Native.Nat.{ℕ}
use mathlib.Core.Path.{◌≡◌, ap, ◌∙◌}
use Rattle.sfc.specs.give.Turns.{Releasing, release}
use Rattle.sfc.specs.declared.format.header.Head.{Head}
use Rattle.sfc_native.specs.Answers.{release_number, outcome, release_outcome}
use Rattle.sfc_native.proofs.HeaderLaws.{refused_header_lem, good_header}
use Rattle.sfc_native.proofs.sfc_release.Goals as goal

-- the answer's number beside what is left
with_number : (k : ℕ) (z w : Releasing) → k ≡ release_number z.answer → z ≡ w → outcome k z.finished z.scratch z.output ≡ release_outcome w
with_number k z w e p = ap (λ (n : ℕ). outcome n z.finished z.scratch z.output) e ∙ ap release_outcome p

pub returns-in-Err : goal.returns-in-Err
returns-in-Err c =
    let a = c.args in
    refused_header_lem a.file.now _ c.read_header-read.ensures a.finished.now a.scratch.now a.out.now
    (λ (h : Head). release_outcome (release h a.store.now a.marks.now a.scratch.now a.finished.now a.out.now)) _ _ c.from.ensures c.in-Err.is

pub returns-in-Ok : goal.returns-in-Ok
returns-in-Ok c =
    let a = c.args in
    good_header a.file.now _ c.read_header-read.ensures a.finished.now a.scratch.now a.out.now
    (λ (h : Head). release_outcome (release h a.store.now a.marks.now a.scratch.now a.finished.now a.out.now)) _ _ c.in-Ok.is
    (with_number _ _ _ c.answer_number.ensures c.release-released.ensures)
