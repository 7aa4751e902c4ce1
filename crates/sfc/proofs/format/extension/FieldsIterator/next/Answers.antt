-- `sfc::format::extension::FieldsIterator::next` meets its contract: the field at the front, or none, and then nothing changes. Assumes nothing.
use Rattle.std.proofs.Common.{◌∷◌, ◌∙◌, refl, ap, arith, length}
use Rattle.sfc.specs.format.Extension.{Field}
use Rattle.sfc.specs.inner.Fields.{fields_left}
use Rattle.sfc.proofs.format.FieldWalk.{none_there, field-there, left_there, after_long}
use Rattle.sfc.proofs.format.extension.FieldsIterator.next.Goals as goal

pub returns-in_err-field-clause-steps : goal.returns-in_err-field-clause-steps
returns-in_err-field-clause-steps c =
    let none = none_there c.args.self.now.rest.now c.in_err-field.ensures in
    rw c.from_residual.ensures (none.0, none.1, refl)

pub returns-clause-steps : goal.returns-clause-steps
returns-clause-steps c =
    let e = c.args.self.now.rest.now in
    let g = c.in_ok-field.ensures in
    let first = field-there e _ g.0 _ g.2 ∙ ap (λ (f : Field). f ∷ fields_left (record { rest = c.in_ok-field.after })) g.1 in
    (first, left_there e _ g.0 _ g.2, after_long e _ g.0 _ g.2)

pub returns-clause-goes : goal.returns-clause-goes
returns-clause-goes c =
    let g = c.in_ok-field.ensures in
    let first = field-there c.args.self.now.rest.now _ g.0 _ g.2 in
    record { on = λ finite. (tt, tt, omega (arith, ap length first)); keeps = tt; rests = λ finite. tt }
