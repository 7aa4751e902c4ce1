-- `sfc::format::extension::next_field` meets its contract, by lengths. Assumes nothing.
use Rattle.sfc.proofs.format.FieldWalk.{short_front, short_value, field_given}
use Rattle.sfc.proofs.format.extension.next_field.Goals as goal

pub returns-in_err-front : goal.returns-in_err-front
returns-in_err-front c = rw c.from_residual.ensures (short_front c.args.e.now c.in_err-front.ensures.cases)

pub returns-in_err-value : goal.returns-in_err-value
returns-in_err-value c =
    let front = c.in_ok-front.ensures.cases in
    rw c.from_residual-in_err-value.ensures (short_value c.args.e.now _ _ _ front.0 front.1 front.2 c.read32-length.ensures c.in_err-value.ensures.cases)

pub returns : goal.returns
returns c =
    let front = c.in_ok-front.ensures.cases in
    let value = c.in_ok-value.ensures.cases in
    field_given c.args.e.now _ _ _ front.0 front.1 front.2 c.read32-length.ensures _ _ _ value.0 value.1 value.2 c.read16-tag.ensures
