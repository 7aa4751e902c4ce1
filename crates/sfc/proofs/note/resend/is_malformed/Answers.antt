-- `sfc::note::resend::is_malformed` meets its contract: the lengths and the version, then the pairs. Assumes nothing.
use Rattle.sfc.proofs.note.NoteLaws.{judged_bad, judged}
use Rattle.sfc.proofs.note.resend.is_malformed.Goals as goal

pub returns-then-length-told : goal.returns-then-length-told
returns-then-length-told c =
    let a = c.args in
    judged_bad a.note.now _ c.read_big-count.ensures (rw (c.read_big.ensures, c.byte_at-version.ensures) at c.if-length-told.true)

pub returns : goal.returns
returns c =
    let a = c.args in
    judged a.note.now _ _ c.read_big-count.ensures (rw (c.read_big.ensures, c.byte_at-version.ensures) at c.if-length-told.false) c.is_maximal.ensures
