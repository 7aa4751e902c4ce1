-- `sfc::note::resend::read_note` meets its contract: malformed, or no room, or its UUID and pairs. Assumes nothing.
use mathlib.Core.Path.{sym, ◌∙◌}
use native.Mathlib.Omega.{arith}
use borrow.Author.Tests.{ltb-true, ltb-false}
use Rattle.sfc.proofs.answer.CheckLaws.{refuses, let_by}
use Rattle.sfc.proofs.note.NoteLaws.{note_long, read_bad, read_short, read_good}
use Rattle.sfc.proofs.note.resend.read_note.Goals as goal

pub returns-in_err-refuse_if : goal.returns-in_err-refuse_if
returns-in_err-refuse_if c =
    let t = refuses c.refuse_if.ensures c.in_err-refuse_if.was c.from_residual.ensures.1 in
    read_bad c.args.note.now _ _ (sym c.is_malformed.ensures ∙ t.0) t.1

pub returns-in_err-refuse_if-2 : goal.returns-in_err-refuse_if-2
returns-in_err-refuse_if-2 c =
    let f = let_by _ c.refuse_if.ensures c.in_ok-refuse_if.was in
    let t = refuses c.refuse_if-2.ensures c.in_err-refuse_if-2.was c.from_residual-in_err-refuse_if-2.ensures.1 in
    read_short c.args.note.now _ _ _ (sym c.is_malformed.ensures ∙ f) c.read_big-count.ensures (ltb-true _ _ t.0) t.1

pub uuid_of-requires : goal.uuid_of-requires
uuid_of-requires c =
    omega (arith, note_long _ (sym c.is_malformed.ensures ∙ let_by _ c.refuse_if.ensures c.in_ok-refuse_if.was))

pub returns : goal.returns
returns c =
    let f = let_by _ c.refuse_if.ensures c.in_ok-refuse_if.was in
    let g = let_by _ c.refuse_if-2.ensures c.in_ok-refuse_if-2.was in
    read_good c.args.note.now _ _ _ _ (sym c.is_malformed.ensures ∙ f) c.read_big-count.ensures (ltb-false _ _ g) c.uuid_of.ensures c.put_bounds.ensures
