-- `sfc_listing::session::list_session` meets its contract: the lines before the walk, those of the walk, and the end. Assumes nothing.
use Rattle.sfc_listing.specs.Lent.{on_desk}
use Rattle.sfc_listing.proofs.ReportLaws.{ready_walked, session_put}
use Rattle.sfc_listing.proofs.session.list_session.Goals as goal

pub report-requires-clause-lent : goal.report-requires-clause-lent
report-requires-clause-lent c =
    let a = c.args in
    let o = c.tell_offers.ensures in
    (ready_walked a.h (on_desk a.desk) c.requires.ready a.chunks.now _ _ o.told.store-left o.told.marks-left _ o.memory.scratch_long).1

pub returns : goal.returns
returns c =
    let a = c.args in
    session_put a.h (on_desk a.desk) c.requires.ready a.chunks.now a.from c.requires.room c.put_head.ensures c.tell_offers.ensures.told c.report.ensures
