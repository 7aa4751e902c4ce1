-- `sfc_listing::lent::LentSession::tell_stop` meets its contract: nothing is left, or what is left is offered. Assumes nothing.
use mathlib.Core.Path.{sym, ◌∙◌}
use borrow.Author.Rules.{rules}
use borrow.Author.Tests.{eqb-true}
use Rattle.sfc_listing.specs.Lent.{session_in}
use Rattle.sfc_listing.proofs.TellLaws.{stop_none, stop_some}
use Rattle.sfc_listing.proofs.lent.LentSession.tell_stop.Goals as goal

pub returns-then-is_empty-clause-told : goal.returns-then-is_empty-clause-told
returns-then-is_empty-clause-told c =
    let s = c.args.self.now in
    stop_none s.head (session_in s) c.args.rest.now c.args.from c.args.page.now (eqb-true _ 0 (sym c.is_empty.ensures ∙ c.if-is_empty.true))

pub returns-clause-told : goal.returns-clause-told
returns-clause-told c =
    let s = c.args.self.now in
    stop_some s.head (session_in s) c.args.rest.now c.args.from _ (search rules) c.tell_offer.ensures.told
