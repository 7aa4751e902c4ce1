-- `sfc_listing::lent::LentSession::tell_offer` meets its contract: the line is that of the offer's answer. Assumes nothing.
use Rattle.sfc_listing.specs.Lent.{logged_in}
use Rattle.sfc_listing.proofs.TellLaws.{offer_told, offer_beside}
use Rattle.sfc_listing.proofs.lent.LentSession.tell_offer.Goals as goal

pub returns-clause-told : goal.returns-clause-told
returns-clause-told c =
    let s = c.args.self.now in
    offer_told s.head (logged_in s) c.args.chunk.now c.args.own s.beside _ _ _ c.offer-answer.ensures c.put_verdict.ensures

-- what is beside the next chunk is as right as it was
pub invariant_of-self : goal.invariant_of-self
invariant_of-self c =
    let s = c.args.self.now in
    record { beside = offer_beside s.head (logged_in s) c.args.chunk.now s.beside _ _ _ c.offer-answer.ensures }
