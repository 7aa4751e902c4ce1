-- `sfc::session::offer::spot_of` meets its contract, verdict by verdict. Assumes nothing.
use Rattle.sfc.specs.session.Session.{spot_of}
use Rattle.sfc.proofs.session.offer.spot_of.Goals as goal

pub spot_for-requires : goal.spot_for-requires
spot_for-requires c = c.requires _ c.in-Refused.is

pub returns-in-Fresh : goal.returns-in-Fresh
unfolding spot_of
returns-in-Fresh c = rw c.in-Fresh.is

pub returns-in-Repeat : goal.returns-in-Repeat
unfolding spot_of
returns-in-Repeat c = rw c.in-Repeat.is

pub returns-in-Refused : goal.returns-in-Refused
unfolding spot_of
returns-in-Refused c = rw c.in-Refused.is c.spot_for.ensures
