-- `sfc::session::tallies::is_full` meets its contract: the sum of all tallies. Assumes nothing.
use Rattle.sfc.specs.session.Tallies.{tally_full}
use Rattle.sfc.proofs.session.tallies.is_full.Goals as goal

pub returns : goal.returns
unfolding tally_full
returns c = simp c.sum_of.ensures.0
