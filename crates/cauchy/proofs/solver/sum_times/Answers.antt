-- `sum_times` meets its contract. Assumes nothing.
use Rattle.cauchy.proofs.tables.SummedLaws.{summed_times}
use Rattle.cauchy.proofs.solver.sum_times.Goals as goal

pub returns : goal.returns
returns c =
    let a = c.args in
    summed_times a.dst.now a.one.now _ (λ p. (c.slice_known-1.given p).fits) (λ p. (c.shared_slice_known-1.given p).fits) c.add_bytes.ensures a.c _ c.requires.1 c.times.ensures
