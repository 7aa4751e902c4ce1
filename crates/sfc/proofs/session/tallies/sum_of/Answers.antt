-- `sfc::session::tallies::sum_of` meets its contract: a sum, in the words of the library, of 13 numbers below 2^32. Assumes nothing.
use Rattle.std.proofs.Common.{◌≡◌, ◌≤◌, ◌∙◌, rules, arith, length}
use Rattle.std.proofs.iter.runs.Sources.{sums}
use Rattle.std.proofs.lemmas.List.Sums.{sum_by-le}
use Rattle.std.specs.List.{sum as std_sum, All}
use Rattle.sfc.proofs.session.TallyLaws.{summed}
use Rattle.sfc.proofs.session.tallies.sum_of.Goals as goal

pub sum-requires-clause-fits : goal.sum-requires-clause-fits
sum-requires-clause-fits c = search (rules, sums)

pub returns : goal.returns
returns c =
    let a = c.args in
    let e : c.sum.result ≡ std_sum a.counts = search rules in
    let n : length a.counts ≡ 13 = search rules in
    let f : All (λ (x : _). x ≤ 4294967295) a.counts = search rules in
    (e ∙ summed a.counts, omega (arith, e, n, sum_by-le (λ x. x) 4294967295 a.counts f))
