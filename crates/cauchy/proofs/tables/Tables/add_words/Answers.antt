-- `add_words` meets its contract. Assumes nothing.
use native.Mathlib.Omega.{arith}
use Rattle.cauchy.proofs.tables.WordLaws.{added_all}
use Rattle.cauchy.proofs.tables.Tables.add_words.Goals as goal

pub returns : goal.returns
returns c x y z u hx hy hz hu t =
    let a = c.args in
    let first = c.add_eights.ensures in
    added_all x y z u _ a.self.now.low a.self.now.high a.src.now a.acc.now _ hx hy hz hu t (λ p. (c.shared_slice_known-1.given p).fits) (omega (arith, first.size))
    (c.add_rest.ensures a.acc.now first)
