-- `little::write` meets its contract: refused where the bytes do not lie inside, else the lent part is filled. Assumes nothing.
use mathlib.Core.Path.{refl}
use native.Mathlib.Omega.{arith}
use Rattle.little.proofs.FieldLaws.{unstored, stored-whole}
use Rattle.little.proofs.write.Goals as goal

pub returns-then-d-width : goal.returns-then-d-width
returns-then-d-width c = let a = c.args in unstored a.d.now a.at a.width a.v (omega arith)

pub returns-then-d-width-2 : goal.returns-then-d-width-2
returns-then-d-width-2 c = let a = c.args in unstored a.d.now a.at a.width a.v (omega arith)

pub returns : goal.returns
returns c =
    let a = c.args in
    stored-whole a.d.now _ a.at a.width a.v _ (omega arith) refl c.store.ensures
