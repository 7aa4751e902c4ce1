-- `sfc::writing::parts::put_trailer` meets its contract, piece by piece. Assumes nothing.
use mathlib.Core.Path.{◌≡◌}
use lib.ListN.{length}
use Rattle.sfc.proofs.writing.LayoutLaws.{trailer-made}
use borrow.Author.Rules.{rules}
use Rattle.sfc.proofs.writing.parts.put_trailer.Goals as goal

pub returns : goal.returns
returns c =
    let a = c.args in
    let asked = c.requires in
    let g : length a.digest ≡ 32 = search rules in
    trailer-made a.digest a.d.now _ _ _ _ a.time (asked) g c.copy_from_slice.ensures.after c.copy_from_slice-2.ensures.after c.write64.ensures.1 c.clear.ensures
