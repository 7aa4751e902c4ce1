-- `sfc::writing::parts::seal` meets its contract: the hash, and the end marker after it. Assumes nothing.
use mathlib.Core.Path.{◌≡◌, refl}
use lib.ListN.{length}
use Rattle.sfc.proofs.writing.LayoutLaws.{seal_made}
use borrow.Author.Rules.{rules}
use Rattle.sfc.proofs.writing.parts.seal.Goals as goal

pub returns : goal.returns
returns c =
    let a = c.args in
    let asked = c.requires in
    let g : length c.hash-digest.result ≡ 32 = search rules in
    seal_made a.c.now _ _ _ _ _ _ _ (asked) refl refl g c.hash-digest.ensures refl c.copy_from_slice.ensures.after refl c.copy_from_slice-2.ensures.after
