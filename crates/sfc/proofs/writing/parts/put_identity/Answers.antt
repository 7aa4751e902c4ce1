-- `sfc::writing::parts::put_identity` meets its contract, piece by piece. Assumes nothing.
use mathlib.Core.Path.{◌≡◌}
use lib.ListN.{length}
use Rattle.sfc.proofs.writing.LayoutLaws.{identity_made}
use borrow.Author.Rules.{rules}
use Rattle.sfc.proofs.writing.parts.put_identity.Goals as goal

pub returns : goal.returns
returns c =
    let a = c.args in
    let asked = c.requires in
    let u : length a.uuid ≡ 16 = search rules in
    let g : length a.digest ≡ 32 = search rules in
    identity_made a.uuid a.name.now a.digest a.d.now _ _ _ _ _ a.size a.format asked.0 u g asked.1 c.copy_from_slice.ensures.after c.write64.ensures.1 c.write16.ensures.1 c.put_padded.ensures c.copy_from_slice-2.ensures.after
