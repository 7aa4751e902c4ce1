-- `sfc::writing::parts::Plan::put_chunk_header` meets its contract, piece by piece. Assumes nothing.
use mathlib.Core.Path.{◌≡◌, refl}
use lib.ListN.{length}
use Rattle.sfc.proofs.writing.LayoutLaws.{header_made}
use borrow.Author.Rules.{rules}
use Rattle.sfc.proofs.writing.parts.Plan.put_chunk_header.Goals as goal

pub returns : goal.returns
returns c =
    let a = c.args in
    let p = a.self in
    let u : length p.uuid ≡ 16 = search rules in
    header_made p.uuid a.d.now _ _ _ _ _ _ _ _ _ p.n p.m p.s a.i _ _ c.requires u c.copy_from_slice.ensures.after refl c.copy_from_slice-2.ensures.after c.write32.ensures.1 c.type_for.ensures c.write32-2.ensures.1 c.write32-3.ensures.1 c.erasure_for.ensures c.copy_from_slice-3.ensures.after refl c.clear.ensures
