-- `sfc::writing::parts::Plan::put_chunk` meets its contract: header, payload, and the seal over both. Assumes nothing.
use mathlib.Core.Path.{◌≡◌, refl}
use lib.ListN.{length}
use Rattle.sfc.proofs.writing.LayoutLaws.{chunk-made}
use borrow.Author.Rules.{rules}
use Rattle.sfc.proofs.writing.parts.Plan.put_chunk.Goals as goal

pub returns : goal.returns
returns c =
    let a = c.args in
    let p = a.self in
    let u : length p.uuid ≡ 16 = search rules in
    chunk-made p.uuid a.payload.now a.c.now _ _ _ p.n p.m p.s a.i _ _ c.requires u c.put_chunk_header.ensures refl refl c.copy_from_slice.ensures.after _ refl c.seal.ensures
