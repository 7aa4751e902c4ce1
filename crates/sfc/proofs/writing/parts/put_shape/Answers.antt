-- `sfc::writing::parts::put_shape` meets its contract, piece by piece. Assumes nothing.
use Rattle.sfc.proofs.writing.LayoutLaws.{shape_made}
use Rattle.sfc.proofs.writing.parts.put_shape.Goals as goal

pub returns : goal.returns
returns c =
    let a = c.args in
    let asked = c.requires in
    shape_made a.d.now _ _ _ _ _ _ a.n a.m a.s _ a.flags a.p (asked) c.write32.ensures.1 c.write32-2.ensures.1 c.write32-3.ensures.1 c.erasure_for.ensures c.copy_from_slice.ensures.after c.write16.ensures.1 c.write16-2.ensures.1
