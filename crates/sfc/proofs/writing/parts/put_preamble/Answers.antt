-- `sfc::writing::parts::put_preamble` meets its contract, piece by piece. Assumes nothing.
use Rattle.sfc.proofs.writing.LayoutLaws.{preamble-made}
use Rattle.sfc.proofs.writing.parts.put_preamble.Goals as goal

pub returns : goal.returns
returns c =
    let a = c.args in
    let asked = c.requires in
    preamble-made a.d.now _ _ _ (asked) c.copy_from_slice.ensures.after c.write16.ensures.1 c.write16-2.ensures.1
