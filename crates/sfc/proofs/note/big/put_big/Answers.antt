-- `sfc::note::big::put_big` meets its contract: the lent part comes back filled. Assumes nothing.
use mathlib.Core.Path.{refl}
use Rattle.sfc.proofs.note.BigLaws.{put-filled}
use Rattle.sfc.proofs.note.big.put_big.Goals as goal

pub returns : goal.returns
returns c =
    let a = c.args in
    put-filled a.out.now _ a.at a.width a.v _ c.requires refl c.fill_big.ensures
