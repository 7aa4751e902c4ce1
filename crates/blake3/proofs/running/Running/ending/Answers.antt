-- `blake3::running::Running::ending` meets its contract. Assumes nothing.
use Rattle.blake3.proofs.FeedLaws.{ending-made}
use Rattle.blake3.proofs.running.Running.ending.Goals as goal

pub returns : goal.returns
returns c =
    let r = c.args.self.now in
    ending-made r.fed c.pieces_done-t.result r.piece r.stack c.pieces_done-t.ensures c.extent.ensures c.piece-cv.ensures c.close.ensures
