-- `blake3::running::Running::settle` meets its contract. Assumes nothing.
use Rattle.std.proofs.Common.{◌∙◌, sym}
use Rattle.blake3.proofs.FeedLaws.{settled_full, settled-not}
use Rattle.blake3.proofs.running.Running.settle.Goals as goal

pub returns-then-is_full-clause-stack : goal.returns-then-is_full-clause-stack
returns-then-is_full-clause-stack c = let r = c.args.self.now in settled_full r.fed r.piece r.stack (sym c.is_full.ensures ∙ c.if-is_full.true) c.piece.ensures c.push.ensures

pub returns-else-is_full-clause-stack : goal.returns-else-is_full-clause-stack
returns-else-is_full-clause-stack c = let r = c.args.self.now in settled-not r.fed r.piece r.stack (sym c.is_full.ensures ∙ c.if-is_full.false)
