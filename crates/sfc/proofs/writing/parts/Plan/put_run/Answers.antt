-- `sfc::writing::parts::Plan::put_run` meets its contract. The loop's invariant: the chunks before i stand there. Assumes nothing.
use mathlib.Core.Path.{◌≡◌, refl}
use lib.ListN.{length}
use Rattle.sfc.proofs.writing.RunOfChunks.{run_end, chunk_start, chunk-turn}
use borrow.Author.Rules.{rules}
use Rattle.sfc.proofs.writing.parts.Plan.put_run.Goals as goal

pub loop-i-init : goal.loop-i-init
loop-i-init c =
    let a = c.args in
    let u : length a.self.uuid ≡ 16 = search rules in
    chunk_start a.self u a.first a.count _ a.blocks.now c.chunk_length-room.ensures c.requires.1 a.d.now c.requires.2

pub loop-i-preserved : goal.loop-i-preserved
loop-i-preserved c = chunk-turn c.args.self c.args.first c.args.blocks.now c.loop-i.invariant c.loop-i-test.true _ _ _ refl refl c.put_chunk.ensures

pub returns : goal.returns
returns c = run_end c.loop-i.invariant c.loop-i-test.false
