-- `sfc::writing::parts::Plan::put_all_chunks` meets its contract: the data chunks, the last of them, the recovery chunks. Assumes nothing.
use mathlib.Core.Path.{◌≡◌, refl}
use lib.ListN.{length}
use native.Mathlib.Omega.{arith}
use Rattle.sfc.proofs.writing.RunOfChunks.{run_length, all_room, all_first, all_left, all_made}
use borrow.Author.Rules.{rules}
use Rattle.sfc.proofs.writing.parts.Plan.put_all_chunks.Goals as goal

pub overflow_sub-before_last : goal.overflow_sub-before_last
overflow_sub-before_last c =
    let a = c.args in
    let u : length a.self.uuid ≡ 16 = search rules in
    (all_room a.self u a.given.now c.requires.0 _ c.chunk_length-room.ensures a.d.now c.requires.1).0

pub slice_bounds-put_chunk-end : goal.slice_bounds-put_chunk-end
slice_bounds-put_chunk-end c =
    let a = c.args in
    let u : length a.self.uuid ≡ 16 = search rules in
    let e = c.chunk_length-room.ensures in
    omega (arith, all_room a.self u a.given.now c.requires.0 _ e a.d.now c.requires.1, run_length (all_first a.self u a.given.now c.requires.0 _ e a.d.now c.requires.1 _ _ c.put_run.ensures refl))

pub put_recovery_chunks-requires : goal.put_recovery_chunks-requires
put_recovery_chunks-requires c =
    let a = c.args in
    let u : length a.self.uuid ≡ 16 = search rules in
    (c.requires.0, all_left a.self u a.given.now c.requires.0 _ c.chunk_length-room.ensures a.d.now c.requires.1 _ _ c.put_run.ensures refl _ _ _ refl c.put_chunk.ensures refl _ refl)

pub returns : goal.returns
returns c =
    let a = c.args in
    let u : length a.self.uuid ≡ 16 = search rules in
    all_made a.self u a.given.now c.requires.0 _ c.chunk_length-room.ensures a.d.now c.requires.1 _ _ c.put_run.ensures refl _ _ _ refl c.put_chunk.ensures refl _ _ refl c.put_recovery_chunks.ensures
