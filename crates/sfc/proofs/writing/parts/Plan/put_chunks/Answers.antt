-- `sfc::writing::parts::Plan::put_chunks` meets its contract: the blocks before the last, and the last one padded. Assumes nothing.
use Prim.Native.Nat.{ℕ}
use mathlib.Core.Path.{◌≡◌, refl, sym}
use native.Mathlib.Omega.{arith}
use lib.ListN.{length, length-replicate}
use lib.Seq.{length-take-le}
use Rattle.little.specs.Runs.{zeros}
use Rattle.sfc.proofs.writing.DataLaws.{last_place, last_fits, last_inside, last_there, planned, data_made}
use Rattle.sfc.proofs.writing.parts.Plan.put_chunks.Goals as goal

zeros_long : length (zeros 4096) ≡ 4096
zeros_long = length-replicate {A = ℕ} 4096 0

pub overflow_sub-at : goal.overflow_sub-at
overflow_sub-at c = let a = c.args in (last_place a.self a.content.now c.requires.0).0

pub slice_bounds-put_padded-count : goal.slice_bounds-put_padded-count
slice_bounds-put_padded-count c = let a = c.args in (last_place a.self a.content.now c.requires.0).1

pub slice_bounds-put_padded-start : goal.slice_bounds-put_padded-start
slice_bounds-put_padded-start c = let a = c.args in (last_place a.self a.content.now c.requires.0).1

pub slice_bounds-last-end : goal.slice_bounds-last-end
slice_bounds-last-end c = let a = c.args in (last_place a.self a.content.now c.requires.0).4

pub slice_bounds-put_padded-end-2 : goal.slice_bounds-put_padded-end-2
slice_bounds-put_padded-end-2 c = let a = c.args in let p = last_place a.self a.content.now c.requires.0 in sym (length-take-le _ _ (omega (arith, p.4, zeros_long)))

pub put_padded-requires : goal.put_padded-requires
put_padded-requires c = let a = c.args in last_fits a.self a.content.now c.requires.0 _ _ refl zeros_long

pub slice_bounds-given-end : goal.slice_bounds-given-end
slice_bounds-given-end c = let a = c.args in sym (length-take-le _ a.content.now (last_place a.self a.content.now c.requires.0).1)

pub slice_bounds-last-end-2 : goal.slice_bounds-last-end-2
slice_bounds-last-end-2 c = let a = c.args in last_inside a.self a.content.now c.requires.0 _ _ _ refl zeros_long c.put_padded.ensures

pub slice_bounds-given-end-2 : goal.slice_bounds-given-end-2
slice_bounds-given-end-2 c = let a = c.args in sym (last_there a.self a.content.now c.requires.0 _ _ _ refl zeros_long c.put_padded.ensures)

pub put_all_chunks-requires : goal.put_all_chunks-requires
put_all_chunks-requires c = let a = c.args in (planned a.self a.content.now c.requires.0 _ _ _ refl zeros_long c.put_padded.ensures _ refl refl, c.requires.1)

pub returns : goal.returns
returns c = let a = c.args in data_made a.self a.content.now c.requires.0 _ _ _ refl zeros_long c.put_padded.ensures _ c.put_all_chunks.ensures
