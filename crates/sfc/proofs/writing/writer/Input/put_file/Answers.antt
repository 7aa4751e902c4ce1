-- `sfc::writing::writer::Input::put_file` meets its contract, part by part. Assumes nothing.
use mathlib.Core.Path.{◌≡◌, refl}
use lib.ListN.{length}
use native.Mathlib.Omega.{arith}
use Rattle.sfc.specs.inner.Writing.{given}
use Rattle.sfc.proofs.writing.FileLaws.{file_room, long₁, region_lent, chunks_lent, shape_given, file_made}
use borrow.Author.Rules.{rules}
use Rattle.sfc.proofs.writing.writer.Input.put_file.Goals as goal

pub overflow_add-start-2 : goal.overflow_add-start-2
overflow_add-start-2 c =
    let a = c.args in
    let asked = c.requires in
    let w = given a.self.now in
    let u : length w.uuid ≡ 16 = search rules in
    let f = file_room w u asked.0 a.out.now asked.2 _ refl in search rules

pub overflow_sub-end : goal.overflow_sub-end
overflow_sub-end c =
    let a = c.args in
    let asked = c.requires in
    let w = given a.self.now in
    let u : length w.uuid ≡ 16 = search rules in
    omega (arith, file_room w u asked.0 a.out.now asked.2 _ refl)

pub slice_bounds-put_preamble-end : goal.slice_bounds-put_preamble-end
slice_bounds-put_preamble-end c =
    let a = c.args in
    let asked = c.requires in
    let w = given a.self.now in
    let u : length w.uuid ≡ 16 = search rules in
    omega (arith, file_room w u asked.0 a.out.now asked.2 _ refl)

pub slice_bounds-put_region-end : goal.slice_bounds-put_region-end
slice_bounds-put_region-end c =
    let a = c.args in
    let asked = c.requires in
    let w = given a.self.now in
    let u : length w.uuid ≡ 16 = search rules in
    omega (arith, long₁ w u asked.0 a.out.now asked.2 _ refl _ _ c.put_preamble.ensures refl, file_room w u asked.0 a.out.now asked.2 _ refl)

pub put_region-requires : goal.put_region-requires
put_region-requires c =
    let a = c.args in
    let asked = c.requires in
    let w = given a.self.now in
    let u : length w.uuid ≡ 16 = search rules in
    (asked.0, asked.1, region_lent w u asked.0 a.out.now asked.2 _ refl _ _ c.put_preamble.ensures refl _ refl)

pub slice_bounds-put_chunks-count : goal.slice_bounds-put_chunks-count
slice_bounds-put_chunks-count c =
    let a = c.args in
    let asked = c.requires in
    let w = given a.self.now in
    let u : length w.uuid ≡ 16 = search rules in
    omega (arith, file_room w u asked.0 a.out.now asked.2 _ refl)

pub slice_bounds-put_chunks-start : goal.slice_bounds-put_chunks-start
slice_bounds-put_chunks-start c =
    let a = c.args in
    let asked = c.requires in
    let w = given a.self.now in
    let u : length w.uuid ≡ 16 = search rules in
    omega (arith, file_room w u asked.0 a.out.now asked.2 _ refl)

pub put_chunks-requires : goal.put_chunks-requires
put_chunks-requires c =
    let a = c.args in
    let asked = c.requires in
    let w = given a.self.now in
    let u : length w.uuid ≡ 16 = search rules in
    (shape_given w u asked.0 a.n asked.1, chunks_lent w u asked.0 a.out.now asked.2 _ refl _ _ c.put_preamble.ensures refl _ refl _ _ c.put_region.ensures refl a.n _ _ asked.1 refl refl)

pub returns : goal.returns
returns c =
    let a = c.args in
    let asked = c.requires in
    let w = given a.self.now in
    let u : length w.uuid ≡ 16 = search rules in
    file_made w u asked.0 a.out.now asked.2 _ refl _ _ c.put_preamble.ensures refl _ refl _ _ c.put_region.ensures refl a.n _ _ asked.1 refl refl _ _ c.put_chunks.ensures refl _ _ _ refl c.hash-digest.ensures c.put_trailer.ensures
