-- `sfc::writing::writer::Input::put_region` meets its contract, piece by piece. Assumes nothing.
use mathlib.Core.Path.{◌≡◌, refl}
use lib.ListN.{length}
use native.Mathlib.Omega.{arith}
use Rattle.sfc.specs.inner.Writing.{given}
use Rattle.sfc.proofs.writing.FileLaws.{region_long, region_small, region₁, identity_lent, region₂, region₃, region₄, fields_lent, region-made}
use borrow.Author.Rules.{rules}
use Rattle.sfc.proofs.writing.writer.Input.put_region.Goals as goal

pub overflow_sub-h : goal.overflow_sub-h
overflow_sub-h c =
    let a = c.args in
    let asked = c.requires in
    let w = given a.self.now in
    let u : length w.uuid ≡ 16 = search rules in
    omega (arith, region_long w u asked.0 a.r.now asked.2)

pub overflow_cast-h : goal.overflow_cast-h
overflow_cast-h c =
    let a = c.args in
    let asked = c.requires in
    let w = given a.self.now in
    let u : length w.uuid ≡ 16 = search rules in
    omega (arith, (region_small w u asked.0 a.r.now asked.2).0)

pub slice_bounds-put_identity-end : goal.slice_bounds-put_identity-end
slice_bounds-put_identity-end c =
    let a = c.args in
    let asked = c.requires in
    let w = given a.self.now in
    let u : length w.uuid ≡ 16 = search rules in
    omega (arith, region₁ w u asked.0 a.r.now asked.2 _ _ refl c.write32.ensures.1, region_long w u asked.0 a.r.now asked.2)

pub put_identity-requires : goal.put_identity-requires
put_identity-requires c =
    let a = c.args in
    let asked = c.requires in
    let w = given a.self.now in
    let u : length w.uuid ≡ 16 = search rules in
    (identity_lent w u asked.0 a.r.now asked.2 _ _ refl c.write32.ensures.1, (region_small w u asked.0 a.r.now asked.2).2)

pub overflow_cast-count : goal.overflow_cast-count
overflow_cast-count c =
    let a = c.args in
    let asked = c.requires in
    let w = given a.self.now in
    let u : length w.uuid ≡ 16 = search rules in
    omega (arith, (region_small w u asked.0 a.r.now asked.2).1)

pub slice_bounds-put_shape-end : goal.slice_bounds-put_shape-end
slice_bounds-put_shape-end c =
    let a = c.args in
    let asked = c.requires in
    let w = given a.self.now in
    let u : length w.uuid ≡ 16 = search rules in
    omega (arith, region₂ w u asked.0 a.r.now asked.2 _ _ refl c.write32.ensures.1 _ _ _ c.hash-digest.ensures c.put_identity.ensures refl, region_long w u asked.0 a.r.now asked.2)

pub slice_bounds-put_indices-end : goal.slice_bounds-put_indices-end
slice_bounds-put_indices-end c =
    let a = c.args in
    let asked = c.requires in
    let w = given a.self.now in
    let u : length w.uuid ≡ 16 = search rules in
    omega (arith, region₃ w u asked.0 a.r.now asked.2 _ _ refl c.write32.ensures.1 _ _ _ c.hash-digest.ensures c.put_identity.ensures refl a.n asked.1 _ _ c.put_shape.ensures refl, region_long w u asked.0 a.r.now asked.2)

pub slice_bounds-copy_from_slice-count : goal.slice_bounds-copy_from_slice-count
slice_bounds-copy_from_slice-count c =
    let a = c.args in
    let asked = c.requires in
    let w = given a.self.now in
    let u : length w.uuid ≡ 16 = search rules in
    omega (arith, region₄ w u asked.0 a.r.now asked.2 _ _ refl c.write32.ensures.1 _ _ _ c.hash-digest.ensures c.put_identity.ensures refl a.n asked.1 _ _ c.put_shape.ensures refl _ _ refl refl _ _ c.put_indices.ensures refl, region_long w u asked.0 a.r.now asked.2)

pub slice_bounds-copy_from_slice-start : goal.slice_bounds-copy_from_slice-start
slice_bounds-copy_from_slice-start c =
    let a = c.args in
    let asked = c.requires in
    let w = given a.self.now in
    let u : length w.uuid ≡ 16 = search rules in
    omega (arith, region₄ w u asked.0 a.r.now asked.2 _ _ refl c.write32.ensures.1 _ _ _ c.hash-digest.ensures c.put_identity.ensures refl a.n asked.1 _ _ c.put_shape.ensures refl _ _ refl refl _ _ c.put_indices.ensures refl, region_long w u asked.0 a.r.now asked.2)

pub copy_from_slice-requires : goal.copy_from_slice-requires
copy_from_slice-requires c =
    let a = c.args in
    let asked = c.requires in
    let w = given a.self.now in
    let u : length w.uuid ≡ 16 = search rules in
    fields_lent w u asked.0 a.r.now asked.2 _ _ refl c.write32.ensures.1 _ _ _ c.hash-digest.ensures c.put_identity.ensures refl a.n asked.1 _ _ c.put_shape.ensures refl _ _ refl refl _ _ c.put_indices.ensures refl _ refl

pub returns : goal.returns
returns c =
    let a = c.args in
    let asked = c.requires in
    let w = given a.self.now in
    let u : length w.uuid ≡ 16 = search rules in
    region-made w u asked.0 a.r.now asked.2 _ _ refl c.write32.ensures.1 _ _ _ c.hash-digest.ensures c.put_identity.ensures refl a.n asked.1 _ _ c.put_shape.ensures refl _ _ refl refl _ _ c.put_indices.ensures refl _ _ refl c.copy_from_slice.ensures.after
