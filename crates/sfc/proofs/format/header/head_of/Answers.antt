-- `sfc::format::header::head_of` meets its contract, field by field. Assumes nothing.
use Prim.Native.Nat.{ℕ, ◌+◌, ◌-◌, ◌≤◌}
use mathlib.Core.Path.{refl, sym, ap, ◌∙◌}
use native.Mathlib.Omega.{arith}
use lib.ListN.{drop}
use lib.Seq.{length-take-le}
use mathlib.Core.List.{List, ◌++◌}
use Rattle.little.specs.Runs.{zeros}
use Rattle.little.specs.Parts.{part}
use Rattle.little.proofs.Laws.{part_laws}
use Rattle.sfc.proofs.format.TextLaws.{name_fits}
use Rattle.sfc.proofs.format.HeaderLaws.{name_copied}
use Rattle.sfc.proofs.format.header.head_of.Goals as goal
use Rattle.sfc.proofs.format.header.head_of.Goals.{After-name_length-length}

pub overflow_add-end : goal.overflow_add-end
overflow_add-end c =
    let r = c.args.r.now in
    omega (arith, c.name_length-length.ensures, name_fits (part r 30 255), part_laws.length_part r 30 255 (omega (arith, c.requires)), c.requires)

-- the name is no longer than its field
fits : (c : After-name_length-length) → c.name_length-length.result ≤ 255
fits c =
    let r = c.args.r.now in
    omega (arith, c.name_length-length.ensures, name_fits (part r 30 255), part_laws.length_part r 30 255 (omega (arith, c.requires)))

pub slice_bounds-name-end : goal.slice_bounds-name-end
slice_bounds-name-end c = fits c

pub slice_bounds-copy_from_slice-end-5 : goal.slice_bounds-copy_from_slice-end-5
slice_bounds-copy_from_slice-end-5 c = sym (length-take-le _ _ (fits (goal.at.slice_bounds-copy_from_slice-end-5 c).After-name_length-length))

pub slice_bounds-copy_from_slice-end-6 : goal.slice_bounds-copy_from_slice-end-6
slice_bounds-copy_from_slice-end-6 c = omega (arith, fits (goal.at.slice_bounds-copy_from_slice-end-6 c).After-name_length-length, c.requires)

pub copy_from_slice-requires-3 : goal.copy_from_slice-requires-3
copy_from_slice-requires-3 c =
    let r = c.args.r.now in
    let k = fits (goal.at.copy_from_slice-requires-3 c).After-name_length-length in
    omega (arith, length-take-le c.name_length-length.result (zeros 255) k, part_laws.length_part r 30 (30 + c.name_length-length.result - 30) (omega (arith, c.requires)))

pub overflow_cast-result : goal.overflow_cast-result
overflow_cast-result c =
    let r = c.args.r.now in
    omega (arith, c.name_length-length.ensures, name_fits (part r 30 255), part_laws.length_part r 30 255 (omega (arith, c.requires)), c.requires)

pub returns : goal.returns
returns c =
    let r = c.args.r.now in
    let p = c.requires in
    let name = name_copied r _ _ (omega arith) c.name_length-length.ensures refl in
    λ i. record {
      header_length = c.read32.ensures i;
      uuid = c.copy_from_slice.ensures.after i;
      size = c.read64.ensures i;
      format = c.read16.ensures i;
      name = (ap (λ (u : List ℕ). u ++ drop c.name_length-length.result (zeros 255)) c.copy_from_slice-3.ensures.after ∙ name) i;
      name_length = c.name_length-length.ensures i;
      hash = c.copy_from_slice-2.ensures.after i;
      n = c.read32-2.ensures i;
      m = c.read32-3.ensures i;
      s = c.read32-4.ensures i;
      erasure = c.byte_at.ensures i;
      compression = c.byte_at-2.ensures i;
      flags = c.read16-2.ensures i;
      priorities = c.read16-3.ensures i;
    }
