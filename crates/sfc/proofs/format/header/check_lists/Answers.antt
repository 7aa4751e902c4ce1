-- `sfc::format::header::check_lists` meets its contract; the fields are looked at after a list that lies inside the region. Assumes nothing.
use Prim.Native.Nat.{◌+◌, ◌*◌}
use mathlib.Core.Path.{sym, ◌∙◌}
use native.Mathlib.Omega.{arith}
use Rattle.little.proofs.Laws.{part_laws}
use Rattle.sfc.proofs.format.HeaderLaws.{priority_inside, lists_fields}
use Rattle.sfc.proofs.answer.CheckLaws.{let_by}
use Rattle.sfc.proofs.format.header.check_lists.Goals as goal

pub slice_bounds-are_fields_wrong-count : goal.slice_bounds-are_fields_wrong-count
slice_bounds-are_fields_wrong-count c =
    let r = c.args.r.now in
    omega (
      arith,
      c.read16-p.ensures,
      priority_inside c.read32-n.result c.read16-p.result r
          (sym c.is_priority_wrong.ensures ∙ let_by _ c.refuse_if.ensures c.in_ok-refuse_if.was),
    )

pub slice_bounds-are_fields_wrong-start : goal.slice_bounds-are_fields_wrong-start
slice_bounds-are_fields_wrong-start c =
    let r = c.args.r.now in
    omega (
      arith,
      c.read16-p.ensures,
      priority_inside c.read32-n.result c.read16-p.result r
          (sym c.is_priority_wrong.ensures ∙ let_by _ c.refuse_if.ensures c.in_ok-refuse_if.was),
    )

pub returns : goal.returns
returns c =
    lists_fields c.args.r.now _ c.read32-n.result c.read16-p.result c.read32.result c.read16.result _ _ _ c.read32-n.ensures c.read16-p.ensures
    c.read32.ensures c.read16.ensures c.is_priority_wrong.ensures (let_by _ c.refuse_if.ensures c.in_ok-refuse_if.was)
    (part_laws.part-rest c.args.r.now (335 + 4 * c.read16-p.result)) c.are_fields_wrong-wrong.ensures c.refuse_if-2.ensures
