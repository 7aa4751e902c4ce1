-- `sfc::format::lookup::find_field` meets its contract: the header first, then the part of the input that has its fields. Assumes nothing.
use mathlib.Core.Path.{refl, ◌∙◌}
use native.Mathlib.Omega.{arith}
use Rattle.sfc.proofs.format.LookupLaws.{inside, part_low, refused_field, shown_field}
use Rattle.sfc.proofs.answer.CheckLaws.{passed_on}
use Rattle.sfc.proofs.format.lookup.find_field.Goals as goal

pub slice_bounds-find_in-count : goal.slice_bounds-find_in-count
slice_bounds-find_in-count c = omega (arith, (inside c.args.input.now c.args.tag c.read_header.result c.read_header.ensures c.in_ok-head.head c.in_ok-head.was).list_ends)

pub slice_bounds-find_in-start : goal.slice_bounds-find_in-start
slice_bounds-find_in-start c = omega (arith, (inside c.args.input.now c.args.tag c.read_header.result c.read_header.ensures c.in_ok-head.head c.in_ok-head.was).list_ends)

pub slice_bounds-find_in-end : goal.slice_bounds-find_in-end
slice_bounds-find_in-end c = omega (arith, (inside c.args.input.now c.args.tag c.read_header.result c.read_header.ensures c.in_ok-head.head c.in_ok-head.was).trailer_room)

pub find_in-requires : goal.find_in-requires
find_in-requires c = part_low c.args.input.now c.in_ok-head.head.header_length c.in_ok-head.head.priorities (inside c.args.input.now c.args.tag c.read_header.result c.read_header.ensures c.in_ok-head.head c.in_ok-head.was)

pub returns-in_err-head : goal.returns-in_err-head
returns-in_err-head c = passed_on _ _ c.from_residual.ensures.1 ∙ refused_field c.args.input.now c.args.tag c.read_header.result c.read_header.ensures _ c.in_err-head.was

pub returns : goal.returns
returns c = shown_field c.args.input.now c.args.tag c.read_header.result c.read_header.ensures c.in_ok-head.head c.in_ok-head.was _ _ _ refl refl c.find_in.ensures
