-- `sfc::format::header::read_header` meets its contract: the start, then region and trailer as parts of the input. Assumes nothing.
use mathlib.Core.Path.{refl}
use native.Mathlib.Omega.{arith}
use Rattle.sfc.proofs.format.HeaderLaws.{start_there, read_refused, read_on, region_long}
use Rattle.sfc.proofs.answer.CheckLaws.{passed_on}
use Rattle.sfc.proofs.format.header.read_header.Goals as goal

pub overflow_sub-trailer : goal.overflow_sub-trailer
overflow_sub-trailer c =
    let b = c.args.input.now in
    let p = start_there b _ c.check_start.ensures c.in_ok-check_start.was in
    omega (arith, c.read32.ensures)

pub slice_bounds-read_region-end : goal.slice_bounds-read_region-end
slice_bounds-read_region-end c =
    let b = c.args.input.now in
    let p = start_there b _ c.check_start.ensures c.in_ok-check_start.was in
    omega (arith, c.read32.ensures)

pub read_region-requires : goal.read_region-requires
read_region-requires c =
    let b = c.args.input.now in
    let p = start_there b _ c.check_start.ensures c.in_ok-check_start.was in
    region_long b c.read32.result c.read32.ensures p.0 p.1

pub returns-in_err-check_start : goal.returns-in_err-check_start
returns-in_err-check_start c =
    read_refused c.args.input.now _ _ _ c.check_start.ensures c.in_err-check_start.was (passed_on _ _ c.from_residual.ensures.1)

pub returns : goal.returns
returns c =
    read_on c.args.input.now _ _ c.read32.result _ _ c.check_start.ensures c.in_ok-check_start.was
    c.read32.ensures refl refl c.read_region.ensures
