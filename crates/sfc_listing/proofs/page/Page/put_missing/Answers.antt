-- `sfc_listing::page::Page::put_missing` meets its contract. The loop's invariant: the lines of the ranges that are left are still
-- to come. Assumes nothing.
use Prim.Native.Nat.{◌+◌, ◌*◌, ◌/◌}
use mathlib.Core.Path.{◌≡◌, ap, ◌∙◌}
use mathlib.Core.List.{[]}
use lib.ListN.{length}
use native.Mathlib.Omega.{arith}
use Rattle.sfc_listing.specs.Lines.{bounds_lines}
use Rattle.sfc_listing.proofs.PageLaws.{putting_next, putting_end, pairs_lines, pairs_are, pairs_drop, pairs_end}
use Rattle.sfc_listing.proofs.page.Page.put_missing.Goals as goal

pub loop-range-preserved : goal.loop-range-preserved
loop-range-preserved c =
    let l = c.loop-range in
    let rs = c.as_chunks.result.0.now in
    let k : 50 * (l.range-index + 1) ≡ 50 * l.range-index + 50 = omega arith in
    let f = rw (pairs_drop rs l.range-index [] c.loop-range-test.true) at l.invariant in
    rw k (putting_next (omega (arith, c.requires, l.invariant.lines.low, l.invariant.lines.long, c.loop-range-test.true, c.as_chunks.ensures.front_len)) f c.put_range.ensures)

pub returns : goal.returns
returns c =
    let l = c.loop-range in
    let b = c.args.bounds.now in
    let rs = c.as_chunks.result.0.now in
    let z : l.range-index ≡ length rs = omega (arith, c.loop-range-test.false, l.auto.range-index-end) in
    let n : 50 * length rs ≡ 25 * length b = omega (arith, c.requires.even, c.as_chunks.ensures.front_len) in
    let f = putting_end (rw (z, pairs_end rs) at l.invariant) in
    let whole : pairs_lines rs ≡ bounds_lines b = ap pairs_lines c.as_chunks.ensures.front ∙ pairs_are (length b / 2) b (omega (arith, c.requires.even)) in
    rw (n, whole) at f
