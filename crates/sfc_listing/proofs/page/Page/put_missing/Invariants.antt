-- `sfc_listing::page::Page::put_missing` meets its contract. The loop's invariant: the lines of the ranges that are left are still
-- to come. Assumes nothing.
use Prim.Native.Nat.{◌*◌}
use lib.ListN.{drop}
use Rattle.sfc_listing.proofs.PageLaws.{Putting, pairs_lines}
use Rattle.sfc_listing.proofs.page.Page.put_missing.Given as goal

abbrev pub invariant-loop-range : goal.invariant-loop-range
invariant-loop-range l = Putting (50 * l.range-index) l.initial.self (pairs_lines l.ranges) (pairs_lines (drop l.range-index l.ranges)) l.self
