-- `sfc::format::chunk::check_against_head` meets its contract: the checks, from the first down, are the list in its order. Assumes nothing.
use mathlib.Core.Path.{◌≡◌}
use native.Mathlib.Omega.{arith}
use lib.ListN.{length}
use borrow.Author.Rules.{rules}
use Rattle.sfc.proofs.format.chunk.check_against_head.Goals as goal

pub stands_at-requires : goal.stands_at-requires
stands_at-requires c = let l : length c.args.h.uuid ≡ 16 = search rules in omega (arith, l)
