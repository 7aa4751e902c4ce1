-- `put_row` meets its contract. Assumes nothing.
use mathlib.Core.Path.{◌≡◌}
use Prim.Native.Nat.{◌/◌, ◌%◌}
use lib.ListN.{get_or}
use Rattle.cauchy.proofs.blocks.MixLaws.{mixed}
use Rattle.cauchy.proofs.encode.put_row.Given as goal

abbrev pub invariant-loop-w : goal.invariant-loop-w
invariant-loop-w l = l.out ≡ mixed (λ v. get_or l.acc v 0 / l.unit % 65536) l.w l.initial.out
