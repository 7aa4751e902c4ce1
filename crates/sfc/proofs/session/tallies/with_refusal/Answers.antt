-- `sfc::session::tallies::with_refusal` meets its contract: one more at the reason's place, which the sum leaves room for. Assumes nothing.
use Prim.Native.Nat.{◌-◌}
use mathlib.Core.Path.{sym}
use native.Mathlib.Omega.{arith}
use Rattle.sfc.specs.answer.Numbers.{number_of}
use Rattle.sfc.proofs.session.TallyLaws.{in_sum, counts-one}
use Rattle.sfc.proofs.session.tallies.with_refusal.Goals as goal

pub overflow_add-next : goal.overflow_add-next
overflow_add-next c = let t = c.args.t in omega (arith, in_sum t.refused (c.from.result - 30), c.requires.0)

pub returns : goal.returns
returns c = rw c.from.ensures (sym (counts-one c.args.t (number_of c.args.reason) c.requires.1 c.requires.2))
