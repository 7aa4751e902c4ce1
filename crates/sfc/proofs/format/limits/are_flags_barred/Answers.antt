-- `sfc::format::limits::are_flags_barred` computes its definition, where a number over 1 is itself. Assumes nothing.
use Prim.Native.Nat.{ℕ, ◌/◌, ◌%◌}
use mathlib.Core.Bool.{◌||◌}
use mathlib.Core.Path.{sym, ap}
use lib.Dec.{eqb}
use Rattle.std.proofs.Math.Nat.{div-one}
use Rattle.sfc.specs.format.Header.{flags_barred}
use Rattle.sfc.proofs.format.limits.are_flags_barred.Goals as goal

pub returns : goal.returns
unfolding flags_barred
returns c =
    let f = c.args.flags in
    ap (λ (k : ℕ). eqb (f / 2 % 2) 1 || eqb (f / 4 % 2) 1 || eqb (f / 8 % 2) 1 || eqb (k % 2) 1 || eqb (f / 32 % 2) 1) (sym (div-one f))
