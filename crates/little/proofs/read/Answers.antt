-- `little::read` meets its contract. The loop's invariant: v is the number that the bytes from place i on make. Assumes nothing.
use Prim.Native.Nat.{◌+◌, ◌-◌, ◌<◌, ◌*◌}
use mathlib.Core.Path.{◌≡◌}
use native.Mathlib.Omega.{arith}
use lib.ListN.{get_or}
use Rattle.little.specs.Fields.{le}
use Rattle.little.proofs.FieldLaws.{laws, read_start, read_turn, read_fits}
use Rattle.little.proofs.read.Goals as goal
use Rattle.little.proofs.read.Goals.{In-loop-i}

pub loop-i-init : goal.loop-i-init
loop-i-init c =
    let a = c.args in
    let p = c.inside-i.ensures in
    (p.0, p.1, read_start a.s.now a.at a.width c.inside-i.result p.0 p.2)

-- what a turn makes fits, for its product and its sum
turn-fits : (c : In-loop-i) → let a = c.args in let l = c.loop-i in
    l.v * 256 + get_or a.s.now (a.at + (l.i - 1)) 0 < 18446744073709551616
turn-fits c =
    let a = c.args in
    let l = c.loop-i in
    read_fits a.s.now (λ i. (c.shared_slice_known-1.given i).fits) a.at a.width l.i l.v
    c.requires c.loop-i-test.true l.invariant.0 l.invariant.2

pub overflow_mul-v : goal.overflow_mul-v
overflow_mul-v c = omega (arith, turn-fits (goal.at.overflow_mul-v c).In-loop-i)

pub overflow_add-v : goal.overflow_add-v
overflow_add-v c = omega (arith, c.loop-i.invariant.1 c.loop-i-test.true)

pub bounds-s-at : goal.bounds-s-at
bounds-s-at c = omega (arith, c.loop-i.invariant.1 c.loop-i-test.true)

pub overflow_cast-v : goal.overflow_cast-v
overflow_cast-v c =
    let l = c.loop-i in
    omega (arith, c.shared_slice_known-in-loop-i-1.given (c.args.at + (l.i - 1)))

pub overflow_add-v-in-loop-i : goal.overflow_add-v-in-loop-i
overflow_add-v-in-loop-i c = omega (arith, turn-fits (goal.at.overflow_add-v-in-loop-i c).In-loop-i)

pub loop-i-preserved : goal.loop-i-preserved
loop-i-preserved c =
    let a = c.args in
    let l = c.loop-i in
    let p = l.invariant.1 c.loop-i-test.true in
    (omega arith, (λ _. omega arith), read_turn a.s.now a.at a.width l.i l.v c.loop-i-test.true l.invariant.0 l.invariant.2)

pub returns : goal.returns
returns c =
    let a = c.args in
    let l = c.loop-i in
    let e : a.at + l.i ≡ a.at = omega arith in
    let f : a.width - l.i ≡ a.width = omega arith in
    let v : l.v ≡ le a.s.now a.at a.width = rw (e, f) at l.invariant.2 in
    (v, rw v ((laws a.width).bound a.s.now (λ i. (c.shared_slice_known-1.given i).fits) a.at))
