-- `mix_words` meets its contract. Assumes nothing.
use mathlib.Core.Path.{◌≡◌, ap₂}
use Prim.Native.Nat.{ℕ, ◌+◌, ◌*◌, ◌/◌, ◌%◌, ◌<◌}
use native.Mathlib.Omega.{arith}
use lib.Bits.{bit_xor}
use lib.ListN.{length}
use Rattle.cauchy.proofs.blocks.MixLaws.{mixed_start, mixed-turn, mixed-end}
use Rattle.cauchy.proofs.tables.MixtureLaws.{picked, picked-lt, looked-kept, mixed-all}
use Rattle.cauchy.proofs.tables.Tables.mix_words.Goals as goal

pub loop-w-init : goal.loop-w-init
loop-w-init c = let a = c.args in mixed_start (picked a.self.now.low a.self.now.high a.dst.now a.src.now) a.dst.now

pub loop-w-preserved : goal.loop-w-preserved
loop-w-preserved c =
    let l = c.loop-w in
    let a = c.args in
    let f = picked a.self.now.low a.self.now.high a.dst.now a.src.now in
    let p = c.look-p in
    let q = c.look-q in
    let m : 2 * l.w + 1 < length a.dst.now = omega arith in
    let v : ℕ = bit_xor (p.result % 65536) (q.result / 65536 % 65536) in
    let h : v < 65536 = picked-lt p.result q.result in
    let e : v / 256 % 256 ≡ v / 256 = omega arith in
    let k = looked-kept f a.dst.now l.dst l.w l.invariant m a.self.now.low a.self.now.high p.result p.ensures in
    rw e (mixed-turn f l.w a.dst.now l.dst v l.invariant m h (ap₂ (λ (x y : ℕ). bit_xor (x % 65536) (y / 65536 % 65536)) k q.ensures))

pub returns : goal.returns
returns c x y hx hy t =
    let l = c.loop-w in
    let a = c.args in
    let e : l.w ≡ length a.dst.now / 2 = omega arith in
    mixed-all a.self.now.low a.self.now.high x y hx hy t a.dst.now a.src.now l.dst (length a.dst.now / 2)
    (λ p. omega (arith, c.slice_known-1.given p)) (λ p. omega (arith, c.shared_slice_known-1.given p))
    (rw e at (mixed-end (picked a.self.now.low a.self.now.high a.dst.now a.src.now) l.w a.dst.now l.dst l.invariant (omega arith)))
