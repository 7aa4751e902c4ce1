-- `scale_words` meets its contract. Assumes nothing.
use mathlib.Core.Path.{◌≡◌, ap, ap₂}
use Prim.Native.Nat.{ℕ, ◌+◌, ◌*◌, ◌/◌, ◌%◌, ◌<◌}
use native.Mathlib.Omega.{arith}
use lib.Bits.{bit_xor, xor_lt}
use lib.ListN.{length, get_or}
use Rattle.cauchy.proofs.blocks.MixLaws.{mixed_start, mixed-turn, mixed-end}
use Rattle.cauchy.proofs.tables.MixtureLaws.{zero_row, plus_row, looked-kept, word_kept, times_all, plus-all}
use Rattle.cauchy.proofs.tables.Tables.scale_words.Goals as goal

pub loop-w-init : goal.loop-w-init
loop-w-init c =
    let a = c.args in
    (mixed_start (zero_row a.self.now.low a.self.now.high a.dst.now) a.dst.now, mixed_start (plus_row a.self.now.low a.self.now.high a.one.now a.dst.now) a.one.now)

pub loop-w-preserved : goal.loop-w-preserved
loop-w-preserved c =
    let l = c.loop-w in
    let a = c.args in
    let f = zero_row a.self.now.low a.self.now.high a.dst.now in
    let g = plus_row a.self.now.low a.self.now.high a.one.now a.dst.now in
    let p = c.look-p in
    let r = c.word in
    let m : 2 * l.w + 1 < length a.dst.now = omega arith in
    let n : 2 * l.w + 1 < length a.one.now = omega (arith, c.requires) in
    let v : ℕ = p.result % 65536 in
    let u : ℕ = bit_xor r.result (p.result / 65536 % 65536) in
    let hv : v < 65536 = omega arith in
    let hu : u < 65536 = xor_lt 16 r.result (p.result / 65536 % 65536) r.ensures.1 (omega arith) in
    let ev : v / 256 % 256 ≡ v / 256 = omega arith in
    let eu : u / 256 % 256 ≡ u / 256 = omega arith in
    let k = looked-kept f a.dst.now l.dst l.w l.invariant.0 m a.self.now.low a.self.now.high p.result p.ensures in
    let o = word_kept g a.one.now l.one l.w l.invariant.1 n r.result r.ensures.0 in (
      rw ev (mixed-turn f l.w a.dst.now l.dst v l.invariant.0 m hv (ap (λ (x : ℕ). x % 65536) k)),
      rw eu (mixed-turn g l.w a.one.now l.one u l.invariant.1 n hu (ap₂ bit_xor o (ap (λ (x : ℕ). x / 65536 % 65536) k))),
    )

pub returns : goal.returns
returns c x y hx hy t =
    let l = c.loop-w in
    let a = c.args in
    let e : l.w ≡ length a.dst.now / 2 = omega arith in
    let small : (p : ℕ) → get_or a.dst.now p 0 < 256 = λ p. omega (arith, c.slice_known-1.given p) in (
      times_all a.self.now.low a.self.now.high x y hx hy t a.dst.now small l.dst (length a.dst.now / 2)
          (rw e at (mixed-end (zero_row a.self.now.low a.self.now.high a.dst.now) l.w a.dst.now l.dst l.invariant.0 (omega arith))),
      plus-all a.self.now.low a.self.now.high x y hx hy t a.dst.now small a.one.now l.one (length a.dst.now / 2)
          (rw e at (mixed-end (plus_row a.self.now.low a.self.now.high a.one.now a.dst.now) l.w a.one.now l.one l.invariant.1 (omega (arith, c.requires)))),
    )
