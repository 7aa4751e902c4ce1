-- What the proofs of the chunk's functions and of the walk over chunks cite. Assumes nothing.
use Prim.Native.Nat.{ℕ, ◌+◌, ◌≤◌}
use mathlib.Core.Path.{◌≡◌, refl, sym, ap, ◌∙◌}
use mathlib.Core.Bool.{true, false}
use mathlib.Core.List.{List}
use native.Mathlib.Omega.{arith}
use borrow.Author.Tests.{ltb-false}
use lib.ListN.{length}
use Rattle.sfc.specs.answer.Numbers.{verdict, passes, Checked}
use Rattle.sfc.specs.format.Chunk.{payload_length, chunk_length, length_checks, measure_checks, measure_chunk}
use Rattle.sfc.specs.declared.format.header.Head.{Head}
use Rattle.sfc.specs.declared.answer.reason.Reason.{Reason}
use Rattle.sfc.proofs.answer.CheckLaws.{passed, all-passed, good_all, passes_good, good_passes, wrong_fails, tells}
use Rattle.std.specs.Prelude.{Result, Ok, Err}

-- the verdict that an answer shows
abbrev pub measured_seen : Result ℕ Reason → Checked
measured_seen (Ok k) = Ok tt
measured_seen (Err r) = Err r

-- a chunk that passed the checks of its length is all there
pub chunk-there : (s : ℕ) (c : List ℕ) (v : Checked) → v ≡ verdict (length_checks s c) → v ≡ Ok tt → 84 + payload_length c ≤ length c
chunk-there s c v e f =
    let p = passed (length_checks s c) (sym e ∙ f) in
    omega (arith, ltb-false (length c) (chunk_length c) p.1.1.1.0)

-- ---- where the chunk at the front ends

module _ (h : Head) (b : List ℕ) where
  -- one that can be stepped over is all there
  pub front-there : passes (measure_checks h b) ≡ true → chunk_length b ≤ length b
  front-there e = chunk-there h.s b (Ok tt) (sym (all-passed (length_checks h.s b) (passed (measure_checks h b) (passes_good (measure_checks h b) e)).1)) refl

  -- a length is told just where all checks pass
  pub measured : (k : ℕ) → measure_chunk h b ≡ Ok k → (passes (measure_checks h b) ≡ true) × (k ≡ chunk_length b)
  unfolding measure_chunk
  measured k e =
      let t = tells measured_seen Err (Ok (chunk_length b)) (λ q. refl) refl (measure_checks h b) (Ok tt) (ap measured_seen e) in
      let f : ◌≡◌ {A = Result ℕ Reason} (Ok (chunk_length b)) (Ok k) = sym (good_all Err (measure_checks h b) (Ok (chunk_length b)) t) ∙ e in
      let q : chunk_length b ≡ k = cc in
      (good_passes (measure_checks h b) t, sym q)

  pub unmeasured : (r : Reason) → measure_chunk h b ≡ Err r → passes (measure_checks h b) ≡ false
  unfolding measure_chunk
  unmeasured r e =
      wrong_fails (measure_checks h b) r (tells measured_seen Err (Ok (chunk_length b)) (λ q. refl) refl (measure_checks h b) (Err r) (ap measured_seen e))
