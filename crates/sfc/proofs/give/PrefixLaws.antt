-- What the prefix's proofs cite: its count in the words of the library, and its three answers. Assumes nothing.
use Prim.Native.Nat.{ℕ, suc, ◌+◌, ◌*◌, ◌<◌, ◌≤◌}
use mathlib.Core.Path.{◌≡◌, refl, sym, ap, ap₂, ◌∙◌}
use mathlib.Core.Bool.{Bool, true, false, cond}
use mathlib.Core.List.{List, [], ◌∷◌, ◌++◌}
use mathlib.Core.Logic.{◌⊎◌, ⊎_elim}
use native.Mathlib.Omega.{arith}
use native.Mathlib.Nat.{mul-le-mul_right}
use borrow.Author.Tests.{lt-ltb, le-ltb}
use lib.ListN.{length, take, drop}
use lib.Seq.{length-take-le, take-take, take_all}
use Rattle.std.specs.List.{prefix_len}
use Rattle.sfc.specs.answer.Places.{number, place, unverified_prefix}
use Rattle.little.specs.Parts.{put}
use Rattle.sfc.specs.answer.Numbers.{Answered}
use Rattle.sfc.specs.session.Marks.{is_held}
use Rattle.sfc.specs.session.Lent.{lent_wrong}
use Rattle.sfc.specs.give.Prefix.{leading, prefix_blocks, prefix_of, prefix_given}
use Rattle.sfc.specs.session.Right.{RightLent}
use Rattle.sfc.specs.declared.format.header.Head.{Head}
use Rattle.sfc.specs.declared.answer.reason.Reason.TheVariants.{Lent, OutputShort}
use Rattle.sfc.proofs.session.SessionLaws.{right_lent}
use Rattle.sfc.specs.declared.give.prefix.UnverifiedPrefix.{UnverifiedPrefix}
use Rattle.sfc.specs.declared.answer.reason.Reason.{Reason}
use Rattle.std.specs.Prelude.{Result, Ok, Err}

-- the longest front of held marks
pub leading-front : (marks : List ℕ) → prefix_len is_held marks ≡ leading marks
unfolding leading
leading-front [] = refl
leading-front (k ∷ marks) = ap (λ (n : ℕ). cond (is_held k) (1 + n) 0) (leading-front marks)

leading_most : (marks : List ℕ) → leading marks ≤ length marks
unfolding leading
leading_most [] = omega arith
leading_most (k ∷ marks) = go (is_held k) (leading_most marks)
  where
    go : (b : Bool) → leading marks ≤ length marks → cond b (1 + leading marks) 0 ≤ suc (length marks)
    go true l = omega arith
    go false l = omega arith

module _ (h : Head) (store marks out : List ℕ) where
  pub prefix_lent : lent_wrong h.size h.n h.m h.s store marks ≡ true
      → ◌≡◌ {A = Answered (Result UnverifiedPrefix Reason)} (record { answer = Err Lent; output = out }) (prefix_given h store marks out)
  unfolding prefix_given
  prefix_lent e = rw e

  module _ (w : lent_wrong h.size h.n h.m h.s store marks ≡ false) where
    r : RightLent h.size h.n h.m h.s store marks
    r = right_lent h.size h.n h.m h.s store marks w

    -- the blocks lie in the store
    pub blocks-few : (b : ℕ) → b ≡ prefix_blocks h marks → (b ≤ h.n) × (b * h.s ≤ length store) × (length store ≤ 4325376)
    blocks-few b e =
        let l : b ≤ h.n = omega (arith, e, leading_most (take h.n marks), length-take-le h.n marks (omega (arith, r.marks_long))) in
        (l, omega (arith, r.store_long, mul-le-mul_right {m = b} {n = h.n + h.m} h.s (omega arith)), omega (arith, r.store_long, r.shape.small))

    -- the end that the code computes
    module _ (b end : ℕ) (eb : b ≡ prefix_blocks h marks) (least : ((end ≡ h.size) × (end ≤ b * h.s)) ⊎ ((end ≡ b * h.s) × (end ≤ h.size))) where
      pub end_in : end ≤ length store
      end_in = let f = blocks-few b eb in ⊎_elim (λ o. omega arith) (λ o. omega arith) least

      is_prefix : take end store ≡ prefix_of h store marks
      is_prefix =
          let f = blocks-few b eb in
          let q : take (b * h.s) store ≡ take (prefix_blocks h marks * h.s) store = ap (λ (k : ℕ). take (k * h.s) store) eb in
          ⊎_elim (λ (o : (end ≡ h.size) × (end ≤ b * h.s)). sym (take-take end (b * h.s) store o.1) ∙ ap₂ take o.0 q)
          (λ (o : (end ≡ b * h.s) × (end ≤ h.size)).
          ap (λ (k : ℕ). take k store) o.0 ∙ q
          ∙ sym (take_all h.size (take (prefix_blocks h marks * h.s) store) (omega (arith, ap length (sym q), length-take-le (b * h.s) store f.1))))
          least

      length_prefix : length (prefix_of h store marks) ≡ end
      length_prefix = ap length (sym is_prefix) ∙ length-take-le end store end_in

      pub prefix_short : length out < end → ◌≡◌ {A = Answered (Result UnverifiedPrefix Reason)} (record { answer = Err OutputShort; output = out }) (prefix_given h store marks out)
      unfolding prefix_given
      prefix_short l = rw (w, lt-ltb (length out) (length (prefix_of h store marks)) (omega (arith, length_prefix)))

      pub prefix_given_lem : end ≤ length out → (src : List ℕ) → src ≡ take end store → (o : List ℕ) → o ≡ src ++ drop end out
          → ◌≡◌ {A = Answered (Result UnverifiedPrefix Reason)} (record { answer = Ok (unverified_prefix (number b) (place end)); output = o }) (prefix_given h store marks out)
      unfolding prefix_given
      prefix_given_lem l src es o eo =
          let p : src ≡ prefix_of h store marks = es ∙ is_prefix in
          let q : o ≡ put out 0 (prefix_of h store marks) =
          eo ∙ ap₂ (λ (u : List ℕ) (k : ℕ). u ++ drop k out) p (sym length_prefix) in
          rw (w, le-ltb (length out) (length (prefix_of h store marks)) (omega (arith, length_prefix)), q, eb, ← length_prefix)
