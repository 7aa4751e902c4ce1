-- A lent list that is filled from its front, piece after piece. Assumes nothing.
use Prim.Native.Nat.{ℕ, ◌+◌, ◌≤◌}
use mathlib.Core.Path.{◌≡◌, refl, sym, ap, ap₂, ◌∙◌}
use mathlib.Core.List.{List, [], ◌++◌, append-nil}
use native.Mathlib.Omega.{arith}
use lib.ListN.{length, take, drop, length-append, drop_of_length-le, take-append-drop}
use lib.Seq.{take_at, length-take-le}
use Rattle.little.specs.Parts.{put}
use Rattle.little.specs.Fields.{bytes_of, put_le}
use Rattle.little.proofs.Laws.{put_laws, byte_laws, little_laws}

-- `cur` is the list xs with a, of length `at`, at its front
pub record Front (xs a : List ℕ) (at : ℕ) (cur : List ℕ) : Type 0 where
  pub made : cur ≡ put xs 0 a
  pub long : length a ≡ at
  pub room : at ≤ length xs

pub front_start : (xs : List ℕ) → Front xs [] 0 xs
front_start xs = record { made = refl; long = refl; room = omega arith }

module _ {xs a cur : List ℕ} {at : ℕ} (f : Front xs a at cur) where
  pub front_length : length cur ≡ length xs
  front_length = ap length f.made ∙ put_laws.length-put xs 0 a (omega (arith, f.long, f.room))

  -- filled to its end
  pub front-end : at ≡ length xs → cur ≡ a
  front-end e =
      let h : length xs ≤ length a = omega (arith, f.long) in
      f.made ∙ ap (λ (l : List ℕ). a ++ l) (drop_of_length-le xs h) ∙ append-nil a

  module _ (b : List ℕ) (n : ℕ) (l : length b ≡ n) (h : at + n ≤ length xs) where
    start : at ≡ 0 + length a
    start = omega (arith, f.long)

    pub front-put : Front xs (a ++ b) (at + n) (put cur at b)
    front-put = record {
      made = ap₂ (λ (c : List ℕ) (k : ℕ). put c k b) f.made start ∙ put_laws.put_next xs 0 a b (omega arith);
      long = length-append a b ∙ ap₂ ◌+◌ f.long l;
      room = h;
    }

  pub front_is : {b c : List ℕ} → a ≡ b → cur ≡ c → Front xs b at c
  front_is e g = record { made = sym g ∙ f.made ∙ ap (λ (l : List ℕ). put xs 0 l) e; long = ap length (sym e) ∙ f.long; room = f.room }

-- each way in which a piece comes after what stands there
module _ {xs a cur : List ℕ} {at : ℕ} (f : Front xs a at cur) where
  -- a number
  pub front-le : (width v : ℕ) → at + width ≤ length xs → {c : List ℕ} → c ≡ put_le cur at width v → Front xs (a ++ bytes_of width v) (at + width) c
  front-le width v h e =
      front_is (front-put f (bytes_of width v) width ((little_laws width).long v) h) refl
      (sym (byte_laws.put-fits cur at width v (omega (arith, front_length f))) ∙ sym e)

  -- a lent part that came back with ys in it
  pub front_lent : (ys : List ℕ) (n : ℕ) → length ys ≡ n → at + n ≤ length xs → Front xs (a ++ ys) (at + n) (take at cur ++ (ys ++ drop n (drop at cur)))
  front_lent ys n l h = front_is (front-put f ys n l h) refl (sym (put_laws.lent cur ys at n l))

  -- a lent part to which all of src was copied
  pub front_copy : (src ys : List ℕ) (n : ℕ) → length src ≡ n → at + n ≤ length xs → ys ≡ src
      → Front xs (a ++ src) (at + n) (take at cur ++ (ys ++ drop n (drop at cur)))
  front_copy src ys n l h y = front_is (front_lent ys n (ap length y ∙ l) h) (ap (λ (l : List ℕ). a ++ l) y) refl

-- a lent front that came back with ys in it
pub front-first : (xs ys : List ℕ) (n : ℕ) → length ys ≡ n → n ≤ length xs → Front xs ys n (ys ++ drop n xs)
front-first xs ys n l h = record { made = ap (λ (k : ℕ). ys ++ drop k xs) (sym l); long = l; room = h }

-- what stands there already is a front too, and a front can be read back
pub front-taken : (xs : List ℕ) (at : ℕ) → at ≤ length xs → Front xs (take at xs) at xs
front-taken xs at h =
    let l : length (take at xs) ≡ at = length-take-le at xs h in
    record { made = sym (ap (λ (k : ℕ). take at xs ++ drop k xs) l ∙ take-append-drop at xs); long = l; room = h }

pub front-take : {xs a cur : List ℕ} {at : ℕ} → Front xs a at cur → take at cur ≡ a
front-take {xs} {a} {cur} {at} f = ap (take at) f.made ∙ take_at a (drop (length a) xs) at f.long
