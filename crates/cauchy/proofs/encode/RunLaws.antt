-- A loop that lays lists of one width, one after the other, over a lent list. Assumes nothing.
use Prim.Native.Nat.{ℕ, zero, suc, ◌+◌, ◌*◌, ◌<◌, ◌≤◌}
use mathlib.Core.Path.{◌≡◌, refl, sym, ap, ap₂, ◌∙◌}
use mathlib.Core.List.{List, ◌++◌, append-nil, append_assoc}
use native.Mathlib.Nat.{add-mul, one-mul, mul-le-mul_right}
use native.Mathlib.Omega.{arith}
use lib.ListN.{length, take, drop, length-append}
use Rattle.little.specs.Parts.{put}
use Rattle.little.proofs.Laws.{put_laws}
use Rattle.cauchy.specs.Code.{joined}

pub joined-append : (f : ℕ → List ℕ) (c a b : ℕ) → joined f c (a + b) ≡ joined f c a ++ joined f (c + a) b
unfolding joined
joined-append f c zero b = let e : 0 + b ≡ b = omega arith in let g : c ≡ c + 0 = omega arith in ap₂ (λ (i n : ℕ). joined f i n) g e
joined-append f c (suc a) b =
    let e : suc a + b ≡ suc (a + b) = omega arith in
    let g : suc c + a ≡ c + suc a = omega arith in
    ap (λ (n : ℕ). joined f c n) e
    ∙ ap (λ (l : List ℕ). f c ++ l) (joined-append f (suc c) a b ∙ ap (λ (n : ℕ). joined f (suc c) a ++ joined f n b) g)
    ∙ sym (append_assoc (f c) (joined f (suc c) a) (joined f (c + suc a) b))

pub joined-one : (f : ℕ → List ℕ) (c : ℕ) → joined f c 1 ≡ f c
unfolding joined
joined-one f c = append-nil (f c)

-- the first i of `count` lists f 0, f 1 and so on, of `width` elements each, stand in d, and after them what stood in d₀
pub record Run (f : ℕ → List ℕ) (count width : ℕ) (d₀ : List ℕ) (i at : ℕ) (d : List ℕ) : Type 0 where
  pub to : i ≤ count
  pub reached : at ≡ i * width
  pub made : d ≡ put d₀ 0 (joined f 0 i)
  pub long : length (joined f 0 i) ≡ at
  pub whole : length d₀ ≡ count * width

pub run_start : (f : ℕ → List ℕ) (count width : ℕ) (d : List ℕ) → length d ≡ count * width → Run f count width d 0 0 d
unfolding joined
run_start f count width d h = record { to = omega arith; reached = omega arith; made = refl; long = refl; whole = h }

module _ {f : ℕ → List ℕ} {count width : ℕ} {d₀ : List ℕ} {i at : ℕ} {d : List ℕ} (r : Run f count width d₀ i at d) where
  inside : at ≤ length d₀
  inside = omega (arith, r.reached, r.whole, mul-le-mul_right {m = i} {n = count} width r.to)

  pub run_length : length d ≡ length d₀
  run_length = ap length r.made ∙ put_laws.length-put d₀ 0 (joined f 0 i) (omega (arith, r.long, inside))

  pub run_turn : i < count → (ys : List ℕ) (n at' : ℕ) → n ≡ width → at' ≡ at + width → ys ≡ f i → length (f i) ≡ width
      → Run f count width d₀ (i + 1) at' (take at d ++ (ys ++ drop n (drop at d)))
  run_turn h ys n at' en ea ey l =
      let k : 0 + i ≡ i = omega arith in
      let ly : length ys ≡ n = ap length ey ∙ l ∙ sym en in
      let j : joined f 0 i ++ ys ≡ joined f 0 (i + 1) =
      ap (λ (x : List ℕ). joined f 0 i ++ x) (ey ∙ sym (ap f k) ∙ sym (joined-one f (0 + i))) ∙ sym (joined-append f 0 i 1) in
      let p : at ≡ 0 + length (joined f 0 i) = omega (arith, r.long) in
      record {
        to = omega arith;
        reached = omega (arith, r.reached, add-mul i 1 width, one-mul width);
        made = put_laws.lent d ys at n ly ∙ ap₂ (λ (x : List ℕ) (q : ℕ). put x q ys) r.made p ∙ put_laws.put_next d₀ 0 (joined f 0 i) ys (omega arith) ∙ ap (put d₀ 0) j;
        long = ap length (sym j) ∙ length-append (joined f 0 i) ys ∙ omega (arith, r.long);
        whole = r.whole;
      }
