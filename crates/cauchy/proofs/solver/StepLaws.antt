-- A step of either pass over blocks, row by row: in each column it is the step of one column (Passes). Assumes nothing.
use mathlib.Core.Path.{◌≡◌, refl, sym, ap, ap₂, ◌∙◌}
use mathlib.Core.List.{List, ◌++◌}
use Prim.Native.Nat.{ℕ, ◌+◌, ◌-◌, ◌*◌, ◌/◌, ◌≤◌, ◌<◌}
use native.Mathlib.Omega.{arith}
use lib.ListN.{length, get_or, take, drop, set}
use lib.Bits.{bit_xor, xor_comm, xor_zero_r}
use Rattle.gf16.specs.Field.{Elem, mul, inv}
use Rattle.gf16.proofs.Laws.{laws, Field·simp}
use Rattle.little.specs.Fields.{Bytes}
use Rattle.little.specs.Runs.{zeros}
use Rattle.little.proofs.Laws.{little_laws}
use Rattle.cauchy.specs.Code.{word_at, word_bytes}
use Rattle.cauchy.specs.inner.System.{field}
use Rattle.cauchy.specs.inner.Promises.{Room, RowTakenOff, UnknownFound, reduce_one, scale_one, term_one}
use Rattle.cauchy.proofs.blocks.BlockLaws.{length-word_bytes, word_bytes_ext, word_back_small, zero-words}
use Rattle.cauchy.proofs.solver.Passes.{TakingOff, taking_start, taking_turn, taking_end, Finding, finding_start, finding_down, finding_last, set_below}
use Rattle.cauchy.specs.inner.Packed.{mixed_word, times_word, plus_times}
use Rattle.cauchy.specs.inner.Ranges.{Columns, columned, Became}
use Rattle.cauchy.proofs.solver.ColumnLaws.{read_block, put-block}

-- what `mix` leaves, where both blocks are given by their words
mix_row : (c d n : ℕ) (f h : ℕ → ℕ) (dst src made : List ℕ) → ((w : ℕ) → w < n → f w < 65536) → ((w : ℕ) → w < n → h w < 65536)
    → dst ≡ word_bytes f 0 n → src ≡ word_bytes h 0 n → made ≡ word_bytes (mixed_word c d dst src) 0 (length dst / 2)
    → made ≡ word_bytes (λ w. bit_xor (mul c (f w)) (mul d (h w))) 0 n
mix_row c d n f h dst src made hf hh ed es em =
    let l : length dst / 2 ≡ n = omega (arith, ap length ed ∙ length-word_bytes f 0 n) in
    em ∙ ap (word_bytes (mixed_word c d dst src) 0) l
    ∙ word_bytes_ext (mixed_word c d dst src) (λ w. bit_xor (mul c (f w)) (mul d (h w))) n
    (λ w m. ap₂ (λ (x y : ℕ). bit_xor (mul c x) (mul d y))
    (ap (λ (x : List ℕ). word_at x (2 * w)) ed ∙ word_back_small f n w m (hf w m))
    (ap (λ (x : List ℕ). word_at x (2 * w)) es ∙ word_back_small h n w m (hh w m)))

-- ---- the numbers that are mixed

reduce-mixed : (a b o s t : ℕ) → Elem a → Elem b → Elem o → Elem s → Elem t → bit_xor (mul (mul a o) s) (mul (mul b o) t) ≡ mul (bit_xor (mul a s) (mul b t)) o
reduce-mixed a b o s t ha hb ho hs ht = simp Field·simp

scale-mixed : (c d a : ℕ) → Elem c → Elem d → bit_xor (mul c d) (mul 0 a) ≡ mul d c
scale-mixed c d a hc hd = ap₂ bit_xor (laws.mul_comm c d hc hd) (laws.zero-mul a) ∙ xor_zero_r (mul d c)

term_mixed : (o v a : ℕ) → Elem o → Elem v → Elem a → bit_xor (mul 1 a) (mul o v) ≡ bit_xor (mul v o) a
term_mixed o v a ho hv ha = ap₂ bit_xor (laws.one-mul a ha) (laws.mul_comm o v ho hv) ∙ xor_comm a (mul v o)

-- ---- what `scale` leaves, as two mixtures

module _ (c i : ℕ) (dst one dst' one' : List ℕ) (hc : Elem c) (hi : Elem i) (bd : Bytes dst) (bo : Bytes one) (l : length dst ≡ length one)
    (ed : dst' ≡ word_bytes (times_word c dst) 0 (length dst / 2)) (eo : one' ≡ word_bytes (plus_times (mul c i) one dst) 0 (length dst / 2)) where
  pub scaled_dst : dst' ≡ word_bytes (mixed_word c 0 dst one) 0 (length dst / 2)
  scaled_dst =
      ed ∙ word_bytes_ext (times_word c dst) (mixed_word c 0 dst one) (length dst / 2)
      (λ w m. sym (ap (bit_xor (times_word c dst w)) (laws.zero-mul (word_at one (2 * w))) ∙ xor_zero_r (times_word c dst w)))

  pub scaled_one : one' ≡ word_bytes (mixed_word 1 i one dst') 0 (length one / 2)
  scaled_one =
      eo ∙ word_bytes_ext (plus_times (mul c i) one dst) (mixed_word 1 i one dst') (length dst / 2) each ∙ ap (λ (x : ℕ). word_bytes (mixed_word 1 i one dst') 0 (x / 2)) l
    where
      -- i times c times a word, and c times i times it
      turned : (x : ℕ) → Elem x → mul (mul c i) x ≡ mul i (mul c x)
      turned x hx = simp Field·simp

      each : (w : ℕ) → w < length dst / 2 → plus_times (mul c i) one dst w ≡ mixed_word 1 i one dst' w
      each w m =
          sym (ap₂ bit_xor (laws.one-mul (word_at one (2 * w)) ((little_laws 2).bound one bo (2 * w)))
          (ap (λ (x : List ℕ). mul i (word_at x (2 * w))) ed
          ∙ ap (mul i) (word_back_small (times_word c dst) (length dst / 2) w m (laws.mul_below c (word_at dst (2 * w)) hc))
          ∙ sym (turned (word_at dst (2 * w)) ((little_laws 2).bound dst bd (2 * w)))))

-- ---- what the loops of a step keep

-- forward, at row k: the rows before it are done
abbrev pub Taken : ℕ → ℕ → ℕ → List ℕ → List ℕ → ℕ → ℕ → (ℕ → List ℕ) → List ℕ → List ℕ → Type 0
Taken s first count xs ys t k cs base b = Became (TakingOff 65536 xs ys t k) s first count (length xs) cs base b

-- backward, at unknown k: those from k on are put back, and `one` has the sums of their terms in row t
pub record Found (s first count : ℕ) (xs ys : List ℕ) (t k : ℕ) (cs : ℕ → List ℕ) (base b one : List ℕ) : Type 0 where
  pub made : ℕ → List ℕ
  pub sums : ℕ → ℕ
  pub here : b ≡ columned s first count (length xs) made base
  pub terms : one ≡ word_bytes (λ v. sums (first + v)) 0 count
  pub each : (w : ℕ) → Finding 65536 xs ys t k (cs w) (made w) (sums w)

module _ (s first count part size : ℕ) (xs ys : List ℕ) (room : Room s first count (length xs) part size)
    (bx : (i : ℕ) → get_or xs i 0 < 65536) (by : (i : ℕ) → get_or ys i 0 < 65536) (ly : length ys ≡ length xs) (t : ℕ) (ht : t < length xs)
    (cs : ℕ → List ℕ) (base : List ℕ) (whole : Columns (length xs) cs) where
  low : (i j : ℕ) → Elem i → Elem j → Elem (bit_xor i j)
  low i j hi hj = laws.add-closed i j hi hj

  -- ---- forward

  pub taken_start : (b : List ℕ) → b ≡ columned s first count (length xs) cs base → Taken s first count xs ys t (t + 1) cs base b
  taken_start b here =
      record { made = cs; whole = whole; here = here; each = λ w. taking_start 65536 xs ys t (cs w) (whole.size w) (whole.below w) ht }

  pub taken-end : (k : ℕ) (b : List ℕ) → length xs ≤ k → Taken s first count xs ys t k cs base b → Became (RowTakenOff field xs ys t) s first count (length xs) cs base b
  taken-end k b h p = record { made = p.made; whole = p.whole; here = p.here; each = λ w. taking_end 65536 xs ys t k (cs w) (p.made w) (p.each w) h }

  module _ (k at width : ℕ) (one F : List ℕ) (eo : one ≡ word_bytes (λ v. get_or (cs (first + v)) t 0) 0 count) (hk : k < length xs) (tk : t < k)
      (lF : length F ≡ size) (ea : at ≡ k * s + 2 * first) (ew : width ≡ 2 * count) (p : Taken s first count xs ys t k cs base F) where
    a : ℕ
    a = bit_xor (get_or xs k 0) (get_or ys t 0)

    b : ℕ
    b = bit_xor (get_or xs t 0) (get_or ys t 0)

    o : ℕ
    o = inv (bit_xor (get_or xs t 0) (get_or xs k 0))

    small : (w i : ℕ) → i < length xs → get_or (p.made w) i 0 < 65536
    small w i h = p.whole.below w i (omega (arith, p.whole.size w))

    -- the word of row k when row t is taken off
    new : ℕ → ℕ
    new w = reduce_one (get_or xs t 0) (get_or ys t 0) (get_or (p.made w) t 0) (get_or xs k 0) (get_or (p.made w) k 0)

    new_small : (w : ℕ) → new w < 65536
    unfolding new
    new_small w =
        laws.mul_below _ (inv (bit_xor (get_or xs t 0) (get_or xs k 0)))
        (low _ _ (laws.mul_below _ (get_or (p.made w) k 0) (low (get_or xs k 0) (get_or ys t 0) (bx k) (by t))) (laws.mul_below _ (get_or (p.made w) t 0) (low (get_or xs t 0) (get_or ys t 0) (bx t) (by t))))

    turned : (w : ℕ) → TakingOff 65536 xs ys t (k + 1) (cs w) (set (p.made w) k (new w))
    unfolding new
    turned w = taking_turn 65536 xs ys t k (cs w) (p.made w) (new w) (p.each w) hk (new_small w) refl

    mixed_new : (w : ℕ) → bit_xor (mul (mul a o) (get_or (p.made w) k 0)) (mul (mul b o) (get_or (cs w) t 0)) ≡ new w
    unfolding a b o new
    mixed_new w =
        ap (λ (x : ℕ). bit_xor (mul (mul a o) (get_or (p.made w) k 0)) (mul (mul b o) x)) (sym ((p.each w).kept t (omega arith)))
        ∙ reduce-mixed a b o (get_or (p.made w) k 0) (get_or (p.made w) t 0)
        (low (get_or xs k 0) (get_or ys t 0) (bx k) (by t)) (low (get_or xs t 0) (get_or ys t 0) (bx t) (by t)) (laws.inv-closed _ (low (get_or xs t 0) (get_or xs k 0) (bx t) (bx k)))
        (small w k hk) (small w t ht)

    pub taken-turn : (made : List ℕ)
        → made ≡ word_bytes (mixed_word (mul (bit_xor (get_or xs k 0) (get_or ys t 0)) (inv (bit_xor (get_or xs t 0) (get_or xs k 0)))) (mul (bit_xor (get_or xs t 0) (get_or ys t 0)) (inv (bit_xor (get_or xs t 0) (get_or xs k 0)))) (take width (drop at F)) one) 0 (length (take width (drop at F)) / 2)
        → Taken s first count xs ys t (k + 1) cs base (take at F ++ (made ++ drop width (drop at F)))
    unfolding a b o
    taken-turn made em = record {
      made = λ w. set (p.made w) k (new w);
      whole = record { size = λ w. (turned w).size; below = λ w. (turned w).below };
      here = put-block s first count (length xs) room.words p.made base F k at width p.here hk (omega (arith, room.inside)) ea ew new made (omega (arith, room.least)) p.whole.size
          (mix_row (mul a o) (mul b o) count (λ v. get_or (p.made (first + v)) k 0) (λ v. get_or (cs (first + v)) t 0) (take width (drop at F)) one made
          (λ v m. small (first + v) k hk) (λ v m. whole.below (first + v) t (omega (arith, whole.size (first + v))))
          (read_block s first count (length xs) room.words p.made base F k at width p.here hk (omega (arith, room.inside)) ea ew) eo em
          ∙ word_bytes_ext _ (λ v. new (first + v)) count (λ v m. mixed_new (first + v)));
      each = turned;
    }

  -- ---- backward

  pub found_start : (n : ℕ) (b one : List ℕ) → b ≡ columned s first count (length xs) cs base → one ≡ zeros n → n ≡ 2 * count
      → Found s first count xs ys t (length xs) cs base b one
  found_start n b one here eo en = record {
    made = cs;
    sums = λ w. 0;
    here = here;
    terms = eo ∙ zero-words n (omega arith) ∙ ap (word_bytes (λ _. 0) 0) (omega arith);
    each = λ w. finding_start 65536 xs ys t (cs w) ly (whole.size w) (whole.below w) (omega arith) ht;
  }

  module _ (k at width : ℕ) (one F : List ℕ) (lF : length F ≡ size) (ew : width ≡ 2 * count) (p : Found s first count xs ys t k cs base F one) where
    word : (w i : ℕ) → i < length xs → get_or (p.made w) i 0 < 65536
    word w i h = (p.each w).below i (omega (arith, (p.each w).size))

    inside : length xs * s ≤ length F
    inside = omega (arith, room.inside)

    module _ (hk : t + 1 < k) (ea : at ≡ (k - 1) * s + 2 * first) where
      y : ℕ
      y = get_or ys (k - 1) 0

      up : ℕ
      up = bit_xor (get_or xs t 0) (get_or ys (k - 1) 0)

      up_small : up < 65536
      unfolding up
      up_small = low (get_or xs t 0) (get_or ys (k - 1) 0) (bx t) (by (k - 1))

      c : ℕ
      c = mul up (inv (bit_xor (get_or ys t 0) (get_or ys (k - 1) 0)))

      row : k - 1 < length xs
      row = omega (arith, (p.each 0).within)

      scaled : ℕ → ℕ
      scaled w = scale_one (get_or xs t 0) (get_or ys t 0) (get_or ys (k - 1) 0) (get_or (p.made w) (k - 1) 0)

      scaled_small : (w : ℕ) → scaled w < 65536
      unfolding scaled
      scaled_small w = laws.mul_below (get_or (p.made w) (k - 1) 0) _ (word w (k - 1) row)

      sum : ℕ → ℕ
      sum w = bit_xor (term_one (get_or xs t 0) (get_or ys (k - 1) 0) (scaled w)) (p.sums w)

      sum_small : (w : ℕ) → sum w < 65536
      unfolding sum
      sum_small w = low _ (p.sums w) (laws.mul_below (scaled w) _ (scaled_small w)) (p.each w).small

      pub found_turn : (dst one' : List ℕ)
          → dst ≡ word_bytes (mixed_word (mul (bit_xor (get_or xs t 0) (get_or ys (k - 1) 0)) (inv (bit_xor (get_or ys t 0) (get_or ys (k - 1) 0)))) 0 (take width (drop at F)) one) 0 (length (take width (drop at F)) / 2)
          → one' ≡ word_bytes (mixed_word 1 (inv (bit_xor (get_or xs t 0) (get_or ys (k - 1) 0))) one dst) 0 (length one / 2)
          → Found s first count xs ys t (k - 1) cs base (take at F ++ (dst ++ drop width (drop at F))) one'
      unfolding up c scaled sum
      found_turn dst one' ed eo = record {
        made = λ w. set (p.made w) (k - 1) (scaled w);
        sums = sum;
        here = put-block s first count (length xs) room.words p.made base F (k - 1) at width p.here row inside ea ew scaled dst (omega (arith, room.least)) (λ w. (p.each w).size) is_scaled;
        terms =
            mix_row 1 (inv up) count (λ v. p.sums (first + v)) (λ v. scaled (first + v)) one dst one'
            (λ v m. (p.each (first + v)).small) (λ v m. scaled_small (first + v)) p.terms is_scaled eo
            ∙ word_bytes_ext _ (λ v. sum (first + v)) count
            (λ v m. term_mixed (inv up) (scaled (first + v)) (p.sums (first + v)) (laws.inv-closed up up_small) (scaled_small (first + v)) (p.each (first + v)).small);
        each = λ w. finding_down 65536 xs ys t k (cs w) (p.made w) (p.sums w) (scaled w) (sum w) ly (p.each w) hk (scaled_small w) (sum_small w) refl refl;
      }
        where
          is_scaled : dst ≡ word_bytes (λ v. scaled (first + v)) 0 count
          is_scaled =
              mix_row c 0 count (λ v. get_or (p.made (first + v)) (k - 1) 0) (λ v. p.sums (first + v)) (take width (drop at F)) one dst
              (λ v m. word (first + v) (k - 1) row) (λ v m. (p.each (first + v)).small)
              (read_block s first count (length xs) room.words p.made base F (k - 1) at width p.here row inside ea ew) p.terms ed
              ∙ word_bytes_ext _ (λ v. scaled (first + v)) count
              (λ v m. scale-mixed c (get_or (p.made (first + v)) (k - 1) 0) (p.sums (first + v)) (laws.mul_below up _ up_small) (word (first + v) (k - 1) row))

    module _ (hk : k ≤ t + 1) (ea : at ≡ t * s + 2 * first) where
      d : ℕ
      d = bit_xor (get_or xs t 0) (get_or ys t 0)

      last : ℕ → ℕ
      last w = mul d (bit_xor (get_or (p.made w) t 0) (p.sums w))

      last_small : (w : ℕ) → last w < 65536
      unfolding d last
      last_small w = laws.mul_below d _ (low (get_or xs t 0) (get_or ys t 0) (bx t) (by t))

      at_last : (w : ℕ) → UnknownFound field xs ys t (cs w) (set (p.made w) t (last w))
      unfolding d last
      at_last w = finding_last 65536 xs ys t k (cs w) (p.made w) (p.sums w) (last w) (p.each w) hk ht refl

      pub found_end : (made : List ℕ)
          → made ≡ word_bytes (mixed_word (bit_xor (get_or xs t 0) (get_or ys t 0)) (bit_xor (get_or xs t 0) (get_or ys t 0)) (take width (drop at F)) one) 0 (length (take width (drop at F)) / 2)
          → Became (UnknownFound field xs ys t) s first count (length xs) cs base (take at F ++ (made ++ drop width (drop at F)))
      unfolding d last
      found_end made em = record {
        made = λ w. set (p.made w) t (last w);
        whole = record { size = λ w. (at_last w).size; below = λ w. set_below 65536 (p.made w) t (last w) (p.each w).below (last_small w) };
        here = put-block s first count (length xs) room.words p.made base F t at width p.here ht inside ea ew last made (omega (arith, room.least)) (λ w. (p.each w).size)
            (mix_row d d count (λ v. get_or (p.made (first + v)) t 0) (λ v. p.sums (first + v)) (take width (drop at F)) one made
            (λ v m. word (first + v) t ht) (λ v m. (p.each (first + v)).small)
            (read_block s first count (length xs) room.words p.made base F t at width p.here ht inside ea ew) p.terms em
            ∙ word_bytes_ext _ (λ v. last (first + v)) count (λ v m. sym (laws.mul-add d (get_or (p.made (first + v)) t 0) (p.sums (first + v)))));
        each = at_last;
      }
