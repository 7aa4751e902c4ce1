-- The listing of a file: refused, or the session of its header; and the call that makes it. Assumes nothing.
use Rattle.std.specs.Prelude.{Result, Ok, Err}
use Prim.Native.Nat.{ℕ, ◌+◌, ◌-◌, ◌*◌, ◌<◌, ◌≤◌}
use mathlib.Core.Path.{◌≡◌, refl, sym, ap, ◌∙◌}
use mathlib.Core.Bool.{true, false, not}
use mathlib.Core.List.{List, [], ◌∷◌}
use native.Mathlib.Omega.{arith}
use native.Mathlib.Nat.{mul-le-mul}
use borrow.Author.Tests.{lt-ltb, le-ltb, ltb-false, eqb-true, not-false}
use lib.Dec.{eqb, ltb}
use lib.ListN.{length, take}
use lib.Seq.{length-take-le}
use Rattle.little.specs.Parts.{part}
use Rattle.little.proofs.Laws.{test_laws}
use Rattle.little.specs.Runs.{zeros}
use Rattle.sfc.specs.answer.Numbers.{verdict, number_of, Checked}
use Rattle.sfc.specs.format.Header.{length_field, region_of, head_of, header_checks, read_header, header_verdict}
use Rattle.sfc_listing.specs.Listing.{between, session_text, refused_text, listing_of, Desk, desk_of, lengths_wrong, desk_wrong, cleared, listed_of, listed}
use Rattle.sfc_listing.specs.Lines.{Printed}
use Rattle.sfc_listing.specs.Steps.{accepted_text, Ready}
use Rattle.sfc.specs.declared.format.header.Head.{Head}
use Rattle.sfc.specs.declared.answer.reason.Reason.{Reason}
use Rattle.sfc.specs.declared.answer.reason.Reason.TheVariants.{Lent, OutputShort}
use Rattle.sfc.proofs.Laws.{check_laws, lent_laws}
use Rattle.sfc.specs.session.Right.{RightShape}

-- ---- the file and its header

module _ (f : List ℕ) where
  pub listing_long : 65536 < length f → refused_text 15 ≡ listing_of f
  unfolding listing_of
  listing_long h = rw (lt-ltb 65536 (length f) h)

  abbrev head : Head
  head = head_of (region_of f)

  told : (v : Checked) → header_verdict (read_header f) ≡ v → verdict (header_checks f) ≡ v
  unfolding read_header
  told v g = check_laws.tells header_verdict Err (Ok head) (λ q. refl) refl (header_checks f) v g

  pub good_read : verdict (header_checks f) ≡ Ok tt → read_header f ≡ Ok head
  unfolding read_header
  good_read g = check_laws.good_all Err (header_checks f) (Ok head) g

  module _ (short : length f ≤ 65536) (x : Result Head Reason) (e : x ≡ read_header f) where
    pub listing_refused : (r : Reason) → x ≡ Err r → refused_text (number_of r) ≡ listing_of f
    unfolding listing_of
    listing_refused r g =
        rw (le-ltb 65536 (length f) short)
        (sym (check_laws.refused_then (λ (q : Reason). refused_text (number_of q)) (header_checks f) ((ltb 32768 ((head.n + head.m) * head.s), 15) ∷ []) (session_text head (length_field f + 12) (between f)) r (told (Err r) (ap header_verdict (sym e ∙ g)))))

    module _ (h : Head) (g : x ≡ Ok h) where
      good : verdict (header_checks f) ≡ Ok tt
      good = told (Ok tt) (ap header_verdict (sym e ∙ g))

      accepted_text_lem : accepted_text head f ≡ listing_of f
      unfolding listing_of accepted_text
      accepted_text_lem =
          rw (le-ltb 65536 (length f) short)
          (sym (check_laws.good_then (λ (q : Reason). refused_text (number_of q)) (header_checks f) ((ltb 32768 ((head.n + head.m) * head.s), 15) ∷ []) (session_text head (length_field f + 12) (between f)) good))

      pub listing_accepted : (read_header f ≡ Ok h) × (accepted_text h f ≡ listing_of f)
      listing_accepted =
          let q : ◌≡◌ {A = Result Head Reason} (Ok h) (Ok head) = sym g ∙ e ∙ good_read good in
          let k : h ≡ head = cc in
          (sym e ∙ g, ap (λ (u : Head). accepted_text u f) k ∙ accepted_text_lem)

-- ---- the desk

record Long (d : Desk) : Type 0 where
  pub store : length d.store ≡ 32768
  pub marks : length d.marks ≡ 1056
  pub scratch : length d.scratch ≡ 32768
  pub numbers : length d.numbers ≡ 1024
  pub content : length d.content ≡ 32768
  pub bounds : length d.bounds ≡ 1024

long : (d : Desk) → desk_wrong d ≡ false → Long d
unfolding lengths_wrong
long d w =
    let is : (k n : ℕ) → not (eqb k n) ≡ false → k ≡ n = λ k n z. eqb-true k n (not-false (eqb k n) z) in
    let f = test_laws.or-false _ (not (eqb (length d.bounds) 1024)) w in
    let e = test_laws.or-false _ (not (eqb (length d.content) 32768)) f.0 in
    let n = test_laws.or-false _ (not (eqb (length d.numbers) 1024)) e.0 in
    let c = test_laws.or-false _ (not (eqb (length d.scratch) 32768)) n.0 in
    let b = test_laws.or-false (not (eqb (length d.store) 32768)) (not (eqb (length d.marks) 1056)) c.0 in
    record {
      store = is _ _ b.0;
      marks = is _ _ b.1;
      scratch = is _ _ c.1;
      numbers = is _ _ n.1;
      content = is _ _ e.1;
      bounds = is _ _ f.1;
    }

-- ---- an accepted header

-- how many bytes lie between region and trailer
abbrev pub width_from : List ℕ → ℕ → ℕ
width_from f field = length f - 64 - (field + 12)

module _ (h : Head) (f : List ℕ) (e : read_header f ≡ Ok h) where
  shape : RightShape h.size h.n h.m h.s
  shape = lent_laws.right_shape h.size h.n h.m h.s (lent_laws.accepted_shape f h e)

  pub blocks-few : (h.n + h.m ≤ 1056) × ((h.n + h.m) * h.s ≤ 4325376) × (h.m * h.s ≤ (h.n + h.m) * h.s)
  blocks-few = (
    omega (arith, shape.n_most, shape.m_most),
    shape.small,
    mul-le-mul {n₁ = h.m} {m₁ = h.s} {n₂ = h.n + h.m} {m₂ = h.s} (omega arith) (omega arith),
  )

  -- region and trailer lie apart
  pub trailer-after : length_field f + 76 ≤ length f
  trailer-after = ltb-false (length f) (length_field f + 76) (check_laws.passed (header_checks f) (told f (Ok tt) (ap header_verdict e))).1.1.1.1.0

  pub limit_text : 32768 < (h.n + h.m) * h.s → refused_text 15 ≡ accepted_text h f
  unfolding accepted_text
  limit_text k = rw (lt-ltb 32768 ((h.n + h.m) * h.s) k)

  module _ (few : (h.n + h.m) * h.s ≤ 32768) where
    pub session-text : (field : ℕ) → field ≡ length_field f
        → session_text h (field + 12) (part f (field + 12) (width_from f field)) ≡ accepted_text h f
    unfolding accepted_text between
    session-text field ef = rw (le-ltb 32768 ((h.n + h.m) * h.s) few, ef)

    module _ (d : Desk) (w : desk_wrong d ≡ false) where
      pub desk_holds : ((h.n + h.m) * h.s ≤ length d.store) × (h.n + h.m ≤ length d.marks) × (h.m * h.s ≤ length d.scratch)
      desk_holds =
          let l = long d w in
          let b = blocks-few in
          (omega (arith, l.store), omega (arith, l.marks), omega (arith, l.scratch))

      pub ready : Ready h (desk_of (take ((h.n + h.m) * h.s) d.store) (take (h.n + h.m) d.marks) (take (h.m * h.s) d.scratch) d.numbers d.content d.bounds)
      ready =
          let l = long d w in
          let b = desk_holds in
          record {
            shape = lent_laws.accepted_shape f h e;
            few = few;
            store_long = length-take-le _ _ b.0;
            marks_long = length-take-le _ _ b.1;
            scratch_long = length-take-le _ _ b.2;
            numbers_long = l.numbers;
            content_long = l.content;
            bounds_long = l.bounds;
          }

-- ---- the call

-- it is cleared by its lengths alone
pub cleared-same : (d d' : Desk) → length d.store ≡ length d'.store → length d.marks ≡ length d'.marks → length d.scratch ≡ length d'.scratch
    → length d.numbers ≡ length d'.numbers → length d.content ≡ length d'.content → length d.bounds ≡ length d'.bounds → cleared d ≡ cleared d'
unfolding cleared
cleared-same d d' a b c n k l = λ i. desk_of (zeros (a i)) (zeros (b i)) (zeros (c i)) (zeros (n i)) (zeros (k i)) (zeros (l i))

module _ (f : List ℕ) (d : Desk) (out : List ℕ) where
  pub listed-wrong : desk_wrong d ≡ true → listed_of (Err Lent) d out ≡ listed f d out
  unfolding listed
  listed-wrong w = rw w

  module _ (w : desk_wrong d ≡ false) where
    pub listed_short : length out < 65536 → listed_of (Err OutputShort) d out ≡ listed f d out
    unfolding listed
    listed_short h = rw (w, lt-ltb (length out) 65536 h)

    pub listed_good : 65536 ≤ length out → (r : ℕ) (after : List ℕ) (desk : Desk) → Printed r out after (listing_of f) → desk ≡ cleared d
        → listed_of (Ok r) desk after ≡ listed f d out
    unfolding listed
    listed_good h r after desk p q = rw (w, le-ltb (length out) 65536 h) (λ i. listed_of (Ok (p.0 i)) (q i) (p.1 i))
