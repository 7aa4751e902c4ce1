-- 60 is what a reader would say of the header so made, but for five causes of its own (specs/writing/SixtyTheorems.antt). Assumes
-- nothing.
use Prim.Native.Nat.{ℕ, ◌≤◌}
use mathlib.Core.Path.{◌≡◌, refl, sym, ap, ◌∙◌}
use mathlib.Core.Bool.{Bool, true, false, not, ◌&&◌, ◌||◌}
use mathlib.Core.List.{List, [], ◌∷◌, ◌++◌, append-nil}
use lib.Dec.{eqb, lit≤}
use lib.ListN.{length}
use Rattle.little.proofs.Laws.{test_laws}
use Rattle.sfc.specs.answer.Numbers.{Check, verdict, passes, number_of}
use Rattle.sfc.specs.format.Limits.{length_wrong}
use Rattle.sfc.specs.format.Header.{region_of, head_of, region_checks, header_checks, read_header, header_verdict}
use Rattle.sfc.specs.writing.Writer.{Input, preamble, region, body, trailer, outgrown, name_wrong, has_reserved, tags_fall, input_wrong}
use Rattle.sfc.specs.writing.SixtyTheorems.{own_cause, header_made, is_good, SixtyTheorems}
use Rattle.sfc.specs.declared.answer.reason.Reason.{Reason}
use Rattle.sfc.proofs.answer.CheckLaws.{tells}
use Rattle.sfc.proofs.session.SessionLaws.{number_in}
use Rattle.sfc.proofs.writing.RegionBack.{Small, small}
use Rattle.sfc.proofs.writing.HeaderBack.{judged}
use Rattle.std.specs.Prelude.{Err, Ok}

-- a verdict is good exactly if the checks pass
good_of : (cs : List Check) → is_good (verdict cs) ≡ passes cs
good_of [] = refl
good_of ((true, k) ∷ cs) = refl
good_of ((false, k) ∷ cs) = good_of cs

either_way : (t p : Bool) → (t || not p) ≡ not (not t && p)
either_way true p = refl
either_way false p = refl

module _ (w : Input) (o : own_cause w ≡ false) where
  -- the checks that are left to the header
  abbrev left : List Check
  left = (length_wrong (length (body w)), 13) ∷ region_checks (region w)

  sized : Small w
  sized =
      let e₄ = test_laws.or-false _ (tags_fall w.fields) o in
      let e₃ = test_laws.or-false _ (has_reserved w.fields) e₄.0 in
      let e₂ = test_laws.or-false _ (name_wrong w.name) e₃.0 in
      small w (test_laws.or-false (eqb w.s 0) (outgrown w) e₂.0).1

  is_judged : header_verdict (read_header (header_made w)) ≡ verdict left
  unfolding read_header
  is_judged =
      let b : List ℕ = header_made w in
      let e : preamble ++ region w ++ [] ++ trailer w ≡ b = ap (λ (x : List ℕ). x ++ trailer w) (append-nil (preamble ++ region w)) in
      sym (tells header_verdict Err (Ok (head_of (region_of b))) (λ q. refl) refl (header_checks b) (header_verdict (read_header b)) refl)
      ∙ ap (λ (x : List ℕ). verdict (header_checks x)) (sym e) ∙ judged w sized.length_small []

  as_read : input_wrong w ≡ not (is_good (header_verdict (read_header (header_made w))))
  unfolding input_wrong
  as_read =
      rw o (either_way (length_wrong (length (body w))) (passes (region_checks (region w))))
      ∙ sym (ap (λ (x : Bool). not x) (ap is_good is_judged ∙ good_of left))

  read_number : (r : Reason) → header_verdict (read_header (header_made w)) ≡ Err r → (13 ≤ number_of r) × (number_of r ≤ 21)
  read_number r e =
      number_in (λ (k : ℕ). (13 ≤ k) × (k ≤ 21)) left r
      ((lit≤ tt, lit≤ tt), ((lit≤ tt, lit≤ tt), ((lit≤ tt, lit≤ tt), ((lit≤ tt, lit≤ tt), ((lit≤ tt, lit≤ tt), ((lit≤ tt, lit≤ tt), ((lit≤ tt, lit≤ tt), ((lit≤ tt, lit≤ tt), ((lit≤ tt, lit≤ tt), tt)))))))))
      (sym is_judged ∙ e)

own_cause_lem : (w : Input) → own_cause w ≡ true → input_wrong w ≡ true
unfolding input_wrong
own_cause_lem w o = rw o

pub sixty_theorems : SixtyTheorems
sixty_theorems = record { own_cause_lem = own_cause_lem; as_read = as_read; read_number = read_number }
