-- Demand 3 (specs/demand/Demand3.antt), from the code's theorems and from what the calls answer. Assumes nothing.
use Prim.Native.Nat.{ℕ, ◌<◌, ◌≤◌}
use mathlib.Core.Path.{◌≡◌, refl, sym, ◌∙◌, subst}
use mathlib.Core.Bool.{true, not, ◌&&◌}
use mathlib.Core.List.{List}
use native.Mathlib.Omega.{arith}
use borrow.Author.Tests.{ltb-true, lt-ltb, le-ltb, eqb-false, ne_eqb, not-true}
use lib.Dec.{ltb}
use lib.ListN.{length, get_or}
use Rattle.little.specs.Parts.{put, block}
use Rattle.little.proofs.Laws.{test_laws}
use Rattle.cauchy.specs.Decode.{decode, decoded, holding}
use Rattle.cauchy.specs.Theorems.{Shape}
use Rattle.cauchy.proofs.Laws.{missing_laws}
use Rattle.cauchy.proofs.Theorems.{theorems}
use Rattle.sfc.specs.answer.Numbers.{Answered}
use Rattle.sfc.specs.session.Marks.{is_held}
use Rattle.sfc.specs.session.Lent.{marks_wrong, lent_wrong}
use Rattle.sfc.specs.session.Session.{Session}
use Rattle.sfc.specs.note.Missing.{missing, list_missing}
use Rattle.little.specs.Runs.{among}
use Rattle.sfc.specs.demand.Demand3.{Right, held_in, Fitting, Gives, Withholds, HandsOut, Open, Free, Used, Demand3}
use Rattle.sfc.specs.session.Right.{RightLent}
use Rattle.sfc.specs.declared.format.header.Head.{Head}
use Rattle.sfc.proofs.session.OfferLaws.{one_offer}
use Rattle.sfc.proofs.session.HistoryLaws.{many_offers}
use Rattle.sfc.proofs.session.EndLaws.{end-state}
use Rattle.sfc.proofs.session.CountLaws.{tallies_count}
use Rattle.sfc.proofs.session.SessionLaws.{right_lent}
use Rattle.sfc.proofs.note.MissingExact.{missing_exact}
use Rattle.sfc.proofs.session.HeldLaws.{right_code, block-decoded}
use Rattle.sfc.proofs.give.GivenLaws.{gives_enough, gives_held, withholds, hands_out, complete_has_hash}
use Rattle.sfc.proofs.give.UnseenLaws.{block_unseen, turn_unseen, release_unseen, prefix_unseen}
use Rattle.sfc.proofs.session.RightLaws.{accepted_right}
use Rattle.sfc.specs.declared.answer.reason.Reason.{Reason}
use Rattle.std.specs.Prelude.{Result, Ok}

module _ (h : Head) (x : Session) (r : Right h x) where
  lent : RightLent h.size h.n h.m h.s x.store x.marks
  lent = right_lent h.size h.n h.m h.s x.store x.marks r.lent

  shape : Shape h.n h.m h.s x.marks x.store
  shape = right_code h.size h.n h.m h.s x.store x.marks r.lent r.bytes

  -- ---- N or more held

  module _ (enough : h.n ≤ held_in x) where
    holds : h.n ≤ holding x.marks
    holds = omega (arith)

    module _ (d : List ℕ) (f : Fitting h x d) where
      known : (j : ℕ) → j < h.n → block h.s d j ≡ decode h.n h.m h.s x.marks x.store j
      known j q = theorems.known h.n h.m h.s x.marks x.store d shape f.blocks f.fits holds j q

      block_known : (j : ℕ) → j < h.n → Gives h x j (block h.s d j)
      block_known j q = subst (Gives h x j) (sym (known j q)) (gives_enough h x j q enough)

      pub fitting_decoded : decoded h.n h.m h.s x.marks x.store ≡ d
      fitting_decoded = sym (missing_laws.as_decoded h.n h.m h.s x.marks x.store d f.blocks.0 known)

      content_known : HandsOut h x d
      content_known = hands_out h x d r.lent enough fitting_decoded

    used_given : (d : List ℕ) × Used h x d × ((j : ℕ) → j < h.n → Gives h x j (block h.s d j)) × HandsOut h x d × ((e : List ℕ) → Used h x e → e ≡ d)
    used_given =
        let u = theorems.used h.n h.m h.s x.marks x.store shape holds in (
          decoded h.n h.m h.s x.marks x.store,
          record { blocks = u.0; fits = u.1 },
          (λ j q.
              subst (Gives h x j) (sym (block-decoded h.n h.m h.s x.marks x.store j shape.even lent.store_long q)) (gives_enough h x j q enough)),
          hands_out h x (decoded h.n h.m h.s x.marks x.store) r.lent enough refl,
          (λ e v. theorems.used_one h.n h.m h.s x.marks x.store e shape holds v.blocks v.fits),
        )

  -- ---- fewer held

  some_fits : held_in x ≤ h.n → (d : List ℕ) × Fitting h x d
  some_fits v =
      let s = theorems.some h.n h.m h.s x.marks x.store shape (omega (arith)) in
      (s.0, record { blocks = s.1; fits = s.2 })

  block_free : (j : ℕ) → Open h x j → Withholds h x j × Free h x j
  block_free j o = (withholds h x j o.is_data o.few o.unheld, any_bytes)
    where
      any_bytes : Free h x j
      any_bytes v l b =
          let f = theorems.free h.n h.m h.s x.marks x.store shape (omega (arith, o.few)) j o.is_data o.unheld v (omega arith, b) in
          (f.0, record { blocks = f.1; fits = f.2 }, f.3)

  -- ---- the missing list

  listed : (j : ℕ) → among j (missing h.n x.marks) ≡ (ltb (held_in x) h.n && (ltb j h.n && not (is_held (get_or x.marks j 0))))
  listed j = missing_exact.exact h.n x.marks (omega (arith, lent.marks_long)) j

  missing_open : (j : ℕ) → among j (missing h.n x.marks) ≡ true → Open h x j
  missing_open j e =
      let a = test_laws.and_both _ _ (sym (listed j) ∙ e) in
      let b = test_laws.and_both _ _ a.1 in
      record {
        is_data = ltb-true j h.n b.0;
        few = ltb-true (held_in x) h.n a.0;
        unheld = eqb-false (get_or x.marks j 0) 1 (not-true (is_held (get_or x.marks j 0)) b.1);
      }

  open_missing : (j : ℕ) → Open h x j → among j (missing h.n x.marks) ≡ true
  open_missing j o = listed j ∙ (rw (lt-ltb (held_in x) h.n o.few, lt-ltb j h.n o.is_data, ne_eqb (get_or x.marks j 0) 1 o.unheld))

  missing-given : (out : List ℕ) → length (missing h.n x.marks) ≤ length out
      → ◌≡◌ {A = Answered (Result ℕ Reason)} (list_missing h x.marks out)
      (record { answer = Ok (length (missing h.n x.marks)); output = put out 0 (missing h.n x.marks) })
  unfolding list_missing lent_wrong
  missing-given out l =
      rw ((test_laws.or-false (marks_wrong h.size h.n h.m h.s x.marks) _ r.lent).0, le-ltb (length out) (length (missing h.n x.marks)) l)

pub demand3 : Demand3
demand3 = record {
  accepted_right = accepted_right;
  end-state = end-state;
  one_offer = one_offer;
  many_offers = many_offers;
  tallies_count = tallies_count;
  block_known = block_known;
  block_held = λ h x r j q. gives_held h x j q;
  block_free = block_free;
  missing_exact = λ h x r. (missing_exact.rising h.n x.marks, λ j. (missing_open h x r j, open_missing h x r j));
  missing-given = missing-given;
  content_known = content_known;
  complete_has_hash = complete_has_hash;
  some_fits = some_fits;
  used_given = used_given;
  absent_unseen = λ h x y s. (block_unseen h x y s, turn_unseen h x y s, release_unseen h x y s, prefix_unseen h x y s);
}
