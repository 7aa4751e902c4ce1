-- What a block request, and turns and a release, answer where 71, 53 and 52 do not refuse them, and that complete is said only of
-- bytes with the header's hash. Assumes nothing.
use Prim.Native.Nat.{ℕ, ◌<◌, ◌≤◌}
use mathlib.Core.Path.{◌≡◌, refl, ap, ◌∙◌, subst}
use mathlib.Core.Bool.{Bool, true, false, not, ◌&&◌, and-false}
use mathlib.Core.List.{List}
use borrow.Author.Tests.{eq-eqb, ne_eqb, le-ltb, lt-ltb, lt-leb}
use lib.Dec.{ltb}
use lib.ListN.{length, get_or, take}
use lib.Seq.{take_at}
use Rattle.little.proofs.Laws.{test_laws}
use Rattle.blake3.specs.Tree.{hash}
use Rattle.cauchy.specs.Code.{Held}
use Rattle.cauchy.specs.Decode.{decoded}
use Rattle.sfc.specs.session.Marks.{is_held, held_count}
use Rattle.sfc.specs.session.Session.{Session, block_of, session_wrong}
use Rattle.sfc.specs.session.Offer.{logged}
use Rattle.sfc.specs.session.Lent.{lent_wrong, Lent, rebuild_wrong}
use Rattle.sfc.specs.give.HandOut.{lent_after, content_of}
use Rattle.sfc.specs.give.Turns.{joined_of}
use Rattle.sfc.specs.give.TurnTheorems.{in_turns}
use Rattle.sfc.specs.give.Block.{block_given, block_request}
use Rattle.sfc.specs.demand.Demand3.{Gives, Withholds, HandsOut, CompleteHasHash}
use Rattle.sfc.specs.declared.format.header.Head.{Head}
use Rattle.sfc.proofs.session.HeldLaws.{decode-held}
use Rattle.sfc.proofs.give.TurnLaws.{right_columns}
use Rattle.sfc.proofs.give.ReleaseLaws.{length-joined_bytes}
use Rattle.sfc.proofs.give.ColumnLaws.{made_released}
use Rattle.sfc.proofs.give.TurnTheorems.{turns_session, made_in_turns, none_in_turns, released, release_gives}

-- what is lent with scratch is lent rightly without it
pub lent_right : (h : Head) (store marks : List ℕ) (l : Lent) → rebuild_wrong h store marks l ≡ false → lent_wrong h.size h.n h.m h.s store marks ≡ false
unfolding rebuild_wrong
lent_right h store marks l e = (test_laws.or-false _ _ (test_laws.or-false _ _ e).0).0

-- ---- the block request

module _ (h : Head) (x : Session) (j : ℕ) (is_data : j < h.n) where
  gives : (ltb (held_count x.marks) h.n && not (is_held (get_or x.marks j 0))) ≡ false → Gives h x j (block_given h x.store x.marks j)
  unfolding block_request
  gives e l r = rw (r.right, lt-leb h.n j is_data, le-ltb (length l.output) h.s r.long, e)

  pub gives_enough : h.n ≤ held_count x.marks → Gives h x j (block_given h x.store x.marks j)
  gives_enough v = gives (rw (le-ltb (held_count x.marks) h.n v))

  pub gives_held : Held x.marks j → Gives h x j (block_of h x j)
  gives_held o =
      subst (Gives h x j) (decode-held h.n h.m h.s x.marks x.store j o)
      (gives (rw (eq-eqb (get_or x.marks j 0) 1 o) (and-false (ltb (held_count x.marks) h.n))))

  pub withholds : held_count x.marks < h.n → ¬ (Held x.marks j) → Withholds h x j
  unfolding block_request
  withholds v o l r =
      rw (r.right, lt-leb h.n j is_data, le-ltb (length l.output) h.s r.long, lt-ltb (held_count x.marks) h.n v, ne_eqb (get_or x.marks j 0) 1 o)

-- ---- turns and a release

pub hands_out : (h : Head) (x : Session) (d : List ℕ) → session_wrong h x ≡ false → h.n ≤ held_count x.marks
    → decoded h.n h.m h.s x.marks x.store ≡ d → HandsOut h x d
unfolding content_of
hands_out h x d e v c scratch budgets out l a o =
    let t = turns_session h budgets (logged x scratch 0) in
    made_released h scratch (in_turns h x scratch budgets) (made_in_turns h x scratch budgets l a) out (none_in_turns h x scratch budgets l a)
    (rw t e) (rw t v) o (take h.size d) (rw t (ap (take h.size) c))

pub lent_output : (b : Bool) (l : Lent) (out : List ℕ) → (lent_after b l out).output ≡ out
unfolding lent_after
lent_output true l out = refl
lent_output false l out = refl

-- ---- complete

pub complete_has_hash : CompleteHasHash
complete_has_hash h store marks scratch f out p e =
    let t = released h store marks scratch f out p e in
    let g = release_gives h store marks scratch f out p e in
    let r = right_columns h.size h.n h.m h.s store marks scratch f t.0.right in (
      g.0,
      t.0.room,
      ap (λ (b : List ℕ). hash (take h.size b)) g.1
          ∙ ap hash (take_at (joined_of h store marks scratch) _ h.size (length-joined_bytes h.size h.n h.m h.s store marks scratch f r t.0.enough))
          ∙ t.0.has_hash,
    )
