-- What a session's listing says at its end: its counts, its missing ranges, its last word; that the memory is as long as the calls
-- want it; and all lines together. Assumes nothing.
use Rattle.std.specs.Prelude.{Result, Ok, Err}
use Prim.Native.Nat.{ℕ, ◌+◌, ◌*◌, ◌/◌, ◌%◌, ◌≤◌}
use mathlib.Core.Path.{◌≡◌, refl, sym, ap, ◌∙◌, subst}
use mathlib.Core.Bool.{false}
use mathlib.Core.List.{List}
use native.Mathlib.Omega.{arith}
use native.Mathlib.Nat.{mul-le-mul}
use borrow.Author.Tests.{eq-eqb, ne_eqb}
use lib.ListN.{length, take, drop}
use lib.Seq.{take_at}
use Rattle.little.specs.Parts.{put}
use Rattle.little.proofs.Laws.{test_laws}
use Rattle.sfc.specs.answer.Numbers.{Answered, checked, verdict, number_of, reason_of, Checked}
use Rattle.sfc.specs.answer.Places.{place, counts, complete}
use Rattle.sfc.specs.session.Marks.{held_count, barred_count}
use Rattle.sfc.specs.session.Lent.{marks_wrong, lent_wrong, lent_of, rebuild_wrong, count_marks}
use Rattle.sfc.specs.session.Tallies.{no_tallies}
use Rattle.sfc.specs.session.Session.{Session, session_of, blank, session_wrong}
use Rattle.sfc.specs.note.Missing.{missing}
use Rattle.sfc.specs.note.Ranges.{ranges, bounds_for, list_ranges}
use Rattle.sfc.specs.give.HandOut.{content_checks}
use Rattle.sfc.specs.give.Turns.{Turning, turn, Releasing, releasing_of, release}
use Rattle.sfc_walk.specs.Walk.{chunks_of}
use Rattle.sfc_listing.specs.Text.{text}
use Rattle.sfc_listing.specs.Listing.{session_after, Desk, desk_of, refused_word, last_word, head_text, end_text, session_text}
use Rattle.sfc_listing.specs.Lines.{word_of, end_lines, end_room}
use Rattle.sfc_listing.specs.Page.{HasRoom, Puts}
use Rattle.sfc_listing.specs.declared.page.Page.{Page}
use Rattle.sfc_listing.specs.Steps.{text_room, Ready, told_room, OffersTold}
use Rattle.sfc.specs.declared.format.header.Head.{Head}
use Rattle.sfc.specs.declared.answer.reason.Reason.{Reason}
use Rattle.sfc.specs.declared.answer.reason.Reason.TheVariants.{ContentHash}
use Rattle.sfc.specs.declared.session.marks.MarksCounted.{MarksCounted}
use Rattle.sfc_listing.specs.declared.lines.LastWord.{LastWord}
use Rattle.sfc_listing.specs.declared.lines.LastWord.TheVariants.{Complete as Whole, HashDiffers, Incomplete}
use Rattle.sfc.proofs.Laws.{check_laws, lent_laws, offer_laws, give_laws}
use Rattle.sfc.proofs.Theorems.{ranges-few, numbered}
use Rattle.sfc_listing.proofs.LineLaws.{bounds_lines_lem}
use Rattle.sfc_listing.proofs.PageLaws.{puts_then, puts_within}
use Rattle.sfc.specs.declared.give.release.Complete.{Complete}

-- ---- what right marks come to

-- the front of an output is what was put there
take_put : (out b : List ℕ) → take (length b) (put out 0 b) ≡ b
take_put out b = take_at b (drop (length b) out) (length b) refl

-- what an answer that is good holds
pub made : (c d : MarksCounted) → ◌≡◌ {A = Result MarksCounted Reason} (Ok c) (Ok d) → c ≡ d
made c d e = cc

module _ (h : Head) (marks : List ℕ) (right : marks_wrong h.size h.n h.m h.s marks ≡ false) where
  pub counted : count_marks h marks ≡ Ok (counts (held_count marks) (barred_count marks))
  unfolding count_marks
  counted = rw right

  module _ (out left : List ℕ) (room : length out ≡ 1024) (x : Result ℕ Reason) (e : ◌≡◌ {A = Answered (Result ℕ Reason)} (record { answer = x; output = left }) (list_ranges h marks out)) where
    given : ◌≡◌ {A = Answered (Result ℕ Reason)} (record { answer = x; output = left }) (record { answer = Ok (length (bounds_for h marks)); output = put out 0 (bounds_for h marks) })
    given = e ∙ ranges-few.ranges-given h marks out right (omega arith)

    pub bounds-are : x ≡ Ok (length (bounds_for h marks))
    bounds-are = ap (λ (a : Answered (Result ℕ Reason)). a.answer) given

    pub bounds-told : (k : ℕ) → x ≡ Ok k → (take k left ≡ bounds_for h marks) × (k ≤ 1024) × (k % 2 ≡ 0)
    bounds-told k f =
        let q : ◌≡◌ {A = Result ℕ Reason} (Ok k) (Ok (length (bounds_for h marks))) = sym f ∙ bounds-are in
        let l : k ≡ length (bounds_for h marks) = cc in
        let o : left ≡ put out 0 (bounds_for h marks) = ap (λ (a : Answered (Result ℕ Reason)). a.output) given in
        let n : h.n ≤ 1024 = (lent_laws.right_marks h.size h.n h.m h.s marks right).shape.n_most in
        let t : k ≡ 2 * length (ranges (missing h.n marks)) = l ∙ ranges-few.bounds_long (ranges (missing h.n marks)) in
        (rw (l, o) (take_put out (bounds_for h marks)), omega (arith, ranges-few.bounds-few h.n marks n), omega arith)

-- ---- the last word

-- the verdict in an answer
abbrev pub hand_out_seen : Result Complete Reason → Checked
hand_out_seen (Ok c) = Ok tt
hand_out_seen (Err r) = Err r

-- the answer of a release after a turn for all columns
module _ (h : Head) (store marks scratch numbers out : List ℕ) (right : rebuild_wrong h store marks (lent_of scratch numbers out) ≡ false) (room : h.size ≤ length out)
    (z : Turning) (turned : z ≡ turn h store marks scratch numbers 0 (h.s / 2)) (answer : Result Complete Reason) (finished : ℕ) (left given : List ℕ)
    (e : releasing_of answer finished left given ≡ release h store marks z.scratch z.finished out) where
  answer_is : answer ≡ checked (content_checks h store marks) Err (Ok (complete (place h.size)))
  answer_is = ap (λ (x : Releasing). x.answer) e ∙ give_laws.whole-turn h store marks scratch numbers out right room z turned

  told : (v : Checked) → hand_out_seen answer ≡ v → verdict (content_checks h store marks) ≡ v
  told v f = check_laws.tells hand_out_seen Err (Ok (complete (place h.size))) (λ q. refl) refl (content_checks h store marks) v (ap hand_out_seen (sym answer_is) ∙ f)

  refused_word_lem : (r : Reason) → answer ≡ Err r → last_word h (session_of store marks no_tallies) ≡ refused_word r
  unfolding last_word
  refused_word_lem r f = check_laws.refused_all refused_word (content_checks h store marks) (text "complete") r (told (Err r) (ap hand_out_seen f))

  pub word_whole : (c : Complete) → answer ≡ Ok c → word_of Whole ≡ last_word h (session_of store marks no_tallies)
  unfolding word_of last_word
  word_whole c f = sym (check_laws.good_all refused_word (content_checks h store marks) (text "complete") (told (Ok tt) (ap hand_out_seen f)))

  pub word_differs : answer ≡ Err ContentHash → word_of HashDiffers ≡ last_word h (session_of store marks no_tallies)
  unfolding word_of refused_word
  word_differs f = rw (refused_word_lem ContentHash f)

  -- no other reason has the number 51
  pub word_few : (r : Reason) → answer ≡ Err r → (r ≡ ContentHash → ⊥) → word_of Incomplete ≡ last_word h (session_of store marks no_tallies)
  unfolding word_of refused_word
  word_few r f n = rw (refused_word_lem r f, ne_eqb (number_of r) 51 (λ z. n (sym (numbered.reason_back r) ∙ ap reason_of z)))

-- ---- the memory

module _ (h : Head) (d : Desk) (y : Ready h d) where
  module _ (lent : lent_wrong h.size h.n h.m h.s d.store d.marks ≡ false) where
    pub marks_right : marks_wrong h.size h.n h.m h.s d.marks ≡ false
    unfolding lent_wrong
    marks_right = (test_laws.or-false _ _ lent).0

    pub rebuild_right : (scratch numbers content : List ℕ) → length scratch ≡ length d.scratch → length numbers ≡ length d.numbers
        → rebuild_wrong h d.store d.marks (lent_of scratch numbers content) ≡ false
    unfolding rebuild_wrong
    rebuild_right scratch numbers content es en =
        rw (lent, eq-eqb (length scratch) (h.m * h.s) (es ∙ y.scratch_long), eq-eqb (length numbers) 1024 (en ∙ y.numbers_long))

    pub size_fits : h.size ≤ 32768
    size_fits =
        let r = lent_laws.right_lent h.size h.n h.m h.s d.store d.marks lent in
        let k : h.n * h.s ≤ (h.n + h.m) * h.s = mul-le-mul {n₁ = h.n} {m₁ = h.s} {n₂ = h.n + h.m} {m₂ = h.s} (omega arith) (omega arith) in
        omega (arith, (lent_laws.wanted_holds h.size h.s (omega (arith, r.shape.s_least))).1, ap (λ (x : ℕ). x * h.s) r.shape.wanted, y.few)

  -- store and marks are those that the chunks in b leave
  module _ (b store marks : List ℕ) (es : store ≡ (session_after h b).store) (em : marks ≡ (session_after h b).marks) where
    abbrev whole : Session
    whole = session_after h b

    whole_lent : session_wrong h whole ≡ false
    whole_lent = offer_laws.stays_lent h (blank h) (chunks_of h b) (lent_laws.blank_right h y.shape)

    pub ready_walked : (scratch : List ℕ) → length scratch ≡ length d.scratch
        → Ready h (desk_of store marks scratch d.numbers d.content d.bounds) × (lent_wrong h.size h.n h.m h.s store marks ≡ false)
    ready_walked scratch k =
        let l : lent_wrong h.size h.n h.m h.s store marks ≡ false = rw (es, em) whole_lent in
        let r = lent_laws.right_lent h.size h.n h.m h.s store marks l in (
          record {
            shape = y.shape;
            few = y.few;
            store_long = r.store_long;
            marks_long = r.marks_long;
            scratch_long = k ∙ y.scratch_long;
            numbers_long = y.numbers_long;
            content_long = y.content_long;
            bounds_long = y.bounds_long;
          },
          l,
        )

    walked_end : end_text h (session_of store marks no_tallies) ≡ end_text h whole
    unfolding end_text last_word
    walked_end = rw (es, em)

-- ---- the text

pub session_put : (h : Head) (d : Desk) → Ready h d → (b : List ℕ) (from : ℕ) {store marks : List ℕ} {p q r s : Page} → HasRoom text_room p
    → Puts 153 p (head_text h.uuid h.n h.m h.size h.s) q → OffersTold h b from q store marks r
    → Puts end_room r (end_text h (session_of store marks no_tallies)) s → Puts text_room p (session_text h from b) s
unfolding session_text
session_put h d y b from {store} {marks} {p} {q} {r} {s} room f o g =
    let e = subst (λ (t : List ℕ). Puts end_room r t s) (walked_end h d y b store marks o.store-left o.marks-left) g in
    let all = puts_then {a = 153 + told_room} {b = end_room} (omega (arith, room)) (puts_then (omega (arith, room)) f o.told) e in
    puts_within {a = 153 + told_room + end_room} {b = text_room} all (omega arith)

pub report_put : (h : Head) (store marks : List ℕ) (counted : MarksCounted) (bs : List ℕ) (last : LastWord) → counted ≡ counts (held_count marks) (barred_count marks)
    → bs ≡ bounds_for h marks → word_of last ≡ last_word h (session_of store marks no_tallies) → {p q : Page}
    → Puts end_room p (end_lines counted.held counted.barred bs last) q → Puts end_room p (end_text h (session_of store marks no_tallies)) q
unfolding end_text
report_put h store marks counted bs last ec es ew f = rw (ec, es, bounds_lines_lem (ranges (missing h.n marks)), ew) at f
