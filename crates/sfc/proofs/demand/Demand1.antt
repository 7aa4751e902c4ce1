-- Demand 1 (specs/demand/Demand1.antt), call by call. Assumes nothing.
use Prim.Native.Nat.{ℕ, ◌+◌, ◌*◌, ◌≤◌, ◌<◌}
use mathlib.Core.Path.{◌≡◌, refl, sym, ap, ap₂, ◌∙◌, subst}
use mathlib.Core.Bool.{Bool, true, false, cond, not, ◌&&◌, ◌||◌, false≢true}
use mathlib.Core.Logic.{◌≢◌}
use mathlib.Core.List.{List, [], ◌∷◌, ◌++◌}
use native.Mathlib.Omega.{arith}
use borrow.Author.Tests.{eqb-true, ne_eqb, ltb-false, leb-false, le-ltb, lt-leb, not-false}
use lib.Dec.{eqb, ltb, lit≤}
use lib.ListN.{length, get_or}
use Rattle.little.specs.Parts.{put}
use Rattle.little.proofs.Laws.{test_laws}
use Rattle.little.specs.Runs.{any, zeros, same, among}
use Rattle.blake3.specs.Tree.{hash}
use Rattle.sfc.specs.answer.Numbers.{Check, checked, verdict, passes, number_of, reason_of, Checked}
use Rattle.sfc.specs.format.Header.{length_field, header_checks, region_of, head_of, read_header, header_verdict}
use Rattle.sfc.specs.format.Extension.{fields_of}
use Rattle.sfc.specs.format.Chunk.{index_of, alone_checks, chunk_length, measure_checks, measure_chunk}
use Rattle.sfc.specs.format.Spot.{spot_for, check_chunk}
use Rattle.sfc.specs.format.Lookup.{found_among, extension_of, extension_place, find_field}
use Rattle.sfc.specs.answer.Places.{number, place, broken, complete, counts, field_found, unverified_block, unverified_prefix}
use Rattle.sfc.specs.session.Marks.{is_held, held_count, barred_count}
use Rattle.sfc.specs.session.Tallies.{counted, counted_refusal}
use Rattle.sfc.specs.session.Session.{Session, session_of, with_block, settled, spot_of}
use Rattle.sfc.specs.session.Offer.{Logged, logged, all_checks, offer_verdict, restarts, logged_after, offered}
use Rattle.sfc.specs.session.SessionTheorems.{SameKept}
use Rattle.sfc.specs.session.Lent.{lent_wrong, Lent, rebuild_wrong, columns_wrong, count_checks, count_marks}
use Rattle.sfc.specs.give.HandOut.{lent_after}
use Rattle.sfc.specs.give.Turns.{columns_left, turn_count, turn_done, Turning, turning_of, turn_checks, turn, joined_of, joined_checks, Releasing, releasing_of, release_lent, release_checks, release}
use Rattle.sfc.specs.give.TurnTheorems.{AsBefore}
use Rattle.sfc.specs.give.Block.{block_given, block_lent, block_checks, block_request}
use Rattle.sfc.specs.give.Prefix.{prefix_blocks, prefix_of, prefix_checks, prefix_given}
use Rattle.sfc.specs.note.Missing.{missing, missing_checks, list_missing}
use Rattle.sfc.specs.note.Note.{note_for, note_checks, write_note, count_in, ranges_in, read_checks, good_note, read_note}
use Rattle.sfc.specs.note.Ranges.{bounds, bounds_for, range_checks, list_ranges}
use Rattle.sfc.specs.writing.Writer.{Input, file_of, writer_checks, write_file}
use Rattle.sfc.specs.demand.Demand1.{OneOf, Leaves, Ends, lent_left, Demand1}
use Rattle.sfc.specs.declared.format.header.Head.{Head}
use Rattle.sfc.specs.declared.answer.places.BlockNumber.{BlockNumber}
use Rattle.sfc.specs.declared.answer.places.BytePlace.{BytePlace}
use Rattle.sfc.specs.declared.answer.reason.Reason.{Reason}
use Rattle.sfc.specs.declared.session.offer.Verdict.TheVariants.{Refused as NotTaken}
use Rattle.sfc.specs.declared.session.tallies.Tallies.{Tallies}
use Rattle.sfc.proofs.answer.CheckLaws.{passed, good_all, good_passes, front_good, refused_all, tells}
use Rattle.sfc.proofs.session.SessionLaws.{right_lent, number_in}
use Rattle.sfc.proofs.session.BreakLaws.{check_refused, kept_refused, offer_spot}
use Rattle.sfc.proofs.session.KeptLaws.{by_verdict, own_offer, restart}
use Rattle.sfc.proofs.session.HistoryLaws.{settled_tallies}
use Rattle.sfc.proofs.session.OfferLaws.{one_offer}
use Rattle.sfc.proofs.note.NoteLaws.{length-bounds}
use Rattle.sfc.proofs.session.HeldLaws.{length-decode}
use Rattle.sfc.proofs.give.TurnLaws.{right_columns}
use Rattle.sfc.proofs.give.ReleaseLaws.{length-joined_bytes}
use Rattle.sfc.proofs.give.ColumnLaws.{turn-not, kept_on}
use Rattle.sfc.proofs.give.TurnTheorems.{released, good_release}
use Rattle.sfc.proofs.give.GivenLaws.{lent_right, lent_output}
use Rattle.sfc.proofs.format.FieldInside.{field_in_region}
use Rattle.sfc.proofs.answer.RefusalLaws.{leaves, ends, early_told}
use Rattle.sfc.proofs.format.ChunkLaws.{measured_seen}
use Rattle.sfc.specs.declared.answer.places.ColumnCount.{ColumnCount}
use Rattle.sfc.specs.declared.give.release.Complete.{Complete}
use Rattle.sfc.specs.declared.session.marks.MarksCounted.{MarksCounted}
use Rattle.sfc.specs.declared.note.resend.NoteRead.{NoteRead}
use Rattle.sfc.specs.declared.give.block.UnverifiedBlock.{UnverifiedBlock}
use Rattle.sfc.specs.declared.format.lookup.FieldFound.{FieldFound}
use Rattle.sfc.specs.declared.give.prefix.UnverifiedPrefix.{UnverifiedPrefix}
use Rattle.std.specs.Prelude.{Option, Result, Some, Ok, Err, IsOk, is_ok}

-- ---- the verdict in each kind of answer

abbrev field_seen : Result (Option FieldFound) Reason → Checked
field_seen (Ok f) = Ok tt
field_seen (Err r) = Err r

abbrev pub hand_out_seen : Result Complete Reason → Checked
hand_out_seen (Ok c) = Ok tt
hand_out_seen (Err r) = Err r

abbrev prefix_seen : Result UnverifiedPrefix Reason → Checked
prefix_seen (Ok p) = Ok tt
prefix_seen (Err r) = Err r

abbrev block_seen : Result UnverifiedBlock Reason → Checked
block_seen (Ok b) = Ok tt
block_seen (Err r) = Err r

abbrev listed_seen : Result ℕ Reason → Checked
listed_seen (Ok k) = Ok tt
listed_seen (Err r) = Err r

abbrev pub written_seen : Result ℕ Reason → Checked
written_seen (Ok k) = Ok tt
written_seen (Err r) = Err r

abbrev reading_seen : Result NoteRead Reason → Checked
reading_seen (Ok a) = Ok tt
reading_seen (Err r) = Err r

-- ---- header and chunk

header_refused : (b : List ℕ) (r : Reason) → read_header b ≡ Err r → (10 ≤ number_of r) × (number_of r ≤ 23)
unfolding read_header
header_refused b r e =
    let t = tells header_verdict Err (Ok (head_of (region_of b))) (λ q. refl) refl (header_checks b) (Err r) (ap header_verdict e) in
    number_in (λ (k : ℕ). (10 ≤ k) × (k ≤ 23)) (header_checks b) r
    ((lit≤ tt, lit≤ tt), ((lit≤ tt, lit≤ tt), ((lit≤ tt, lit≤ tt), ((lit≤ tt, lit≤ tt), ((lit≤ tt, lit≤ tt), ((lit≤ tt, lit≤ tt), ((lit≤ tt, lit≤ tt), ((lit≤ tt, lit≤ tt), ((lit≤ tt, lit≤ tt), ((lit≤ tt, lit≤ tt), ((lit≤ tt, lit≤ tt), ((lit≤ tt, lit≤ tt), ((lit≤ tt, lit≤ tt), ((lit≤ tt, lit≤ tt), ((lit≤ tt, lit≤ tt), tt))))))))))))))) t

chunk_refused : (h : Head) (c : List ℕ) (r : Reason) (p : Option BytePlace) → check_chunk h c ≡ Err (broken r p)
    → OneOf r (71 ∷ 30 ∷ 31 ∷ 32 ∷ 33 ∷ 34 ∷ 35 ∷ 36 ∷ 37 ∷ 38 ∷ 39 ∷ 40 ∷ []) × (p ≡ spot_for h c (number_of r))
unfolding any
chunk_refused h c r p e =
    let w = check_refused h c r p e in (
      number_in (λ (k : ℕ). among k (71 ∷ 30 ∷ 31 ∷ 32 ∷ 33 ∷ 34 ∷ 35 ∷ 36 ∷ 37 ∷ 38 ∷ 39 ∷ 40 ∷ []) ≡ true) (alone_checks h c) r
          (refl, (refl, (refl, (refl, (refl, (refl, (refl, (refl, (refl, (refl, (refl, (refl, (refl, tt))))))))))))) w.0,
      w.1,
    )

measure_refused : (h : Head) (b : List ℕ) (r : Reason) → measure_chunk h b ≡ Err r → OneOf r (71 ∷ 30 ∷ 31 ∷ 32 ∷ [])
unfolding measure_chunk any
measure_refused h b r e =
    number_in (λ (k : ℕ). among k (71 ∷ 30 ∷ 31 ∷ 32 ∷ []) ≡ true) (measure_checks h b) r (refl, (refl, (refl, (refl, (refl, tt)))))
    (tells measured_seen Err (Ok (chunk_length b)) (λ q. refl) refl (measure_checks h b) (Err r) (ap measured_seen e))

abbrev counted_seen : Result MarksCounted Reason → Checked
counted_seen (Ok c) = Ok tt
counted_seen (Err r) = Err r

count_refused : (h : Head) (marks : List ℕ) (r : Reason) → count_marks h marks ≡ Err r → OneOf r (71 ∷ [])
unfolding count_marks any
count_refused h marks r e =
    number_in (λ (k : ℕ). among k (71 ∷ []) ≡ true) (count_checks h marks) r (refl, tt)
    (tells counted_seen Err (Ok (counts (held_count marks) (barred_count marks))) (λ q. refl) refl (count_checks h marks) (Err r) (ap counted_seen e))

-- ---- a field

module _ (b : List ℕ) (tag : ℕ) where
  field_told : (v : Checked) → field_seen (find_field b tag) ≡ v → verdict (header_checks b) ≡ v
  unfolding find_field
  field_told v e = tells field_seen Err (Ok (found_among tag (extension_place (region_of b)) (fields_of (extension_of (region_of b))))) (λ q. refl) refl (header_checks b) v e

  field_refused : (r : Reason) → find_field b tag ≡ Err r
      → OneOf r (10 ∷ 11 ∷ 12 ∷ 13 ∷ 14 ∷ 15 ∷ 16 ∷ 17 ∷ 18 ∷ 19 ∷ 20 ∷ 21 ∷ 22 ∷ 23 ∷ []) × (read_header b ≡ Err r)
  unfolding read_header any
  field_refused r e =
      let t = field_told (Err r) (ap field_seen e) in (
        number_in (λ (k : ℕ). among k (10 ∷ 11 ∷ 12 ∷ 13 ∷ 14 ∷ 15 ∷ 16 ∷ 17 ∷ 18 ∷ 19 ∷ 20 ∷ 21 ∷ 22 ∷ 23 ∷ []) ≡ true) (header_checks b) r
            (refl, (refl, (refl, (refl, (refl, (refl, (refl, (refl, (refl, (refl, (refl, (refl, (refl, (refl, (refl, tt))))))))))))))) t,
        refused_all Err (header_checks b) (Ok (head_of (region_of b))) r t,
      )

  field_inside : (p long : ℕ) → find_field b tag ≡ Ok (Some (field_found (place p) long)) → IsOk (read_header b) × (p + long ≤ length_field b + 12) × (length_field b + 76 ≤ length b)
  unfolding read_header find_field
  field_inside p long e =
      let t = field_told (Ok tt) (ap field_seen e) in
      let g : ◌≡◌ {A = Result (Option FieldFound) Reason} (Ok (found_among tag (extension_place (region_of b)) (fields_of (extension_of (region_of b))))) (Ok (Some (field_found (place p) long))) = sym (good_all Err (header_checks b) _ t) ∙ e in
      let f : found_among tag (extension_place (region_of b)) (fields_of (extension_of (region_of b))) ≡ Some (field_found (place p) long) = cc in
      let i = field_in_region b tag p long t f in
      (ap is_ok (good_all Err (header_checks b) (Ok (head_of (region_of b))) t), i.0, i.1)

-- ---- an offer

module _ (h : Head) (y : Logged) (c : List ℕ) (r : Reason) (e : offer_verdict h y c ≡ NotTaken r) where
  offer_place : (offered h y c).spot ≡ spot_for h c (number_of r)
  unfolding spot_of
  offer_place = offer_spot h y c (NotTaken r) e

  offer_numbers : OneOf r (71 ∷ 43 ∷ 30 ∷ 31 ∷ 32 ∷ 33 ∷ 34 ∷ 35 ∷ 36 ∷ 37 ∷ 38 ∷ 39 ∷ 40 ∷ 41 ∷ 42 ∷ [])
  unfolding any
  offer_numbers =
      number_in (λ (k : ℕ). among k (71 ∷ 43 ∷ 30 ∷ 31 ∷ 32 ∷ 33 ∷ 34 ∷ 35 ∷ 36 ∷ 37 ∷ 38 ∷ 39 ∷ 40 ∷ 41 ∷ 42 ∷ []) ≡ true) (all_checks h y c) r
      (refl, (refl, (refl, (refl, (refl, (refl, (refl, (refl, (refl, (refl, (refl, (refl, (refl, (refl, (refl, (refl, (refl, tt)))))))))))))))))
      (kept_refused h y c r e)

  -- all that is kept after a refusal by a number
  refused_by : ℕ → Logged
  refused_by k =
      let x : Session = cond (eqb k 41) (with_block h y.session (index_of c) (zeros h.s) 2) y.session in
      logged (session_of x.store x.marks (counted_refusal x.tallies k)) (cond (eqb k 41) (zeros (length y.scratch)) y.scratch)
      (cond (eqb k 41) 0 y.finished)

  offer_uncounted : OneOf r (71 ∷ 43 ∷ []) → logged_after h y c ≡ y
  unfolding any settled counted counted_refusal restarts refused_by
  offer_uncounted o = by_verdict h y c (NotTaken r) e ∙ go (eqb (number_of r) 71) (eqb (number_of r) 43) refl refl o
    where
      go : (a b : Bool) → eqb (number_of r) 71 ≡ a → eqb (number_of r) 43 ≡ b → (a || (b || false)) ≡ true → refused_by (number_of r) ≡ y
      go true b f g q = ap refused_by (eqb-true (number_of r) 71 f)
      go false true f g q = ap refused_by (eqb-true (number_of r) 43 g)
      go false false f g q = absurd (false≢true q)

  offer_counted : (logged_after h y c).session.tallies ≡ counted_refusal y.session.tallies (number_of r)
  unfolding counted
  offer_counted =
      ap (λ (z : Logged). z.session.tallies) (by_verdict h y c (NotTaken r) e)
      ∙ ap (λ (t : Tallies). counted_refusal t (number_of r)) (settled_tallies h y.session c (NotTaken r))

  offer_kept : number_of r ≢ 41 → SameKept y.session (logged_after h y c).session × AsBefore y (logged_after h y c)
  unfolding restarts
  offer_kept d =
      let s = kept_on h y c (ap restarts e ∙ ne_eqb (number_of r) 41 d) in
      (record { store = s.0; marks = s.1 }, restart.refused h y c r e d)

-- ---- a turn and a release

abbrev turn_seen : Result ColumnCount Reason → Checked
turn_seen (Ok k) = Ok tt
turn_seen (Err r) = Err r

turn_refused : (h : Head) (store marks scratch numbers : List ℕ) (f b : ℕ) (r : Reason) → (turn h store marks scratch numbers f b).answer ≡ Err r
    → OneOf r (71 ∷ 50 ∷ []) × ◌≡◌ {A = Turning} (turn h store marks scratch numbers f b) (turning_of (Err r) f scratch numbers)
unfolding turn any
turn_refused h store marks scratch numbers f b r e =
    let t = tells (λ (z : Turning). turn_seen z.answer) (λ (q : Reason). turning_of (Err q) f scratch numbers)
    (turn_done h store marks scratch f (turn_count h marks f b)) (λ q. refl) refl (turn_checks h store marks scratch numbers f) (Err r) (ap turn_seen e) in
    (number_in (λ (k : ℕ). among k (71 ∷ 50 ∷ []) ≡ true) (turn_checks h store marks scratch numbers f) r (refl, (refl, tt)) t, turn-not h store marks scratch numbers f b r t)

handed_one : (a b : Reason) → ◌≡◌ {A = Result Complete Reason} (Err a) (Err b) → a ≡ b
handed_one a b e = cc

no_answer : {A : Type 0} (r : Reason) (p : BytePlace) → ◌≡◌ {A = Result Complete Reason} (Err r) (Ok (complete p)) → A
no_answer r p e = absurd (let z : ◌≡◌ {A = ℕ} 0 1 = cc in omega arith)

module _ (h : Head) (store marks scratch : List ℕ) (f : ℕ) (out : List ℕ) where
  -- a release by what its five tests say
  abbrev front : Bool → Bool → Bool → Bool → List Check
  front a b c d = (a, 71) ∷ (b, 52) ∷ (c, 50) ∷ (d, 54) ∷ []

  abbrev release_by : Bool → Bool → Bool → Bool → Bool → Releasing
  release_by a b c d e = record {
    answer = checked (front a b c d ++ ((e, 51) ∷ [])) Err (Ok (complete (place h.size)));
    finished = cond (passes (front a b c d)) 0 f;
    scratch = cond (passes (front a b c d)) (zeros (length scratch)) scratch;
    output = checked (front a b c d ++ ((e, 51) ∷ [])) (λ (r : Reason). out) (put out 0 (joined_of h store marks scratch));
  }

  abbrev Left : Releasing → Reason → Type 0
  Left z r = OneOf r (71 ∷ 52 ∷ 50 ∷ 54 ∷ 51 ∷ [])
      × ◌≡◌ {A = Releasing} z (releasing_of (Err r) (cond (eqb (number_of r) 51) 0 f) (cond (eqb (number_of r) 51) (zeros (length scratch)) scratch) out)

  left_by : (a b c d e : Bool) (r : Reason) → (release_by a b c d e).answer ≡ Err r → Left (release_by a b c d e) r
  unfolding any
  left_by true b c d e r q = subst (Left (release_by true b c d e)) (handed_one (reason_of 71) r q) (refl, refl)
  left_by false true c d e r q = subst (Left (release_by false true c d e)) (handed_one (reason_of 52) r q) (refl, refl)
  left_by false false true d e r q = subst (Left (release_by false false true d e)) (handed_one (reason_of 50) r q) (refl, refl)
  left_by false false false true e r q = subst (Left (release_by false false false true e)) (handed_one (reason_of 54) r q) (refl, refl)
  left_by false false false false true r q = subst (Left (release_by false false false false true)) (handed_one (reason_of 51) r q) (refl, refl)
  left_by false false false false false r q = no_answer r (place h.size) (sym q)

  release_refused : (r : Reason) → (release h store marks scratch f out).answer ≡ Err r → Left (release h store marks scratch f out) r
  unfolding release
  release_refused r e =
      left_by (columns_wrong h.size h.n h.m h.s store marks scratch f) (ltb (length out) h.size) (ltb (held_count marks) h.n)
      (ltb 0 (columns_left h.n h.s marks f)) (not (same (hash (joined_of h store marks scratch)) h.hash)) r e

  release_ends : (p : ℕ) → (release h store marks scratch f out).answer ≡ Ok (complete (place p))
      → Ends p out (release h store marks scratch f out).output
      × ((release h store marks scratch f out).scratch ≡ zeros (length scratch)) × ((release h store marks scratch f out).finished ≡ 0)
  unfolding release
  release_ends p e =
      let t = released h store marks scratch f out (place p) e in
      let k : h.size ≡ p = ap (λ (q : BytePlace). q.0) t.1 in
      let r = right_columns h.size h.n h.m h.s store marks scratch f t.0.right in
      let g = good_release h store marks scratch f out t.0 in
      let n = length-joined_bytes h.size h.n h.m h.s store marks scratch f r t.0.enough in
      let w : passes (release_lent h store marks scratch f out) ≡ true
      = good_passes (release_lent h store marks scratch f out) (front_good (release_lent h store marks scratch f out) (joined_checks h store marks scratch) g) in (
        ends (release_checks h store marks scratch f out) out (joined_of h store marks scratch) p g (n ∙ k) (omega (arith, t.0.room, k)),
        ap (λ (b : Bool). cond b (zeros (length scratch)) scratch) w,
        ap (λ (b : Bool). cond b 0 f) w,
      )

-- ---- the block request

-- the lengths that 71 lets through
lengths : (h : Head) (store marks : List ℕ) (l : Lent) → rebuild_wrong h store marks l ≡ false → (length l.scratch ≡ h.m * h.s) × (length l.numbers ≡ 1024)
unfolding rebuild_wrong
lengths h store marks l e =
    let w : Bool = lent_wrong h.size h.n h.m h.s store marks in
    let s : Bool = not (eqb (length l.scratch) (h.m * h.s)) in
    let a = test_laws.or-false (w || s) (not (eqb (length l.numbers) 1024)) e in
    let b = test_laws.or-false w s a.0 in (
      eqb-true (length l.scratch) (h.m * h.s) (not-false (eqb (length l.scratch) (h.m * h.s)) b.1),
      eqb-true (length l.numbers) 1024 (not-false (eqb (length l.numbers) 1024) a.1),
    )

wiped : (past : Bool) (l : Lent) (out : List ℕ) (a b : ℕ) → past ≡ true → (length l.scratch ≡ a) × (length l.numbers ≡ b)
    → ((lent_after past l out).scratch ≡ zeros a) × ((lent_after past l out).numbers ≡ zeros b)
unfolding lent_after
wiped past l out a b e n = rw e (ap (λ (k : ℕ). zeros k) n.0, ap (λ (k : ℕ). zeros k) n.1)

module _ (h : Head) (store marks : List ℕ) (j : ℕ) (l : Lent) where
  block-told : (v : Checked) → block_seen (block_request h store marks j l).answer ≡ v → verdict (block_checks h store marks j l) ≡ v
  unfolding block_request
  block-told v e = tells block_seen Err (Ok (unverified_block (number j) (place (j * h.s)))) (λ q. refl) refl (block_checks h store marks j l) v e

  block_refused : (r : Reason) → (block_request h store marks j l).answer ≡ Err r
      → OneOf r (71 ∷ 53 ∷ 52 ∷ 50 ∷ []) × ((block_request h store marks j l).lent ≡ lent_left r (71 ∷ 53 ∷ 52 ∷ []) l)
  unfolding block_request any
  block_refused r e =
      let t = block-told (Err r) (ap block_seen e) in
      let few : Bool = ltb (held_count marks) h.n && not (is_held (get_or marks j 0)) in
      let g = leaves (block_checks h store marks j l) r (71 ∷ 53 ∷ 52 ∷ 50 ∷ []) l.output (put l.output 0 (block_given h store marks j)) (refl, (refl, (refl, (refl, tt)))) t in (
        g.number,
        ap₂ (λ (b : Bool) (out : List ℕ). lent_after b l out)
            (early_told (block_lent h store marks j l) ((few, 50) ∷ []) r (71 ∷ 53 ∷ 52 ∷ []) (refl, (refl, (refl, tt))) (refl, tt) t)
            g.output,
      )

  block_ends : (i : BlockNumber) (p : BytePlace) → (block_request h store marks j l).answer ≡ Ok (unverified_block i p)
      → Ends h.s l.output (block_request h store marks j l).lent.output
  unfolding block_request
  block_ends i p e =
      let cs : List Check = block_checks h store marks j l in
      let t = block-told (Ok tt) (ap block_seen e) in
      let q = passed cs t in
      let w = right_lent h.size h.n h.m h.s store marks (lent_right h store marks l q.0) in
      rw (lent_output (passes (block_lent h store marks j l)) l (checked cs (λ (r : Reason). l.output) (put l.output 0 (block_given h store marks j))))
      (ends cs l.output (block_given h store marks j) h.s t
      (length-decode h.n h.m h.s marks store j w.shape.s_even w.store_long (leb-false h.n j q.1.0))
      (ltb-false (length l.output) h.s q.1.1.0))

  block-scratch : rebuild_wrong h store marks l ≡ false → j < h.n → h.s ≤ length l.output
      → ((block_request h store marks j l).lent.scratch ≡ zeros (h.m * h.s)) × ((block_request h store marks j l).lent.numbers ≡ zeros 1024)
  unfolding block_request
  block-scratch e i o =
      wiped (passes (block_lent h store marks j l)) l _ (h.m * h.s) 1024 (rw (e, lt-leb h.n j i, le-ltb (length l.output) h.s o)) (lengths h store marks l e)

-- ---- prefix, missing list and ranges

module _ (h : Head) (store marks out : List ℕ) where
  prefix_told : (v : Checked) → prefix_seen (prefix_given h store marks out).answer ≡ v → verdict (prefix_checks h store marks out) ≡ v
  unfolding prefix_given
  prefix_told v e =
      tells prefix_seen Err (Ok (unverified_prefix (number (prefix_blocks h marks)) (place (length (prefix_of h store marks))))) (λ q. refl) refl (prefix_checks h store marks out) v e

  prefix_refused : (r : Reason) → (prefix_given h store marks out).answer ≡ Err r → Leaves r (71 ∷ 52 ∷ []) out (prefix_given h store marks out).output
  unfolding prefix_given any
  prefix_refused r e = leaves (prefix_checks h store marks out) r (71 ∷ 52 ∷ []) out (put out 0 (prefix_of h store marks)) (refl, (refl, tt)) (prefix_told (Err r) (ap prefix_seen e))

  prefix_ends : (i : BlockNumber) (p : ℕ) → (prefix_given h store marks out).answer ≡ Ok (unverified_prefix i (place p)) → Ends p out (prefix_given h store marks out).output
  unfolding prefix_given
  prefix_ends i p e =
      let cs : List Check = prefix_checks h store marks out in
      let t = prefix_told (Ok tt) (ap prefix_seen e) in
      let f : ◌≡◌ {A = Result UnverifiedPrefix Reason} (Ok (unverified_prefix (number (prefix_blocks h marks)) (place (length (prefix_of h store marks))))) (Ok (unverified_prefix i (place p))) = sym (good_all Err cs _ t) ∙ e in
      let q : unverified_prefix (number (prefix_blocks h marks)) (place (length (prefix_of h store marks))) ≡ unverified_prefix i (place p) = cc in
      let k : length (prefix_of h store marks) ≡ p = ap (λ (y : UnverifiedPrefix). y.end.0) q in
      ends cs out (prefix_of h store marks) p t k (omega (arith, ltb-false (length out) (length (prefix_of h store marks)) (passed cs t).1.0))

module _ (h : Head) (marks out : List ℕ) where
  missing-told : (v : Checked) → listed_seen (list_missing h marks out).answer ≡ v → verdict (missing_checks h marks out) ≡ v
  unfolding list_missing
  missing-told v e = tells listed_seen Err (Ok (length (missing h.n marks))) (λ q. refl) refl (missing_checks h marks out) v e

  missing_refused : (r : Reason) → (list_missing h marks out).answer ≡ Err r → Leaves r (71 ∷ 52 ∷ []) out (list_missing h marks out).output
  unfolding list_missing any
  missing_refused r e = leaves (missing_checks h marks out) r (71 ∷ 52 ∷ []) out (put out 0 (missing h.n marks)) (refl, (refl, tt)) (missing-told (Err r) (ap listed_seen e))

  missing_ends : (k : ℕ) → (list_missing h marks out).answer ≡ Ok k → Ends k out (list_missing h marks out).output
  unfolding list_missing
  missing_ends k e =
      let cs : List Check = missing_checks h marks out in
      let t = missing-told (Ok tt) (ap listed_seen e) in
      let f : ◌≡◌ {A = Result ℕ Reason} (Ok (length (missing h.n marks))) (Ok k) = sym (good_all Err cs _ t) ∙ e in
      let q : length (missing h.n marks) ≡ k = cc in
      ends cs out (missing h.n marks) k t q (omega (arith, ltb-false (length out) (length (missing h.n marks)) (passed cs t).1.0))

  ranges-told : (v : Checked) → listed_seen (list_ranges h marks out).answer ≡ v → verdict (range_checks h marks out) ≡ v
  unfolding list_ranges
  ranges-told v e = tells listed_seen Err (Ok (length (bounds_for h marks))) (λ q. refl) refl (range_checks h marks out) v e

  ranges_refused : (r : Reason) → (list_ranges h marks out).answer ≡ Err r → Leaves r (71 ∷ 52 ∷ []) out (list_ranges h marks out).output
  unfolding list_ranges any
  ranges_refused r e = leaves (range_checks h marks out) r (71 ∷ 52 ∷ []) out (put out 0 (bounds_for h marks)) (refl, (refl, tt)) (ranges-told (Err r) (ap listed_seen e))

  ranges_ends : (k : ℕ) → (list_ranges h marks out).answer ≡ Ok k → Ends k out (list_ranges h marks out).output
  unfolding list_ranges
  ranges_ends k e =
      let cs : List Check = range_checks h marks out in
      let t = ranges-told (Ok tt) (ap listed_seen e) in
      let f : ◌≡◌ {A = Result ℕ Reason} (Ok (length (bounds_for h marks))) (Ok k) = sym (good_all Err cs _ t) ∙ e in
      let q : length (bounds_for h marks) ≡ k = cc in
      ends cs out (bounds_for h marks) k t q (omega (arith, ltb-false (length out) (length (bounds_for h marks)) (passed cs t).1.0))

-- ---- notes

module _ (h : Head) (marks out : List ℕ) where
  note_told : (v : Checked) → written_seen (write_note h marks out).answer ≡ v → verdict (note_checks h marks out) ≡ v
  unfolding write_note
  note_told v e = tells written_seen Err (Ok (length (note_for h marks))) (λ q. refl) refl (note_checks h marks out) v e

  note_refused : (r : Reason) → (write_note h marks out).answer ≡ Err r → Leaves r (71 ∷ 52 ∷ []) out (write_note h marks out).output
  unfolding write_note any
  note_refused r e = leaves (note_checks h marks out) r (71 ∷ 52 ∷ []) out (put out 0 (note_for h marks)) (refl, (refl, tt)) (note_told (Err r) (ap written_seen e))

  note_ends : (k : ℕ) → (write_note h marks out).answer ≡ Ok k → Ends k out (write_note h marks out).output
  unfolding write_note
  note_ends k e =
      let cs : List Check = note_checks h marks out in
      let t = note_told (Ok tt) (ap written_seen e) in
      let f : ◌≡◌ {A = Result ℕ Reason} (Ok (length (note_for h marks))) (Ok k) = sym (good_all Err cs _ t) ∙ e in
      let q : length (note_for h marks) ≡ k = cc in
      ends cs out (note_for h marks) k t q (omega (arith, ltb-false (length out) (length (note_for h marks)) (passed cs t).1.0))

module _ (b out : List ℕ) where
  reading_told : (v : Checked) → reading_seen (read_note b out).answer ≡ v → verdict (read_checks b out) ≡ v
  unfolding read_note
  reading_told v e = tells reading_seen Err (Ok (good_note b)) (λ q. refl) refl (read_checks b out) v e

  reading_refused : (r : Reason) → (read_note b out).answer ≡ Err r → Leaves r (70 ∷ 52 ∷ []) out (read_note b out).output
  unfolding read_note any
  reading_refused r e =
      leaves (read_checks b out) r (70 ∷ 52 ∷ []) out (put out 0 (bounds (ranges_in b))) (refl, (refl, tt)) (reading_told (Err r) (ap reading_seen e))

  reading_ends : (a : NoteRead) → (read_note b out).answer ≡ Ok a → Ends (2 * a.ranges) out (read_note b out).output
  unfolding read_note
  reading_ends a e =
      let cs : List Check = read_checks b out in
      let t = reading_told (Ok tt) (ap reading_seen e) in
      let f : ◌≡◌ {A = Result NoteRead Reason} (Ok (good_note b)) (Ok a) = sym (good_all Err cs _ t) ∙ e in
      let q : good_note b ≡ a = cc in
      rw (← q)
      (ends cs out (bounds (ranges_in b)) (2 * count_in b) t (length-bounds b 23 (count_in b)) (ltb-false (length out) (2 * count_in b) (passed cs t).1.0))

-- ---- the writer

module _ (w : Input) (out : List ℕ) where
  writing_told : (v : Checked) → written_seen (write_file w out).answer ≡ v → verdict (writer_checks w out) ≡ v
  unfolding write_file
  writing_told v e = tells written_seen Err (Ok (length (file_of w))) (λ q. refl) refl (writer_checks w out) v e

  writing_refused : (r : Reason) → (write_file w out).answer ≡ Err r → Leaves r (60 ∷ 61 ∷ []) out (write_file w out).output
  unfolding write_file any
  writing_refused r e = leaves (writer_checks w out) r (60 ∷ 61 ∷ []) out (put out 0 (file_of w)) (refl, (refl, tt)) (writing_told (Err r) (ap written_seen e))

  writing_ends : (k : ℕ) → (write_file w out).answer ≡ Ok k → Ends k out (write_file w out).output
  unfolding write_file
  writing_ends k e =
      let cs : List Check = writer_checks w out in
      let t = writing_told (Ok tt) (ap written_seen e) in
      let f : ◌≡◌ {A = Result ℕ Reason} (Ok (length (file_of w))) (Ok k) = sym (good_all Err cs _ t) ∙ e in
      let q : length (file_of w) ≡ k = cc in
      ends cs out (file_of w) k t q (omega (arith, ltb-false (length out) (length (file_of w)) (passed cs t).1.0))

pub demand1 : Demand1
demand1 = record {
  header_refused = header_refused;
  chunk_refused = chunk_refused;
  measure_refused = measure_refused;
  count_refused = count_refused;
  field_refused = field_refused;
  field_inside = field_inside;
  offer_numbers = offer_numbers;
  offer_place = offer_place;
  offer_uncounted = offer_uncounted;
  offer_counted = offer_counted;
  offer_kept = offer_kept;
  offer_inside = own_offer;
  one_offer = one_offer;
  restart = restart;
  turn_refused = turn_refused;
  release_refused = release_refused;
  release_ends = release_ends;
  block_refused = block_refused;
  block_ends = block_ends;
  block-scratch = block-scratch;
  prefix_refused = prefix_refused;
  prefix_ends = prefix_ends;
  missing_refused = missing_refused;
  missing_ends = missing_ends;
  ranges_refused = ranges_refused;
  ranges_ends = ranges_ends;
  note_refused = note_refused;
  note_ends = note_ends;
  reading_refused = reading_refused;
  reading_ends = reading_ends;
  writing_refused = writing_refused;
  writing_ends = writing_ends;
}
