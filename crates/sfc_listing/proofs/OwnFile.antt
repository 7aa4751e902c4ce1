-- The listing of a file that our writer wrote says complete (specs/OwnFile): the chunks that the program finds in it are the
-- file's own, in order, and after them every block is held. Assumes nothing.
use Rattle.std.specs.Prelude.{Ok, Err}
use Prim.Native.Nat.{ℕ, zero, suc, ◌+◌, ◌-◌, ◌*◌, ◌/◌, ◌≤◌, ◌<◌}
use mathlib.Core.Path.{◌≡◌, refl, sym, ap, ap₂, ◌∙◌}
use mathlib.Core.Bool.{Bool, true, false, cond}
use mathlib.Core.List.{List, [], ◌∷◌, ◌++◌, map, append_assoc, append-nil}
use native.Mathlib.Decide.{ℕ_discrete}
use native.Mathlib.Nat.{mul-le-mul, suc-mul}
use native.Mathlib.Omega.{arith}
use borrow.Author.Tests.{eq-eqb, ne_eqb, le-ltb, le-leb}
use lib.ListN.{length, get_or, drop, replicate, length-replicate, get_or-replicate, take-append-drop, drop_of_length-le}
use lib.Seq.{take_at, drop_at, drop-drop, ext_get_or}
use Rattle.little.specs.Parts.{part}
use Rattle.little.proofs.Laws.{part_laws, block_laws}
use Rattle.little.specs.Runs.{any, zeros, among}
use Rattle.sfc.specs.answer.Numbers.{verdict, passes}
use Rattle.sfc.specs.format.Header.{length_field}
use Rattle.sfc.specs.format.Chunk.{length_checks}
use Rattle.sfc.specs.answer.Places.{number, place, complete}
use Rattle.sfc.specs.session.Marks.{is_held, held_count, barred_count}
use Rattle.sfc.specs.session.Tallies.{sum}
use Rattle.sfc.specs.session.Session.{Session, blank}
use Rattle.sfc.specs.session.History.{after_all}
use Rattle.sfc.specs.session.SessionTheorems.{count as count_of}
use Rattle.sfc.specs.note.Missing.{unheld_from, missing}
use Rattle.sfc.specs.note.Ranges.{ranges}
use Rattle.sfc.specs.give.HandOut.{content_checks}
use Rattle.sfc.specs.give.Turns.{turn, Releasing, acted, acted_all}
use Rattle.sfc.specs.give.TurnTheorems.{turns_of}
use Rattle.sfc.specs.session.Lent.{shape_wrong, lent_of, rebuild_wrong}
use Rattle.sfc.specs.writing.Writer.{Input, size, blocks, body, chunk, file_of, head_for}
use Rattle.sfc.specs.demand.Demand2.{AllBelow, different, answers, received, Lawful}
use Rattle.sfc_walk.specs.Walk.{chunks_in, chunks_of, length_of_all}
use Rattle.sfc_listing.specs.Text.{text, line}
use Rattle.sfc_listing.specs.Listing.{between, session_after, refused_lines, told_in, counts_line, head_text, missing_lines, refused_word, last_word, end_text, session_text, listing_of}
use Rattle.sfc_listing.specs.Steps.{accepted_text}
use Rattle.sfc_listing.specs.ListingTheorems.{is_refused}
use Rattle.sfc_listing.specs.OwnFile.{OwnFile}
use Rattle.sfc.specs.declared.format.header.Head.{Head}
use Rattle.sfc.specs.declared.session.offer.Verdict.TheVariants.{Fresh, Repeat}
use Rattle.sfc.proofs.Laws.{check_laws, lent_laws, offer_laws, give_laws, written_laws, count_laws}
use Rattle.sfc.proofs.Theorems.{demand2}
use Rattle.sfc_walk.proofs.WalkTheorems.{walk_theorems}
use Rattle.sfc_listing.proofs.FileLaws.{listing_accepted}
use Rattle.sfc_listing.proofs.ReportLaws.{hand_out_seen}
use Rattle.sfc_listing.proofs.BreakLaws.{none_told, told-chunks}

-- ---- the indices in order

-- k indices, from i on
up_from : ℕ → ℕ → List ℕ
up_from i zero = []
up_from i (suc k) = i ∷ up_from (suc i) k

up_long : (i k : ℕ) → length (up_from i k) ≡ k
unfolding up_from
up_long i zero = refl
up_long i (suc k) = ap suc (up_long (suc i) k)

up_below : (i k n : ℕ) → i + k ≤ n → AllBelow n (up_from i k)
unfolding up_from
up_below i zero n h = tt
up_below i (suc k) n h = (omega arith, up_below (suc i) k n (omega arith))

up_has : (i k j : ℕ) → i ≤ j → j < i + k → among j (up_from i k) ≡ true
unfolding up_from any
up_has i zero j a b = absurd (omega arith)
up_has i (suc k) j a b = go (ℕ_discrete j i) (λ d. up_has (suc i) k j (omega arith) (omega arith))
  where
    go : Dec (j ≡ i) → ((j ≡ i → ⊥) → among j (up_from (suc i) k) ≡ true) → among j (i ∷ up_from (suc i) k) ≡ true
    go (yes d) rec = rw (eq-eqb j i d)
    go (no d) rec = rw (ne_eqb j i d) (rec d)

-- ---- marks that all say held

none_unheld : (i n : ℕ) → unheld_from i (replicate n 1) ≡ []
unfolding unheld_from
none_unheld i zero = refl
none_unheld i (suc n) = none_unheld (suc i) n

all_held : (n : ℕ) → held_count (replicate n 1) ≡ n
all_held n = omega (arith, count_laws.unheld_count 0 (replicate n 1), ap length (none_unheld 0 n), length-replicate {A = ℕ} n 1)

none_barred : (n : ℕ) → barred_count (replicate n 1) ≡ 0
unfolding barred_count
none_barred zero = refl
none_barred (suc n) = none_barred n

-- they are as many as the indices below n, which are thus all different
up_different : (n : ℕ) → different (up_from 0 n) ≡ n
up_different n =
    let l : length (replicate {A = ℕ} n 1) ≡ n = length-replicate n 1 in
    sym (count_laws.held-different (up_from 0 n) (replicate n 1) (rw l (up_below 0 n n (omega arith)), λ j h. at j (rw l at h))) ∙ all_held n
  where
    at : (j : ℕ) → j < n → is_held (get_or (replicate n 1) j 0) ≡ among j (up_from 0 n)
    at j h = ap is_held (get_or-replicate n j 1 0 h) ∙ sym (up_has 0 n j (omega arith) (omega arith))

-- ---- what is said of a session with all blocks held and nothing against its content

module _ (h : Head) (x : Session) (full : x.marks ≡ replicate (h.n + h.m) 1) (good : verdict (content_checks h x.store x.marks) ≡ Ok tt) where
  held : held_count x.marks ≡ h.n + h.m
  held = ap held_count full ∙ all_held (h.n + h.m)

  none_missing : missing h.n x.marks ≡ []
  unfolding missing
  none_missing = rw (le-leb h.n (held_count x.marks) (omega (arith, held)))

  complete_said : last_word h x ≡ text "complete"
  unfolding last_word
  complete_said = check_laws.good_all refused_word (content_checks h x.store x.marks) (text "complete") good

  all_said : end_text h x ≡ counts_line (h.n + h.m) 0 ++ line (text "complete")
  unfolding end_text ranges missing_lines
  all_said =
      let barred : barred_count x.marks ≡ 0 = ap barred_count full ∙ none_barred (h.n + h.m) in
      rw (held, barred, none_missing, complete_said, append-nil (counts_line (h.n + h.m) 0))

-- ---- the chunks of a file

-- in none there is no chunk, whatever 71 says of the head
no_more : (most : ℕ) (h : Head) → chunks_in most h [] ≡ []
no_more most h = walk_theorems.no_chunk h [] most (none (shape_wrong h.size h.n h.m h.s))
  where
    none : (b : Bool) → passes ((b, 71) ∷ length_checks h.s []) ≡ false
    none true = refl
    none false = refl

module _ (w : Input) (l : Lawful w) where
  abbrev count : ℕ
  count = blocks w + w.m

  abbrev width : ℕ
  width = 84 + w.s

  abbrev chunks : List ℕ
  chunks = between (file_of w)

  field : length_field (file_of w) ≡ length (body w)
  field = written_laws.field_back w l

  file_long : length (file_of w) ≡ 76 + length (body w) + count * width
  file_long = demand2.file_length w l

  is_between : chunks ≡ part (file_of w) (12 + length (body w)) (count * width)
  unfolding between
  is_between =
      let at : length_field (file_of w) + 12 ≡ 12 + length (body w) = omega (arith, field) in
      let k : length (file_of w) - 64 - (length_field (file_of w) + 12) ≡ count * width = omega (arith, field, file_long) in
      ap₂ (λ (a n : ℕ). part (file_of w) a n) at k

  chunks_long : length chunks ≡ count * width
  chunks_long = ap length is_between ∙ part_laws.length_part (file_of w) (12 + length (body w)) (count * width) (omega (arith, file_long))

  module _ (i : ℕ) (h : i < count) where
    there : part chunks (i * width) width ≡ chunk w i
    there =
        ap (λ (b : List ℕ). part b (i * width) width) is_between
        ∙ part_laws.part-part (file_of w) (12 + length (body w)) (count * width) (i * width) width (block_laws.block_inside width count i h) (omega (arith, file_long))
        ∙ demand2.chunk_in_file w l i h

    from : drop (i * width) chunks ≡ chunk w i ++ drop (suc i * width) chunks
    from =
        let e : i * width + width ≡ suc i * width = omega (arith, suc-mul i width) in
        sym (take-append-drop width (drop (i * width) chunks)) ∙ ap₂ ◌++◌ there (drop-drop width (i * width) chunks ∙ ap (λ (k : ℕ). drop k chunks) e)

    -- the walk finds it, and goes on after it
    module _ (rest : List ℕ) where
      found : (most : ℕ) → chunks_in (suc most) (head_for w) (chunk w i ++ rest) ≡ chunk w i ∷ chunks_in most (head_for w) rest
      unfolding chunks_in
      found most =
          let m = written_laws.chunk-measured w l i h rest in
          let n = written_laws.length_written w l i in
          rw (m.0, m.1, take_at (chunk w i) rest width n, drop_at (chunk w i) rest width n)

    next : (most : ℕ) → chunks_in (suc most) (head_for w) (drop (i * width) chunks) ≡ chunk w i ∷ chunks_in most (head_for w) (drop (suc i * width) chunks)
    next most = ap (chunks_in (suc most) (head_for w)) from ∙ found (drop (suc i * width) chunks) most

  walk : (most k i : ℕ) → i + k ≡ count → k ≤ most → chunks_in most (head_for w) (drop (i * width) chunks) ≡ map (chunk w) (up_from i k)
  unfolding up_from
  walk most zero i e h =
      let c : i ≡ count = omega arith in
      ap (chunks_in most (head_for w)) (drop_of_length-le chunks {i = i * width} (omega (arith, chunks_long, ap (λ (k : ℕ). k * width) c))) ∙ no_more most (head_for w)
  walk zero (suc k) i e h = absurd (omega arith)
  walk (suc most) (suc k) i e h = next i (omega arith) most ∙ ap (λ (r : List (List ℕ)). chunk w i ∷ r) (walk most k (suc i) (omega arith) (omega arith))

  abbrev all : List ℕ
  all = up_from 0 count

  all-chunks : chunks_of (head_for w) chunks ≡ map (chunk w) all
  all-chunks =
      let z : 0 ≡ 0 * width = omega arith in
      let m : count * 1 ≤ count * width = mul-le-mul {n₁ = count} {m₁ = 1} {n₂ = count} {m₂ = width} (omega arith) (omega arith) in
      ap (λ (k : ℕ). chunks_in (length chunks) (head_for w) (drop k chunks)) z ∙ walk (length chunks) count 0 (omega arith) (omega (arith, chunks_long))

  -- ---- the session

  is_received : session_after (head_for w) chunks ≡ received w all
  is_received = ap (after_all (head_for w) (blank (head_for w))) all-chunks

  few : length all ≤ 4294967295
  few = let r = lent_laws.right_shape (size w) (blocks w) w.m w.s (written_laws.shape_written w l) in omega (arith, up_long 0 count, r.n_most, r.m_most)

  below : AllBelow count all
  below = up_below 0 count count (omega arith)

  all-marks : (received w all).marks ≡ replicate count 1
  all-marks =
      let k = written_laws.received-marks w l all below few in
      let n = k.0 in
      ext_get_or 0 (received w all).marks (replicate count 1) (n ∙ sym (length-replicate count 1))
      (λ j u.
      let h : j < count = omega (arith, n) in
      k.1 j h ∙ ap (λ (b : Bool). cond b 1 0) (up_has 0 count j (omega arith) (omega arith)) ∙ sym (get_or-replicate count j 1 0 h))

  -- memory of the right size
  abbrev scratch : List ℕ
  scratch = zeros (w.m * w.s)

  abbrev out : List ℕ
  out = zeros (size w)

  scratch_long : length scratch ≡ w.m * w.s
  scratch_long = length-replicate {A = ℕ} (w.m * w.s) 0

  lent_right : rebuild_wrong (head_for w) (received w all).store (received w all).marks (lent_of scratch (zeros 1024) out) ≡ false
  unfolding rebuild_wrong
  lent_right =
      rw (
        offer_laws.stays_lent (head_for w) (blank (head_for w)) (map (chunk w) all) (lent_laws.blank_right (head_for w) (written_laws.shape_written w l)),
        eq-eqb (length scratch) (w.m * w.s) scratch_long,
      )

  -- in it a turn for all columns and a release are complete, so that no check of the content refuses
  content_good : verdict (content_checks (head_for w) (received w all).store (received w all).marks) ≡ Ok tt
  unfolding acted_all acted turns_of sum
  content_good =
      let s : List ℕ = (received w all).store in
      let m : List ℕ = (received w all).marks in
      let room : size w ≤ length out = omega (arith, length-replicate {A = ℕ} (size w) 0) in
      let e = demand2.round_trip w l all below few (omega (arith, up_different count)) scratch (w.s / 2 ∷ []) out scratch_long (omega arith) room in
      let t = give_laws.whole-turn (head_for w) s m scratch (zeros 1024) out lent_right room (turn (head_for w) s m scratch (zeros 1024) 0 (w.s / 2)) refl in
      check_laws.tells hand_out_seen Err (Ok (complete (place (size w)))) (λ q. refl) refl (content_checks (head_for w) s m) (Ok tt)
      (ap hand_out_seen (sym t ∙ ap (λ (r : Releasing). r.answer) e))

  -- ---- no chunk is refused, and nothing is left after them

  taken : (seen is : List ℕ) → count_of is_refused (answers w seen is) ≡ 0
  unfolding count_of answers
  taken seen [] = refl
  taken seen (i ∷ is) = go (among i seen) (taken (i ∷ seen) is)
    where
      go : (b : Bool) → count_of is_refused (answers w (i ∷ seen) is) ≡ 0
          → count_of is_refused (cond b (Repeat (number i) (place (i * w.s))) (Fresh (number i) (place (i * w.s))) ∷ answers w (i ∷ seen) is) ≡ 0
      go true e = omega arith
      go false e = omega arith

  chunks-length : (is : List ℕ) → length_of_all (map (chunk w) is) ≡ length is * width
  unfolding length_of_all
  chunks-length [] = omega arith
  chunks-length (i ∷ is) = omega (arith, written_laws.length_written w l i, chunks-length is, suc-mul (length is) width)

  none_left : drop (length_of_all (chunks_of (head_for w) chunks)) chunks ≡ []
  none_left =
      let e : length_of_all (chunks_of (head_for w) chunks) ≡ count * width = ap length_of_all all-chunks ∙ chunks-length all ∙ ap (λ (k : ℕ). k * width) (up_long 0 count) in
      drop_of_length-le chunks {i = length_of_all (chunks_of (head_for w) chunks)} (omega (arith, chunks_long))

  none_refused : (at : ℕ) → refused_lines (head_for w) (blank (head_for w)) at (told_in (head_for w) chunks) ≡ []
  none_refused at =
      ap (refused_lines (head_for w) (blank (head_for w)) at) (told-chunks (head_for w) chunks none_left ∙ all-chunks)
      ∙ none_told (head_for w) (blank (head_for w)) at (map (chunk w) all) (ap (count_of is_refused) (demand2.offers_answered w l all below few) ∙ taken [] all)

  -- ---- the listing

  session_said : (at : ℕ) → session_text (head_for w) at chunks ≡ head_text w.uuid (blocks w) w.m (size w) w.s ++ counts_line count 0 ++ line (text "complete")
  unfolding session_text
  session_said at =
      let first : List ℕ = head_text w.uuid (blocks w) w.m (size w) w.s in
      let e : session_after (head_for w) chunks ≡ received w all = is_received in
      rw (none_refused at, e, append-nil first, all_said (head_for w) (received w all) all-marks content_good)
      (sym (append_assoc first (counts_line count 0) (line (text "complete"))))

  own_file_complete : length (file_of w) ≤ 65536 → count * w.s ≤ 32768
      → listing_of (file_of w) ≡ head_text w.uuid (blocks w) w.m (size w) w.s ++ counts_line count 0 ++ line (text "complete")
  unfolding accepted_text
  own_file_complete short small =
      sym (listing_accepted (file_of w) short (Ok (head_for w)) (sym (demand2.file_read_back w l)) (head_for w) refl).1
      ∙ rw (le-ltb 32768 (count * w.s) small) (session_said (length_field (file_of w) + 12))

pub own_file : OwnFile
own_file = record { own_file_complete = own_file_complete }
