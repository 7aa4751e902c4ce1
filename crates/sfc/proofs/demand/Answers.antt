-- Each call's answer by number (specs/demand/Answers.antt), and that what is said tells answers apart. Assumes nothing.
use Prim.Native.Nat.{ℕ, ◌*◌}
use Prim.Native.Char.{code}
use Prim.Native.String.{String, [] as ends, ◌∷◌ as ◌then◌}
use mathlib.Core.Path.{◌≡◌, refl, sym, ap, ap₂, ◌∙◌}
use mathlib.Core.Bool.{Bool, true, false, cond}
use mathlib.Core.List.{List, [], ◌∷◌}
use borrow.Author.Tests.{eqb-true}
use lib.Dec.{eqb}
use lib.ListN.{length, get_or}
use Rattle.little.specs.Said.{Said, refused, says}
use Rattle.little.proofs.Laws.{said_laws, test_laws}
use Rattle.sfc.specs.answer.Numbers.{Check, checked, number_of, reason_of, Checked}
use Rattle.sfc.specs.answer.Places.{number, place, columns, broken, complete, counts, field_found, unverified_block, unverified_prefix, whole_at}
use Rattle.sfc.specs.answer.Said.{said_by_number, tabled, checked_said, header_said, note_said, field_said, chunk_said, chunk_spot, spot_said, measured_said, verdict_said, counted_said, turned_said, handed_out_said, prefix_said, block_said, listed_said, written_said}
use Rattle.sfc.specs.format.Header.{header_checks, region_of, head_of, read_header}
use Rattle.sfc.specs.format.Extension.{fields_of}
use Rattle.sfc.specs.format.Lookup.{found_among, extension_of, extension_place, find_field}
use Rattle.sfc.specs.format.Chunk.{index_of, chunk_length, measure_checks, measure_chunk, alone_checks}
use Rattle.sfc.specs.format.Spot.{spot_for, refused_chunk, check_chunk}
use Rattle.sfc.specs.session.Marks.{held_count, barred_count}
use Rattle.sfc.specs.session.Lent.{Lent, count_checks, count_marks}
use Rattle.sfc.specs.session.Session.{mark, welcomed, verdict_of, spot_of}
use Rattle.sfc.specs.session.Offer.{Logged, all_checks, offer_verdict, offered}
use Rattle.sfc.specs.give.Turns.{Turning, turning_of, turn_checks, turn_count, turn_done, turn, release_checks, release}
use Rattle.sfc.specs.give.Block.{block_checks, block_request}
use Rattle.sfc.specs.give.Prefix.{prefix_blocks, prefix_of, prefix_checks, prefix_given}
use Rattle.sfc.specs.note.Missing.{missing, missing_checks, list_missing}
use Rattle.sfc.specs.note.Ranges.{bounds_for, range_checks, list_ranges}
use Rattle.sfc.specs.note.Note.{note_for, note_checks, write_note, read_checks, good_note, read_note}
use Rattle.sfc.specs.writing.Writer.{Input, file_of, writer_checks, write_file}
use Rattle.sfc.specs.demand.Answers.{Answers, SaidApart}
use Rattle.sfc.specs.declared.format.header.Head.{Head}
use Rattle.sfc.specs.declared.answer.reason.Reason.{Reason}
use Rattle.sfc.specs.declared.session.offer.Verdict.{Verdict}
use Rattle.sfc.proofs.answer.Numbered.{reason_back}
use Rattle.sfc.specs.declared.answer.places.ColumnCount.{ColumnCount}
use Rattle.sfc.specs.declared.give.release.Complete.{Complete}
use Rattle.sfc.specs.declared.session.marks.MarksCounted.{MarksCounted}
use Rattle.sfc.specs.declared.format.chunk.BrokenChunk.{BrokenChunk}
use Rattle.sfc.specs.declared.answer.places.BytePlace.{BytePlace}
use Rattle.sfc.specs.declared.give.block.UnverifiedBlock.{UnverifiedBlock}
use Rattle.sfc.specs.declared.format.chunk.WholeChunk.{WholeChunk}
use Rattle.sfc.specs.declared.format.lookup.FieldFound.{FieldFound}
use Rattle.sfc.specs.declared.give.prefix.UnverifiedPrefix.{UnverifiedPrefix}
use Rattle.std.specs.Prelude.{Option, Result, Some, None, Ok, Err}

-- ---- the law

pub by_number : {A : Type 0} (said : A → Said) (refuse : Reason → A) (good : A) → ((r : Reason) → said (refuse r) ≡ refused (number_of r))
    → (cs : List Check) → tabled cs ≡ true → said (checked cs refuse good) ≡ said_by_number cs (said good)
by_number said refuse good f [] t = refl
by_number said refuse good f ((true, k) ∷ cs) t = f (reason_of k) ∙ ap refused (eqb-true (number_of (reason_of k)) k (test_laws.and_both _ (tabled cs) t).0)
by_number said refuse good f ((false, k) ∷ cs) t = by_number said refuse good f cs (test_laws.and_both (eqb (number_of (reason_of k)) k) (tabled cs) t).1

-- ---- call by call

header : (b : List ℕ) → header_said (read_header b) ≡ said_by_number (header_checks b) (says "good" [])
unfolding read_header
header b = by_number header_said Err (Ok (head_of (region_of b))) (λ r. refl) (header_checks b) refl

field : (b : List ℕ) (tag : ℕ) → field_said (find_field b tag)
    ≡ said_by_number (header_checks b) (field_said (Ok (found_among tag (extension_place (region_of b)) (fields_of (extension_of (region_of b))))))
unfolding find_field
field b tag =
    by_number field_said Err (Ok (found_among tag (extension_place (region_of b)) (fields_of (extension_of (region_of b))))) (λ r. refl) (header_checks b) refl

chunk : (h : Head) (c : List ℕ) → chunk_said (check_chunk h c) ≡ said_by_number (alone_checks h c) (says "whole" (index_of c ∷ 48 ∷ []))
unfolding check_chunk
chunk h c = by_number chunk_said (refused_chunk h c) (Ok (whole_at (number (index_of c)) (place 48))) (λ r. refl) (alone_checks h c) refl

chunk-place : (h : Head) (c : List ℕ) → chunk_spot (check_chunk h c) ≡ spot_said (spot_for h c) (chunk_said (check_chunk h c))
unfolding check_chunk
chunk-place h c = go (alone_checks h c)
  where
    answer : List Check → Result WholeChunk BrokenChunk
    answer cs = checked cs (refused_chunk h c) (Ok (whole_at (number (index_of c)) (place 48)))

    go : (cs : List Check) → chunk_spot (answer cs) ≡ spot_said (spot_for h c) (chunk_said (answer cs))
    go [] = refl
    go ((true, k) ∷ cs) = refl
    go ((false, k) ∷ cs) = go cs

measure : (h : Head) (b : List ℕ) → measured_said (measure_chunk h b) ≡ said_by_number (measure_checks h b) (says "length" (chunk_length b ∷ []))
unfolding measure_chunk
measure h b = by_number measured_said Err (Ok (chunk_length b)) (λ r. refl) (measure_checks h b) refl

offer : (h : Head) (y : Logged) (c : List ℕ) → verdict_said (offered h y c).verdict
    ≡ said_by_number (all_checks h y c) (says (cond (eqb (mark y.session (index_of c)) 0) "fresh" "repeat") (index_of c ∷ index_of c * h.s ∷ []))
unfolding offered offer_verdict verdict_of
offer h y c =
    by_number verdict_said Verdict.Refused (welcomed h y.session c) (λ r. refl) (all_checks h y c) refl
    ∙ ap (said_by_number (all_checks h y c)) (welcome (eqb (mark y.session (index_of c)) 0))
  where
    welcome : (t : Bool) → verdict_said (cond t (Verdict.Fresh (number (index_of c)) (place (index_of c * h.s))) (Verdict.Repeat (number (index_of c)) (place (index_of c * h.s))))
        ≡ says (cond t "fresh" "repeat") (index_of c ∷ index_of c * h.s ∷ [])
    welcome true = refl
    welcome false = refl

count : (h : Head) (marks : List ℕ) → counted_said (count_marks h marks) ≡ said_by_number (count_checks h marks) (says "counts" (held_count marks ∷ barred_count marks ∷ []))
unfolding count_marks
count h marks = by_number counted_said Err (Ok (counts (held_count marks) (barred_count marks))) (λ r. refl) (count_checks h marks) refl

turned : (h : Head) (store marks scratch numbers : List ℕ) (f b : ℕ) → turned_said (turn h store marks scratch numbers f b).answer
    ≡ said_by_number (turn_checks h store marks scratch numbers f) (says "did" (turn_count h marks f b ∷ []))
unfolding turn
turned h store marks scratch numbers f b =
    by_number (λ (z : Turning). turned_said z.answer) (λ (r : Reason). turning_of (Err r) f scratch numbers)
    (turn_done h store marks scratch f (turn_count h marks f b)) (λ r. refl) (turn_checks h store marks scratch numbers f) refl

released : (h : Head) (store marks scratch : List ℕ) (f : ℕ) (out : List ℕ) → handed_out_said (release h store marks scratch f out).answer
    ≡ said_by_number (release_checks h store marks scratch f out) (says "complete" (h.size ∷ []))
unfolding release
released h store marks scratch f out =
    by_number handed_out_said Err (Ok (complete (place h.size))) (λ r. refl) (release_checks h store marks scratch f out) refl

block : (h : Head) (store marks : List ℕ) (j : ℕ) (l : Lent) → block_said (block_request h store marks j l).answer
    ≡ said_by_number (block_checks h store marks j l) (says "unverified" (j ∷ j * h.s ∷ []))
unfolding block_request
block h store marks j l = by_number block_said Err (Ok (unverified_block (number j) (place (j * h.s)))) (λ r. refl) (block_checks h store marks j l) refl

prefix : (h : Head) (store marks out : List ℕ) → prefix_said (prefix_given h store marks out).answer
    ≡ said_by_number (prefix_checks h store marks out) (says "unverified" (prefix_blocks h marks ∷ length (prefix_of h store marks) ∷ []))
unfolding prefix_given
prefix h store marks out =
    by_number prefix_said Err (Ok (unverified_prefix (number (prefix_blocks h marks)) (place (length (prefix_of h store marks))))) (λ r. refl) (prefix_checks h store marks out) refl

missing_list : (h : Head) (marks out : List ℕ) → listed_said (list_missing h marks out).answer
    ≡ said_by_number (missing_checks h marks out) (says "count" (length (missing h.n marks) ∷ []))
unfolding list_missing
missing_list h marks out = by_number listed_said Err (Ok (length (missing h.n marks))) (λ r. refl) (missing_checks h marks out) refl

ranges : (h : Head) (marks out : List ℕ) → listed_said (list_ranges h marks out).answer
    ≡ said_by_number (range_checks h marks out) (says "count" (length (bounds_for h marks) ∷ []))
unfolding list_ranges
ranges h marks out = by_number listed_said Err (Ok (length (bounds_for h marks))) (λ r. refl) (range_checks h marks out) refl

note : (h : Head) (marks out : List ℕ) → written_said (write_note h marks out).answer
    ≡ said_by_number (note_checks h marks out) (says "bytes" (length (note_for h marks) ∷ []))
unfolding write_note
note h marks out = by_number written_said Err (Ok (length (note_for h marks))) (λ r. refl) (note_checks h marks out) refl

reading : (b out : List ℕ) → note_said (read_note b out).answer ≡ said_by_number (read_checks b out) (says "good" [])
unfolding read_note
reading b out = by_number note_said Err (Ok (good_note b)) (λ r. refl) (read_checks b out) refl

offer_place : (h : Head) (y : Logged) (c : List ℕ) → (offered h y c).spot ≡ spot_said (spot_for h c) (verdict_said (offered h y c).verdict)
unfolding offered spot_of
offer_place h y c = go (offer_verdict h y c)
  where
    go : (v : Verdict) → spot_of h c v ≡ spot_said (spot_for h c) (verdict_said v)
    go (Verdict.Fresh i p) = refl
    go (Verdict.Repeat i p) = refl
    go (Verdict.Refused r) = refl

writing : (w : Input) (out : List ℕ) → written_said (write_file w out).answer ≡ said_by_number (writer_checks w out) (says "bytes" (length (file_of w) ∷ []))
unfolding write_file
writing w out = by_number written_said Err (Ok (length (file_of w))) (λ r. refl) (writer_checks w out) refl

pub answers : Answers
answers = record {
  header = header;
  field = field;
  chunk = chunk;
  chunk-place = chunk-place;
  measure = measure;
  offer = offer;
  offer_place = offer_place;
  count = count;
  turn = turned;
  release = released;
  block = block;
  prefix = prefix;
  missing_list = missing_list;
  ranges = ranges;
  note = note;
  reading = reading;
  writing = writing;
}

-- ---- answers apart: each is read back from what it says

-- the first and the second value
abbrev one : List ℕ → ℕ
one vs = get_or vs 0 0

abbrev two : List ℕ → ℕ
two vs = get_or vs 1 0

-- the code of a word's first letter
abbrev letter : String → ℕ
letter ends = 0
letter (c then s) = code c

abbrev checked_of_said : Said → Checked
checked_of_said (refused k) = Err (reason_of k)
checked_of_said (says word vs) = Ok tt

checked-back : (v : Checked) → checked_of_said (checked_said v) ≡ v
checked-back (Ok u) = refl
checked-back (Err r) = ap Err (reason_back r)

-- with the place that is said beside
abbrev chunk_of_said : Said → Option BytePlace → Result WholeChunk BrokenChunk
chunk_of_said (refused k) s = Err (broken (reason_of k) s)
chunk_of_said (says word vs) s = Ok (whole_at (number (one vs)) (place (two vs)))

chunk_back : (v : Result WholeChunk BrokenChunk) → chunk_of_said (chunk_said v) (chunk_spot v) ≡ v
chunk_back (Ok w) = refl
chunk_back (Err b) = ap (λ (q : Reason). Err (broken q b.spot)) (reason_back b.reason)

abbrev measured_of_said : Said → Result ℕ Reason
measured_of_said (refused k) = Err (reason_of k)
measured_of_said (says word vs) = Ok (one vs)

measured-back : (v : Result ℕ Reason) → measured_of_said (measured_said v) ≡ v
measured-back (Ok long) = refl
measured-back (Err r) = ap Err (reason_back r)

abbrev counted_of_said : Said → Result MarksCounted Reason
counted_of_said (refused k) = Err (reason_of k)
counted_of_said (says word vs) = Ok (counts (one vs) (two vs))

counted_back : (v : Result MarksCounted Reason) → counted_of_said (counted_said v) ≡ v
counted_back (Ok c) = refl
counted_back (Err r) = ap Err (reason_back r)

abbrev turned_of_said : Said → Result ColumnCount Reason
turned_of_said (refused k) = Err (reason_of k)
turned_of_said (says word vs) = Ok (columns (one vs))

turned-back : (v : Result ColumnCount Reason) → turned_of_said (turned_said v) ≡ v
turned-back (Ok k) = refl
turned-back (Err r) = ap Err (reason_back r)

abbrev handed_out_of_said : Said → Result Complete Reason
handed_out_of_said (refused k) = Err (reason_of k)
handed_out_of_said (says word vs) = Ok (complete (place (one vs)))

handed_out-back : (v : Result Complete Reason) → handed_out_of_said (handed_out_said v) ≡ v
handed_out-back (Ok c) = refl
handed_out-back (Err r) = ap Err (reason_back r)

abbrev prefix_of_said : Said → Result UnverifiedPrefix Reason
prefix_of_said (refused k) = Err (reason_of k)
prefix_of_said (says word vs) = Ok (unverified_prefix (number (one vs)) (place (two vs)))

prefix_back : (v : Result UnverifiedPrefix Reason) → prefix_of_said (prefix_said v) ≡ v
prefix_back (Ok p) = refl
prefix_back (Err r) = ap Err (reason_back r)

abbrev block_of_said : Said → Result UnverifiedBlock Reason
block_of_said (refused k) = Err (reason_of k)
block_of_said (says word vs) = Ok (unverified_block (number (one vs)) (place (two vs)))

block_back : (v : Result UnverifiedBlock Reason) → block_of_said (block_said v) ≡ v
block_back (Ok b) = refl
block_back (Err r) = ap Err (reason_back r)

abbrev listed_of_said : Said → Result ℕ Reason
listed_of_said (refused k) = Err (reason_of k)
listed_of_said (says word vs) = Ok (one vs)

listed_back : (v : Result ℕ Reason) → listed_of_said (listed_said v) ≡ v
listed_back (Ok k) = refl
listed_back (Err r) = ap Err (reason_back r)

abbrev written_of_said : Said → Result ℕ Reason
written_of_said (refused k) = Err (reason_of k)
written_of_said (says word vs) = Ok (one vs)

written_back : (v : Result ℕ Reason) → written_of_said (written_said v) ≡ v
written_back (Ok k) = refl
written_back (Err r) = ap Err (reason_back r)

-- of two good cases the values tell which: a field found has some
abbrev field_of_said : Said → Result (Option FieldFound) Reason
field_of_said (refused k) = Err (reason_of k)
field_of_said (says word []) = Ok None
field_of_said (says word (p ∷ vs)) = Ok (Some (field_found (place p) (one vs)))

field_back : (v : Result (Option FieldFound) Reason) → field_of_said (field_said v) ≡ v
field_back (Ok (Some f)) = refl
field_back (Ok None) = refl
field_back (Err r) = ap Err (reason_back r)

-- or the word
abbrev verdict_of_said : Said → Verdict
verdict_of_said (refused k) = Verdict.Refused (reason_of k)
verdict_of_said (says word vs) =
    cond (eqb (letter word) (letter "fresh")) (Verdict.Fresh (number (one vs)) (place (two vs))) (Verdict.Repeat (number (one vs)) (place (two vs)))

verdict-back : (v : Verdict) → verdict_of_said (verdict_said v) ≡ v
verdict-back (Verdict.Fresh i p) = refl
verdict-back (Verdict.Repeat i p) = refl
verdict-back (Verdict.Refused r) = ap Verdict.Refused (reason_back r)

pub said_apart : SaidApart
said_apart = record {
  checked = said_laws.told_apart checked_said checked_of_said checked-back;
  field = said_laws.told_apart field_said field_of_said field_back;
  chunk = λ v w e f. sym (chunk_back v) ∙ ap₂ chunk_of_said e f ∙ chunk_back w;
  measured = said_laws.told_apart measured_said measured_of_said measured-back;
  verdict = said_laws.told_apart verdict_said verdict_of_said verdict-back;
  counted = said_laws.told_apart counted_said counted_of_said counted_back;
  turned = said_laws.told_apart turned_said turned_of_said turned-back;
  handed_out = said_laws.told_apart handed_out_said handed_out_of_said handed_out-back;
  prefix = said_laws.told_apart prefix_said prefix_of_said prefix_back;
  block = said_laws.told_apart block_said block_of_said block_back;
  listed = said_laws.told_apart listed_said listed_of_said listed_back;
  written = said_laws.told_apart written_said written_of_said written_back;
}
