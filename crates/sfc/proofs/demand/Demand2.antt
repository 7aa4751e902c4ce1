-- Demand 2 (specs/demand/Demand2.antt): the file's length and its chunks in it; the rest is put together. Assumes nothing.
use Prim.Native.Nat.{ℕ, ◌+◌, ◌*◌, ◌<◌, ◌≤◌}
use mathlib.Core.Path.{◌≡◌, refl, sym, ap, ap₂, ◌∙◌}
use mathlib.Core.Bool.{false}
use mathlib.Core.List.{List, ◌++◌, append_assoc}
use native.Mathlib.Omega.{arith}
use borrow.Author.Tests.{le-ltb}
use lib.Dec.{lit<}
use lib.ListN.{length, length-append}
use Rattle.little.specs.Fields.{Bytes}
use Rattle.little.specs.Parts.{part, put}
use Rattle.little.proofs.Laws.{part_laws, block_laws}
use Rattle.cauchy.specs.Code.{joined}
use Rattle.little.specs.Runs.{any}
use Rattle.sfc.specs.format.Limits.{wanted_blocks}
use Rattle.sfc.specs.session.Lent.{shape_wrong}
use Rattle.sfc.specs.format.Extension.{fields_in, left_in, known_twice, extension_wrong}
use Rattle.sfc.specs.format.Header.{flags_barred, distinct_below, read_header}
use Rattle.sfc.specs.format.Chunk.{index_of, payload_of, chunk_checks, alone_checks}
use Rattle.sfc.specs.format.Spot.{refused_chunk, check_chunk}
use Rattle.sfc.specs.answer.Places.{number, place, whole_at}
use Rattle.sfc.specs.writing.Writer.{Input, blocks, body, region, preamble, trailer, payload, chunk, file_of, name_wrong, has_reserved, rises_weakly, tags_fall, write_file, head_for}
use Rattle.sfc.specs.demand.Demand2.{Lawful, plain, Demand2}
use Rattle.sfc.specs.answer.Numbers.{Answered}
use Rattle.sfc.proofs.answer.CheckLaws.{passed, all-passed, good_all}
use Rattle.sfc.proofs.session.MarkLaws.{right_shape}
use Rattle.sfc.proofs.give.GivenLaws.{complete_has_hash}
use Rattle.sfc.proofs.session.HeldLaws.{block-joined}
use Rattle.sfc.proofs.writing.FileLaws.{length_written, length-chunks, file_length}
use Rattle.sfc.proofs.writing.RegionBack.{length-region}
use Rattle.sfc.proofs.writing.InputLaws.{Typed, RightInput, right_input, tests_are}
use Rattle.sfc.proofs.writing.HeaderBack.{preamble_long, header_back}
use Rattle.sfc.proofs.demand.RoundTrip.{round_trip_between, chunk_of, offers_answered, round_trip}
use Rattle.sfc.specs.declared.answer.reason.Reason.{Reason}
use Rattle.std.specs.Prelude.{Result, Ok}

-- ---- inputs that 60 lets through

any_content : (content : List ℕ) (s m : ℕ) (uuid : List ℕ) → Bytes content → length uuid ≡ 16 → shape_wrong (length content) (wanted_blocks (length content) s) m s ≡ false
    → Lawful (plain content s m uuid)
unfolding name_wrong has_reserved rises_weakly tags_fall fields_in left_in any flags_barred distinct_below known_twice extension_wrong
any_content content s m uuid b u e =
    let r = right_shape (length content) (wanted_blocks (length content) s) m s e in
    let t : Typed (plain content s m uuid) = record {
      uuid_long = u;
      size_typed = omega (arith, r.size_most);
      format_typed = lit< tt;
      m_typed = omega (arith, r.m_most);
      s_typed = omega (arith, r.s_most);
      flags_typed = lit< tt;
      time_typed = lit< tt;
    } in
    record {
      uuid_long = u;
      content = b;
      right = sym (tests_are (plain content s m uuid) t (λ z. omega (arith, r.s_least)) r.n_most (omega arith) 331 refl) ∙ (rw e);
    }

module _ (w : Input) (l : Lawful w) where
  right : RightInput w
  right = right_input w l.uuid_long l.right

  file_written : (out : List ℕ) → length (file_of w) ≤ length out
      → ◌≡◌ {A = Answered (Result ℕ Reason)} (write_file w out) (record { answer = Ok (length (file_of w)); output = put out 0 (file_of w) })
  unfolding write_file
  file_written out h = rw (l.right, le-ltb (length out) (length (file_of w)) h)

  -- ---- the header

  header_read_back : (between : List ℕ) → read_header (preamble ++ region w ++ between ++ trailer w) ≡ Ok (head_for w)
  header_read_back between = header_back w l.uuid_long right between

  abbrev chunks : List ℕ
  chunks = joined (chunk w) 0 (blocks w + w.m)

  file_read_back : read_header (file_of w) ≡ Ok (head_for w)
  unfolding file_of
  file_read_back = header_read_back chunks

  -- ---- the chunks

  chunks_long : length chunks ≡ (blocks w + w.m) * (84 + w.s)
  chunks_long = length-chunks w l.uuid_long l.right

  module _ (i : ℕ) (h : i < blocks w + w.m) where
    chunk_in_file : part (file_of w) (12 + length (body w) + i * (84 + w.s)) (84 + w.s) ≡ chunk w i
    unfolding file_of
    chunk_in_file =
        let n : 12 + length (body w) ≡ length (preamble ++ region w) = omega (arith, length-append preamble (region w), preamble_long, length-region w) in
        let z : 0 + i ≡ i = omega arith in
        ap₂ (λ (f : List ℕ) (k : ℕ). part f (k + i * (84 + w.s)) (84 + w.s)) (append_assoc (preamble ++ region w) chunks (trailer w)) n
        ∙ part_laws.part-append_right (preamble ++ region w) (chunks ++ trailer w) (i * (84 + w.s)) (84 + w.s)
        ∙ part_laws.part-append-left chunks (trailer w) (i * (84 + w.s)) (84 + w.s) (omega (arith, chunks_long, block_laws.block_inside (84 + w.s) (blocks w + w.m) i h))
        ∙ block-joined (84 + w.s) (chunk w) 0 (blocks w + w.m) i (λ j a b. length_written w l.uuid_long l.right j) h ∙ ap (chunk w) z

    chunk_read_back : (rest : List ℕ) → (check_chunk (head_for w) (chunk w i ++ rest) ≡ Ok (whole_at (number i) (place 48))) × (payload_of (chunk w i ++ rest) ≡ payload w i)
    unfolding check_chunk
    chunk_read_back rest =
        let c = chunk_of w l.uuid_long right.shape i h rest in (
          good_all (refused_chunk (head_for w) (chunk w i ++ rest)) (alone_checks (head_for w) (chunk w i ++ rest)) (Ok (whole_at (number (index_of (chunk w i ++ rest))) (place 48)))
              (all-passed (alone_checks (head_for w) (chunk w i ++ rest)) (right.shape, passed (chunk_checks (head_for w) (chunk w i ++ rest)) c.whole))
              ∙ ap (λ (k : ℕ). Ok (whole_at (number k) (place 48))) c.index,
          c.brings,
        )

pub demand2 : Demand2
demand2 = record {
  any_content = any_content;
  file_written = file_written;
  file_length = λ w l. file_length w l.uuid_long l.right;
  header_read_back = header_read_back;
  file_read_back = file_read_back;
  chunk_in_file = chunk_in_file;
  chunk_read_back = chunk_read_back;
  offers_answered = λ w l is a few. offers_answered w l.uuid_long (right w l).shape l.content is a few;
  round_trip = λ w l is a few enough. round_trip w l.uuid_long (right w l).shape l.content is a few enough;
  round_trip_between = λ w l is a few enough. round_trip_between w l.uuid_long (right w l).shape l.content is a few enough;
  complete_has_hash = complete_has_hash;
}
