-- A repeat is a byte-identical copy (document 01, "Marks, hand-out, prefix"). The session compares payloads; stated here is that
-- this comes to comparing chunks byte for byte, since 30 to 40 leave a chunk nothing of its own but index and payload.
-- Proved in proofs/session/CopyTheorems.antt. Two facts are asked for that the code's types give and lists do not: a head's UUID
-- has 16 bytes, else bytes after a shorter one would be free; and what is offered is bytes, since fields are read as numbers.
use Rattle.std.specs.Prelude.{ℕ, ◌≡◌, ◌≢◌, ◌↔◌, true, false, List, [], ◌∷◌, ◌++◌, length, take}
use Rattle.little.specs.Fields.{Bytes, bytes_of}
use Rattle.little.specs.Runs.{zeros}
use Rattle.sfc.specs.answer.Numbers.{passes, reason_of}
use Rattle.sfc.specs.answer.Places.{number, place}
use Rattle.sfc.specs.format.Chunk.{chunk_magic, index_of, payload_of, chunk_length, type_for, chunk_checks}
use Rattle.sfc.specs.session.Tallies.{tally_full}
use Rattle.sfc.specs.session.Session.{Session, mark, verdict_of, after}
use Rattle.sfc.specs.session.History.{after_all}
use Rattle.sfc.specs.writing.Writer.{compression, erasure_for, sealed, chunk_bytes}
use Rattle.sfc.specs.declared.format.header.Head.{Head}
use Rattle.sfc.specs.declared.session.offer.Verdict.TheVariants.{Fresh, Repeat, Refused}

-- the bytes of the chunk at the front of c; what lies after them is not read
abbrev pub whole_chunk : List ℕ → List ℕ
whole_chunk c = take (chunk_length c) c

-- the chunk that a head, an index and a payload lay down: the writer's, but with the head's own identifiers, whatever they are
unfoldable pub chunk_under : Head → ℕ → List ℕ → List ℕ
chunk_under h i payload =
    sealed
    (chunk_magic ++ h.uuid ++ bytes_of 4 i ++ bytes_of 4 (type_for h.n i) ++ bytes_of 4 h.s ++ (h.compression ∷ h.erasure ∷ []) ++ zeros 14
    ++ payload)

-- c is bytes, and 30 to 40 let its chunk through
pub record Passing (h : Head) (c : List ℕ) : Type 0 where
  pub bytes : Bytes c
  pub passed : passes (chunk_checks h c) ≡ true

-- y takes d for a repeat exactly if its chunk is that of c byte for byte, and refuses it by 41 exactly if it is not
pub record TellsCopies (h : Head) (y : Session) (i p : ℕ) (c d : List ℕ) : Type 0 where
  pub a_repeat : (verdict_of h y d ≡ Repeat (number i) (place p)) ↔ (whole_chunk d ≡ whole_chunk c)
  pub a_conflict : (verdict_of h y d ≡ Refused (reason_of 41)) ↔ (whole_chunk d ≢ whole_chunk c)

pub record CopyTheorems : Type 0 where
  -- no byte of a chunk that passes 30 to 40 is open once its index and payload are known
  pub canonical : (h : Head) (c : List ℕ) → length h.uuid ≡ 16 → Passing h c → whole_chunk c ≡ chunk_under h (index_of c) (payload_of c)
  -- under a head with the identifiers that the writer gives, it is the very chunk that the writer would write
  pub as_written : (h : Head) (i : ℕ) (payload : List ℕ) → h.compression ≡ compression → h.erasure ≡ erasure_for h.m
      → chunk_under h i payload ≡ chunk_bytes h.uuid h.n h.m h.s i payload
  -- two chunks of one index are the same bytes exactly if they have the same payload
  pub same_exactly : (h : Head) (c d : List ℕ) → length h.uuid ≡ 16 → Passing h c → Passing h d → index_of c ≡ index_of d
      → (whole_chunk c ≡ whole_chunk d) ↔ (payload_of c ≡ payload_of d)
  -- after a chunk that was fresh, short of 43, any other of its index that passes 30 to 40 is a repeat exactly if it is the same bytes
  pub repeat_exactly : (h : Head) (x : Session) (i p : ℕ) (c d : List ℕ) → length h.uuid ≡ 16
      → Bytes c → verdict_of h x c ≡ Fresh (number i) (place p)
      → Passing h d → index_of d ≡ i → tally_full (after h x c).tallies ≡ false → TellsCopies h (after h x c) i p c d
  -- and it stays so, whatever else is offered, as long as the index is held
  pub while_held : (h : Head) (x : Session) (i p : ℕ) (c d : List ℕ) → length h.uuid ≡ 16
      → Bytes c → verdict_of h x c ≡ Fresh (number i) (place p) → (between : List (List ℕ)) → mark (after_all h (after h x c) between) i ≡ 1
      → Passing h d → index_of d ≡ i → tally_full (after_all h (after h x c) between).tallies ≡ false
      → TellsCopies h (after_all h (after h x c) between) i p c d
