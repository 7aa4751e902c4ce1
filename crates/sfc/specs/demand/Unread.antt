-- What the receiver does not read: the bytes after a whole chunk, and those between header region and trailer (document 01,
-- "Numbers a caller can get" and "The bytes"). Statements, proved in proofs/demand/Unread.antt; h is any head with a UUID of 16 bytes,
-- as every head in the code has, x any session.
use Rattle.std.specs.Prelude.{ℕ, ◌+◌, ◌≤◌, ◌≡◌, List, ◌++◌, length}
use Rattle.sfc.specs.answer.Numbers.{verdict}
use Rattle.sfc.specs.format.Header.{length_field, read_header}
use Rattle.sfc.specs.format.Chunk.{index_of, payload_of, chunk_length, chunk_checks}
use Rattle.sfc.specs.format.Spot.{check_chunk}
use Rattle.sfc.specs.session.Session.{Session, verdict_of, after}
use Rattle.sfc.specs.session.Offer.{logged, offered}
use Rattle.sfc.specs.declared.format.header.Head.{Head}

pub record Unread : Type 0 where
  -- Where all of a chunk is there, right or wrong, the bytes after it have no part in its check, its payload and its index;
  -- so `check_chunk` answers the same with them and without.
  pub after-chunk : (h : Head) → length h.uuid ≡ 16 → (c rest : List ℕ) → chunk_length c ≤ length c
      → (verdict (chunk_checks h (c ++ rest)) ≡ verdict (chunk_checks h c)) × (payload_of (c ++ rest) ≡ payload_of c) × (index_of (c ++ rest) ≡ index_of c)
      × (check_chunk h (c ++ rest) ≡ check_chunk h c)
  -- Nor do they in an offer's verdict, its place and all that is kept after it; so `offer` does the same with them and without.
  pub after_offer : (h : Head) → length h.uuid ≡ 16 → (x : Session) (c rest : List ℕ) → chunk_length c ≤ length c
      → (verdict_of h x (c ++ rest) ≡ verdict_of h x c) × (after h x (c ++ rest) ≡ after h x c)
      × ((scratch : List ℕ) (f : ℕ) → offered h (logged x scratch f) (c ++ rest) ≡ offered h (logged x scratch f) c)
  -- Where the input begins with bytes a as long as their length field says, preamble and region, right or wrong, and ends with
  -- 64 bytes t, the header read does not depend on what lies between.
  pub between : (a mid mid' t : List ℕ) → length a ≡ length_field a + 12 → length t ≡ 64
      → read_header (a ++ mid ++ t) ≡ read_header (a ++ mid' ++ t)
