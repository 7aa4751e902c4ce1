-- What the order of offers decides and what it does not (document 01, "Marks, hand-out, prefix"): marks, store and the tallies of
-- 30 to 40 come out the same in any order, but each verdict past them, and the tallies of repeat and 42, are told by what came before.
-- Statements, proved in proofs/session/OrderTheorems.antt; h is any head, x any session.
use Rattle.std.specs.Prelude.{ℕ, ◌+◌, ◌*◌, ◌≤◌, ◌<◌, ◌≡◌, ◌≢◌, true, false, length}
use mathlib.Core.List.{List, [], ◌∷◌, Permᴰ}
use Rattle.sfc.specs.answer.Numbers.{passes, reason_of}
use Rattle.sfc.specs.answer.Places.{number, place}
use Rattle.sfc.specs.format.Chunk.{index_of, payload_of, chunk_checks}
use Rattle.sfc.specs.session.Lent.{shape_wrong}
use Rattle.sfc.specs.session.Marks.{held_count, barred_count}
use Rattle.sfc.specs.session.Tallies.{tally_of, counted}
use Rattle.sfc.specs.session.Session.{Session, blank, mark, session_wrong}
use Rattle.sfc.specs.session.History.{after_all, verdicts}
use Rattle.sfc.specs.session.SessionTheorems.{SameKept, ShortOf43}
use Rattle.sfc.specs.writing.Writer.{compression, erasure_for, chunk_bytes}
use Rattle.sfc.specs.declared.format.header.Head.{Head}
use Rattle.sfc.specs.declared.session.tallies.Tallies.{Tallies}
use Rattle.sfc.specs.declared.session.offer.Verdict.{Verdict}
use Rattle.sfc.specs.declared.session.offer.Verdict.TheVariants.{Fresh, Repeat, Refused}

-- two chunks of one index that pass 30 to 40, with payloads that differ
pub record Differing (h : Head) (c d : List ℕ) : Type 0 where
  pub passes-first : passes (chunk_checks h c) ≡ true
  pub passes-second : passes (chunk_checks h d) ≡ true
  pub one_index : index_of d ≡ index_of c
  pub payloads : payload_of c ≢ payload_of d

-- the answers to c, to c again and to d; and to c, to d and to c again
abbrev pub copy_first : Head → List ℕ → List Verdict
copy_first h c =
    Fresh (number (index_of c)) (place (index_of c * h.s)) ∷ Repeat (number (index_of c)) (place (index_of c * h.s)) ∷ Refused (reason_of 41) ∷ []

abbrev pub copy_last : Head → List ℕ → List Verdict
copy_last h c = Fresh (number (index_of c)) (place (index_of c * h.s)) ∷ Refused (reason_of 41) ∷ Refused (reason_of 42) ∷ []

-- the tallies after these verdicts, the first first
unfoldable pub counted_all : Tallies → List Verdict → Tallies
counted_all t [] = t
counted_all t (v ∷ vs) = counted_all (counted t v) vs

-- the same three chunks in two orders
pub record TellsOrder (h : Head) (x : Session) (c d : List ℕ) : Type 0 where
  pub first-verdicts : verdicts h x (c ∷ c ∷ d ∷ []) ≡ copy_first h c
  pub last_verdicts : verdicts h x (c ∷ d ∷ c ∷ []) ≡ copy_last h c
  pub first_tallies : (after_all h x (c ∷ c ∷ d ∷ [])).tallies ≡ counted_all x.tallies (copy_first h c)
  pub last_tallies : (after_all h x (c ∷ d ∷ c ∷ [])).tallies ≡ counted_all x.tallies (copy_last h c)
  -- one repeat more in the first
  pub one_repeat : (after_all h x (c ∷ c ∷ d ∷ [])).tallies.repeat ≡ (after_all h x (c ∷ d ∷ c ∷ [])).tallies.repeat + 1
  pub same_kept : SameKept (after_all h x (c ∷ c ∷ d ∷ [])) (after_all h x (c ∷ d ∷ c ∷ []))

-- the numbers of what is wrong with a chunk by itself, whatever came before it
abbrev pub OfChunkAlone : ℕ → Type 0
OfChunkAlone k = (30 ≤ k) × (k ≤ 40)

pub record OrderTheorems : Type 0 where
  -- verdicts and tallies depend on order where two payloads come for an absent index, and marks and store do not
  pub order_tells : (h : Head) (x : Session) (c d : List ℕ) → session_wrong h x ≡ false → ShortOf43 x 3 → Differing h c d → mark x (index_of c) ≡ 0
      → TellsOrder h x c d
  -- there are such chunks: under any head that 14 to 18 let through, any index and any two payloads make them, in a session just begun
  pub order_example : (h : Head) → length h.uuid ≡ 16 → shape_wrong h.size h.n h.m h.s ≡ false
      → h.compression ≡ compression → h.erasure ≡ erasure_for h.m
      → (i : ℕ) → i < h.n + h.m → (p q : List ℕ) → length p ≡ h.s → length q ≡ h.s → p ≢ q
      → TellsOrder h (blank h) (chunk_bytes h.uuid h.n h.m h.s i p) (chunk_bytes h.uuid h.n h.m h.s i q)
  -- the tallies of 30 to 40 are the same in any order
  pub thirties_order_free : (h : Head) (x : Session) (cs ds : List (List ℕ)) → Permᴰ cs ds → ShortOf43 x (length cs) → (k : ℕ) → OfChunkAlone k
      → tally_of (after_all h x cs).tallies k ≡ tally_of (after_all h x ds).tallies k
  -- in a session that began blank fresh counts the indices that are held or barred by now, and 41 those that are barred: these two
  -- tallies follow from the marks, which short of 43 no order changes; only which offer was fresh, or refused by 41, is told by what came before
  pub fresh-counts : (h : Head) (cs : List (List ℕ))
      → (after_all h (blank h) cs).tallies.fresh ≡ held_count (after_all h (blank h) cs).marks + barred_count (after_all h (blank h) cs).marks
  pub conflicts_count : (h : Head) (cs : List (List ℕ)) → tally_of (after_all h (blank h) cs).tallies 41 ≡ barred_count (after_all h (blank h) cs).marks
