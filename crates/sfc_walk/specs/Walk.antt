-- The chunks that stand one after the other from the front of some bytes (document 01, "Resend note and listing"), and what is kept
-- once each of them was offered. Assumes nothing: these are definitions.
use Rattle.std.specs.Prelude.{ℕ, zero, suc, ◌+◌, cond, List, [], ◌∷◌, length, take, drop, Option, Some, None}
use Rattle.sfc.specs.answer.Numbers.{passes}
use Rattle.sfc.specs.format.Chunk.{chunk_length, measure_checks}
use Rattle.sfc.specs.session.Offer.{Logged, logged_of, logged_all}
use Rattle.sfc.specs.declared.format.header.Head.{Head}
use Rattle.sfc.specs.declared.session.tallies.Tallies.{Tallies}

-- how many bytes the chunk at the front of b takes up; 0 where 71, 30, 31 or 32 refuses it
unfoldable pub front_length : Head → List ℕ → ℕ
front_length h b = cond (passes (measure_checks h b)) (chunk_length b) 0

-- the same where there is one: no chunk has length 0 (WalkTheorems: `front_next`)
unfoldable pub some_length : ℕ → Option ℕ
some_length zero = None
some_length (suc n) = Some (suc n)

-- the chunks that are offered: what measuring refuses is the end, and all else is stepped over by its length, whatever the offer
-- answers; the first argument only bounds how many there are (WalkTheorems)
unfoldable pub chunks_in : ℕ → Head → List ℕ → List (List ℕ)
chunks_in zero h b = []
chunks_in (suc most) h b = cond (passes (measure_checks h b)) (take (chunk_length b) b ∷ chunks_in most h (drop (chunk_length b) b)) []

abbrev pub chunks_of : Head → List ℕ → List (List ℕ)
chunks_of h b = chunks_in (length b) h b

-- how long they are together
unfoldable pub length_of_all : List (List ℕ) → ℕ
length_of_all [] = 0
length_of_all (c ∷ cs) = length c + length_of_all cs

-- what a walk leaves: all that is kept, and the place where no chunk begins
pub record Walk : Type 0 where
  pub kept : Logged
  pub end : ℕ

abbrev pub walk_of : List ℕ → List ℕ → Tallies → List ℕ → ℕ → ℕ → Walk
walk_of store marks tallies scratch finished end = record { kept = logged_of store marks tallies scratch finished; end = end }

unfoldable pub walk_over : Head → Logged → List ℕ → Walk
walk_over h y b = record { kept = logged_all h y (chunks_of h b); end = length_of_all (chunks_of h b) }
