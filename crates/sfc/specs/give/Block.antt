-- The block request (document 01, "Marks, hand-out, prefix"): one data block, never more than unverified. Assumes nothing:
-- these are definitions.
use Rattle.std.specs.Prelude.{ℕ, ◌*◌, not, ◌&&◌, List, [], ◌∷◌, ◌++◌, ltb, leb, length, get_or, Result, Ok, Err}
use Rattle.little.specs.Parts.{put}
use Rattle.cauchy.specs.Decode.{decode}
use Rattle.sfc.specs.answer.Numbers.{Check, checked, passes}
use Rattle.sfc.specs.answer.Places.{number, place, unverified_block}
use Rattle.sfc.specs.session.Marks.{is_held, held_count}
use Rattle.sfc.specs.give.HandOut.{Rebuilding, lent_after}
use Rattle.sfc.specs.session.Lent.{Lent, rebuild_wrong}
use Rattle.sfc.specs.declared.format.header.Head.{Head}
use Rattle.sfc.specs.declared.answer.reason.Reason.{Reason}
use Rattle.sfc.specs.declared.give.block.UnverifiedBlock.{UnverifiedBlock}

-- the S bytes of data block j, padding included: as it is held or, with N held, rebuilt as for the hand-out
abbrev pub block_given : Head → List ℕ → List ℕ → ℕ → List ℕ
block_given h store marks j = decode h.n h.m h.s marks store j

-- 71, 53 and 52, of what is lent and asked for
abbrev pub block_lent : Head → List ℕ → List ℕ → ℕ → Lent → List Check
block_lent h store marks j l = (rebuild_wrong h store marks l, 71) ∷ (leb h.n j, 53) ∷ (ltb (length l.output) h.s, 52) ∷ []

-- and 50: fewer than N held, and this one not
abbrev pub block_checks : Head → List ℕ → List ℕ → ℕ → Lent → List Check
block_checks h store marks j l = block_lent h store marks j l ++ ((ltb (held_count marks) h.n && not (is_held (get_or marks j 0)), 50) ∷ [])

-- the block asked for, and the place of its first byte in the content; labelled unverified
unfoldable pub block_request : Head → List ℕ → List ℕ → ℕ → Lent → Rebuilding (Result UnverifiedBlock Reason)
block_request h store marks j l = record {
  answer = checked (block_checks h store marks j l) Err (Ok (unverified_block (number j) (place (j * h.s))));
  lent = lent_after (passes (block_lent h store marks j l)) l (checked (block_checks h store marks j l) (λ (r : Reason). l.output) (put l.output 0 (block_given h store marks j)));
}
