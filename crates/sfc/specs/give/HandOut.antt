-- The hand-out (document 01, "Marks, hand-out, prefix"): what turns and a release come to (give/Turns, give/TurnTheorems), and
-- what a call that rebuilds leaves of scratch. Assumes nothing: these are definitions.
use Rattle.std.specs.Prelude.{ℕ, Bool, cond, not, List, [], ◌∷◌, ◌++◌, ltb, length, take, Result, Ok, Err}
use Rattle.little.specs.Parts.{put}
use Rattle.blake3.specs.Tree.{hash}
use Rattle.cauchy.specs.Decode.{decoded}
use Rattle.little.specs.Runs.{zeros, same}
use Rattle.sfc.specs.answer.Numbers.{Check, checked, Answered}
use Rattle.sfc.specs.answer.Places.{place, complete}
use Rattle.sfc.specs.session.Marks.{held_count}
use Rattle.sfc.specs.session.Lent.{Lent, lent_of, lent_wrong}
use Rattle.sfc.specs.declared.format.header.Head.{Head}
use Rattle.sfc.specs.declared.answer.reason.Reason.{Reason}
use Rattle.sfc.specs.declared.give.release.Complete.{Complete}

-- what a call that rebuilds and gives answers, and what is lent holds afterwards
pub record Rebuilding (A : Type 0) : Type 0 where
  pub answer : A
  pub lent : Lent

abbrev pub rebuilt : {A : Type 0} → A → List ℕ → List ℕ → List ℕ → Rebuilding A
rebuilt answer scratch numbers output = record { answer = answer; lent = lent_of scratch numbers output }

-- scratch is all zeros once the lent memory was found right, whatever came of it, and untouched before
unfoldable pub lent_after : Bool → Lent → List ℕ → Lent
lent_after past l out =
    cond past
    (record { scratch = zeros (length l.scratch); numbers = zeros (length l.numbers); output = out })
    (record { scratch = l.scratch; numbers = l.numbers; output = out })

-- ---- the content

-- the N data blocks joined, as far as the file's size, so that no padding is in it
unfoldable pub content_of : Head → List ℕ → List ℕ → List ℕ
content_of h store marks = take h.size (decoded h.n h.m h.s marks store)

-- 71 and 52, of what is lent
abbrev pub hand_out_lent : Head → List ℕ → List ℕ → List ℕ → List Check
hand_out_lent h store marks out = (lent_wrong h.size h.n h.m h.s store marks, 71) ∷ (ltb (length out) h.size, 52) ∷ []

-- 50 and 51, of what is held
abbrev pub content_checks : Head → List ℕ → List ℕ → List Check
content_checks h store marks =
    (ltb (held_count marks) h.n, 50) ∷ (not (same (hash (content_of h store marks)) h.hash), 51) ∷ []

-- all checks of a hand-out, in order
abbrev pub hand_out_checks : Head → List ℕ → List ℕ → List ℕ → List Check
hand_out_checks h store marks out = hand_out_lent h store marks out ++ content_checks h store marks

-- complete, with the size as the place where the answer ends; the output changes with no refusal, and never past that place
unfoldable pub hand_out : Head → List ℕ → List ℕ → List ℕ → Answered (Result Complete Reason)
hand_out h store marks out = record {
  answer = checked (hand_out_checks h store marks out) Err (Ok (complete (place h.size)));
  output = checked (hand_out_checks h store marks out) (λ (r : Reason). out) (put out 0 (content_of h store marks));
}
