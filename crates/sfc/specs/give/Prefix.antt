-- The prefix (document 01, "Marks, hand-out, prefix"): never more than unverified. Assumes nothing: these are definitions.
use Rattle.std.specs.Prelude.{ℕ, ◌+◌, ◌*◌, cond, List, [], ◌∷◌, ltb, length, take, Result, Ok, Err}
use Rattle.little.specs.Parts.{put}
use Rattle.sfc.specs.answer.Numbers.{Check, checked, Answered}
use Rattle.sfc.specs.answer.Places.{number, place, unverified_prefix}
use Rattle.sfc.specs.session.Marks.{is_held}
use Rattle.sfc.specs.session.Lent.{lent_wrong}
use Rattle.sfc.specs.declared.format.header.Head.{Head}
use Rattle.sfc.specs.declared.answer.reason.Reason.{Reason}
use Rattle.sfc.specs.declared.give.prefix.UnverifiedPrefix.{UnverifiedPrefix}

-- how many marks stand before the first that is not held
unfoldable pub leading : List ℕ → ℕ
leading [] = 0
leading (k ∷ ks) = cond (is_held k) (1 + leading ks) 0

-- how many data blocks are held from 0 up to the first that is not
abbrev pub prefix_blocks : Head → List ℕ → ℕ
prefix_blocks h marks = leading (take h.n marks)

-- their bytes, cut at the file's size
abbrev pub prefix_of : Head → List ℕ → List ℕ → List ℕ
prefix_of h store marks = take h.size (take (prefix_blocks h marks * h.s) store)

abbrev pub prefix_checks : Head → List ℕ → List ℕ → List ℕ → List Check
prefix_checks h store marks out =
    (lent_wrong h.size h.n h.m h.s store marks, 71)
    ∷ (ltb (length out) (length (prefix_of h store marks)), 52)
    ∷ []

-- how many data blocks are given, which is also the index of the first that is not (N where all are), and how many bytes; labelled
-- unverified
unfoldable pub prefix_given : Head → List ℕ → List ℕ → List ℕ → Answered (Result UnverifiedPrefix Reason)
prefix_given h store marks out = record {
  answer = checked (prefix_checks h store marks out) Err (Ok (unverified_prefix (number (prefix_blocks h marks)) (place (length (prefix_of h store marks)))));
  output = checked (prefix_checks h store marks out) (λ (r : Reason). out) (put out 0 (prefix_of h store marks));
}
