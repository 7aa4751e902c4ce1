-- Which data blocks are unknown, and the call that lists them (document 01, "Resend note and listing"). Assumes nothing: these
-- are definitions.
use Rattle.std.specs.Prelude.{ℕ, suc, cond, List, [], ◌∷◌, ltb, leb, length, take, Result, Ok, Err}
use Rattle.little.specs.Parts.{put}
use Rattle.sfc.specs.answer.Numbers.{Check, checked, Answered}
use Rattle.sfc.specs.session.Marks.{is_held, held_count}
use Rattle.sfc.specs.session.Lent.{marks_wrong}
use Rattle.sfc.specs.declared.format.header.Head.{Head}
use Rattle.sfc.specs.declared.answer.reason.Reason.{Reason}

-- the indices of the marks that do not say held, where the first mark has index i
unfoldable pub unheld_from : ℕ → List ℕ → List ℕ
unheld_from i [] = []
unheld_from i (k ∷ ks) = cond (is_held k) (unheld_from (suc i) ks) (i ∷ unheld_from (suc i) ks)

-- the unknown data blocks: with N held there is none, since the code gives them all
unfoldable pub missing : ℕ → List ℕ → List ℕ
missing n marks = cond (leb n (held_count marks)) [] (unheld_from 0 (take n marks))

-- ---- the call

abbrev pub missing_checks : Head → List ℕ → List ℕ → List Check
missing_checks h marks out =
    (marks_wrong h.size h.n h.m h.s marks, 71) ∷ (ltb (length out) (length (missing h.n marks)), 52) ∷ []

unfoldable pub list_missing : Head → List ℕ → List ℕ → Answered (Result ℕ Reason)
list_missing h marks out = record {
  answer = checked (missing_checks h marks out) Err (Ok (length (missing h.n marks)));
  output = checked (missing_checks h marks out) (λ (r : Reason). out) (put out 0 (missing h.n marks));
}
