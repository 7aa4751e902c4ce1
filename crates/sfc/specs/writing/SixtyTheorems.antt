-- 60, cause by cause (document 01, "The bytes", the writer's paragraph; document 02, [2]): beside five causes of its own it is what
-- a reader would say of the header so made. Statements, proved in proofs/writing/SixtyTheorems.antt.
use Rattle.std.specs.Prelude.{ℕ, ◌≤◌, ◌≡◌, Bool, true, false, not, ◌||◌, List, ◌++◌, eqb, Ok, Err}
use Rattle.sfc.specs.answer.Numbers.{number_of, Checked}
use Rattle.sfc.specs.format.Header.{read_header, header_verdict}
use Rattle.sfc.specs.writing.Writer.{Input, preamble, region, trailer, outgrown, name_wrong, has_reserved, tags_fall, input_wrong}
use Rattle.sfc.specs.declared.answer.reason.Reason.{Reason}

-- a cause of its own: no block length, a number that outgrows its field, a name that would not be read back, a reserved tag,
-- tags that fall
abbrev pub own_cause : Input → Bool
own_cause w = eqb w.s 0 || outgrown w || name_wrong w.name || has_reserved w.fields || tags_fall w.fields

-- the header so made, as a reader is given it
abbrev pub header_made : Input → List ℕ
header_made w = preamble ++ region w ++ trailer w

abbrev pub is_good : Checked → Bool
is_good (Ok u) = true
is_good (Err r) = false

pub record SixtyTheorems : Type 0 where
  -- such a cause is enough
  pub own_cause_lem : (w : Input) → own_cause w ≡ true → input_wrong w ≡ true
  -- without one, 60 is given exactly if the reader refuses that header, and it would do so by 13 to 21
  pub as_read : (w : Input) → own_cause w ≡ false → input_wrong w ≡ not (is_good (header_verdict (read_header (header_made w))))
  pub read_number : (w : Input) → own_cause w ≡ false → (r : Reason) → header_verdict (read_header (header_made w)) ≡ Err r
      → (13 ≤ number_of r) × (number_of r ≤ 21)
