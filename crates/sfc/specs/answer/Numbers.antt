-- The numbers of document 01's table and 54 of document 02, [8], one for each reason, and lists of checks that are tried in
-- order. Assumes nothing: these are definitions.
use Rattle.std.specs.Prelude.{ℕ, zero, suc, ◌≡◌, Bool, true, false, cond, not, ◌&&◌, List, [], ◌∷◌, eqb, Result, Ok, Err}
use Rattle.sfc.specs.declared.answer.reason.Reason.{Reason}

-- a row of the table: the reason's number, and the reason of the row before it; the first row has none, and names itself
abbrev pub row : Reason → ℕ × Reason
row Reason.HeaderShort = (10, Reason.HeaderShort)
row Reason.HeaderMagic = (11, Reason.HeaderShort)
row Reason.Version = (12, Reason.HeaderMagic)
row Reason.HeaderLength = (13, Reason.Version)
row Reason.Unlawful = (14, Reason.HeaderLength)
row Reason.HouseLimit = (15, Reason.Unlawful)
row Reason.ErasurePairing = (16, Reason.HouseLimit)
row Reason.ErasureUnknown = (17, Reason.ErasurePairing)
row Reason.CompressionUnknown = (18, Reason.ErasureUnknown)
row Reason.Flags = (19, Reason.CompressionUnknown)
row Reason.Priority = (20, Reason.Flags)
row Reason.Extension = (21, Reason.Priority)
row Reason.TrailerShape = (22, Reason.Extension)
row Reason.TrailerHash = (23, Reason.TrailerShape)
row Reason.ChunkShort = (30, Reason.TrailerHash)
row Reason.ChunkMagic = (31, Reason.ChunkShort)
row Reason.PayloadLong = (32, Reason.ChunkMagic)
row Reason.ChunkHash = (33, Reason.PayloadLong)
row Reason.EndMarker = (34, Reason.ChunkHash)
row Reason.OtherFile = (35, Reason.EndMarker)
row Reason.IndexRange = (36, Reason.OtherFile)
row Reason.TypeIndex = (37, Reason.IndexRange)
row Reason.Reserved = (38, Reason.TypeIndex)
row Reason.Identifiers = (39, Reason.Reserved)
row Reason.PayloadLength = (40, Reason.Identifiers)
row Reason.Conflict = (41, Reason.PayloadLength)
row Reason.Barred = (42, Reason.Conflict)
row Reason.TallyFull = (43, Reason.Barred)
row Reason.Few = (50, Reason.TallyFull)
row Reason.ContentHash = (51, Reason.Few)
row Reason.OutputShort = (52, Reason.ContentHash)
row Reason.NoDataBlock = (53, Reason.OutputShort)
row Reason.Unfinished = (54, Reason.NoDataBlock)
row Reason.WriterInput = (60, Reason.Unfinished)
row Reason.WriterOutput = (61, Reason.WriterInput)
row Reason.Note = (70, Reason.WriterOutput)
row Reason.Lent = (71, Reason.Note)

abbrev pub last_row : Reason
last_row = Reason.Lent

abbrev pub number_of : Reason → ℕ
number_of r = (row r).0

-- the reason that has number k, sought from row r on towards the first; the first argument only bounds the rows
abbrev pub sought : ℕ → ℕ → Reason → Reason
sought zero k r = r
sought (suc most) k r = cond (eqb (number_of r) k) r (sought most k (row r).1)

-- the reason that has a number, so that a list of checks can show the numbers themselves
abbrev pub reason_of : ℕ → Reason
reason_of k = sought 60 k last_row

-- a check: the test that refuses, and the number that it refuses with
abbrev pub Check : Type 0
Check = Bool × ℕ

-- the first check whose test holds refuses; where none does, the answer is `good`
abbrev pub checked : {A : Type 0} → List Check → (Reason → A) → A → A
checked [] refuse good = good
checked (c ∷ cs) refuse good = cond c.0 (refuse (reason_of c.1)) (checked cs refuse good)

-- what a list of checks comes to: it is good, or the first that refuses has this reason
abbrev pub Checked : Type 0
Checked = Result (Unit {0}) Reason

abbrev pub verdict : List Check → Checked
verdict cs = checked cs Err (Ok tt)

-- whether none of them refuses
abbrev pub passes : List Check → Bool
passes [] = true
passes (c ∷ cs) = not c.0 && passes cs

-- each test of a list is false
abbrev pub Passed : List Check → Type 0
Passed [] = Unit {0}
Passed (c ∷ cs) = (c.0 ≡ false) × Passed cs

-- each number of a list is one of those
abbrev pub NumbersAre : (ℕ → Type 0) → List Check → Type 0
NumbersAre P [] = Unit {0}
NumbersAre P (c ∷ cs) = P (number_of (reason_of c.1)) × NumbersAre P cs

-- what a call with one lent output answers, and what the output holds afterwards
pub record Answered (A : Type 0) : Type 0 where
  pub answer : A
  pub output : List ℕ

abbrev pub answered : {A : Type 0} → A → List ℕ → Answered A
answered answer output = record { answer = answer; output = output }
