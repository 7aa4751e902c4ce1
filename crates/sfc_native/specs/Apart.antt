-- A writer's answer tells by itself whether there is a file. A statement, proved in proofs/Apart.antt.
use Rattle.std.specs.Prelude.{◌<◌, length}
use Rattle.sfc.specs.writing.Writer.{Input, file_of}
use Rattle.sfc.specs.demand.Demand2.{Lawful}

-- a refusal goes out as 60 or 61 (`writing_refused` in sfc's Demand1), and no file is that short
abbrev pub AnswersApart : Type 0
AnswersApart = (w : Input) → Lawful w → 61 < length (file_of w)
