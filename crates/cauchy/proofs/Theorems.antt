-- All that is stated of the code. Assumes nothing.
use Rattle.cauchy.specs.Theorems.{Theorems}
use Rattle.cauchy.proofs.decoding.Known.{known, one, some, free}
use Rattle.cauchy.proofs.decoding.BlindLaws.{blind}
use Rattle.cauchy.proofs.decoding.UsedLaws.{used, used_one}
use Rattle.cauchy.proofs.decoding.Decoded.{decodes, decodes_words}

pub theorems : Theorems
theorems = record {
  known = known;
  one = one;
  blind = blind;
  used = used;
  used_one = used_one;
  some = some;
  free = free;
  decodes = decodes;
  decodes_words = decodes_words;
}
