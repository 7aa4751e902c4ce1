-- The laws that the crates above cite, as specs/Laws.antt states them, and no others. Assumes nothing.
use Rattle.cauchy.specs.Laws.{CodeLaws, MissingLaws, ScratchLaws}
use Rattle.cauchy.proofs.shape.ShapeLaws.{right}
use Rattle.cauchy.proofs.blocks.BlockLaws.{joined_ext, length-word_bytes}
use Rattle.cauchy.proofs.blocks.CodeLaws.{length_code, length_recovery}
use Rattle.cauchy.proofs.encode.RunLaws.{joined-append, joined-one}
use Rattle.cauchy.proofs.decoding.Known.{length-held, held_one, held_none, held-take, missing_at, length-missing}
use Rattle.cauchy.proofs.decoding.UsedLaws.{as_decoded}
use Rattle.cauchy.proofs.decoding.Decoded.{all-rebuilt}
use Rattle.cauchy.proofs.decoding.ScratchLaws.{length-rebuilt, none_rebuilt, nothing_missing, rebuilt_on, else_kept, blind_rebuilt}
use Rattle.cauchy.proofs.marks.ListLaws.{missing_more, missing-same}
use Rattle.cauchy.proofs.columns.EndLaws.{enough}

pub code_laws : CodeLaws
code_laws = record {
  right = right;
  length-word_bytes = length-word_bytes;
  length_recovery = length_recovery;
  length_code = length_code;
  joined_ext = joined_ext;
  joined-append = joined-append;
  joined-one = joined-one;
}

pub missing_laws : MissingLaws
missing_laws = record {
  length-held = length-held;
  held_one = held_one;
  held_none = held_none;
  held-take = held-take;
  length-missing = length-missing;
  missing_at = missing_at;
  missing_more = missing_more;
  missing-same = missing-same;
  enough = enough;
  as_decoded = as_decoded;
}

pub scratch_laws : ScratchLaws
scratch_laws = record {
  length-rebuilt = length-rebuilt;
  none_rebuilt = none_rebuilt;
  nothing_missing = nothing_missing;
  rebuilt_on = rebuilt_on;
  else_kept = else_kept;
  all-rebuilt = all-rebuilt;
  blind_rebuilt = blind_rebuilt;
}
