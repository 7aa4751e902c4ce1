-- No cut of the table is 0.
use Rattle.std.proofs.Common.{rules, ◌<◌, ℕ}
use Rattle.std.proofs.lemmas.List.Elements.{All-get_or}
use Rattle.blake3_vectors.specs.declared.TheConstants.{CUTS}
use Rattle.blake3_vectors.proofs.in_parts.Goals as goal

pub by_value-requires : goal.by_value-requires
by_value-requires g c = All-get_or (λ (t : ℕ × ℕ). 0 < t.1) CUTS c.loop-length.length-index (0, 0) (search rules) (search rules)
