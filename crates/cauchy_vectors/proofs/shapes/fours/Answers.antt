-- The lengths of the table fit what is lent.
use Rattle.std.proofs.Common.{rules, ◌≤◌, ℕ}
use Rattle.std.proofs.lemmas.List.Elements.{All-get_or}
use Rattle.cauchy_vectors.specs.declared.shapes.TheConstants.{FOURS}
use Rattle.cauchy_vectors.proofs.shapes.fours.Goals as goal

pub show_four-requires : goal.show_four-requires
show_four-requires g c =
    All-get_or
    (λ (t : ℕ × ℕ × ℕ × ℕ × ℕ × ℕ × ℕ). (t.4 ≤ 8) × (t.5 ≤ 4) × (t.6 ≤ 16))
    FOURS
    c.loop-n.n-index
    (0, 0, 0, 0, 0, 0, 0)
    (search rules)
    (search rules)
