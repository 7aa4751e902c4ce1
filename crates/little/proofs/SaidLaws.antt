-- What shows that answers are told apart by what they say. Assumes nothing.
use mathlib.Core.Path.{◌≡◌, sym, ap, ◌∙◌}
use Rattle.little.specs.Said.{Said, Apart}

-- they can be read back from it
pub told_apart : {A : Type 0} (said : A → Said) (back : Said → A) → ((v : A) → back (said v) ≡ v) → Apart said
told_apart said back b v w e = sym (b v) ∙ ap back e ∙ b w
