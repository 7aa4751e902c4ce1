-- Two answers that equal one thing are equal. Assumes nothing.
use mathlib.Core.Path.{sym, ◌∙◌}
use Rattle.little.specs.Promise.{SingleAnswer}

pub single_answer : SingleAnswer
single_answer = record {
  one = λ d a b p q. p ∙ sym q;
  two = λ d e a b x y p q. (p.0 ∙ sym q.0, p.1 ∙ sym q.1);
}
