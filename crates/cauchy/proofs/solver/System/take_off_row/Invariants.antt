-- `take_off_row` meets its contract. Assumes nothing.
use mathlib.Core.List.{List}
use mathlib.Core.Path.{◌≡◌}
use Prim.Native.Nat.{ℕ, ◌+◌}
use lib.ListN.{length, get_or}
use Rattle.cauchy.specs.Code.{word_bytes}
use Rattle.cauchy.specs.inner.Ranges.{Columns, columned}
use Rattle.cauchy.proofs.solver.StepLaws.{Taken}
use Rattle.cauchy.proofs.solver.System.take_off_row.Given as goal

abbrev pub invariant-loop-k : goal.invariant-loop-k
invariant-loop-k l =
    let g = l.self.range in
    (cs : ℕ → List ℕ) (base : List ℕ) → Columns (length l.self.xs.now) cs → l.initial.b ≡ columned g.s g.first g.count (length l.self.xs.now) cs base
    → l.one ≡ word_bytes (λ v. get_or (cs (g.first + v)) l.t 0) 0 g.count → Taken g.s g.first g.count l.self.xs.now l.self.ys.now l.t l.k cs base l.b
