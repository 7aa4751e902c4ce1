-- `find_unknown` meets its contract. Assumes nothing.
use mathlib.Core.List.{List}
use mathlib.Core.Path.{◌≡◌}
use Prim.Native.Nat.{ℕ, ◌<◌}
use lib.ListN.{length}
use Rattle.cauchy.specs.inner.Ranges.{Columns, columned}
use Rattle.cauchy.proofs.solver.StepLaws.{Found}
use Rattle.cauchy.proofs.solver.System.find_unknown.Given as goal

abbrev pub invariant-loop-k : goal.invariant-loop-k
invariant-loop-k l =
    let g = l.self.range in
    (l.t < l.k) × ((cs : ℕ → List ℕ) (base : List ℕ) → Columns (length l.self.xs.now) cs → l.initial.b ≡ columned g.s g.first g.count (length l.self.xs.now) cs base
    → Found g.s g.first g.count l.self.xs.now l.self.ys.now l.t l.k cs base l.b l.one)
