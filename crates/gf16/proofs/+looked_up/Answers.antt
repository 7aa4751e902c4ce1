-- `gf16::looked_up` meets its contract: it halves, reads the entry, or goes by squares. Assumes nothing.
use mathlib.Core.Path.{sym, ap, ◌∙◌}
use native.Mathlib.Omega.{arith}
use Rattle.gf16.specs.Field.{inv}
use Rattle.gf16.proofs.Listed.{odd_inverse, even_inverse}
use Rattle.gf16.proofs.Laws.{laws}
use Rattle.gf16.proofs.+looked_up.Goals as goal

pub returns-then-a-eq0 : goal.returns-then-a-eq0
returns-then-a-eq0 t c = sym laws.inv-zero ∙ ap inv (sym c.if-a-eq0.true)

pub returns-then-a-eq0-2 : goal.returns-then-a-eq0-2
returns-then-a-eq0-2 t c =
    even_inverse c.args.a c.half.result (omega arith) c.ranges.a.fits c.if-a-eq0-2.true c.half.type_inv (c.half.ensures ∙ c.looked_up.ensures)

pub returns-then-at-lt-LISTED : goal.returns-then-at-lt-LISTED
returns-then-at-lt-LISTED t c = odd_inverse c.args.table.now c.args.a c.requires.0 (omega arith) (omega arith)
