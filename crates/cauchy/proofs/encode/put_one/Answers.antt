-- `put_one` meets its contract. Assumes nothing.
use mathlib.Core.Path.{refl}
use native.Mathlib.Omega.{arith}
use Rattle.cauchy.proofs.encode.FourLaws.{row_at}
use Rattle.cauchy.proofs.encode.put_one.Goals as goal

pub returns-in-0 : goal.returns-in-0
returns-in-0 c = row_at c.args.r 0 1 c.args.acc.now _ c.in-0.is refl c.put_row.ensures

pub returns-in-1 : goal.returns-in-1
returns-in-1 c = row_at c.args.r 1 65536 c.args.acc.now _ c.in-1.is refl c.put_row-in-1.ensures

pub returns-in-2 : goal.returns-in-2
returns-in-2 c = row_at c.args.r 2 4294967296 c.args.acc.now _ c.in-2.is refl c.put_row-in-2.ensures

pub returns-in_default : goal.returns-in_default
returns-in_default c = row_at c.args.r 3 281474976710656 c.args.acc.now _ (omega arith) refl c.put_row-in_default.ensures
