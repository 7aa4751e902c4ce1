-- `sfc::writing::parts::Plan::put_four` meets its contract: the recovery blocks, and the run of chunks over them. Assumes nothing.
use mathlib.Core.Path.{refl}
use native.Mathlib.Omega.{arith}
use Rattle.cauchy.proofs.Laws.{code_laws}
use Rattle.sfc.proofs.writing.RunOfChunks.{four-done, four-made}
use borrow.Author.Rules.{rules}
use Rattle.sfc.proofs.writing.parts.Plan.put_four.Goals as goal

pub overflow_add-self : goal.overflow_add-self
overflow_add-self c = let p = c.args.self in let g = code_laws.right p.n p.m p.s c.requires.0.shape in search rules

pub put_run-requires : goal.put_run-requires
put_run-requires c =
    let p = c.args.self in
    let asked = c.requires in
    let g = code_laws.right p.n p.m p.s asked.0.shape in
    (omega (arith, g, asked.1, asked.2), search rules, asked.4)

pub unwrap-requires : goal.unwrap-requires
unwrap-requires c =
    let a = c.args in
    let asked = c.requires in
    rw (four-done a.self a.given.now asked.0 a.k a.count asked.1 asked.2 a.four.now _ _ asked.3 c.recovery_four.ensures) refl

pub returns : goal.returns
returns c =
    let a = c.args in
    let asked = c.requires in
    four-made a.self a.given.now asked.0 a.k a.count asked.1 asked.2 a.four.now _ _ _ asked.3 c.recovery_four.ensures c.put_run.ensures
