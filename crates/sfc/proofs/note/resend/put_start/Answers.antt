-- `sfc::note::resend::put_start` meets its contract: each field stands before those put already. Assumes nothing.
use mathlib.Core.Path.{◌≡◌, ◌∙◌}
use native.Mathlib.Omega.{arith}
use lib.ListN.{length}
use Rattle.sfc.proofs.note.NoteLaws.{start_long, start_made}
use borrow.Author.Rules.{rules}
use Rattle.sfc.proofs.note.resend.put_start.Goals as goal

pub put_big-requires-2 : goal.put_big-requires-2
put_big-requires-2 c =
    let a = c.args in
    let p = c.requires in
    let u : length a.uuid ≡ 16 = search rules in
    omega (arith, start_long a.out.now _ _ a.uuid a.count p.0 u c.put_big.ensures c.copy_from_slice.ensures.after)

pub shape_of-out : goal.shape_of-out
shape_of-out c =
    let a = c.args in
    let p = c.requires in
    let u : length a.uuid ≡ 16 = search rules in
    c.put_big-2.auto.out ∙ start_long a.out.now _ _ a.uuid a.count p.0 u c.put_big.ensures c.copy_from_slice.ensures.after

pub returns : goal.returns
returns c =
    let a = c.args in
    let p = c.requires in
    let u : length a.uuid ≡ 16 = search rules in
    start_made a.out.now _ _ a.uuid a.count p.0 u c.put_big.ensures c.copy_from_slice.ensures.after _ c.put_big-2.ensures
