-- `sfc::give::rebuild::rebuild_missing` meets its contract, by what the code's call answers. Assumes nothing.
use mathlib.Core.Path.{sym}
use Rattle.sfc.proofs.give.RebuildLaws.{rebuilt_told}
use borrow.Author.Rules.{rules}
use Rattle.sfc.proofs.give.rebuild.rebuild_missing.Goals as goal

pub returns : goal.returns
returns c =
    let a = c.args in
    let q = rebuilt_told a.h.now.n a.h.now.m a.h.now.s a.store.now a.marks.now a.scratch.now a.numbers.now _ _ c.requires c.rebuild_all.ensures (sym c.is_ok.ensures.value) (search rules) in
    (q.0, q.1, (search rules, search rules))
