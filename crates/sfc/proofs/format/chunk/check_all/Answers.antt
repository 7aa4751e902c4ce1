-- `sfc::format::chunk::check_all` meets its contract: a part that refuses stops, a good one goes on. Assumes nothing.
use mathlib.Core.Path.{sym, ◌∙◌}
use mathlib.Core.List.{◌++◌}
use Rattle.sfc.specs.format.Chunk.{length_checks, seal_checks, head_checks}
use Rattle.sfc.proofs.answer.CheckLaws.{stop, go_on, passed_on}
use Rattle.sfc.proofs.format.chunk.check_all.Goals as goal

pub returns-in_err-check_seal : goal.returns-in_err-check_seal
returns-in_err-check_seal c =
    let a = c.args in
    passed_on _ _ c.from_residual-in_err-check_seal.ensures.1 ∙ sym c.in_err-check_seal.was
    ∙ go_on (length_checks a.h.s a.c.now) (seal_checks a.c.now ++ head_checks a.h a.c.now) _ _ c.check_length.ensures c.in_ok-check_length.was
    (stop (seal_checks a.c.now) (head_checks a.h a.c.now) _ _ c.check_seal.ensures c.in_err-check_seal.was)
