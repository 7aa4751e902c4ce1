-- `sfc::format::chunk::measure_chunk` meets its contract: 71, the checks of a length, and the length. Assumes nothing.
use mathlib.Core.Path.{sym, ◌∙◌}
use Rattle.std.specs.Prelude.{Ok, Err}
use Rattle.sfc.specs.format.Chunk.{chunk_length, length_checks, measure_chunk}
use Rattle.sfc.proofs.answer.CheckLaws.{good_all, refused_all, passed_on, refuses, let_by}
use Rattle.sfc.proofs.format.chunk.measure_chunk.Goals as goal

pub returns-in_err-refuse_if : goal.returns-in_err-refuse_if
unfolding measure_chunk
returns-in_err-refuse_if c =
    let t = refuses c.refuse_if.ensures c.in_err-refuse_if.was c.from_residual.ensures.1 in
    rw (t.1, sym c.is_shape_wrong.ensures ∙ t.0)

pub returns-in_err-check_length : goal.returns-in_err-check_length
unfolding measure_chunk
returns-in_err-check_length c =
    let a = c.args in
    rw (passed_on _ _ c.from_residual-in_err-check_length.ensures.1, sym c.is_shape_wrong.ensures ∙ let_by _ c.refuse_if.ensures c.in_ok-refuse_if.was)
    (sym (refused_all Err (length_checks a.h.s a.b.now) (Ok (chunk_length a.b.now)) _
    (sym c.check_length.ensures ∙ c.in_err-check_length.was)))

pub returns : goal.returns
unfolding measure_chunk
returns c =
    let a = c.args in
    rw (c.payload_length.ensures, sym c.is_shape_wrong.ensures ∙ let_by _ c.refuse_if.ensures c.in_ok-refuse_if.was)
    (sym (good_all Err (length_checks a.h.s a.b.now) (Ok (chunk_length a.b.now))
    (sym c.check_length.ensures ∙ c.in_ok-check_length.was)))
