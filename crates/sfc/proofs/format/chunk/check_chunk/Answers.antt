-- `sfc::format::chunk::check_chunk` meets its contract: 71, the verdict of all other checks, and for a whole chunk its index. Assumes nothing.
use mathlib.Core.Path.{sym, ◌∙◌}
use Rattle.sfc.specs.format.Chunk.{chunk_checks, index_of}
use Rattle.sfc.specs.format.Spot.{spot_for, refused_chunk, check_chunk}
use Rattle.sfc.specs.answer.Places.{number, place, whole_at}
use Rattle.sfc.proofs.answer.CheckLaws.{good_all, refused_all}
use Rattle.sfc.proofs.session.BreakLaws.{own-fits}
use Rattle.sfc.proofs.format.chunk.check_chunk.Goals as goal
use Rattle.std.specs.Prelude.{Ok}

pub returns-then-is_shape_wrong : goal.returns-then-is_shape_wrong
unfolding check_chunk spot_for
returns-then-is_shape_wrong c = rw (sym c.is_shape_wrong.ensures ∙ c.if-is_shape_wrong.true)

pub spot_for-requires : goal.spot_for-requires
spot_for-requires c =
    let a = c.args in
    own-fits a.h a.c.now _ (record {
      shape = sym c.is_shape_wrong.ensures ∙ c.if-is_shape_wrong.false;
      refuses = sym c.check_all-verdict.ensures ∙ c.in-Err.is;
    })

pub returns-in-Err : goal.returns-in-Err
unfolding check_chunk
returns-in-Err c =
    let a = c.args in
    rw (c.spot_for.ensures, sym c.is_shape_wrong.ensures ∙ c.if-is_shape_wrong.false)
    (sym (refused_all (refused_chunk a.h a.c.now) (chunk_checks a.h a.c.now) (Ok (whole_at (number (index_of a.c.now)) (place 48))) _
    (sym c.check_all-verdict.ensures ∙ c.in-Err.is)))

pub returns-in-Ok : goal.returns-in-Ok
unfolding check_chunk
returns-in-Ok c =
    let a = c.args in
    rw (c.index_of.ensures, sym c.is_shape_wrong.ensures ∙ c.if-is_shape_wrong.false)
    (sym (good_all (refused_chunk a.h a.c.now) (chunk_checks a.h a.c.now) (Ok (whole_at (number (index_of a.c.now)) (place 48)))
    (sym c.check_all-verdict.ensures ∙ c.in-Ok.is)))
