-- `sfc::writing::writer::Input::is_wrong` meets its contract: three refusals at once, and all other tests together. Assumes nothing.
use mathlib.Core.Path.{◌≡◌, refl}
use Prim.Native.Nat.{◌<◌}
use lib.ListN.{length}
use native.Mathlib.Omega.{arith}
use Rattle.sfc.specs.writing.Writer.{has_reserved}
use Rattle.sfc.specs.inner.Writing.{given}
use Rattle.sfc.proofs.writing.InputLaws.{no_block, many_blocks, many_indices, Typed, tests_answered}
use borrow.Author.Rules.{rules}
use Rattle.sfc.proofs.writing.writer.Input.is_wrong.Goals as goal

pub returns-then-s-eq0 : goal.returns-then-s-eq0
returns-then-s-eq0 c =
    let a = c.args in
    let w = given a.self.now in
    no_block w c.if-s-eq0.true

pub returns-then-blocks-gt-MOST_BLOCKS : goal.returns-then-blocks-gt-MOST_BLOCKS
returns-then-blocks-gt-MOST_BLOCKS c =
    let a = c.args in
    let w = given a.self.now in
    let u : length w.uuid ≡ 16 = search rules in
    many_blocks w _ u c.wanted_blocks-blocks.ensures c.if-blocks-gt-MOST_BLOCKS.true

pub returns-then-blocks-priority : goal.returns-then-blocks-priority
returns-then-blocks-priority c =
    let a = c.args in
    let w = given a.self.now in
    let u : length w.uuid ≡ 16 = search rules in
    many_indices w _ u c.wanted_blocks-blocks.ensures c.if-blocks-priority.true

pub returns : goal.returns
unfolding has_reserved
returns c =
    let a = c.args in
    let w = given a.self.now in
    let u : length w.uuid ≡ 16 = search rules in
    let size : length w.content < 18446744073709551616 = search rules in
    let format : w.format < 65536 = search rules in
    let m : w.m < 4294967296 = search rules in
    let s : w.s < 4294967296 = search rules in
    let flags : w.flags < 65536 = search rules in
    let time : w.time < 18446744073709551616 = search rules in
    let t : Typed w = record { uuid_long = u; size_typed = size; format_typed = format; m_typed = m; s_typed = s; flags_typed = flags; time_typed = time } in
    let few = c.if-blocks-gt-MOST_BLOCKS.false in
    let listed = c.if-blocks-priority.false in
    let e = c.wanted_blocks-blocks.ensures in
    tests_answered w t c.if-s-eq0.false (omega arith) (omega arith) _ _ e refl _ _ _ _ _ _ _ c.is_name_wrong.ensures c.has_tag_within.ensures c.do_tags_fall.ensures c.is_wrong.ensures c.are_flags_barred.ensures c.is_distinct_below.ensures c.are_fields_wrong.ensures
