-- `sfc::writing::writer::write` meets its contract, by its three answers. Assumes nothing.
use mathlib.Core.Path.{◌≡◌, refl, sym, ◌∙◌}
use lib.ListN.{length}
use native.Mathlib.Omega.{arith}
use lib.Seq.{length-take-le}
use Rattle.sfc.specs.writing.Writer.{input_of}
use Rattle.sfc.proofs.writing.InputLaws.{right_input}
use Rattle.sfc.proofs.writing.FileLaws.{write_wrong, count_is, write_short, write_good, count_small}
use Rattle.sfc.proofs.answer.CheckLaws.{refuses, let_by}
use borrow.Author.Tests.{ltb-true, ltb-false}
use Rattle.sfc.proofs.writing.writer.write.Goals as goal

pub returns-in_err-refuse_if : goal.returns-in_err-refuse_if
returns-in_err-refuse_if c =
    let a = c.args in
    let w = input_of a.facts a.content.now a.name.now a.priority.now a.fields.now in
    let t = refuses c.refuse_if.ensures c.in_err-refuse_if.was c.from_residual.ensures.1 in
    rw t.1 (write_wrong w a.out.now (sym c.is_wrong.ensures ∙ t.0))

pub wanted_blocks-n-requires : goal.wanted_blocks-n-requires
wanted_blocks-n-requires c =
    let a = c.args in
    let w = input_of a.facts a.content.now a.name.now a.priority.now a.fields.now in
    let u : length a.facts.uuid ≡ 16 = c.well_formed.0.1.1.1.1.0.1.0.1 in
    (right_input w u (sym c.is_wrong.ensures ∙ let_by _ c.refuse_if.ensures c.in_ok-refuse_if.was)).s_some

pub overflow_cast-n : goal.overflow_cast-n
overflow_cast-n c =
    let a = c.args in
    let w = input_of a.facts a.content.now a.name.now a.priority.now a.fields.now in
    let u : length a.facts.uuid ≡ 16 = c.well_formed.0.1.1.1.1.0.1.0.1 in
    let g = count_small w u (sym c.is_wrong.ensures ∙ let_by _ c.refuse_if.ensures c.in_ok-refuse_if.was) _ c.wanted_blocks-n.ensures in omega (arith, g.0)

pub overflow_add-chunks : goal.overflow_add-chunks
overflow_add-chunks c =
    let a = c.args in
    let w = input_of a.facts a.content.now a.name.now a.priority.now a.fields.now in
    let u : length a.facts.uuid ≡ 16 = c.well_formed.0.1.1.1.1.0.1.0.1 in
    let g = count_small w u (sym c.is_wrong.ensures ∙ let_by _ c.refuse_if.ensures c.in_ok-refuse_if.was) _ c.wanted_blocks-n.ensures in omega (arith, g.0, g.1)

pub overflow_mul-chunks : goal.overflow_mul-chunks
overflow_mul-chunks c =
    let a = c.args in
    let w = input_of a.facts a.content.now a.name.now a.priority.now a.fields.now in
    let u : length a.facts.uuid ≡ 16 = c.well_formed.0.1.1.1.1.0.1.0.1 in
    let g = count_small w u (sym c.is_wrong.ensures ∙ let_by _ c.refuse_if.ensures c.in_ok-refuse_if.was) _ c.wanted_blocks-n.ensures in omega (arith, g.2)

pub overflow_add-length-2 : goal.overflow_add-length-2
overflow_add-length-2 c =
    let a = c.args in
    let w = input_of a.facts a.content.now a.name.now a.priority.now a.fields.now in
    let u : length a.facts.uuid ≡ 16 = c.well_formed.0.1.1.1.1.0.1.0.1 in
    let g = count_small w u (sym c.is_wrong.ensures ∙ let_by _ c.refuse_if.ensures c.in_ok-refuse_if.was) _ c.wanted_blocks-n.ensures in omega (arith, g.3)

pub overflow_add-length-3 : goal.overflow_add-length-3
overflow_add-length-3 c =
    let a = c.args in
    let w = input_of a.facts a.content.now a.name.now a.priority.now a.fields.now in
    let u : length a.facts.uuid ≡ 16 = c.well_formed.0.1.1.1.1.0.1.0.1 in
    let g = count_small w u (sym c.is_wrong.ensures ∙ let_by _ c.refuse_if.ensures c.in_ok-refuse_if.was) _ c.wanted_blocks-n.ensures in omega (arith, g.2, g.3)

pub returns-in_err-refuse_if-2 : goal.returns-in_err-refuse_if-2
returns-in_err-refuse_if-2 c =
    let a = c.args in
    let w = input_of a.facts a.content.now a.name.now a.priority.now a.fields.now in
    let u : length a.facts.uuid ≡ 16 = c.well_formed.0.1.1.1.1.0.1.0.1 in
    let t = refuses c.refuse_if-2.ensures c.in_err-refuse_if-2.was c.from_residual-in_err-refuse_if-2.ensures.1 in
    rw t.1 (write_short w a.out.now u (sym c.is_wrong.ensures ∙ let_by _ c.refuse_if.ensures c.in_ok-refuse_if.was) _ _ c.wanted_blocks-n.ensures refl (ltb-true _ _ t.0))

pub slice_bounds-put_file-end-2 : goal.slice_bounds-put_file-end-2
slice_bounds-put_file-end-2 c =
    let a = c.args in
    let w = input_of a.facts a.content.now a.name.now a.priority.now a.fields.now in
    sym (length-take-le _ a.out.now (ltb-false _ _ (let_by _ c.refuse_if-2.ensures c.in_ok-refuse_if-2.was)))

pub put_file-requires : goal.put_file-requires
put_file-requires c =
    let a = c.args in
    let w = input_of a.facts a.content.now a.name.now a.priority.now a.fields.now in
    let u : length a.facts.uuid ≡ 16 = c.well_formed.0.1.1.1.1.0.1.0.1 in
    ((sym c.is_wrong.ensures ∙ let_by _ c.refuse_if.ensures c.in_ok-refuse_if.was), c.wanted_blocks-n.ensures, length-take-le _ a.out.now (ltb-false _ _ (let_by _ c.refuse_if-2.ensures c.in_ok-refuse_if-2.was)) ∙ count_is w a.out.now u (sym c.is_wrong.ensures ∙ let_by _ c.refuse_if.ensures c.in_ok-refuse_if.was) _ _ c.wanted_blocks-n.ensures refl)

pub returns : goal.returns
returns c =
    let a = c.args in
    let w = input_of a.facts a.content.now a.name.now a.priority.now a.fields.now in
    let u : length a.facts.uuid ≡ 16 = c.well_formed.0.1.1.1.1.0.1.0.1 in
    write_good w a.out.now u (sym c.is_wrong.ensures ∙ let_by _ c.refuse_if.ensures c.in_ok-refuse_if.was) _ _ c.wanted_blocks-n.ensures refl (ltb-false _ _ (let_by _ c.refuse_if-2.ensures c.in_ok-refuse_if-2.was)) _ c.put_file.ensures
