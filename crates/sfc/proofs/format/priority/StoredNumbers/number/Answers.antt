-- `sfc::format::priority::StoredNumbers::number` meets its contract. Assumes nothing.
use Rattle.std.proofs.Common.{ℕ, ◌≡◌, ◌<◌, ◌+◌, ◌*◌, ◌/◌, ◌∙◌, sym, ap, arith, length}
use Rattle.little.specs.Fields.{le}
use Rattle.sfc.proofs.format.ListLaws.{length-indices, index_at}
use Rattle.sfc.proofs.format.priority.StoredNumbers.number.Goals as goal

pub overflow_mul-i : goal.overflow_mul-i
overflow_mul-i c = omega (arith, c.requires, length-indices c.args.self.now.bytes.now 0 (length c.args.self.now.bytes.now / 4))

pub returns : goal.returns
returns c =
    let b = c.args.self.now.bytes.now in
    let h : c.args.i < length b / 4 = omega (arith, c.requires, length-indices b 0 (length b / 4)) in
    let e : 0 + 4 * c.args.i ≡ 4 * c.args.i = omega arith in
    c.read32.ensures ∙ ap (λ (at : ℕ). le b at 4) (sym e) ∙ sym (index_at b 0 (length b / 4) c.args.i h)
