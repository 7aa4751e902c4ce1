-- `blake3::tree::piece` meets its contract. Assumes nothing.
use Rattle.std.proofs.Common.{◌≡◌, ℕ, ◌/◌, refl, ap, ◌∙◌, arith}
use Rattle.blake3.specs.Tree.{flag_of, chain}
use Rattle.blake3.proofs.Splits.{chain_more, piece-made}
use Rattle.blake3.proofs.tree.piece.Goals as goal

pub loop-k-init : goal.loop-k-init
unfolding chain
loop-k-init c = refl

pub loop-k-preserved : goal.loop-k-preserved
loop-k-preserved c = let a = c.args in let l = c.loop-k in chain_more a.i l.k a.s.now l.invariant c.block-words.ensures c.start_flag.ensures.0 c.compress-next.ensures

pub returns : goal.returns
returns c =
    let a = c.args in
    let l = c.loop-k in
    let last = c.saturating_sub-last.result / 64 in
    let end : l.k ≡ last = omega arith in
    piece-made a.i (flag_of a.extent) last a.s.now (ap (λ (n : ℕ). n / 64) c.saturating_sub-last.ensures) (l.invariant ∙ ap (λ (k : ℕ). chain a.i k a.s.now) end) c.block.ensures
    c.start_flag-2.ensures.0 (rw c.flag.ensures.0 at c.compress.ensures)
