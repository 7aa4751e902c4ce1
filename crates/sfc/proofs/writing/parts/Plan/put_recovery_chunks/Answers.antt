-- `sfc::writing::parts::Plan::put_recovery_chunks` meets its contract. The loop's invariant: the chunks of the recovery blocks before k stand there. Assumes nothing.
use mathlib.Core.Path.{◌≡◌, refl, sym, ap, ◌∙◌}
use Prim.Native.Nat.{ℕ, ◌*◌}
use native.Mathlib.Omega.{arith}
use lib.ListN.{length}
use lib.Seq.{length-take-le}
use Rattle.little.proofs.Laws.{part_laws}
use Rattle.sfc.proofs.writing.RunOfChunks.{run_room, run_on, run_end, recovery_start, four_room}
use borrow.Author.Rules.{rules}
use Rattle.sfc.proofs.writing.parts.Plan.put_recovery_chunks.Goals as goal

pub loop-k-init : goal.loop-k-init
loop-k-init c =
    let a = c.args in
    let u : length a.self.uuid ≡ 16 = search rules in
    recovery_start a.self a.given.now c.requires.0 u _ a.d.now c.chunk_length-room.ensures c.requires.1

pub slice_bounds-four-end : goal.slice_bounds-four-end
slice_bounds-four-end c = omega (arith, four_room c.args.self c.args.given.now c.requires.0 c.min-count.result (omega arith), c.type_inv.four)

pub slice_bounds-put_four-end : goal.slice_bounds-put_four-end
slice_bounds-put_four-end c = sym (length-take-le _ c.loop-k.four (omega (arith, four_room c.args.self c.args.given.now c.requires.0 c.min-count.result (omega arith), c.min-count.array_long)))

pub slice_bounds-put_four-end-in-loop-k : goal.slice_bounds-put_four-end-in-loop-k
slice_bounds-put_four-end-in-loop-k c = run_room c.loop-k.invariant c.min-count.result (omega arith)

pub put_four-requires : goal.put_four-requires
put_four-requires c =
    let p = c.args.self in
    let l = c.loop-k in
    let q = c.min-count in (
      c.requires.0,
      omega arith,
      omega arith,
      length-take-le _ l.four (omega (arith, four_room p c.args.given.now c.requires.0 q.result (omega arith), q.array_long)),
      part_laws.cut_long l.d _ (q.result * _) (run_room l.invariant q.result (omega arith)) ∙ ap (λ (x : ℕ). q.result * x) c.chunk_length-room.ensures,
    )

pub loop-k-preserved : goal.loop-k-preserved
loop-k-preserved c = run_on c.loop-k.invariant c.min-count.result (omega arith) _ _ _ refl (omega arith) c.put_four.ensures

pub returns-2 : goal.returns-2
returns-2 c = run_end (run_on c.loop-k.invariant c.min-count.result (omega arith) _ _ _ refl refl c.put_four.ensures) (omega arith)
