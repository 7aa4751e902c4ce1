-- `sfc_walk::length_at_front` meets its contract, by what measuring tells. Assumes nothing.
use Prim.Native.Nat.{ℕ, ◌<◌}
use mathlib.Core.Path.{◌≡◌, refl, sym, ap, ◌∙◌}
use mathlib.Core.List.{List}
use native.Mathlib.Omega.{arith}
use Rattle.std.specs.Prelude.{Result, Ok, Err}
use Rattle.std.specs.Result.{result_ok}
use Rattle.sfc.specs.format.Chunk.{measure_chunk}
use Rattle.sfc.specs.declared.format.header.Head.{Head}
use Rattle.sfc.specs.declared.answer.reason.Reason.{Reason}
use Rattle.sfc.proofs.Laws.{measure_laws}
use Rattle.sfc_walk.specs.Walk.{front_length, some_length}
use Rattle.sfc_walk.proofs.StepLaws.{length_long}
use Rattle.sfc_walk.proofs.length_at_front.Goals as goal

by_measure : (h : Head) (b : List ℕ) (m : Result ℕ Reason) → measure_chunk h b ≡ m → result_ok m ≡ some_length (front_length h b)
unfolding front_length some_length
by_measure h b (Ok k) e =
    let m = measure_laws.measured h b k e in
    let some : 0 < k = omega (arith, m.1) in
    rw m.0 (sym (length_long k some) ∙ ap some_length m.1)
by_measure h b (Err r) e = rw (measure_laws.unmeasured h b r e)

pub returns : goal.returns
returns c =
    let a = c.args in
    c.ok.ensures.value ∙ ap result_ok c.measure_chunk.ensures ∙ by_measure a.h a.b.now (measure_chunk a.h a.b.now) refl
