-- The block request: its answers, and one block from where it lies, the store or scratch. Assumes nothing.
use Prim.Native.Nat.{ℕ, ◌+◌, ◌-◌, ◌*◌, ◌<◌, ◌≤◌}
use mathlib.Core.Path.{◌≡◌, sym, ◌∙◌, ap}
use mathlib.Core.Bool.{Bool, true, false, cond, not, ◌&&◌, true≢false, false≢true, and-true, and-false}
use mathlib.Core.List.{List, ◌++◌}
use native.Mathlib.Omega.{arith}
use native.Mathlib.Nat.{mul-le-mul}
use borrow.Author.Tests.{eq-eqb, ne_eqb}
use lib.Dec.{ltb, leb}
use lib.ListN.{length, get_or, take, drop}
use lib.Seq.{length-take-le}
use Rattle.little.specs.Parts.{part, put, block}
use Rattle.little.proofs.Laws.{block_laws, part_laws}
use Rattle.cauchy.specs.Decode.{held, rank, decode}
use Rattle.cauchy.proofs.Laws.{missing_laws}
use Rattle.little.specs.Runs.{zeros}
use Rattle.sfc.specs.session.Marks.{is_held, held_count}
use Rattle.sfc.specs.answer.Places.{number, place, unverified_block}
use Rattle.sfc.specs.session.Lent.{Lent, rebuild_wrong}
use Rattle.sfc.specs.give.HandOut.{Rebuilding, lent_after}
use Rattle.sfc.specs.give.Block.{block_request}
use Rattle.sfc.specs.inner.Gather.{Rebuildable, Restored}
use Rattle.sfc.specs.declared.format.header.Head.{Head}
use Rattle.sfc.specs.declared.answer.reason.Reason.TheVariants.{Few, OutputShort, NoDataBlock, Lent as LentWrong}
use Rattle.sfc.proofs.session.HeldLaws.{decode-held}
use Rattle.sfc.proofs.give.GatherLaws.{row_in, piece-lost, restored_gathers, piece_restored}
use Rattle.sfc.proofs.give.RebuildLaws.{few-told, enough_told}
use Rattle.sfc.specs.declared.answer.reason.Reason.{Reason}
use Rattle.sfc.specs.declared.give.block.UnverifiedBlock.{UnverifiedBlock}
use Rattle.std.specs.Prelude.{Result, Ok, Err}

-- ---- the block request

pub blocked_wrong : (h : Head) (store marks : List ℕ) (j : ℕ) (l : Lent) → rebuild_wrong h store marks l ≡ true
    → ◌≡◌ {A = Rebuilding (Result UnverifiedBlock Reason)} (record { answer = Err LentWrong; lent = l }) (block_request h store marks j l)
unfolding block_request lent_after
blocked_wrong h store marks j l e = rw e

pub blocked_none : (h : Head) (store marks : List ℕ) (j : ℕ) (l : Lent) → rebuild_wrong h store marks l ≡ false → leb h.n j ≡ true
    → ◌≡◌ {A = Rebuilding (Result UnverifiedBlock Reason)} (record { answer = Err NoDataBlock; lent = l }) (block_request h store marks j l)
unfolding block_request lent_after
blocked_none h store marks j l e f = rw (e, f)

pub blocked_short : (h : Head) (store marks : List ℕ) (j : ℕ) (l : Lent) → rebuild_wrong h store marks l ≡ false → leb h.n j ≡ false → ltb (length l.output) h.s ≡ true
    → ◌≡◌ {A = Rebuilding (Result UnverifiedBlock Reason)} (record { answer = Err OutputShort; lent = l }) (block_request h store marks j l)
unfolding block_request lent_after
blocked_short h store marks j l e f g = rw (e, f, g)

module _ (h : Head) (store marks : List ℕ) (j : ℕ) (l : Lent) (right : rebuild_wrong h store marks l ≡ false) (inside : leb h.n j ≡ false) (room : ltb (length l.output) h.s ≡ false)
    (scratch numbers output : List ℕ) (es : scratch ≡ zeros (length l.scratch)) (en : numbers ≡ zeros (length l.numbers)) where
  with_test : (t : Bool) → (ltb (held_count marks) h.n && not (is_held (get_or marks j 0))) ≡ t → output ≡ cond (not t) (put l.output 0 (decode h.n h.m h.s marks store j)) l.output
      → ◌≡◌ {A = Rebuilding (Result UnverifiedBlock Reason)} (record { answer = cond t (Err Few) (Ok (unverified_block (number j) (place (j * h.s)))); lent = record { scratch = scratch; numbers = numbers; output = output } }) (block_request h store marks j l)
  unfolding block_request lent_after
  with_test true e g = rw (right, inside, room, e) (λ i. record { answer = Err Few; lent = record { scratch = es i; numbers = en i; output = g i } })
  with_test false e g = rw (right, inside, room, e) (λ i. record { answer = Ok (unverified_block (number j) (place (j * h.s))); lent = record { scratch = es i; numbers = en i; output = g i } })

  pub blocked_few : (r : Bool) → not r ≡ true → r ≡ not (ltb (held_count marks) h.n && not (is_held (get_or marks j 0)))
      → output ≡ cond r (put l.output 0 (decode h.n h.m h.s marks store j)) l.output
      → ◌≡◌ {A = Rebuilding (Result UnverifiedBlock Reason)} (record { answer = Err Few; lent = record { scratch = scratch; numbers = numbers; output = output } }) (block_request h store marks j l)
  blocked_few true p e g = absurd (false≢true p)
  blocked_few false p e g = with_test true (few-told false _ p e) g

  pub blocked_given : (r : Bool) → not r ≡ false → r ≡ not (ltb (held_count marks) h.n && not (is_held (get_or marks j 0)))
      → output ≡ cond r (put l.output 0 (decode h.n h.m h.s marks store j)) l.output
      → ◌≡◌ {A = Rebuilding (Result UnverifiedBlock Reason)} (record { answer = Ok (unverified_block (number j) (place (j * h.s))); lent = record { scratch = scratch; numbers = numbers; output = output } }) (block_request h store marks j l)
  blocked_given true p e g = with_test false (enough_told true _ p e) g
  blocked_given false p e g = absurd (true≢false p)

-- ---- one block, from where it lies

-- with fewer than N held only a held one can be had
pub had_held : (marks : List ℕ) (n j : ℕ) → get_or marks j 0 ≡ 1 → true ≡ not (ltb (held_count marks) n && not (is_held (get_or marks j 0)))
had_held marks n j e = rw (eq-eqb (get_or marks j 0) 1 e) (ap not (sym (and-false (ltb (held_count marks) n))))

pub had_lost : (marks : List ℕ) (n j : ℕ) (r : Bool) → (get_or marks j 0 ≡ 1 → ⊥) → r ≡ not (ltb (held_count marks) n) → r ≡ not (ltb (held_count marks) n && not (is_held (get_or marks j 0)))
had_lost marks n j r e f = rw (ne_eqb (get_or marks j 0) 1 e) (f ∙ ap not (sym (and-true (ltb (held_count marks) n))))

-- how many data blocks before block j are missing, by the held ones
pub rank-rest : (marks : List ℕ) (j : ℕ) → j ≤ length marks → (held_count (take j marks) ≤ j) × (j - held_count (take j marks) ≡ rank j marks)
unfolding rank
rank-rest marks j h =
    let e = missing_laws.length-missing 0 (held (take j marks)) in
    let l = missing_laws.length-held (take j marks) in
    let k = length-take-le j marks h in
    (omega (arith, e, l, k), omega (arith, e, l, k))

module _ (n m s : ℕ) (store marks scratch numbers : List ℕ) (able : Rebuildable n m s store marks scratch numbers) (j : ℕ) (h : j < n) where
  pub held_in : (j * s + s ≤ length store) × (j * s + s ≤ 4325376)
  held_in =
      let b = block_laws.block_inside s (n + m) j (omega arith) in
      let k : (n + m) * s ≤ 1056 * 4096 = mul-le-mul {n₁ = n + m} {m₁ = s} {n₂ = 1056} {m₂ = 4096} (omega (arith, able.n_most, able.m_most)) able.s_most in
      (omega (arith, able.store_long, b), omega (arith, b, k))

  pub held-given : (out ys : List ℕ) → s ≤ length out → get_or marks j 0 ≡ 1
      → ys ≡ part store (j * s) (j * s + s - j * s) ++ drop s out
      → (true ≡ not (ltb (held_count marks) n && not (is_held (get_or marks j 0)))) × (ys ≡ put out 0 (decode n m s marks store j))
  held-given out ys room e f =
      let w : j * s + s - j * s ≡ s = omega arith in
      let l : length (part store (j * s) (j * s + s - j * s)) ≡ s = part_laws.cut_long store (j * s) s held_in.0 in
      (had_held marks n j e, f ∙ ap (λ (k : ℕ). part store (j * s) (j * s + s - j * s) ++ drop k out) (sym l) ∙ ap (put out 0) (ap (part store (j * s)) w ∙ sym (decode-held n m s marks store j e)))

  module _ (after : List ℕ) (restored : Restored n m s marks store after) (lost : get_or marks j 0 ≡ 1 → ⊥) (row : ℕ) (row_is : row ≡ rank j marks) where
    pub lost_in : row * s + s ≤ length after
    lost_in = row_in n s marks store after (restored_gathers n m s marks store after restored) j h lost row row_is

    pub lost_long : length (part after (row * s) (row * s + s - row * s)) ≡ s
    lost_long = part_laws.cut_long after (row * s) s lost_in

    pub lost-given : (out ys : List ℕ) → s ≤ length out
        → ys ≡ part after (row * s) (row * s + s - row * s) ++ drop s out
        → ys ≡ put out 0 (decode n m s marks store j)
    lost-given out ys room f =
        let w : row * s + s - row * s ≡ s = omega arith in
        f ∙ ap (λ (k : ℕ). part after (row * s) (row * s + s - row * s) ++ drop k out) (sym lost_long)
        ∙ ap (put out 0) (ap (part after (row * s)) w ∙ ap (block s after) row_is ∙ sym (piece-lost n s marks store after (restored_gathers n m s marks store after restored) j h lost) ∙ piece_restored n m s marks store after restored j h)
