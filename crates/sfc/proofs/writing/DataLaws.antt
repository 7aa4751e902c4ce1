-- The content cut into data blocks: how many there are, and the last one padded apart from those before it. Assumes nothing.
use Prim.Native.Nat.{ℕ, ◌+◌, ◌-◌, ◌*◌, ◌%◌, ◌≤◌}
use mathlib.Core.Path.{◌≡◌, sym, ap, ap₂, ◌∙◌}
use mathlib.Core.Bool.{false}
use mathlib.Core.List.{List, ◌++◌, append_assoc}
use native.Mathlib.Nat.{add-mul, one-mul, mul-le-mul}
use native.Mathlib.Omega.{arith}
use borrow.Author.Tests.{le-ltb, eq-eqb, ne_eqb}
use lib.ListN.{length, take, drop, length-append, length-drop, take-append-drop}
use lib.Seq.{length-take-le, take_at}
use Rattle.little.specs.Parts.{part}
use Rattle.little.proofs.Laws.{part_laws}
use Rattle.cauchy.specs.Code.{joined}
use Rattle.cauchy.specs.Calls.{wrong_shape}
use Rattle.sfc.specs.format.Bytes.{padded}
use Rattle.little.specs.Runs.{zeros}
use Rattle.sfc.specs.session.Lent.{shape_wrong}
use Rattle.sfc.specs.session.Right.{RightShape}
use Rattle.sfc.proofs.session.MarkLaws.{right_shape}
use Rattle.sfc.proofs.writing.LayoutLaws.{length-padded}
use Rattle.sfc.proofs.format.LimitLaws.{wanted_holds}
use Rattle.sfc.specs.inner.Writing.{code_chunk, Planned}
use Rattle.sfc.specs.declared.writing.parts.Plan.{Plan}
use Rattle.sfc.specs.declared.writing.parts.DataBlocks.{DataBlocks}

-- a shape that 14 and 15 let through is one of the code's
pub code_shape : (size n m s : ℕ) → shape_wrong size n m s ≡ false → wrong_shape n m s ≡ false
unfolding wrong_shape
code_shape size n m s w =
    let r = right_shape size n m s w in
    let z : n ≡ 0 → ⊥ = λ e. omega (arith, r.n_least) in
    rw (ne_eqb n 0 z, le-ltb 1024 n r.n_most, le-ltb 32 m r.m_most, le-ltb s 2 r.s_least, le-ltb 4096 s r.s_most, eq-eqb (s % 2) 0 r.s_even)

module _ (p : Plan) (content : List ℕ) (w : shape_wrong (length content) p.n p.m p.s ≡ false) where
  r : RightShape (length content) p.n p.m p.s
  r = right_shape (length content) p.n p.m p.s w

  pub last_place : (1 ≤ p.n) × ((p.n - 1) * p.s ≤ length content) × (length content ≤ (p.n - 1) * p.s + p.s) × ((p.n - 1) * p.s + p.s ≡ p.n * p.s) × (p.s ≤ 4096) × ((p.n - 1) * p.s ≤ 4194304)
  last_place =
      let h = wanted_holds (length content) p.s (omega (arith, r.s_least)) in
      let o = r.n_least in
      let e : p.n ≡ p.n - 1 + 1 = omega arith in
      let b : (p.n - 1) * p.s + p.s ≡ p.n * p.s = sym (ap (λ (j : ℕ). j * p.s) e ∙ add-mul (p.n - 1) 1 p.s ∙ ap (λ (j : ℕ). (p.n - 1) * p.s + j) (one-mul p.s)) in
      let a : (p.n - 1) * p.s ≤ length content = omega (arith, ap (λ (j : ℕ). (j - 1) * p.s) r.wanted, h.0) in
      let c : length content ≤ p.n * p.s = omega (arith, ap (λ (j : ℕ). j * p.s) r.wanted, h.1) in
      let t : p.n * p.s ≤ 1024 * 4096 = mul-le-mul {n₁ = p.n} {m₁ = p.s} {n₂ = 1024} {m₂ = 4096} r.n_most r.s_most in
      (o, a, omega arith, b, r.s_most, omega arith)

  -- what comes after the blocks before the last fits in one
  pub last_fits : (q : ℕ) (last : List ℕ) → q ≡ length content - (p.n - 1) * p.s → length last ≡ 4096 → length (part content ((p.n - 1) * p.s) q) ≤ length (take p.s last)
  last_fits q last e h =
      let l = last_place in
      omega (
        arith,
        l,
        ap (λ (j : ℕ). length (part content ((p.n - 1) * p.s) j)) e,
        ap length (part_laws.part-rest content ((p.n - 1) * p.s)),
        length-drop ((p.n - 1) * p.s) content,
        length-take-le p.s last (omega (arith, h, l.4)),
      )

  module _ (q : ℕ) (last y : List ℕ) (eq : q ≡ length content - (p.n - 1) * p.s) (h : length last ≡ 4096)
      (ey : y ≡ padded (length (take p.s last)) (part content ((p.n - 1) * p.s) q)) where
    rest : y ≡ padded p.s (drop ((p.n - 1) * p.s) content)
    rest =
        let t = length-take-le p.s last (omega (arith, h, last_place.4)) in
        ey ∙ ap₂ padded t (ap (λ (j : ℕ). part content ((p.n - 1) * p.s) j) eq ∙ part_laws.part-rest content ((p.n - 1) * p.s))

    last_long : length y ≡ p.s
    last_long = ap length rest ∙ length-padded p.s (drop ((p.n - 1) * p.s) content) (omega (arith, last_place, length-drop ((p.n - 1) * p.s) content))

    last_kept : take p.s (y ++ drop p.s last) ≡ y
    last_kept = take_at y (drop p.s last) p.s last_long

    pub last_inside : p.s ≤ length (y ++ drop p.s last)
    last_inside = omega (arith, length-append y (drop p.s last), last_long)

    pub last_there : length (take p.s (y ++ drop p.s last)) ≡ p.s
    last_there = ap length last_kept ∙ last_long

    pub planned : (b : DataBlocks) → b.front.now ≡ take ((p.n - 1) * p.s) content → b.last.now ≡ take p.s (y ++ drop p.s last) → Planned p b
    planned b ef el = record {
      shape = code_shape (length content) p.n p.m p.s w;
      front_long = ap length ef ∙ length-take-le ((p.n - 1) * p.s) content last_place.1;
      last_long = ap length el ∙ last_there;
    }

    -- the data blocks are the content, padded
    data_is : take ((p.n - 1) * p.s) content ++ take p.s (y ++ drop p.s last) ≡ padded (p.n * p.s) content
    data_is =
        let l = last_place in
        let g : p.s - length (drop ((p.n - 1) * p.s) content) ≡ p.n * p.s - length content = omega (arith, l, length-drop ((p.n - 1) * p.s) content) in
        ap (λ (x : List ℕ). take ((p.n - 1) * p.s) content ++ x) (last_kept ∙ rest)
        ∙ sym (append_assoc (take ((p.n - 1) * p.s) content) (drop ((p.n - 1) * p.s) content) (zeros (p.s - length (drop ((p.n - 1) * p.s) content))))
        ∙ ap₂ (λ (x : List ℕ) (j : ℕ). x ++ zeros j) (take-append-drop ((p.n - 1) * p.s) content) g

    pub data_made : (d : List ℕ) → d ≡ joined (code_chunk p (take ((p.n - 1) * p.s) content ++ take p.s (y ++ drop p.s last))) 0 (p.n + p.m)
        → d ≡ joined (code_chunk p (padded (p.n * p.s) content)) 0 (p.n + p.m)
    data_made d e = e ∙ ap (λ (x : List ℕ). joined (code_chunk p x) 0 (p.n + p.m)) data_is
