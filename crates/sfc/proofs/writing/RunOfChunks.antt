-- Lists of one width that are laid one after the other over a lent list, one or more in a turn, and what that makes of the chunks
-- of a file. Assumes nothing.
use Prim.Native.Nat.{ℕ, ◌+◌, ◌-◌, ◌*◌, ◌<◌, ◌≤◌}
use mathlib.Core.Path.{◌≡◌, refl, sym, ap, ap₂, ◌∙◌}
use mathlib.Core.List.{List, ◌++◌}
use native.Mathlib.Nat.{add-mul, one-mul, zero-mul, zero-add, mul-le-mul, mul-le-mul_right}
use native.Mathlib.Omega.{arith}
use borrow.Author.Tests.{lt-ltb, le-ltb, eq-eqb}
use lib.ListN.{length, take, drop, length-append}
use lib.Seq.{take_all}
use Rattle.little.specs.Parts.{part, block}
use Rattle.little.proofs.Laws.{block_laws, part_laws}
use Rattle.std.specs.Prelude.{Ok}
use Rattle.cauchy.specs.Code.{joined, recovery_block, code_block}
use Rattle.cauchy.specs.Calls.{up_to_four, wrong_four, four_spec, Recovered, Answer}
use Rattle.cauchy.proofs.Laws.{code_laws}
use Rattle.sfc.specs.inner.Writing.{chunk_of, run_chunk, recovery_chunk, code_chunk, all_of, Planned}
use Rattle.sfc.specs.declared.writing.parts.Plan.{Plan}
use Rattle.sfc.specs.declared.writing.parts.DataBlocks.{DataBlocks}
use Rattle.sfc.proofs.session.HeldLaws.{block-joined}
use Rattle.sfc.proofs.writing.FillLaws.{Front, front_start, front_length, front-end, front_lent, front_is}
use Rattle.sfc.proofs.writing.LengthLaws.{length-chunk, joined_same, length-joined}

-- the first i of `count` lists f 0, f 1 and so on, of `width` elements each, stand there
pub record Run (f : ℕ → List ℕ) (count width : ℕ) (d₀ : List ℕ) (i at : ℕ) (d : List ℕ) : Type 0 where
  pub to : i ≤ count
  pub reached : at ≡ i * width
  pub laid : Front d₀ (joined f 0 i) at d
  pub whole : length d₀ ≡ count * width
  pub sized : (j : ℕ) → j < count → length (f j) ≡ width

pub run_start : (f : ℕ → List ℕ) (count width : ℕ) (d : List ℕ) → length d ≡ count * width → ((j : ℕ) → j < count → length (f j) ≡ width)
    → Run f count width d 0 0 d
unfolding joined
run_start f count width d h sized = record { to = omega arith; reached = omega arith; laid = front_start d; whole = h; sized = sized }

module _ {f : ℕ → List ℕ} {count width : ℕ} {d₀ : List ℕ} {i at : ℕ} {d : List ℕ} (r : Run f count width d₀ i at d) where
  pub run_length : length d ≡ length d₀
  run_length = front_length r.laid

  -- room for the next q lists
  pub run_room : (q : ℕ) → i + q ≤ count → at + q * width ≤ length d
  run_room q h = omega (arith, r.reached, r.whole, run_length, add-mul i q width, mul-le-mul_right {m = i + q} {n = count} width h)

  -- a turn that lays them
  pub run_turn : (q : ℕ) → i + q ≤ count → (ys : List ℕ) (n at' : ℕ) → n ≡ q * width → at' ≡ at + q * width → ys ≡ joined f i q
      → Run f count width d₀ (i + q) at' (take at d ++ (ys ++ drop n (drop at d)))
  run_turn q h ys n at' en ea ey =
      let e : at + n ≡ at' = omega arith in
      let l : length ys ≡ n = ap length ey ∙ length-joined f i q width (λ j u. r.sized (i + j) (omega arith)) ∙ sym en in
      let j : joined f 0 i ++ ys ≡ joined f 0 (i + q) =
      ap (λ (x : List ℕ). joined f 0 i ++ x) (ey ∙ ap (λ (x : ℕ). joined f x q) (sym (zero-add i))) ∙ sym (code_laws.joined-append f 0 i q) in
      record {
        to = h;
        reached = omega (arith, r.reached, add-mul i q width);
        laid = front_is (rw e at (front_lent r.laid ys n l (omega (arith, run_room q h, run_length)))) j refl;
        whole = r.whole;
        sized = r.sized;
      }

  pub run_end : count ≤ i → d ≡ joined f 0 count
  run_end h =
      let e : i ≡ count = omega (arith, r.to) in
      front-end r.laid (r.reached ∙ ap (λ (k : ℕ). k * width) e ∙ sym r.whole) ∙ ap (λ (k : ℕ). joined f 0 k) e

-- a turn whose lists are counted from the front
pub run_on : {f : ℕ → List ℕ} {count room i : ℕ} {d₀ d : List ℕ} → Run f count room d₀ i (i * room) d
    → (q : ℕ) → i + q ≤ count → (ys : List ℕ) (n i' : ℕ) → n ≡ i * room + q * room - i * room → i' ≡ i + q → ys ≡ joined f i q
    → Run f count room d₀ i' (i' * room) (take (i * room) d ++ (ys ++ drop n (drop (i * room) d)))
run_on {room = room} {i = i} r q h ys n i' en ei ey = rw ei (run_turn r q h ys n ((i + q) * room) (omega arith) (add-mul i q room) ey)

-- ---- the chunks of blocks that lie one after the other

module _ (p : Plan) (u : length p.uuid ≡ 16) (first count room : ℕ) (blocks : List ℕ) (er : room ≡ 84 + p.s) (h : length blocks ≡ count * p.s) where
  chunk_sized : (i : ℕ) → i < count → length (run_chunk p first blocks i) ≡ room
  chunk_sized i l =
      length-chunk p.uuid p.n p.m p.s (first + i) (block p.s blocks i) u
      ∙ ap (λ (x : ℕ). 84 + x) (block_laws.length-block p.s count blocks h i l) ∙ sym er

  pub chunk_start : (d : List ℕ) → length d ≡ count * (84 + p.s) → Run (run_chunk p first blocks) count room d 0 (0 * room) d
  chunk_start d k = rw zero-mul (run_start (run_chunk p first blocks) count room d (k ∙ ap (λ (x : ℕ). count * x) (sym er)) chunk_sized)

module _ (p : Plan) (first : ℕ) (blocks : List ℕ) {count room i : ℕ} {d₀ d : List ℕ} (r : Run (run_chunk p first blocks) count room d₀ i (i * room) d) (h : i < count) where
  pub chunk-turn : (ys : List ℕ) (a b : ℕ) → a ≡ i * room + room - i * room → b ≡ i * p.s + p.s - i * p.s
      → ys ≡ chunk_of p (first + i) (part blocks (i * p.s) b)
      → Run (run_chunk p first blocks) count room d₀ (i + 1) ((i + 1) * room) (take (i * room) d ++ (ys ++ drop a (drop (i * room) d)))
  chunk-turn ys a b ea eb ey =
      let k : b ≡ p.s = omega arith in
      run_turn r 1 (omega arith) ys a ((i + 1) * room) (omega arith) (add-mul i 1 room)
      (ey ∙ ap (λ (x : ℕ). chunk_of p (first + i) (part blocks (i * p.s) x)) k ∙ sym (code_laws.joined-one (run_chunk p first blocks) i))

-- ---- the recovery chunks

module _ (p : Plan) (b : DataBlocks) (q : Planned p b) where
  -- up to four blocks have room where four of any size have
  pub four_room : (count : ℕ) → count ≤ 4 → count * p.s ≤ 16384
  four_room count h = mul-le-mul {n₁ = count} {m₁ = p.s} {n₂ = 4} {m₂ = 4096} h (code_laws.right p.n p.m p.s q.shape).s_most

  pub recovery_start : length p.uuid ≡ 16 → (room : ℕ) (d : List ℕ) → room ≡ 84 + p.s → length d ≡ p.m * (84 + p.s)
      → Run (recovery_chunk p (all_of b)) p.m room d 0 (0 * room) d
  recovery_start u room d er hd =
      rw zero-mul (run_start (recovery_chunk p (all_of b)) p.m room d (hd ∙ ap (λ (x : ℕ). p.m * x) (sym er))
      (λ k _. length-chunk p.uuid p.n p.m p.s (p.n + k) (recovery_block p.n p.m p.s (all_of b) k) u
      ∙ ap (λ (x : ℕ). 84 + x) (code_laws.length_recovery p.n p.m p.s (all_of b) k (code_laws.right p.n p.m p.s q.shape).even) ∙ sym er))

  module _ (k count : ℕ) (hk : k < p.m) (hc : count ≡ up_to_four p.m k) where
    abbrev g : ℕ → List ℕ
    g i = recovery_block p.n p.m p.s (all_of b) (k + i)

    -- blocks that were not refused
    four-answer : (out z : List ℕ) (r : Answer) → length out ≡ count * p.s
        → ◌≡◌ {A = Recovered} (record { out = z; answer = r }) (four_spec p.n p.m p.s k b.front.now b.last.now out) → z ≡ joined g 0 count
    unfolding four_spec wrong_four
    four-answer out z r ho e =
        ap (λ (x : Recovered). x.out) e
        ∙ rw (q.shape, lt-ltb k p.m hk, eq-eqb (length b.front.now) ((p.n - 1) * p.s) q.front_long, eq-eqb (length b.last.now) p.s q.last_long, eq-eqb (length out) (up_to_four p.m k * p.s) (ho ∙ ap (λ (x : ℕ). x * p.s) hc), hc)

    -- and with them the answer that all went well
    pub four-done : (out z : List ℕ) (r : Answer) → length out ≡ count * p.s
        → ◌≡◌ {A = Recovered} (record { out = z; answer = r }) (four_spec p.n p.m p.s k b.front.now b.last.now out) → r ≡ Ok tt
    unfolding four_spec wrong_four
    four-done out z r ho e =
        ap (λ (x : Recovered). x.answer) e
        ∙ rw (q.shape, lt-ltb k p.m hk, eq-eqb (length b.front.now) ((p.n - 1) * p.s) q.front_long, eq-eqb (length b.last.now) p.s q.last_long, eq-eqb (length out) (up_to_four p.m k * p.s) (ho ∙ ap (λ (x : ℕ). x * p.s) hc))

    four-block : (i : ℕ) → i < count → block p.s (joined g 0 count) i ≡ g i
    four-block i h =
        block-joined p.s g 0 count i (λ j _ _. code_laws.length_recovery p.n p.m p.s (all_of b) (k + j) (code_laws.right p.n p.m p.s q.shape).even) h
        ∙ ap g (zero-add i)

    -- the run of chunks over them
    pub four-made : (out z ys : List ℕ) (r : Answer) → length out ≡ count * p.s
        → ◌≡◌ {A = Recovered} (record { out = z; answer = r }) (four_spec p.n p.m p.s k b.front.now b.last.now out)
        → ys ≡ joined (run_chunk p (p.n + k) z) 0 count → ys ≡ joined (recovery_chunk p (all_of b)) k count
    four-made out z ys r ho e ey =
        ey ∙ joined_same (run_chunk p (p.n + k) z) (recovery_chunk p (all_of b)) 0 k count
        (λ i h.
        let j : p.n + k + i ≡ p.n + (k + i) = omega arith in
        rw (zero-add i) (ap₂ (chunk_of p) j (ap (λ (x : List ℕ). block p.s x i) (four-answer out z r ho e) ∙ four-block i h)))

-- ---- all chunks

-- block i of the code over data blocks of which the last lies apart
module _ (n m s : ℕ) (front last : List ℕ) (n₁ : 1 ≤ n) (hf : length front ≡ (n - 1) * s) (hl : length last ≡ s) where
  code_front : (i : ℕ) → i < n - 1 → code_block n m s (front ++ last) i ≡ block s front i
  unfolding code_block
  code_front i h =
      rw (lt-ltb i n (omega arith)) (part_laws.part-append-left front last (i * s) s (omega (arith, block_laws.block_inside s (n - 1) i h)))

  code_last : code_block n m s (front ++ last) (n - 1) ≡ last
  unfolding code_block
  code_last =
      let e : (n - 1) * s ≡ length front + 0 = omega arith in
      rw (lt-ltb (n - 1) n (omega arith)) (ap (λ (k : ℕ). part (front ++ last) k s) e ∙ part_laws.part-append_right front last 0 s ∙ take_all s last (omega arith))

  code_recovery : (k : ℕ) → code_block n m s (front ++ last) (n + k) ≡ recovery_block n m s (front ++ last) k
  unfolding code_block
  code_recovery k =
      let e : n + k - n ≡ k = omega arith in
      rw (le-ltb (n + k) n (omega arith), e)

module _ (p : Plan) (u : length p.uuid ≡ 16) (b : DataBlocks) (q : Planned p b) (room : ℕ) (er : room ≡ 84 + p.s)
    (d : List ℕ) (hd : length d ≡ (p.n + p.m) * (84 + p.s)) where
  abbrev f : ℕ → List ℕ
  f i = code_chunk p (all_of b) i

  n₁ : 1 ≤ p.n
  n₁ = (code_laws.right p.n p.m p.s q.shape).n_least

  -- where the last data chunk begins, and that all chunks have room in d
  pub all_room : (1 ≤ p.n) × ((p.n - 1) * room + room + p.m * room ≡ length d)
  all_room =
      let e : p.n + p.m ≡ p.n - 1 + 1 + p.m = omega (arith, n₁) in
      (n₁, omega (arith, hd, ap (λ (k : ℕ). (p.n + p.m) * k) er, ap (λ (k : ℕ). k * room) e, add-mul (p.n - 1 + 1) p.m room, add-mul (p.n - 1) 1 room, one-mul room))

  all_start : Run f (p.n + p.m) room d 0 0 d
  all_start =
      let e : p.n ≡ p.n - 1 + 1 = omega (arith, n₁) in
      let l : length (all_of b) ≡ p.n * p.s =
      length-append b.front.now b.last.now ∙ omega (arith, q.front_long, q.last_long, ap (λ (j : ℕ). j * p.s) e, add-mul (p.n - 1) 1 p.s, one-mul p.s) in
      run_start f (p.n + p.m) room d (hd ∙ ap (λ (k : ℕ). (p.n + p.m) * k) (sym er))
      (λ i h. length-chunk p.uuid p.n p.m p.s i (code_block p.n p.m p.s (all_of b) i) u
      ∙ ap (λ (x : ℕ). 84 + x) (code_laws.length_code p.n p.m p.s (all_of b) i (code_laws.right p.n p.m p.s q.shape).even l) ∙ sym er)

  module _ (y₁ d₁ : List ℕ) (e₁ : y₁ ≡ joined (run_chunk p 0 b.front.now) 0 (p.n - 1)) (g₁ : d₁ ≡ y₁ ++ drop ((p.n - 1) * room) d) where
    pub all_first : Run f (p.n + p.m) room d (p.n - 1) ((p.n - 1) * room) d₁
    all_first =
        let j : y₁ ≡ joined f 0 (p.n - 1) = e₁ ∙ joined_same (run_chunk p 0 b.front.now) f 0 0 (p.n - 1)
        (λ k h. let z : 0 + k ≡ k = omega arith in rw (z, z) (ap (chunk_of p k) (sym (code_front p.n p.m p.s b.front.now b.last.now n₁ q.front_long q.last_long k h)))) in
        rw (zero-add (p.n - 1), ← g₁) at (run_turn all_start (p.n - 1) (omega arith) y₁ ((p.n - 1) * room) ((p.n - 1) * room) refl (omega arith) j)

    module _ (y₂ d₂ : List ℕ) (k : ℕ) (ek : k ≡ (p.n - 1) * room + room - (p.n - 1) * room) (e₂ : y₂ ≡ chunk_of p (p.n - 1) b.last.now)
        (g₂ : d₂ ≡ take ((p.n - 1) * room) d₁ ++ (y₂ ++ drop k (drop ((p.n - 1) * room) d₁))) where
      pub all-second : Run f (p.n + p.m) room d (p.n - 1 + 1) ((p.n - 1) * room + room) d₂
      all-second =
          let j : y₂ ≡ joined f (p.n - 1) 1 =
          e₂ ∙ ap (chunk_of p (p.n - 1)) (sym (code_last p.n p.m p.s b.front.now b.last.now n₁ q.front_long q.last_long)) ∙ sym (code_laws.joined-one f (p.n - 1)) in
          rw (← g₂) at (run_turn all_first 1 (omega (arith, n₁)) y₂ k ((p.n - 1) * room + room) (omega arith) (omega arith) j)

      pub all_left : (j : ℕ) → j ≡ length d₂ - ((p.n - 1) * room + room) → length (part d₂ ((p.n - 1) * room + room) j) ≡ p.m * (84 + p.s)
      all_left j ej =
          part_laws.length_part d₂ ((p.n - 1) * room + room) j (omega (arith, run_length all-second, all_room.1))
          ∙ omega (arith, run_length all-second, all_room.1, ap (λ (k : ℕ). p.m * k) er)

      pub all_made : (y₃ : List ℕ) (j : ℕ) → j ≡ length d₂ - ((p.n - 1) * room + room) → y₃ ≡ joined (recovery_chunk p (all_of b)) 0 p.m
          → take ((p.n - 1) * room + room) d₂ ++ (y₃ ++ drop j (drop ((p.n - 1) * room + room) d₂)) ≡ joined (code_chunk p (all_of b)) 0 (p.n + p.m)
      all_made y₃ j ej e₃ =
          let v : p.n - 1 + 1 ≡ p.n = omega (arith, n₁) in
          let c : y₃ ≡ joined f (p.n - 1 + 1) p.m = e₃ ∙ joined_same (recovery_chunk p (all_of b)) f 0 (p.n - 1 + 1) p.m
          (λ k h. let z : 0 + k ≡ k = omega arith in rw (z, v) (ap (chunk_of p (p.n + k)) (sym (code_recovery p.n p.m p.s b.front.now b.last.now n₁ q.front_long q.last_long k)))) in
          run_end (run_turn all-second p.m (omega arith) y₃ j ((p.n - 1) * room + room + p.m * room) (omega (arith, run_length all-second, all_room.1)) refl c) (omega arith)
