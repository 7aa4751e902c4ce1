-- A release: what it may take for granted past 54, and its answers. Assumes nothing.
use Prim.Native.Nat.{ℕ, ◌+◌, ◌^◌, ◌<◌, ◌≤◌}
use mathlib.Core.Path.{◌≡◌, sym, ap}
use mathlib.Core.Bool.{Bool, true, false, cond, not, true≢false, false≢true}
use mathlib.Core.List.{List}
use native.Mathlib.Omega.{arith}
use native.Mathlib.Nat.{mul-le-mul_right}
use lib.ListN.{length}
use lib.Seq.{length-take-le}
use Rattle.little.specs.Parts.{put}
use Rattle.little.specs.Runs.{zeros, same}
use Rattle.blake3.specs.Tree.{hash}
use Rattle.cauchy.specs.Code.{joined}
use Rattle.cauchy.specs.Decode.{missing_data}
use Rattle.cauchy.proofs.Laws.{missing_laws}
use Rattle.sfc.specs.answer.Numbers.{Check, Answered, verdict, passes}
use Rattle.sfc.specs.answer.Places.{place, complete}
use Rattle.sfc.specs.session.Marks.{held_count}
use Rattle.sfc.specs.session.Right.{RightShape}
use Rattle.sfc.specs.inner.Gather.{Gatherable, joined_given}
use Rattle.sfc.specs.give.Turns.{piece_of, joined_bytes, joined_of, releasing_of, release_lent, joined_checks, release}
use Rattle.sfc.specs.declared.format.header.Head.{Head}
use Rattle.sfc.specs.declared.answer.reason.Reason.TheVariants.{ContentHash}
use Rattle.sfc.proofs.answer.CheckLaws.{passed, refused_then, wrong_fails}
use Rattle.sfc.proofs.writing.LengthLaws.{length-joined}
use Rattle.sfc.proofs.give.GatherLaws.{length-piece}
use Rattle.sfc.proofs.give.RebuildLaws.{cut_right}
use Rattle.sfc.proofs.give.TurnLaws.{RightColumns}
use Rattle.sfc.specs.declared.give.release.Complete.{Complete}
use Rattle.sfc.specs.declared.answer.reason.Reason.{Reason}
use Rattle.std.specs.Prelude.{Result, Ok, Err}

pub size_small : (size n m s : ℕ) → RightShape size n m s → size < 2 ^ 32
size_small size n m s r = omega (arith, (cut_right size n m s r).most, r.small, mul-le-mul_right {m = n} {n = n + m} s (omega arith))

-- with N held there is a block of scratch for each missing one
pub gatherable : (size n m s : ℕ) (store marks scratch : List ℕ) (f : ℕ) → RightColumns size n m s store marks scratch f → n ≤ held_count marks
    → Gatherable n s marks store scratch
gatherable size n m s store marks scratch f r e =
    let k = missing_laws.enough n m marks r.right.marks_long e in
    record {
      marks_long = omega (arith, r.right.marks_long);
      store_long = omega (arith, r.right.store_long, mul-le-mul_right {m = n} {n = n + m} s (omega arith));
      room = omega (arith, r.beside.long, mul-le-mul_right {m = length (missing_data n marks)} {n = m} s (omega (arith, k.few, k.same)));
    }

-- so many bytes are joined
pub length-joined_bytes : (size n m s : ℕ) (store marks scratch : List ℕ) (f : ℕ) → RightColumns size n m s store marks scratch f → n ≤ held_count marks
    → length (joined_bytes size n s store marks scratch) ≡ size
unfolding joined_bytes
length-joined_bytes size n m s store marks scratch f r e =
    let g = gatherable size n m s store marks scratch f r e in
    length-take-le size (joined (λ j. piece_of s store marks scratch j) 0 n)
    (omega (
      arith,
      length-joined (λ j. piece_of s store marks scratch j) 0 n s (λ j h. length-piece n s marks store scratch g (0 + j) (omega arith)),
      (cut_right size n m s r.right.shape).most,
    ))

-- ---- past 54, by what the hash says

module _ (h : Head) (store marks scratch out : List ℕ) where
  pub joined_differs : same (hash (joined_of h store marks scratch)) h.hash ≡ false
      → ◌≡◌ {A = Answered (Result Complete Reason)} (record { answer = Err ContentHash; output = out }) (joined_given h store marks scratch out)
  unfolding joined_given
  joined_differs e = rw e

  pub joined_complete : same (hash (joined_of h store marks scratch)) h.hash ≡ true
      → ◌≡◌ {A = Answered (Result Complete Reason)} (record { answer = Ok (complete (place h.size)); output = put out 0 (joined_of h store marks scratch) }) (joined_given h store marks scratch out)
  unfolding joined_given
  joined_complete e = rw e

  -- and by what the inner call answers
  pub joined-not : (r : Bool) (after : List ℕ) → not r ≡ true → r ≡ same (hash (joined_of h store marks scratch)) h.hash
      → after ≡ cond r (put out 0 (joined_of h store marks scratch)) out
      → ◌≡◌ {A = Answered (Result Complete Reason)} (record { answer = Err ContentHash; output = after }) (joined_given h store marks scratch out)
  joined-not true after p f g = absurd (false≢true p)
  joined-not false after p f g = rw g (joined_differs (sym f))

  pub joined-all : (r : Bool) (after : List ℕ) → not r ≡ false → r ≡ same (hash (joined_of h store marks scratch)) h.hash
      → after ≡ cond r (put out 0 (joined_of h store marks scratch)) out
      → ◌≡◌ {A = Answered (Result Complete Reason)} (record { answer = Ok (complete (place h.size)); output = after }) (joined_given h store marks scratch out)
  joined-all true after p f g = rw g (joined_complete (sym f))
  joined-all false after p f g = absurd (true≢false p)

-- ---- the answers of the call

module _ (h : Head) (store marks scratch : List ℕ) (f : ℕ) (out : List ℕ) where
  -- a refusal by what is lent changes nothing
  pub released_not : (r : Reason) → verdict (release_lent h store marks scratch f out) ≡ Err r → releasing_of (Err r) f scratch out ≡ release h store marks scratch f out
  unfolding release
  released_not r e =
      let cs : List Check = release_lent h store marks scratch f out in
      let ds : List Check = joined_checks h store marks scratch in
      let p : passes cs ≡ false = wrong_fails cs r e in
      let a = refused_then Err cs ds (Ok (complete (place h.size))) r e in
      let o = refused_then (λ (q : Reason). out) cs ds (put out 0 (joined_of h store marks scratch)) r e in
      λ i. releasing_of (sym a i) (sym (ap (λ (t : Bool). cond t 0 f) p) i) (sym (ap (λ (t : Bool). cond t (zeros (length scratch)) scratch) p) i) (sym o i)

  -- past it the bytes are judged
  pub released_judged : verdict (release_lent h store marks scratch f out) ≡ Ok tt → (answer : Result Complete Reason) (output scratch' : List ℕ)
      → ◌≡◌ {A = Answered (Result Complete Reason)} (record { answer = answer; output = output }) (joined_given h store marks scratch out)
      → scratch' ≡ zeros (length scratch) → releasing_of answer 0 scratch' output ≡ release h store marks scratch f out
  unfolding release joined_given
  released_judged e answer output scratch' g es =
      let p = passed (release_lent h store marks scratch f out) e in
      rw (p.0, p.1.0, p.1.1.0, p.1.1.1.0) (λ i. releasing_of (g i).answer 0 (es i) (g i).output)
