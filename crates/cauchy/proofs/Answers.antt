-- The answers by number (specs/Answers.antt), read off the definitions of the calls. Assumes nothing.
use mathlib.Core.Path.{◌≡◌, refl}
use mathlib.Core.Bool.{Bool, true, false, cond, ◌||◌}
use mathlib.Core.List.{List, []}
use Prim.Native.Nat.{ℕ, ◌/◌}
use lib.ListN.{length}
use lib.Dec.{ltb, eqb}
use Rattle.little.specs.Said.{Said, refused, says}
use Rattle.little.proofs.Laws.{said_laws}
use Rattle.cauchy.specs.Decode.{holding}
use Rattle.cauchy.specs.Calls.{wrong_shape, wrong_lent, recovered, recovery_spec, wrong_four, four_spec, wrong_memory, rebuilt, rebuild_spec, rebuild_all_spec, Answer}
use Rattle.cauchy.specs.Answers.{answer_said, Answers}
use Rattle.cauchy.specs.declared.shape.Refusal.{Refusal}
use Rattle.std.specs.Prelude.{Ok, Err}

-- ---- whatever a call leaves beside its answer

recovery_says : (t : Bool) (out made : List ℕ) → answer_said (cond t (recovered out (Err Refusal.BadShape)) (recovered made (Ok tt))).answer
    ≡ cond t (refused 71) (says "done" [])
recovery_says true out made = refl
recovery_says false out made = refl

rebuild_says : (t u : Bool) (scratch numbers made zeros : List ℕ)
    → answer_said (cond t (rebuilt scratch numbers (Err Refusal.BadShape)) (cond u (rebuilt scratch numbers (Err Refusal.TooFew)) (rebuilt made zeros (Ok tt)))).answer
    ≡ cond t (refused 71) (cond u (refused 50) (says "done" []))
rebuild_says true u scratch numbers made zeros = refl
rebuild_says false true scratch numbers made zeros = refl
rebuild_says false false scratch numbers made zeros = refl

-- ---- call by call

recovery : (n m s k : ℕ) (blocks out : List ℕ) → answer_said (recovery_spec n m s k blocks out).answer
    ≡ cond (wrong_shape n m s || wrong_lent n m s k blocks out) (refused 71) (says "done" [])
unfolding recovery_spec
recovery n m s k blocks out = recovery_says (wrong_shape n m s || wrong_lent n m s k blocks out) _ _

four : (n m s k : ℕ) (front last out : List ℕ) → answer_said (four_spec n m s k front last out).answer
    ≡ cond (wrong_shape n m s || wrong_four n m s k front last out) (refused 71) (says "done" [])
unfolding four_spec
four n m s k front last out = recovery_says (wrong_shape n m s || wrong_four n m s k front last out) _ _

module _ (n m s : ℕ) (marks store scratch numbers : List ℕ) where
  -- 71 of the columns from `first` on
  abbrev wrong : ℕ → ℕ → Bool
  wrong first count = wrong_shape n m s || wrong_memory n m s (length marks) (length store) (length scratch) (length numbers) first count

  rebuild : (first count : ℕ) → answer_said (rebuild_spec n m s marks store scratch numbers first count).answer
      ≡ cond (wrong first count) (refused 71) (cond (ltb (holding marks) n) (refused 50) (says "done" []))
  unfolding rebuild_spec
  rebuild first count = rebuild_says (wrong first count) (ltb (holding marks) n) _ _ _ _

  rebuild-all : answer_said (rebuild_all_spec n m s marks store scratch numbers).answer
      ≡ cond (wrong 0 (s / 2)) (refused 71) (cond (ltb (holding marks) n) (refused 50) (says "done" []))
  unfolding rebuild_all_spec
  rebuild-all = rebuild_says (wrong 0 (s / 2)) (ltb (holding marks) n) _ _ _ _

-- ---- an answer, from what it says

abbrev answer_of_said : Said → Answer
answer_of_said (refused k) = Err (cond (eqb k 71) Refusal.BadShape Refusal.TooFew)
answer_of_said (says word values) = Ok tt

answer_back : (v : Answer) → answer_of_said (answer_said v) ≡ v
answer_back (Ok _) = refl
answer_back (Err Refusal.BadShape) = refl
answer_back (Err Refusal.TooFew) = refl

pub answers : Answers
answers = record {
  recovery = recovery;
  four = four;
  rebuild = rebuild;
  rebuild-all = rebuild-all;
  apart = said_laws.told_apart answer_said answer_of_said answer_back;
}
