-- The answers of the code by document 01's numbers, and when each call gives which: 71 before 50, as the container gives them. A
-- definition, and statements, proved in proofs/Answers.antt for any numbers and any lent memory.
use Rattle.std.specs.Prelude.{◌≡◌, Ok, Err, cond, ◌||◌, List, [], ℕ, ◌/◌, length, ltb}
use Rattle.little.specs.Said.{Said, refused, says, Apart}
use Rattle.cauchy.specs.Decode.{holding}
use Rattle.cauchy.specs.Calls.{wrong_shape, wrong_lent, recovery_spec, wrong_four, four_spec, wrong_memory, rebuild_spec, rebuild_all_spec, Answer}
use Rattle.cauchy.specs.declared.shape.Refusal.{Refusal}

-- what an answer says: that it is done, or its number
abbrev pub answer_said : Answer → Said
answer_said (Ok _) = says "done" []
answer_said (Err Refusal.BadShape) = refused 71
answer_said (Err Refusal.TooFew) = refused 50

pub record Answers : Type 0 where
  -- recovery: 71 exactly if a house limit is passed, there is no block k, or what is lent has another length
  pub recovery : (n m s k : ℕ) (blocks out : List ℕ) → answer_said (recovery_spec n m s k blocks out).answer
      ≡ cond (wrong_shape n m s || wrong_lent n m s k blocks out) (refused 71) (says "done" [])
  pub four : (n m s k : ℕ) (front last out : List ℕ) → answer_said (four_spec n m s k front last out).answer
      ≡ cond (wrong_shape n m s || wrong_four n m s k front last out) (refused 71) (says "done" [])
  -- rebuilding: 71 likewise, and else 50 exactly if fewer than n are held
  pub rebuild : (n m s : ℕ) (marks store scratch numbers : List ℕ) (first count : ℕ)
      → answer_said (rebuild_spec n m s marks store scratch numbers first count).answer
      ≡ cond (wrong_shape n m s || wrong_memory n m s (length marks) (length store) (length scratch) (length numbers) first count)
      (refused 71)
      (cond (ltb (holding marks) n) (refused 50) (says "done" []))
  pub rebuild-all : (n m s : ℕ) (marks store scratch numbers : List ℕ)
      → answer_said (rebuild_all_spec n m s marks store scratch numbers).answer
      ≡ cond (wrong_shape n m s || wrong_memory n m s (length marks) (length store) (length scratch) (length numbers) 0 (s / 2))
      (refused 71)
      (cond (ltb (holding marks) n) (refused 50) (says "done" []))
  -- two answers that say the same are the same
  pub apart : Apart answer_said
