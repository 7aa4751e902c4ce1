-- Why a promise that is an equation admits a single answer: the general statement that docs/PROMISES.md cites, proved in
-- proofs/Promise.antt. d is what a definition says, a and b are two answers that meet the promise.
use Rattle.std.specs.Prelude.{◌≡◌}

pub record SingleAnswer : Type 1 where
  pub one : {A : Type 0} (d a b : A) → a ≡ d → b ≡ d → a ≡ b
  -- for a promise of several equations, pair by pair
  pub two : {A B : Type 0} (d : A) (e : B) (a b : A) (x y : B) → (a ≡ d) × (x ≡ e) → (b ≡ d) × (y ≡ e) → (a ≡ b) × (x ≡ y)
