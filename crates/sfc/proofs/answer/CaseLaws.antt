-- A test that holds in every case of an enum whose cases carry no values holds of all its values: so a law over many cases is
-- one computed test, with no clause for each. Assumes nothing.
use Prim.Native.Nat.{ℕ, suc}
use mathlib.Core.Path.{◌≡◌, refl, ap}
use mathlib.Core.Bool.{Bool, true, ◌&&◌}
use mathlib.Core.List.{List, [], ◌∷◌}
use mathlib.Core.Logic.{inl, inr}
use native.Mathlib.Omega.{arith}
use denote.Struct.Field.{Field}
use denote.Enum.Declared.{Choice}
use Rattle.little.proofs.Laws.{test_laws}

-- `parts` has the fields of each case: here there are none
abbrev pub Bare : List (List Field) → Type 0
Bare [] = Unit
Bare ([] ∷ parts) = Bare parts
Bare ((f ∷ fs) ∷ parts) = ⊥

-- which case, counted from 0
abbrev pub case_of : (parts : List (List Field)) → Choice parts → ℕ
case_of [] c = absurd c
case_of (p ∷ parts) (inl v) = 0
case_of (p ∷ parts) (inr c) = suc (case_of parts c)

pub case_one : (parts : List (List Field)) → Bare parts → (c d : Choice parts) → case_of parts c ≡ case_of parts d → c ≡ d
case_one [] b c d e = absurd c
case_one ([] ∷ parts) b (inl v) (inl w) e = refl
case_one ([] ∷ parts) b (inl v) (inr d) e = absurd (omega arith)
case_one ([] ∷ parts) b (inr c) (inl w) e = absurd (omega arith)
case_one ([] ∷ parts) b (inr c) (inr d) e = ap inr (case_one parts b c d (omega arith))
case_one ((f ∷ fs) ∷ parts) b c d e = absurd b

-- whether a test holds in every case
abbrev pub in_each : (parts : List (List Field)) → Bare parts → (Choice parts → Bool) → Bool
in_each [] b t = true
in_each ([] ∷ parts) b t = t (inl tt) && in_each parts b (λ c. t (inr c))
in_each ((f ∷ fs) ∷ parts) b t = absurd b

pub in_each_lem : (parts : List (List Field)) (b : Bare parts) (t : Choice parts → Bool) → in_each parts b t ≡ true → (c : Choice parts) → t c ≡ true
in_each_lem [] b t e c = absurd c
in_each_lem ([] ∷ parts) b t e (inl v) = (test_laws.and_both (t (inl tt)) _ e).0
in_each_lem ([] ∷ parts) b t e (inr c) = in_each_lem parts b (λ d. t (inr d)) (test_laws.and_both (t (inl tt)) _ e).1 c
in_each_lem ((f ∷ fs) ∷ parts) b t e c = absurd b
