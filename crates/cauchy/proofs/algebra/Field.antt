-- A field of characteristic 2, and the algebra that the rest asks for: `simp (adds, muls)` proves an equation of sums and
-- products. Assumes nothing.
use mathlib.Core.Path.{◌≡◌, sym, ◌∙◌, ap, ap₂}
use mathlib.Core.Logic.{◌≢◌}
use Rattle.cauchy.specs.inner.System.{Ops}

module _ (R : Ops) where
  open R use {F, ◌⊕◌, ◌⊗◌, inv, O, I}

  infixl 65 ◌⊕◌
  infixl 70 ◌⊗◌
  pub record Laws : Type 0 where
    pub add_assoc : (a b c : F) → (a ⊕ b) ⊕ c ≡ a ⊕ (b ⊕ c)
    pub add_comm : (a b : F) → a ⊕ b ≡ b ⊕ a
    pub add-zero : (a : F) → a ⊕ O ≡ a
    pub add_self : (a : F) → a ⊕ a ≡ O
    pub mul_assoc : (a b c : F) → (a ⊗ b) ⊗ c ≡ a ⊗ (b ⊗ c)
    pub mul_comm : (a b : F) → a ⊗ b ≡ b ⊗ a
    pub mul-one : (a : F) → a ⊗ I ≡ a
    pub mul-zero : (a : F) → a ⊗ O ≡ O
    pub mul-add : (a b c : F) → a ⊗ (b ⊕ c) ≡ (a ⊗ b) ⊕ (a ⊗ c)
    pub mul_inverse : (a : F) → a ≢ O → a ⊗ inv a ≡ I

pub record Field : Type 1 where
  pub R : Ops
  pub laws : Laws R

module _ (K : Field) where
  open K use {R}
  open R use {F, ◌⊕◌, ◌⊗◌, inv, O, I}

  infixl 65 ◌⊕◌
  infixl 70 ◌⊗◌
  -- the laws once more, as declarations that a ruleset can list
  pub assoc : (a b c : F) → (a ⊕ b) ⊕ c ≡ a ⊕ (b ⊕ c)
  assoc = K.laws.add_assoc

  pub comm : (a b : F) → a ⊕ b ≡ b ⊕ a
  comm = K.laws.add_comm

  pub add_O : (a : F) → a ⊕ O ≡ a
  add_O = K.laws.add-zero

  pub self : (a : F) → a ⊕ a ≡ O
  self = K.laws.add_self

  pub mulassoc : (a b c : F) → (a ⊗ b) ⊗ c ≡ a ⊗ (b ⊗ c)
  mulassoc = K.laws.mul_assoc

  pub mulcomm : (a b : F) → a ⊗ b ≡ b ⊗ a
  mulcomm = K.laws.mul_comm

  pub mul_I : (a : F) → a ⊗ I ≡ a
  mul_I = K.laws.mul-one

  pub mul_O : (a : F) → a ⊗ O ≡ O
  mul_O = K.laws.mul-zero

  pub dist : (a b c : F) → a ⊗ (b ⊕ c) ≡ (a ⊗ b) ⊕ (a ⊗ c)
  dist = K.laws.mul-add

  pub mul-inv : (a : F) → a ≢ O → a ⊗ inv a ≡ I
  mul-inv = K.laws.mul_inverse

  pub O_add : (a : F) → O ⊕ a ≡ a
  O_add a = comm O a ∙ add_O a

  pub left_comm : (a b c : F) → a ⊕ (b ⊕ c) ≡ b ⊕ (a ⊕ c)
  left_comm a b c = sym (assoc a b c) ∙ ap (λ (x : F). x ⊕ c) (comm a b) ∙ assoc b a c

  -- what is added twice goes
  pub twice : (a b : F) → a ⊕ (a ⊕ b) ≡ b
  twice a b = sym (assoc a a b) ∙ ap (λ (x : F). x ⊕ b) (self a) ∙ O_add b

  pub eq_of_add : (a b : F) → a ⊕ b ≡ O → a ≡ b
  eq_of_add a b h = sym (add_O a) ∙ ap (λ (x : F). a ⊕ x) (sym h) ∙ twice a b

  pub add_ne : (a b : F) → a ≢ b → (a ⊕ b) ≢ O
  add_ne a b n h = n (eq_of_add a b h)

  pub mul_left_comm : (a b c : F) → a ⊗ (b ⊗ c) ≡ b ⊗ (a ⊗ c)
  mul_left_comm a b c = sym (mulassoc a b c) ∙ ap (λ (x : F). x ⊗ c) (mulcomm a b) ∙ mulassoc b a c

  pub dist_r : (a b c : F) → (a ⊕ b) ⊗ c ≡ (a ⊗ c) ⊕ (b ⊗ c)
  dist_r a b c = mulcomm (a ⊕ b) c ∙ dist c a b ∙ ap₂ ◌⊕◌ (mulcomm c a) (mulcomm c b)

  pub I_mul : (a : F) → I ⊗ a ≡ a
  I_mul a = mulcomm I a ∙ mul_I a

  pub O_mul : (a : F) → O ⊗ a ≡ O
  O_mul a = mulcomm O a ∙ mul_O a

  pub ruleset adds = (assoc, comm, left_comm, twice, self, add_O, O_add)

  pub ruleset muls = (mulassoc, mulcomm, mul_left_comm, dist, dist_r, mul_O, O_mul, mul_I, I_mul)
