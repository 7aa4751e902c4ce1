-- What is known once 71 lets a shape, marks or a store through. Assumes nothing: these are definitions.
use Rattle.std.specs.Prelude.{ℕ, ◌+◌, ◌*◌, ◌%◌, ◌≤◌, ◌≡◌, true, List, length}
use Rattle.sfc.specs.format.Limits.{wanted_blocks}
use Rattle.sfc.specs.session.Marks.{marks_known}

pub record RightShape (size n m s : ℕ) : Type 0 where
  pub n_least : 1 ≤ n
  pub n_most : n ≤ 1024
  pub m_most : m ≤ 32
  pub s_least : 2 ≤ s
  pub s_most : s ≤ 4096
  pub s_even : s % 2 ≡ 0
  pub size_most : size ≤ 1099511627776
  pub wanted : n ≡ wanted_blocks size s
  -- and so a store is small
  pub small : (n + m) * s ≤ 4325376

pub record RightMarks (size n m s : ℕ) (marks : List ℕ) : Type 0 where
  pub shape : RightShape size n m s
  pub marks_long : length marks ≡ n + m
  pub fit : marks_known marks ≡ true

pub record RightLent (size n m s : ℕ) (store marks : List ℕ) : Type 0 where
  pub shape : RightShape size n m s
  pub store_long : length store ≡ (n + m) * s
  pub marks_long : length marks ≡ n + m
  pub fit : marks_known marks ≡ true
