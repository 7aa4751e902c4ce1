-- The worked sums C6 and C7 (document 01, "Sums worked and shortcuts barred"), and two choices of recovery blocks. Proved in
-- proofs/Worked.antt.
use Rattle.std.specs.Prelude.{◌≡◌, [], ◌∷◌, ℕ}
use Rattle.cauchy.specs.Code.{code_block}
use Rattle.cauchy.specs.Decode.{rows_used, decode}

pub record Worked : Type 0 where
  -- C6: two data blocks of four bytes, one recovery block
  pub six : code_block 2 1 4 (0x01 ∷ 0x00 ∷ 0x02 ∷ 0x00 ∷ 0x03 ∷ 0x00 ∷ 0x04 ∷ 0x00 ∷ []) 2 ≡ 0x16 ∷ 0x80 ∷ 0x00 ∷ 0x00 ∷ []
  -- C7: block 0 and the recovery block are held; whatever lies where block 1 is missing, it comes back
  pub seven : (a b c d : ℕ)
      → decode 2 1 4 (1 ∷ 0 ∷ 1 ∷ []) (0x01 ∷ 0x00 ∷ 0x02 ∷ 0x00 ∷ a ∷ b ∷ c ∷ d ∷ 0x16 ∷ 0x80 ∷ 0x00 ∷ 0x00 ∷ []) 1 ≡ 0x03 ∷ 0x00 ∷ 0x04 ∷ 0x00 ∷ []
  -- of two held recovery blocks the lower is used
  pub lowest : rows_used 1 (0 ∷ 1 ∷ 1 ∷ []) ≡ 0 ∷ []
  -- a barred recovery block is not held
  pub barred : rows_used 1 (0 ∷ 2 ∷ 1 ∷ []) ≡ 1 ∷ []
