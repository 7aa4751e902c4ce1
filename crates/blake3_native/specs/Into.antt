-- What the exported call leaves in the memory that it is lent. Assumes nothing: a definition.
use Rattle.std.specs.Prelude.{ℕ, cond, List, eqb, length}
use Rattle.blake3.specs.Tree.{hash}

abbrev pub hash_into : List ℕ → List ℕ → List ℕ
hash_into text out = cond (eqb (length out) 32) (hash text) out
