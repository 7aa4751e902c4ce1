-- The field of 2 ^ 16 elements as the operations of the code, with their laws. Assumes nothing.
use lib.Bits.{bit_xor}
use lib.Dec.{lit<}
use Rattle.gf16.specs.Field.{mul, inv}
use Rattle.gf16.proofs.Laws.{laws}
use Rattle.cauchy.proofs.algebra.WordCode.{NatOps, WordLaws}

abbrev pub gf : NatOps
gf = record { add = bit_xor; mul = mul; inv = inv }

pub gf_laws : WordLaws gf 65536
gf_laws =
    record {
      one-lt = lit< tt;
      add-lt = laws.add-closed;
      mul-lt = laws.mul-closed;
      inv-lt = laws.inv-closed;
      add_assoc = λ x y z _ _ _. laws.add_assoc x y z;
      add_comm = λ x y _ _. laws.add_comm x y;
      add-zero = λ x _. laws.add-zero x;
      add_self = λ x _. laws.add_self x;
      mul_assoc = laws.mul_assoc;
      mul_comm = laws.mul_comm;
      mul-one = laws.mul-one;
      mul-zero = λ x _. laws.mul-zero x;
      mul-add = λ x y z _ _ _. laws.mul-add x y z;
      mul_inverse = laws.mul-inv;
    }
