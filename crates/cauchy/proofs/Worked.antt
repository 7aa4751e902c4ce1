-- C6 and C7, computed. Assumes nothing.
use mathlib.Core.Path.{refl}
use Rattle.little.specs.Fields.{le, bytes_of}
use Rattle.gf16.specs.Field.{polynomial, scale, double, mul_bits, mul, square, squares, inv}
use Rattle.cauchy.specs.Code.{joined, field_sum, recovery_word, recovery_block, code_block}
use Rattle.cauchy.specs.inner.System.{dot, zeros, reduce, back, first, extend, solve}
use Rattle.cauchy.specs.Decode.{held, missing, present, rows_used, held_sum, side, sides, found_words, rank, decode}
use Rattle.cauchy.specs.Worked.{Worked}

pub worked : Worked
unfolding polynomial scale double mul_bits mul square squares inv missing dot zeros reduce back first extend solve le bytes_of joined field_sum recovery_word recovery_block code_block held present rows_used held_sum side sides found_words rank decode
worked = record { six = refl; seven = λ a b c d. refl; lowest = refl; barred = refl }
