-- The table C1 to C10 (specs/demand/Worked.antt): C1 to C7 are the field's and the code's own, C9 and C10 are computed. Assumes
-- nothing.
use Prim.Native.Nat.{ℕ, ◌+◌, ◌-◌, ◌*◌, ◌/◌, ◌<◌}
use mathlib.Core.Path.{◌≡◌, refl, sym, ap, ◌∙◌}
use native.Mathlib.Omega.{arith}
use lib.Arith.{digits_div}
use Rattle.gf16.proofs.Laws as gf16
use Rattle.cauchy.proofs.Worked as cauchy
use Rattle.cauchy.specs.Decode.{held, count}
use Rattle.sfc.specs.format.Limits.{wanted_blocks, unlawful, above_house}
use Rattle.sfc.specs.session.Lent.{shape_wrong, marks_wrong}
use Rattle.sfc.specs.session.Marks.{marks_known}
use Rattle.sfc.specs.note.Missing.{unheld_from, missing}
use Rattle.sfc.specs.note.Ranges.{put_before, ranges, apart_from, bounds}
use Rattle.sfc.specs.note.Note.{be, big_bytes, pairs_bytes, note_of, write_note, pairs_from, malformed, read_note}
use Rattle.sfc.specs.demand.Worked.{Worked}
use Rattle.sfc.proofs.format.LimitLaws.{wanted_none, wanted_some}

-- a quotient, from its parts
quotient : (s q r a : ℕ) → r < s → a ≡ q * s + r → a / s ≡ q
quotient s q r a h e = ap (λ (x : ℕ). x / s) e ∙ digits_div q h

c8 : (s : ℕ) → 0 < s → (wanted_blocks 0 s ≡ 1) × (wanted_blocks s s ≡ 1) × (wanted_blocks (s + 1) s ≡ 2)
c8 s h = (
  sym (wanted_none 0 s refl),
  sym (wanted_some s s (omega arith) (omega arith)) ∙ ap (λ (x : ℕ). x + 1) (quotient s 0 (s - 1) (s - 1) (omega arith) (omega arith)),
  sym (wanted_some (s + 1) s (omega arith) (omega arith)) ∙ ap (λ (x : ℕ). x + 1) (quotient s 1 0 (s + 1 - 1) h (omega arith)),
)

pub worked : Worked
unfolding wanted_blocks unlawful above_house shape_wrong held count marks_known unheld_from missing put_before ranges apart_from marks_wrong be big_bytes pairs_bytes note_of write_note pairs_from malformed bounds read_note
worked = record {
  c1 = (gf16.worked).c1;
  c2 = (gf16.worked).c2;
  c3 = (gf16.worked).c3;
  c4 = (gf16.worked).c4;
  c5 = (gf16.worked).c5;
  c6 = (cauchy.worked).six;
  c7 = (cauchy.worked).seven;
  c8 = c8;
  c9 = refl;
  c10 = refl;
  c10_read = refl;
}
