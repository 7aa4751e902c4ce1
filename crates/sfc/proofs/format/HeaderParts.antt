-- An input that begins with preamble and region and ends with a trailer: which tests a header comes to on these two, whatever lies
-- between. Assumes nothing.
use Rattle.std.specs.Prelude.{Ok, Err}
use Prim.Native.Nat.{ℕ, ◌+◌, ◌-◌}
use mathlib.Core.Path.{◌≡◌, ap, ap₂, ◌∙◌}
use mathlib.Core.Bool.{false, not, ◌||◌}
use mathlib.Core.List.{List, ◌∷◌, ◌++◌, append_assoc}
use native.Mathlib.Omega.{arith}
use borrow.Author.Tests.{le-ltb}
use lib.Dec.{eqb}
use lib.ListN.{length, length-append}
use lib.Seq.{drop_at}
use Rattle.little.specs.Parts.{part}
use Rattle.little.specs.Fields.{le}
use Rattle.little.proofs.Laws.{part_laws}
use Rattle.sfc.specs.format.Bytes.{stands_at}
use Rattle.sfc.specs.answer.Numbers.{Check, checked}
use Rattle.sfc.specs.format.Limits.{length_wrong}
use Rattle.sfc.specs.format.Header.{magic, length_field, region_of, trailer_of, head_of, region_checks, trailer_checks, header_checks, read_header}
use Rattle.sfc.proofs.format.PlaceLaws.{le-front, stands_front}

module _ (a t : List ℕ) (a-long : length a ≡ length_field a + 12) (t-long : length t ≡ 64) where
  -- the checks, with a and t alone
  abbrev pub seen : List Check
  seen =
      (false, 10)
      ∷ (not (stands_at a 0 magic), 11)
      ∷ (not (eqb (le a 4 2) 0) || not (eqb (le a 6 2) 1), 12)
      ∷ (length_wrong (length_field a), 13)
      ∷ (false, 10)
      ∷ (region_checks (region_of a) ++ trailer_checks (region_of a) t)

  module _ (mid : List ℕ) where
    abbrev given : List ℕ
    given = a ++ mid ++ t

    a_first : given ≡ a ++ (mid ++ t)
    a_first = append_assoc a mid t

    given_long : length given ≡ length_field a + 76 + length mid
    given_long = length-append (a ++ mid) t ∙ omega (arith, length-append a mid)

    same-field : length_field given ≡ length_field a
    same-field = ap (λ (l : List ℕ). length_field l) a_first ∙ le-front a (mid ++ t) 8 4 (omega arith)

    same-region : region_of given ≡ region_of a
    same-region =
        ap₂ (λ (l : List ℕ) (n : ℕ). part l 8 (n + 4)) a_first same-field ∙ part_laws.part-append-left a (mid ++ t) 8 (length_field a + 4) (omega arith)

    same-trailer : trailer_of given ≡ t
    same-trailer = drop_at (a ++ mid) t (length given - 64) (omega (arith, given_long, length-append a mid))

    pub only_seen : header_checks given ≡ seen
    only_seen =
        rw (
          same-region,
          same-trailer,
          same-field,
          le-ltb (length given) 12 (omega (arith, given_long)),
          le-ltb (length given) (length_field a + 76) (omega (arith, given_long)),
          a_first,
          stands_front a (mid ++ t) 0 magic (omega arith),
          le-front a (mid ++ t) 4 2 (omega arith),
          le-front a (mid ++ t) 6 2 (omega arith),
        )

    pub read_seen : read_header given ≡ checked seen Err (Ok (head_of (region_of a)))
    unfolding read_header
    read_seen =
        ap₂ (λ (cs : List Check) (r : List ℕ). checked cs Err (Ok (head_of r))) only_seen same-region
