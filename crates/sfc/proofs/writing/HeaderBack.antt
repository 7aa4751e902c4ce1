-- Preamble, region and trailer of a written file are read back as the caller's values, whatever lies before the trailer. Assumes
-- nothing.
use Rattle.std.specs.Prelude.{Ok, Err}
use Prim.Native.Nat.{ℕ, ◌+◌, ◌-◌, ◌^◌, ◌<◌}
use mathlib.Core.Path.{◌≡◌, refl, ap, ap₂, ◌∙◌}
use mathlib.Core.Bool.{Bool, true, false, not, ◌||◌}
use mathlib.Core.List.{List, [], ◌∷◌, ◌++◌, append_assoc}
use native.Mathlib.Omega.{arith}
use borrow.Author.Tests.{le-ltb}
use lib.Dec.{ltb}
use lib.ListN.{length, drop, length-append}
use lib.Seq.{drop_at}
use Rattle.little.specs.Fields.{le, bytes_of}
use Rattle.little.proofs.Laws.{little_laws, part_laws}
use Rattle.blake3.specs.Tree.{hash}
use Rattle.blake3.proofs.Laws.{hash_laws}
use Rattle.sfc.specs.format.Bytes.{stands_at}
use Rattle.little.specs.Runs.{zeros}
use Rattle.sfc.specs.answer.Numbers.{Check, verdict, Passed}
use Rattle.sfc.specs.format.Limits.{length_wrong}
use Rattle.sfc.specs.format.Header.{trailer_magic, length_field, region_of, trailer_of, head_of, region_checks, trailer_checks, header_checks, read_header}
use Rattle.sfc.specs.writing.Writer.{Input, body, region, preamble, trailer_bytes, trailer, head_for}
use Rattle.sfc.proofs.answer.CheckLaws.{all-passed, passes_good, good_all}
use Rattle.sfc.proofs.writing.LengthLaws.{length-trailer}
use Rattle.sfc.proofs.writing.RegionBack.{length-region, length-body, head-back}
use Rattle.sfc.proofs.writing.InputLaws.{RightInput}
use Rattle.sfc.proofs.format.PlaceLaws.{stands_there, number_at}

-- ---- the trailer

module _ (digest : List ℕ) (time : ℕ) (l : length digest ≡ 32) where
  from_start : drop 0 (trailer_bytes digest time) ≡ trailer_magic ++ (digest ++ (bytes_of 8 time ++ zeros 16))
  unfolding trailer_bytes
  from_start =
      append_assoc (trailer_magic ++ digest) (bytes_of 8 time) (zeros 16)
      ∙ append_assoc trailer_magic digest (bytes_of 8 time ++ zeros 16)

  from_digest : drop 8 (trailer_bytes digest time) ≡ digest ++ (bytes_of 8 time ++ zeros 16)
  from_digest = part_laws.next (trailer_bytes digest time) trailer_magic (digest ++ (bytes_of 8 time ++ zeros 16)) 0 8 from_start refl

  from_time : drop 40 (trailer_bytes digest time) ≡ bytes_of 8 time ++ zeros 16
  from_time = part_laws.next (trailer_bytes digest time) digest (bytes_of 8 time ++ zeros 16) 8 32 from_digest l

  from_zeros : drop 48 (trailer_bytes digest time) ≡ zeros 16 ++ []
  from_zeros = part_laws.next (trailer_bytes digest time) (bytes_of 8 time) (zeros 16) 40 8 from_time ((little_laws 8).long time)

-- the trailer of a region passes with it
pub trailer-passed : (r : List ℕ) (time : ℕ) → Passed (trailer_checks r (trailer_bytes (hash r) time))
trailer-passed r time =
    let t : List ℕ = trailer_bytes (hash r) time in
    let l = hash_laws.length-hash r in (
      ap₂ (λ (a b : Bool). not a || not b)
          (stands_there t 0 trailer_magic _ (from_start (hash r) time l))
          (stands_there t 48 (zeros 16) [] (from_zeros (hash r) time l)),
      (ap not (stands_there t 8 (hash r) _ (from_digest (hash r) time l)), tt),
    )

module _ (w : Input) where
  pub trailer_long : length (trailer w) ≡ 64
  unfolding trailer
  trailer_long = length-trailer (hash (region w)) w.time (hash_laws.length-hash (region w))

-- ---- checks that pass are as if they were not there

start_skipped : (a b c d t : Bool) (cs : List Check) → a ≡ false → b ≡ false → c ≡ false → d ≡ false
    → verdict ((a, 10) ∷ (b, 11) ∷ (c, 12) ∷ (t, 13) ∷ (d, 10) ∷ cs) ≡ verdict ((t, 13) ∷ cs)
start_skipped a b c d t cs ea eb ec ed = λ i. verdict ((ea i, 10) ∷ (eb i, 11) ∷ (ec i, 12) ∷ (t, 13) ∷ (ed i, 10) ∷ cs)

pub last_passed : (cs ds : List Check) → Passed ds → verdict (cs ++ ds) ≡ verdict cs
last_passed [] ds p = all-passed ds p
last_passed ((true, k) ∷ cs) ds p = refl
last_passed ((false, k) ∷ cs) ds p = last_passed cs ds p

-- ---- the whole input

pub preamble_long : length preamble ≡ 8
unfolding bytes_of
preamble_long = refl

-- where the length of all that H counts fits its field
module _ (w : Input) (fits : length (body w) < 256 ^ 4) (between : List ℕ) where
  abbrev given : List ℕ
  given = preamble ++ region w ++ between ++ trailer w

  from_preamble : given ≡ preamble ++ (region w ++ (between ++ trailer w))
  from_preamble = append_assoc (preamble ++ region w) between (trailer w) ∙ append_assoc preamble (region w) (between ++ trailer w)

  from_region : drop 8 given ≡ region w ++ (between ++ trailer w)
  from_region = part_laws.next given preamble (region w ++ (between ++ trailer w)) 0 8 from_preamble preamble_long

  pub field_back : length_field given ≡ length (body w)
  unfolding region
  field_back =
      number_at given (body w ++ (between ++ trailer w)) 8 4 (length (body w))
      (from_region ∙ append_assoc (bytes_of 4 (length (body w))) (body w) (between ++ trailer w)) fits

  pub region-back : region_of given ≡ region w
  region-back = part_laws.piece given (region w) (between ++ trailer w) 8 (length_field given + 4) from_region (length-region w ∙ omega (arith, field_back))

  length_front : length (preamble ++ region w ++ between) ≡ 12 + length (body w) + length between
  length_front =
      length-append (preamble ++ region w) between ∙ omega (arith, length-append preamble (region w), preamble_long, length-region w)

  pub length-given : length given ≡ 76 + length (body w) + length between
  length-given = length-append (preamble ++ region w ++ between) (trailer w) ∙ omega (arith, length_front, trailer_long w)

  trailer-back : trailer_of given ≡ trailer w
  trailer-back = drop_at (preamble ++ region w ++ between) (trailer w) (length given - 64) (omega (arith, length_front, length-given))

  -- so a reader judges H and the region, and finds nothing else wrong
  pub judged : verdict (header_checks given) ≡ verdict ((length_wrong (length (body w)), 13) ∷ region_checks (region w))
  unfolding le bytes_of stands_at trailer
  judged =
      let short : ltb (length given) 12 ≡ false = le-ltb (length given) 12 (omega (arith, length-given)) in
      let cut : ltb (length given) (length_field given + 76) ≡ false = le-ltb (length given) (length_field given + 76) (omega (arith, length-given, field_back)) in
      start_skipped _ _ _ _ (length_wrong (length_field given)) (region_checks (region_of given) ++ trailer_checks (region_of given) (trailer_of given)) short refl refl cut
      ∙ (λ i. verdict ((length_wrong (field_back i), 13) ∷ (region_checks (region-back i) ++ trailer_checks (region-back i) (trailer-back i))))
      ∙ last_passed ((length_wrong (length (body w)), 13) ∷ region_checks (region w)) (trailer_checks (region w) (trailer w)) (trailer-passed (region w) w.time)

module _ (w : Input) (u : length w.uuid ≡ 16) (r : RightInput w) (between : List ℕ) where
  body_right : length_wrong (length (body w)) ≡ false
  unfolding length_wrong
  body_right =
      let b = length-body w u r.name_short in
      ap₂ ◌||◌ (le-ltb (length (body w)) 331 (omega arith)) (le-ltb 65536 (length (body w)) r.body_short)

  pub header_back : read_header (given w r.fitting.length_small between) ≡ Ok (head_for w)
  unfolding read_header
  header_back =
      let fits = r.fitting.length_small in
      let b : List ℕ = given w fits between in
      good_all Err (header_checks b) (Ok (head_of (region_of b)))
      (judged w fits between ∙ (rw body_right (passes_good (region_checks (region w)) r.checks_pass)))
      ∙ ap Ok (ap head_of (region-back w fits between) ∙ head-back w u r.name_short r.fitting r.name_whole)
