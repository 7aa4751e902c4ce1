-- What reading a header answers (document 01, "The bytes", and its table, 10 to 23). Assumes nothing: these are definitions.
use Rattle.std.specs.Prelude.{ℕ, zero, suc, ◌+◌, ◌-◌, ◌*◌, Bool, true, not, ◌&&◌, ◌||◌, List, [], ◌∷◌, ◌++◌, ltb, eqb, length, get_or, drop, Result, Ok, Err}
use Rattle.little.specs.Parts.{part}
use Rattle.little.specs.Fields.{le}
use Rattle.blake3.specs.Tree.{hash}
use Rattle.sfc.specs.format.Bytes.{stands_at, padded, before_zero, bit}
use Rattle.little.specs.Runs.{any, zeros}
use Rattle.sfc.specs.answer.Numbers.{Check, checked, Checked}
use Rattle.sfc.specs.format.Limits.{unlawful, above_house, length_wrong}
use Rattle.sfc.specs.format.Extension.{extension_wrong}
use Rattle.sfc.specs.declared.answer.reason.Reason.{Reason}
use Rattle.sfc.specs.declared.format.header.Head.{Head}

-- the preamble's first four bytes, and the trailer's first eight
abbrev pub magic : List ℕ
magic = 0x53 ∷ 0x46 ∷ 0x43 ∷ 0x00 ∷ []

abbrev pub trailer_magic : List ℕ
trailer_magic = 0x54 ∷ 0x52 ∷ 0x4C ∷ 0x52 ∷ zeros 4

-- H stands after the preamble of eight bytes, and begins the header region, which is H + 4 bytes long
abbrev pub length_field : List ℕ → ℕ
length_field b = le b 8 4

abbrev pub region_of : List ℕ → List ℕ
region_of b = part b 8 (length_field b + 4)

-- the trailer is the input's last 64 bytes
abbrev pub trailer_of : List ℕ → List ℕ
trailer_of b = drop (length b - 64) b

-- the fields of a region, each at its place
abbrev pub head_of : List ℕ → Head
head_of r = record {
  header_length = le r 0 4;
  uuid = part r 4 16;
  size = le r 20 8;
  format = le r 28 2;
  name = padded 255 (before_zero (part r 30 255));
  name_length = length (before_zero (part r 30 255));
  hash = part r 285 32;
  n = le r 317 4;
  m = le r 321 4;
  s = le r 325 4;
  erasure = get_or r 329 0;
  compression = get_or r 330 0;
  flags = le r 331 2;
  priorities = le r 333 2;
}

-- 16
unfoldable pub mispaired : ℕ → ℕ → Bool
mispaired m erasure = (eqb m 0 && not (eqb erasure 0x00)) || (ltb 0 m && eqb erasure 0x00)

-- 19
unfoldable pub flags_barred : ℕ → Bool
flags_barred f = bit 1 f || bit 2 f || bit 3 f || bit 0 f || bit 5 f

-- k numbers of four bytes, from a place on
unfoldable pub indices : List ℕ → ℕ → ℕ → List ℕ
indices r at zero = []
indices r at (suc k) = le r at 4 ∷ indices r (at + 4) k

-- each below n, and none twice
unfoldable pub distinct_below : ℕ → List ℕ → Bool
distinct_below n [] = true
distinct_below n (x ∷ xs) = ltb x n && not (any (eqb x) xs) && distinct_below n xs

-- 20: more indices than data blocks, a list that leaves the region, or a wrong index
unfoldable pub priority_wrong : ℕ → ℕ → List ℕ → Bool
priority_wrong n p r = ltb n p || ltb (length r) (335 + 4 * p) || not (distinct_below n (indices r 335 p))

-- the checks of the input's start
abbrev pub start_checks : List ℕ → List Check
start_checks b =
    (ltb (length b) 12, 10)
    ∷ (not (stands_at b 0 magic), 11)
    ∷ (not (eqb (le b 4 2) 0) || not (eqb (le b 6 2) 1), 12)
    ∷ (length_wrong (length_field b), 13)
    ∷ (ltb (length b) (length_field b + 76), 10)
    ∷ []

-- of a region's numbers, and of its lists
abbrev pub number_checks : Head → List Check
number_checks h =
    (unlawful h.size h.n h.m h.s, 14)
    ∷ (above_house h.n h.m h.s, 15)
    ∷ (mispaired h.m h.erasure, 16)
    ∷ (ltb 0x01 h.erasure, 17)
    ∷ (ltb 0x00 h.compression, 18)
    ∷ (flags_barred h.flags, 19)
    ∷ []

abbrev pub list_checks : Head → List ℕ → List Check
list_checks h r =
    (priority_wrong h.n h.priorities r, 20)
    ∷ (extension_wrong (h.n + h.m) h.flags (drop (335 + 4 * h.priorities) r), 21)
    ∷ []

-- 14 to 21, which the writer needs too
abbrev pub region_checks : List ℕ → List Check
region_checks r = number_checks (head_of r) ++ list_checks (head_of r) r

-- of a region and a trailer, whose time is not judged
abbrev pub trailer_checks : List ℕ → List ℕ → List Check
trailer_checks r t =
    (not (stands_at t 0 trailer_magic) || not (stands_at t 48 (zeros 16)), 22)
    ∷ (not (stands_at t 8 (hash r)), 23)
    ∷ []

abbrev pub header_checks : List ℕ → List Check
header_checks b = start_checks b ++ (region_checks (region_of b) ++ trailer_checks (region_of b) (trailer_of b))

-- the fields of an accepted header; with a refusal only its reason
unfoldable pub read_header : List ℕ → Result Head Reason
read_header b = checked (header_checks b) Err (Ok (head_of (region_of b)))

-- what was judged of it, without the fields
abbrev pub header_verdict : Result Head Reason → Checked
header_verdict (Ok h) = Ok tt
header_verdict (Err r) = Err r
