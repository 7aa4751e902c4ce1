-- The file that the writer makes, byte for byte, and when it makes none (document 01, "The bytes", 60 and 61). Assumes
-- nothing: these are definitions.
use Rattle.std.specs.Prelude.{ℕ, ◌+◌, ◌*◌, ◌^◌, Bool, true, cond, not, ◌&&◌, ◌||◌, List, [], ◌∷◌, ◌++◌, map, ltb, leb, eqb, length, Result, Ok, Err}
use Rattle.little.specs.Parts.{put}
use Rattle.little.specs.Fields.{bytes_of}
use Rattle.blake3.specs.Tree.{hash}
use Rattle.cauchy.specs.Code.{joined, code_block}
use Rattle.sfc.specs.format.Bytes.{padded}
use Rattle.little.specs.Runs.{any, zeros}
use Rattle.sfc.specs.answer.Numbers.{Check, checked, passes, Answered}
use Rattle.sfc.specs.format.Limits.{wanted_blocks, length_wrong}
use Rattle.sfc.specs.format.Extension.{Field, fields_of, tag_within}
use Rattle.sfc.specs.format.Header.{magic, trailer_magic, region_checks}
use Rattle.sfc.specs.format.Chunk.{chunk_magic, end_marker, type_for}
use Rattle.sfc.specs.declared.answer.reason.Reason.{Reason}
use Rattle.sfc.specs.declared.format.header.Head.{Head}
use Rattle.sfc.specs.declared.writing.writer.FileFacts.{FileFacts}

-- what the caller gives; the extension fields as the bytes that they have in the file
pub record Input : Type 0 where
  pub content : List ℕ
  pub s : ℕ
  pub m : ℕ
  pub uuid : List ℕ
  pub time : ℕ
  pub format : ℕ
  pub name : List ℕ
  pub flags : ℕ
  pub priority : List ℕ
  pub fields : List ℕ

-- the same from the call's arguments
abbrev pub input_of : FileFacts → List ℕ → List ℕ → List ℕ → List ℕ → Input
input_of f content name priority fields = record {
  content = content;
  s = f.s;
  m = f.m;
  uuid = f.uuid;
  time = f.time;
  format = f.format;
  name = name;
  flags = f.flags;
  priority = priority;
  fields = fields;
}

-- ---- what follows from it

abbrev pub size : Input → ℕ
size w = length w.content

-- N
abbrev pub blocks : Input → ℕ
blocks w = wanted_blocks (size w) w.s

-- the identifiers: an erasure code where there are recovery blocks, and never compression
abbrev pub erasure_for : ℕ → ℕ
erasure_for m = cond (eqb m 0) 0x00 0x01

abbrev pub compression : ℕ
compression = 0x00

-- ---- the header region

-- which file it is: UUID, size, inner format, name, content hash
unfoldable pub identity_bytes : List ℕ → ℕ → ℕ → List ℕ → List ℕ → List ℕ
identity_bytes uuid size format name digest = uuid ++ bytes_of 8 size ++ bytes_of 2 format ++ padded 255 name ++ digest

-- how it is cut: N, M, S, the identifiers, the flags, P
unfoldable pub shape_bytes : ℕ → ℕ → ℕ → ℕ → ℕ → List ℕ
shape_bytes n m s flags p = bytes_of 4 n ++ bytes_of 4 m ++ bytes_of 4 s ++ (erasure_for m ∷ compression ∷ []) ++ bytes_of 2 flags ++ bytes_of 2 p

-- numbers of four bytes each, one after the other
unfoldable pub index_bytes : List ℕ → List ℕ
index_bytes [] = []
index_bytes (i ∷ is) = bytes_of 4 i ++ index_bytes is

-- all that the length field H counts
unfoldable pub body : Input → List ℕ
body w =
    identity_bytes w.uuid (size w) w.format w.name (hash w.content)
    ++ shape_bytes (blocks w) w.m w.s w.flags (length w.priority)
    ++ index_bytes w.priority ++ w.fields

unfoldable pub region : Input → List ℕ
region w = bytes_of 4 (length (body w)) ++ body w

-- ---- the chunks

-- the header of chunk i in a file of n data and m recovery blocks of s bytes (document 001, 5.1)
unfoldable pub chunk_header : List ℕ → ℕ → ℕ → ℕ → ℕ → List ℕ
chunk_header uuid n m s i =
    chunk_magic ++ uuid ++ bytes_of 4 i ++ bytes_of 4 (type_for n i) ++ bytes_of 4 s ++ (compression ∷ erasure_for m ∷ []) ++ zeros 14

-- header and payload with their trailer: the hash of both, and the end marker (document 001, 5.3)
unfoldable pub sealed : List ℕ → List ℕ
sealed b = b ++ hash b ++ end_marker

unfoldable pub chunk_bytes : List ℕ → ℕ → ℕ → ℕ → ℕ → List ℕ → List ℕ
chunk_bytes uuid n m s i payload = sealed (chunk_header uuid n m s i ++ payload)

-- the content with zeros up to N·S bytes, and block i of the code made from it
unfoldable pub data_of : Input → List ℕ
data_of w = padded (blocks w * w.s) w.content

unfoldable pub payload : Input → ℕ → List ℕ
payload w i = code_block (blocks w) w.m w.s (data_of w) i

unfoldable pub chunk : Input → ℕ → List ℕ
chunk w i = chunk_bytes w.uuid (blocks w) w.m w.s i (payload w i)

-- ---- the file

-- magic bytes and version 0.1
abbrev pub preamble : List ℕ
preamble = magic ++ bytes_of 2 0 ++ bytes_of 2 1

unfoldable pub trailer_bytes : List ℕ → ℕ → List ℕ
trailer_bytes digest time = trailer_magic ++ digest ++ bytes_of 8 time ++ zeros 16

unfoldable pub trailer : Input → List ℕ
trailer w = trailer_bytes (hash (region w)) w.time

-- data chunks, then recovery chunks: the indices from 0 to N+M, rising
unfoldable pub file_of : Input → List ℕ
file_of w = preamble ++ region w ++ joined (chunk w) 0 (blocks w + w.m) ++ trailer w

-- ---- 60

-- a number does not fit a field of that width
abbrev pub outgrows : ℕ → ℕ → Bool
outgrows width v = leb (256 ^ width) v

-- some number of the header or the trailer does not
unfoldable pub outgrown : Input → Bool
outgrown w =
    outgrows 4 (length (body w)) || outgrows 8 (size w) || outgrows 2 w.format
    || outgrows 4 (blocks w) || outgrows 4 w.m || outgrows 4 w.s
    || outgrows 2 w.flags || outgrows 2 (length w.priority) || any (outgrows 4) w.priority
    || outgrows 8 w.time

-- a name that would not be read back: too long, or cut short by a zero byte
unfoldable pub name_wrong : List ℕ → Bool
name_wrong name = ltb 255 (length name) || any (eqb 0) name

-- a field with a tag that the draft keeps reserved, among the fields e
unfoldable pub has_reserved : List ℕ → Bool
has_reserved e = any (tag_within 0x0010 0x0012) (fields_of e)

-- whether numbers never fall, each from the one before it on and the first from `least` on
unfoldable pub rises_weakly : ℕ → List ℕ → Bool
rises_weakly least [] = true
rises_weakly least (x ∷ xs) = leb least x && rises_weakly x xs

-- the tags of the fields e, in the order handed in, fall somewhere (document 02, [2]); equal neighbours are no fall
unfoldable pub tags_fall : List ℕ → Bool
tags_fall e = not (rises_weakly 0 (map (λ (f : Field). f.tag) (fields_of e)))

-- 60: the last two tests are 13, and 14 to 21, of the region so made
unfoldable pub input_wrong : Input → Bool
input_wrong w =
    eqb w.s 0 || outgrown w || name_wrong w.name || has_reserved w.fields || tags_fall w.fields
    || length_wrong (length (body w)) || not (passes (region_checks (region w)))

-- ---- the call

abbrev pub writer_checks : Input → List ℕ → List Check
writer_checks w out = (input_wrong w, 60) ∷ (ltb (length out) (length (file_of w)), 61) ∷ []

-- the file stands at the output's front, and what lies after it stays
unfoldable pub write_file : Input → List ℕ → Answered (Result ℕ Reason)
write_file w out = record {
  answer = checked (writer_checks w out) Err (Ok (length (file_of w)));
  output = checked (writer_checks w out) (λ (r : Reason). out) (put out 0 (file_of w));
}

-- ---- what reading the header of such a file is to give: the caller's own values

abbrev pub head_for : Input → Head
head_for w = record {
  header_length = length (body w);
  uuid = w.uuid;
  size = size w;
  format = w.format;
  name = padded 255 w.name;
  name_length = length w.name;
  hash = hash w.content;
  n = blocks w;
  m = w.m;
  s = w.s;
  erasure = erasure_for w.m;
  compression = compression;
  flags = w.flags;
  priorities = length w.priority;
}
