-- A word and its two bytes, by the laws of little-endian fields at width 2. Assumes nothing.
use mathlib.Core.Path.{◌≡◌}
use mathlib.Core.List.{List}
use Prim.Native.Nat.{ℕ, ◌+◌, ◌*◌, ◌/◌, ◌%◌, ◌<◌}
use native.Mathlib.Numerals.{add-one}
use native.Mathlib.Omega.{arith}
use lib.Arith.{mod-mul}
use lib.Dec.{lit<}
use native.Mathlib.Decide.{dec_lt}
use lib.ListN.{length, get_or, get_or-eq_default}
use Rattle.little.specs.Fields.{Bytes, le}
use Rattle.little.proofs.Laws.{little_laws}
use Rattle.cauchy.specs.Code.{word_at}
use Rattle.cauchy.specs.inner.Promises.{Below}

-- bytes are bytes past the end too
pub byte_any : (s : List ℕ) → Below 256 s → Bytes s
byte_any s h p = go (dec_lt p (length s))
  where
    go : Dec (p < length s) → get_or s p 0 < 256
    go (yes m) = h p m
    go (no n) = rw (get_or-eq_default s 0 {n = p} (omega arith)) (omega arith)

pub word_is : (s : List ℕ) (p : ℕ) → word_at s p ≡ get_or s p 0 + 256 * get_or s (p + 1) 0
unfolding le
word_is s p = rw (add-one p) (omega arith)

pub word_lt : (s : List ℕ) (p : ℕ) → Below 256 s → word_at s p < 65536
word_lt s p h = (little_laws 2).bound s (byte_any s h) p

by_bytes : (v : ℕ) → v % 65536 ≡ v / 256 % 256 * 256 + v % 256
by_bytes v = mod-mul v (lit< tt) (lit< tt)

pub two_back : (v : ℕ) → v % 256 + (v / 256 % 256 + 0 * 256) * 256 ≡ v % 65536
two_back v = omega (arith, by_bytes v)
