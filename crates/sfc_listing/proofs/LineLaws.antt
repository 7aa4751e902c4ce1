-- What the proofs of the listing's text cite: pieces one after the other, the loops that append, the digits of a value.
-- Assumes nothing.
use Prim.Native.Nat.{ℕ, ◌+◌, ◌≤◌}
use mathlib.Core.Path.{◌≡◌, refl, sym, ap, ap₂, ◌∙◌}
use mathlib.Core.List.{List, [], ◌∷◌, ◌++◌}
use native.Mathlib.Omega.{arith}
use lib.ListN.{length, length-append}
use Rattle.little.specs.Parts.{put}
use Rattle.little.proofs.Laws.{put_laws}
use Rattle.sfc.specs.note.Ranges.{Range, bounds}
use Rattle.sfc_listing.specs.Listing.{missing_line, missing_lines}
use Rattle.sfc_listing.specs.Lines.{bounds_lines, Appended, Printed}

-- first and last of each range make the lines of the ranges
pub bounds_lines_lem : (rs : List Range) → bounds_lines (bounds rs) ≡ missing_lines rs
unfolding bounds_lines bounds missing_lines
bounds_lines_lem [] = refl
bounds_lines_lem (r ∷ rs) = ap (λ (x : List ℕ). missing_line r ++ x) (bounds_lines_lem rs)

-- ---- pieces one after the other

pub joined : {a b at r r' : ℕ} {out mid after xs ys : List ℕ} → at + a ≤ length out → Appended a out at xs r mid → Appended b mid r ys r' after
    → Appended (a + b) out at (xs ++ ys) r' after
joined {a} {b} {at} {r} {r'} {out} {mid} {after} {xs} {ys} h p q = record {
  place = omega (arith, p.place, q.place, length-append xs ys);
  short = omega (arith, p.short, q.short, length-append xs ys);
  made = q.made ∙ ap₂ (λ (o : List ℕ) (k : ℕ). put o k ys) p.made p.place ∙ put_laws.put_next out at xs ys (omega (arith, p.short));
}

-- a larger bound
pub within : {a b at r : ℕ} {out after xs : List ℕ} → Appended a out at xs r after → a ≤ b → Appended b out at xs r after
within p h = record { place = p.place; short = omega (arith, p.short); made = p.made }

-- ---- a loop that appends: what is still to come, put at its place, gives the promised output

pub record Appending (most : ℕ) (out₀ : List ℕ) (at₀ : ℕ) (whole rest : List ℕ) (at : ℕ) (out : List ℕ) : Type 0 where
  pub long : length out ≡ length out₀
  pub low : at ≤ at₀ + most
  pub place : at + length rest ≡ at₀ + length whole
  pub all : put out at rest ≡ put out₀ at₀ whole

pub appending_next : {most a at₀ at r : ℕ} {out₀ out after whole xs rest : List ℕ} → at + a ≤ length out
    → Appending most out₀ at₀ whole (xs ++ rest) at out → Appended a out at xs r after → Appending (most + a) out₀ at₀ whole rest r after
appending_next {at = at} {out = out} {xs = xs} {rest = rest} h f p =
    let fit : at + length xs ≤ length out = omega (arith, p.short) in record {
      long = ap length p.made ∙ put_laws.length-put out at xs fit ∙ f.long;
      low = omega (arith, p.place, p.short, f.low);
      place = omega (arith, p.place, f.place, length-append xs rest);
      all = ap₂ (λ (o : List ℕ) (k : ℕ). put o k rest) p.made p.place ∙ put_laws.put_next out at xs rest (omega (arith, fit)) ∙ f.all;
    }

pub appending_end : {most at₀ at : ℕ} {out₀ out whole : List ℕ} → Appending most out₀ at₀ whole [] at out → Appended most out₀ at₀ whole at out
appending_end {at = at} {out = out} f = record {
  place = omega (arith, f.place);
  short = omega (arith, f.place, f.low);
  made = sym (put_laws.put_none out at) ∙ f.all;
}

-- a text from an output's front
pub front : {most r : ℕ} {out after xs : List ℕ} → Appended most out 0 xs r after → Printed r out after xs
front p = (omega (arith, p.place), p.made)
