-- What is left of an output after a list of checks, and which part of a list refused. Assumes nothing.
use Prim.Native.Nat.{ℕ, ◌≤◌}
use mathlib.Core.Path.{◌≡◌, sym, ap, ◌∙◌}
use mathlib.Core.Bool.{true, false, not}
use mathlib.Core.List.{List, [], ◌∷◌, ◌++◌}
use native.Mathlib.Omega.{arith}
use lib.ListN.{length, drop}
use lib.Seq.{drop-append_seam}
use Rattle.little.specs.Parts.{put}
use Rattle.little.proofs.Laws.{put_laws}
use Rattle.little.specs.Runs.{among}
use Rattle.sfc.specs.demand.Demand1.{Leaves, Ends}
use Rattle.sfc.specs.answer.Numbers.{Check, checked, verdict, passes, NumbersAre, number_of, reason_of}
use Rattle.sfc.specs.declared.answer.reason.Reason.{Reason}
use Rattle.sfc.proofs.answer.CheckLaws.{good_all, refused_all}
use Rattle.sfc.proofs.session.SessionLaws.{number_in}
use Rattle.std.specs.Prelude.{Ok, Err}

-- ---- what is left of an output that only a good verdict changes

pub leaves : (cs : List Check) (r : Reason) (ks out new : List ℕ) → NumbersAre (λ (k : ℕ). among k ks ≡ true) cs → verdict cs ≡ Err r
    → Leaves r ks out (checked cs (λ (q : Reason). out) new)
leaves cs r ks out new n e = record {
  number = number_in (λ (k : ℕ). among k ks ≡ true) cs r n e;
  output = refused_all (λ (q : Reason). out) cs new r e;
}

put_ends : (out b : List ℕ) → length b ≤ length out → Ends (length b) out (put out 0 b)
put_ends out b h = record { long = put_laws.length-put out 0 b (omega arith); rest = drop-append_seam b (drop (length b) out) }

pub ends : (cs : List Check) (out b : List ℕ) (k : ℕ) → verdict cs ≡ Ok tt → length b ≡ k → k ≤ length out
    → Ends k out (checked cs (λ (q : Reason). out) (put out 0 b))
ends cs out b k e l h =
    rw (good_all (λ (q : Reason). out) cs (put out 0 b) e, ← l) (put_ends out b (omega arith))

-- ---- a list of checks in two parts: which part refused is told by the number

pub early_told : (cs ds : List Check) (r : Reason) (ks : List ℕ) → NumbersAre (λ (k : ℕ). among k ks ≡ true) cs → NumbersAre (λ (k : ℕ). among k ks ≡ false) ds
    → verdict (cs ++ ds) ≡ Err r → passes cs ≡ not (among (number_of r) ks)
early_told [] ds r ks n o e = ap not (sym (number_in (λ (k : ℕ). among k ks ≡ false) ds r o e))
early_told ((true, k) ∷ cs) ds r ks n o e =
    let f : reason_of k ≡ r = cc in
    ap not (sym (ap (λ (q : Reason). among (number_of q) ks) (sym f) ∙ n.0))
early_told ((false, k) ∷ cs) ds r ks n o e = early_told cs ds r ks n.1 o e
