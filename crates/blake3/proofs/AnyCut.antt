-- `running_any-cut` and `fed_bytes`: however a text is cut, the finish is its hash; and a feed within the limit. Assumes
-- nothing.
use Rattle.std.proofs.Common.{◌≡◌, ℕ, suc, ◌+◌, ◌≤◌, List, [], ◌∷◌, ◌++◌, length, sym, refl, ◌∙◌, append_assoc, append-nil, add-zero, arith, length-append, le-ltb}
use Rattle.std.specs.Prelude.{Ok}
use Rattle.blake3.specs.Running.{most_fed, with_byte, with_bytes, fresh, fed_with, fed_all, AllTaken, joined, RunningAnyCut, FedBytes}
use Rattle.blake3.specs.declared.running.Running.{Running}
use Rattle.blake3.proofs.Holding.{Holds, holds_fresh, bytes_hold, finish_holds}

pub fed_within : (r : Running) (p : List ℕ) → r.fed + length p ≤ most_fed → fed_with r p ≡ Ok (with_bytes r p)
unfolding fed_with
fed_within r p le = rw (le-ltb most_fed (r.fed + length p) le)

with_count : (xs : List ℕ) (r : Running) → (with_bytes r xs).fed ≡ r.fed + length xs
unfolding with_bytes with_byte
with_count [] r = sym (add-zero r.fed)
with_count (x ∷ xs) r =
    let e : r.fed + 1 + length xs ≡ r.fed + suc (length xs) = omega arith in
    with_count xs (with_byte r x) ∙ e

pub fed_bytes : (xs : List ℕ) → FedBytes xs
fed_bytes xs = record {
  count = with_count xs;
  ends = λ le. finish_holds (with_bytes fresh xs) xs le (bytes_hold xs fresh [] (omega arith) holds_fresh);
}

-- parts fed one after the other
all-taken : (ps : List (List ℕ)) (r : Running) (xs : List ℕ) → length xs + length (joined ps) ≤ most_fed → Holds r xs
    → AllTaken r ps × Holds (fed_all r ps) (xs ++ joined ps)
unfolding AllTaken fed_all joined
all-taken [] r xs le w = (tt, rw append-nil w)
all-taken (p ∷ ps) r xs le w =
    let z = w.size in
    let a = length-append p (joined ps) in
    let b = length-append xs p in
    let le₀ : r.fed + length p ≤ most_fed = omega arith in
    let le₁ : length xs + length p ≤ most_fed = omega arith in
    let le₂ : length (xs ++ p) + length (joined ps) ≤ most_fed = omega arith in
    let e = fed_within r p le₀ in
    let q = all-taken ps (with_bytes r p) (xs ++ p) le₂ (bytes_hold p r xs le₁ w) in
    (rw e (refl, q.0), rw (e, ← append_assoc xs p (joined ps)) q.1)

pub running_any-cut : RunningAnyCut
running_any-cut parts le =
    let q = all-taken parts fresh [] (omega arith) holds_fresh in
    record { taken = q.0; same = finish_holds (fed_all fresh parts) (joined parts) le q.1 }
