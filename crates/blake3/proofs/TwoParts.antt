-- Two parts through one record: refused where they are too long together, and else the hash of both. Assumes nothing.
use Rattle.std.proofs.Common.{◌≡◌, ℕ, ◌+◌, ◌<◌, ◌≤◌, Bool, List, ◌++◌, length, sym, refl, ap, ◌∙◌, arith, ltb, length-append, ltb-false, ltb-true, le-ltb, lt-ltb}
use Rattle.std.specs.Prelude.{Result, Ok, Err, is_ok, IsErr}
use Rattle.std.proofs.lemmas.Bool.{false≢true}
use Rattle.blake3.specs.Running.{most_fed, with_bytes, fresh, finished, fed_with, answer_of, after_feed, room_for, hashed_two}
use Rattle.blake3.specs.declared.running.Running.{Running}
use Rattle.blake3.specs.declared.running.Reason.{Reason}
use Rattle.blake3.specs.declared.running.Reason.TheVariants.{RunningHash}
use Rattle.blake3.proofs.Splits.{either}
use Rattle.blake3.proofs.RunningLaws.{with_both}
use Rattle.blake3.proofs.AnyCut.{fed_within, fed_bytes}

abbrev taken : Result Unit Reason → Bool
taken a = is_ok a

-- what a feed's answer tells of the lengths
told_taken : (r : Running) (xs : List ℕ) → Ok tt ≡ answer_of (fed_with r xs) → r.fed + length xs ≤ most_fed
unfolding fed_with
told_taken r xs e =
    either (ltb most_fed (r.fed + length xs))
    (λ t. let h = rw t at e in absurd (false≢true (sym (ap taken h))))
    (λ t. ltb-false most_fed (r.fed + length xs) t)

told_refused : (r : Running) (xs : List ℕ) (why : Reason) → Err why ≡ answer_of (fed_with r xs) → most_fed < r.fed + length xs
unfolding fed_with
told_refused r xs why e =
    either (ltb most_fed (r.fed + length xs))
    (λ t. ltb-true most_fed (r.fed + length xs) t)
    (λ t. let h = rw t at e in absurd (false≢true (ap taken h)))

-- there is one reason to refuse
too_long : (first second : List ℕ) (h : Result (List ℕ) Reason) → IsErr h → most_fed < length first + length second → h ≡ hashed_two first second
unfolding hashed_two
too_long first second (Ok x) e lt = absurd (false≢true e)
too_long first second (Err RunningHash) e lt = rw (lt-ltb most_fed (length first + length second) lt)

-- so what the lengths come to is told before anything is fed
pub both_refused : (first second : List ℕ) (h : Result (List ℕ) Reason) (why : Reason) → Err why ≡ room_for (length first + length second) → IsErr h
    → h ≡ hashed_two first second
both_refused first second h why e eh =
    either (ltb most_fed (length first + length second))
    (λ t. too_long first second h eh (ltb-true most_fed (length first + length second) t))
    (λ t. let f = rw t at e in absurd (false≢true (ap taken f)))

module _ (first second : List ℕ) {r : Running} (new : r ≡ fresh) where
  none_fed : r.fed ≡ 0
  none_fed = ap (λ (q : Running). q.fed) new

  pub first_refused : (h : Result (List ℕ) Reason) (why : Reason) → Err why ≡ answer_of (fed_with r first) → IsErr h → h ≡ hashed_two first second
  first_refused h why e eh = let z = none_fed in let lt = told_refused r first why e in too_long first second h eh (omega arith)

  module _ {q : Running} (e : Ok tt ≡ answer_of (fed_with r first)) (after : q ≡ after_feed r first) where
    state : q ≡ with_bytes r first
    state = let fits = told_taken r first e in rw (fed_within r first fits) at after

    count : q.fed ≡ r.fed + length first
    count = ap (λ (s : Running). s.fed) state ∙ (fed_bytes first).count r

    pub second_refused : (h : Result (List ℕ) Reason) (why : Reason) → Err why ≡ answer_of (fed_with q second) → IsErr h → h ≡ hashed_two first second
    second_refused h why e₂ eh =
        let z = none_fed in
        let n = count in
        let lt = told_refused q second why e₂ in
        too_long first second h eh (omega arith)

    pub both_taken : {h : Result (List ℕ) Reason} {p : Running} → Ok tt ≡ answer_of (fed_with q second) → p ≡ after_feed q second → h ≡ finished p → h ≡ hashed_two first second
    unfolding hashed_two
    both_taken {p = p} e₂ ep eh =
        let z = none_fed in
        let n = count in
        let fits = told_taken q second e₂ in
        let both : p ≡ with_bytes fresh (first ++ second)
        = rw (fed_within q second fits) at ep ∙ ap (λ (s : Running). with_bytes s second) (state ∙ ap (λ (s : Running). with_bytes s first) new)
        ∙ sym (with_both fresh first second) in
        let le : length first + length second ≤ most_fed = omega arith in
        let le' : length (first ++ second) ≤ most_fed = omega (arith, length-append first second) in
        eh ∙ ap (λ (s : Running). finished s) both ∙ (fed_bytes (first ++ second)).ends le' ∙ rw (le-ltb most_fed (length first + length second) le) refl
