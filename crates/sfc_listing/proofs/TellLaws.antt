-- The refused lines: of offers one after the other, a turn of the loop that tells them, the stop, and all of them together.
-- Assumes nothing.
use Rattle.std.specs.Prelude.{Option, Some, None}
use Prim.Native.Nat.{ℕ, ◌+◌, ◌*◌, ◌/◌, ◌<◌, ◌≤◌}
use mathlib.Core.Path.{◌≡◌, refl, sym, ap, ap₂, ◌∙◌, subst}
use mathlib.Core.Bool.{false}
use mathlib.Core.List.{List, [], ◌∷◌, ◌++◌, append_assoc, append-nil}
use native.Mathlib.Omega.{arith}
use borrow.Author.Tests.{eq-eqb, le-ltb}
use lib.ListN.{length, take, drop, length-drop}
use lib.Seq.{drop-drop, length-take-le}
use Rattle.little.specs.Runs.{zeros}
use Rattle.sfc.specs.answer.Numbers.{number_of}
use Rattle.sfc.specs.session.Lent.{shape_wrong, rebuilding_wrong}
use Rattle.sfc.specs.session.Tallies.{no_tallies, sum}
use Rattle.sfc.specs.session.Session.{Session, session_of, blank, verdict_of, after, spot_of}
use Rattle.sfc.specs.session.History.{after_all}
use Rattle.sfc.specs.session.Offer.{Logged, beside_wrong, logged_after, Offered, offered_of, offered}
use Rattle.sfc.specs.session.SessionTheorems.{SameKept}
use Rattle.sfc.specs.declared.format.header.Head.{Head}
use Rattle.sfc.specs.declared.answer.reason.Reason.{Reason}
use Rattle.sfc.specs.declared.session.offer.Verdict.{Verdict}
use Rattle.sfc.specs.declared.session.offer.Verdict.TheVariants.{Refused}
use Rattle.sfc.specs.declared.session.tallies.Tallies.{Tallies}
use Rattle.sfc_walk.specs.Walk.{front_length, some_length, chunks_of, length_of_all}
use Rattle.sfc_listing.specs.Listing.{session_after, verdict_line, broke_at, refused_line, refused_lines, stop_in, told_in}
use Rattle.sfc_listing.specs.Page.{HasRoom, Puts}
use Rattle.sfc_listing.specs.declared.page.Page.{Page}
use Rattle.sfc_listing.specs.Lent.{SameSession}
use Rattle.sfc_listing.specs.declared.lent.LentSession.{LentSession}
use Rattle.sfc_listing.specs.Steps.{chunks_room, told_room, OfferTold, ChunksTold, StopTold, Tellable, OffersTold}
use Rattle.sfc.proofs.Laws.{lent_laws, offer_laws}
use Rattle.sfc.proofs.Theorems.{one_offer}
use Rattle.sfc_walk.proofs.WalkTheorems.{walk_theorems}
use Rattle.sfc_listing.proofs.PageLaws.{puts_then, puts_none, Putting, putting_next, putting_low, putting_end}
use Rattle.sfc.specs.declared.answer.places.BytePlace.{BytePlace}

-- ---- the memory

pub same_then : {s t u : LentSession} → SameSession s t → SameSession t u → SameSession s u
same_then f g = record {
  head = g.head ∙ f.head;
  store = g.store ∙ f.store;
  marks = g.marks ∙ f.marks;
  scratch = g.scratch ∙ f.scratch;
  store_long = g.store_long ∙ f.store_long;
  marks_long = g.marks_long ∙ f.marks_long;
  scratch_long = g.scratch_long ∙ f.scratch_long;
}

-- ---- offers one after the other

pub lines_next : (h : Head) (x : Session) (at : ℕ) (c : List ℕ) (cs : List (List ℕ))
    → refused_lines h x at (c ∷ cs) ≡ refused_line h x at c ++ refused_lines h (after h x c) (at + length c) cs
unfolding refused_lines
lines_next h x at c cs = refl

pub lines_none : (h : Head) (x : Session) (at : ℕ) → refused_lines h x at [] ≡ []
unfolding refused_lines
lines_none h x at = refl

pub lines_append : (h : Head) (x : Session) (at : ℕ) (cs ds : List (List ℕ))
    → refused_lines h x at (cs ++ ds) ≡ refused_lines h x at cs ++ refused_lines h (after_all h x cs) (at + length_of_all cs) ds
unfolding refused_lines after_all length_of_all
lines_append h x at [] ds = let z : at ≡ at + 0 = omega arith in ap (λ (k : ℕ). refused_lines h x k ds) z
lines_append h x at (c ∷ cs) ds =
    let z : at + length c + length_of_all cs ≡ at + (length c + length_of_all cs) = omega arith in
    let line : List ℕ = refused_line h x at c in
    ap (λ (l : List ℕ). line ++ l)
    (lines_append h (after h x c) (at + length c) cs ds
    ∙ ap (λ (k : ℕ). refused_lines h (after h x c) (at + length c) cs ++ refused_lines h (after_all h (after h x c) cs) k ds) z)
    ∙ sym (append_assoc line (refused_lines h (after h x c) (at + length c) cs) (refused_lines h (after_all h (after h x c) cs) (at + (length c + length_of_all cs)) ds))

-- what the call of an offer and its line come to
pub offer_told : (h : Head) (y : Logged) (c : List ℕ) (own : ℕ) {p q : Page} → beside_wrong h y ≡ false → (z : Logged) (v : Verdict) (s : Option BytePlace)
    → offered_of z v s ≡ offered h y c → Puts 50 p (verdict_line own v s) q → OfferTold h y.session c own p z q
unfolding offered
offer_told h y c own {p} {q} right z v s e f =
    let o = offer_laws.own_offer h y c right in
    let ez : z ≡ logged_after h y c = ap (λ (x : Offered). x.kept) e in
    let ev : v ≡ verdict_of h y.session c = ap (λ (x : Offered). x.verdict) e ∙ o.verdict in
    let es : s ≡ broke_at h y.session c = ap (λ (x : Offered). x.spot) e ∙ ap (spot_of h c) o.verdict in
    record {
      left = ap (λ (x : Logged). x.session) ez ∙ o.session;
      beside = ap (λ (x : Logged). beside_wrong h x) ez ∙ o.beside;
      told = subst (λ (l : List ℕ). Puts 50 p l q) (ap₂ (verdict_line own) ev es) f;
    }

-- what is beside the next chunk is as right as it was
pub offer_beside : (h : Head) (y : Logged) (c : List ℕ) → beside_wrong h y ≡ false → (z : Logged) (v : Verdict) (s : Option BytePlace)
    → offered_of z v s ≡ offered h y c → beside_wrong h z ≡ false
unfolding offered
offer_beside h y c right z v s e = ap (λ (x : Logged). beside_wrong h x) (ap (λ (x : Offered). x.kept) e) ∙ (offer_laws.own_offer h y c right).beside

-- where nothing is rebuilt, 71 wants of scratch its length alone
pub none_rebuilt : (h : Head) (scratch : List ℕ) → length scratch ≡ h.m * h.s → rebuilding_wrong h.m h.s scratch 0 ≡ false
unfolding rebuilding_wrong
none_rebuilt h scratch e = rw (eq-eqb (length scratch) (h.m * h.s) e, le-ltb (h.s / 2) 0 (omega arith))

-- ---- the loop over the chunks

module _ (h : Head) (y₀ : Logged) (b : List ℕ) (from : ℕ) (p₀ : Page) where
  -- with `at` bytes done: the session and the lines from here on end as the whole does
  pub record Telling (at : ℕ) (y : Logged) (p : Page) : Type 0 where
    pub inside : at ≤ length b
    pub onward : after_all h y.session (chunks_of h (drop at b)) ≡ after_all h y₀.session (chunks_of h b)
    pub beside : beside_wrong h y ≡ false
    pub ends : at + length_of_all (chunks_of h (drop at b)) ≡ length_of_all (chunks_of h b)
    pub few : 84 * p.at ≤ 84 * p₀.at + 50 * at
    pub lines : Putting chunks_room p₀ (refused_lines h y₀.session from (chunks_of h b)) (refused_lines h y.session (from + at) (chunks_of h (drop at b))) p

  module _ (at : ℕ) (y : Logged) (p : Page) (w : Telling at y p) (t : List ℕ) (rest : t ≡ drop at b) (x : Option ℕ) (ex : x ≡ some_length (front_length h t)) where
    found : x ≡ some_length (front_length h (drop at b))
    found = ex ∙ ap (λ (u : List ℕ). some_length (front_length h u)) rest

    pub telling_end : x ≡ None → ChunksTold h y₀.session b from p₀ y at p
    unfolding after_all length_of_all
    telling_end z =
        let n : chunks_of h (drop at b) ≡ [] = walk_theorems.none_found h (drop at b) (sym found ∙ z) in
        let e : at + 0 ≡ length_of_all (chunks_of h b) = rw n at w.ends in
        let l : Putting chunks_room p₀ (refused_lines h y₀.session from (chunks_of h b)) [] p
        = subst (λ (l : List ℕ). Putting chunks_room p₀ (refused_lines h y₀.session from (chunks_of h b)) l p) (ap (refused_lines h y.session (from + at)) n ∙ lines_none h y.session (from + at)) w.lines in
        record { left = rw n at w.onward; beside = w.beside; ends = omega arith; told = putting_end l }

    module _ (near : from + length b ≤ 65536) (room : HasRoom chunks_room p₀) (k : ℕ) (some : x ≡ Some k) where
      step : (chunks_of h (drop at b) ≡ take k (drop at b) ∷ chunks_of h (drop k (drop at b))) × (84 ≤ k) × (k ≤ length (drop at b))
      step = walk_theorems.next_found h (drop at b) k (sym found ∙ some)

      -- the chunk lies in the bytes, and its line on the page
      pub chunk_inside : (at + k ≤ length b) × (from + at ≤ 65536) × HasRoom 50 p × (0 < k)
      chunk_inside =
          let i : at + k ≤ length b = omega (arith, step.2, length-drop at b, w.inside) in
          (i, omega arith, omega (arith, step.1, w.few, w.lines.lines.long, i, room, near), omega (arith, step.1))

      pub telling_on : (c : List ℕ) (z : Logged) (q : Page) → c ≡ take k (drop at b) → OfferTold h y.session c (from + at) p z q → Telling (at + k) z q
      unfolding after_all length_of_all
      telling_on c z q ec o =
          let s : Session = y.session in
          let cs : List (List ℕ) = chunks_of h (drop (at + k) b) in
          let n : chunks_of h (drop at b) ≡ c ∷ cs = step.0 ∙ ap₂ (λ (d e : List ℕ). d ∷ chunks_of h e) (sym ec) (drop-drop k at b) in
          let l : length c ≡ k = ap length ec ∙ length-take-le k (drop at b) step.2 in
          let m : at + (length c + length_of_all cs) ≡ length_of_all (chunks_of h b) = rw n at w.ends in
          let i : from + at + length c ≡ from + (at + k) = omega arith in
          let g : refused_lines h s (from + at) (chunks_of h (drop at b)) ≡ refused_line h s (from + at) c ++ refused_lines h z.session (from + (at + k)) cs
          = ap (refused_lines h s (from + at)) n ∙ lines_next h s (from + at) c cs
          ∙ ap₂ (λ (u : Session) (j : ℕ). refused_line h s (from + at) c ++ refused_lines h u j cs) (sym o.left) i in
          let few : 84 * q.at ≤ 84 * p₀.at + 50 * (at + k) = omega (arith, o.told.told.place, o.told.told.short, w.few, step.1) in
          let f = putting_next chunk_inside.2 (subst (λ (u : List ℕ). Putting chunks_room p₀ (refused_lines h y₀.session from (chunks_of h b)) u p) g w.lines) o.told in
          record {
            inside = chunk_inside.0;
            onward = ap (λ (u : Session). after_all h u cs) o.left ∙ (rw n at w.onward);
            beside = o.beside;
            ends = omega arith;
            few = few;
            lines = putting_low f (omega (arith, few, chunk_inside.0, near));
          }

-- ---- the stop

pub stop_none : (h : Head) (x : Session) (b : List ℕ) (from : ℕ) (p : Page) → length b ≡ 0 → StopTold h x b from p x.store x.marks p
unfolding stop_in after_all refused_lines
stop_none h x [] from p e = record { store-left = refl; marks-left = refl; told = puts_none p }
stop_none h x (c ∷ b) from p e = absurd (omega arith)

pub stop_some : (h : Head) (x : Session) (b : List ℕ) (from : ℕ) {p q : Page} (y : Logged) → (length b ≡ 0 → ⊥)
    → OfferTold h x b from p y q → StopTold h x b from p y.session.store y.session.marks q
unfolding stop_in after_all refused_lines
stop_some h x [] from y s o = absurd (s refl)
stop_some h x (c ∷ b) from {p} {q} y s o = record {
  store-left = ap (λ (z : Session). z.store) o.left;
  marks-left = ap (λ (z : Session). z.marks) o.left;
  told = subst (λ (l : List ℕ). Puts 50 p l q) (sym (append-nil (refused_line h x from (c ∷ b)))) o.told;
}

-- ---- all offers

module _ (h : Head) (b : List ℕ) (shape : shape_wrong h.size h.n h.m h.s ≡ false) (short : length b ≤ 65536) where
  abbrev chunks : List (List ℕ)
  chunks = chunks_of h b

  abbrev walked : Session
  walked = session_after h b

  abbrev left : List ℕ
  left = drop (length_of_all chunks) b

  refused : (r : Reason) × (verdict_of h walked left ≡ Refused r) × (30 ≤ number_of r) × (number_of r ≤ 32)
  unfolding sum
  refused = walk_theorems.end-answered h (blank h) b (lent_laws.blank_right h shape) (omega arith)

  -- the stop changes neither store nor marks
  stop_keeps : (c : List ℕ) → c ≡ left → SameKept walked (after_all h walked (stop_in c))
  unfolding stop_in after_all
  stop_keeps [] e = record { store = refl; marks = refl }
  stop_keeps (a ∷ c) e =
      rw e (one_offer.refused_changes_nothing h walked left refused.0 refused.1 (λ n. omega (arith, refused.3)))

module _ (h : Head) (store₀ marks₀ scratch₀ b : List ℕ) (from : ℕ) (p : Page) (y : Tellable h store₀ marks₀ scratch₀ b from p)
    (store₁ marks₁ : List ℕ) (t₀ : Tallies) (cs : store₁ ≡ zeros (length store₀)) (cm : marks₁ ≡ zeros (length marks₀)) (ct : t₀ ≡ no_tallies)
    (z : Logged) (end : ℕ) (q : Page) (w : ChunksTold h (session_of store₁ marks₁ t₀) b from p z end q) where
  short : length b ≤ 65536
  short = omega (arith, y.near)

  from_blank : session_of store₁ marks₁ t₀ ≡ blank h
  from_blank = rw (cs, cm, ct, y.store_long, y.marks_long)

  is_session : z.session ≡ session_after h b
  is_session = w.left ∙ ap (λ (x : Session). after_all h x (chunks_of h b)) from_blank

  pub stop_inside : (end ≤ length b) × (from + end ≤ 65536) × HasRoom 50 q
  stop_inside =
      let i : end ≤ length b = omega (arith, w.ends, walk_theorems.end_inside h b) in
      (i, omega (arith, y.near, i), omega (arith, y.room, w.told.long, w.told.told.place, w.told.told.short))

  pub offers_told : (rest store₂ marks₂ : List ℕ) (r : Page) → rest ≡ drop end b
      → StopTold h z.session rest (from + end) q store₂ marks₂ r → OffersTold h b from p store₂ marks₂ r
  unfolding told_in
  offers_told rest store₂ marks₂ r er s =
      let el : rest ≡ left h b y.shape short = er ∙ ap (λ (j : ℕ). drop j b) w.ends in
      let k = stop_keeps h b y.shape short rest el in
      let first = ap (λ (x : Session). refused_lines h x from (chunks_of h b)) from_blank in
      let last : refused_lines h z.session (from + end) (stop_in rest) ≡ refused_lines h (session_after h b) (from + length_of_all (chunks_of h b)) (stop_in (drop (length_of_all (chunks_of h b)) b))
      = λ i. refused_lines h (is_session i) (from + w.ends i) (stop_in (el i)) in
      let all = ap₂ (λ (u v : List ℕ). u ++ v) first last ∙ sym (lines_append h (blank h) from (chunks_of h b) (stop_in (drop (length_of_all (chunks_of h b)) b))) in
      record {
        store-left = s.store-left ∙ ap (λ (x : Session). (after_all h x (stop_in rest)).store) is_session ∙ k.store;
        marks-left = s.marks-left ∙ ap (λ (x : Session). (after_all h x (stop_in rest)).marks) is_session ∙ k.marks;
        told = subst (λ (l : List ℕ). Puts told_room p l r) all (puts_then (omega (arith, y.room)) w.told s.told);
      }
