-- A session of an accepted header is one that 71 does not refuse, over a store of bytes, whatever was offered. Assumes nothing.
use Prim.Native.Nat.{ℕ, zero, suc, ◌+◌, ◌*◌}
use mathlib.Core.Path.{◌≡◌, refl, ap, subst}
use mathlib.Core.Bool.{Bool, true, false, cond}
use mathlib.Core.List.{List, [], ◌∷◌}
use native.Mathlib.Omega.{arith}
use borrow.Author.Tests.{eq-eqb}
use lib.Dec.{eqb}
use lib.ListN.{get_or, length-replicate}
use Rattle.little.specs.Fields.{Bytes}
use Rattle.little.proofs.Laws.{byte_laws}
use Rattle.little.specs.Runs.{zeros}
use Rattle.sfc.specs.answer.Numbers.{number_of, Checked}
use Rattle.sfc.specs.session.Lent.{shape_wrong, marks_wrong, lent_wrong}
use Rattle.sfc.specs.format.Header.{region_of, head_of, header_checks, read_header, header_verdict}
use Rattle.sfc.specs.format.Chunk.{index_of, payload_length, payload_of}
use Rattle.sfc.specs.session.Session.{Session, blank, verdict_of, with_block, settled, after}
use Rattle.sfc.specs.session.History.{after_all}
use Rattle.sfc.specs.demand.Demand3.{Right, AllBytes}
use Rattle.sfc.specs.declared.format.header.Head.{Head}
use Rattle.sfc.specs.declared.session.offer.Verdict.{Verdict}
use Rattle.sfc.specs.declared.session.offer.Verdict.TheVariants.{Fresh, Repeat, Refused}
use Rattle.sfc.specs.declared.answer.reason.Reason.{Reason}
use Rattle.sfc.proofs.answer.CheckLaws.{let_through}
use Rattle.sfc.proofs.session.MarkLaws.{fit_all}
use Rattle.sfc.proofs.session.OfferLaws.{one_offer}
use Rattle.std.specs.Prelude.{Result, Ok, Err}

-- ---- zeros

pub zero-at : (n i : ℕ) → get_or (zeros n) i 0 ≡ 0
zero-at zero i = refl
zero-at (suc n) zero = refl
zero-at (suc n) (suc i) = zero-at n i

pub bytes_zeros : (n : ℕ) → Bytes (zeros n)
bytes_zeros n i = omega (arith, zero-at n i)

-- ---- a blank session of an accepted header

no_refusal : (r : Reason) (h : Head) → Err r ≡ Ok h → ⊥
no_refusal r h e =
    let v : ◌≡◌ {A = Checked} (Err r) (Ok tt) = ap header_verdict e in
    let z : ◌≡◌ {A = ℕ} 0 1 = cc in omega arith

pub accepted_shape : (b : List ℕ) (h : Head) → read_header b ≡ Ok h → shape_wrong h.size h.n h.m h.s ≡ false
unfolding read_header shape_wrong
accepted_shape b h e =
    let t = let_through Err (header_checks b) (Ok (head_of (region_of b))) (Ok h) (λ r. no_refusal r h) e in
    let u = t.0.1.1.1.1.1 in
    let g : ◌≡◌ {A = Result Head Reason} (Ok (head_of (region_of b))) (Ok h) = t.1 in
    let q : head_of (region_of b) ≡ h = cc in
    subst (λ (g : Head). shape_wrong g.size g.n g.m g.s ≡ false) q (rw (u.0, u.1.0))

pub blank_right : (h : Head) → shape_wrong h.size h.n h.m h.s ≡ false → Right h (blank h)
unfolding lent_wrong marks_wrong
blank_right h e = record {
  lent = rw (
    e,
    length-replicate {A = ℕ} (h.n + h.m) 0,
    eq-eqb (h.n + h.m) (h.n + h.m) refl,
    fit_all (zeros (h.n + h.m)) (λ i. omega (arith, zero-at (h.n + h.m) i)),
    length-replicate {A = ℕ} ((h.n + h.m) * h.s) 0,
    eq-eqb ((h.n + h.m) * h.s) ((h.n + h.m) * h.s) refl,
  );
  bytes = bytes_zeros ((h.n + h.m) * h.s);
}

-- ---- an offer, and a history

settled_bytes : (h : Head) (x : Session) (c : List ℕ) (v : Verdict) → Bytes x.store → Bytes (payload_of c) → Bytes (settled h x c v).store
unfolding settled
settled_bytes h x c (Fresh i p) a b = byte_laws.bytes_put x.store (index_of c * h.s) (payload_of c) a b
settled_bytes h x c (Repeat i p) a b = a
settled_bytes h x c (Refused r) a b = go (eqb (number_of r) 41)
  where
    go : (t : Bool) → Bytes (cond t (with_block h x (index_of c) (zeros h.s) 2) x).store
    go true = byte_laws.bytes_put x.store (index_of c * h.s) (zeros h.s) a (bytes_zeros h.s)
    go false = a

pub after_right : (h : Head) (x : Session) (c : List ℕ) → Bytes (payload_of c) → Right h x → Right h (after h x c)
unfolding after
after_right h x c b r = record { lent = one_offer.lent_stays h x c r.lent; bytes = settled_bytes h x c (verdict_of h x c) r.bytes b }

all_right : (h : Head) (x : Session) (cs : List (List ℕ)) → AllBytes cs → Right h x → Right h (after_all h x cs)
unfolding after_all
all_right h x [] b r = r
all_right h x (c ∷ cs) b r = all_right h (after h x c) cs b.1 (after_right h x c (byte_laws.bytes_part c 48 (payload_length c) b.0) r)

pub accepted_right : (b : List ℕ) (h : Head) → read_header b ≡ Ok h → (cs : List (List ℕ)) → AllBytes cs → Right h (after_all h (blank h) cs)
accepted_right b h e cs a = all_right h (blank h) cs a (blank_right h (accepted_shape b h e))
