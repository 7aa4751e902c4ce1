-- The theorems of the walk (specs/WalkTheorems.antt), from the laws of what it finds and of how that is answered. Assumes nothing.
use Prim.Native.Nat.{ℕ}
use mathlib.Core.Path.{◌≡◌}
use mathlib.Core.Bool.{false}
use mathlib.Core.List.{List}
use native.Mathlib.Omega.{arith}
use lib.ListN.{length}
use Rattle.sfc.specs.session.History.{after_all}
use Rattle.sfc.specs.session.Offer.{Logged, beside_wrong}
use Rattle.sfc.specs.declared.format.header.Head.{Head}
use Rattle.sfc.proofs.Laws.{offer_laws}
use Rattle.sfc_walk.specs.Walk.{chunks_of, walk_over}
use Rattle.sfc_walk.specs.WalkTheorems.{WalkTheorems}
use Rattle.sfc_walk.proofs.StepLaws.{no_chunk, next_chunk}
use Rattle.sfc_walk.proofs.FoundLaws.{found, same, none_front, next_front, none_found, next_found}
use Rattle.sfc_walk.proofs.StepOver.{walk_few, walk_answered, walk_ends}

walk_session : (h : Head) (y : Logged) (b : List ℕ) → beside_wrong h y ≡ false → (walk_over h y b).kept.session ≡ after_all h y.session (chunks_of h b)
unfolding walk_over
walk_session h y b e = (offer_laws.own_offers h y (chunks_of h b) e).0

pub walk_theorems : WalkTheorems
walk_theorems = record {
  bound_enough = λ most h b l. same h most (length b) b l (omega arith);
  chunks-joined = λ h b. (found h (length b) b (omega arith)).joined;
  end_inside = λ h b. (found h (length b) b (omega arith)).inside;
  chunks-few = λ h b. walk_few h (length b) b;
  walk_stops = λ h b. (found h (length b) b (omega arith)).stops;
  no_chunk = no_chunk;
  next_chunk = next_chunk;
  front_none = none_front;
  front_next = next_front;
  none_found = none_found;
  next_found = next_found;
  chunks-answered = walk_answered;
  end-answered = walk_ends;
  walk_session = walk_session;
}
