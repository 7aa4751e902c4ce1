-- The laws that the crates above cite, as specs/Laws.antt states them, and no others. Assumes nothing.
use Prim.Native.Nat.{ℕ, ◌+◌, ◌<◌, ◌≤◌}
use mathlib.Core.Path.{◌≡◌, ap}
use mathlib.Core.Bool.{true, cond}
use mathlib.Core.List.{List, ◌++◌}
use lib.ListN.{length, get_or}
use Rattle.little.specs.Runs.{among}
use Rattle.sfc.specs.answer.Numbers.{passes}
use Rattle.sfc.specs.format.Header.{length_field}
use Rattle.sfc.specs.format.Chunk.{chunk_length, length_checks, measure_checks}
use Rattle.sfc.specs.writing.Writer.{Input, size, blocks, body, payload, chunk, file_of, head_for}
use Rattle.sfc.specs.demand.Demand2.{Lawful, AllBelow, received}
use Rattle.sfc.specs.Laws.{CheckLaws, LentLaws, MeasureLaws, OfferLaws, GiveLaws, CountLaws, WrittenLaws}
use Rattle.sfc.proofs.answer.CheckLaws.{passed, all-passed, good_passes, passes_good, front_good, good_then, refused_then, good_all, refused_all, tells}
use Rattle.sfc.proofs.answer.RefusalLaws.{leaves, ends}
use Rattle.sfc.proofs.format.ChunkLaws.{measured, unmeasured, front-there}
use Rattle.sfc.proofs.format.LimitLaws.{wanted_holds}
use Rattle.sfc.proofs.session.MarkLaws.{right_shape, right_marks}
use Rattle.sfc.proofs.session.SessionLaws.{number_in, right_lent, past_two}
use Rattle.sfc.proofs.session.OfferLaws.{stays_lent}
use Rattle.sfc.proofs.session.HistoryLaws.{total-all, not_full}
use Rattle.sfc.proofs.session.KeptLaws.{own_offer, own_offers}
use Rattle.sfc.proofs.give.TurnTheorems.{whole-turn, turn_long, release_long}
use Rattle.sfc.proofs.session.RightLaws.{accepted_shape, blank_right}
use Rattle.sfc.proofs.session.DifferentLaws.{held-different}
use Rattle.sfc.proofs.note.MissingLaws.{unheld_count}
use Rattle.sfc.proofs.writing.InputLaws.{RightInput, right_input}
use Rattle.sfc.proofs.writing.FileLaws as file
use Rattle.sfc.proofs.writing.HeaderBack as header
use Rattle.sfc.proofs.writing.ChunkBack.{length_back, length-passed}
use Rattle.sfc.proofs.demand.Answers.{by_number}
use Rattle.sfc.proofs.demand.RoundTrip.{made, received_holds}

pub check_laws : CheckLaws
check_laws = record {
  passed = passed;
  all-passed = all-passed;
  good_passes = good_passes;
  passes_good = passes_good;
  front_good = front_good;
  good_then = λ refuse cs ds good e. good_then refuse cs ds good e;
  refused_then = λ refuse cs ds good r e. refused_then refuse cs ds good r e;
  good_all = λ refuse cs good e. good_all refuse cs good e;
  refused_all = λ refuse cs good r e. refused_all refuse cs good r e;
  tells = λ seen refuse good f g cs v e. tells seen refuse good f g cs v e;
  by_number = λ said refuse good f cs t. by_number said refuse good f cs t;
  number_in = number_in;
  leaves = leaves;
  ends = ends;
}

pub lent_laws : LentLaws
lent_laws = record {
  right_shape = right_shape;
  right_marks = right_marks;
  right_lent = right_lent;
  accepted_shape = accepted_shape;
  blank_right = λ h e. (blank_right h e).lent;
  wanted_holds = wanted_holds;
}

pub measure_laws : MeasureLaws
measure_laws = record { measured = measured; unmeasured = unmeasured; front-there = front-there }

pub offer_laws : OfferLaws
offer_laws =
    record { past_two = past_two; stays_lent = stays_lent; total-all = total-all; not_full = not_full; own_offer = own_offer; own_offers = own_offers }

pub give_laws : GiveLaws
give_laws = record { whole-turn = whole-turn; turn_long = turn_long; release_long = release_long }

pub count_laws : CountLaws
count_laws = record { unheld_count = unheld_count; held-different = held-different }

-- ---- a file that our writer wrote

module _ (w : Input) (l : Lawful w) where
  right : RightInput w
  right = right_input w l.uuid_long l.right

  field_back : length_field (file_of w) ≡ length (body w)
  unfolding file_of
  field_back = header.field_back w right.fitting.length_small _

  chunk-measured : (i : ℕ) → i < blocks w + w.m → (rest : List ℕ)
      → (passes (measure_checks (head_for w) (chunk w i ++ rest)) ≡ true) × (chunk_length (chunk w i ++ rest) ≡ 84 + w.s)
  unfolding chunk
  chunk-measured i h rest =
      let c : List ℕ = chunk w i ++ rest in
      let m = made w l.uuid_long right.shape i h in (
        rw right.shape (good_passes (length_checks w.s c) (all-passed (length_checks w.s c) (length-passed (head_for w) i (payload w i) rest m))),
        ap (λ (k : ℕ). 84 + k) (length_back (head_for w) i (payload w i) rest m),
      )

  received-marks : (is : List ℕ) → AllBelow (blocks w + w.m) is → length is ≤ 4294967295
      → (length (received w is).marks ≡ blocks w + w.m)
      × ((j : ℕ) → j < blocks w + w.m → get_or (received w is).marks j 0 ≡ cond (among j is) 1 0)
  received-marks is a few =
      let k = received_holds w l.uuid_long right.shape l.content is a few in
      ((right_lent (size w) (blocks w) w.m w.s (received w is).store (received w is).marks k.right.lent).marks_long, k.marks)

pub written_laws : WrittenLaws
written_laws = record {
  shape_written = λ w l. (right w l).shape;
  field_back = field_back;
  length_written = λ w l i. file.length_written w l.uuid_long l.right i;
  chunk-measured = chunk-measured;
  received-marks = received-marks;
}
