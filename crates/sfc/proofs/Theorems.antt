-- The proofs of the theorems, from the rooms that have them: what another crate may cite of them. Assumes nothing.
pub use Rattle.sfc.proofs.answer.Numbered.{numbered}
pub use Rattle.sfc.proofs.format.FieldWalk.{field_walk}
pub use Rattle.sfc.proofs.format.FieldInside.{field_lookup}
pub use Rattle.sfc.proofs.format.FieldsTaken.{fields_taken}
pub use Rattle.sfc.proofs.session.OfferLaws.{one_offer}
pub use Rattle.sfc.proofs.session.HistoryLaws.{many_offers}
pub use Rattle.sfc.proofs.session.CopyTheorems.{copy_theorems}
pub use Rattle.sfc.proofs.session.OrderTheorems.{order_theorems}
pub use Rattle.sfc.proofs.session.SpotTheorems.{place-table, first_wrongs}
pub use Rattle.sfc.proofs.session.EndLaws.{end-state}
pub use Rattle.sfc.proofs.session.CountLaws.{tallies_count}
pub use Rattle.sfc.proofs.give.TurnTheorems.{in-turns}
pub use Rattle.sfc.proofs.note.MissingExact.{missing_exact}
pub use Rattle.sfc.proofs.note.RangesExact.{ranges_exact}
pub use Rattle.sfc.proofs.note.RangesFew.{ranges-few}
pub use Rattle.sfc.proofs.note.NoteExact.{note_theorems}
pub use Rattle.sfc.proofs.writing.SixtyTheorems.{sixty_theorems}
pub use Rattle.sfc.proofs.writing.HeaderFields.{header_fields}
pub use Rattle.sfc.proofs.demand.Unread.{unread}
pub use Rattle.sfc.proofs.demand.Demand1.{demand1}
pub use Rattle.sfc.proofs.demand.Demand2.{demand2}
pub use Rattle.sfc.proofs.demand.Demand3.{demand3}
pub use Rattle.sfc.proofs.demand.Answers.{answers, said_apart}
pub use Rattle.sfc.proofs.demand.Worked.{worked}
