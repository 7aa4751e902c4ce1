-- What stands in the memory that the listing's structs are lent, and that it is the same memory still. A reader of the promises
-- needs `on_desk` and `left_on` alone. Assumes nothing: these are definitions.
use Rattle.std.specs.Prelude.{◌≡◌, length}
use Rattle.sfc.specs.session.Session.{Session, session_of}
use Rattle.sfc.specs.session.Offer.{Logged, logged_of}
use Rattle.sfc_listing.specs.Listing.{Desk, desk_of}
use Rattle.sfc_listing.specs.declared.desk.Desk.{Desk as LentDesk}
use Rattle.sfc_listing.specs.declared.lent.LentSession.{LentSession}

-- the desk's six pieces
abbrev pub on_desk : LentDesk → Desk
on_desk d = desk_of d.store.now d.marks.now d.scratch.now d.numbers.now d.content.now d.bounds.now

-- the same six pieces of memory, each as long as it was
pub record SameDesk (d e : LentDesk) : Type 0 where
  pub store : e.store.ghost_name ≡ d.store.ghost_name
  pub marks : e.marks.ghost_name ≡ d.marks.ghost_name
  pub scratch : e.scratch.ghost_name ≡ d.scratch.ghost_name
  pub numbers : e.numbers.ghost_name ≡ d.numbers.ghost_name
  pub content : e.content.ghost_name ≡ d.content.ghost_name
  pub bounds : e.bounds.ghost_name ≡ d.bounds.ghost_name
  pub store_long : length e.store.now ≡ length d.store.now
  pub marks_long : length e.marks.now ≡ length d.marks.now
  pub scratch_long : length e.scratch.now ≡ length d.scratch.now
  pub numbers_long : length e.numbers.now ≡ length d.numbers.now
  pub content_long : length e.content.now ≡ length d.content.now
  pub bounds_long : length e.bounds.now ≡ length d.bounds.now

-- a session, and all that is kept for it
abbrev pub session_in : LentSession → Session
session_in s = session_of s.store.now s.marks.now s.tallies

abbrev pub logged_in : LentSession → Logged
logged_in s = logged_of s.store.now s.marks.now s.tallies s.scratch.now s.finished.0

-- it goes by the same head, in the same three pieces of memory, each as long as it was
pub record SameSession (s t : LentSession) : Type 0 where
  pub head : t.head ≡ s.head
  pub store : t.store.ghost_name ≡ s.store.ghost_name
  pub marks : t.marks.ghost_name ≡ s.marks.ghost_name
  pub scratch : t.scratch.ghost_name ≡ s.scratch.ghost_name
  pub store_long : length t.store.now ≡ length s.store.now
  pub marks_long : length t.marks.now ≡ length s.marks.now
  pub scratch_long : length t.scratch.now ≡ length s.scratch.now
