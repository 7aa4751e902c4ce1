-- What it means that a piece is put to a page. A reader of the promises can skip this file. Assumes nothing: these are definitions.
use Rattle.std.specs.Prelude.{ℕ, ◌+◌, ◌≤◌, ◌≡◌, List, length}
use Rattle.sfc_listing.specs.Lines.{Appended}
use Rattle.sfc_listing.specs.declared.page.Page.{Page}

-- n bytes more fit
abbrev pub HasRoom : ℕ → Page → Type 0
HasRoom n p = p.at + n ≤ length p.out.now

-- q is p with a piece of no more than `most` bytes put to its end, in the same lent memory
pub record Puts (most : ℕ) (p : Page) (piece : List ℕ) (q : Page) : Type 0 where
  pub memory : q.out.ghost_name ≡ p.out.ghost_name
  pub long : length q.out.now ≡ length p.out.now
  pub told : Appended most p.out.now p.at piece q.at q.out.now
