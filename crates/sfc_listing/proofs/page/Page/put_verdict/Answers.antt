-- `sfc_listing::page::Page::put_verdict` meets its contract, by the verdict. Assumes nothing.
use Rattle.std.proofs.Common.{inl, inr}
use Rattle.sfc_listing.specs.Listing.{verdict_line}
use Rattle.sfc_listing.proofs.PageLaws.{puts_none}
use Rattle.sfc_listing.proofs.page.Page.put_verdict.Goals as goal

pub returns-in-Fresh : goal.returns-in-Fresh
unfolding verdict_line
returns-in-Fresh c =
    elim c.in-Fresh.is [
      | inl w ↦ rw w.2 (puts_none _)
      | inr w ↦ rw w.2 (puts_none _)
    ]

pub returns-in-Refused : goal.returns-in-Refused
unfolding verdict_line
returns-in-Refused c = rw c.in-Refused.is c.put_refusal.ensures
