-- `sfc_listing::desk::Desk::clear` meets its contract, slice by slice. Assumes nothing.
use Rattle.sfc_listing.specs.Listing.{cleared}
use Rattle.sfc_listing.proofs.desk.Desk.clear.Goals as goal

pub returns-clause-cleared : goal.returns-clause-cleared
unfolding cleared
returns-clause-cleared c = λ i. record {
  store = c.fill.ensures.after (λ y e. e) i;
  marks = c.fill-2.ensures.after (λ y e. e) i;
  scratch = c.fill-3.ensures.after (λ y e. e) i;
  numbers = c.fill-4.ensures.after (λ y e. e) i;
  content = c.fill-5.ensures.after (λ y e. e) i;
  bounds = c.fill-6.ensures.after (λ y e. e) i;
}
