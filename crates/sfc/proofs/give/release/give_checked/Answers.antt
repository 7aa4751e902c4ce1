-- `sfc::give::release::give_checked` meets its contract: what is hashed is what is copied. Assumes nothing.
use borrow.Author.Tests.{not-true, not-false}
use mathlib.Core.Path.{◌∙◌, ap, refl, sym}
use mathlib.Core.List.{List}
use Prim.Native.Nat.{ℕ}
use Rattle.little.specs.Runs.{same}
use Rattle.sfc.proofs.give.release.give_checked.Goals as goal

pub returns-then-not-is_same : goal.returns-then-not-is_same
returns-then-not-is_same c = (sym (not-true _ c.if-not-is_same.true-raw) ∙ c.is_same.ensures ∙ ap (λ (x : List ℕ). same x c.args.hash) c.content_hash-found.ensures, refl)

pub returns : goal.returns
returns c = (sym (not-false _ c.if-not-is_same.false-raw) ∙ c.is_same.ensures ∙ ap (λ (x : List ℕ). same x c.args.hash) c.content_hash-found.ensures, c.copy_content.ensures)
