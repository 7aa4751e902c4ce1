-- A call by a file's header: the number of a refused one, and else what the call promises for it. Assumes nothing.
use Prim.Native.Nat.{ℕ}
use mathlib.Core.Path.{◌≡◌, sym, ap, ◌∙◌}
use mathlib.Core.List.{List}
use Rattle.std.specs.Prelude.{Result, Ok, Err}
use Rattle.sfc.specs.answer.Numbers.{number_of}
use Rattle.sfc.specs.format.Header.{read_header}
use Rattle.sfc.specs.declared.format.header.Head.{Head}
use Rattle.sfc.specs.declared.answer.reason.Reason.{Reason}
use Rattle.sfc_native.specs.Answers.{Outcome, outcome, by_header}

module _ (file : List ℕ) (x : Result Head Reason) (read : x ≡ read_header file) (f : ℕ) (scratch room : List ℕ) (call : Head → Outcome) where
  by_read : (y : Result Head Reason) → x ≡ y → by_header y f scratch room call ≡ by_header (read_header file) f scratch room call
  by_read y e = ap (λ (z : Result Head Reason). by_header z f scratch room call) (sym e ∙ read)

  pub refused_header_lem : (n : ℕ) (r : Reason) → n ≡ number_of r → x ≡ Err r
      → outcome n f scratch room ≡ by_header (read_header file) f scratch room call
  unfolding by_header
  refused_header_lem n r e v = ap (λ (k : ℕ). outcome k f scratch room) e ∙ by_read (Err r) v

  pub good_header : (o : Outcome) (h : Head) → x ≡ Ok h → o ≡ call h → o ≡ by_header (read_header file) f scratch room call
  unfolding by_header
  good_header o h v e = e ∙ by_read (Ok h) v
