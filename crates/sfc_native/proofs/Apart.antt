-- No file is as short as a refusal's number (specs/Apart.antt): preamble and trailer alone are longer. Assumes nothing.
use native.Mathlib.Omega.{arith}
use Rattle.sfc.proofs.Theorems.{demand2}
use Rattle.sfc_native.specs.Apart.{AnswersApart}

pub answers_apart : AnswersApart
answers_apart w lawful = omega (arith, demand2.file_length w lawful)
