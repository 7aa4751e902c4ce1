-- Another crate sees the theorems; the laws of a step, of the loop, of what a walk finds and of how that is answered are this
-- crate's own.
pub mod WalkTheorems
mod StepLaws
mod LoopLaws
mod FoundLaws
mod StepOver
