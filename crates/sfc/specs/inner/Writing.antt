-- What the writer's inner steps may take for granted, and the words in which they promise. Assumes nothing: these are definitions.
use Rattle.std.specs.Prelude.{ℕ, ◌+◌, ◌-◌, ◌*◌, ◌≡◌, false, List, ◌++◌, length}
use Rattle.little.specs.Parts.{block}
use Rattle.cauchy.specs.Code.{recovery_block, code_block}
use Rattle.cauchy.specs.Calls.{wrong_shape}
use Rattle.sfc.specs.writing.Writer.{Input, input_of, blocks, chunk_bytes, input_wrong}
use Rattle.sfc.specs.declared.writing.parts.Plan.{Plan}
use Rattle.sfc.specs.declared.writing.parts.DataBlocks.{DataBlocks}
use Rattle.sfc.specs.declared.writing.writer.Input.{Input as Given}

-- the input as the inner steps hand it on
abbrev pub given : Given → Input
given g = input_of g.facts g.content.now g.name.now g.priority.now g.fields.now

-- 60 does not refuse the input, n is its N, and what `bytes` makes of it takes up the whole of the lent part
abbrev pub Ready : (Input → List ℕ) → Input → ℕ → List ℕ → Type 0
Ready bytes w n part = (input_wrong w ≡ false) × (n ≡ blocks w) × (length part ≡ length (bytes w))

-- chunk i of a plan, with that payload
abbrev pub chunk_of : Plan → ℕ → List ℕ → List ℕ
chunk_of p i payload = chunk_bytes p.uuid p.n p.m p.s i payload

-- the one for block i of blocks that lie one after the other, where the indices begin at `first`; for recovery block k; for block
-- i of the code
abbrev pub run_chunk : Plan → ℕ → List ℕ → ℕ → List ℕ
run_chunk p first blocks i = chunk_of p (first + i) (block p.s blocks i)

abbrev pub recovery_chunk : Plan → List ℕ → ℕ → List ℕ
recovery_chunk p all k = chunk_of p (p.n + k) (recovery_block p.n p.m p.s all k)

abbrev pub code_chunk : Plan → List ℕ → ℕ → List ℕ
code_chunk p all i = chunk_of p i (code_block p.n p.m p.s all i)

-- data blocks of which the last lies apart, as one list
abbrev pub all_of : DataBlocks → List ℕ
all_of b = b.front.now ++ b.last.now

-- the plan's numbers are a shape of the code, and the data blocks are as many and as long as it says
pub record Planned (p : Plan) (b : DataBlocks) : Type 0 where
  pub shape : wrong_shape p.n p.m p.s ≡ false
  pub front_long : length b.front.now ≡ (p.n - 1) * p.s
  pub last_long : length b.last.now ≡ p.s
