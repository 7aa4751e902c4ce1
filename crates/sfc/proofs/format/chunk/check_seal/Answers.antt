-- `sfc::format::chunk::check_seal` meets its contract: the checks, from the first down, are the list in its order. Assumes nothing.
use mathlib.Core.Path.{sym}
use native.Mathlib.Omega.{arith}
use lib.Seq.{length-take-le}
use Rattle.sfc.proofs.format.chunk.check_seal.Goals as goal

pub slice_bounds-hash-end : goal.slice_bounds-hash-end
slice_bounds-hash-end c = sym (length-take-le _ c.args.c.now (omega (arith, c.payload_length-payload.ensures, c.requires)))
