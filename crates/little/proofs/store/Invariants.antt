-- `little::store` meets its contract. The loop's invariant: the bytes stored and those of the rest are the bytes of the number.
-- Assumes nothing.
use Rattle.std.proofs.Common.{◌≡◌, ◌-◌, ◌≤◌, ◌++◌, length, take}
use Rattle.little.specs.Fields.{bytes_of}
use Rattle.little.proofs.store.Given as goal

abbrev pub invariant-loop-x : goal.invariant-loop-x
invariant-loop-x l =
    (l.x-index ≤ length l.initial.d) × (length l.d ≡ length l.initial.d) × (take l.x-index l.d ++ bytes_of (length l.initial.d - l.x-index) l.rest ≡ bytes_of (length l.initial.d) l.fn.v)
