-- `sfc::note::ranges::put_index` meets its contract: the first of the pair, or a pair of its own before it. Assumes nothing.
use Rattle.std.proofs.Common.{arith}
use Rattle.sfc.proofs.note.PairLaws.{joined_put, room_first, own_long, own_put}
use Rattle.sfc.proofs.note.ranges.put_index.Goals as goal

pub returns-then-joined-clause-before : goal.returns-then-joined-clause-before
returns-then-joined-clause-before g c =
    let a = c.args in
    let j = c.if-joined.true in
    joined_put _ _ _ c.requires.laid a.i (g.E.Entry.held a.out.now) a.k a.joined _ j (c.requires.room.2 j) c.put_bound.ensures

pub put_bound-requires-3 : goal.put_bound-requires-3
put_bound-requires-3 g c =
    let a = c.args in
    let j = c.if-joined.false in
    room_first _ _ _ c.requires.laid a.i (g.E.Entry.held a.out.now) a.k a.joined _ (omega (arith, c.requires.room.3 j)) c.requires.room.1 _ c.put_bound-2.ensures

pub returns-clause-kept : goal.returns-clause-kept
returns-clause-kept g c =
    let a = c.args in
    let j = c.if-joined.false in
    own_long _ _ _ c.requires.laid a.i (g.E.Entry.held a.out.now) a.k a.joined _ (omega (arith, c.requires.room.3 j)) c.requires.room.1 _ c.put_bound-2.ensures _ c.put_bound-3.ensures

pub returns-clause-before : goal.returns-clause-before
returns-clause-before g c =
    let a = c.args in
    let j = c.if-joined.false in
    own_put _ _ _ c.requires.laid a.i (g.E.Entry.held a.out.now) a.k a.joined _ (omega (arith, c.requires.room.3 j)) c.requires.room.1 _ c.put_bound-2.ensures _ c.put_bound-3.ensures j
