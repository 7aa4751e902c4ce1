-- `blake3::in_place::hash_two_in_place` meets its contract. Assumes nothing.
use Rattle.blake3.proofs.TwoParts.{both_refused, first_refused, second_refused, both_taken}
use Rattle.blake3.proofs.in_place.hash_two_in_place.Goals as goal

pub returns-in_err-check_room : goal.returns-in_err-check_room
returns-in_err-check_room c =
    let a = c.args in
    let t = c.in_err-check_room in
    both_refused a.first.now a.second.now c.from_residual.result t.field-0.0 t.ensures c.from_residual.ensures.0

pub returns-in_err-feed_in_place : goal.returns-in_err-feed_in_place
returns-in_err-feed_in_place c =
    let a = c.args in
    let t = c.in_err-feed_in_place in
    let r = c.from_residual-in_err-feed_in_place in
    first_refused a.first.now a.second.now c.new-state.ensures r.result t.field-0.0 t.ensures.answer r.ensures.0

pub returns-in_err-feed_in_place-2 : goal.returns-in_err-feed_in_place-2
returns-in_err-feed_in_place-2 c = let a = c.args in let f = c.in_ok-feed_in_place.ensures in let t = c.in_err-feed_in_place-2 in let r = c.from_residual-in_err-feed_in_place-2 in second_refused a.first.now a.second.now c.new-state.ensures f.answer f.state r.result t.field-0.0 t.ensures.answer r.ensures.0

pub returns : goal.returns
returns c =
    let a = c.args in
    let f = c.in_ok-feed_in_place.ensures in
    let s = c.in_ok-feed_in_place-2.ensures in
    both_taken a.first.now a.second.now c.new-state.ensures f.answer f.state s.answer s.state c.finish_in_place.ensures
