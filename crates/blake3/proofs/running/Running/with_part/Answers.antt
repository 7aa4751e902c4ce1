-- `blake3::running::Running::with_part` meets its contract. Assumes nothing.
use Rattle.std.proofs.Common.{◌+◌, ◌%◌, ◌<◌, ◌≤◌, length, sym, refl, ◌∙◌, arith, rules, eqb-true}
use borrow.Author.Tests.{eqb-false}
use Rattle.blake3.specs.Running.{with_bytes}
use Rattle.blake3.proofs.FeedLaws.{piece_long, fed_more, fed_end}
use Rattle.blake3.proofs.running.Running.with_part.Goals as goal

pub loop-rest-init : goal.loop-rest-init
loop-rest-init c = record { long = search rules; room = c.requires; left = refl }

pub loop-rest-preserved : goal.loop-rest-preserved
loop-rest-preserved c =
    let l = c.loop-rest in
    let q = c.split_at.result.0.now in
    let later = c.split_at.result.1.now in
    let same = c.settle.ensures.rest in
    let fed = same.1 in
    let some = eqb-false (length l.rest.now) 0 (sym c.is_empty.ensures ∙ c.loop-rest-test.true) in
    let k = c.split_at.ensures.front_len in
    let u = c.split_at.ensures.back_len in
    let pos : 0 < length q = omega arith in
    let room : l.state.fed % 1024 + length q ≤ 1024 = omega arith in
    record {
      long = piece_long c.settle.new.self.piece q c.copy_from_slice.new.self c.settle.new.self.fed (rw same.0 l.invariant.long) (omega arith) c.copy_from_slice.ensures.after;
      room = omega arith;
      left = fed_more l.state c.settle.new.self (with_bytes c.args.self c.args.part.now) q c.copy_from_slice.new.self later l.rest.now l.invariant.long pos room c.split_at.ensures.by_index.0 same c.settle.ensures.stack c.copy_from_slice.ensures.after l.invariant.left;
    }

pub returns : goal.returns
returns c =
    let l = c.loop-rest in
    fed_end l.state (with_bytes c.args.self c.args.part.now) l.rest.now (eqb-true (length l.rest.now) 0 (sym c.is_empty.ensures ∙ c.loop-rest-test.false)) l.invariant.left
