-- `sfc::give::gather::with_part` meets its contract: so few bytes are never refused. Assumes nothing.
use mathlib.Core.Path.{refl, ◌∙◌}
use Rattle.blake3.proofs.Laws.{feed_laws}
use Rattle.sfc.proofs.give.gather.with_part.Goals as goal

pub unwrap-requires : goal.unwrap-requires
unwrap-requires c = rw (c.feed.ensures ∙ feed_laws.fed_within c.args.state c.args.part.now c.requires) refl

pub returns : goal.returns
returns c =
    let e = feed_laws.fed_within c.args.state c.args.part.now c.requires in
    let f = c.feed.ensures in
    let u = c.unwrap.ensures in
    cc
