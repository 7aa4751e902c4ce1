-- `scale` meets its contract. Assumes nothing.
use Rattle.cauchy.proofs.tables.scale.Goals as goal

pub returns : goal.returns
returns c =
    c.scale_words.ensures c.args.c c.args.d c.ranges.c.fits c.ranges.d.fits (c.fill.ensures c.args.c c.args.d 0 0 c.pack_four.ensures)
