-- `gf16::looked_up` calls itself at the half of an even element. Assumes nothing.
use Rattle.gf16.proofs.+looked_up.Given as goal

abbrev pub decreases-looked_up : goal.decreases-looked_up
decreases-looked_up l = l.a
