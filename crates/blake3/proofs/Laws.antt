-- The laws that the crates above cite, as specs/Laws.antt states them, and no others. Assumes nothing.
use Rattle.blake3.specs.Laws.{HashLaws, FeedLaws}
use Rattle.blake3.proofs.HashLength.{length-hash}
use Rattle.blake3.proofs.RunningLaws.{with_both}
use Rattle.blake3.proofs.AnyCut.{fed_within, fed_bytes}

pub hash_laws : HashLaws
hash_laws = record { length-hash = length-hash }

pub feed_laws : FeedLaws
feed_laws = record { with_both = with_both; fed_within = fed_within; fed_bytes = fed_bytes }
