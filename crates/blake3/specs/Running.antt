-- The running hash (document 01, "BLAKE3, unkeyed" and number 72): what feeding and finishing make of any record, a forged
-- one too; a customer who feeds only records that these calls gave him may skip `with_byte` and `with_bytes`, for `AnyCut` says
-- what comes of them. Assumes nothing: these are definitions, and the statements of four theorems.
use Rattle.std.specs.Prelude.{◌≡◌, ℕ, ◌+◌, ◌%◌, ◌^◌, ◌<◌, ◌≤◌, cond, List, [], ◌∷◌, ◌++◌, length, replicate, nat_lt, slice_set, Result, Ok, Err}
use Rattle.little.specs.Said.{Said, refused, says, Apart}
use Rattle.blake3.specs.Compress.{bytes_of_words}
use Rattle.blake3.specs.Tree.{piece_length, hash}
use Rattle.blake3.specs.Stack.{heights, settled, ending}
use Rattle.blake3.specs.declared.running.Running.{Running}
use Rattle.blake3.specs.declared.running.Reason.{Reason}
use Rattle.blake3.specs.declared.running.Reason.TheVariants.{RunningHash}

-- document 01's number of a refusal, and back: the hash has this one row of the table
abbrev pub number_of : Reason → ℕ
number_of RunningHash = 72

abbrev pub reason_of : ℕ → Reason
reason_of k = RunningHash

-- an answer alone, without the record or the hash that it brings
abbrev pub answer_of : {A : Type 0} → Result A Reason → Result Unit Reason
answer_of (Ok x) = Ok tt
answer_of (Err why) = Err why

-- what an answer says: that it is done, or its number
abbrev pub answer_said : Result Unit Reason → Said
answer_said (Ok done) = says "done" []
answer_said (Err why) = refused (number_of why)

-- the most bytes that may be fed
abbrev pub most_fed : ℕ
most_fed = 2 ^ 40

-- one byte more
unfoldable pub with_byte : Running → ℕ → Running
with_byte r x = record {
  piece = slice_set r.piece (r.fed % piece_length) x;
  fed = r.fed + 1;
  stack = settled r.fed r.piece r.stack;
}

-- many bytes more, one after the other
unfoldable pub with_bytes : Running → List ℕ → Running
with_bytes r [] = r
with_bytes r (x ∷ xs) = with_bytes (with_byte r x) xs

-- a record that has been fed nothing
abbrev pub fresh : Running
fresh = record { piece = replicate piece_length 0; fed = 0; stack = replicate heights (replicate 8 0) }

-- whether so many bytes may be fed in all: refused with number 72 where they are too many
abbrev pub room_for : ℕ → Result Unit Reason
room_for n = cond (nat_lt most_fed n) (Err (reason_of 72)) (Ok tt)

-- feeding: refused with number 72, and no record, where the bytes would be too many in all
unfoldable pub fed_with : Running → List ℕ → Result Running Reason
fed_with r xs = cond (nat_lt most_fed (r.fed + length xs)) (Err (reason_of 72)) (Ok (with_bytes r xs))

-- what stands in a record that is fed in place: as it stood where the feed is refused
abbrev pub kept : Running → Result Running Reason → Running
kept r (Ok q) = q
kept r (Err why) = r

abbrev pub after_feed : Running → List ℕ → Running
after_feed r xs = kept r (fed_with r xs)

-- finishing: refused with number 72, and no hash, where the count is above what can have been fed
unfoldable pub finished : Running → Result (List ℕ) Reason
finished r = cond (nat_lt most_fed r.fed) (Err (reason_of 72)) (Ok (bytes_of_words (ending r.fed r.piece r.stack)))

-- the hash of two parts, one after the other: refused with number 72, and no hash, where they are more bytes than may be fed
unfoldable pub hashed_two : List ℕ → List ℕ → Result (List ℕ) Reason
hashed_two first second = cond (nat_lt most_fed (length first + length second)) (Err (reason_of 72)) (Ok (hash (first ++ second)))

-- What number 72 is given for, of any record and any part, and that it changes nothing and brings no hash; and of two parts hashed
-- at once. Where it is not given the answer is that it is done. Proved in proofs/Refusals.antt
pub record Refusals (r : Running) (xs : List ℕ) : Type 0 where
  pub feed_says : answer_said (answer_of (fed_with r xs)) ≡ cond (nat_lt most_fed (r.fed + length xs)) (refused 72) (says "done" [])
  pub feed_leaves : most_fed < r.fed + length xs → after_feed r xs ≡ r
  pub finish_says : answer_said (answer_of (finished r)) ≡ cond (nat_lt most_fed r.fed) (refused 72) (says "done" [])
  pub finish_none : most_fed < r.fed → finished r ≡ Err (reason_of 72)
  pub two_says : (ys : List ℕ) → answer_said (answer_of (hashed_two xs ys)) ≡ cond (nat_lt most_fed (length xs + length ys)) (refused 72) (says "done" [])
  pub two-none : (ys : List ℕ) → most_fed < length xs + length ys → hashed_two xs ys ≡ Err (reason_of 72)

-- The number and the reason lead to each other, and two answers that say the same are the same. Proved in proofs/Refusals.antt
pub record Numbered : Type 0 where
  pub number-back : number_of (reason_of 72) ≡ 72
  pub reason_back : (why : Reason) → reason_of (number_of why) ≡ why
  pub apart : Apart answer_said

-- For a loop that feeds: a record that was fed xs has that many bytes more, and a fresh one ends with the hash of xs. Proved in
-- proofs/AnyCut.antt
pub record FedBytes (xs : List ℕ) : Type 0 where
  pub count : (r : Running) → (with_bytes r xs).fed ≡ r.fed + length xs
  pub ends : length xs ≤ most_fed → finished (with_bytes fresh xs) ≡ Ok (hash xs)

-- parts fed one after the other, and that none of them is refused
unfoldable pub fed_all : Running → List (List ℕ) → Running
fed_all r [] = r
fed_all r (p ∷ ps) = fed_all (after_feed r p) ps

unfoldable pub AllTaken : Running → List (List ℕ) → Type 0
AllTaken r [] = Unit
AllTaken r (p ∷ ps) = (answer_of (fed_with r p) ≡ Ok tt) × AllTaken (after_feed r p) ps

unfoldable pub joined : List (List ℕ) → List ℕ
joined [] = []
joined (p ∷ ps) = p ++ joined ps

-- However a text of at most 2 ^ 40 bytes is cut, no part of it is refused, and the finish is the hash of the whole. Proved
-- in proofs/AnyCut.antt
pub record AnyCut (parts : List (List ℕ)) : Type 0 where
  pub taken : AllTaken fresh parts
  pub same : finished (fed_all fresh parts) ≡ Ok (hash (joined parts))

abbrev pub RunningAnyCut : Type 0
RunningAnyCut = (parts : List (List ℕ)) → length (joined parts) ≤ most_fed → AnyCut parts
