-- The words of the table where some were put, copied or filled.
use Rattle.std.proofs.Common.{◌≡◌, ℕ, ◌+◌, ◌≤◌, List, ◌++◌, length, length-set, take, drop, replicate, slice_set, refl}
use Rattle.std.proofs.Common.{rules}
use Rattle.std.proofs.lemmas.List.{places}
use Rattle.word_store.specs.Copies.{copied}
use Rattle.word_store.proofs.CopiedWords.{length-copied}
use Rattle.heap_table.specs.Seats.{Seat, RestStays}

-- the words with so many times one word in place of those that stand from an address on
abbrev pub filled : List ℕ → ℕ → ℕ → ℕ → List ℕ
filled words at count word = take at words ++ replicate count word ++ drop (at + count) words

-- they are as many
pub length-filled : (words : List ℕ) (at count word : ℕ) → at + count ≤ length words →
    length (filled words at count word) ≡ length words
length-filled words at count word within = search (rules, places)

-- a word that is put changes nothing but the heap words
pub stays_beside-put : (seat : Seat) (a word : ℕ) → RestStays seat (record seat { table = slice_set seat.table a word })
stays_beside-put seat a word =
    record { space = refl; phase = refl; count = length-set seat.table a word; shared = refl }

-- a copy changes nothing but the heap words
pub stays_beside-copied : (seat : Seat) (from to count : ℕ) → from + count ≤ length seat.table →
    to + count ≤ length seat.table → RestStays seat (record seat { table = copied seat.table from to count })
stays_beside-copied seat from to count within room =
    record { space = refl; phase = refl; count = length-copied seat.table from to count within room; shared = refl }

-- a stretch that is filled changes nothing but the heap words
pub stays_beside-filled : (seat : Seat) (at count word : ℕ) → at + count ≤ length seat.table →
    RestStays seat (record seat { table = filled seat.table at count word })
stays_beside-filled seat at count word within =
    record { space = refl; phase = refl; count = length-filled seat.table at count word within; shared = refl }
