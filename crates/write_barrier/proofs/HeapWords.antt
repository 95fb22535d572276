-- What stays where a word is put.
use Rattle.std.proofs.Common.{◌≡◌, ℕ, List, length, length-set, slice_set, refl}
use Rattle.write_barrier.specs.Seats.{Seat, RestStays}

-- where as many heap words are others, the rest stays
pub stays_beside : (seat : Seat) (words : List ℕ) → length words ≡ length seat.table
    → RestStays seat (record seat { table = words })
stays_beside seat words count =
    record {
      space = refl;
      phase = refl;
      count = count;
      shared = refl;
      home = refl;
      out = refl;
      lent = refl;
      marks = refl;
    }

-- a word that is put changes nothing but the heap words
pub stays_beside-put : (seat : Seat) (a word : ℕ) → RestStays seat (record seat { table = slice_set seat.table a word })
stays_beside-put seat a word = stays_beside seat (slice_set seat.table a word) (length-set seat.table a word)
