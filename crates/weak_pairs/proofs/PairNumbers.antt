-- The numbers of the keys of a table's pairs, and a pair as it is read at a place.
use Rattle.std.proofs.Common.{◌≡◌, ◌≢◌, ℕ, ◌+◌, ◌*◌, ◌≤◌, ◌<◌, List, length, get_or, Option, Some, None}
use Rattle.std.proofs.Common.{slice_get, unwrap_or, refl, sym, ◌∙◌, ap, arith}
use Rattle.std.specs.Prelude.{option_map}
use Rattle.std.proofs.lemmas.List.{length-map}
use Rattle.std.proofs.lemmas.Option.{same_Some, slice_get-get_or, get_or_from_slice_get}
use Rattle.std.proofs.lemmas.Option.{slice_get-map, none-some}
use Rattle.tagged_word.specs.Cells.{store_head}
use Rattle.tagged_word.specs.Readings.{reference_in}
use Rattle.heap_model.specs.Heaps.{Heap}
use Rattle.heap_model.specs.Kinds.{Pair, free_pair}
use Rattle.weak_pairs.specs.Tables.{key_in, value_in, numbers, key_number}
use Rattle.weak_pairs.specs.Tables.{pairs_of}
use Rattle.weak_pairs.specs.declared.table.Table.{Table}
use Rattle.weak_pairs.proofs.PairLists.{pairs_read}

-- there are as many numbers as pairs
pub length-numbers : (heap : Heap) (pairs : List Pair) → length (numbers heap pairs) ≡ length pairs
length-numbers heap pairs = length-map pairs (key_number heap)

-- the number of a pair that is read
pub number_read : (heap : Heap) (pairs : List Pair) (place : ℕ) (pair : Pair) → slice_get pairs place ≡ Some pair
    → get_or (numbers heap pairs) place None ≡ key_number heap pair
number_read heap pairs place pair there =
    get_or_from_slice_get (numbers heap pairs) place (key_number heap pair) None
    (slice_get-map (key_number heap) pairs place ∙ ap (option_map (key_number heap)) there)

-- a pair as it is read at a place
pub record ReadsPair (heap : Heap) (table : Table) (place : ℕ) : Type 0 where
  pub pair : Pair
  pub there : slice_get (pairs_of heap.words table) place ≡ Some pair
  pub key : key_in heap table.at place ≡ pair.key
  pub value : value_in heap table.at place ≡ pair.value

-- there is one at each place
pub reads_pair : (heap : Heap) (table : Table) (place : ℕ)
    → table.at + (store_head + 2 * table.capacity) ≤ length heap.words
    → place < table.capacity → ReadsPair heap table place
reads_pair heap table place within below =
    let are = pairs_read heap.words table within in
    let pairs : List Pair = pairs_of heap.words table in
    let pair : Pair = get_or pairs place free_pair in
    let there : slice_get pairs place ≡ Some pair =
    slice_get-get_or pairs place free_pair (omega (arith, are.long, below)) in
    record {
      pair = pair;
      there = there;
      key = ap (λ found. unwrap_or found 0) (are.keys place pair there);
      value = ap (λ found. unwrap_or found 0) (are.values place pair there);
    }

-- a pair whose key refers to something holds something
pub keyed_filled : (pair : Pair) (at : ℕ) → reference_in pair.key ≡ Some at → pair ≢ free_pair
keyed_filled pair at refers free =
    none-some at (ap (λ (p : Pair). reference_in p.key) (sym free) ∙ refers)

-- a number that is read of what is there
number_there : (f : Pair → Option ℕ) (found : Option Pair) (item : Option ℕ) → option_map f found ≡ Some item
    → (pair : Pair) × (found ≡ Some pair) × (f pair ≡ item)
number_there f None item is = absurd (none-some item is)
number_there f (Some pair) item is = (pair, refl, same_Some (f pair) item is)

-- the number at a place is that of the pair there
pub number_place : (heap : Heap) (pairs : List Pair) (at : ℕ) (item : Option ℕ)
    → slice_get (numbers heap pairs) at ≡ Some item
    → (pair : Pair) × (slice_get pairs at ≡ Some pair) × (key_number heap pair ≡ item)
number_place heap pairs at item there =
    number_there (key_number heap) (slice_get pairs at) item (sym (slice_get-map (key_number heap) pairs at) ∙ there)
