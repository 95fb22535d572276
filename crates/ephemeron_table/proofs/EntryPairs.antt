-- The pair of a weak map's entry: it alone has the key, and what putting a value there takes.
use Rattle.std.proofs.Common.{◌≡◌, ℕ, ◌+◌, ◌*◌, ◌<◌, List, Some, not, ◌&&◌, slice_get, unwrap_or, sym, ◌∙◌, ap}
use Rattle.std.proofs.Common.{arith}
use Rattle.page_space.specs.Sizes.{AreWithin}
use Rattle.heap_model.specs.Types.{Value, Held}
use Rattle.object_graph.specs.Graphs.{Graph, WeakObject}
use Rattle.write_barrier.specs.Seats.{heap_words}
use Rattle.heap_model.specs.Slots.{reference_word, IsSlotWord, RefersToPlace}
use Rattle.heap_model.specs.Kinds.{Pair}
use Rattle.heap_model.specs.Showing.{ShowsHeld}
use Rattle.heap_model.specs.Needs.{count_at, word_at, box_need, is_box_word}
use Rattle.heap_model.specs.Rooms.{is_wide, wput_need, wput_need_by}
use Rattle.heap_model.proofs.ShownBoxes.{value_boxed}
use Rattle.heap_model.proofs.SlotWords.{value_is_slot}
use Rattle.write_barrier.specs.MutatorState.{Mutator, heap_of, MainShows}
use Rattle.object_cells.specs.Contents.{next_at, box_in, filling_of, filling_need}
use Rattle.object_cells.specs.Made.{store_content, is_wide_held}
use Rattle.object_cells.proofs.HeldNeeds.{wide_is}
use Rattle.ephemeron_table.specs.WeakObjects.{IsKeyAt, IsWeakAt}
use Rattle.weak_pairs.specs.Pairs.{IsFilledAt}
use Rattle.ephemeron_table.specs.Probes.{IsTableAt}
use Rattle.weak_pairs.specs.Tables.{ArePairsIn, key_in, value_in, value_offset, pairs_of}
use Rattle.weak_pairs.specs.declared.table.Table.{Table}
use Rattle.object_cells.proofs.FilledSlots.{held_put}
use Rattle.ephemeron_table.specs.EntryChanges.{map_room}
use Rattle.ephemeron_table.proofs.KeysFound.{WeakShown, weak_shown, shown_pairs, shown_sound, key_filled, one_key}
use Rattle.ephemeron_table.proofs.KeysFound.{TellsPair, key_told}
use Rattle.ephemeron_table.proofs.KnownTables.{shown_known, KnownMap, count_is, within_words}
use Rattle.weak_pairs.proofs.CountedPairs.{count_freed}
use Rattle.weak_pairs.proofs.PairLists.{pairs_are}

-- The map is shown, and its entry of the key stands at the place.
pub record HasEntryPair (old : Mutator) (graph : Graph) (map key : ℕ) (weak : WeakObject) (number place : ℕ)
    (table : Table) : Type 0 where
  pub shows : MainShows old graph
  pub is : IsWeakAt old graph map weak
  pub is_key : IsKeyAt old graph key number
  pub sizes : AreWithin old.seat.space.sizes old.seat.space.variables
  pub is_table : IsTableAt (heap_of old) map table
  pub below : place < table.capacity
  pub told : TellsPair old (weak_shown shows is).shows.pairs table place key weak.entries number

-- the entry of the key stands at the place where its word was read
abbrev pub entry_pair : {old : Mutator} {graph : Graph} {map key : ℕ} {weak : WeakObject} {number : ℕ} (table : Table)
    (place : ℕ) → MainShows old graph → IsWeakAt old graph map weak → IsKeyAt old graph key number
    → AreWithin old.seat.space.sizes old.seat.space.variables → IsTableAt (heap_of old) map table
    → place < table.capacity
    → key_in (heap_of old) table.at place ≡ reference_word key → HasEntryPair old graph map key weak number place table
entry_pair table place shows is is_key sizes is_table below read = record {
  shows = shows;
  is = is;
  is_key = is_key;
  sizes = sizes;
  is_table = is_table;
  below = below;
  told = key_told table place (weak_shown shows is) is_key is_table below read;
}

module _ {old : Mutator} {graph : Graph} {map key : ℕ} {weak : WeakObject} {number place : ℕ} {table : Table}
    (has : HasEntryPair old graph map key weak number place table) where
  abbrev pub shown : WeakShown old graph map weak
  shown = weak_shown has.shows has.is

  -- the map and its table
  abbrev pub known : KnownMap old map table
  known = shown_known has.shows has.is has.sizes has.is_table

  pub some : 0 < table.capacity
  some = omega (arith, has.below)

  -- the words of its pairs stand in the table
  abbrev stand : ArePairsIn (heap_words old.seat) table shown.shows.pairs
  stand = has.is_table.pairs shown.shows.pairs (shown_pairs shown)

  -- the pairs that are shown are those that are read
  pairs_same : pairs_of (heap_words old.seat) table ≡ shown.shows.pairs
  pairs_same = pairs_are (heap_words old.seat) table shown.shows.pairs (within_words known) stand

  -- the pair of the entry
  pub entry_filled : IsFilledAt (pairs_of (heap_words old.seat) table) place has.told.pair
  entry_filled = record {
    stands = ap (λ all. slice_get all place) pairs_same ∙ has.told.there;
    filled = key_filled has.told.pair key has.told.key_is;
  }

  -- so some pair is counted
  pub entry_counted : 0 < count_at (heap_of old) map
  entry_counted =
      let all : List Pair = pairs_of (heap_words old.seat) table in
      omega (arith, count_is known, count_freed all place has.told.pair entry_filled.stands entry_filled.filled)

  pub entry_refers : RefersToPlace (heap_of old) has.told.pair.key number
  entry_refers = record { at = key; refers = has.told.key_is; place = has.is_key.place }

  -- another pair that has the key is this one
  shown_only : (at : ℕ) (pair : Pair) → slice_get shown.shows.pairs at ≡ Some pair
      → RefersToPlace (heap_of old) pair.key number → at ≡ place
  shown_only at pair there refers =
      one_key has.told.value at place pair has.told.pair shown has.is_key has.told.is_entry there has.told.there refers
      entry_refers

  pub entry_only : (at : ℕ) (pair : Pair) → IsFilledAt (pairs_of (heap_words old.seat) table) at pair
      → RefersToPlace (heap_of old) pair.key number → at ≡ place
  entry_only at pair filled refers =
      shown_only at pair (ap (λ all. slice_get all at) (sym pairs_same) ∙ filled.stands) refers

  -- its words
  pub key_stands : slice_get (heap_words old.seat) (table.at + (2 + 2 * place)) ≡ Some (reference_word key)
  key_stands = stand.keys place has.told.pair has.told.there ∙ ap (λ n. Some n) has.told.key_is

  pub value_read : value_in (heap_of old) table.at place ≡ has.told.pair.value
  value_read = ap (λ found. unwrap_or found 0) has.told.stands

  -- its value is the word of a slot
  pub value_slot : IsSlotWord (heap_of old) has.told.pair.value
  value_slot =
      value_is_slot has.told.pair.value (shown_sound has.shows.shows.whole shown place has.told.pair has.told.there
      entry_filled.filled).filled.value

  -- so many words another value takes there
  pub entry_need : (value : Held) (what : Value) → ShowsHeld (heap_of old) value (Some what)
      → filling_need (filling_of (box_in (heap_of old) (word_at (heap_of old) (table.at + value_offset place)))
      (next_at old) (store_content value)) ≡ wput_need (map_room old map weak) weak what number
  entry_need value what shows =
      let heap = heap_of old in
      let boxed = value_boxed has.told.pair.value has.told.value has.sizes has.shows.shows.whole.sized has.told.shows in
      held_put heap (value_in heap table.at place) (next_at old) value
      ∙ ap (λ w. box_need (is_wide_held value && not (is_box_word heap w))) value_read
      ∙ ap (λ box. box_need (is_wide_held value && not box)) boxed
      ∙ ap (λ wide. box_need (wide && not (is_wide has.told.value))) (wide_is value what shows)
      ∙ ap (wput_need_by (map_room old map weak) what) (sym has.told.is_entry)
