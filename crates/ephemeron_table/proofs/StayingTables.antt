-- What stays where words of a weak map's own cells have changed, and what the map has where its table stays.
use Rattle.std.proofs.Common.{◌≡◌, ◌⊎◌, ℕ, ◌+◌, ◌<◌, List, ◌∷◌, ◌++◌, length, drop, Contains, Some, slice_get, sym, ◌∙◌}
use Rattle.std.proofs.Common.{ap, subst, arith}
use Rattle.std.specs.Prelude.{option_map}
use Rattle.std.proofs.lemmas.List.Elements.{Contains-append_left, Contains-append_right}
use Rattle.std.proofs.lemmas.Option.{same_Some, slice_get-map}
use Rattle.tagged_word.specs.declared.layout.Kind.TheVariants as kind
use Rattle.tagged_word.specs.Cells.{store_head, store_slot}
use Rattle.tagged_word.proofs.Members.{first_in, rest_in}
use Rattle.heap_model.specs.Types.{Cell}
use Rattle.linear_probing.specs.Tables.{FindsAll}
use Rattle.linear_probing.specs.Tables as probing
use Rattle.write_barrier.specs.Seats.{heap_words}
use Rattle.heap_model.specs.Heaps.{HasCell, words_of_cell}
use Rattle.heap_model.specs.Slots.{reference_word, RefersToPlace}
use Rattle.heap_model.specs.Kinds.{HasWord, Pair, pairs_in, HasTable, IsProbed}
use Rattle.heap_model.specs.Changes.{CellsChange}
use Rattle.heap_model.specs.Wholeness.{NamesFrom}
use Rattle.heap_model.proofs.WordsStay.{PlacesStay}
use Rattle.write_barrier.specs.MutatorState.{Mutator, heap_of}
use Rattle.object_cells.proofs.CellsRead.{word_stands}
use Rattle.object_cells.proofs.OwnCapacities.{none_made}
use Rattle.object_cells.proofs.ObjectWrites.{same_count}
use Rattle.object_cells.proofs.OwnerWrites.{weak_owns, written_own_keeps_cells}
use Rattle.object_cells.proofs.SlotsNow.{word_at_offset}
use Rattle.object_cells.proofs.OwnSteps.{own_writing, written_places_stay}
use Rattle.weak_pairs.specs.Pairs.{HasPairs, IsFilledAt}
use Rattle.ephemeron_table.specs.PairWrites.{WritesWeak}
use Rattle.weak_pairs.specs.Tables.{numbers, key_number, pairs_of}
use Rattle.weak_pairs.specs.declared.table.Table.{Table}
use Rattle.ephemeron_table.proofs.KnownTables.{KnownMap, cell, cell_has, sound, within_words, slot_there, of_map}
use Rattle.ephemeron_table.proofs.KnownTables.{number_found, probed_pair, found, other, other_long}
use Rattle.weak_pairs.proofs.PairLists.{pairs_are}
use Rattle.ephemeron_table.proofs.TablesRead.{found_table, pairs_stand}

-- Words of the map's cell, of these others, and of the run in which cells were made have changed.
pub record WritesMap (old new : Mutator) (map : ℕ) (table : Table) (known : KnownMap old map table)
    (others made : List Cell)
    : Type 0 where
  pub writes : WritesWeak (heap_of old) (heap_of new) (cell known) others made
  pub belong : (one : Cell) → Contains others one → (slot : ℕ) × NamesFrom (heap_of old) (cell known) slot one.at
  pub kinds : (one : Cell) → Contains made one → (one.layout.kind ≡ kind.Table) ⊎ (one.layout.kind ≡ kind.Boxed)

-- And its table is one of the others, and the word by which it refers to the table stays.
pub record StaysTable (old new : Mutator) (map : ℕ) (table : Table) (known : KnownMap old map table)
    (some : 0 < table.capacity) (others made : List Cell)
    : Type 0 where
  pub written : WritesMap old new map table known others made
  pub among : Contains others (other known some)
  pub slot : slice_get (heap_words new.seat) ((cell known).at + store_slot)
      ≡ slice_get (heap_words old.seat) ((cell known).at + store_slot)

module _ {old new : Mutator} {map : ℕ} {table : Table} {others made : List Cell} (known : KnownMap old map table)
    (written : WritesMap old new map table known others made) where
  -- the map's cell
  abbrev map_cell : Cell
  map_cell = cell known

  -- cells stand in the new heap
  pub cells : CellsChange (heap_of old) (heap_of new) (map_cell ∷ others) (map_cell ∷ others) made
  cells = (written_own_keeps_cells weak_owns known.whole written.writes).1

  -- the map's
  pub map_has : HasCell (heap_of new) map_cell (words_of_cell (heap_of new) map_cell)
  map_has = cells.comes map_cell (first_in map_cell (others ++ made))

  -- and those that were made
  pub made_has : (one : Cell) → Contains made one → HasCell (heap_of new) one (words_of_cell (heap_of new) one)
  made_has one among =
      cells.comes one (rest_in map_cell (others ++ made) one (Contains-append_right others made one among))

  -- objects keep their places
  pub places : PlacesStay (heap_of old) (heap_of new)
  places = written_places_stay weak_owns known.whole written.writes

  -- what refers to an object did so before
  pub refers_back : (word number : ℕ) → RefersToPlace (heap_of new) word number
      → RefersToPlace (heap_of old) word number
  refers_back word number refers =
      let own = own_writing weak_owns known.whole written.writes written.belong written.kinds in
      record { at = refers.at; refers = refers.refers; place = none_made own number refers.at refers.place }

  -- where probing finds all numbers, it finds each pair that holds something
  pub probed : (pairs : List Pair) → FindsAll (numbers (heap_of old) pairs) → (at number : ℕ) (pair : Pair)
      → IsFilledAt pairs at pair → RefersToPlace (heap_of new) pair.key number → IsProbed pairs number at
  probed pairs all at number pair is refers =
      let number_is = number_found known pair number (refers_back pair.key number refers) in
      let holds : probing.HoldsNumber (numbers (heap_of old) pairs) at number =
      slice_get-map (key_number (heap_of old)) pairs at ∙ ap (option_map (key_number (heap_of old))) is.stands
      ∙ ap (λ item. Some item) number_is in
      probed_pair known pairs number at (all at number holds)

module _ {old new : Mutator} {map : ℕ} {table : Table} {others made : List Cell} (known : KnownMap old map table)
    (some : 0 < table.capacity) (stays : StaysTable old new map table known some others made) where
  -- the cell of the table
  abbrev table_cell : Cell
  table_cell = other known some

  -- the pairs that it has
  abbrev after : List Pair
  after = pairs_of (heap_words new.seat) table

  -- it stands in the new heap
  table_has : HasCell (heap_of new) table_cell (words_of_cell (heap_of new) table_cell)
  table_has =
      (cells known stays.written).comes table_cell (rest_in (cell known) (others ++ made) table_cell
      (Contains-append_left others made table_cell stays.among))

  -- the map refers to it
  pub slot_now : HasWord (words_of_cell (heap_of new) (cell known)) store_slot (sound known).store
  slot_now =
      let size = of_map known 1 (omega arith) in
      word_at_offset store_slot (map_has known stays.written) (omega (arith, size.below, known.there.stands))
      ∙ stays.slot ∙ word_stands store_slot (sound known).store (cell_has known) (slot_there known)

  -- there are as many words as before
  as_long : length (heap_words new.seat) ≡ length (heap_words old.seat)
  as_long = same_count known.whole.sized stays.written.writes.sized stays.written.writes.same_space

  -- the table has the pairs that are read
  pub table_now : HasTable (heap_of new) (sound known).store after
  table_now =
      let one = found known some in
      let words = words_of_cell (heap_of new) table_cell in
      let pairs = pairs_in (drop store_head words) in
      let has : HasTable (heap_of new) (sound known).store pairs =
      HasTable.table (sound known).store table_cell words
      (record { refers = one.refers.refers; has = table_has }) one.of_kind one.power in
      let now = found_table (sound known).store pairs table.at has (one.refers.refers ∙ ap reference_word one.stands) in
      let length_now : now.cell.length ≡ table.capacity =
      same_Some now.cell.length table.capacity (sym now.counted
      ∙ ap (λ n. slice_get (heap_words new.seat) (n + 1)) (sym one.stands)
      ∙ (stays.written.writes.beside table_cell stays.among).length one.of_kind
      ∙ ap (λ n. slice_get (heap_words old.seat) (n + 1)) one.stands ∙ one.counted
      ∙ ap (λ n. Some n) (other_long known some)) in
      let same : after ≡ pairs =
      pairs_are (heap_words new.seat) table pairs (omega (arith, within_words known, as_long))
      (pairs_stand (sound known).store pairs table.at table.capacity now length_now) in
      subst (HasTable (heap_of new) (sound known).store) (sym same) has

  -- so they are the map's
  abbrev pub are_after : HasPairs (heap_of new) (words_of_cell (heap_of new) (cell known)) after
  are_after = record { store = (sound known).store; slot = slot_now; table = table_now }
