-- What is known of a weak map and its table before words of them change.
use Rattle.std.specs.Prelude.{option_map}
use Rattle.std.proofs.Common.{◌≡◌, ◌≢◌, ℕ, ◌+◌, ◌*◌, ◌≤◌, ◌<◌, inl, inr, List, length, drop, Some, None, slice_get}
use Rattle.std.proofs.Common.{sym, ◌∙◌, ap, subst, arith, length-drop}
use Rattle.std.proofs.lemmas.Bool.{false≢true, cases_lt}
use Rattle.std.proofs.lemmas.Option.{same_Some, none-some, slice_get-map}
use Rattle.tagged_word.specs.declared.layout.Kind.TheVariants as kind
use Rattle.tagged_word.specs.Cells.{store_head, store_slot, is_object_kind}
use Rattle.tagged_word.proofs.Readings.{reference_to, reference_from}
use Rattle.page_space.specs.Sizes.{AreWithin}
use Rattle.linear_probing.specs.Tables.{FindsAll}
use Rattle.linear_probing.specs.Tables as probing
use Rattle.linear_probing.proofs.Findings.{still_probed}
use Rattle.nursery.specs.Young.{HasRoom}
use Rattle.object_graph.specs.Graphs.{Graph, WeakObject}
use Rattle.write_barrier.specs.Seats.{heap_words}
use Rattle.heap_model.specs.Types.{Kind, Cell}
use Rattle.heap_model.specs.Heaps.{HasCell, words_of_cell}
use Rattle.heap_model.specs.Slots.{RefersToPlace, IsWeakCellAt}
use Rattle.heap_model.specs.Kinds.{HasWord, Pair, free_pair, HasTable, IsWeakCell, IsFoundPair, IsProbed, HasNoNumber}
use Rattle.heap_model.specs.Kinds.{IsSoundOf, count_offset}
use Rattle.heap_model.specs.Wholeness.{Whole, IsOwnedKind}
use Rattle.heap_model.specs.Needs.{count_at}
use Rattle.heap_model.proofs.CellOutcomes.{object_is_no_filler, owned_is_no_filler}
use Rattle.heap_model.proofs.CellsApart.{IsOfCell, first_of_cell, cells_apart}
use Rattle.heap_model.proofs.CellWords.{words_by_kind, words_are_size}
use Rattle.heap_model.proofs.WordClasses.{same_reference}
use Rattle.write_barrier.specs.MutatorState.{Mutator, heap_of, IsTied, MainShows, reserved}
use Rattle.object_cells.specs.CellWrites.{IsInCell}
use Rattle.object_cells.specs.Contents.{next_at}
use Rattle.object_cells.specs.Made.{PutsWords, content_need, with_content}
use Rattle.object_cells.specs.declared.content.SlotContent.{SlotContent}
use Rattle.object_cells.proofs.CellsRead.{cell_at_before_marks}
use Rattle.object_cells.proofs.OwnPlaces.{has_own_words}
use Rattle.object_cells.proofs.TakenValues.{IsItsStore}
use Rattle.object_cells.proofs.OwnContents.{PutsBeside}
use Rattle.object_cells.proofs.OwnerWrites.{weak_owns}
use Rattle.object_cells.proofs.WordsTold.{cell_fits}
use Rattle.weak_pairs.specs.Pairs.{HasPairs, HasPairsAt}
use Rattle.weak_pairs.specs.Tables.{number_at, KeysOutsidePairs, IsKeyOutside, IsOutsidePairs, numbers, key_number}
use Rattle.weak_pairs.specs.Tables.{pairs_of}
use Rattle.weak_pairs.specs.declared.table.Table.{Table}
use Rattle.weak_pairs.proofs.KeyedPairs.{free_or_filled}
use Rattle.weak_pairs.proofs.PairNumbers.{keyed_filled, length-numbers, number_place}
use Rattle.weak_pairs.proofs.CountedPairs.{count_filled}
use Rattle.heap_model.proofs.PairLists.{length-pairs_in}
use Rattle.weak_pairs.proofs.PairLists.{pairs_are}
use Rattle.ephemeron_table.specs.WeakObjects.{IsWeakAt}
use Rattle.ephemeron_table.specs.Probes.{IsTableAt}
use Rattle.ephemeron_table.proofs.KeysFound.{number_is, weak_shown, shown_there}
use Rattle.ephemeron_table.proofs.TablesRead.{IsFoundTable, found_table, pair_found, pairs_counted, weak_sound}
use Rattle.ephemeron_table.proofs.TablesRead.{weak_pairs}

-- The table that was read is that of the weak map at the address.
pub record KnownMap (old : Mutator) (map : ℕ) (table : Table) : Type 0 where
  pub tied : IsTied old
  pub whole : Whole (heap_of old)
  pub sizes : AreWithin old.seat.space.sizes old.seat.space.variables
  pub there : IsWeakCellAt (heap_of old) map
  pub is : IsTableAt (heap_of old) map table

-- a table is no box
pub table_is_no_box : {k : Kind} → k ≡ kind.Table → k ≡ kind.Boxed → ⊥
table_is_no_box table box =
    let apart : kind.Table ≡ kind.Boxed = sym table ∙ box in
    cc

-- a map that is shown is known with its table
abbrev pub shown_known : {main : Mutator} {graph : Graph} {map : ℕ} {weak : WeakObject} {table : Table}
    → MainShows main graph → IsWeakAt main graph map weak → AreWithin main.seat.space.sizes main.seat.space.variables
    → IsTableAt (heap_of main) map table → KnownMap main map table
shown_known shows is sizes is_table = record {
  tied = shows.tied;
  whole = shows.shows.whole;
  sizes = sizes;
  there = shown_there (weak_shown shows is);
  is = is_table;
}

module _ {old : Mutator} {map : ℕ} {table : Table} (known : KnownMap old map table) where
  -- the map's cell
  abbrev pub cell : Cell
  cell = known.there.cell

  pub cell_has : HasCell (heap_of old) cell (words_of_cell (heap_of old) cell)
  cell_has = has_own_words known.there.has

  -- which is no filler
  pub map_no_filler : cell.layout.kind ≢ kind.Filler
  map_no_filler = object_is_no_filler cell.layout.kind (ap is_object_kind known.there.of_kind)

  abbrev pub sound : IsWeakCell (heap_of old) known.there.words
  sound = weak_sound known.whole known.there

  -- its pairs are those that are read
  pub within_words : table.at + (store_head + 2 * table.capacity) ≤ length (heap_words old.seat)
  within_words = omega (arith, known.is.within, known.whole.sized.words)

  pub pairs_same : pairs_of (heap_words old.seat) table ≡ sound.pairs
  pairs_same =
      pairs_are (heap_words old.seat) table sound.pairs within_words
      (known.is.pairs sound.pairs (weak_pairs known.there sound))

  pub pairs_long : length (pairs_of (heap_words old.seat) table) ≡ table.capacity
  pairs_long = ap length pairs_same ∙ (known.is.pairs sound.pairs (weak_pairs known.there sound)).long

  pub has_table : HasTable (heap_of old) sound.store (pairs_of (heap_words old.seat) table)
  has_table = subst (HasTable (heap_of old) sound.store) (sym pairs_same) sound.table

  pub slot_there : HasWord (words_of_cell (heap_of old) cell) store_slot sound.store
  slot_there = subst (λ all. HasWord all store_slot sound.store) (sym known.there.has.words_are) sound.slot

  -- so they are the map's
  abbrev pub are_before : HasPairs (heap_of old) (words_of_cell (heap_of old) cell)
      (pairs_of (heap_words old.seat) table)
  are_before = record { store = sound.store; slot = slot_there; table = has_table }

  -- each that holds something is found
  pub each_found : (at : ℕ) (pair : Pair) → slice_get (pairs_of (heap_words old.seat) table) at ≡ Some pair
      → pair ≢ free_pair → IsFoundPair (heap_of old) (pairs_of (heap_words old.seat) table) at pair
  each_found at pair there filled =
      let are = subst (HasPairsAt (heap_of old) map) (sym pairs_same) (weak_pairs known.there sound) in
      pair_found at pair known.whole are (record { stands = there; filled = filled })

  -- so many are counted
  pub count_is : count_at (heap_of old) map ≡ count_filled (pairs_of (heap_words old.seat) table)
  count_is = pairs_counted known.whole (weak_pairs known.there sound) ∙ ap count_filled (sym pairs_same)

  -- it has three words
  pub map_size : cell.size ≡ 3
  map_size = sym (words_are_size known.there.has) ∙ words_by_kind kind.Weak known.there.has known.there.of_kind

  -- which are these
  pub of_map : (k : ℕ) → k < 3 → IsOfCell cell (map + k)
  of_map k below = record {
    from = omega (arith, known.there.stands);
    below = omega (arith, known.there.stands, below, map_size);
  }

  -- the number of a pair that holds something
  pub number_found : (pair : Pair) (number : ℕ) → RefersToPlace (heap_of old) pair.key number
      → key_number (heap_of old) pair ≡ Some number
  number_found pair number refers =
      let fits : refers.at < 4294967296 =
      subst (λ n. n < 4294967296) refers.place.stands (cell_fits known.whole.sized known.sizes refers.place.has) in
      ap (option_map (number_at (heap_of old))) (reference_to pair.key refers.at fits refers.refers)
      ∙ ap Some (number_is refers.place)

  -- where probing comes to a pair, it comes to its number
  probed_number : (number at : ℕ) → IsProbed (pairs_of (heap_words old.seat) table) number at
      → probing.IsProbed None (numbers (heap_of old) (pairs_of (heap_words old.seat) table)) number at
  probed_number number at probed =
      let pairs = pairs_of (heap_words old.seat) table in
      still_probed pairs (numbers (heap_of old) pairs) number at (length-numbers (heap_of old) pairs) (λ place none.
      let here = number_place (heap_of old) pairs place None none in
      elim (free_or_filled here.0) [
        | inl free ↦ here.1 ∙ ap (λ p. Some p) free
        | inr filled ↦
            let found = each_found place here.0 here.1 filled in
            absurd (none-some found.number (sym here.2 ∙ number_found here.0 found.number found.filled.key))
      ]) probed

  -- a pair with a number holds something
  pub numbered_filled : (pair : Pair) (number : ℕ) → key_number (heap_of old) pair ≡ Some number → pair ≢ free_pair
  numbered_filled pair number is free = none-some number (ap (key_number (heap_of old)) (sym free) ∙ is)

  -- so probing finds all
  pub finds_all : FindsAll (numbers (heap_of old) (pairs_of (heap_words old.seat) table))
  finds_all at number holds =
      let pairs = pairs_of (heap_words old.seat) table in
      let here = number_place (heap_of old) pairs at (Some number) holds in
      let found = each_found at here.0 here.1 (numbered_filled here.0 number here.2) in
      let same : found.number ≡ number =
      same_Some found.number number (sym (number_found here.0 found.number found.filled.key) ∙ here.2) in
      subst (λ n. probing.IsProbed None (numbers (heap_of old) pairs) n at) same
      (probed_number found.number at found.probed)

  -- where probing comes to the number of a pair, it comes to the pair
  pub probed_pair : (pairs : List Pair) (number at : ℕ)
      → probing.IsProbed None (numbers (heap_of old) pairs) number at → IsProbed pairs number at
  probed_pair pairs number at probed =
      still_probed (numbers (heap_of old) pairs) pairs number at (sym (length-numbers (heap_of old) pairs))
      (λ place free. slice_get-map (key_number (heap_of old)) pairs place
      ∙ ap (option_map (key_number (heap_of old))) free)
      probed

  module _ (some : 0 < table.capacity) where
    -- the table's cell
    pub found : IsFoundTable (heap_of old) sound.store (pairs_of (heap_words old.seat) table) table.at
    found =
        found_table sound.store (pairs_of (heap_words old.seat) table) table.at has_table
        (known.is.refers sound.pairs (weak_pairs known.there sound) some)

    abbrev pub other : Cell
    other = found.cell

    pub other_has : HasCell (heap_of old) other (words_of_cell (heap_of old) other)
    other_has = has_own_words found.refers.has

    -- it is no filler
    pub table_no_filler : other.layout.kind ≢ kind.Filler
    table_no_filler = owned_is_no_filler other.layout.kind (subst IsOwnedKind (sym found.of_kind) tt)

    pub other_long : other.length ≡ table.capacity
    other_long =
        omega (
          arith,
          pairs_long,
          ap length found.are,
          length-pairs_in (drop store_head found.words),
          length-drop store_head found.words,
          found.long,
        )

    -- what is not behind its head is beside its pairs
    pub beside_slots : (a : ℕ) → (other.at + store_head ≤ a → a < other.at + other.size → ⊥) → IsOutsidePairs table a
    beside_slots a not_in = elim (cases_lt a (table.at + store_head)) [
      | inl low ↦ inl low
      | inr from ↦ elim (cases_lt a (table.at + (store_head + 2 * table.capacity))) [
        | inl below ↦ absurd (not_in (omega (arith, from, found.stands))
            (omega (arith, below, found.stands, found.size, other_long)))
        | inr high ↦ inr high
      ]
    ]

    -- so is what is not in it
    pub beside_table : (a : ℕ) → (IsInCell a other → ⊥) → IsOutsidePairs table a
    beside_table a not_in =
        beside_slots a (λ from below. not_in (record { from = omega (arith, from); below = below }))

    -- and so is what is in no table
    pub cell_beside : {one : Cell} {words : List ℕ} (a : ℕ) → HasCell (heap_of old) one words
        → (one.layout.kind ≡ kind.Table → ⊥) → IsOfCell one a → IsOutsidePairs table a
    cell_beside {one} a has no_table of_one = beside_table a (λ inside.
        let same : one ≡ other = cells_apart a known.whole.rows has other_has of_one
        (record { from = inside.from; below = inside.below }) in
        no_table (ap (λ (c : Cell). c.layout.kind) same ∙ found.of_kind))

    -- a weak map is no table
    pub map_no_table : cell.layout.kind ≡ kind.Table → ⊥
    map_no_table is =
        let apart : kind.Weak ≡ kind.Table = sym known.there.of_kind ∙ is in
        cc

    -- so the words of the map's cell are beside the pairs
    pub map_beside : (k : ℕ) → k < 3 → IsOutsidePairs table (map + k)
    map_beside k below = cell_beside (map + k) cell_has map_no_table (of_map k below)

    -- and so are keys
    pub keys_beside : KeysOutsidePairs (heap_of old) table
    keys_beside place at pair there refers =
        let key = (each_found place pair there (keyed_filled pair at refers)).filled.key in
        let same : key.at ≡ at =
        same_reference key.at at (sym key.refers ∙ (reference_from pair.key at refers).1) in
        let stands = key.place.stands ∙ same in
        subst (IsKeyOutside (heap_of old) table) stands (record {
          within = cell_at_before_marks known.whole.sized key.place.has;
          beside = cell_beside key.place.cell.at key.place.has
              (λ is. false≢true (sym (ap is_object_kind is) ∙ key.place.object)) (first_of_cell key.place.has);
        })

    -- the table has no number
    pub other_number : HasNoNumber other
    other_number =
        (subst (λ k. IsSoundOf k (heap_of old) other found.words) found.of_kind
        (known.whole.sound other found.words found.refers.has)).no_number

    -- so it is the map's
    pub known_store : IsItsStore kind.Table sound.store other
    known_store = record { of_kind = found.of_kind; no_number = other_number; refers = found.refers.refers }

    -- Words of the map's cell and of its table were put.
    pub puts_beside : {new : Mutator} {holds : SlotContent} {words : List ℕ} → HasRoom old.young (content_need holds)
        → PutsWords (reserved old (content_need holds)) new words → length words ≡ length (heap_words old.seat)
        → ((a : ℕ) → IsOutsidePairs table a → a ≢ map + count_offset
        → slice_get words a ≡ slice_get (with_content (heap_words old.seat) holds (next_at old)) a)
        → PutsBeside kind.Weak kind.Table old new cell other sound.store holds words
    puts_beside room puts long beside = record {
      owns = weak_owns;
      tied = known.tied;
      whole = known.whole;
      has = cell_has;
      of_kind = known.there.of_kind;
      counts = map_size;
      other_has = other_has;
      other_long = omega (arith, found.size);
      is = known_store;
      slot = slot_there;
      room = room;
      puts = puts;
      long = long;
      beside = λ a not_count not_slot. beside a (beside_slots a not_slot)
          (λ same. not_count (omega (arith, same, known.there.stands)));
    }
