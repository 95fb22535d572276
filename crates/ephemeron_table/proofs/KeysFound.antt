-- Which pairs of a weak map that is shown are those of its entries, by their keys.
use Rattle.std.proofs.Common.{◌≡◌, ◌≢◌, ℕ, ◌+◌, ◌<◌, inl, inr, List, [], get_or, Option, Some, None, slice_get}
use Rattle.std.proofs.Common.{unwrap_or, refl, sym, ◌∙◌, ap, subst, arith}
use Rattle.std.specs.Prelude.{option_map, IsFalse}
use Rattle.std.specs.Option.{option_and_then}
use Rattle.std.proofs.lemmas.Bool.{false≢true}
use Rattle.std.proofs.lemmas.Option.{same_Some, slice_get-get_or}
use Rattle.heap_model.specs.Types.{Header, Value, Object, Entry, Cell}
use Rattle.tagged_word.specs.Headers.{header_bits}
use Rattle.tagged_word.specs.Readings.{header_in}
use Rattle.tagged_word.proofs.Readings.{header_to}
use Rattle.object_graph.specs.declared.object.Object.TheVariants.{Weak}
use Rattle.object_graph.specs.Objects.{entry_value}
use Rattle.object_graph.specs.Graphs.{Graph, WeakObject}
use Rattle.object_graph.specs.Reach.{is_marked, reach}
use Rattle.heap_model.specs.Heaps.{Heap, HasCell, words_of_cell}
use Rattle.heap_model.specs.Slots.{reference_word, IsPlace, RefersToPlace, IsWeakCellAt}
use Rattle.heap_model.specs.Kinds.{Pair, free_pair, HasTable, IsFoundPair, IsProbed}
use Rattle.heap_model.specs.Wholeness.{Whole}
use Rattle.heap_model.specs.Showing.{ShowsWeak, ShowsValue, IsKnownKey}
use Rattle.heap_model.proofs.CellsApart.{has_is_cell}
use Rattle.heap_model.proofs.NewKeys.{one_number, one_table}
use Rattle.heap_model.proofs.WordClasses.{hole_refers_not}
use Rattle.write_barrier.specs.MutatorState.{Mutator, heap_of, MainShows}
use Rattle.ephemeron_table.specs.WeakObjects.{IsKeyAt, IsWeakAt}
use Rattle.weak_pairs.specs.Pairs.{HasPairsAt}
use Rattle.ephemeron_table.specs.Probes.{IsTableAt}
use Rattle.weak_pairs.specs.Tables.{number_at, key_in, value_offset}
use Rattle.weak_pairs.specs.declared.table.Table.{Table}
use Rattle.ephemeron_table.proofs.TablesRead.{weak_sound}
use Rattle.weak_pairs.proofs.EntriesFound.{entry_found, entry_apart}

-- the header at the place of an object has its number
pub number_is : {heap : Heap} {number at : ℕ} → IsPlace heap number at → number_at heap at ≡ number
number_is {heap} {number} {at} place =
    let cell : Cell = place.cell in
    let reads = (has_is_cell place.has).reads in
    let first : slice_get heap.words at ≡ Some (header_bits cell.header) =
    ap (slice_get heap.words) (sym place.stands) ∙ reads.first in
    let object : Option Header → ℕ = λ found. unwrap_or (option_map (λ header. header.object) found) 0 in
    ap (λ (found : Option ℕ). object (option_and_then header_in found)) first
    ∙ ap object (header_to (header_bits cell.header) cell.header reads.is_header refl) ∙ place.carries

-- the weak map's cell stands at the address and shows it
pub record WeakShown (main : Mutator) (graph : Graph) (at : ℕ) (weak : WeakObject) : Type 0 where
  pub cell : Cell
  pub has : HasCell (heap_of main) cell (words_of_cell (heap_of main) cell)
  pub stands : cell.at ≡ at
  pub carries : cell.header.object ≡ weak.number
  pub shows : ShowsWeak (heap_of main) (reach graph) cell (words_of_cell (heap_of main) cell) weak.entries

-- so it is where a graph with the weak map is shown
pub weak_shown : {main : Mutator} {graph : Graph} {at : ℕ} {weak : WeakObject} → MainShows main graph
    → IsWeakAt main graph at weak → WeakShown main graph at weak
weak_shown {main} {graph} {at} {weak} shows is =
    let heap = heap_of main in
    let shown = shows.shows.reached weak.number (Weak weak.entries) is.object is.reached in
    let same = sym shown.has.words_are in
    record {
      cell = shown.cell;
      has = subst (HasCell heap shown.cell) same shown.has;
      stands = sym (shown.once at is.place);
      carries = shown.carries;
      shows = subst (λ words. ShowsWeak heap (reach graph) shown.cell words weak.entries) same shown.shows;
    }

-- its cell is there
abbrev pub shown_there : {main : Mutator} {graph : Graph} {at : ℕ} {weak : WeakObject} → WeakShown main graph at weak
    → IsWeakCellAt (heap_of main) at
shown_there {main} shown = record {
  cell = shown.cell;
  words = words_of_cell (heap_of main) shown.cell;
  has = shown.has;
  stands = shown.stands;
  of_kind = shown.shows.of_kind;
}

-- and its pairs
abbrev pub shown_pairs : {main : Mutator} {graph : Graph} {at : ℕ} {weak : WeakObject}
    → (shown : WeakShown main graph at weak) → HasPairsAt (heap_of main) at shown.shows.pairs
shown_pairs {main} shown = record {
  cell = shown.cell;
  words = words_of_cell (heap_of main) shown.cell;
  has = shown.has;
  stands = shown.stands;
  of_kind = shown.shows.of_kind;
  are = record { store = shown.shows.store; slot = shown.shows.slot; table = shown.shows.table };
}

-- each pair holds nothing, or is found
pub shown_sound : {main : Mutator} {graph : Graph} {at : ℕ} {weak : WeakObject} → Whole (heap_of main)
    → (shown : WeakShown main graph at weak) → (place : ℕ) (pair : Pair)
    → slice_get shown.shows.pairs place ≡ Some pair → pair ≢ free_pair
    → IsFoundPair (heap_of main) shown.shows.pairs place pair
shown_sound {main} whole shown place pair there filled =
    let heap = heap_of main in
    let sound = weak_sound whole (shown_there shown) in
    let store : sound.store ≡ shown.shows.store = same_Some _ _ (sym sound.slot ∙ shown.shows.slot) in
    let same : sound.pairs ≡ shown.shows.pairs =
    one_table heap shown.shows.store sound.pairs shown.shows.pairs
    (subst (λ word. HasTable heap word sound.pairs) store sound.table) shown.shows.table in
    elim (sound.each place pair (ap (λ all. slice_get all place) same ∙ there)) [
      | inl free ↦ absurd (filled free)
      | inr found ↦ subst (λ all. IsFoundPair heap all place pair) same found
    ]

-- a pair with a key is not free
pub key_filled : (pair : Pair) (key : ℕ) → pair.key ≡ reference_word key → pair ≢ free_pair
key_filled pair key is free = hole_refers_not key (sym (ap (λ (one : Pair). one.key) free) ∙ is)

-- what probing tells of a pair that has the key: it shows the entry of it
pub record TellsPair (main : Mutator) (pairs : List Pair) (table : Table) (place key : ℕ) (entries : List Entry)
    (number : ℕ) : Type 0 where
  pub pair : Pair
  pub there : slice_get pairs place ≡ Some pair
  pub key_is : pair.key ≡ reference_word key
  pub value : Value
  pub is_entry : entry_value entries number ≡ Some value
  pub shows : ShowsValue (heap_of main) pair.value value
  pub stands : slice_get (heap_of main).words (table.at + value_offset place) ≡ Some pair.value

-- the pair of an entry is the one at the place
pub one_pair : {main : Mutator} {graph : Graph} {map key : ℕ} {weak : WeakObject} {number : ℕ} (place : ℕ) (pair : Pair)
    (value : Value) → (shown : WeakShown main graph map weak) → IsKeyAt main graph key number
    → slice_get shown.shows.pairs place ≡ Some pair → RefersToPlace (heap_of main) pair.key number
    → entry_value weak.entries number ≡ Some value → ShowsValue (heap_of main) pair.value value
one_pair {main} {number = number} place pair value shown is_key there refers is =
    let found = entry_found _ number value is in
    let once = shown.shows.each found.0 (record { key = number; value = value }) found.1 is_key.reached in
    let at : place ≡ once.at = once.once place pair there refers in
    let same : pair ≡ once.pair =
    same_Some _ _ (sym there ∙ ap (slice_get shown.shows.pairs) at ∙ once.stands) in
    subst (λ (one : Pair). ShowsValue (heap_of main) one.value value) (sym same) once.shows.value

-- by whether there is a value
told_by : {main : Mutator} {graph : Graph} {map key : ℕ} {weak : WeakObject} {number : ℕ} (found : Option Value)
    (place : ℕ)
    (pair : Pair) → (shown : WeakShown main graph map weak) → IsKeyAt main graph key number
    → slice_get shown.shows.pairs place ≡ Some pair → RefersToPlace (heap_of main) pair.key number
    → IsKnownKey (heap_of main) (reach graph) weak.entries pair → entry_value weak.entries number ≡ found
    → (value : Value) × (entry_value weak.entries number ≡ Some value) × ShowsValue (heap_of main) pair.value value
told_by (Some value) place pair shown is_key there refers known is =
    (value, is, one_pair place pair value shown is_key there refers is)
told_by {weak = weak} {number} None place pair shown is_key there refers
    (IsKnownKey.of_entry entry at stands marked names) is =
    absurd (entry_apart weak.entries number at entry is stands (one_number _ pair.key entry.key number names refers))
told_by {graph = graph} {number = number} None place pair shown is_key there refers
    (IsKnownKey.unreached other names not) is =
    let same : other ≡ number = one_number _ pair.key other number names refers in
    absurd (false≢true (sym (subst (λ n. IsFalse (is_marked (reach graph) n)) same not) ∙ is_key.reached))

-- the pair that has the key shows the entry
pub key_told : {main : Mutator} {graph : Graph} {map key : ℕ} {weak : WeakObject} {number : ℕ} (table : Table)
    (place : ℕ)
    → (shown : WeakShown main graph map weak) → IsKeyAt main graph key number → IsTableAt (heap_of main) map table
    → place < table.capacity → key_in (heap_of main) table.at place ≡ reference_word key
    → TellsPair main shown.shows.pairs table place key weak.entries number
key_told {main} {key = key} {weak} {number} table place shown is_key is below has_key =
    let pairs = shown.shows.pairs in
    let stand = is.pairs pairs (shown_pairs shown) in
    let pair : Pair = get_or pairs place free_pair in
    let there : slice_get pairs place ≡ Some pair =
    slice_get-get_or pairs place free_pair (omega (arith, stand.long, below)) in
    let key_is : pair.key ≡ reference_word key =
    sym (ap (λ found. unwrap_or found 0) (stand.keys place pair there)) ∙ has_key in
    let refers : RefersToPlace (heap_of main) pair.key number =
    record { at = key; refers = key_is; place = is_key.place } in
    let told = told_by (entry_value weak.entries number) place pair shown is_key there refers
    (shown.shows.others place pair there (key_filled pair key key_is)) refl in
    record {
      pair = pair;
      there = there;
      key_is = key_is;
      value = told.0;
      is_entry = told.1;
      shows = told.2;
      stands = stand.values place pair there;
    }

-- probing finds a pair of an entry, which has the key
pub record HasKey (heap : Heap) (pairs : List Pair) (key number : ℕ) : Type 0 where
  pub place : ℕ
  pub pair : Pair
  pub there : slice_get pairs place ≡ Some pair
  pub key_is : pair.key ≡ reference_word key
  pub probed : IsProbed pairs number place

-- an object that stands at an address and can be reached stands nowhere else
pub one_place : {main : Mutator} {graph : Graph} {key number : ℕ} (at : ℕ) → MainShows main graph
    → IsKeyAt main graph key number → IsPlace (heap_of main) number at → at ≡ key
one_place {graph = graph} {key} {number} at shows is_key place =
    let below = shows.shows.made number key is_key.place in
    let what : Object = get_or graph.objects number (Weak []) in
    let reached = shows.shows.reached number what
    (slice_get-get_or graph.objects number (Weak []) below) is_key.reached in
    reached.once at place ∙ sym (reached.once key is_key.place)

-- where an entry has a value, a pair has its key
pub entry_has_key : {main : Mutator} {graph : Graph} {map key : ℕ} {weak : WeakObject} {number : ℕ} (value : Value)
    → MainShows main graph → (shown : WeakShown main graph map weak) → IsKeyAt main graph key number
    → entry_value weak.entries number ≡ Some value → HasKey (heap_of main) shown.shows.pairs key number
entry_has_key {main} {key = key} {number = number} value shows shown is_key is =
    let found = entry_found _ number value is in
    let once = shown.shows.each found.0 (record { key = number; value = value }) found.1 is_key.reached in
    let refers = once.shows.key in
    let at : refers.at ≡ key = one_place refers.at shows is_key refers.place in
    let key_is : once.pair.key ≡ reference_word key = refers.refers ∙ ap reference_word at in
    let sound = shown_sound shows.shows.whole shown once.at once.pair once.stands (key_filled once.pair key key_is) in
    let same : sound.number ≡ number =
    one_number (heap_of main) once.pair.key sound.number number sound.filled.key refers in
    record {
      place = once.at;
      pair = once.pair;
      there = once.stands;
      key_is = key_is;
      probed = subst (λ n. IsProbed shown.shows.pairs n once.at) same sound.probed;
    }

-- one pair alone has the key of an entry
pub one_key : {main : Mutator} {graph : Graph} {map key : ℕ} {weak : WeakObject} {number : ℕ} (value : Value)
    (place other : ℕ) (pair another : Pair) → (shown : WeakShown main graph map weak) → IsKeyAt main graph key number
    → entry_value weak.entries number ≡ Some value → slice_get shown.shows.pairs place ≡ Some pair
    → slice_get shown.shows.pairs other ≡ Some another → RefersToPlace (heap_of main) pair.key number
    → RefersToPlace (heap_of main) another.key number → place ≡ other
one_key {number = number} value place other pair another shown is_key is there there_too refers refers_too =
    let found = entry_found _ number value is in
    let once = shown.shows.each found.0 (record { key = number; value = value }) found.1 is_key.reached in
    once.once place pair there refers ∙ sym (once.once other another there_too refers_too)
