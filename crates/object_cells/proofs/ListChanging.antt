-- What is known where a value is written to a list that is shown, and of the words of its own cells.
use Rattle.std.proofs.Common.{◌≡◌, ℕ, ◌+◌, ◌≤◌, ◌<◌, List, length, drop, slice_get, refl, sym, ◌∙◌}
use Rattle.std.proofs.Common.{arith}
use Rattle.tagged_word.specs.Cells.{store_head}
use Rattle.tagged_word.specs.declared.layout.Kind.TheVariants as kind
use Rattle.heap_model.specs.Types.{Kind, Value, Cell, Held}
use Rattle.object_graph.specs.Graphs.{Graph, ListObject}
use Rattle.object_graph.specs.Invariants.{IsValue}
use Rattle.object_graph.specs.Meaning.{list_most}
use Rattle.heap_model.specs.Heaps.{Heap, HasCell}
use Rattle.heap_model.specs.Kinds.{HasWord}
use Rattle.heap_model.proofs.CellWords.{slice_get-drop, words_by_kind, words_are_size, behind_head_few}
use Rattle.heap_model.proofs.CellsApart.{IsOfCell}
use Rattle.write_barrier.specs.MutatorState.{Mutator, heap_of, MainShows}
use Rattle.handle_roots.specs.Roots.{FitsHeld}
use Rattle.object_cells.specs.ElementChanges.{AreNewElements}
use Rattle.object_cells.specs.HeldValues.{IsValueHeld}
use Rattle.object_cells.specs.ListObjects.{IsListAt}
use Rattle.object_cells.specs.Made.{IsStoreAt}
use Rattle.object_cells.specs.declared.stores.Store.{Store}
use Rattle.object_cells.proofs.HeldNeeds.{held_is_value}
use Rattle.object_cells.proofs.OneElement.{DiffersAt}
use Rattle.object_cells.proofs.SlotsNow.{word_at_offset}
use Rattle.object_cells.proofs.StoresRead.{StoredAt, stored_at}
use Rattle.object_cells.proofs.ListCells.{ListShown, list_shown}

-- What is known where a value is written to a list that is shown.
pub record Changing (old : Mutator) (graph : Graph) (at : ℕ) (list : ListObject) (value : Held) (what : Value)
    : Type 0 where
  pub shows : MainShows old graph
  pub is : IsListAt old graph at list
  pub held : IsValueHeld old graph value what
  pub fits : IsValue (length graph.objects) what
  pub shown : ListShown (heap_of old) at list

-- so it is where the value that is held is one of the graph
abbrev pub changing : {old : Mutator} {graph : Graph} {at : ℕ} {list : ListObject} {what : Value} (value : Held)
    → MainShows old graph → IsListAt old graph at list → IsValueHeld old graph value what → FitsHeld value
    → Changing old graph at list value what
changing {what = what} value shows is held fits = record {
  shows = shows;
  is = is;
  held = held;
  fits = held_is_value value what shows fits held.shows;
  shown = list_shown shows is;
}

-- a store of the list that has slots is the one of its elements
pub changing_store : {old : Mutator} {graph : Graph} {at : ℕ} {list : ListObject} {value : Held} {what : Value}
    {store : Store} (slot : ℕ) (known : Changing old graph at list value what) → IsStoreAt (heap_of old) at store
    → slot < store.capacity → StoredAt (heap_of old) known.shown.shows.store known.shown.shows.slots store
changing_store {at = at} {store = store} slot known is_store below =
    let shown = known.shown in
    stored_at at shown.shows.store shown.shows.slots store is_store shown.has shown.stands shown.shows.slot
    shown.shows.has (omega (arith, below))

-- a list is no store
pub list_is_no_store : {k : Kind} → k ≡ kind.List → k ≡ kind.Store → ⊥
list_is_no_store list store =
    let apart : kind.List ≡ kind.Store = sym list ∙ store in
    cc

-- a store is no box
pub store_is_no_box : {k : Kind} → k ≡ kind.Store → k ≡ kind.Boxed → ⊥
store_is_no_box store box =
    let apart : kind.Store ≡ kind.Boxed = sym store ∙ box in
    cc

-- a slot of a store is the word at its address
pub slot_stands : {heap : Heap} {cell : Cell} {words : List ℕ} (k : ℕ) → HasCell heap cell words
    → cell.layout.kind ≡ kind.Store → k < cell.length
    → slice_get (drop store_head words) k ≡ slice_get heap.words (cell.at + (store_head + k))
slot_stands {words = words} k has store below =
    slice_get-drop store_head words k (store_head + k) refl
    ∙ word_at_offset (store_head + k) has (omega (arith, below, words_by_kind kind.Store has store, words_are_size has))

-- it is one of so many
pub slot_few : {heap : Heap} {cell : Cell} {words : List ℕ} (k word : ℕ) → HasCell heap cell words
    → cell.layout.kind ≡ kind.Store → HasWord (drop store_head words) k word → k < cell.length
slot_few {cell = cell} {words} k word has store there =
    behind_head_few words k cell.length word (words_by_kind kind.Store has store) there

-- How the list's elements come to be others, of which one, in a slot of its store, is the value.
pub record Elements (graph : Graph) (list : ListObject) (what : Value) (slot count : ℕ) : Type 0 where
  pub after : List Value
  pub differs : DiffersAt list.elements after slot what
  pub long : length after ≡ count
  pub few : count ≤ list_most
  pub are_new : AreNewElements graph after

-- the words of the list's cell: its header, its slot for a store, and its length
pub list_word : {heap : Heap} {at : ℕ} {list : ListObject} (k : ℕ) (shown : ListShown heap at list) → k < 3
    → IsOfCell shown.cell (at + k)
list_word k shown below = record {
  from = omega (arith, shown.stands);
  below = omega (
    arith,
    shown.stands,
    below,
    words_by_kind kind.List shown.has shown.shows.of_kind,
    words_are_size shown.has,
  );
}
