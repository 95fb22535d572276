-- What a command may change of a list that is shown, where a cycle of marking is open.
use Rattle.std.proofs.Common.{◌≡◌, ℕ, ◌+◌, ◌<◌, ◌≤◌, ◌==◌, ◌||◌, ◌&&◌, not, true, inl, inr, refl, sym, ◌∙◌, ap, subst}
use Rattle.std.proofs.Common.{arith}
use Rattle.std.proofs.lemmas.Option.{same_Some}
use Rattle.tagged_word.specs.declared.layout.Kind.TheVariants as kind
use Rattle.tagged_word.specs.Cells.{store_head, store_slot, length_offset, has_length, tagged_offsets_of}
use Rattle.page_space.specs.Extents.{layouts_start}
use Rattle.core_parts.specs.Lists.{is_in}
use Rattle.object_graph.specs.Graphs.{Graph, ListObject}
use Rattle.heap_model.specs.Types.{Kind}
use Rattle.heap_model.specs.Heaps.{Heap}
use Rattle.heap_model.specs.Kinds.{count_offset}
use Rattle.heap_model.specs.Wholeness.{Whole}
use Rattle.mark_laws.specs.Types.{Reading}
use Rattle.mark_world.specs.declared.event.Event.TheVariants as event
use Rattle.mark_world.specs.Pages.{is_quiet}
use Rattle.write_barrier.specs.Marking.{MayPut}
use Rattle.write_barrier.specs.MutatorState.{Mutator, heap_of, MainShows}
use Rattle.write_barrier.specs.Storing.{MayChange, MayHold}
use Rattle.write_barrier.proofs.MayPuts.{may_put_slot, may_put_word}
use Rattle.write_barrier.proofs.StoresOn.{cell_may_change}
use Rattle.object_cells.specs.ListObjects.{IsListCellAt}
use Rattle.object_cells.specs.Made.{IsStoreAt}
use Rattle.object_cells.specs.declared.stores.Store.{Store}
use Rattle.object_cells.proofs.CellsRead.{cell_before_layouts}
use Rattle.object_cells.proofs.ListCells.{ListShown}
use Rattle.object_cells.proofs.OwnCells.{list_size}
use Rattle.object_cells.proofs.StoresRead.{stored_at}

-- the words of its cell
pub list_may_change : {main : Mutator} {graph : Graph} {at : ℕ} {list : ListObject} → MainShows main graph
    → ListShown (heap_of main) at list → MayChange main at 3 kind.List
list_may_change {main} shows shown =
    subst (λ n. MayChange main n 3 kind.List) shown.stands
    (subst (λ n. MayChange main shown.cell.at n kind.List) (list_size shown.has shown.shows.of_kind)
    (subst (MayChange main shown.cell.at shown.cell.size) shown.shows.of_kind (cell_may_change shows shown.has)))

-- those of its store
pub list_store_may_change : {main : Mutator} {graph : Graph} {at : ℕ} {list : ListObject} (store : Store)
    → MainShows main graph → ListShown (heap_of main) at list → IsStoreAt (heap_of main) at store
    → 0 < store.capacity → MayChange main store.at (store_head + store.capacity) kind.Store
list_store_may_change {main} {at = at} store shows shown is some =
    let stored = stored_at at shown.shows.store shown.shows.slots store is shown.has shown.stands shown.shows.slot
    shown.shows.has some in
    let found = stored.found in
    let size : found.cell.size ≡ store_head + store.capacity = omega (arith, found.size, stored.capacity) in
    subst (λ n. MayChange main n (store_head + store.capacity) kind.Store) found.stands
    (subst (λ n. MayChange main found.cell.at n kind.Store) size
    (subst (MayChange main found.cell.at found.cell.size) found.of_kind (cell_may_change shows found.refers.has)))

-- a list's length is a quiet word
count_is_quiet : (cell : Reading) → cell.layout.kind ≡ kind.List → is_quiet cell count_offset ≡ true
count_is_quiet cell is =
    ap (λ (k : Kind). not (count_offset == 0 || (has_length k && count_offset == length_offset))
    && not (is_in (tagged_offsets_of k cell.layout cell.length) count_offset)) is

-- so another may be put
pub count_may_put : {main : Mutator} (at word : ℕ) → MayChange main at 3 kind.List
    → MayPut main (at + count_offset) (event.StoreOwned (at + count_offset) word)
count_may_put at word may =
    may_put_word count_offset word may (omega arith) (λ page mark free read is.
    let own = (may page mark).claims.own free in
    let same : own.cell ≡ read = same_Some own.cell read (sym own.is ∙ is) in
    count_is_quiet read (ap (λ (r : Reading). r.layout.kind) (sym same) ∙ own.kind_is))

-- and a reference to another store, if a slot may hold it
pub link_may_put : {main : Mutator} (at word : ℕ) → MayChange main at 3 kind.List → MayHold main word
    → MayPut main (at + store_slot) (event.StoreSlot (at + store_slot) word)
link_may_put at word may holds = may_put_slot store_slot word may (omega arith) refl holds

-- the list's cell ends before the layout words
pub list_in_cells : {heap : Heap} {at : ℕ} → Whole heap → IsListCellAt heap at → at + 3 ≤ layouts_start heap.space
list_in_cells whole there =
    omega (arith, cell_before_layouts whole there.has, list_size there.has there.of_kind, there.stands)

-- and so does a store that has a slot
pub store_in_cells : {heap : Heap} (object : ℕ) (store : Store) → Whole heap → IsStoreAt heap object store
    → 0 < store.capacity → store.at + (store_head + store.capacity) ≤ layouts_start heap.space
store_in_cells object store whole is some = elim is.used [
  | inl none ↦ absurd (omega (arith, none, some))
  | inr range ↦ omega (arith, cell_before_layouts whole range.has, range.ends)
]
