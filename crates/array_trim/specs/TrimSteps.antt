-- What a trim of a list asks of an open cycle of marking, and what it does to it.
use Rattle.std.specs.Prelude.{◌≡◌, ℕ, ◌+◌, ◌<◌}
use Rattle.tagged_word.specs.declared.layout.Kind.TheVariants as kind
use Rattle.tagged_word.specs.Cells.{store_head, store_slot}
use Rattle.page_space.specs.Extents.{eden_start}
use Rattle.mark_world.specs.declared.event.Event.TheVariants as event
use Rattle.heap_table.specs.Phases.{Mark}
use Rattle.write_barrier.specs.Marking.{MayPut, with_blackened, with_published}
use Rattle.write_barrier.specs.MutatorState.{Mutator, heap_of}
use Rattle.write_barrier.specs.Storing.{MayChange, StoresOn, IsSureAt}
use Rattle.object_cells.specs.declared.stores.Store.{Store}
use Rattle.object_cells.specs.Made.{IsStoreAt}

-- The words of the list at the address and of its store are the mutator's to change, where a cycle is open, and the
-- store may be made black.
pub record MayTrim (main : Mutator) (list : ℕ) : Type 0 where
  pub of_list : MayChange main list 3 kind.List
  pub of_store : (store : Store) → IsStoreAt (heap_of main) list store → 0 < store.capacity
      → MayChange main store.at (store_head + store.capacity) kind.Store
  pub black : (store : Store) → IsStoreAt (heap_of main) list store → 0 < store.capacity
      → MayPut main store.at (event.Blacken store.at)

-- The store of the list was made black, and one that begins in it was published. Then words were stored, and the
-- mutator is sure of what the list's slot for a store refers to.
pub record PublishesStore (old new : Mutator) (list store start : ℕ) : Type 0 where
  pub may_black : MayPut old store (event.Blacken store)
  pub may_begin : MayPut (with_blackened old store) start (event.NewBlack start)
  pub after : StoresOn (with_published (with_blackened old store) start) new
  pub linked : new.seat.phase ≡ Mark → list + store_slot < eden_start new.seat.space → IsSureAt new (list + store_slot)

-- The store at the address was made black, and then words were stored.
pub record BlackensStore (old new : Mutator) (store : ℕ) : Type 0 where
  pub may_black : MayPut old store (event.Blacken store)
  pub after : StoresOn (with_blackened old store) new
