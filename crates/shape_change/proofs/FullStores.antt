-- How many slots a plain object has: as many as its cap, and those of its store; a store that has no room is full.
use Rattle.std.proofs.Common.{◌≡◌, ℕ, ◌+◌, ◌≤◌, List, length, drop, ap, arith, length-append, length-drop}
use Rattle.heap_model.specs.Types.{Header, LayoutWord, Cell, Held}
use Rattle.tagged_word.specs.declared.layout.Kind.TheVariants as kind
use Rattle.tagged_word.specs.Cells.{plain_head}
use Rattle.shape_tree.specs.Shapes.{IsPathShape, shape_path}
use Rattle.heap_model.specs.Heaps.{Heap, HasCell}
use Rattle.heap_model.specs.Kinds.{HasSlots}
use Rattle.heap_model.specs.Wholeness.{HasSizes}
use Rattle.heap_model.proofs.CellWords.{words_by_kind}
use Rattle.heap_model.proofs.PathLayouts.{layout_is}
use Rattle.write_barrier.specs.MutatorState.{Mutator, heap_of}
use Rattle.object_cells.specs.declared.stores.Store.{Store}
use Rattle.shape_change.specs.Additions.{CanAdd, count_of, behind_cap}
use Rattle.object_cells.specs.Made.{IsStoreAt}
use Rattle.object_cells.proofs.PlainFields.{plain_sound}

-- the layout of a plain object has the cap of its path
pub cap_is : {heap : Heap} {cell : Cell} {words : List ℕ} → HasSizes heap → HasCell heap cell words
    → IsPathShape heap.paths cell.header.shape → cell.layout.cap ≡ (shape_path heap.paths cell.header.shape).cap
cap_is sized has shape = ap (λ (layout : LayoutWord). layout.cap) (layout_is sized has shape)

-- a plain object has as many slots as its cap, and those of its store
pub length-slots : {heap : Heap} {cell : Cell} {words slots : List ℕ} → HasCell heap cell words
    → cell.layout.kind ≡ kind.Plain → (are : HasSlots heap words slots)
    → length slots ≡ cell.layout.cap + length are.beside
length-slots {words = words} has plain are =
    omega (
      arith,
      ap length are.are,
      length-append (drop plain_head words) are.beside,
      length-drop plain_head words,
      words_by_kind kind.Plain has plain,
    )

-- where the store has no room for one field more, as many fields stand in it as it has slots
pub store_is_full : (main : Mutator) (object : ℕ) (header : Header) (name : ℕ) (value : Held) (store : Store)
    → CanAdd main object header name value → IsStoreAt (heap_of main) object store
    → (shape_path main.paths header.shape).cap ≤ count_of main.paths header.shape
    → store.capacity ≤ behind_cap main.paths header.shape → behind_cap main.paths header.shape ≡ store.capacity
store_is_full main object header name value store can is behind none =
    let there = can.there in
    let sound = plain_sound can.whole there.has there.plain in
    let shape = ap (λ (h : Header). h.shape) can.headed in
    omega (
      arith,
      sound.hold.room,
      length-slots there.has there.plain sound.has,
      cap_is can.whole.sized there.has sound.shape,
      is.slots there.cell there.words sound.has.beside sound.has.store there.has there.stands sound.has.slot
          sound.has.stands,
      ap (λ n. (shape_path main.paths n).cap) shape,
      ap (λ n. length (shape_path main.paths n).fields) shape,
    )
