-- What a change of cells leaves of an open cycle of marking.
use Rattle.std.specs.Prelude.{◌≡◌, ℕ, ◌+◌, ◌<◌, ◌⊎◌, List, ◌∷◌, Contains}
use Rattle.tagged_word.specs.Cells.{tagged_offsets}
use Rattle.page_space.specs.Extents.{eden_start}
use Rattle.object_graph.specs.Graphs.{Graph}
use Rattle.heap_model.specs.Types.{Cell}
use Rattle.heap_model.specs.Heaps.{words_of_cell}
use Rattle.heap_model.specs.Kinds.{HasWord}
use Rattle.heap_model.specs.Slots.{raw_word, reference_word}
use Rattle.mark_world.specs.declared.event.Event.TheVariants as event
use Rattle.mark_world.specs.Pages.{OfTarget}
use Rattle.mark_world.specs.Soundness.{AreIn}
use Rattle.mark_laws.specs.PageWords.{HasMainSound}
use Rattle.cycle_laws.specs.Changes.{JoinsNewCells, ReferToKept}
use Rattle.cycle_laws.specs.RestsAgain.{KeepsLists}
use Rattle.heap_table.specs.Phases.{Mark}
use Rattle.write_barrier.specs.Marking.{MayPut}
use Rattle.write_barrier.specs.MutatorState.{Mutator, heap_of, world_of}
use Rattle.write_barrier.specs.Storing.{IsMadeYoung}
use Rattle.object_cells.specs.declared.content.SlotWrite.{SlotWrite}
use Rattle.object_cells.specs.declared.content.SlotWrite.TheVariants as filling

-- each tagged slot of the cell has a word with no target, or one that the mutator is sure of
abbrev pub HasSureSlots : Mutator → Cell → Type 0
HasSureSlots main cell =
    (offset word : ℕ) → Contains (tagged_offsets cell.layout cell.length) offset
    → HasWord (words_of_cell (heap_of main) cell) offset word
    → OfTarget (eden_start main.seat.space) word (Contains main.cycle.sure)

-- the mutator is sure of the slots of each of these cells of pages that it made black
abbrev pub BlackAreSure : Mutator → List Cell → Type 0
BlackAreSure main cells =
    (cell : Cell) → Contains cells cell → cell.at < eden_start main.seat.space → Contains main.cycle.mine cell.at
    → HasSureSlots main cell

-- What a change of cells leaves of an open cycle. The mutator's view is as in a sound world. It is sure of no fewer
-- cells. Of the cells that it made black each was one, or came; and it is sure of the slots of each that came. New
-- cells have joined the cycle's lists, of which no free start and no black cell went for good. Cells that came or were
-- made refer to what is kept.
pub record KeepsCycle (old new : Mutator) (after : Graph) (gone came made : List Cell) : Type 0 where
  pub view : HasMainSound (world_of new)
  pub sure : AreIn new.cycle.sure old.cycle.sure
  pub black : (at : ℕ) → Contains new.cycle.mine at → Contains old.cycle.mine at
      ⊎ ((one : Cell) × Contains came one × (one.at ≡ at))
  pub slots : BlackAreSure new came
  pub joins : JoinsNewCells (heap_of old) (heap_of new) old.cycle new.cycle came made
  pub lists : KeepsLists (heap_of new) old.cycle new.cycle gone
  pub refers : ReferToKept (heap_of old) (heap_of new) after old.cycle gone came made

-- where a cycle is open
abbrev pub KeepsOpenCycle : Mutator → Mutator → Graph → List Cell → List Cell → List Cell → Type 0
KeepsOpenCycle old new after gone came made = old.seat.phase ≡ Mark → KeepsCycle old new after gone came made

-- What a command leaves of an open cycle that writes cells of one object, which all stay where they are, and publishes
-- none: the object's cell becomes another, and those beside it stay what they are. It makes none black but these.
pub record KeepsOwnCells (old new : Mutator) (came : Cell) (others : List Cell) : Type 0 where
  pub view : HasMainSound (world_of new)
  pub cycle : new.cycle ≡ record old.cycle { mine = new.cycle.mine; sure = new.cycle.sure }
  pub sure : AreIn new.cycle.sure old.cycle.sure
  pub stays : AreIn new.cycle.mine old.cycle.mine
  pub mine : (at : ℕ) → Contains new.cycle.mine at → Contains old.cycle.mine at
      ⊎ ((one : Cell) × Contains (came ∷ others) one × (one.at ≡ at) × (at < eden_start new.seat.space))
  pub slots : BlackAreSure new (came ∷ others)

-- where a cycle is open
abbrev pub KeepsCellsOpen : Mutator → Mutator → Cell → List Cell → Type 0
KeepsCellsOpen old new came others = old.seat.phase ≡ Mark → KeepsOwnCells old new came others

-- The slot at an address may be filled so, whether a cycle is open or not. A box that is made is young where one is.
abbrev pub MayFillSlot : Mutator → ℕ → SlotWrite → Type 0
MayFillSlot main at (filling.Tagged word) = MayPut main at (event.StoreSlot at word.0)
MayFillSlot main at (filling.Raw word) = MayPut main at (event.StoreOwned at word)
MayFillSlot main at (filling.NewBox box v) =
    IsMadeYoung main box × MayPut main at (event.StoreSlot at (reference_word box))
MayFillSlot main at (filling.OldBox box v) = MayPut main (box + 1) (event.StoreOwned (box + 1) (raw_word v))
