-- The cells of a weak map that is known may be changed, with its table and the boxes of its values: where no cycle of
-- marking is open, or where the heap rests in one.
use Rattle.std.proofs.Common.{◌≡◌, ℕ, ◌+◌, ◌*◌, ◌<◌, List, Option, Some, None, refl, sym, ◌∙◌, subst, arith}
use Rattle.tagged_word.specs.declared.layout.Kind.TheVariants as kind
use Rattle.tagged_word.specs.Cells.{store_head}
use Rattle.object_graph.specs.Graphs.{Graph}
use Rattle.heap_model.specs.Types.{Kind, Cell}
use Rattle.heap_model.specs.Heaps.{HasCell, words_of_cell}
use Rattle.heap_model.specs.Needs.{word_at}
use Rattle.heap_model.proofs.CellWords.{words_by_kind, words_are_size}
use Rattle.write_barrier.specs.MutatorState.{Mutator, MainShows, MayStore, heap_of}
use Rattle.write_barrier.specs.Storing.{MayChange}
use Rattle.write_barrier.proofs.StoresOn.{cell_may_change, next_is_young}
use Rattle.object_cells.specs.declared.content.SlotContent.{SlotContent}
use Rattle.object_cells.specs.declared.content.SlotContent.TheVariants as content
use Rattle.object_cells.specs.Contents.{HoldsSlotWord, box_in, filling_at, filling_of, next_at}
use Rattle.object_cells.proofs.CellsRead.{cell_before_layouts}
use Rattle.object_cells.proofs.SlotBoxes.{box_of_word}
use Rattle.ephemeron_table.specs.MapClaims.{MayPutBox, MayPutMap, MayPutPairs}
use Rattle.weak_pairs.specs.declared.table.Table.{Table}
use Rattle.ephemeron_table.proofs.ClaimedMaps.{idle_may_change}
use Rattle.ephemeron_table.proofs.KnownTables.{KnownMap, cell, cell_has, found, map_size, other, other_has, other_long}

-- each cell of the heap may be changed
abbrev pub MayChangeEach : Mutator → Type 0
MayChangeEach main =
    (one : Cell) (words : List ℕ) → HasCell (heap_of main) one words → MayChange main one.at one.size one.layout.kind

-- so it is between two commands
pub shown_may_change : {main : Mutator} {graph : Graph} → MainShows main graph → MayChangeEach main
shown_may_change shows one words has = cell_may_change shows has

-- and while no cycle is open
pub idle_may_change_each : {main : Mutator} → MayStore main → MayChangeEach main
idle_may_change_each idle one words has = idle_may_change idle

-- a cell may be changed by what is known of it
as_known : {main : Mutator} {at size to long : ℕ} {was is : Kind} → at ≡ to → size ≡ long → was ≡ is
    → MayChange main at size was → MayChange main to long is
as_known {main} {at} {size} {to} {long} {was} {is} place sized of_kind may =
    subst (MayChange main to long) of_kind
    (subst (λ n. MayChange main to n was) sized (subst (λ a. MayChange main a size was) place may))

module _ {old : Mutator} {map : ℕ} {table : Table} (known : KnownMap old map table) (each : MayChangeEach old) where
  -- so may the words of the map's cell
  pub known_map_may : MayPutMap old map
  known_map_may = record {
    size = (cell known).size;
    long = omega (arith, map_size known);
    in_cells = omega (
      arith,
      cell_before_layouts known.whole (cell_has known),
      map_size known,
      known.there.stands,
    );
    change = as_known known.there.stands refl known.there.of_kind
        (each (cell known) (words_of_cell (heap_of old) (cell known)) (cell_has known));
  }

  -- and the pairs of its table
  pub known_pairs_may : 0 < table.capacity → MayPutPairs old table
  known_pairs_may some =
      let one = found known some in
      let size : (other known some).size ≡ store_head + 2 * table.capacity =
      omega (arith, one.size, other_long known some) in
      record {
        in_cells = omega (arith, cell_before_layouts known.whole (other_has known some), one.stands, size);
        change = as_known one.stands size one.of_kind
            (each (other known some) (words_of_cell (heap_of old) (other known some)) (other_has known some));
      }

-- so may a box that a word refers to, if it refers to one; and one that is made is young
box_may : {main : Mutator} {graph : Graph} (word : ℕ) (holds : SlotContent) (found : Option ℕ) → MainShows main graph
    → HoldsSlotWord (heap_of main) word holds → box_in (heap_of main) word ≡ found
    → MayPutBox main (filling_of found (next_at main) holds)
box_may word (content.Tagged one) found shows slot is = tt
box_may word (content.Raw one) found shows slot is = tt
box_may word (content.Boxed v) None shows slot is = next_is_young shows
box_may word (content.Boxed v) (Some at) shows slot is =
    let box = box_of_word word at shows.shows.whole.sized slot is in
    as_known box.stands (sym (words_are_size box.refers.has) ∙ words_by_kind kind.Boxed box.refers.has box.box) box.box
    (cell_may_change shows box.refers.has)

-- so a value may be put in the slot of a pair
pub shown_box_may : {main : Mutator} {graph : Graph} (at : ℕ) (holds : SlotContent) → MainShows main graph
    → HoldsSlotWord (heap_of main) (word_at (heap_of main) at) holds → MayPutBox main (filling_at main at holds)
shown_box_may {main} at holds shows slot =
    box_may (word_at (heap_of main) at) holds (box_in (heap_of main) (word_at (heap_of main) at)) shows slot refl
