-- How many pairs the tables of weak maps have once words of one map's own cells were written.
use Rattle.std.proofs.Common.{◌≡◌, ℕ, ◌+◌, ◌<◌, ◌^◌, List, Contains, Some, slice_get, subst}
use Rattle.tagged_word.specs.declared.layout.Kind.TheVariants as kind
use Rattle.tagged_word.specs.Cells.{store_slot}
use Rattle.cell_layout.specs.Cells.{IsRow}
use Rattle.heap_model.specs.Types.{Cell}
use Rattle.heap_model.specs.Heaps.{Heap, words_of_cell}
use Rattle.heap_model.specs.Kinds.{HasWord}
use Rattle.heap_model.specs.Slots.{reference_word}
use Rattle.heap_model.specs.Needs.{capacity_at}
use Rattle.object_cells.specs.Capacities.{ChangesObject, WritesBeside}
use Rattle.object_cells.proofs.OwnCapacities.{object_keeps, object_grows}
use Rattle.object_cells.proofs.OwnerWrites.{weak_owns}
use Rattle.ephemeron_table.specs.PairLaws.{RefillsWeak}

-- words of a weak map's own cells were so written
pub of_pairs : {old new : Heap} {cell : Cell} {others made : List Cell} → RefillsWeak old new cell others made
    → WritesBeside kind.Weak kind.Table old new cell cell others made
of_pairs {new = new} {cell} refills = record {
  owns = weak_owns;
  whole = refills.whole;
  writes = refills.writes;
  belong = refills.pairs.refills.belong;
  kinds = refills.pairs.refills.kinds;
  stores = λ other among is. subst (HasWord (words_of_cell new cell) store_slot)
      (refills.pairs.refills.stores other among is).1 refills.pairs.refills.has_store;
}

module _ {old new : Heap} {cell : Cell} {others made : List Cell} {from to : ℕ}
    (refills : RefillsWeak old new cell others made) (row : IsRow new.space new.words from to made) where
  -- so the map keeps its table's pairs where the word for the table stays
  pub tables_stay : slice_get new.words (cell.at + store_slot) ≡ slice_get old.words (cell.at + store_slot)
      → ChangesObject old new from to cell.at (capacity_at old cell.at)
  tables_stay stays = object_keeps (of_pairs refills) row stays

  -- and has as many as a table that was made, where it refers to this
  pub tables_grow : (table : Cell) → Contains made table → table.layout.kind ≡ kind.Table → table.at < 2 ^ 32
      → slice_get new.words (cell.at + store_slot) ≡ Some (reference_word table.at)
      → ChangesObject old new from to cell.at table.length
  tables_grow table among of_kind fits there = object_grows (of_pairs refills) row table among of_kind fits there
