-- What is asked of the cells of a weak map whose entries change, whether a cycle of marking is open or not.
use Rattle.std.specs.Prelude.{ℕ, ◌+◌, ◌*◌, ◌<◌, ◌≤◌}
use Rattle.tagged_word.specs.declared.layout.Kind.TheVariants as kind
use Rattle.tagged_word.specs.Cells.{store_head}
use Rattle.page_space.specs.Extents.{layouts_start}
use Rattle.heap_model.specs.Kinds.{count_offset}
use Rattle.heap_model.specs.Needs.{box_words}
use Rattle.write_barrier.specs.MutatorState.{Mutator}
use Rattle.write_barrier.specs.Storing.{IsMadeYoung, MayChange}
use Rattle.object_cells.specs.declared.content.SlotWrite.{SlotWrite}
use Rattle.object_cells.specs.declared.content.SlotWrite.TheVariants as filling
use Rattle.weak_pairs.specs.declared.table.Table.{Table}

-- The words of the table's pairs may become others: the mutator may change its cell, which ends before the layout
-- words.
pub record MayPutPairs (main : Mutator) (table : Table) : Type 0 where
  pub in_cells : table.at + (store_head + 2 * table.capacity) ≤ layouts_start main.seat.space
  pub change : MayChange main table.at (store_head + 2 * table.capacity) kind.Table

-- So may the words of the weak map's cell that name its table and count its filled pairs.
pub record MayPutMap (main : Mutator) (map : ℕ) : Type 0 where
  pub size : ℕ
  pub long : count_offset < size
  pub in_cells : map + count_offset < layouts_start main.seat.space
  pub change : MayChange main map size kind.Weak

-- So may the words of the box that a value is put in: one that is made is young where a cycle is open.
abbrev pub MayPutBox : Mutator → SlotWrite → Type 0
MayPutBox main (filling.NewBox at v) = IsMadeYoung main at
MayPutBox main (filling.OldBox at v) = MayChange main at box_words kind.Boxed
MayPutBox main _ = Unit {0}
