use Rattle.heap_model.proofs.WordChanges.{changes_keep_cells}
use Rattle.heap_model.proofs.Rewrites.{rewrites_are_patches, rewrites_keep_cells}
use Rattle.heap_model.proofs.SlotWrites.{slot_writes_keep_cells}
use Rattle.heap_model.proofs.laws.laws_of_words.Goals as goal

pub returns : goal.returns
returns c = record {
  cells = changes_keep_cells;
  rewrites = rewrites_are_patches;
  rewritten = rewrites_keep_cells;
  slots = slot_writes_keep_cells;
}
