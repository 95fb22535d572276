use Rattle.heap_model.proofs.WholeStays.{own_changes_keep_whole}
use Rattle.heap_model.proofs.ShownGraphs.{own_changes_show}
use Rattle.heap_model.proofs.MadeCells.{made_cells_are_own}
use Rattle.heap_model.proofs.StaysCollectable.{own_changes_stay_collectable}
use Rattle.heap_model.proofs.FreeStays.{own_changes_keep_free, own_changes_keep_fillers}
use Rattle.heap_model.proofs.RememberedStays.{changes_stay_remembered}
use Rattle.heap_model.proofs.laws.laws_of_changes.Goals as goal

pub returns : goal.returns
returns c = record {
  whole = own_changes_keep_whole;
  show = own_changes_show;
  made = made_cells_are_own;
  collectable = own_changes_stay_collectable;
  free = own_changes_keep_free;
  fillers = own_changes_keep_fillers;
  remembered = changes_stay_remembered;
}
