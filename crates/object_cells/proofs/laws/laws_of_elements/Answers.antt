-- The laws, as they were proved.
use Rattle.object_cells.proofs.RefilledLists.{written_elements_show}
use Rattle.object_cells.proofs.NewElements.{pushed_elements_are_new, put_elements_are_new}
use Rattle.object_cells.proofs.laws.laws_of_elements.Goals as goal

pub returns : goal.returns
returns c = record {
  show = written_elements_show;
  pushed = pushed_elements_are_new;
  put = put_elements_are_new;
}
