use Rattle.heap_model.proofs.BoundGraphs.{bindings_show, new_bindings_show}
use Rattle.heap_model.proofs.NewKeys.{new_objects_are_no_keys}
use Rattle.heap_model.proofs.NewObjects.{new_objects_show}
use Rattle.heap_model.proofs.laws.laws_of_bindings.Goals as goal

pub returns : goal.returns
returns c = record {
  show = bindings_show;
  show_new = new_bindings_show;
  made = new_objects_show;
  no_keys = new_objects_are_no_keys;
}
