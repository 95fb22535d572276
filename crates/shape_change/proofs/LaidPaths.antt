-- What stays where a path was added with its layout words.
use Rattle.std.proofs.Common.{ℕ, inl, sym, subst, Result, Ok, Err}
use Rattle.heap_model.specs.Types.{Path, ShapesFull}
use Rattle.shape_tree.specs.Shapes.{shape_path, without}
use Rattle.heap_model.specs.Wholeness.{HasSizes}
use Rattle.write_barrier.specs.MutatorState.{Mutator, heap_of}
use Rattle.write_barrier.specs.Storing.{StoresOn}
use Rattle.write_barrier.proofs.LaidOn.{path_stores_on}
use Rattle.write_barrier.proofs.StoresOn.{stores_on_itself}
use Rattle.write_barrier.specs.Opening.{LaysPath, LaysPathOr}
use Rattle.shape_change.specs.Additions.{AddsPath}
use Rattle.shape_change.specs.Deletions.{AddsPaths, FindsWithout}

-- all words before the layout words are as they were, and all else but the paths
pub path_added : {old new : Mutator} {path : Path} {shape : ℕ} → HasSizes (heap_of old)
    → LaysPath old new path shape → AddsPath old new path shape
path_added sized lays = record {
  beside = lays.changes.seat;
  young = lays.changes.young;
  free = lays.changes.free;
  recorded = lays.changes.recorded;
  leads = lays.leads;
  sized = lays.sized;
  stay = λ at below. lays.changes.beside at (inl below);
  stores = path_stores_on sized lays;
}

-- the same of the paths that were added, whichever they are
pub paths_added : {old new : Mutator} {path : Path} {shape : ℕ} → LaysPath old new path shape → AddsPaths old new
paths_added lays = record {
  beside = lays.changes.seat;
  young = lays.changes.young;
  free = lays.changes.free;
  recorded = lays.changes.recorded;
  count = lays.changes.count;
  same = λ at below. lays.changes.beside at (inl below);
}

-- so the shape without a field is found, or there may not be as many paths
pub finds_without : (old new : Mutator) (shape slot : ℕ) (result : Result ℕ ShapesFull)
    → LaysPathOr old new (without (shape_path old.paths shape) slot) result → FindsWithout old new shape slot result
finds_without old new shape slot (Ok next) lays = (lays.leads, lays.sized, paths_added lays)
finds_without old new shape slot (Err full) lacks = lacks

-- and words were stored then, if any were
pub without_on : (old new : Mutator) (path : Path) (result : Result ℕ ShapesFull) → HasSizes (heap_of old)
    → LaysPathOr old new path result → StoresOn old new
without_on old new path (Ok next) sized lays = path_stores_on sized lays
without_on old new path (Err full) sized lacks = subst (StoresOn old) (sym lacks.1) (stores_on_itself old)
