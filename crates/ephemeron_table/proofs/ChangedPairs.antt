-- How far the taking of a pair has come, as the pairs are read.
use Rattle.std.proofs.Common.{ℕ, ◌<◌, inl, length, slice_get, refl, ◌∙◌, ap}
use Rattle.write_barrier.specs.Seats.{heap_words}
use Rattle.write_barrier.specs.Staying.{rest_stays_itself, rest_stays_again}
use Rattle.heap_model.specs.Kinds.{Pair}
use Rattle.write_barrier.specs.MutatorState.{Mutator}
use Rattle.write_barrier.specs.Recording.{Touches, untouched, touched_then}
use Rattle.write_barrier.specs.Storing.{StoresOn}
use Rattle.write_barrier.proofs.Recording.{no_touch, then_touch}
use Rattle.write_barrier.proofs.StoresOn.{stores_on_again, stores_on_itself}
use Rattle.object_cells.specs.Made.{PutsWords}
use Rattle.weak_pairs.specs.Tables.{with_pair}
use Rattle.ephemeron_table.specs.Puttings.{pair_touch}
use Rattle.ephemeron_table.specs.Removals.{ChangesPairs}
use Rattle.weak_pairs.specs.declared.table.Table.{Table}
use Rattle.weak_pairs.proofs.PairsPut.{beside_put, length-with_pair}
use Rattle.ephemeron_table.proofs.PairTouches.{KeptOrPair, of_both, pair_alone}

-- nothing has changed
pub nothing_changed : (main : Mutator) (table : Table) → ChangesPairs main main table
nothing_changed main table = record {
  rest = rest_stays_itself main.seat;
  paths = refl;
  young = refl;
  long = refl;
  beside = λ at beside. refl;
  touch = untouched;
  touches = no_touch main;
  touched = λ at. inl refl;
  stores = stores_on_itself main;
}

-- a pair was put after words of pairs had changed
pub pair_changed : {old mid new : Mutator} (table : Table) (place : ℕ) (pair : Pair) → ChangesPairs old mid table
    → place < table.capacity → PutsWords mid new (with_pair (heap_words mid.seat) table.at place pair)
    → Touches mid new (pair_touch table.at place) → StoresOn mid new → ChangesPairs old new table
pair_changed {old} {mid} {new} table place pair changes below puts touches stores = record {
  rest = rest_stays_again old.seat mid.seat new.seat changes.rest puts.beside;
  paths = puts.paths ∙ changes.paths;
  young = puts.young ∙ changes.young;
  long = ap length puts.heap ∙ length-with_pair (heap_words mid.seat) table.at place pair ∙ changes.long;
  beside = λ at beside. ap (λ all. slice_get all at) puts.heap
      ∙ beside_put (heap_words mid.seat) table place at pair below beside ∙ changes.beside at beside;
  touch = touched_then changes.touch (pair_touch table.at place);
  touches = then_touch changes.touches touches;
  touched = λ at. of_both (KeptOrPair table at) changes.touch (pair_touch table.at place) at (changes.touched at)
      (pair_alone table place at below);
  stores = stores_on_again changes.stores stores;
}
