-- What the heap keeps in its fields.
use Rattle.std.specs.Vec.{vec_capacity}
use Rattle.collector.specs.declared.script_heap.Heap.TheInside.{Inside}
use Rattle.collector.specs.States.{HeapState}

-- The mutator's side, the places of the list, the bound of what can be marked, whether a cycle is open, and whether a
-- full collection came.
abbrev pub state_of : Inside → HeapState
state_of heap = record {
  main = heap.main;
  rest = record {
    places = vec_capacity heap.list;
    marks = heap.marking.bound;
    in_cycle = heap.in_cycle;
  };
  collected = heap.collected;
}
