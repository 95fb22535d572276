-- Words before the roots that stay: all but those of the object that a command may change, and of the run in which it
-- makes cells.
use Rattle.std.proofs.Common.{◌≡◌, ℕ, ◌+◌, ◌<◌, slice_get, ◌∙◌, ap, arith}
use Rattle.page_space.proofs.Starts.{layouts_start_is}
use Rattle.heap_model.specs.Types.{Command, Held}
use Rattle.object_graph.specs.Graphs.{Graph}
use Rattle.graph_laws.specs.Laws.{MayChange}
use Rattle.heap_model.specs.Heaps.{Heap}
use Rattle.heap_model.specs.Slots.{IsPlace}
use Rattle.heap_model.specs.Laws.{bound}
use Rattle.heap_model.proofs.BoundRoots.{with_root_alike}
use Rattle.write_barrier.specs.MutatorState.{Mutator, heap_of}
use Rattle.object_cells.specs.OwnWords.{ChangesOwnWords}
use Rattle.mutator.specs.Changing.{KeepsOtherWords}
use Rattle.mutator.proofs.NewCells.{NewCell}
use Rattle.mutator.proofs.PutCells.{with_cell, HasRoomFor, beside_stays}

-- where nothing has changed, all stay
pub still_keeps : {old new : Mutator} {from to : ℕ} (graph : Graph) (command : Command) → new ≡ old
    → KeepsOtherWords (heap_of old) (heap_of new) from to graph command
still_keeps graph command same word before not_changed not_made =
    ap (λ (main : Mutator). slice_get (heap_of main).words word) same

-- where only words of one object changed and of a run, it is the one that the command may change
pub object_keeps : {old : Heap} {from to : ℕ} {graph : Graph} {command : Command} {number at : ℕ} (new : Heap)
    → MayChange graph command number → IsPlace old number at → ChangesOwnWords old new from to at
    → KeepsOtherWords old new from to graph command
object_keeps {old} {number = number} {at} new may place changes word before not_changed not_made =
    changes word (omega (arith, before, layouts_start_is old.space))
    (λ own. not_changed (record { number = number; may = may; at = at; place = place; own = own })) not_made

-- where a variable was bound anew, all stay
pub rebound_keeps : {heap new : Heap} {from to : ℕ} (graph : Graph) (command : Command) (x : ℕ) (one : Held)
    → x < heap.space.variables → new ≡ bound heap x one → KeepsOtherWords heap new from to graph command
rebound_keeps {heap} graph command x one below is word before not_changed not_made =
    ap (λ (h : Heap). slice_get h.words word) is
    ∙ (with_root_alike heap.space heap.words x one below).cells word before

-- where a cell was put and a variable bound to it, only words of the cell changed
pub making_keeps : {heap new : Heap} {at used : ℕ} {one : NewCell} (graph : Graph) (command : Command) (x : ℕ)
    (held : Held) → HasRoomFor heap at used one → x < heap.space.variables
    → new ≡ bound (with_cell heap at used one) x held
    → KeepsOtherWords heap new at (at + one.size) graph command
making_keeps {heap} {at = at} {used} {one} graph command x held fits below is word before not_changed not_made =
    ap (λ (h : Heap). slice_get h.words word) is
    ∙ (with_root_alike heap.space (with_cell heap at used one).words x held below).cells word before
    ∙ beside_stays word fits not_made
