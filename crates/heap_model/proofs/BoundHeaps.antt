-- A heap in which a variable was bound anew: it has the same cells, and is whole.
use Rattle.std.proofs.Common.{ℕ, ◌<◌, ◌≤◌, inl, inr, List, [], Contains, Option, sym, subst, arith, append-nil}
use Rattle.std.proofs.lemmas.Bool.{cases_eq}
use Rattle.heap_model.specs.Types.{Cell, Value, Held}
use Rattle.handle_roots.specs.Roots.{FitsHeld, Holds, with_root}
use Rattle.heap_model.specs.Heaps.{Heap, HasCell}
use Rattle.heap_model.specs.Wholeness.{IsHeld, HasRoot, Whole}
use Rattle.heap_model.specs.Showing.{ShowsHeld}
use Rattle.heap_model.specs.Changes.{IsOwnChange}
use Rattle.heap_model.specs.Laws.{bound}
use Rattle.heap_model.proofs.CellsApart.{used_few}
use Rattle.heap_model.proofs.Moves.{Moves}
use Rattle.heap_model.proofs.CellOutcomes.{CellsMove}
use Rattle.heap_model.proofs.SoundStays.{sound_stays}
use Rattle.heap_model.proofs.OwnedStays.{owned_stays_owned}
use Rattle.heap_model.proofs.WholeStays.{held_stays}
use Rattle.heap_model.proofs.WordsAlike.{with_words, AreAlike, alike_back, has_alike, rows_alike, sizes_alike}
use Rattle.heap_model.proofs.BoundRoots.{with_root_alike, with_root_holds, with_root_others}

-- nothing is in a list of none
pub none_in : {A : Type 0} (x : A) → Contains [] x → ⊥
none_in x there = omega (arith, there.1)

-- no cell changes where the words are alike
alike_move : (heap : Heap) (other : List ℕ) → AreAlike heap.space heap.words other → heap.used ≤ heap.space.sizes.young
    → CellsMove heap (with_words heap other) [] [] []
alike_move heap other alike few = record {
  more = [];
  paths = sym (append-nil heap.paths);
  went = λ cell there. absurd (none_in cell there);
  comes = λ cell there. absurd (none_in cell there);
  kept = λ cell words has not_gone not_filled. has_alike other alike few has;
  back = λ cell words has. inr (has_alike heap.words (alike_back alike) few has, none_in cell);
}

-- no change is some objects' own
pub no_own_change : (old new : Heap) → IsOwnChange old new [] [] []
no_own_change old new = record {
  own = λ cell there. absurd (none_in cell there);
  objects_stay = λ cell there. absurd (none_in cell there);
  objects_stood = λ cell there. absurd (none_in cell there);
  boxes_stay = λ cell there. absurd (none_in cell there);
  sound = λ cell there. absurd (none_in cell there);
  named = λ owner slot at there. absurd (none_in owner there);
  once = λ owner another slot other at there. absurd (none_in owner there);
}

-- no cell changes where a variable is bound anew
pub bound_moves : (heap : Heap) (variable : ℕ) (one : Held) → variable < heap.space.variables → Whole heap
    → Moves heap (bound heap variable one) [] [] []
bound_moves heap variable one below whole =
    let other : List ℕ = with_root heap.space heap.words variable one in
    record {
      whole = whole;
      cells = alike_move heap other (with_root_alike heap.space heap.words variable one below) (used_few whole.rows);
      own = no_own_change heap (bound heap variable one);
    }

-- each cell stands there as before
pub bound_keeps : (heap : Heap) (variable : ℕ) (one : Held) {cell : Cell} {words : List ℕ}
    → variable < heap.space.variables → Whole heap → HasCell heap cell words
    → HasCell (bound heap variable one) cell words
bound_keeps heap variable one {cell} {words} below whole has =
    (bound_moves heap variable one below whole).cells.kept cell words has (none_in cell)
    (λ filled. none_in filled.begins.other filled.begins.among)

-- what shows a value a variable may hold
shown_is_held : {heap : Heap} (one : Held) (value : Option Value) → ShowsHeld heap one value → IsHeld heap one
shown_is_held one value ShowsHeld.unbound = tt
shown_is_held one value ShowsHeld.undefined = tt
shown_is_held one value (ShowsHeld.integer v) = tt
shown_is_held one value (ShowsHeld.object at number place) = (number, place)

-- the heap is whole
pub bound_whole : (heap : Heap) (variable : ℕ) (one : Held) (value : Option Value) → variable < heap.space.variables
    → Whole heap → FitsHeld one → ShowsHeld heap one value → Whole (bound heap variable one)
bound_whole heap variable one value below whole fits shows =
    let moves = bound_moves heap variable one below whole in
    let words : List ℕ = with_root heap.space heap.words variable one in
    let alike = with_root_alike heap.space heap.words variable one below in
    let root : (other : ℕ) → other < heap.space.variables → HasRoot (bound heap variable one) other = λ other within.
    elim (cases_eq other variable) [
      | inl same ↦ record {
        held = one;
        holds = subst (λ n. Holds heap.space words n one) (sym same)
            (with_root_holds heap.space heap.words variable one below whole.sized.words fits);
        is = held_stays moves one (shown_is_held one value shows);
      }
      | inr apart ↦ record {
        held = (whole.roots other within).held;
        holds = with_root_others heap.space heap.words variable one other (whole.roots other within).held apart
            (whole.roots other within).holds;
        is = held_stays moves (whole.roots other within).held (whole.roots other within).is;
      }
    ] in
    record {
      sized = sizes_alike words alike whole.sized;
      rows = rows_alike words alike whole.rows;
      roots = root;
      sound = sound_stays moves;
      owned = owned_stays_owned moves;
    }
