-- A heap that keeps nothing but what can be reached is exact, where its young cells are reached, or came from such.
use Rattle.std.proofs.Common.{◌≡◌, ℕ, ◌≤◌, inl, inr, List, Option, Some, IsTrue, refl, sym, subst}
use Rattle.std.proofs.lemmas.Bool.{cases_lt}
use Rattle.tagged_word.specs.Cells.{is_free_kind}
use Rattle.page_space.specs.Extents.{eden_start}
use Rattle.object_graph.specs.Graphs.{Graph}
use Rattle.heap_model.specs.Types.{Cell}
use Rattle.heap_model.specs.Heaps.{Heap, HasCell}
use Rattle.heap_moves.specs.Moved.{moved_to, IsMoved}
use Rattle.live_cells.specs.Exact.{KeepsNoOther, Exact}
use Rattle.live_cells.specs.Keeping.{TightIsExact, MovedIsExact}
use Rattle.live_cells.proofs.KeptOnly.{moved_keeps_no_other}
use Rattle.live_cells.proofs.ReachedUsed.{IsUsedAt, used_not_free, reached_used}

-- it is, where no young cell is free
exact_from : {heap : Heap} {graph : Graph} → KeepsNoOther heap graph
    → ((cell : Cell) (words : List ℕ) → HasCell heap cell words → IsTrue (is_free_kind cell.layout.kind)
    → eden_start heap.space ≤ cell.at → ⊥)
    → Exact heap graph
exact_from {heap} keeps none = record {
  keeps = keeps;
  packed = λ cell words has free.
      elim (cases_lt cell.at (eden_start heap.space)) [
        | inl below ↦ below
        | inr young ↦ absurd (none cell words has free young)
      ];
}

-- it is, where they are reached
pub tight_is_exact : TightIsExact
tight_is_exact heap graph keeps tight =
    exact_from keeps (λ cell words has free young.
    used_not_free (reached_used keeps.shows.whole (tight cell words has young)) has refl free)

-- what came from where something was reached is used
came_used : {old new : Heap} {to : ℕ → Option ℕ} {at : ℕ} (now : ℕ) → IsMoved old new to → IsUsedAt old at
    → to at ≡ Some now → IsUsedAt new now
came_used {to = to} now moved used came =
    let comes = subst (λ n. to n ≡ Some now) (sym used.stands) came in
    let stood = moved.stands used.cell used.words now used.has comes in
    record {
      cell = moved_to used.cell now;
      words = stood.others;
      has = stood.has;
      stands = refl;
      used = used.used;
    }

-- it is, where they came from what was reached
pub moved_is_exact : MovedIsExact
moved_is_exact old new to graph keeps moved young =
    exact_from (moved_keeps_no_other old new to graph keeps moved) (λ cell words has free behind.
    let from = young cell words has behind in
    used_not_free (came_used cell.at moved (reached_used keeps.shows.whole from.reached) from.came) has refl free)
