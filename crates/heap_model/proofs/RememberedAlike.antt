-- Heaps whose pages are alike have the same slots that refer to young cells. So it is where a variable is bound anew.
use Rattle.std.proofs.Common.{◌≡◌, ℕ, ◌<◌, inl, inr, List, slice_get, refl, sym, subst, arith}
use Rattle.page_space.specs.Extents.{Space, eden_start}
use Rattle.page_space.proofs.Starts.{roots_start_is}
use Rattle.heap_model.specs.Types.{Cell, Held}
use Rattle.heap_model.specs.Heaps.{Heap, HasCell}
use Rattle.heap_model.specs.Wholeness.{Whole}
use Rattle.heap_model.specs.Laws.{bound}
use Rattle.heap_model.specs.Remembered.{IsPageSlot, RefersToYoung, AreRemembered}
use Rattle.heap_model.proofs.BoundRoots.{with_root_alike}
use Rattle.heap_model.proofs.BoundHeaps.{none_in, bound_moves, bound_keeps}
use Rattle.heap_model.proofs.RememberedSlots.{page_slot_below, refers_to_young_stays}

-- the cells of the one heap's pages stand in the other
abbrev pub PageCellsStand : Heap → Heap → Type 0
PageCellsStand one other =
    (cell : Cell) (words : List ℕ) → HasCell one cell words → cell.at < eden_start one.space
    → (others : List ℕ) × HasCell other cell others

-- Two heaps of one space have the same words before eden, and the same cells in pages.
pub record HavePagesAlike (old new : Heap) : Type 0 where
  pub same_space : new.space ≡ old.space
  pub words : (at : ℕ) → at < eden_start old.space → slice_get new.words at ≡ slice_get old.words at
  pub stand : PageCellsStand old new
  pub stood : PageCellsStand new old

-- and the other way round
pub pages_alike_back : {old new : Heap} → HavePagesAlike old new → HavePagesAlike new old
pages_alike_back alike = record {
  same_space = sym alike.same_space;
  words = λ at below. sym (alike.words at (subst (λ (s : Space). at < eden_start s) alike.same_space below));
  stand = alike.stood;
  stood = alike.stand;
}

-- a slot of a page that refers to a young cell is one in the other heap
slot_alike : {old new : Heap} {at : ℕ} → HavePagesAlike old new
    → IsPageSlot old at × RefersToYoung (eden_start old.space) old.words at
    → IsPageSlot new at × RefersToYoung (eden_start new.space) new.words at
slot_alike {old} {new} {at} alike (slot, young) =
    let there = alike.stand slot.cell slot.words slot.has slot.of_page in (
      record {
        cell = slot.cell;
        words = there.0;
        has = there.1;
        of_page = subst (λ (s : Space). slot.cell.at < eden_start s) (sym alike.same_space) slot.of_page;
        slot = slot.slot;
      },
      subst (λ (s : Space). RefersToYoung (eden_start s) new.words at) (sym alike.same_space)
          (refers_to_young_stays (alike.words at (page_slot_below slot)) young),
    )

-- so a list of these slots is right in both
pub alike_stay_remembered : (old new : Heap) (slots : List ℕ) → HavePagesAlike old new → AreRemembered old slots
    → AreRemembered new slots
alike_stay_remembered old new slots alike right at = (
  λ there. slot_alike alike ((right at).0 there),
  λ is. (right at).1 (slot_alike (pages_alike_back alike) is),
)

-- a heap in which a variable was bound anew has the same pages
pub bound_pages_alike : (heap : Heap) (variable : ℕ) (one : Held) → variable < heap.space.variables → Whole heap
    → HavePagesAlike heap (bound heap variable one)
bound_pages_alike heap variable one below whole =
    let moves = bound_moves heap variable one below whole in
    let alike = with_root_alike heap.space heap.words variable one below in
    record {
      same_space = refl;
      words = λ at before. alike.cells at (omega (arith, before, roots_start_is heap.space));
      stand = λ cell words has of_page. (words, bound_keeps heap variable one below whole has);
      stood = λ cell words has of_page. elim (moves.cells.back cell words has) [
        | inl there ↦ absurd (none_in cell there)
        | inr was ↦ (words, was.0)
      ];
    }

-- so the list stays right there
pub bound_stays_remembered : (heap : Heap) (variable : ℕ) (one : Held) (slots : List ℕ)
    → variable < heap.space.variables → Whole heap → AreRemembered heap slots
    → AreRemembered (bound heap variable one) slots
bound_stays_remembered heap variable one slots below whole right =
    alike_stay_remembered heap (bound heap variable one) slots (bound_pages_alike heap variable one below whole) right
