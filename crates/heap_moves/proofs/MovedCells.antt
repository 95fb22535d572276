-- The cells of a moved heap: where those that stay stand, and where those that stand there are from.
use Rattle.std.proofs.Common.{◌≡◌, ℕ, List, Option, Some, IsTrue, refl, sym, ◌∙◌, ap, subst}
use Rattle.heap_model.specs.Types.{Cell}
use Rattle.tagged_word.specs.Cells.{is_free_kind, is_object_kind}
use Rattle.heap_model.specs.Heaps.{Heap, HasCell}
use Rattle.heap_model.specs.Slots.{IsPlace, RefersToPlace}
use Rattle.heap_model.proofs.CellsApart.{one_at, one_words}
use Rattle.heap_model.proofs.StaysCollectable.{object_not_free}
use Rattle.heap_moves.specs.Moved.{IsMovedWord, AreMoved, moved_to, IsFrom, IsMoved}
use Rattle.heap_moves.proofs.MovedWords.{referred}

-- a cell of the new heap is this one of the old heap, moved
pub record IsCame (to : ℕ → Option ℕ) (was : Cell) (words : List ℕ) (cell : Cell) (others : List ℕ) : Type 0 where
  pub same : moved_to was cell.at ≡ cell
  pub are : AreMoved to was words others

-- the cell of the old heap that a cell of the new one was
pub record Origin (old : Heap) (to : ℕ → Option ℕ) (cell : Cell) (others : List ℕ) : Type 0 where
  pub was : Cell
  pub words : List ℕ
  pub had : HasCell old was words
  pub stays : to was.at ≡ Some cell.at
  pub same : moved_to was cell.at ≡ cell
  pub are : AreMoved to was words others

module _ {old new : Heap} {to : ℕ → Option ℕ} (moved : IsMoved old new to) where
  -- a cell of the new heap where a cell came that stays is that cell
  pub came : {cell was : Cell} {words others : List ℕ} → HasCell new cell others → HasCell old was words
      → to was.at ≡ Some cell.at → IsCame to was words cell others
  came {cell} {was} {words} has had stays =
      let stood = moved.stands was words cell.at had stays in
      let same : moved_to was cell.at ≡ cell = one_at stood.has has refl in
      let has_it = subst (λ (one : Cell). HasCell new one stood.others) same stood.has in
      record { same = same; are = subst (λ all. AreMoved to was words all) (one_words has_it has) stood.are }

  -- so it is from that cell
  pub origin_of : {cell : Cell} {others : List ℕ} (was : Cell) (words : List ℕ) → HasCell new cell others
      → HasCell old was words → to was.at ≡ Some cell.at → Origin old to cell others
  origin_of was words has had stays =
      let is = came has had stays in
      record { was = was; words = words; had = had; stays = stays; same = is.same; are = is.are }

  -- where it is from
  by_origin : {cell : Cell} {others : List ℕ} → HasCell new cell others
      → (IsTrue (is_free_kind cell.layout.kind) → ⊥) → IsFrom old to cell → Origin old to cell others
  by_origin has not_free (IsFrom.stood was words had stays) = origin_of was words has had stays
  by_origin has not_free (IsFrom.free free none) = absurd (not_free free)

  -- each cell that is not free is from one that stays
  pub origin : {cell : Cell} {others : List ℕ} → HasCell new cell others
      → (IsTrue (is_free_kind cell.layout.kind) → ⊥) → Origin old to cell others
  origin {cell} {others} has not_free = by_origin has not_free (moved.back cell others has)

  -- the place of an object that stays is moved
  pub place_moved : {number at : ℕ} (now : ℕ) → IsPlace old number at → to at ≡ Some now → IsPlace new number now
  place_moved now place stays =
      let stood = moved.stands place.cell place.words now place.has (ap to place.stands ∙ stays) in
      record {
        cell = moved_to place.cell now;
        words = stood.others;
        has = stood.has;
        stands = refl;
        object = place.object;
        carries = place.carries;
      }

  -- what refers to a place that stays refers to where it stands
  pub refers_moved : {word now number : ℕ} → IsMovedWord to word now → RefersToPlace old word number
      → RefersToPlace new now number
  refers_moved moved_word refers =
      let there = referred refers.at moved_word refers.refers in
      record { at = there.now; refers = there.refers; place = place_moved there.now refers.place there.stays }

  -- the place of an object before it was moved
  pub record PlaceBefore (number now : ℕ) : Type 0 where
    pub at : ℕ
    pub place : IsPlace old number at
    pub stays : to at ≡ Some now

  -- each place is from one
  pub place_before : {number now : ℕ} → IsPlace new number now → PlaceBefore number now
  place_before {number} {now} place =
      let from = origin place.has (object_not_free place.cell.layout.kind place.object) in
      let was : Cell = from.was in
      let object : IsTrue (is_object_kind was.layout.kind) =
      subst (λ (one : Cell). IsTrue (is_object_kind one.layout.kind)) (sym from.same) place.object in
      record {
        at = was.at;
        place = record {
          cell = was;
          words = from.words;
          has = from.had;
          stands = refl;
          object = object;
          carries = ap (λ (one : Cell). one.header.object) from.same ∙ place.carries;
        };
        stays = from.stays ∙ ap (λ n. Some n) place.stands;
      }
