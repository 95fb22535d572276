-- A change of cells that is some objects' own: what its objects name and what others name stays apart; dead boxes stay
-- boxes.
use Rattle.std.proofs.Common.{◌≡◌, ℕ, inl, inr, List, Contains, IsTrue, ℤ}
use Rattle.std.proofs.Common.{sym, ◌∙◌, ap, subst}
use Rattle.std.proofs.lemmas.List.Elements.{Contains-append_left}
use Rattle.heap_model.specs.Types.{Cell}
use Rattle.heap_model.specs.Heaps.{Heap, HasCell, words_of_cell}
use Rattle.tagged_word.specs.Cells.{is_object_kind}
use Rattle.heap_model.specs.Slots.{reference_word, RefersToBox}
use Rattle.heap_model.specs.Slots.{IsSlotWord}
use Rattle.heap_model.specs.Kinds.{IsSoundOf, IsBoxCell}
use Rattle.heap_model.specs.Wholeness.{IsOwnedKind, NamesFrom, Whole}
use Rattle.heap_model.specs.Changes.{IsOwnOf, IsOwnChange}
use Rattle.heap_model.proofs.CellsApart.{one_at}
use Rattle.heap_model.proofs.WordsStay.{PlacesStay, slot_word_stays}
use Rattle.heap_model.proofs.CellOutcomes.{CellsMove, Fate, fate, places_stay, box_is_no_filler}
use Rattle.heap_model.proofs.OneOwner.{object_is_not_owned, one_owner}

-- the cells of a whole heap change, and this change is some objects' own
pub record Moves (old new : Heap) (gone came made : List Cell) : Type 0 where
  pub whole : Whole old
  pub cells : CellsMove old new gone came made
  pub own : IsOwnChange old new gone came made

-- the places of objects stay
pub place_stays : {old new : Heap} {gone came made : List Cell} → Moves old new gone came made → PlacesStay old new
place_stays moves = places_stay moves.cells moves.own.objects_stay

-- what an object names that did not go did not go
pub named_stays : {old new : Heap} {gone came made : List Cell} {owner cell : Cell} {words : List ℕ} {slot named : ℕ}
    → Moves old new gone came made → NamesFrom old owner slot named → (Contains gone owner → ⊥)
    → HasCell old cell words → cell.at ≡ named → Contains gone cell → ⊥
named_stays {old} {gone = gone} {owner = owner} {cell} {named = named} moves names stays has at went =
    let own : IsOwnOf old gone cell = moves.own.own cell went in
    let same : names.cell ≡ cell = one_at names.refers.has has (names.at ∙ sym at) in
    let owned : IsOwnedKind cell.layout.kind = subst (λ (one : Cell). IsOwnedKind one.layout.kind) same names.owned in
    elim own.own [
      | inl is ↦
          let object : IsTrue (is_object_kind cell.layout.kind) =
          subst (λ (one : Cell). IsTrue (is_object_kind one.layout.kind)) (sym is) own.object in
          object_is_not_owned cell.layout.kind object owned
      | inr other ↦
          let other_names : NamesFrom old own.owner other.0 named =
          subst (NamesFrom old own.owner other.0) at other.1 in
          let one : own.owner ≡ owner = one_owner moves.whole other_names names in
          stays (subst (Contains gone) one own.among)
    ]

-- a box stays one, of whatever integer
box_stays : {old new : Heap} {gone came made : List Cell} {word : ℕ} {v : ℤ} → Moves old new gone came made
    → RefersToBox old word v → (w : ℤ) × RefersToBox new word w
box_stays {old} {new} {gone} {came} {made} {word} {v} moves box =
    elim (fate moves.cells box.target.has (box_is_no_filler box.cell.layout.kind box.box)) [
      | Fate.has_gone there ↦
          let still = moves.own.boxes_stay box.cell there box.box in
          let other : Cell = still.other in
          let among = Contains-append_left came made other still.among in
          let sound : IsBoxCell other (words_of_cell new other) =
          subst (λ k. IsSoundOf k new other (words_of_cell new other)) still.box (moves.own.sound other among) in (
            sound.integer,
            record {
              cell = other;
              words = words_of_cell new other;
              target = record {
                refers = box.target.refers ∙ ap reference_word (sym still.place);
                has = moves.cells.comes other among;
              };
              box = still.box;
              holds = sound.holds;
              fits = sound.fits;
            },
          )
      | Fate.stands has not_gone ↦ (
        v,
        record {
          cell = box.cell;
          words = box.words;
          target = record { refers = box.target.refers; has = has };
          box = box.box;
          holds = box.holds;
          fits = box.fits;
        },
      )
    ]

-- a slot word stays one
pub slot_words_stay : {old new : Heap} {gone came made : List Cell} (word : ℕ) → Moves old new gone came made
    → IsSlotWord old word → IsSlotWord new word
slot_words_stay word moves is = slot_word_stays word (place_stays moves) (λ v box. box_stays moves box) is
