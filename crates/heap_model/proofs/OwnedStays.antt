-- No two slots name one store, table or box after a change that is some objects' own.
use Rattle.std.proofs.Common.{◌≡◌, ℕ, ◌++◌, inl, inr, List, Contains, sym, ◌∙◌, subst}
use Rattle.heap_model.specs.Types.{Cell}
use Rattle.heap_model.specs.Heaps.{Heap, HasCell}
use Rattle.heap_model.specs.Slots.{RefersTo}
use Rattle.heap_model.specs.Wholeness.{HasSlotAt, NamesFrom, IsOwned}
use Rattle.heap_model.proofs.WordClasses.{same_reference, undefined_refers_not}
use Rattle.heap_model.proofs.CellsApart.{one_at, one_words}
use Rattle.heap_model.proofs.ObjectSlots.{store_slot_at}
use Rattle.heap_model.proofs.SlotWords.{IsStoreWord, store_is_owned, store_word}
use Rattle.heap_model.proofs.OneOwner.{one_owner}
use Rattle.heap_model.proofs.CellOutcomes.{object_is_no_filler, owned_is_no_filler, stays_standing}
use Rattle.heap_model.proofs.Moves.{Moves, place_stays}
use Rattle.heap_model.proofs.NamedBefore.{slot_named_before}
use Rattle.heap_model.proofs.KeptObjects.{Keeps, owned_stays}

-- a cell of the new heap at the address of one that stands in both is that one
stood_before : {old new : Heap} {cell other : Cell} {words others : List ℕ} → HasCell old cell words
    → HasCell new cell words
    → HasCell new other others → cell.at ≡ other.at → HasCell old other others
stood_before {old} {new} {cell} {other} {words} {others} had has has_other at =
    let same : cell ≡ other = one_at has has_other at in
    let Had : Cell → Type 0 = λ one. HasCell old one words in
    let Has : Cell → Type 0 = λ one. HasCell new one words in
    subst (HasCell old other) (one_words (subst Has same has) has_other) (subst Had same had)

-- the store to which a slot of a kept object refers is the one to which it referred
store_before : {old new : Heap} {gone came made : List Cell} {owner other : Cell}
    {words others : List ℕ} {slot store : ℕ}
    → Moves old new gone came made → Keeps old new gone owner words → HasSlotAt old owner words slot store
    → IsStoreWord old store → RefersTo new store other others → RefersTo old store other others
store_before {other = other} moves keeps at (IsStoreWord.none is) refers =
    absurd (undefined_refers_not other.at (sym is ∙ refers.refers))
store_before {old} {new} {other = other} moves keeps at (IsStoreWord.store cell words target is) refers =
    let stays = owned_stays moves keeps at target (store_is_owned is) in
    let same = same_reference cell.at other.at (sym target.refers ∙ refers.refers) in
    record { refers = refers.refers; has = stood_before target.has stays.has refers.has same }

-- the slots of a kept object are those that it had
slot_before : {old new : Heap} {gone came made : List Cell} {owner : Cell} {words : List ℕ} {slot word : ℕ}
    → Moves old new gone came made → Keeps old new gone owner words → HasSlotAt new owner words slot word
    → HasSlotAt old owner words slot word
slot_before moves keeps (HasSlotAt.own offset word there stands) = HasSlotAt.own offset word there stands
slot_before moves keeps (HasSlotAt.beside store other others offset word slot refers there stands) =
    let is = store_word store moves.whole keeps.had keeps.object slot in
    let before = store_before moves keeps (store_slot_at store keeps.object slot) is refers in
    HasSlotAt.beside store other others offset word slot before there stands

-- what an object that did not go names it named before
names_before : {old new : Heap} {gone came made : List Cell} {owner : Cell} {words : List ℕ} {slot named : ℕ}
    → Moves old new gone came made → HasCell old owner words → (Contains gone owner → ⊥)
    → NamesFrom new owner slot named → NamesFrom old owner slot named
names_before {old} {new} {gone} {owner = owner} {words} {slot} moves had not_gone names =
    let has = stays_standing moves.cells had (object_is_no_filler owner.layout.kind names.object) not_gone in
    let keeps : Keeps old new gone owner words =
    record { had = had; has = has; not_gone = not_gone; object = names.object } in
    let at_new = subst (λ all. HasSlotAt new owner all slot names.word) (one_words names.has has) names.of_owner in
    let before = slot_named_before moves.whole (place_stays moves) had names.object (slot_before moves keeps at_new)
    names.refers names.owned in
    subst (NamesFrom old owner slot) names.at before

-- what an object that did not go names, none of those that came or were made names
named_apart : {old new : Heap} {gone came made : List Cell} {owner another : Cell} {slot other named : ℕ}
    → Moves old new gone came made → NamesFrom old owner slot named → (Contains gone owner → ⊥)
    → Contains (came ++ made) another → NamesFrom new another other named → ⊥
named_apart {gone = gone} {owner = owner} {another} {other = other} {named} moves names not_gone comes names_too =
    elim (moves.own.named another other named comes names_too) [
      | inl before ↦ not_gone (subst (Contains gone) (one_owner moves.whole before.1.2 names) before.1.1)
      | inr new_place ↦
          owned_is_no_filler names.cell.layout.kind names.owned
          (new_place names.cell names.others names.refers.has names.at)
    ]

-- no two slots of the new heap name one cell
pub owned_stays_owned : {old new : Heap} {gone came made : List Cell} → Moves old new gone came made → IsOwned new
owned_stays_owned moves owner another slot other named names names_too =
    elim (moves.cells.back owner names.words names.has) [
      | inl comes ↦ elim (moves.cells.back another names_too.words names_too.has) [
        | inl comes_too ↦ moves.own.once owner another slot other named comes comes_too names names_too
        | inr stays_too ↦
            absurd (named_apart moves (names_before moves stays_too.0 stays_too.1 names_too) stays_too.1 comes names)
      ]
      | inr stays ↦
          let before = names_before moves stays.0 stays.1 names in
          elim (moves.cells.back another names_too.words names_too.has) [
            | inl comes_too ↦ absurd (named_apart moves before stays.1 comes_too names_too)
            | inr stays_too ↦
                moves.whole.owned owner another slot other named before
                (names_before moves stays_too.0 stays_too.1 names_too)
          ]
    ]
