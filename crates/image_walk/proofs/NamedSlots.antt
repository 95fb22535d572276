-- The slots that name a store, a weak table or a box, as slots of some object.
use Rattle.std.proofs.Common.{refl, sym, ◌∙◌, ap, subst, ◌≡◌, ℕ}
use Rattle.heap_model.specs.Types.{Cell}
use Rattle.heap_model.specs.Heaps.{Heap, HasCell, words_of_cell}
use Rattle.heap_model.specs.Slots.{reference_word}
use Rattle.heap_model.specs.Wholeness.{HasSlotAt, IsOwnedKind, NamesFrom}
use Rattle.image_walk.specs.Spans.{StandsIn}
use Rattle.image_walk.specs.Naming.{IsSomeSlot}

-- a slot that names a cell is some object's, and refers to its address
pub some_slot : {heap : Heap} {owner : Cell} {slot named : ℕ} → NamesFrom heap owner slot named
    → IsSomeSlot heap named slot
some_slot {heap} {owner} {slot} {named} names =
    let refers : names.word ≡ reference_word named = names.refers.refers ∙ ap reference_word names.at in
    let same = sym names.has.words_are in
    record {
      owner = owner;
      stands = subst (HasCell heap owner) same names.has;
      is = record {
        object = names.object;
        is = subst (λ word. HasSlotAt heap owner (words_of_cell heap owner) slot word) refers
            (subst (λ words. HasSlotAt heap owner words slot names.word) same names.of_owner);
      };
    }

-- and the other way round, where a store, a weak table or a box stands there
pub names_from : {heap : Heap} {slot : ℕ} (cell : Cell) → StandsIn heap cell → IsOwnedKind cell.layout.kind
    → (some : IsSomeSlot heap cell.at slot) → NamesFrom heap some.owner slot cell.at
names_from {heap} cell stands owned some = record {
  words = words_of_cell heap some.owner;
  has = some.stands;
  object = some.is.object;
  word = reference_word cell.at;
  of_owner = some.is.is;
  cell = cell;
  others = words_of_cell heap cell;
  refers = record { refers = refl; has = stands };
  owned = owned;
  at = refl;
}
