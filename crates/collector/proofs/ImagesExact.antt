-- An image keeps exactly what can be reached, and its dead words are in free runs, if it is so in the heap.
use Rattle.std.proofs.Common.{ℕ, List, sym, subst}
use Rattle.heap_model.specs.Types.{Cell}
use Rattle.heap_model.specs.Heaps.{Heap}
use Rattle.heap_model.specs.Changes.{written}
use Rattle.heap_model.specs.Slots.{IsPlace, RefersTo}
use Rattle.heap_model.specs.Wholeness.{HasSlotAt, NamesFrom}
use Rattle.heap_model.specs.Showing.{Shows}
use Rattle.live_cells.specs.Exact.{IsNamedByObject, Exact}
use Rattle.live_cells.specs.Fitting.{DeadIsFree}
use Rattle.collector.specs.ImageLaws.{ImagesAreExact, ImagesKeepDead}
use Rattle.collector.proofs.CopiedCells.{Copying, cell_stays, cell_stood}
use Rattle.collector.proofs.ImagesShow.{image_is, copying, images_show}

-- the place of an object in the image is its place in the heap
place_stood : {heap : Heap} {words : List ℕ} {number at : ℕ} → Copying heap words
    → IsPlace (written heap words) number at → IsPlace heap number at
place_stood copied place = record {
  cell = place.cell;
  words = place.words;
  has = cell_stood copied place.has;
  stands = place.stands;
  object = place.object;
  carries = place.carries;
}

-- a word refers to the same cell
refers_stays : {heap : Heap} {words : List ℕ} {word : ℕ} {cell : Cell} {others : List ℕ} → Copying heap words
    → RefersTo heap word cell others → RefersTo (written heap words) word cell others
refers_stays copied to = record { refers = to.refers; has = cell_stays copied to.has }

-- an object's cell has the same slots
slot_stays : {heap : Heap} {words : List ℕ} (owner : Cell) (of_owner : List ℕ) (slot word : ℕ) → Copying heap words
    → HasSlotAt heap owner of_owner slot word → HasSlotAt (written heap words) owner of_owner slot word
slot_stays owner of_owner _ _ copied (HasSlotAt.own offset word visited holds) =
    HasSlotAt.own offset word visited holds
slot_stays owner of_owner _ _ copied (HasSlotAt.beside store other others offset word first to visited holds) =
    HasSlotAt.beside store other others offset word first (refers_stays copied to) visited holds

-- what an object's cell names in the heap, one names in the image
named_stays : {heap : Heap} {words : List ℕ} {at : ℕ} → Copying heap words → IsNamedByObject heap at
    → IsNamedByObject (written heap words) at
named_stays {heap} {words} {at} copied by =
    let names = by.names in
    let there : NamesFrom (written heap words) by.owner by.slot at = record {
      words = names.words;
      has = cell_stays copied names.has;
      object = names.object;
      word = names.word;
      of_owner = slot_stays by.owner names.words by.slot names.word copied names.of_owner;
      cell = names.cell;
      others = names.others;
      refers = refers_stays copied names.refers;
      owned = names.owned;
      at = names.at;
    } in
    record { owner = by.owner; slot = by.slot; names = there }

-- an image of an exact heap is exact
pub images_are_exact : ImagesAreExact
images_are_exact heap image graph exact is =
    let keeps = exact.keeps in
    let copied = copying keeps.shows.whole is in
    let other : Heap = written heap image.words in
    let same = image_is heap image is in
    let shows = subst (λ (one : Heap). Shows one graph) same (images_show heap image graph keeps.shows is) in
    let there : Exact other graph = record {
      keeps = record {
        shows = shows;
        reached = λ number at place. keeps.reached number at (place_stood copied place);
        named = λ cell words has owned. named_stays copied (keeps.named cell words (cell_stood copied has) owned);
      };
      packed = λ cell words has free. exact.packed cell words (cell_stood copied has) free;
    } in
    subst (λ (one : Heap). Exact one graph) (sym same) there

-- where each dead word of a page is in a free run, it is so in an image
pub images_keep_dead : ImagesKeepDead
images_keep_dead heap image rows whole dead is =
    let copied = copying whole is in
    subst (λ (one : Heap). DeadIsFree one rows) (sym (image_is heap image is))
    (λ at below none. dead at below
    (λ cell words has word.
    let not = none cell words (cell_stays copied has) word in
    (not.0, λ named. not.1 (named_stays copied named))))
