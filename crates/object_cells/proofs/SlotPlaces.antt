-- Where the slots of a plain object stand.
use Rattle.std.proofs.Common.{◌≡◌, ℕ, ◌+◌, ◌-◌, ◌≤◌, ◌<◌, List, length, drop, Some, None}
use Rattle.std.proofs.Common.{slice_get}
use Rattle.std.proofs.Common.{get_or, refl, sym}
use Rattle.std.proofs.Common.{◌∙◌, ap, subst, arith, length-drop, length-append}
use Rattle.std.proofs.lemmas.Option.{slice_get_within, slice_get-get_or, none-some}
use Rattle.tagged_word.specs.declared.layout.Kind.TheVariants as kind
use Rattle.tagged_word.specs.Layouts.{HasInObjectSlots, IsLayoutOfKind}
use Rattle.tagged_word.specs.Cells.{plain_head, store_head}
use Rattle.tagged_word.specs.Readings.{reference_in}
use Rattle.tagged_word.proofs.Readings.{reference_from, reference_to}
use Rattle.page_space.specs.Sizes.{AreWithin}
use Rattle.page_space.specs.Extents.{marks_start}
use Rattle.heap_model.specs.Types.{Cell}
use Rattle.heap_model.specs.Heaps.{Heap, HasCell}
use Rattle.heap_model.specs.Slots.{HoldsStore}
use Rattle.heap_model.specs.Kinds.{HasWord, HasSlots}
use Rattle.heap_model.specs.Wholeness.{HasSizes}
use Rattle.heap_model.proofs.CellsApart.{has_is_cell}
use Rattle.heap_model.proofs.CellWords.{slice_get-drop, slice_get-append_left, slice_get-append_right, words_by_kind}
use Rattle.heap_model.proofs.CellWords.{words_are_size}
use Rattle.heap_model.proofs.WordClasses.{same_reference}
use Rattle.object_cells.proofs.CellsRead.{word_stands, cell_before_marks}
use Rattle.object_cells.proofs.WordsTold.{cell_fits}

-- a plain object has as many words as its cap, and those of its head
plain_words : {heap : Heap} {cell : Cell} {words : List ℕ} → HasCell heap cell words → cell.layout.kind ≡ kind.Plain
    → length words ≡ plain_head + cell.layout.cap
plain_words has plain = words_by_kind kind.Plain has plain

-- no more in-object slots are used than there are
pub used_within : {heap : Heap} {cell : Cell} {words : List ℕ} → HasCell heap cell words → cell.layout.kind ≡ kind.Plain
    → cell.layout.used ≤ cell.layout.cap
used_within {cell = cell} has plain =
    let is : HasInObjectSlots cell.layout =
    subst (λ k. IsLayoutOfKind k cell.layout) plain (has_is_cell has).reads.is_layout in
    is.used

-- a slot below the cap stands in the object
pub own_slot : {heap : Heap} {cell : Cell} {words slots : List ℕ} (slot : ℕ) → HasCell heap cell words
    → cell.layout.kind ≡ kind.Plain → HasSlots heap words slots → slot < cell.layout.cap
    → slice_get heap.words (cell.at + (plain_head + slot)) ≡ slice_get slots slot
own_slot {heap} {cell} {words} {slots} slot has plain are below =
    let own : List ℕ = drop plain_head words in
    let word : ℕ = get_or words (plain_head + slot) 0 in
    let there : HasWord words (plain_head + slot) word =
    slice_get-get_or words (plain_head + slot) 0 (omega (arith, plain_words has plain)) in
    let within : slot < length own = omega (arith, plain_words has plain, length-drop plain_head words) in
    word_stands (plain_head + slot) word has there
    ∙ sym (ap (λ all. slice_get all slot) are.are ∙ slice_get-append_left own are.beside slot within
    ∙ slice_get-drop plain_head words slot (plain_head + slot) refl ∙ there)

-- and before the marks
pub own_slot_within : {heap : Heap} {cell : Cell} {words : List ℕ} (slot : ℕ) → HasSizes heap → HasCell heap cell words
    → cell.layout.kind ≡ kind.Plain → slot < cell.layout.cap → cell.at + (plain_head + slot) < marks_start heap.space
own_slot_within slot sized has plain below =
    omega (arith, plain_words has plain, words_are_size has, cell_before_marks sized has)

-- so does the slot of the store
pub store_within : {heap : Heap} {cell : Cell} {words : List ℕ} → HasSizes heap → HasCell heap cell words
    → cell.layout.kind ≡ kind.Plain → cell.at + 1 < marks_start heap.space
store_within sized has plain = omega (arith, plain_words has plain, words_are_size has, cell_before_marks sized has)

-- the word at an address is one of the heap's
pub record StandsAt (heap : Heap) (at word : ℕ) : Type 0 where
  pub stands : slice_get heap.words at ≡ Some word
  pub within : at < marks_start heap.space

-- a word of the store to which the word refers
pub beside_word : {heap : Heap} (word : ℕ) (beside : List ℕ) (store k x : ℕ) → HasSizes heap
    → HoldsStore heap kind.Store word beside → reference_in word ≡ Some store → HasWord beside k x
    → StandsAt heap (store + (2 + k)) x
beside_word word beside store k x sized HoldsStore.none is there = absurd (none-some x there)
beside_word {heap} word beside store k x sized (HoldsStore.store to cell words refers of_kind) is there =
    let same : cell.at ≡ store = same_reference cell.at store (sym refers.refers ∙ (reference_from word store is).1) in
    let here : HasWord words (2 + k) x = sym (slice_get-drop store_head words k (2 + k) refl) ∙ there in
    record {
      stands = ap (λ at. slice_get heap.words (at + (2 + k))) (sym same) ∙ word_stands (2 + k) x refers.has here;
      within = omega (
        arith,
        slice_get_within words (2 + k) x here,
        words_are_size refers.has,
        cell_before_marks sized refers.has,
        same,
      );
    }

-- a word beside which there is something refers to a store
pub beside_refers : {heap : Heap} (word : ℕ) (beside : List ℕ) (k : ℕ) → HasSizes heap
    → AreWithin heap.space.sizes heap.space.variables → HoldsStore heap kind.Store word beside → k < length beside
    → reference_in word ≡ None → ⊥
beside_refers word beside k sized within HoldsStore.none below none = omega arith
beside_refers word beside k sized within (HoldsStore.store to cell words refers of_kind) below none =
    none-some cell.at (sym none ∙ reference_to word cell.at (cell_fits sized within refers.has) refers.refers)

-- a slot from the cap on is one of the store
pub behind_cap : {heap : Heap} {cell : Cell} {words slots : List ℕ} (slot cap : ℕ) → HasCell heap cell words
    → cell.layout.kind ≡ kind.Plain → (are : HasSlots heap words slots) → cell.layout.cap ≡ cap → cap ≤ slot
    → slice_get are.beside (slot - cap) ≡ slice_get slots slot
behind_cap {words = words} slot cap has plain are caps from =
    let own : List ℕ = drop plain_head words in
    let long : length own + (slot - cap) ≡ slot = omega (arith, plain_words has plain, length-drop plain_head words) in
    sym (ap (λ all. slice_get all slot) are.are ∙ slice_get-append_right own are.beside (slot - cap) slot long)

-- and there are as many behind it as slots
pub behind_cap_below : {heap : Heap} {cell : Cell} {words slots : List ℕ} (slot cap : ℕ) → HasCell heap cell words
    → cell.layout.kind ≡ kind.Plain → (are : HasSlots heap words slots) → cell.layout.cap ≡ cap → cap ≤ slot
    → slot < length slots → slot - cap < length are.beside
behind_cap_below {words = words} slot cap has plain are caps from below =
    let own : List ℕ = drop plain_head words in
    omega (arith, plain_words has plain, length-drop plain_head words, ap length are.are, length-append own are.beside)
