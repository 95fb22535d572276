-- The store beside an object, as it is found by the word of its slot.
use Rattle.std.proofs.Common.{◌≡◌, ℕ, ◌+◌, ◌<◌, inl, inr, List, length, drop, Some, None}
use Rattle.std.proofs.Common.{slice_get, unwrap_or, refl, sym, ◌∙◌, ap, subst, arith, length-drop}
use Rattle.std.proofs.lemmas.Bool.{cases_lt}
use Rattle.std.proofs.lemmas.Option.{same_Some}
use Rattle.tagged_word.specs.declared.layout.Kind.TheVariants as kind
use Rattle.tagged_word.specs.Cells.{store_head, store_slot}
use Rattle.tagged_word.specs.Readings.{reference_in}
use Rattle.tagged_word.proofs.Readings.{reference_from}
use Rattle.page_space.specs.Sizes.{AreWithin}
use Rattle.page_space.proofs.Starts.{marks_start_is}
use Rattle.heap_model.specs.Types.{Cell}
use Rattle.cell_layout.proofs.OneCell.{cells_have_words}
use Rattle.heap_model.specs.Heaps.{Heap, HasCell}
use Rattle.heap_model.specs.Slots.{reference_word, RefersTo, HoldsStore}
use Rattle.heap_model.specs.Kinds.{HasWord}
use Rattle.heap_model.specs.Wholeness.{Whole}
use Rattle.heap_model.specs.Needs.{capacity_by}
use Rattle.heap_model.proofs.CellOutcomes.{owned_is_no_filler}
use Rattle.heap_model.proofs.CellsApart.{has_is_cell, one_at, one_words}
use Rattle.heap_model.proofs.SlotWords.{store_is_owned}
use Rattle.heap_model.proofs.CellWords.{words_by_kind, words_are_size}
use Rattle.heap_model.proofs.WordClasses.{same_reference, undefined_refers_not}
use Rattle.object_cells.specs.declared.stores.Store.{Store}
use Rattle.object_cells.specs.Made.{HasStoreSlot, IsStoreAt}
use Rattle.object_cells.proofs.CellsRead.{cell_before_marks, word_is}
use Rattle.object_cells.proofs.KeptCapacities.{capacity_read, length_stands}
use Rattle.heap_model.proofs.OneBeside.{one_beside}
use Rattle.object_cells.proofs.SlotPlaces.{beside_refers}

-- a store stands at the address, to which the word refers, and these are its slots
pub record IsFoundStore (heap : Heap) (word : ℕ) (beside : List ℕ) (at : ℕ) : Type 0 where
  pub cell : Cell
  pub words : List ℕ
  pub refers : RefersTo heap word cell words
  pub stands : cell.at ≡ at
  pub of_kind : cell.layout.kind ≡ kind.Store
  pub are : beside ≡ drop store_head words
  pub long : length words ≡ store_head + cell.length
  pub size : cell.size ≡ store_head + cell.length
  pub counted : slice_get heap.words (at + 1) ≡ Some cell.length

-- a store to which the word refers is found
pub found_store : {heap : Heap} (word : ℕ) (beside : List ℕ) (at : ℕ) → HoldsStore heap kind.Store word beside
    → word ≡ reference_word at → IsFoundStore heap word beside at
found_store word beside at HoldsStore.none is = absurd (undefined_refers_not at is)
found_store {heap} word beside at (HoldsStore.store to cell words refers of_kind) is =
    let same : cell.at ≡ at = same_reference cell.at at (sym refers.refers ∙ is) in
    let long = words_by_kind kind.Store refers.has of_kind in
    record {
      cell = cell;
      words = words;
      refers = refers;
      stands = same;
      of_kind = of_kind;
      are = refl;
      long = long;
      size = sym (words_are_size refers.has) ∙ long;
      counted = ap (λ n. slice_get heap.words (n + 1)) (sym same) ∙ length_stands refers.has (inl of_kind);
    }

-- what was read of a store is found
pub record ReadStore (heap : Heap) (at : ℕ) : Type 0 where
  pub word : ℕ
  pub beside : List ℕ
  pub found : IsFoundStore heap word beside at

-- so is that to which an object's slot for a store refers
pub read_store : {heap : Heap} (object word at : ℕ) → HasStoreSlot heap object
    → slice_get heap.words (object + 1) ≡ Some word → reference_in word ≡ Some at → ReadStore heap at
read_store object word at there stands refers =
    let read = word_is 1 there.word word object there.has there.stands there.slot stands in
    record {
      word = there.word;
      beside = there.beside;
      found = found_store there.word there.beside at there.are (sym read ∙ (reference_from word at refers).1);
    }

-- two cells at one address have one word in the slot for a store
pub same_store : {heap : Heap} {cell other : Cell} {words others : List ℕ} (a b : ℕ) → HasCell heap cell words
    → HasCell heap other others → cell.at ≡ other.at → HasWord words store_slot a → HasWord others store_slot b
    → a ≡ b
same_store {heap} {cell} {other} {words} {others} a b has has_other same one two =
    let cells : cell ≡ other = one_at has has_other same in
    let words_are : words ≡ others = one_words (subst (λ (c : Cell). HasCell heap c words) cells has) has_other in
    same_Some a b (sym one ∙ ap (λ all. slice_get all store_slot) words_are ∙ two)

-- what is read of a store is what stands beside the object
pub store_is : {heap : Heap} (object word at capacity : ℕ) → Whole heap → HasStoreSlot heap object
    → slice_get heap.words (object + 1) ≡ Some word → reference_in word ≡ Some at
    → slice_get heap.words (at + 1) ≡ Some capacity
    → IsStoreAt heap object (record { at = at; capacity = capacity })
store_is {heap} object word at capacity whole there stands refers counted =
    let is = word_is 1 there.word word object there.has there.stands there.slot stands in
    let found = found_store there.word there.beside at there.are (sym is ∙ (reference_from word at refers).1) in
    let long : found.cell.length ≡ capacity = same_Some _ _ (sym found.counted ∙ counted) in
    let bounds = cells_have_words heap.space heap.words found.cell (has_is_cell found.refers.has) in
    let beside_long : length there.beside ≡ capacity =
    omega (arith, ap length found.are, length-drop store_head found.words, found.long, long) in
    record {
      capacity = capacity_read heap object word stands ∙ ap (capacity_by heap) refers ∙ ap (λ o. unwrap_or o 0) counted;
      small = omega (arith, bounds.1, found.size, long);
      within = omega (arith, cell_before_marks whole.sized found.refers.has, found.size, long, found.stands);
      used = inr (record {
        cell = found.cell;
        words = found.words;
        has = found.refers.has;
        starts = found.stands;
        ends = omega (arith, found.size, long, found.stands);
        no_filler = owned_is_no_filler found.cell.layout.kind (store_is_owned (inl found.of_kind));
      });
      slots = λ other others more word_other has_other stands_other slot_other are_other.
          let same = same_store word_other there.word has_other there.has (stands_other ∙ sym there.stands) slot_other
          there.slot in
          ap length (one_beside word_other there.word more there.beside same are_other there.are) ∙ beside_long;
      refers = λ other others more word_other has_other stands_other slot_other are_other some.
          same_store word_other there.word has_other there.has (stands_other ∙ sym there.stands) slot_other there.slot
          ∙ sym is ∙ (reference_from word at refers).1;
    }

-- where nothing is read, nothing stands beside it
pub store_is_none : {heap : Heap} (object word : ℕ) → Whole heap
    → AreWithin heap.space.sizes heap.space.variables → HasStoreSlot heap object
    → slice_get heap.words (object + 1) ≡ Some word → reference_in word ≡ None
    → IsStoreAt heap object (record { at = 0; capacity = 0 })
store_is_none {heap} object word whole within there stands none =
    let is = word_is 1 there.word word object there.has there.stands there.slot stands in
    let short : length there.beside ≡ 0 = elim (cases_lt 0 (length there.beside)) [
      | inl some ↦
          absurd (beside_refers there.word there.beside 0 whole.sized within there.are some
          (ap reference_in (sym is) ∙ none))
      | inr few ↦ omega arith
    ] in
    record {
      capacity = capacity_read heap object word stands ∙ ap (capacity_by heap) none;
      small = omega arith;
      within = omega (arith, marks_start_is heap.space);
      used = inl refl;
      slots = λ other others more word_other has_other stands_other slot_other are_other.
          let same = same_store word_other there.word has_other there.has (stands_other ∙ sym there.stands) slot_other
          there.slot in
          ap length (one_beside word_other there.word more there.beside same are_other there.are) ∙ short;
      refers = λ other others more word_other has_other stands_other slot_other are_other some.
          absurd (omega (arith, some));
    }

-- the store that was read is found, and has so many slots
pub record StoredAt (heap : Heap) (word : ℕ) (beside : List ℕ) (store : Store) : Type 0 where
  pub found : IsFoundStore heap word beside store.at
  pub capacity : found.cell.length ≡ store.capacity

-- so it is where it has slots
pub stored_at : {heap : Heap} {cell : Cell} {words : List ℕ} (object word : ℕ) (beside : List ℕ) (store : Store)
    → IsStoreAt heap object store → HasCell heap cell words → cell.at ≡ object → HasWord words store_slot word
    → HoldsStore heap kind.Store word beside → 0 < store.capacity → StoredAt heap word beside store
stored_at {cell = cell} {words} object word beside store is has stands slot are some =
    let found = found_store word beside store.at are (is.refers cell words beside word has stands slot are some) in
    record {
      found = found;
      capacity = omega (
        arith,
        is.slots cell words beside word has stands slot are,
        ap length found.are,
        length-drop store_head found.words,
        found.long,
      );
    }
