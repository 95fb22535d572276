-- How many slots the stores of objects have, where the words that refer to them stay.
use Rattle.std.proofs.Common.{◌≡◌, ℕ, ◌+◌, inl, inr, List, [], Option, Some, None}
use Rattle.std.proofs.Common.{IsTrue, slice_get, unwrap_or, refl, sym, ◌∙◌, ap, subst}
use Rattle.std.proofs.lemmas.Bool.{false≢true}
use Rattle.heap_model.specs.Types.{Kind, Cell}
use Rattle.tagged_word.specs.declared.layout.Kind.TheVariants as kind
use Rattle.tagged_word.specs.declared.word.Class.TheVariants.{Ref}
use Rattle.tagged_word.specs.Words.{IsClass}
use Rattle.tagged_word.specs.Cells.{store_slot, length_offset, has_length, length_by, is_object_kind}
use Rattle.tagged_word.specs.Readings.{reference_in}
use Rattle.tagged_word.proofs.Readings.{reference_from, reference_to}
use Rattle.heap_model.specs.Heaps.{Heap, HasCell, words_of_cell}
use Rattle.heap_model.specs.Slots.{reference_word, undefined_word, RefersTo, IsPlace}
use Rattle.heap_model.specs.Kinds.{HasWord, IsSoundOf}
use Rattle.heap_model.specs.Wholeness.{Whole, NamesFrom}
use Rattle.heap_model.specs.Needs.{word_at, capacity_at, capacity_by}
use Rattle.heap_model.proofs.BoundHeaps.{none_in}
use Rattle.heap_model.proofs.CellsApart.{has_is_cell}
use Rattle.heap_model.proofs.CellOutcomes.{CellsMove, object_is_no_filler, owned_is_no_filler, stays_standing}
use Rattle.heap_model.proofs.OneOwner.{names_store}
use Rattle.heap_model.proofs.SlotWords.{IsStoreKind, IsStoreWord, store_is_owned, store_word}
use Rattle.heap_model.proofs.WordClasses.{same_reference}
use Rattle.object_cells.proofs.CellsRead.{word_stands}

-- the capacity of a store is read by the word that refers to it
pub capacity_read : (heap : Heap) (object word : ℕ) → slice_get heap.words (object + store_slot) ≡ Some word
    → capacity_at heap object ≡ capacity_by heap (reference_in word)
capacity_read heap object word there = ap (λ found. capacity_by heap (reference_in (unwrap_or found 0))) there

-- a word that refers to nothing stands for no slots
pub capacity_of_none : (heap : Heap) (object : ℕ) → slice_get heap.words (object + store_slot) ≡ Some undefined_word
    → capacity_at heap object ≡ 0
capacity_of_none heap object there = capacity_read heap object undefined_word there

-- the length of a store or a table is its second word
pub length_stands : {heap : Heap} {cell : Cell} {words : List ℕ} → HasCell heap cell words
    → IsStoreKind cell.layout.kind → slice_get heap.words (cell.at + length_offset) ≡ Some cell.length
length_stands {heap} {cell} has (inl is) =
    subst (λ k. length_by (has_length k) (slice_get heap.words (cell.at + length_offset)) ≡ Some cell.length) is
    (has_is_cell has).reads.second
length_stands {heap} {cell} has (inr is) =
    subst (λ k. length_by (has_length k) (slice_get heap.words (cell.at + length_offset)) ≡ Some cell.length) is
    (has_is_cell has).reads.second

-- and so many slots it has
pub capacity_of_store : {heap : Heap} {cell : Cell} {words : List ℕ} (object : ℕ) → HasCell heap cell words
    → IsStoreKind cell.layout.kind → IsClass (Ref cell.at)
    → slice_get heap.words (object + store_slot) ≡ Some (reference_word cell.at) → capacity_at heap object ≡ cell.length
capacity_of_store {heap} {cell} object has store fits there =
    capacity_read heap object (reference_word cell.at) there
    ∙ ap (capacity_by heap) (reference_to (reference_word cell.at) cell.at fits refl)
    ∙ ap (λ found. unwrap_or found 0) (length_stands has store)

-- where it stands, the store to which a word refers has as many slots as before
capacity_by_reference : {old new : Heap} {cell : Cell} {words : List ℕ} (word : ℕ) (found : Option ℕ)
    → HasCell new cell (words_of_cell new cell) → RefersTo old word cell words → IsStoreKind cell.layout.kind
    → reference_in word ≡ found → capacity_by new found ≡ capacity_by old found
capacity_by_reference word None stands refers store read = refl
capacity_by_reference {old} {new} {cell} {words} word (Some at) stands refers store read =
    let same : cell.at ≡ at = same_reference cell.at at (sym refers.refers ∙ (reference_from word at read).1) in
    let now : word_at new (cell.at + length_offset) ≡ cell.length =
    ap (λ found. unwrap_or found 0) (length_stands stands store) in
    let was : word_at old (cell.at + length_offset) ≡ cell.length =
    ap (λ found. unwrap_or found 0) (length_stands refers.has store) in
    subst (λ n. capacity_by new (Some n) ≡ capacity_by old (Some n)) same (now ∙ sym was)

-- the store or table that the object names in its slot for it stands in the new heap
abbrev pub StoreStands : Heap → Heap → Cell → Type 0
StoreStands old new owner =
    (store : Cell) (words : List ℕ) → NamesFrom old owner (owner.at + store_slot) store.at → HasCell old store words
    → IsStoreKind store.layout.kind → HasCell new store (words_of_cell new store)

-- whatever the slot for a store holds, it stands for as many slots as before
capacity_by_word : {old new : Heap} {owner : Cell} {words : List ℕ} (word : ℕ) → StoreStands old new owner
    → HasCell old owner words → IsTrue (is_object_kind owner.layout.kind) → HasWord words store_slot word
    → IsStoreWord old word → capacity_by new (reference_in word) ≡ capacity_by old (reference_in word)
capacity_by_word {old} {new} word stand has object slot (IsStoreWord.none is) =
    subst (λ one. capacity_by new (reference_in one) ≡ capacity_by old (reference_in one)) (sym is) refl
capacity_by_word word stand has object slot (IsStoreWord.store cell words refers store) =
    capacity_by_reference word (reference_in word)
    (stand cell words (names_store word has object slot refers store) refers.has store) refers store refl

-- an object has a slot for a store, kind by kind
store_there_of : (heap : Heap) (cell : Cell) (words : List ℕ) (k : Kind) → IsTrue (is_object_kind k)
    → IsSoundOf k heap cell words → (word : ℕ) × HasWord words store_slot word
store_there_of heap cell words kind.Plain object sound = (sound.has.store, sound.has.slot)
store_there_of heap cell words kind.List object sound = (sound.store, sound.slot)
store_there_of heap cell words kind.Weak object sound = (sound.store, sound.slot)
store_there_of heap cell words _ object sound = absurd (false≢true object)

-- where the word of this slot stays, so does the capacity
pub slot_keeps : {old new : Heap} {cell : Cell} {words : List ℕ} → Whole old → StoreStands old new cell
    → HasCell old cell words → IsTrue (is_object_kind cell.layout.kind)
    → slice_get new.words (cell.at + store_slot) ≡ slice_get old.words (cell.at + store_slot)
    → capacity_at new cell.at ≡ capacity_at old cell.at
slot_keeps {old} {new} {cell} {words} whole stand has object stays =
    let store = store_there_of old cell words cell.layout.kind object (whole.sound cell words has) in
    let was = word_stands store_slot store.0 has store.1 in
    capacity_read new cell.at store.0 (stays ∙ was)
    ∙ capacity_by_word store.0 stand has object store.1 (store_word store.0 whole has object store.1)
    ∙ sym (capacity_read old cell.at store.0 was)

-- an object whose cell stands with the words that it had keeps its capacity
pub place_keeps : {old new : Heap} {number : ℕ} (at : ℕ) → Whole old → (place : IsPlace old number at)
    → StoreStands old new place.cell → HasCell new place.cell place.words → capacity_at new at ≡ capacity_at old at
place_keeps {old} {new} at whole place stand now =
    let cell : Cell = place.cell in
    let store = store_there_of old cell place.words cell.layout.kind place.object
    (whole.sound cell place.words place.has) in
    let stays : slice_get new.words (cell.at + store_slot) ≡ slice_get old.words (cell.at + store_slot) =
    word_stands store_slot store.0 now store.1 ∙ sym (word_stands store_slot store.0 place.has store.1) in
    subst (λ n. capacity_at new n ≡ capacity_at old n) place.stands
    (slot_keeps whole stand place.has place.object stays)

-- a cell that stands has the words that stand there
pub stands_there : {heap : Heap} {cell : Cell} {words : List ℕ} → HasCell heap cell words
    → HasCell heap cell (words_of_cell heap cell)
stands_there {heap} {cell} has = subst (HasCell heap cell) (sym has.words_are) has

-- where no cell went, each object keeps its capacity
pub kept_where_none_went : {old new : Heap} {number : ℕ} {made : List Cell} (at : ℕ) → Whole old
    → CellsMove old new [] [] made → IsPlace old number at → capacity_at new at ≡ capacity_at old at
kept_where_none_went at whole cells place =
    place_keeps at whole place (λ cell words names has store.
    stands_there (stays_standing cells has (owned_is_no_filler cell.layout.kind (store_is_owned store)) (none_in cell)))
    (stays_standing cells place.has (object_is_no_filler place.cell.layout.kind place.object) (none_in place.cell))
