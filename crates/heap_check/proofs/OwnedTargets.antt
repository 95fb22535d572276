-- What a word refers to that one slot alone may name.
use Rattle.std.proofs.Common.{◌≡◌, ℕ, ◌^◌, ◌<◌, List, Some, sym, ◌∙◌}
use Rattle.std.proofs.lemmas.Option.{same_Some}
use Rattle.tagged_word.specs.Readings.{reference_in}
use Rattle.tagged_word.proofs.Readings.{reference_to}
use Rattle.page_space.specs.Extents.{words_count}
use Rattle.heap_model.specs.Types.{Cell}
use Rattle.heap_model.specs.Heaps.{Heap, HasCell}
use Rattle.heap_model.specs.Slots.{RefersTo}
use Rattle.heap_model.proofs.CellsApart.{one_at}
use Rattle.image_walk.specs.Finding.{HasNoCellAt}
use Rattle.image_walk.specs.Words.{HasWords}
use Rattle.image_walk.proofs.SpanWords.{address_few}
use Rattle.heap_check.specs.Names.{IsOwnedAt}

-- a word that refers to a cell reads as its address
pub target_at : {heap : Heap} {word : ℕ} {cell : Cell} {words : List ℕ} → HasWords heap
    → words_count heap.space < 2 ^ 32 → RefersTo heap word cell words → reference_in word ≡ Some cell.at
target_at {heap} {word} {cell} {words} sized few refers =
    reference_to word cell.at (address_few heap cell words sized refers.has few) refers.refers

-- a word that reads as no address names nothing
pub no_reference : {heap : Heap} {word named : ℕ} → HasWords heap → words_count heap.space < 2 ^ 32
    → ((at : ℕ) → reference_in word ≡ Some at → ⊥) → IsOwnedAt heap word named → ⊥
no_reference sized few none is = none is.cell.at (target_at sized few is.refers)

-- nor does one that reads as an address where no cell stands
pub no_target : {heap : Heap} {word named at : ℕ} → HasWords heap → words_count heap.space < 2 ^ 32
    → reference_in word ≡ Some at → HasNoCellAt heap at → IsOwnedAt heap word named → ⊥
no_target sized few reads none is =
    none is.cell _ is.refers.has (same_Some _ _ (sym (target_at sized few is.refers) ∙ reads))

-- where a cell stands there, the word names that one alone
pub target_is : {heap : Heap} {word named at : ℕ} {cell : Cell} {words : List ℕ} → HasWords heap
    → words_count heap.space < 2 ^ 32 → reference_in word ≡ Some at → HasCell heap cell words → cell.at ≡ at
    → (is : IsOwnedAt heap word named) → is.cell ≡ cell
target_is sized few reads has there is =
    one_at is.refers.has has (same_Some _ _ (sym (target_at sized few is.refers) ∙ reads) ∙ sym there)
