-- The property stores of plain objects as cells: how many slots they have, and that they are other cells.
use Rattle.std.proofs.Common.{◌≡◌, ℕ, ◌+◌, ◌<◌, ◌≤◌, ◌⊎◌, inl, inr, List, [], ◌∷◌}
use Rattle.std.proofs.Common.{length, drop, Contains}
use Rattle.std.proofs.Common.{refl, sym, ◌∙◌, ap, subst, arith, length-append, length-drop}
use Rattle.std.proofs.lemmas.Bool.{cases_lt}
use Rattle.tagged_word.specs.declared.layout.Kind.TheVariants as kind
use Rattle.tagged_word.specs.Cells.{plain_head, store_head}
use Rattle.tagged_word.proofs.Members.{first_in, one_in}
use Rattle.heap_model.specs.Types.{Cell}
use Rattle.heap_model.specs.Heaps.{Heap, HasCell, words_of_cell}
use Rattle.heap_model.specs.Slots.{RefersTo, HoldsStore}
use Rattle.heap_model.specs.Kinds.{HasSlots}
use Rattle.heap_model.specs.Wholeness.{HasRows}
use Rattle.heap_model.proofs.CellsApart.{IsOfCell, first_of_cell, cells_apart}
use Rattle.heap_model.proofs.CellWords.{words_by_kind, words_are_size}

-- the store to which a word refers, if there is one
abbrev pub store_cells : {heap : Heap} {word : ℕ} {beside : List ℕ} → HoldsStore heap kind.Store word beside → List Cell
store_cells HoldsStore.none = []
store_cells (HoldsStore.store to cell words refers of_kind) = cell ∷ []

-- its address
abbrev pub store_at : {heap : Heap} {word : ℕ} {beside : List ℕ} → HoldsStore heap kind.Store word beside → ℕ
store_at HoldsStore.none = 0
store_at (HoldsStore.store to cell words refers of_kind) = cell.at

-- the cell is the store to which the word refers, and has these slots
pub record IsStoreOf (heap : Heap) (word : ℕ) (beside : List ℕ) (store : ℕ) (cell : Cell) : Type 0 where
  pub refers : RefersTo heap word cell (words_of_cell heap cell)
  pub of_kind : cell.layout.kind ≡ kind.Store
  pub at : cell.at ≡ store
  pub size : cell.size ≡ store_head + length beside

-- a store has two words more than slots
store_size : {heap : Heap} {word : ℕ} {cell : Cell} {words : List ℕ} → RefersTo heap word cell words
    → cell.layout.kind ≡ kind.Store → cell.size ≡ store_head + length (drop store_head words)
store_size {words = words} refers of_kind =
    omega (
      arith,
      words_are_size refers.has,
      words_by_kind kind.Store refers.has of_kind,
      length-drop store_head words,
    )

-- what refers to a cell refers to it with its words
with_own_words : {heap : Heap} {word : ℕ} {cell : Cell} {words : List ℕ} → RefersTo heap word cell words
    → RefersTo heap word cell (words_of_cell heap cell)
with_own_words {heap} {word} {cell} refers =
    subst (RefersTo heap word cell) (sym refers.has.words_are) refers

-- the store is one
pub is_store_cell : {heap : Heap} {word : ℕ} {beside : List ℕ} (stands : HoldsStore heap kind.Store word beside)
    (cell : Cell) → Contains (store_cells stands) cell → IsStoreOf heap word beside (store_at stands) cell
is_store_cell HoldsStore.none cell there = absurd (omega (arith, there.1))
is_store_cell {heap} {word} {beside} (HoldsStore.store to one words refers of_kind) cell there =
    let same : one ≡ cell = one_in one cell there in
    subst (λ (c : Cell). IsStoreOf heap word (drop store_head words) one.at c) same (record {
      refers = with_own_words refers;
      of_kind = of_kind;
      at = refl;
      size = store_size refers of_kind;
    })

-- where there are slots beside the object, it has a store
pub store_cell_there : {heap : Heap} {word : ℕ} {beside : List ℕ} (stands : HoldsStore heap kind.Store word beside)
    → 0 < length beside → (cell : Cell) × Contains (store_cells stands) cell
store_cell_there HoldsStore.none some = absurd (omega arith)
store_cell_there (HoldsStore.store to cell words refers of_kind) some = (cell, first_in cell [])

-- an object has as many slots as in-object slots and slots beside it
pub slots_counted : {heap : Heap} {cell : Cell} {words slots : List ℕ} → HasCell heap cell words
    → cell.layout.kind ≡ kind.Plain → (are : HasSlots heap words slots)
    → length slots ≡ cell.layout.cap + length are.beside
slots_counted {words = words} has plain are =
    omega (
      arith,
      ap length are.are,
      length-append (drop plain_head words) are.beside,
      length-drop plain_head words,
      words_by_kind kind.Plain has plain,
    )

-- two cells that differ have no word in common
pub cells_beside : {heap : Heap} {cell other : Cell} {words others : List ℕ} → HasRows heap → HasCell heap cell words
    → HasCell heap other others → (cell ≡ other → ⊥)
    → (cell.at + cell.size ≤ other.at) ⊎ (other.at + other.size ≤ cell.at)
cells_beside {cell = cell} {other} rows has has_other apart = elim (cases_lt other.at (cell.at + cell.size)) [
  | inr before ↦ inl before
  | inl below ↦ elim (cases_lt cell.at (other.at + other.size)) [
    | inr behind ↦ inr behind
    | inl below_too ↦ elim (cases_lt cell.at other.at) [
      | inl first ↦
          let of_cell : IsOfCell cell other.at = record { from = omega arith; below = below } in
          absurd (apart (cells_apart other.at rows has has_other of_cell (first_of_cell has_other)))
      | inr second ↦
          let of_other : IsOfCell other cell.at = record { from = second; below = below_too } in
          absurd (apart (cells_apart cell.at rows has has_other (first_of_cell has) of_other))
    ]
  ]
]

-- the store of a plain object is another cell
pub store_is_other : {heap : Heap} {word store : ℕ} {beside : List ℕ} {cell other : Cell}
    → IsStoreOf heap word beside store other → cell.layout.kind ≡ kind.Plain → cell ≡ other → ⊥
store_is_other is plain same =
    let kinds : kind.Plain ≡ kind.Store = sym plain ∙ ap (λ (c : Cell). c.layout.kind) same ∙ is.of_kind in
    cc

-- the store of a plain object, where it has more slots than in-object ones
pub more_slots : {heap : Heap} {cell : Cell} {words slots : List ℕ} → HasCell heap cell words
    → cell.layout.kind ≡ kind.Plain → (are : HasSlots heap words slots) → cell.layout.cap < length slots
    → (other : Cell) × IsStoreOf heap are.store are.beside (store_at are.stands) other
more_slots has plain are some =
    let there = store_cell_there are.stands (omega (arith, slots_counted has plain are, some)) in
    (there.0, is_store_cell are.stands there.0 there.1)
