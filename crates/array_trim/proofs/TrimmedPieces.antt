-- The cells that came of a trim: which they are, where they stand, and what their slots held before.
use Rattle.std.proofs.Common.{◌≡◌, ℕ, ◌+◌, ◌-◌, ◌<◌, ◌≤◌, ◌⊎◌, inl, inr, List, [], ◌∷◌, Contains}
use Rattle.std.proofs.Common.{IsTrue, refl, sym, ◌∙◌, ap, subst, arith, slice_get}
use Rattle.std.proofs.lemmas.Bool.{cases_lt}
use Rattle.std.proofs.lemmas.List.{append-nil}
use Rattle.tagged_word.specs.declared.layout.Kind.TheVariants as kind
use Rattle.tagged_word.specs.Cells.{store_head, is_free_kind, tagged_offsets, tagged_offsets_of, scavenge_offsets_of}
use Rattle.tagged_word.proofs.Members.{first_in, rest_in, in_cases, in_range, range_bounds}
use Rattle.page_space.specs.Sizes.{page_words}
use Rattle.cell_layout.specs.Cells.{IsRow}
use Rattle.cell_layout.proofs.Rows.{row_begins, row_of_none}
use Rattle.cell_layout.proofs.OneCell.{cells_have_words}
use Rattle.heap_model.specs.Types.{Kind, LayoutWord, Value, Cell}
use Rattle.heap_model.specs.Heaps.{Heap, HasCell, words_of_cell}
use Rattle.heap_model.specs.Kinds.{HasWord}
use Rattle.heap_model.specs.Wholeness.{HasRows}
use Rattle.heap_model.specs.Changes.{IsNewPlace}
use Rattle.heap_model.proofs.BoundHeaps.{none_in}
use Rattle.heap_model.proofs.CellsApart.{IsOfCell, cells_apart, first_of_cell, has_is_cell}
use Rattle.heap_model.proofs.CellWords.{slice_get-drop, words_by_kind, words_are_size}
use Rattle.array_trim.proofs.TrimmedCells.{IsFreeCell, Trimming, trimmed_cells, list_now, store_now}
use Rattle.array_trim.proofs.TrimmedSlots.{later_is_new}
use Rattle.array_trim.proofs.TrimmedSlots.{slot_was, were_of_store, slots_now}

-- a tagged slot of the cell has the word
pub record WasSlot (heap : Heap) (cell : Cell) (word : ℕ) : Type 0 where
  pub offset : ℕ
  pub tagged : Contains (tagged_offsets cell.layout cell.length) offset
  pub holds : HasWord (words_of_cell heap cell) offset word

-- a free cell has no slot
pub free_slots : {k : Kind} → (k ≡ kind.Filler) ⊎ (k ≡ kind.Gap) → tagged_offsets_of k ≡ λ layout length. []
free_slots (inl is) = ap tagged_offsets_of is
free_slots (inr is) = ap tagged_offsets_of is

pub free_scavenged : {k : Kind} → (k ≡ kind.Filler) ⊎ (k ≡ kind.Gap) → scavenge_offsets_of k ≡ λ layout length. []
free_scavenged (inl is) = ap scavenge_offsets_of is
free_scavenged (inr is) = ap scavenge_offsets_of is

pub free_is_free : {k : Kind} → (k ≡ kind.Filler) ⊎ (k ≡ kind.Gap) → IsTrue (is_free_kind k)
free_is_free (inl is) = ap is_free_kind is
free_is_free (inr is) = ap is_free_kind is

pub free_is_no_table : {k : Kind} → (k ≡ kind.Filler) ⊎ (k ≡ kind.Gap) → k ≡ kind.Table → ⊥
free_is_no_table (inl is) table = let apart : kind.Filler ≡ kind.Table = sym is ∙ table in cc
free_is_no_table (inr is) table = let apart : kind.Gap ≡ kind.Table = sym is ∙ table in cc

-- a free cell has no slot
pub free_no_slot : {one : Cell} {offset : ℕ} → IsFreeCell one
    → Contains (tagged_offsets_of one.layout.kind one.layout one.length) offset → ⊥
free_no_slot {one} {offset} free there =
    none_in offset (subst (λ (all : LayoutWord → ℕ → List ℕ). Contains (all one.layout one.length) offset)
    (free_slots free.of_kind) there)

module _ {old new : Heap} {cell store came : Cell} {pieces : List Cell} {before after : List Value} {from : ℕ}
    (trim : Trimming old new cell store came pieces before after from) where
  -- which cell a cell that came is
  pub which : (one : Cell) → Contains (cell ∷ pieces) one → (cell ≡ one) ⊎ ((came ≡ one) ⊎ IsFreeCell one)
  which one there = elim (in_cases cell pieces one there) [
    | inl same ↦ inl same
    | inr among ↦ inr (trim.each one among)
  ]

  -- the store has so many words
  store_size : store.size ≡ store_head + store.length
  store_size = sym (words_are_size trim.refers.has) ∙ words_by_kind kind.Store trim.refers.has trim.of_kind

  -- rows of the new heap
  rows : HasRows new
  rows = (trimmed_cells trim).0

  -- each piece stands there
  pub piece_has : (one : Cell) → Contains pieces one → HasCell new one (words_of_cell new one)
  piece_has one among =
      (trimmed_cells trim).1.comes one
      (subst (λ all. Contains all one) (sym (append-nil (cell ∷ pieces))) (rest_in cell pieces one among))

  -- the first of them begins where the store did
  pub first_piece : (all : List Cell) → IsRow new.space new.words store.at (store.at + store.size) all
      → (one : Cell) × Contains all one × (one.at ≡ store.at)
  first_piece [] row = absurd (omega (arith, row_of_none row, store_size))
  first_piece (one ∷ rest) row = (one, first_in one rest, (row_begins row).starts)

  -- where the store begins later, it does so behind a free cell that begins where it did
  pub free_first : (one : Cell) → Contains pieces one → one.at ≡ store.at → store.at < came.at → one.size < page_words
  free_first one among first later =
      let has = piece_has one among in
      let most = (cells_have_words old.space old.words store (has_is_cell trim.refers.has)).1 in
      elim (cases_lt came.at (one.at + one.size)) [
        | inr ends ↦ omega (arith, ends, first, trim.place, trim.room, store_size, most)
        | inl over ↦
            let inside : IsOfCell one came.at = record { from = omega (arith, first, later); below = over } in
            let same : one ≡ came = cells_apart came.at rows has (store_now trim) inside
            (first_of_cell (store_now trim))
            in
            absurd (omega (arith, ap (λ (c : Cell). c.at) same, first, later))
      ]

  -- the store began before
  pub store_before : store.at ≤ came.at
  store_before = omega (arith, trim.place)

  -- it is of the page of which the list's store is
  pub place_new : store.at < came.at → IsNewPlace old came.at
  place_new later = later_is_new trim (omega (arith, trim.place, later))

  -- the word of a slot of the store was that of one of the old store
  pub slot_word_was : (offset word : ℕ) → Contains (tagged_offsets came.layout came.length) offset
      → HasWord (words_of_cell new came) offset word → WasSlot old store word
  slot_word_was offset word tagged there =
      let offsets : Contains (tagged_offsets_of kind.Store came.layout came.length) offset =
      subst (λ (k : Kind). Contains (tagged_offsets_of k came.layout came.length) offset) trim.still_store tagged in
      let bounds = range_bounds store_head came.length offset offsets in
      let k : ℕ = offset - store_head in
      let at_slot : offset ≡ store_head + k = omega (arith, bounds.0) in
      let stands : HasWord (slots_now trim) k word =
      slice_get-drop store_head (words_of_cell new came) k offset (sym at_slot) ∙ there in
      let before = slot_was trim k word stands in
      let before_offset : ℕ = store_head + (from + k) in
      record {
        offset = before_offset;
        tagged = subst (λ (n : Kind). Contains (tagged_offsets_of n store.layout store.length) before_offset)
            (sym trim.of_kind)
            (in_range store_head store.length before_offset (omega arith)
            (omega (arith, bounds.1, at_slot, trim.room)));
        holds = sym (slice_get-drop store_head (words_of_cell old store) (from + k) before_offset refl)
            ∙ ap (λ all. slice_get all (from + k)) (sym (were_of_store trim)) ∙ before;
      }

  -- the list's cell is neither the store that went nor the one that came
  pub lists_apart : store.at ≡ cell.at → ⊥
  lists_apart same =
      let one : store ≡ cell = cells_apart store.at trim.whole.rows trim.refers.has trim.has
      (first_of_cell trim.refers.has) (subst (IsOfCell cell) (sym same) (first_of_cell trim.has)) in
      let apart : kind.Store ≡ kind.List =
      sym trim.of_kind ∙ ap (λ (c : Cell). c.layout.kind) one ∙ trim.shown.of_kind in
      cc

  pub came_apart : came.at ≡ cell.at → ⊥
  came_apart same =
      let one : came ≡ cell = cells_apart came.at rows (store_now trim) (list_now trim)
      (first_of_cell (store_now trim)) (subst (IsOfCell cell) (sym same) (first_of_cell (list_now trim))) in
      let apart : kind.Store ≡ kind.List =
      sym trim.still_store ∙ ap (λ (c : Cell). c.layout.kind) one ∙ trim.shown.of_kind in
      cc

  -- a cell that is no filler stood where another begins
  pub stood_there : {at : ℕ} {stood : Cell} {words : List ℕ} → IsNewPlace old at → stood.at ≡ at
      → HasCell old stood words
      → (stood.layout.kind ≡ kind.Filler → ⊥) → ⊥
  stood_there is_new same has no_filler = no_filler (is_new _ _ has same)

  -- the list's cell is no filler, and the store is none
  pub list_no_filler : cell.layout.kind ≡ kind.Filler → ⊥
  list_no_filler filler = let apart : kind.List ≡ kind.Filler = sym trim.shown.of_kind ∙ filler in cc

  pub store_no_filler : store.layout.kind ≡ kind.Filler → ⊥
  store_no_filler filler = let apart : kind.Store ≡ kind.Filler = sym trim.of_kind ∙ filler in cc
