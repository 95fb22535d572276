-- Which words are neither the count of a weak map nor a word of a pair of its table: those of any other cell, and those
-- behind all cells.
use Rattle.std.proofs.Common.{◌≡◌, ◌≢◌, ℕ, ◌+◌, ◌*◌, ◌<◌, ◌≤◌, inl, inr, List, Contains, unwrap_or, sym, ◌∙◌, ap}
use Rattle.std.proofs.Common.{subst, arith}
use Rattle.std.proofs.lemmas.Bool.{cases_lt, false≢true}
use Rattle.tagged_word.specs.declared.layout.Kind.TheVariants as kind
use Rattle.tagged_word.specs.Cells.{store_head, store_slot, is_object_kind}
use Rattle.tagged_word.proofs.Readings.{reference_to}
use Rattle.page_space.specs.Sizes.{AreWithin}
use Rattle.page_space.specs.Extents.{roots_start}
use Rattle.heap_model.specs.Types.{Cell}
use Rattle.heap_model.specs.Heaps.{Heap, HasCell}
use Rattle.heap_model.specs.Slots.{reference_word, IsWeakCellAt}
use Rattle.heap_model.specs.Kinds.{count_offset}
use Rattle.heap_model.specs.Needs.{capacity_at, capacity_by, word_at}
use Rattle.heap_model.specs.Wholeness.{Whole}
use Rattle.heap_model.proofs.CellsApart.{IsOfCell, cells_apart, used_few}
use Rattle.heap_model.proofs.CellWords.{words_are_size, words_by_kind}
use Rattle.heap_model.proofs.WordsAlike.{cell_below_roots}
use Rattle.heap_model.proofs.WordsRead.{word_of_cell}
use Rattle.object_cells.proofs.WordsTold.{cell_fits}
use Rattle.ephemeron_table.specs.Pairs.{IsNoPairWord}
use Rattle.ephemeron_table.proofs.TablesRead.{found_table, weak_sound}
use Rattle.ephemeron_clear.specs.Clearing.{AreMaps, IsBesideMaps}

-- The table to which the word of the weak map at an address refers.
record HasTableCell (heap : Heap) (map table : ℕ) : Type 0 where
  cell : Cell
  words : List ℕ
  has : HasCell heap cell words
  stands : cell.at ≡ table
  of_kind : cell.layout.kind ≡ kind.Table
  size : cell.size ≡ store_head + 2 * capacity_at heap map

-- a weak map's cell has three words
map_size : {heap : Heap} {map : ℕ} (there : IsWeakCellAt heap map) → there.cell.size ≡ 3
map_size there = sym (words_are_size there.has) ∙ words_by_kind kind.Weak there.has there.of_kind

module _ {heap : Heap} (whole : Whole heap) (within : AreWithin heap.space.sizes heap.space.variables) where
  -- such a table stands there
  table_cell : {map : ℕ} (table : ℕ) → IsWeakCellAt heap map → word_at heap (map + store_slot) ≡ reference_word table
      → HasTableCell heap map table
  table_cell {map} table there refers =
      let sound = weak_sound whole there in
      let read : word_at heap (map + store_slot) ≡ sound.store =
      subst (λ at. word_at heap (at + store_slot) ≡ sound.store) there.stands
      (word_of_cell store_slot sound.store there.has sound.slot) in
      let found = found_table sound.store sound.pairs table sound.table (sym read ∙ refers) in
      let fits : table < 4294967296 =
      subst (λ n. n < 4294967296) found.stands (cell_fits whole.sized within found.refers.has) in
      let capacity : capacity_at heap map ≡ found.cell.length =
      ap (capacity_by heap) (reference_to (word_at heap (map + store_slot)) table fits refers)
      ∙ ap (λ one. unwrap_or one 0) found.counted in
      record {
        cell = found.cell;
        words = found.words;
        has = found.refers.has;
        stands = found.stands;
        of_kind = found.of_kind;
        size = omega (arith, found.size, capacity);
      }

  -- a word of a cell is none of a pair of a weak map, if the cell is not the map's table
  no_pair_word : {map : ℕ} {cell : Cell} {words : List ℕ} (word : ℕ) → IsWeakCellAt heap map → HasCell heap cell words
      → IsOfCell cell word
      → (cell.layout.kind ≡ kind.Table → word_at heap (map + store_slot) ≡ reference_word cell.at → ⊥)
      → IsNoPairWord heap map word
  no_pair_word {map} word there has of_cell spared table refers =
      let one = table_cell table there refers in
      elim (cases_lt word (table + store_head)) [
        | inl before ↦ inl before
        | inr from ↦ elim (cases_lt word (one.cell.at + one.cell.size)) [
          | inl below ↦
              let same = cells_apart word whole.rows has one.has of_cell
              (record { from = omega (arith, from, one.stands); below = below }) in
              absurd (spared (ap (λ (c : Cell). c.layout.kind) same ∙ one.of_kind)
              (refers ∙ ap reference_word (sym one.stands ∙ ap (λ (c : Cell). c.at) (sym same))))
          | inr behind ↦ inr (omega (arith, behind, one.stands, one.size))
        ]
      ]

  -- a word of a cell is the count of a weak map in this alone
  no_count : {map : ℕ} {cell : Cell} {words : List ℕ} (word : ℕ) → IsWeakCellAt heap map → HasCell heap cell words
      → IsOfCell cell word → (cell.layout.kind ≡ kind.Weak → word ≢ cell.at + count_offset)
      → word ≢ map + count_offset
  no_count {map} {cell} word there has of_cell spared same =
      let one : cell ≡ there.cell = cells_apart word whole.rows has there.has of_cell (record {
        from = omega (arith, same, there.stands);
        below = omega (arith, same, there.stands, map_size there);
      }) in
      spared (ap (λ (c : Cell). c.layout.kind) one ∙ there.of_kind)
      (omega (arith, same, there.stands, ap (λ (c : Cell). c.at) one))

  -- so a word of a cell that is no table is beside maps, but where it is a count
  pub cell_beside : {cell : Cell} {words : List ℕ} (maps : List ℕ) (word : ℕ) → AreMaps heap maps
      → HasCell heap cell words → IsOfCell cell word → (cell.layout.kind ≡ kind.Table → ⊥)
      → (cell.layout.kind ≡ kind.Weak → word ≢ cell.at + count_offset) → IsBesideMaps heap maps word
  cell_beside maps word are has of_cell no_table spared map among = (
    no_count word (are map among) has of_cell spared,
    no_pair_word word (are map among) has of_cell (λ is_table refers. no_table is_table),
  )

  -- and so is a word of a table to which no map refers
  pub table_beside : {cell : Cell} {words : List ℕ} (maps : List ℕ) (word : ℕ) → AreMaps heap maps
      → HasCell heap cell words → IsOfCell cell word → cell.layout.kind ≡ kind.Table
      → ((map : ℕ) → Contains maps map → word_at heap (map + store_slot) ≡ reference_word cell.at → ⊥)
      → IsBesideMaps heap maps word
  table_beside maps word are has of_cell is spared map among = (
    no_count word (are map among) has of_cell (λ weak.
        absurd (false≢true (ap is_object_kind (sym is ∙ weak)))),
    no_pair_word word (are map among) has of_cell (λ is_table refers. spared map among refers),
  )

  -- and so is a word behind all cells
  pub behind_cells : (maps : List ℕ) (word : ℕ) → AreMaps heap maps → roots_start heap.space ≤ word
      → IsBesideMaps heap maps word
  behind_cells maps word are behind map among = (
    λ same.
        let there = are map among in
        omega (
          arith,
          same,
          behind,
          there.stands,
          map_size there,
          cell_below_roots (used_few whole.rows) there.has,
        ),
    λ table refers.
        let one = table_cell table (are map among) refers in
        inr (omega (
          arith,
          behind,
          one.stands,
          one.size,
          cell_below_roots (used_few whole.rows) one.has,
        )),
  )
