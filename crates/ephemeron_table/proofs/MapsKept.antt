-- What stays where a pair was removed from a weak map's table: each cell, and of each other weak map its table and
-- pairs.
use Rattle.std.proofs.Common.{◌≡◌, ◌≢◌, ℕ, ◌+◌, ◌⊎◌, inl, inr, List, [], ◌∷◌, Contains, unwrap_or, slice_get}
use Rattle.std.proofs.Common.{sym, ◌∙◌, ap, subst}
use Rattle.std.proofs.lemmas.Bool.{cases_eq}
use Rattle.tagged_word.specs.declared.layout.Kind.TheVariants as kind
use Rattle.tagged_word.specs.Cells.{store_slot, is_object_kind}
use Rattle.tagged_word.proofs.Members.{first_in, in_cases, rest_in, one_in}
use Rattle.heap_model.specs.Types.{Cell}
use Rattle.heap_model.specs.Heaps.{Heap, HasCell, words_of_cell}
use Rattle.heap_model.specs.Kinds.{Pair}
use Rattle.heap_model.specs.Needs.{word_at}
use Rattle.heap_model.specs.Changes.{CellsChange, IsOwnChange}
use Rattle.heap_model.specs.Wholeness.{Whole}
use Rattle.heap_model.proofs.BoundHeaps.{none_in}
use Rattle.heap_model.proofs.CellOutcomes.{cells_move, object_is_no_filler, stays_standing}
use Rattle.heap_model.proofs.CellsApart.{one_at}
use Rattle.heap_model.proofs.KeptObjects.{Keeps, kept_table}
use Rattle.heap_model.proofs.Moves.{Moves}
use Rattle.object_cells.proofs.CellsRead.{word_stands}
use Rattle.object_cells.proofs.OwnPlaces.{has_own_words}
use Rattle.weak_pairs.specs.Pairs.{HasPairsAt}
use Rattle.ephemeron_table.specs.Pairs.{HasSameCells, KeepsTables}

-- Words of a weak map's cell and of its table's changed in a whole heap, so that both stand as they stood, and the map
-- has the word for its table that it had.
pub record ChangesMap (old new : Heap) (cell table : Cell) : Type 0 where
  pub whole : Whole old
  pub weak : cell.layout.kind ≡ kind.Weak
  pub of_table : table.layout.kind ≡ kind.Table
  pub cells : CellsChange old new (cell ∷ table ∷ []) (cell ∷ table ∷ []) []
  pub own : IsOwnChange old new (cell ∷ table ∷ []) (cell ∷ table ∷ []) []
  pub slot : slice_get new.words (cell.at + store_slot) ≡ slice_get old.words (cell.at + store_slot)

module _ {old new : Heap} {cell table : Cell} (changes : ChangesMap old new cell table) where
  -- both stand
  cell_came : HasCell new cell (words_of_cell new cell)
  cell_came = changes.cells.comes cell (first_in cell (table ∷ []))

  table_came : HasCell new table (words_of_cell new table)
  table_came = changes.cells.comes table (rest_in cell (table ∷ []) table (first_in table []))

  -- and stood
  cell_stood : HasCell old cell (words_of_cell old cell)
  cell_stood = changes.cells.went cell (first_in cell (table ∷ []))

  table_stood : HasCell old table (words_of_cell old table)
  table_stood = changes.cells.went table (rest_in cell (table ∷ []) table (first_in table []))

  -- a cell is one of the two, or not
  one_of_two : (one : Cell) → Contains (cell ∷ table ∷ []) one → (cell ≡ one) ⊎ (table ≡ one)
  one_of_two one among = elim (in_cases cell (table ∷ []) one among) [
    | inl same ↦ inl same
    | inr rest ↦ inr (one_in table one rest)
  ]

  -- a cell that stands elsewhere than both stands as before
  stays_elsewhere : (one : Cell) (words : List ℕ) → HasCell old one words → cell.at ≢ one.at → table.at ≢ one.at
      → HasCell new one words
  stays_elsewhere one words has apart_map apart_table =
      changes.cells.kept one words has
      (λ among. elim (one_of_two one among) [
        | inl same ↦ apart_map (ap (λ (c : Cell). c.at) same)
        | inr same ↦ apart_table (ap (λ (c : Cell). c.at) same)
      ])
      (λ filled. none_in filled.begins.other filled.begins.among)

  -- each cell stands
  cell_stays : (one : Cell) (words : List ℕ) → HasCell old one words → HasCell new one (words_of_cell new one)
  cell_stays one words has = elim (cases_eq cell.at one.at) [
    | inl same ↦
        subst (λ (c : Cell). HasCell new c (words_of_cell new c)) (one_at cell_stood has same) cell_came
    | inr apart ↦ elim (cases_eq table.at one.at) [
      | inl same ↦
          subst (λ (c : Cell). HasCell new c (words_of_cell new c)) (one_at table_stood has same) table_came
      | inr apart_too ↦ has_own_words (stays_elsewhere one words has apart apart_too)
    ]
  ]

  -- and stood
  cell_was : (one : Cell) (words : List ℕ) → HasCell new one words → HasCell old one (words_of_cell old one)
  cell_was one words has = elim (changes.cells.back one words has) [
    | inl among ↦ changes.cells.went one among
    | inr stood ↦ has_own_words stood.0
  ]

  pub same_cells : HasSameCells old new
  same_cells = record { stays = cell_stays; stood = cell_was }

  -- another weak map did not go
  not_gone : (other : ℕ) (pairs : List Pair) (has : HasPairsAt old other pairs) → other ≢ cell.at
      → Contains (cell ∷ table ∷ []) has.cell → ⊥
  not_gone other pairs has apart among = elim (one_of_two has.cell among) [
    | inl same ↦ apart (sym has.stands ∙ sym (ap (λ (c : Cell). c.at) same))
    | inr same ↦
        let differ : kind.Table ≡ kind.Weak =
        sym changes.of_table ∙ ap (λ (c : Cell). c.layout.kind) same ∙ has.of_kind in
        cc
  ]

  -- so its cell stands as before
  other_stands : (other : ℕ) (pairs : List Pair) (has : HasPairsAt old other pairs) → other ≢ cell.at
      → HasCell new has.cell has.words
  other_stands other pairs has apart =
      stays_standing (cells_move changes.cells) has.has
      (object_is_no_filler has.cell.layout.kind (ap is_object_kind has.of_kind)) (not_gone other pairs has apart)

  -- and it has the pairs that it had
  other_pairs : (other : ℕ) (pairs : List Pair) → other ≢ cell.at → HasPairsAt old other pairs
      → HasPairsAt new other pairs
  other_pairs other pairs apart has =
      let moves : Moves old new (cell ∷ table ∷ []) (cell ∷ table ∷ []) [] =
      record { whole = changes.whole; cells = cells_move changes.cells; own = changes.own } in
      let stands = other_stands other pairs has apart in
      let keeps : Keeps old new (cell ∷ table ∷ []) has.cell has.words = record {
        had = has.has;
        has = stands;
        not_gone = not_gone other pairs has apart;
        object = ap is_object_kind has.of_kind;
      } in
      record {
        cell = has.cell;
        words = has.words;
        has = stands;
        stands = has.stands;
        of_kind = has.of_kind;
        are = record {
          store = has.are.store;
          slot = has.are.slot;
          table = kept_table has.are.store moves keeps has.are.slot has.are.table;
        };
      }

  -- each map has the word for its table that it had
  same_named : (other : ℕ) (pairs : List Pair) → HasPairsAt old other pairs
      → word_at new (other + store_slot) ≡ word_at old (other + store_slot)
  same_named other pairs has = elim (cases_eq other cell.at) [
    | inl same ↦
        ap (λ n. word_at new (n + store_slot)) same ∙ ap (λ found. unwrap_or found 0) changes.slot
        ∙ sym (ap (λ n. word_at old (n + store_slot)) same)
    | inr apart ↦
        let stands = other_stands other pairs has apart in
        ap (λ n. word_at new (n + store_slot)) (sym has.stands)
        ∙ ap (λ found. unwrap_or found 0)
        (word_stands store_slot has.are.store stands has.are.slot
        ∙ sym (word_stands store_slot has.are.store has.has has.are.slot))
        ∙ ap (λ n. word_at old (n + store_slot)) has.stands
  ]

  pub keeps_tables : KeepsTables old new cell.at
  keeps_tables = record { named = same_named; others = other_pairs }
