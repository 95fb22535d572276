-- A list that was trimmed: in the words of its store stand free cells, and a store that holds slots of the old one, to
-- which the list's cell refers. So cells stand in rows.
use Rattle.std.proofs.Common.{◌≡◌, ℕ, ◌+◌, ◌<◌, ◌≤◌, ◌⊎◌, List, []}
use Rattle.std.proofs.Common.{◌∷◌, ◌++◌, length, Contains, All, Some, slice_get}
use Rattle.std.proofs.Common.{map, refl, sym, ◌∙◌, ap, subst, arith}
use Rattle.std.proofs.lemmas.Bool.{false≢true}
use Rattle.std.proofs.lemmas.List.{append-nil}
use Rattle.std.proofs.lemmas.List.Elements.{All-nil, All-cons, All-contains, Contains-append_left}
use Rattle.tagged_word.specs.declared.layout.Kind.TheVariants as kind
use Rattle.tagged_word.specs.Cells.{store_slot, store_head, has_length}
use Rattle.tagged_word.proofs.Members.{first_in, rest_in}
use Rattle.heap_model.specs.Types.{Value, Cell}
use Rattle.object_graph.specs.Meaning.{list_most}
use Rattle.page_space.specs.Extents.{eden_start, roots_start, layouts_start}
use Rattle.page_space.proofs.Starts.{layouts_start_is}
use Rattle.cell_layout.specs.Cells.{IsRow}
use Rattle.cell_layout.specs.CellLaws.{ReadsAlike}
use Rattle.heap_model.specs.Heaps.{Heap, HasCell, words_of_cell}
use Rattle.heap_model.specs.Slots.{reference_word, RefersTo}
use Rattle.heap_model.specs.Kinds.{HasNoNumber, count_offset}
use Rattle.heap_model.specs.Wholeness.{Whole, HasSizes, HasRows}
use Rattle.heap_model.specs.Showing.{ShowsList}
use Rattle.heap_model.specs.Changes.{Patch, IsPatched, Rewrite, IsRewrite, patch_of, IsRunOf, IsChange, CellsChange}
use Rattle.heap_model.proofs.CellsApart.{used_few}
use Rattle.heap_model.proofs.Rewrites.{rewrite_slots, rewrites_are_patches, rewrites_keep_cells}
use Rattle.heap_model.proofs.WordsAlike.{cell_below_roots}
use Rattle.object_cells.specs.CellWrites.{IsInCell}
use Rattle.object_cells.proofs.ObjectWrites.{same_count, layout_alike}

-- a filler or a gap
pub record IsFreeCell (cell : Cell) : Type 0 where
  pub of_kind : (cell.layout.kind ≡ kind.Filler) ⊎ (cell.layout.kind ≡ kind.Gap)
  pub no_number : HasNoNumber cell

-- The list's cell refers to a store that stands, with free cells, in the words of its old store. The slots of this one
-- are those of the old one from a number on. The first of them show the elements that stay, and the others hold holes.
pub record Trimming (old new : Heap) (cell store came : Cell) (pieces : List Cell) (before after : List Value)
    (from : ℕ) : Type 0 where
  -- the list and its store
  pub whole : Whole old
  pub has : HasCell old cell (words_of_cell old cell)
  pub shown : ShowsList old cell (words_of_cell old cell) before
  pub refers : RefersTo old shown.store store (words_of_cell old store)
  pub of_kind : store.layout.kind ≡ kind.Store
  -- the heap
  pub same_space : new.space ≡ old.space
  pub same_survivors : new.survivors ≡ old.survivors
  pub same_used : new.used ≡ old.used
  pub paths : new.paths ≡ old.paths
  pub sized : HasSizes new
  pub stay : (at : ℕ) → at < layouts_start old.space → (IsInCell at cell → ⊥) → (IsInCell at store → ⊥)
      → slice_get new.words at ≡ slice_get old.words at
  -- the words of the list's cell
  pub header : slice_get new.words cell.at ≡ slice_get old.words cell.at
  pub slot : slice_get new.words (cell.at + store_slot) ≡ Some (reference_word came.at)
  pub counted : slice_get new.words (cell.at + count_offset) ≡ Some (length after)
  -- the cells in the words of the store
  pub row : IsRow new.space new.words store.at (store.at + store.size) pieces
  pub among : Contains pieces came
  pub each : (one : Cell) → Contains pieces one → (came ≡ one) ⊎ IsFreeCell one
  -- the store that came
  pub still_store : came.layout.kind ≡ kind.Store
  pub no_number : HasNoNumber came
  pub place : came.at ≡ store.at + from
  pub room : from + came.length ≤ store.length
  pub slots : (k : ℕ) → k < came.length
      → slice_get new.words (came.at + (store_head + k)) ≡ slice_get old.words (store.at + (store_head + (from + k)))
  -- the elements that stay
  pub elements : (k : ℕ) (value : Value) → slice_get after k ≡ Some value → slice_get before (from + k) ≡ Some value
  pub few : length after ≤ list_most
  pub enough : length after ≤ came.length
  pub rest : (k : ℕ) → length after ≤ k → k < came.length → length before ≤ from + k

module _ {old new : Heap} {cell store came : Cell} {pieces : List Cell} {before after : List Value} {from : ℕ}
    (trim : Trimming old new cell store came pieces before after from) where
  -- the list's cell becomes itself
  abbrev of_list : Rewrite
  of_list = record { cell = cell; into = cell ∷ [] }

  -- its store becomes the cells in its words
  abbrev of_store : Rewrite
  of_store = record { cell = store; into = pieces }

  -- these are rewritten
  abbrev rewrites : List Rewrite
  rewrites = of_list ∷ of_store ∷ []

  -- the list's cell is read as before
  list_alike : ReadsAlike old.space old.words new.words cell
  list_alike =
      layout_alike [] trim.whole.sized trim.sized trim.same_space (trim.paths ∙ sym (append-nil old.paths)) trim.has
      trim.header (λ long. absurd (false≢true (ap has_length (sym trim.shown.of_kind) ∙ long)))

  -- as rewrites of cells are
  are_rewrites : All (IsRewrite old new) rewrites
  are_rewrites =
      All-cons (IsRewrite old new) of_list (of_store ∷ [])
      (rewrite_slots trim.has trim.same_space (same_count trim.whole.sized trim.sized trim.same_space) list_alike)
      (All-cons (IsRewrite old new) of_store [] (record { stood = trim.refers.has; stands = trim.row })
      (All-nil (IsRewrite old new)))

  -- a word of cells that no patch has stays
  free_stays : (at : ℕ) → at < roots_start old.space → All (λ patch. IsPatched at patch → ⊥) (map patch_of rewrites)
      → slice_get new.words at ≡ slice_get old.words at
  free_stays at below free =
      let first : Patch = patch_of of_list in
      let second : Patch = patch_of of_store in
      let patches : List Patch = first ∷ second ∷ [] in
      let Q : Patch → Type 0 = λ patch. IsPatched at patch → ⊥ in
      trim.stay at (omega (arith, below, layouts_start_is old.space))
      (λ inside. All-contains Q patches first free (first_in first (second ∷ []))
      (record { from = inside.from; below = inside.below }))
      (λ inside. All-contains Q patches second free (rest_in first (second ∷ []) second (first_in second []))
      (record { from = inside.from; below = inside.below }))

  -- a word of the roots stays
  root_stays : (at : ℕ) → roots_start old.space ≤ at → at < layouts_start old.space
      → slice_get new.words at ≡ slice_get old.words at
  root_stays at behind below =
      let few = used_few trim.whole.rows in
      trim.stay at below (λ inside. omega (arith, inside.below, cell_below_roots few trim.has))
      (λ inside. omega (arith, inside.below, cell_below_roots few trim.refers.has))

  -- nothing else changes
  is_change : IsChange old new (map patch_of rewrites) []
  is_change =
      let are = rewrites_are_patches old new rewrites trim.whole.rows are_rewrites in
      let from_used : ℕ = eden_start old.space + old.used in
      record {
        same_space = trim.same_space;
        same_survivors = trim.same_survivors;
        room = omega (
          arith,
          trim.whole.rows.few,
          trim.same_used,
          trim.same_survivors,
          ap (λ space. space.sizes.young) trim.same_space,
        );
        more = [];
        paths = trim.paths ∙ sym (append-nil old.paths);
        sized = trim.sized;
        each = are.0;
        apart = are.1;
        from = from_used;
        to = eden_start old.space + new.used;
        run = IsRunOf.of_eden refl refl (omega (arith, trim.same_used));
        beside = λ patch at among patched from below. omega (arith, from, below, trim.same_used);
        made_stand = subst (λ n. IsRow new.space new.words from_used (eden_start old.space + n) []) (sym trim.same_used)
            (IsRow.none from_used);
        cells_stay = λ at below free not_new. free_stays at below free;
        roots_stay = λ at behind below. root_stays at behind below;
      }

  -- cells stand in rows again: the list's, and those in the words of its store
  pub trimmed_cells : HasRows new × CellsChange old new (cell ∷ store ∷ []) (cell ∷ pieces) []
  trimmed_cells =
      let kept = rewrites_keep_cells old new rewrites [] trim.whole is_change in
      let P : List Cell → Type 0 = λ all. CellsChange old new (cell ∷ store ∷ []) (cell ∷ all) [] in
      (kept.0, subst P (append-nil pieces) kept.1)

  -- the list's cell stands there
  pub list_now : HasCell new cell (words_of_cell new cell)
  list_now = trimmed_cells.1.comes cell (first_in cell (pieces ++ []))

  -- so does the store that came
  pub store_now : HasCell new came (words_of_cell new came)
  store_now =
      trimmed_cells.1.comes came
      (rest_in cell (pieces ++ []) came (Contains-append_left pieces [] came trim.among))
