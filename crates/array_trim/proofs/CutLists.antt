-- With the words of a trim a list has the elements that stay, where a store stands that holds them, and free cells.
use Rattle.std.proofs.Common.{◌≡◌, ℕ, ◌+◌, ◌<◌, ◌≤◌, ◌⊎◌, List, length, Contains, Some, slice_get, sym, ◌∙◌, ap}
use Rattle.std.proofs.Common.{subst, arith}
use Rattle.tagged_word.specs.declared.layout.Kind.TheVariants as kind
use Rattle.tagged_word.specs.Cells.{store_slot, store_head, cell_words_most}
use Rattle.heap_model.specs.Types.{Value, Cell}
use Rattle.object_graph.specs.Graphs.{Graph, ListObject}
use Rattle.page_space.specs.Extents.{Space, layouts_start, marks_start}
use Rattle.page_space.specs.Sizes.{AreWithin}
use Rattle.shape_tree.specs.Shapes.{AreShapes}
use Rattle.shape_tree.specs.ShapeLayouts.{layout_word}
use Rattle.cell_layout.specs.Cells.{IsRow}
use Rattle.cell_layout.proofs.OneCell.{cells_have_words}
use Rattle.write_barrier.specs.Seats.{heap_words}
use Rattle.heap_model.specs.Heaps.{Heap}
use Rattle.heap_model.specs.Kinds.{HasNoNumber, count_offset}
use Rattle.heap_model.specs.Remembered.{Touch}
use Rattle.heap_model.specs.Slots.{reference_word}
use Rattle.heap_model.specs.Wholeness.{HasSizes}
use Rattle.heap_model.proofs.CellsApart.{has_is_cell}
use Rattle.nursery.specs.Young.{Young}
use Rattle.write_barrier.specs.MutatorState.{Mutator, heap_of, MainShows}
use Rattle.write_barrier.specs.Recording.{Touches}
use Rattle.object_cells.specs.CellWrites.{IsInCell}
use Rattle.object_cells.specs.ListObjects.{IsListAt}
use Rattle.object_cells.specs.ElementChanges.{AreNewElements}
use Rattle.object_cells.specs.Made.{PutsWords}
use Rattle.object_cells.proofs.TouchedCells.{none_made, remembers}
use Rattle.array_trim.specs.Trims.{HasTrimmed}
use Rattle.array_trim.proofs.Covers.{IsCovered, covering}
use Rattle.array_trim.proofs.CutWords.{IsCut, counted, long_counted, cut_words, long_cut, cut_stays}
use Rattle.array_trim.proofs.CutWords.{cut_header, cut_slot, cut_count, cut_slots}
use Rattle.array_trim.proofs.ListStores.{ListStored, of_list, of_store, list_before_layouts, store_before_layouts}
use Rattle.array_trim.proofs.MarkedTrims.{TrimMarks}
use Rattle.array_trim.proofs.StorePieces.{HadCell}
use Rattle.array_trim.proofs.TouchedCuts.{CutTouch, trim_touches}
use Rattle.array_trim.proofs.TrimmedCells.{IsFreeCell, Trimming}
use Rattle.array_trim.proofs.TrimmedGraphs.{Trimmed, has_trimmed}

-- In the words of a store that went stand free cells, and a store of so many slots at an address.
pub record IsCutInto (new : Heap) (store end start kept : ℕ) (came : Cell) (pieces : List Cell) : Type 0 where
  pub place : came.at ≡ start
  pub long : came.length ≡ kept
  pub of_kind : came.layout.kind ≡ kind.Store
  pub no_number : HasNoNumber came
  pub row : IsRow new.space new.words store end pieces
  pub among : Contains pieces came
  pub each : (one : Cell) → Contains pieces one → (came ≡ one) ⊎ IsFreeCell one

-- The elements that stay: those of the slots kept, from a number on; and behind them the slots held none.
pub record AreKept (before after : List Value) (from kept : ℕ) : Type 0 where
  pub elements : (k : ℕ) (value : Value) → slice_get after k ≡ Some value → slice_get before (from + k) ≡ Some value
  pub enough : length after ≤ kept
  pub rest : (k : ℕ) → length after ≤ k → k < kept → length before ≤ from + k

-- a list's store has at most as many words as a cell may
pub small_store : {main : Mutator} {at store : ℕ} {list : ListObject} (stored : ListStored main at list store)
    → store_head + stored.cell.length ≤ cell_words_most
small_store {main} stored =
    let most = cells_have_words main.seat.space (heap_words main.seat) stored.cell (has_is_cell stored.refers.has) in
    omega (arith, most.1, stored.size)

module _ {old new : Mutator} {at store : ℕ} {list : ListObject} (stored : ListStored old at list store) (header : ℕ)
    {start from kept free many : ℕ} (cut : IsCut store stored.cell.length start from kept free many)
    (after : List Value) (puts : PutsWords old new (cut_words stored header (length after) cut)) where
  -- the words that were put
  abbrev words : List ℕ
  words = cut_words stored header (length after) cut

  -- they are as many
  abbrev long : length words ≡ length (heap_words old.seat)
  long = long_cut stored header (length after) cut

  -- those of neither cell are as before
  abbrev stays : (a : ℕ) → (at ≤ a → a < at + 3 → ⊥)
      → (store ≤ a → a < store + (store_head + stored.cell.length) → ⊥)
      → slice_get words a ≡ slice_get (heap_words old.seat) a
  stays = cut_stays stored header (length after) cut

  -- a word is what was put
  pub cut_reads : (a : ℕ) → slice_get (heap_words new.seat) a ≡ slice_get words a
  cut_reads a = ap (λ all. slice_get all a) puts.heap

  -- a layout word stays
  layout_stays : (a : ℕ) → layouts_start old.seat.space ≤ a → slice_get words a ≡ slice_get (heap_words old.seat) a
  layout_stays a from =
      stays a (λ behind below. omega (arith, below, from, list_before_layouts stored))
      (λ behind below. omega (arith, below, from, store_before_layouts stored))

  -- so the sizes are there
  put_sized : HasSizes (heap_of new)
  put_sized =
      let sized = stored.whole.sized in
      record {
        words = ap length puts.heap ∙ long ∙ sized.words ∙ ap marks_start (sym puts.beside.space);
        shapes = subst AreShapes (sym puts.paths) sized.shapes;
        layouts = λ shape below.
            let a : ℕ = layouts_start old.seat.space + shape in
            ap (λ (s : Space). slice_get (heap_words new.seat) (layouts_start s + shape)) puts.beside.space
            ∙ cut_reads a ∙ layout_stays a (omega arith) ∙ sized.layouts shape below
            ∙ ap (λ paths. Some (layout_word paths shape)) (sym puts.paths);
      }

  -- the store stood there
  pub cut_had : HadCell (heap_of old) (heap_of new) stored.cell
  cut_had = record {
    words = _;
    has = stored.refers.has;
    same_space = puts.beside.space;
    long = ap length puts.heap ∙ long;
    sized = put_sized;
  }

  -- the words that are free then are covered by free cells
  pub cut_free : IsCovered (heap_of new) free (free + many)
  cut_free =
      covering (counted stored header (length after) cut) free many cut_had puts.heap
      (long_counted stored header (length after) cut) (omega (arith, stored.stands, cut.behind))
      (omega (arith, stored.stands, stored.size, cut.ends))

  -- words of no cell of the list stay
  put_stays : (a : ℕ) → a < layouts_start old.seat.space → (IsInCell a stored.shown.cell → ⊥)
      → (IsInCell a stored.cell → ⊥) → slice_get (heap_words new.seat) a ≡ slice_get (heap_words old.seat) a
  put_stays a below not_list not_store =
      cut_reads a ∙ stays a
      (λ from before. let inside = of_list stored a from before in
      not_list (record { from = inside.from; below = inside.below }))
      (λ from before. let inside = of_store stored a from before in
      not_store (record { from = inside.from; below = inside.below }))

  -- as many words are used
  put_used : new.young.used ≡ old.young.used
  put_used = ap (λ (young : Young). young.used) puts.young

  -- and as many survive
  put_survivors : new.young.survivors ≡ old.young.survivors
  put_survivors = ap (λ (young : Young). young.survivors) puts.young

  -- a row over its words
  store_row : (pieces : List Cell)
      → IsRow new.seat.space (heap_words new.seat) store (store + (store_head + stored.cell.length)) pieces
      → IsRow new.seat.space (heap_words new.seat) stored.cell.at (stored.cell.at + stored.cell.size) pieces
  store_row pieces row =
      let ends : store + (store_head + stored.cell.length) ≡ stored.cell.at + stored.cell.size =
      omega (arith, stored.stands, stored.size) in
      subst (λ n. IsRow new.seat.space (heap_words new.seat) n (stored.cell.at + stored.cell.size) pieces)
      (sym stored.stands)
      (subst (λ n. IsRow new.seat.space (heap_words new.seat) store n pieces) ends row)

  -- a word of the list's cell, by the address at which it stands
  list_word : (k : ℕ) → slice_get (heap_words new.seat) (stored.shown.cell.at + k) ≡ slice_get words (at + k)
  list_word k = ap (λ n. slice_get (heap_words new.seat) (n + k)) stored.shown.stands ∙ cut_reads (at + k)

  module _ {graph : Graph} {came : Cell} {pieces : List Cell} (shows : MainShows old graph)
      (is : IsListAt old graph at list) (within : AreWithin old.seat.space.sizes old.seat.space.variables)
      (are : AreNewElements graph after)
      (into : IsCutInto (heap_of new) store (store + (store_head + stored.cell.length)) start kept came pieces)
      (stay : AreKept list.elements after from kept) (touch : ℕ → Touch) (touches : Touches old new touch)
      (each : (a : ℕ) → CutTouch stored.shown.cell stored.cell came touch a)
      (marks : TrimMarks old new at store start) where
    -- so the list was trimmed
    trim : Trimming (heap_of old) (heap_of new) stored.shown.cell stored.cell came pieces list.elements after from
    trim = record {
      whole = stored.whole;
      has = stored.shown.has;
      shown = stored.shown.shows;
      refers = stored.refers;
      of_kind = stored.of_kind;
      same_space = puts.beside.space;
      same_survivors = put_survivors;
      same_used = put_used;
      paths = puts.paths;
      sized = put_sized;
      stay = put_stays;
      header = ap (λ n. slice_get (heap_words new.seat) n) stored.shown.stands ∙ cut_reads at
          ∙ cut_header stored header (length after) cut
          ∙ ap (λ n. slice_get (heap_words old.seat) n) (sym stored.shown.stands);
      slot = list_word store_slot ∙ cut_slot stored header (length after) cut
          ∙ ap (λ n. Some (reference_word n)) (sym into.place);
      counted = list_word count_offset ∙ cut_count stored header (length after) cut;
      row = store_row pieces into.row;
      among = into.among;
      each = into.each;
      still_store = into.of_kind;
      no_number = into.no_number;
      place = omega (arith, into.place, cut.start_is, stored.stands);
      room = omega (arith, into.long, cut.room);
      slots = λ k below. ap (λ n. slice_get (heap_words new.seat) (n + (store_head + k))) into.place
          ∙ cut_reads (start + (store_head + k))
          ∙ cut_slots stored header (length after) cut k (omega (arith, below, into.long))
          ∙ ap (λ n. slice_get (heap_words old.seat) (n + (store_head + (from + k)))) (sym stored.stands);
      elements = stay.elements;
      few = are.are.few;
      enough = omega (arith, stay.enough, into.long);
      rest = λ k past below. stay.rest k past (omega (arith, below, into.long));
    }

    -- and the heap shows the list with these elements, whose store has as many slots as are kept
    abbrev trimmed : Trimmed old new graph at list after
    trimmed = record {
      shows = shows;
      is = is;
      within = within;
      shown = stored.shown;
      are = are;
      words = words;
      puts = puts;
      store = stored.cell;
      came = came;
      pieces = pieces;
      from = from;
      trim = trim;
      remembers = remembers touch touches (trim_touches trim touch each) (none_made (heap_of old) touch);
      marks = subst (λ n. TrimMarks old new n stored.cell.at came.at) (sym stored.shown.stands)
          (subst (λ n. TrimMarks old new at n came.at) (sym stored.stands)
          (subst (TrimMarks old new at store) (sym into.place) marks));
    }

    pub cut_has_trimmed : HasTrimmed old new graph at list after came.length
    cut_has_trimmed = has_trimmed trimmed
