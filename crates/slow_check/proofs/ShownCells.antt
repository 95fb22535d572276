-- Cells that show objects, by the words of their slots.
use Rattle.std.proofs.Common.{◌≡◌, ℕ, List, ◌++◌, Bool, length, drop, Some, sym, ◌∙◌, ap, subst}
use Rattle.tagged_word.specs.declared.layout.Kind.TheVariants as kind
use Rattle.tagged_word.specs.Cells.{store_slot, plain_head}
use Rattle.heap_model.specs.Types.{Value, Object, Field, Entry, Cell}
use Rattle.object_graph.specs.Paths.{path_of}
use Rattle.shape_tree.specs.Shapes.{IsPathShape, shape_path}
use Rattle.heap_model.specs.Heaps.{Heap, HasCell, words_of_cell}
use Rattle.heap_model.specs.Kinds.{HasWord, IsSoundCell, IsSoundOf, count_offset}
use Rattle.heap_model.specs.Showing.{ShowsPlain, ShowsList, ShowsWeak, ShowsObject, ShowsReached}
use Rattle.heap_model.proofs.CellsApart.{one_at}
use Rattle.heap_model.proofs.ShownObjects.{object_of_shown}
use Rattle.image_walk.specs.declared.spans.Span.{Span}
use Rattle.image_walk.specs.Spans.{EachWord, span_words, SpansStore}
use Rattle.image_walk.specs.TablePairs.{table_pairs, IsTableAs}
use Rattle.image_walk.proofs.StoreSlots.{beside_is_span}
use Rattle.image_walk.proofs.StoreSlots.{slots_are}
use Rattle.image_walk.proofs.PairWords.{table_is_span}
use Rattle.slow_check.specs.Places.{IsOnlyPlace}
use Rattle.slow_check.specs.ShownSlots.{ShowsFieldAt, ShowsElementAt}
use Rattle.slow_check.specs.KeyPairs.{ShowPairs}
use Rattle.slow_check.proofs.OnlyPlaces.{place_at}

-- the shape of a sound plain cell is that of a path
pub plain_shape : (heap : Heap) (cell : Cell) (words : List ℕ) → cell.layout.kind ≡ kind.Plain
    → IsSoundCell heap cell words
    → IsPathShape heap.paths cell.header.shape
plain_shape heap cell words is sound =
    let plain : IsSoundOf kind.Plain heap cell words = subst (λ k. IsSoundOf k heap cell words) is sound in
    plain.shape

-- a cell shows the cap and the fields of a plain object by its path and its slots
pub plain_shown_from : (heap : Heap) (cell : Cell) (words : List ℕ) (cap : ℕ) (fields : List Field) (store : ℕ)
    (own beside : Span) → cell.layout.kind ≡ kind.Plain
    → shape_path heap.paths cell.header.shape ≡ path_of cap fields → HasWord words store_slot store
    → span_words heap own ≡ drop plain_head words → SpansStore heap kind.Store store beside
    → EachWord (span_words heap own ++ span_words heap beside) (ShowsFieldAt heap cap fields)
    → ShowsPlain heap cell words cap fields
plain_shown_from heap cell words cap fields store own beside is path slot own_are stands each = record {
  of_kind = is;
  path = path;
  slots = span_words heap own ++ span_words heap beside;
  has = record {
    store = store;
    slot = slot;
    beside = span_words heap beside;
    stands = stands.beside;
    are = ap (λ slots. slots ++ span_words heap beside) own_are;
  };
  each = λ at field word has there. each at word there field has;
}

-- and then each slot shows its field
pub plain_shown_to : (heap : Heap) (cell : Cell) (words : List ℕ) (cap : ℕ) (fields : List Field) (store : ℕ)
    (own beside : Span) → HasWord words store_slot store → span_words heap own ≡ drop plain_head words
    → SpansStore heap kind.Store store beside → ShowsPlain heap cell words cap fields
    → EachWord (span_words heap own ++ span_words heap beside) (ShowsFieldAt heap cap fields)
plain_shown_to heap cell words cap fields store own beside slot own_are stands shows =
    let Shows : List ℕ → Type 0 = λ slots. EachWord slots (ShowsFieldAt heap cap fields) in
    subst Shows (slots_are store own beside slot own_are stands shows.has)
    (λ at word there field has. shows.each at field word has there)

-- a cell shows a list by its length and the slots of its store
pub list_shown_from : (heap : Heap) (cell : Cell) (words : List ℕ) (elements : List Value) (store count : ℕ)
    (span : Span) → cell.layout.kind ≡ kind.List → HasWord words count_offset count → count ≡ length elements
    → HasWord words store_slot store → SpansStore heap kind.Store store span
    → EachWord (span_words heap span) (ShowsElementAt heap elements) → ShowsList heap cell words elements
list_shown_from heap cell words elements store count span is counted long slot stands each = record {
  of_kind = is;
  counted = counted ∙ ap (λ n. Some n) long;
  store = store;
  slot = slot;
  slots = span_words heap span;
  has = stands.beside;
  each = λ at value word has there. each at word there value has;
}

-- and then each slot shows its element
pub list_shown_to : (heap : Heap) (cell : Cell) (words : List ℕ) (elements : List Value) (store : ℕ) (span : Span)
    → HasWord words store_slot store → SpansStore heap kind.Store store span → ShowsList heap cell words elements
    → EachWord (span_words heap span) (ShowsElementAt heap elements)
list_shown_to heap cell words elements store span slot stands shows =
    let Shows : List ℕ → Type 0 = λ slots. EachWord slots (ShowsElementAt heap elements) in
    subst Shows (beside_is_span words store_slot store shows.store span slot shows.slot stands shows.has)
    (λ at word there value has. shows.each at value word has there)

-- a cell shows a weak map by the pairs of its table
pub weak_shown_from : (heap : Heap) (marks : List Bool) (cell : Cell) (words : List ℕ) (entries : List Entry)
    (store : ℕ) (table : Span) → cell.layout.kind ≡ kind.Weak → HasWord words store_slot store
    → IsTableAs heap store table → ShowPairs heap marks (table_pairs heap table) entries
    → ShowsWeak heap marks cell words entries
weak_shown_from heap marks cell words entries store table is slot has shows = record {
  of_kind = is;
  store = store;
  slot = slot;
  pairs = table_pairs heap table;
  table = has.has;
  each = shows.each;
  others = shows.others;
}

-- and then the pairs show its entries
pub weak_shown_to : (heap : Heap) (marks : List Bool) (cell : Cell) (words : List ℕ) (entries : List Entry) (store : ℕ)
    (table : Span) → HasWord words store_slot store → IsTableAs heap store table
    → ShowsWeak heap marks cell words entries → ShowPairs heap marks (table_pairs heap table) entries
weak_shown_to heap marks cell words entries store table slot has shows =
    subst (λ pairs. ShowPairs heap marks pairs entries)
    (table_is_span words store_slot store shows.store table slot shows.slot has shows.table)
    record { each = shows.each; others = shows.others }

-- an object is shown where the cell at its only place shows it
pub reached_from : (heap : Heap) (marks : List Bool) (number : ℕ) (cell : Cell) (what : Object)
    → IsOnlyPlace heap number cell → ShowsObject heap marks cell (words_of_cell heap cell) what
    → ShowsReached heap marks number what
reached_from heap marks number cell what only shows = record {
  cell = cell;
  words = words_of_cell heap cell;
  has = only.stands;
  carries = only.is.carries;
  shows = shows;
  once = only.once;
}

-- the cell that shows an object is at its only place
pub reached_place : (heap : Heap) (marks : List Bool) (number : ℕ) (what : Object)
    → (shows : ShowsReached heap marks number what) → IsOnlyPlace heap number shows.cell
reached_place heap marks number what shows = record {
  stands = subst (HasCell heap shows.cell) (sym shows.has.words_are) shows.has;
  is = record {
    object = object_of_shown heap marks shows.cell shows.words what shows.shows;
    carries = shows.carries;
  };
  once = shows.once;
}

-- and it is the one that was found there
pub reached_to : (heap : Heap) (marks : List Bool) (number : ℕ) (cell : Cell) (what : Object)
    → IsOnlyPlace heap number cell → ShowsReached heap marks number what
    → ShowsObject heap marks cell (words_of_cell heap cell) what
reached_to heap marks number cell what only shows =
    let at : cell.at ≡ shows.cell.at = shows.once cell.at (place_at only.stands only.is) in
    let same : shows.cell ≡ cell = one_at shows.has only.stands (sym at) in
    let here : ShowsObject heap marks shows.cell (words_of_cell heap shows.cell) what =
    subst (λ words. ShowsObject heap marks shows.cell words what) (sym shows.has.words_are) shows.shows in
    subst (λ (one : Cell). ShowsObject heap marks one (words_of_cell heap one) what) same here
