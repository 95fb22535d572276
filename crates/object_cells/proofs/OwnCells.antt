-- One word that was put is one of an object's own cells, and the other one of its cell.
use Rattle.std.proofs.Common.{◌≡◌, ◌≢◌, ℕ, ◌+◌, ◌<◌, ◌≤◌, ◌⊎◌, inl, inr, List, Contains, slice_get, IsTrue}
use Rattle.std.proofs.Common.{refl, sym, ◌∙◌, ap, subst, arith}
use Rattle.std.proofs.lemmas.Bool.{false≢true}
use Rattle.tagged_word.specs.declared.layout.Kind.TheVariants as kind
use Rattle.tagged_word.specs.Cells.{length_offset, is_object_kind}
use Rattle.page_space.specs.Extents.{Space, layouts_start}
use Rattle.page_space.proofs.Starts.{layouts_start_is}
use Rattle.shape_tree.specs.Shapes.{IsPathShape, shape_path}
use Rattle.heap_model.specs.Types.{Cell}
use Rattle.heap_model.specs.Heaps.{Heap, HasCell, words_of_cell}
use Rattle.heap_model.proofs.RunCells.{run_beside}
use Rattle.heap_model.specs.Wholeness.{Whole}
use Rattle.heap_model.proofs.CellsApart.{IsOfCell, first_of_cell, cells_apart, used_few}
use Rattle.heap_model.proofs.CellWords.{words_by_kind, words_are_size}
use Rattle.heap_model.proofs.WordsAlike.{cell_below_roots}
use Rattle.object_cells.specs.CellWrites.{IsInCell, IsWrittenOfKind, Becomes}
use Rattle.object_cells.specs.SlotChanges.{WritesFields}
use Rattle.object_cells.proofs.WrittenPlaces.{IsStoreOrBox, beside_is_no_object, beside_is_no_filler}
use Rattle.object_cells.proofs.OneWord.{WritesOne, WritesTwo}

-- the words of a list
pub list_size : {heap : Heap} {cell : Cell} {words : List ℕ} → HasCell heap cell words → cell.layout.kind ≡ kind.List
    → cell.size ≡ 3
list_size has list = sym (words_are_size has) ∙ words_by_kind kind.List has list

-- a store or a box stands in the heap, and the address is neither that of its header nor that of its length
pub record IsPutOwned (heap : Heap) (at : ℕ) (other : Cell) : Type 0 where
  pub stood : HasCell heap other (words_of_cell heap other)
  pub of_kind : IsStoreOrBox other.layout.kind
  pub header : other.at ≢ at
  pub length : other.layout.kind ≡ kind.Store → other.at + length_offset ≢ at

-- the address is in the cell, or in one of the stores and boxes
pub record IsOwnWord (heap : Heap) (cell : Cell) (others : List Cell) (at : ℕ) : Type 0 where
  pub each : (other : Cell) → Contains others other → IsPutOwned heap at other
  pub inside : IsInCell at cell ⊎ ((other : Cell) × Contains others other × IsInCell at other)

-- a word of a cell that is no filler is not of the run in which cells are made
cell_not_new : {old new : Heap} {one : Cell} {words : List ℕ} {first head at word : ℕ} {made : List Cell} (a : ℕ)
    → Whole old → (writes : WritesTwo old new first head at word made) → HasCell old one words
    → one.layout.kind ≢ kind.Filler → IsOfCell one a → writes.from ≤ a → a < writes.to → ⊥
cell_not_new {old} a whole writes has no_filler of_cell from below =
    let young = ap (λ (space : Space). space.sizes.young) writes.same_space in
    no_filler (run_beside writes.from writes.to a whole.rows (omega (arith, writes.room, young)) writes.run has of_cell
    from below).0

-- a word of a cell is before the layout words
pub cell_below_layouts : {heap : Heap} {cell : Cell} {words : List ℕ} {a : ℕ} → Whole heap → HasCell heap cell words
    → IsOfCell cell a → a < layouts_start heap.space
cell_below_layouts {heap} whole has of_cell =
    omega (arith, of_cell.below, cell_below_roots (used_few whole.rows) has, layouts_start_is heap.space)

-- so a word of a cell that is no filler stays, unless it is one of the two
pub word_stays : {old new : Heap} {one : Cell} {words : List ℕ} {first head at word : ℕ} {made : List Cell} (a : ℕ)
    → Whole old → WritesTwo old new first head at word made → HasCell old one words → one.layout.kind ≢ kind.Filler
    → IsOfCell one a → a ≢ first → a ≢ at → slice_get new.words a ≡ slice_get old.words a
word_stays a whole writes has no_filler of_cell not_first not_at =
    writes.stay a (cell_below_layouts whole has of_cell) not_first not_at
    (cell_not_new a whole writes has no_filler of_cell)

-- no address of a store or box is one of an object's cell
pub beside_not_own : {heap : Heap} {cell other : Cell} {words others : List ℕ} (a first : ℕ) → Whole heap
    → HasCell heap cell words → IsTrue (is_object_kind cell.layout.kind) → IsOfCell cell first
    → HasCell heap other others → IsStoreOrBox other.layout.kind → IsOfCell other a → a ≢ first
beside_not_own {cell = cell} {other} a first whole has object of_own has_other is of_other same =
    let one = cells_apart a whole.rows has has_other (subst (IsOfCell cell) (sym same) of_own) of_other in
    let is_object = ap (λ (c : Cell). is_object_kind c.layout.kind) (sym one) ∙ object in
    false≢true (sym (beside_is_no_object other.layout.kind is) ∙ is_object)

-- so none is that of its header
pub beside_not_header : {heap : Heap} {cell other : Cell} {words others : List ℕ} (a : ℕ) → Whole heap
    → HasCell heap cell words → cell.layout.kind ≡ kind.Plain → HasCell heap other others
    → IsStoreOrBox other.layout.kind
    → IsOfCell other a → a ≢ cell.at
beside_not_header {cell = cell} a whole has plain has_other is of_cell =
    beside_not_own a cell.at whole has (ap is_object_kind plain) (first_of_cell has) has_other is of_cell

-- the second word of a store is one of it
store_second : {heap : Heap} {other : Cell} {words : List ℕ} → HasCell heap other words → other.layout.kind ≡ kind.Store
    → IsOfCell other (other.at + length_offset)
store_second has store =
    record { from = omega arith; below = omega (arith, words_by_kind kind.Store has store, words_are_size has) }

-- A store or box was written, of which neither the header nor the length changed: one word is of the object's cell, and
-- the other neither of these.
pub written_beside : {old new : Heap} {cell other : Cell} {words : List ℕ} {first head at word : ℕ} {made : List Cell}
    → Whole old → HasCell old cell words → IsTrue (is_object_kind cell.layout.kind) → IsOfCell cell first
    → WritesTwo old new first head at word made → IsPutOwned old at other
    → IsWrittenOfKind kind.Store old new other
written_beside {other = other} {first = first} whole has object of_own writes put =
    let start = first_of_cell put.stood in
    let no_filler = beside_is_no_filler other.layout.kind put.of_kind in
    record {
      stood = put.stood;
      of_kind = put.of_kind;
      header = word_stays other.at whole writes put.stood no_filler start
          (beside_not_own other.at first whole has object of_own put.stood put.of_kind start) put.header;
      length = λ store.
          let second = store_second put.stood store in
          word_stays (other.at + length_offset) whole writes put.stood no_filler second
          (beside_not_own (other.at + length_offset) first whole has object of_own put.stood put.of_kind second)
          (put.length store);
    }

-- a word of no cell that is the object's own stays
pub others_stay : {old new : Heap} {cell : Cell} {others made : List Cell} {first head at word : ℕ}
    → IsOfCell cell first → (writes : WritesTwo old new first head at word made) → IsOwnWord old cell others at
    → (a : ℕ)
    → a < layouts_start old.space → (IsInCell a cell → ⊥)
    → ((other : Cell) → Contains others other → IsInCell a other → ⊥) → (writes.from ≤ a → a < writes.to → ⊥)
    → slice_get new.words a ≡ slice_get old.words a
others_stay {cell = cell} of_own writes own a below not_cell not_others not_new =
    writes.stay a below
    (λ same. not_cell (record { from = omega (arith, same, of_own.from); below = omega (arith, same, of_own.below) }))
    (λ same. elim own.inside [
      | inl in_cell ↦ not_cell (subst (λ n. IsInCell n cell) (sym same) in_cell)
      | inr there ↦ not_others there.0 there.1 (subst (λ n. IsInCell n there.0) (sym same) there.2)
    ])
    not_new

-- so where one word of a plain object's own cells was put, and its header, words of these cells were written
pub writes_cells : {old new : Heap} (cell : Cell) (shape at word : ℕ) (others made : List Cell) → Whole old
    → HasCell old cell (words_of_cell old cell) → cell.layout.kind ≡ kind.Plain → IsPathShape new.paths shape
    → (shape_path new.paths shape).cap ≡ cell.layout.cap → IsOwnWord old cell others at
    → WritesOne old new cell shape at word made → WritesFields old new cell shape others made
writes_cells cell shape at word others made whole has plain is_shape cap own writes =
    record {
      same_space = writes.same_space;
      same_survivors = writes.same_survivors;
      room = writes.room;
      more = writes.more;
      paths = writes.paths;
      sized = writes.sized;
      stood = has;
      of_kind = plain;
      becomes = Becomes.other_shape (record {
        plain = plain;
        is = refl;
        is_shape = is_shape;
        cap = cap;
        header = writes.header;
      });
      beside = λ other there.
          written_beside whole has (ap is_object_kind plain) (first_of_cell has) writes (own.each other there);
      from = writes.from;
      to = writes.to;
      run = writes.run;
      made_stand = writes.made_stand;
      stay = λ a below not_cell not_others not_new.
          others_stay (first_of_cell has) writes own a below not_cell not_others not_new;
    }
