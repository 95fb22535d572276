-- Words that were put in an object's own cells, once so many words were reserved.
use Rattle.std.proofs.Common.{◌≡◌, ℕ, ◌+◌, ◌≤◌, ◌<◌, inl, List, [], ◌∷◌, length, Contains}
use Rattle.std.proofs.lemmas.List.{append-nil}
use Rattle.std.proofs.Common.{slice_get, refl, sym, ◌∙◌, ap, subst, arith, add-zero}
use Rattle.heap_model.specs.Types.{Kind, Cell}
use Rattle.tagged_word.specs.Cells.{length_offset}
use Rattle.tagged_word.proofs.Members.{one_in}
use Rattle.page_space.specs.Extents.{Space, layouts_start}
use Rattle.page_space.proofs.Starts.{roots_start_is, layouts_start_is, marks_start_is}
use Rattle.nursery.specs.Young.{Young, HasRoom}
use Rattle.cell_layout.specs.Cells.{IsRow}
use Rattle.write_barrier.specs.Seats.{heap_words}
use Rattle.heap_model.specs.Heaps.{Heap, HasCell, words_of_cell}
use Rattle.heap_model.specs.Wholeness.{Whole, HasSizes}
use Rattle.write_barrier.specs.MutatorState.{Mutator, heap_of, IsTied, reserved}
use Rattle.object_cells.specs.CellWrites.{IsInCell, IsWrittenOfKind, Becomes, WritesOwnCells}
use Rattle.object_cells.specs.declared.content.SlotContent.{SlotContent}
use Rattle.object_cells.specs.Contents.{next_at}
use Rattle.object_cells.specs.Made.{PutsWords, content_need, with_content}
use Rattle.object_cells.proofs.MadeBoxes.{BoxStands, put_box}
use Rattle.object_cells.proofs.OwnCells.{cell_below_layouts}
use Rattle.object_cells.proofs.WordsPut.{sizes_stay}
use Rattle.object_cells.proofs.RunCells.{AreOfRegion, between}
use Rattle.object_cells.proofs.TakenRuns.{taken_run, room_stays}
use Rattle.object_cells.proofs.UnusedWords.{next_before_segments, next_run}

-- So many words were reserved, and then words were put: those of the cell of an object of this kind, of these others,
-- and what was reserved.
pub record PutsOwn (owner : Kind) (old new : Mutator) (cell : Cell) (others : List Cell) (need : ℕ) (words : List ℕ)
    : Type 0 where
  pub tied : IsTied old
  pub whole : Whole (heap_of old)
  pub has : HasCell (heap_of old) cell (words_of_cell (heap_of old) cell)
  pub of_kind : cell.layout.kind ≡ owner
  pub stood : (other : Cell) → Contains others other → HasCell (heap_of old) other (words_of_cell (heap_of old) other)
  pub room : HasRoom old.young need
  pub puts : PutsWords (reserved old need) new words
  pub long : length words ≡ length (heap_words old.seat)
  pub stay : (a : ℕ) → (IsInCell a cell → ⊥) → ((other : Cell) → Contains others other → IsInCell a other → ⊥)
      → (next_at old ≤ a → a < next_at old + need → ⊥) → slice_get words a ≡ slice_get (heap_words old.seat) a

-- a word in a cell is before the layout words
in_cell_below : {owner : Kind} {old new : Mutator} {cell one : Cell} {others : List Cell} {need : ℕ} {words : List ℕ}
    (a : ℕ) → PutsOwn owner old new cell others need words → HasCell (heap_of old) one (words_of_cell (heap_of old) one)
    → IsInCell a one → a < layouts_start old.seat.space
in_cell_below a puts has inside = cell_below_layouts puts.whole has
    (record { from = inside.from; below = inside.below })

-- so the sizes are there
pub own_sized : {owner : Kind} {old new : Mutator} {cell : Cell} {others : List Cell} {need : ℕ} {words : List ℕ}
    → PutsOwn owner old new cell others need words → HasSizes (heap_of new)
own_sized {old = old} {new} {need = need} puts =
    let all = puts.puts in
    sizes_stay old new puts.whole.sized all.beside all.paths (ap length all.heap ∙ puts.long) (λ at behind.
    ap (λ every. slice_get every at) all.heap
    ∙ puts.stay at (λ inside. omega (arith, behind, in_cell_below at puts puts.has inside))
    (λ other there inside. omega (arith, behind, in_cell_below at puts (puts.stood other there) inside))
    (λ from high. omega (
      arith,
      high,
      behind,
      next_before_segments old need puts.tied puts.room,
      roots_start_is old.seat.space,
      layouts_start_is old.seat.space,
    )))

-- and words of the object's own cells were written
pub own_writes : {owner owned : Kind} {old new : Mutator} {cell : Cell} {others : List Cell} {need : ℕ} {words : List ℕ}
    (made : List Cell) → PutsOwn owner old new cell others need words
    → slice_get (heap_words new.seat) cell.at ≡ slice_get (heap_words old.seat) cell.at
    → ((other : Cell) → Contains others other → IsWrittenOfKind owned (heap_of old) (heap_of new) other)
    → IsRow new.seat.space (heap_words new.seat) (next_at old) (next_at old + need) made
    → WritesOwnCells owner owned (heap_of old) (heap_of new) cell cell others made
own_writes {old = old} {new} {need = need} made puts header beside row =
    let all = puts.puts in
    let space = all.beside.space in
    record {
      same_space = space;
      same_survivors = ap (λ (y : Young). y.survivors) all.young;
      room = room_stays new need puts.tied puts.whole.rows puts.room all.young space;
      more = [];
      paths = all.paths ∙ sym (append-nil old.paths);
      sized = own_sized puts;
      stood = puts.has;
      of_kind = puts.of_kind;
      becomes = Becomes.itself refl header;
      beside = beside;
      from = next_at old;
      to = next_at old + need;
      run = taken_run new need puts.tied puts.room all.young space;
      made_stand = row;
      stay = λ a below not_cell not_others not_new.
          ap (λ every. slice_get every a) all.heap ∙ puts.stay a not_cell not_others not_new;
    }

-- A box among what was reserved stands there, where the words from its address on were put for it.
pub box_put : {owner : Kind} {old new : Mutator} {cell : Cell} {others : List Cell} {need : ℕ} {words : List ℕ}
    (before : List ℕ) (holds : SlotContent) (box : ℕ) → PutsOwn owner old new cell others need words
    → length before ≡ length (heap_words old.seat) → next_at old ≤ box → box + content_need holds ≤ next_at old + need
    → ((b : ℕ) → box ≤ b → b < box + content_need holds
    → slice_get (heap_words new.seat) b ≡ slice_get (with_content before holds box) b) → BoxStands (heap_of new) holds
    box
box_put {old = old} {new} {need = need} before holds box puts long from below stands =
    let space = puts.puts.beside.space in
    let run = next_run old need puts.tied puts.whole.rows puts.room in
    put_box (heap_of new) before holds box
    (omega (
      arith,
      long,
      puts.whole.sized.words,
      below,
      run.ends,
      roots_start_is old.seat.space,
      layouts_start_is old.seat.space,
      marks_start_is old.seat.space,
    ))
    (subst (λ (s : Space). AreOfRegion s box (box + content_need holds)) (sym space)
    (between box (box + content_need holds) run.region from below)) stands

-- Of a cell of which the first two words stay neither the header nor the length changed; so it is of the one cell that
-- was written.
pub one_owned : {owned : Kind} {old new : Heap} {other : Cell} → HasCell old other (words_of_cell old other)
    → other.layout.kind ≡ owned
    → ((k : ℕ) → k < 2 → slice_get new.words (other.at + k) ≡ slice_get old.words (other.at + k)) → (one : Cell)
    → Contains (other ∷ []) one → IsWrittenOfKind owned old new one
one_owned {owned} {old} {new} {other} has is stays one among =
    subst (IsWrittenOfKind owned old new) (one_in other one among) (record {
      stood = has;
      of_kind = inl is;
      header = subst (λ a. slice_get new.words a ≡ slice_get old.words a) (add-zero other.at) (stays 0 (omega arith));
      length = λ same. stays length_offset (omega arith);
    })
