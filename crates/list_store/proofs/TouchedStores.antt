-- What is touched where a value comes to a store that is made for a list: so what is recorded stays right.
use Rattle.std.proofs.Common.{◌≡◌, ℕ, ◌+◌, ◌<◌, List, [], ◌∷◌, Contains, length, refl, arith}
use Rattle.tagged_word.specs.Cells.{store_head, store_slot}
use Rattle.tagged_word.proofs.Members.{first_in, rest_in}
use Rattle.page_space.specs.Extents.{eden_start}
use Rattle.object_graph.specs.Graphs.{Graph, ListObject}
use Rattle.object_graph.specs.Meaning.{list_most}
use Rattle.heap_model.specs.Types.{Value, Cell, Held}
use Rattle.heap_model.specs.Heaps.{HasCell, words_of_cell}
use Rattle.heap_model.specs.Kinds.{count_offset}
use Rattle.heap_model.specs.Remembered.{Touch, TouchesMade}
use Rattle.heap_model.specs.Wholeness.{HasRows}
use Rattle.heap_model.proofs.BoundHeaps.{none_in}
use Rattle.write_barrier.specs.MutatorState.{Mutator, heap_of}
use Rattle.write_barrier.specs.Recording.{touched, touched_one, touched_then}
use Rattle.object_cells.specs.Contents.{next_at}
use Rattle.object_cells.specs.Made.{store_content, content_touch, store_touch}
use Rattle.object_cells.specs.declared.stores.Store.{Store}
use Rattle.object_cells.proofs.FilledRuns.{own_row, own_run}
use Rattle.object_cells.proofs.FittingCells.{content_fits}
use Rattle.object_cells.proofs.ListChanging.{Changing, list_word}
use Rattle.object_cells.proofs.MadeBoxes.{made_boxes}
use Rattle.object_cells.proofs.MadeTouches.{HasSlotsBehind, store_slots_behind, store_touched, first_touched}
use Rattle.object_cells.proofs.MadeTouches.{made_store_fits, made_slots_fit, made_content_fits}
use Rattle.object_cells.proofs.OwnerWrites.{list_owns, written_own_keeps_cells}
use Rattle.object_cells.proofs.TakenRuns.{taken_run}
use Rattle.object_cells.proofs.TakenValues as taken
use Rattle.object_cells.proofs.TouchedCells.{FitsTouch, IsBeside, fits_made, fits_one_apart, fits_then, made_then}
use Rattle.object_cells.proofs.TouchedCells.{same_cells_touched, then_kept}
use Rattle.object_cells.proofs.TouchedOffsets.{IsBehindHead}
use Rattle.object_cells.proofs.UnusedWords.{run_beside}
use Rattle.object_cells.specs.SureCells.{RemembersSurely}
use Rattle.object_cells.proofs.SureCells.{remembers_surely}
use Rattle.list_store.specs.Pushes.{CanChange, PushesToNewStore}
use Rattle.list_store.proofs.PushedToNewStore as pushed
use Rattle.list_store.proofs.TouchedLists.{count_fits, store_fits}

module _ {old new : Mutator} {graph : Graph} {at count : ℕ} {list : ListObject} {value : Held} {what : Value}
    {store : Store} (known : Changing old graph at list value what) (can : CanChange old at count store)
    (is : count ≡ length list.elements) (least : length list.elements < list_most) (full : count ≡ store.capacity)
    (pushes : PushesToNewStore old new at count value store) where
  -- the store that is made, and the box behind it
  abbrev other : Cell
  other = pushed.other known can is least full pushes

  abbrev capacity : ℕ
  capacity = pushed.capacity known can is least full pushes

  abbrev box : ℕ
  box = pushed.box known can is least full pushes

  abbrev boxes : List Cell
  boxes = made_boxes (store_content value) box

  abbrev all : List Cell
  all = other ∷ boxes

  -- the list's cell
  abbrev cells : List Cell
  cells = known.shown.cell ∷ []

  -- where what was taken ends
  abbrev ends : ℕ
  ends = next_at old + pushed.need known can is least full pushes

  -- what is touched: the store and the box that are made, then the slot of the element, and then words of the list's
  abbrev stored : ℕ → Touch
  stored = store_touch capacity (next_at old)

  abbrev boxed : ℕ → Touch
  boxed = content_touch (store_content value) box

  abbrev made : ℕ → Touch
  made = touched_then stored boxed

  abbrev slot : ℕ
  slot = next_at old + (store_head + count)

  abbrev put : ℕ → Touch
  put = touched_then made (touched_one Touch.Stored slot)

  abbrev named : ℕ → Touch
  named = touched_one Touch.Stored (at + store_slot)

  abbrev linked : ℕ → Touch
  linked = touched_then put named

  abbrev counted : ℕ → Touch
  counted = touched_one Touch.Wiped (at + count_offset)

  -- no word of the list's cell is one that was taken
  list_apart : (k : ℕ) → k < 3 → IsBeside (next_at old) ends (at + k)
  list_apart k below =
      run_beside (at + k) (own_run (pushed.filled known can is least full pushes))
      (pushed.list_no_filler known can is least full pushes) known.shown.has (list_word k known.shown below)

  -- beside what was taken nothing was touched but words of the list's
  put_fits : (a : ℕ) → IsBeside (next_at old) ends a → FitsTouch cells cells a (put a)
  put_fits a out =
      let next : ℕ = next_at old in
      let more = pushed.more known can is least full pushes in
      fits_then cells cells made (touched_one Touch.Stored slot) a
      (fits_then cells cells stored boxed a
      (fits_then cells cells (touched Touch.Wiped next (next + store_head))
      (touched Touch.Stored (next + store_head) box) a
      (fits_made cells cells Touch.Wiped next ends next (next + store_head) a (omega arith) (omega arith) out)
      (fits_made cells cells Touch.Stored next ends (next + store_head) box a (omega arith) (omega arith) out))
      (content_fits cells cells (store_content value) next ends box a (omega arith) (omega arith) out))
      (fits_made cells cells Touch.Stored next ends slot (slot + 1) a (omega arith) (omega (arith, more)) out)

  fits : (a : ℕ) → IsBeside (next_at old) ends a → FitsTouch cells cells a (touched_then linked counted a)
  fits a out =
      let whole = known.shows.shows.whole in
      fits_then cells cells linked counted a
      (fits_then cells cells put named a (put_fits a out)
      (store_fits [] whole known.shown (λ one among. absurd (none_in one among)) a))
      (count_fits [] whole known.shown (λ one among. absurd (none_in one among)) a)

  -- in what was taken each word fits the cells that were made
  rows : HasRows (heap_of new)
  rows =
      (written_own_keeps_cells list_owns known.shows.shows.whole
      (pushed.takes known can is least full pushes).writes).0

  stand : (one : Cell) → Contains all one → HasCell (heap_of new) one (words_of_cell (heap_of new) one)
  stand = taken.made_has (pushed.takes known can is least full pushes)

  behind : HasSlotsBehind other capacity
  behind = store_slots_behind other refl (omega arith)

  fits_all : (a : ℕ) → FitsTouch all all a (put a)
  fits_all a =
      let more = pushed.more known can is least full pushes in
      let among = first_in other boxes in
      fits_then all all made (touched_one Touch.Stored slot) a
      (fits_then all all stored boxed a (made_store_fits all rows stand other capacity among behind a)
      (made_content_fits all rows stand (store_content value) box a (λ one there. rest_in other boxes one there)))
      (made_slots_fit all rows stand other capacity among behind slot (slot + 1) a (omega arith) (omega (arith, more)))

  -- and each slot of the store was put
  slots_put : (a : ℕ) → IsBehindHead other capacity a → put a ≡ Touch.Kept → ⊥
  slots_put a inside kept =
      let from = inside.from in
      let below = inside.below in
      let first = then_kept made (touched_one Touch.Stored slot) a kept in
      store_touched capacity (next_at old) a from below (then_kept stored boxed a first.0).0

  of_made : TouchesMade (heap_of old) (next_at old) ends all (touched_then linked counted)
  of_made =
      let next : ℕ = next_at old in
      let filled = pushed.filled known can is least full pushes in
      let run = taken_run new (pushed.need known can is least full pushes) known.shows.tied pushes.room
      pushes.words.young pushes.words.beside.space in
      let first : TouchesMade (heap_of old) next ends all put =
      first_touched other capacity (store_content value) box put behind run (own_row filled).row
      (λ a of_page above before. fits_all a) (λ a of_page. slots_put a) in
      let then_named : TouchesMade (heap_of old) next ends all linked =
      made_then put named first (λ a of_page above before.
      fits_one_apart all all Touch.Stored next ends (at + store_slot) a (list_apart 1 (omega arith)) above before) in
      made_then linked counted then_named (λ a of_page above before.
      fits_one_apart all all Touch.Wiped next ends (at + count_offset) a (list_apart 2 (omega arith)) above before)

  -- so it is remembered
  pub new_store_remembers : RemembersSurely old new cells cells all
  new_store_remembers =
      remembers_surely (touched_then linked counted) pushes.touches
      (same_cells_touched (eden_start old.seat.space) (next_at old) ends cells (touched_then linked counted)
      (λ a of_page out. fits a out)) of_made pushes.surely
