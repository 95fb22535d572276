-- What is touched where a value comes to a slot that the store of a list has, and maybe the list's length is another:
-- so what is recorded stays right.
use Rattle.std.proofs.Common.{ℕ, ◌+◌, ◌≤◌, ◌<◌, List, [], ◌∷◌, Contains, subst, arith}
use Rattle.tagged_word.specs.Cells.{store_head}
use Rattle.tagged_word.proofs.Members.{first_in, one_in}
use Rattle.page_space.specs.Extents.{eden_start}
use Rattle.nursery.specs.Young.{HasRoom}
use Rattle.object_graph.specs.Graphs.{Graph, ListObject}
use Rattle.write_barrier.specs.Seats.{heap_words}
use Rattle.heap_model.specs.Types.{Value, Cell, Held}
use Rattle.heap_model.specs.Heaps.{HasCell, words_of_cell}
use Rattle.heap_model.specs.Kinds.{count_offset}
use Rattle.heap_model.specs.Remembered.{Touch, TouchesMade}
use Rattle.write_barrier.specs.MutatorState.{Mutator, heap_of, reserved}
use Rattle.write_barrier.specs.Recording.{Touches, touched_one, touched_then}
use Rattle.object_cells.specs.Contents.{next_at}
use Rattle.object_cells.specs.Made.{IsStoreAt, PutsWords, content_need, content_touch, store_content}
use Rattle.object_cells.specs.declared.stores.Store.{Store}
use Rattle.object_cells.proofs.FittingCells.{content_fits}
use Rattle.object_cells.proofs.ListChanging.{Changing, Elements, list_word}
use Rattle.object_cells.proofs.MadeBoxes.{made_boxes}
use Rattle.object_cells.proofs.MadeTouches.{box_touched, made_content_fits}
use Rattle.object_cells.proofs.OwnContents as beside
use Rattle.object_cells.proofs.OwnerWrites.{list_owns, written_own_keeps_cells}
use Rattle.object_cells.proofs.TakenRuns.{taken_run}
use Rattle.object_cells.proofs.TakenValues as taken
use Rattle.object_cells.proofs.TouchedCells.{FitsTouch, IsBeside, fits_one_apart, fits_then, made_then}
use Rattle.object_cells.proofs.TouchedCells.{same_cells_touched}
use Rattle.write_barrier.specs.SureStores.{StoresSurely}
use Rattle.object_cells.specs.SureCells.{RemembersSurely}
use Rattle.object_cells.proofs.SureCells.{remembers_surely}
use Rattle.list_store.specs.Pushes.{with_count, with_element}
use Rattle.list_store.proofs.TouchedLists.{count_fits, element_fits}
use Rattle.list_store.proofs.WrittenSlots as slots

module _ {old new : Mutator} {graph : Graph} {at slot count : ℕ} {list : ListObject} {value : Held} {what : Value}
    {store : Store} (known : Changing old graph at list value what) (becomes : Elements graph list what slot count)
    (is_store : IsStoreAt (heap_of old) at store) (below : slot < store.capacity) (enough : count ≤ store.capacity)
    (room : HasRoom old.young (content_need (store_content value)))
    (puts : let put = with_element (heap_words old.seat) (store.at + (store_head + slot)) value (next_at old) in
    PutsWords (reserved old (content_need (store_content value))) new (with_count put at count)) where
  -- the list's store
  abbrev other : Cell
  other = slots.other known becomes is_store below enough room puts

  -- it stood there
  other_has : HasCell (heap_of old) other (words_of_cell (heap_of old) other)
  other_has = slots.other_has known becomes is_store below enough room puts

  -- the cells that are written
  abbrev cells : List Cell
  cells = known.shown.cell ∷ other ∷ []

  -- the box that is made, and where what was taken for it ends
  abbrev boxes : List Cell
  boxes = made_boxes (store_content value) (next_at old)

  abbrev ends : ℕ
  ends = next_at old + content_need (store_content value)

  -- the address of the slot
  abbrev place : ℕ
  place = store.at + (store_head + slot)

  -- the store is one of those that stand
  others_stand : (one : Cell) → Contains (other ∷ []) one → HasCell (heap_of old) one (words_of_cell (heap_of old) one)
  others_stand one among =
      subst (λ (c : Cell). HasCell (heap_of old) c (words_of_cell (heap_of old) c)) (one_in other one among) other_has

  -- the slot fits where it is stored
  place_fits : (a : ℕ) → FitsTouch cells cells a (touched_one Touch.Stored place a)
  place_fits a =
      let there = slots.there known becomes is_store below enough room puts in
      subst (λ n. FitsTouch cells cells a (touched_one Touch.Stored (n + (store_head + slot)) a)) there.found.stands
      (element_fits (other ∷ []) known.shows.shows.whole known.shown others_stand slot a (first_in other [])
      there.found.of_kind (omega (arith, there.capacity, below)))

  -- neither it nor the length is a word of the box
  place_apart : IsBeside (next_at old) ends place
  place_apart =
      let putting = slots.putting known becomes is_store below enough room puts in
      beside.not_made putting place (beside.other_no_filler putting) other_has
      (slots.of_store known becomes is_store below enough room puts)

  count_apart : IsBeside (next_at old) ends (at + count_offset)
  count_apart =
      let putting = slots.putting known becomes is_store below enough room puts in
      beside.not_made putting (at + count_offset) (beside.own_no_filler putting) known.shown.has
      (list_word 2 known.shown (omega arith))

  -- what is touched: the box that is made, then the slot, and then maybe the length
  abbrev made : ℕ → Touch
  made = content_touch (store_content value) (next_at old)

  abbrev pub slot_touch : ℕ → Touch
  slot_touch = touched_then made (touched_one Touch.Stored place)

  abbrev counted : ℕ → Touch
  counted = touched_one Touch.Wiped (at + count_offset)

  -- beside the words that were taken both fit the cells
  slot_fits : (a : ℕ) → IsBeside (next_at old) ends a → FitsTouch cells cells a (slot_touch a)
  slot_fits a out =
      fits_then cells cells made (touched_one Touch.Stored place) a
      (content_fits cells cells (store_content value) (next_at old) ends (next_at old) a (omega arith) (omega arith)
      out)
      (place_fits a)

  -- and in these the box
  of_made : TouchesMade (heap_of old) (next_at old) ends boxes slot_touch
  of_made =
      let takes = slots.takes known becomes is_store below enough room puts in
      let rows = (written_own_keeps_cells list_owns known.shows.shows.whole takes.writes).0 in
      box_touched (store_content value) (next_at old) slot_touch
      (taken_run new (content_need (store_content value)) known.shows.tied room puts.young puts.beside.space)
      (slots.row known becomes is_store below enough room puts)
      (λ a of_page above before.
      fits_then boxes boxes made (touched_one Touch.Stored place) a
      (made_content_fits boxes rows (taken.made_has takes) (store_content value) (next_at old) a (λ one among. among))
      (fits_one_apart boxes boxes Touch.Stored (next_at old) ends place a place_apart above before))

  -- so an element that is put is remembered
  pub put_remembers : Touches old new slot_touch → StoresSurely new slot_touch
      → RemembersSurely old new cells cells boxes
  put_remembers touches surely =
      remembers_surely slot_touch touches
      (same_cells_touched (eden_start old.seat.space) (next_at old) ends cells slot_touch
      (λ a of_page out. slot_fits a out)) of_made surely

  -- and so is one that is pushed, where the list's length is another
  pub push_remembers : Touches old new (touched_then slot_touch counted)
      → StoresSurely new (touched_then slot_touch counted) → RemembersSurely old new cells cells boxes
  push_remembers touches surely =
      remembers_surely (touched_then slot_touch counted) touches
      (same_cells_touched (eden_start old.seat.space) (next_at old) ends cells (touched_then slot_touch counted)
      (λ a of_page out.
      fits_then cells cells slot_touch counted a (slot_fits a out)
      (count_fits (other ∷ []) known.shows.shows.whole known.shown others_stand a)))
      (made_then slot_touch counted of_made (λ a of_page above before.
      fits_one_apart boxes boxes Touch.Wiped (next_at old) ends (at + count_offset) a count_apart above before)) surely
