-- Touched words of a weak map fit its cell and that of its table: those of pairs are slots, and the count is none. So
-- what was recorded follows where pairs are put or removed.
use Rattle.std.proofs.Common.{◌≡◌, ℕ, ◌+◌, ◌*◌, ◌≤◌, ◌<◌, inl, inr, List, [], ◌∷◌, Contains, refl}
use Rattle.std.proofs.Common.{sym, subst, arith}
use Rattle.std.proofs.lemmas.Bool.{cases_lt}
use Rattle.tagged_word.specs.Cells.{store_head}
use Rattle.tagged_word.proofs.Members.{first_in, rest_in}
use Rattle.page_space.specs.Extents.{eden_start}
use Rattle.cell_layout.specs.Cells.{IsRow}
use Rattle.nursery.specs.Young.{HasRoom}
use Rattle.write_barrier.specs.Seats.{heap_words}
use Rattle.heap_model.specs.Types.{Cell, Held}
use Rattle.heap_model.specs.Heaps.{HasCell, words_of_cell}
use Rattle.heap_model.specs.Kinds.{count_offset}
use Rattle.heap_model.specs.Changes.{IsRunOf}
use Rattle.heap_model.specs.Remembered.{IsSlotOf, Touch, TouchesMade}
use Rattle.heap_model.specs.Wholeness.{HasRows}
use Rattle.heap_model.proofs.CellsApart.{IsOfCell}
use Rattle.write_barrier.specs.MutatorState.{Mutator, heap_of}
use Rattle.write_barrier.specs.Recording.{Touches, touched_one, touched_then, Remembers}
use Rattle.object_cells.specs.declared.content.SlotContent.{SlotContent}
use Rattle.object_cells.specs.declared.content.SlotContent.TheVariants as content
use Rattle.object_cells.specs.Contents.{next_at}
use Rattle.object_cells.specs.Made.{content_need, content_touch, slot_touch, store_content}
use Rattle.object_cells.proofs.FittingCells.{slot_fits, word_fits, content_fits}
use Rattle.object_cells.proofs.SlotsOfCells.{all_stand, one_stands}
use Rattle.object_cells.proofs.MadeBoxes.{made_boxes}
use Rattle.object_cells.proofs.MadeTouches.{box_touched, made_content_fits}
use Rattle.object_cells.proofs.TouchedCells.{FitsTouch, IsBeside, kept_fits, fits_then, fits_one, fits_one_apart}
use Rattle.object_cells.proofs.TouchedCells.{none_made, same_cells_touched, remembers}
use Rattle.object_cells.proofs.TouchedOffsets.{IsBehindHead, table_has_slot, weak_count_is_no_slot}
use Rattle.object_cells.proofs.UnusedWords.{next_apart}
use Rattle.weak_pairs.specs.Tables.{IsOutsidePairs, value_offset}
use Rattle.weak_pairs.specs.declared.table.Table.{Table}
use Rattle.ephemeron_table.specs.Puttings.{PutsInTable, pair_touch}
use Rattle.ephemeron_table.specs.Removals.{RemovesAt}
use Rattle.ephemeron_table.proofs.KnownTables.{KnownMap, cell, cell_has, of_map, found, other, other_has, other_long}
use Rattle.ephemeron_table.proofs.KnownTables.{beside_table, map_no_filler, table_no_filler}
use Rattle.ephemeron_table.proofs.PairTouches.{KeptOrPair, pair_alone}

-- where the same cells went and came, each address of pages fits that is beside the run in which cells were made, and
-- the run was touched as these owe it, what was recorded follows
pub same_remembers : {old new : Mutator} (from to : ℕ) (cells made : List Cell) (touch : ℕ → Touch)
    → Touches old new touch
    → ((at : ℕ) → at < eden_start old.seat.space → IsBeside from to at → FitsTouch cells cells at (touch at))
    → TouchesMade (heap_of old) from to made touch → Remembers old new cells cells made
same_remembers {old} from to cells made touch touches fits of_made =
    remembers touch touches (same_cells_touched (eden_start old.seat.space) from to cells touch fits) of_made

-- a slot that comes to hold its value in no raw word is stored
slot_stored : (holds : SlotContent) → ((w : ℕ) → holds ≡ content.Raw w → ⊥) → slot_touch holds ≡ Touch.Stored
slot_stored (content.Tagged word) not_raw = refl
slot_stored (content.Raw word) not_raw = absurd (not_raw word refl)
slot_stored (content.Boxed v) not_raw = refl

-- The box of what a slot comes to hold was made where the next cell is, if it needs one, and stands there.
pub record MakesBox (old new : Mutator) (holds : SlotContent) : Type 0 where
  pub room : HasRoom old.young (content_need holds)
  pub run : IsRunOf (heap_of old) (heap_of new) (next_at old) (next_at old + content_need holds)
  pub rows : HasRows (heap_of new)
  pub row : IsRow new.seat.space (heap_words new.seat) (next_at old) (next_at old + content_need holds)
      (made_boxes holds (next_at old))
  pub stand : (one : Cell) → Contains (made_boxes holds (next_at old)) one
      → HasCell (heap_of new) one (words_of_cell (heap_of new) one)

-- so what making it touches fits it
box_fits : {old new : Mutator} {holds : SlotContent} → MakesBox old new holds → (at : ℕ)
    → FitsTouch (made_boxes holds (next_at old)) (made_boxes holds (next_at old)) at
    (content_touch holds (next_at old) at)
box_fits {old} {holds = holds} makes at =
    made_content_fits (made_boxes holds (next_at old)) makes.rows makes.stand holds (next_at old) at
    (λ one among. among)

module _ {old : Mutator} {map : ℕ} {table : Table} (known : KnownMap old map table) where
  -- the count of a map fits where no slot's word was put
  pub count_fits : (others : List Cell)
      → ((one : Cell) → Contains others one → HasCell (heap_of old) one (words_of_cell (heap_of old) one))
      → FitsTouch (cell known ∷ others) (cell known ∷ others) (map + count_offset) Touch.Wiped
  count_fits others stand =
      let of_count : IsOfCell (cell known) (map + count_offset) = of_map known count_offset (omega arith) in
      word_fits (cell known) (cell known) known.whole.rows (all_stand (cell known) others (cell_has known) stand)
      (first_in (cell known) others) of_count (cell_has known) of_count
      (λ slot. weak_count_is_no_slot (cell known) known.there.of_kind
      (subst (λ n. IsSlotOf (cell known) (n + count_offset)) (sym known.there.stands) slot))

  module _ (some : 0 < table.capacity) where
    -- the cells of the map and of its table
    abbrev cells : List Cell
    cells = cell known ∷ other known some ∷ []

    abbrev Fits : ℕ → Touch → Type 0
    Fits at touch = FitsTouch cells cells at touch

    -- the count fits among both
    count_of_both : Fits (map + count_offset) Touch.Wiped
    count_of_both =
        count_fits (other known some ∷ []) (one_stands (other known some) (other_has known some))

    -- and so does a slot of a pair
    pair_fits : (at : ℕ) → (IsOutsidePairs table at → ⊥) → Fits at Touch.Stored
    pair_fits at inside =
        let one = found known some in
        let long = other_long known some in
        let among : Contains cells (other known some) =
        rest_in (cell known) (other known some ∷ []) (other known some) (first_in (other known some) []) in
        let behind : IsBehindHead (other known some) (2 * (other known some).length) at =
        elim (cases_lt at (table.at + store_head)) [
          | inl low ↦ absurd (inside (inl low))
          | inr from ↦ elim (cases_lt at (table.at + (store_head + 2 * table.capacity))) [
            | inl below ↦ record {
              from = omega (arith, from, one.stands);
              below = omega (arith, below, one.stands, long);
            }
            | inr high ↦ absurd (inside (inr high))
          ]
        ] in
        slot_fits (other_has known some) among among (table_has_slot one.of_kind behind)

    -- so an address fits that was kept or is one of a pair
    pairs_fit : (at : ℕ) (touch : Touch) → KeptOrPair table at touch → Fits at touch
    pairs_fit at touch (inl kept) = kept_fits cells cells at touch kept
    pairs_fit at touch (inr stored) = subst (Fits at) (sym stored.0) (pair_fits at stored.1)

    -- where a pair was removed, what was recorded follows
    pub removed_remembers : {new : Mutator} {place : ℕ} → RemovesAt old new map table place
        → Remembers old new cells cells []
    removed_remembers removes =
        same_remembers 0 0 cells [] removes.touch removes.touches (λ at below beside. elim (removes.touched at) [
          | inl kept ↦ kept_fits cells cells at (removes.touch at) kept
          | inr other ↦ elim other [
            | inl stored ↦ subst (Fits at) (sym stored.0) (pair_fits at stored.1)
            | inr wiped ↦ subst (Fits at) (sym wiped.0)
                (subst (λ n. Fits n Touch.Wiped) (sym wiped.1) count_of_both)
          ]
        ]) (none_made (heap_of old) removes.touch)

    -- the words of both cells are beside the run
    map_apart : (need k : ℕ) → k < 3 → HasRoom old.young need → IsBeside (next_at old) (next_at old + need) (map + k)
    map_apart need k few room =
        next_apart need (map + k) known.tied known.whole.rows room (map_no_filler known) (cell_has known)
        (of_map known k few)

    pair_apart : (need at : ℕ) → (IsOutsidePairs table at → ⊥) → HasRoom old.young need
        → IsBeside (next_at old) (next_at old + need) at
    pair_apart need at inside room from less =
        inside (beside_table known some at (λ within.
        next_apart need at known.tied known.whole.rows room (table_no_filler known some) (other_has known some)
        (record { from = within.from; below = within.below }) from less))

    -- so in the run an address fits that was kept or is one of a pair
    pairs_kept : (need : ℕ) (boxes : List Cell) (at : ℕ) (touch : Touch) → KeptOrPair table at touch
        → HasRoom old.young need → next_at old ≤ at → at < next_at old + need → FitsTouch boxes boxes at touch
    pairs_kept need boxes at touch (inl kept) room from less = kept_fits boxes boxes at touch kept
    pairs_kept need boxes at touch (inr stored) room from less = absurd (pair_apart need at stored.1 room from less)

    -- where a pair was put, what was recorded follows
    pub put_remembers : {new : Mutator} {place key count : ℕ} {value : Held} → place < table.capacity
        → PutsInTable old new map table place key count value → MakesBox old new (store_content value)
        → Remembers old new cells cells (made_boxes (store_content value) (next_at old))
    put_remembers {place = place} {value = value} below puts makes =
        let holds : SlotContent = store_content value in
        let next : ℕ = next_at old in
        let to : ℕ = next + content_need holds in
        let boxes : List Cell = made_boxes holds next in
        let box : ℕ → Touch = content_touch holds next in
        let pair : ℕ → Touch = pair_touch table.at place in
        let count : ℕ → Touch = touched_one Touch.Wiped (map + count_offset) in
        let all : ℕ → Touch = touched_then (touched_then box pair) count in
        same_remembers next to cells boxes all puts.touches (λ at of_page beside.
        fits_then cells cells (touched_then box pair) count at
        (fits_then cells cells box pair at
        (content_fits cells cells holds next to next at (omega arith) (omega arith) beside)
        (pairs_fit at (pair at) (pair_alone table place at below)))
        (fits_one cells cells Touch.Wiped (map + count_offset) at count_of_both))
        (box_touched holds next all makes.run makes.row (λ at of_page from less.
        fits_then boxes boxes (touched_then box pair) count at
        (fits_then boxes boxes box pair at (box_fits makes at)
        (pairs_kept (content_need holds) boxes at (pair at) (pair_alone table place at below) makes.room from less))
        (fits_one_apart boxes boxes Touch.Wiped next to (map + count_offset) at
        (map_apart (content_need holds) count_offset (omega arith) makes.room) from less)))

    -- and where the value of one came to be another, unless that was put in the box that stood there
    pub value_remembers : {new : Mutator} (place : ℕ) (holds : SlotContent) → place < table.capacity
        → ((w : ℕ) → holds ≡ content.Raw w → ⊥)
        → Touches old new (touched_then (content_touch holds (next_at old))
        (touched_one (slot_touch holds) (table.at + value_offset place)))
        → MakesBox old new holds → Remembers old new cells cells (made_boxes holds (next_at old))
    value_remembers place holds below not_raw touches makes =
        let next : ℕ = next_at old in
        let to : ℕ = next + content_need holds in
        let boxes : List Cell = made_boxes holds next in
        let slot : ℕ = table.at + value_offset place in
        let how : Touch = slot_touch holds in
        let box : ℕ → Touch = content_touch holds next in
        let all : ℕ → Touch = touched_then box (touched_one how slot) in
        let inside : IsOutsidePairs table slot → ⊥ =
        λ outside. elim outside [
          | inl before ↦ omega (arith, before)
          | inr behind ↦ omega (arith, behind, below)
        ] in
        let fits : Fits slot how = subst (Fits slot) (sym (slot_stored holds not_raw)) (pair_fits slot inside) in
        same_remembers next to cells boxes all touches (λ at of_page beside.
        fits_then cells cells box (touched_one how slot) at
        (content_fits cells cells holds next to next at (omega arith) (omega arith) beside)
        (fits_one cells cells how slot at fits))
        (box_touched holds next all makes.run makes.row (λ at of_page from less.
        fits_then boxes boxes box (touched_one how slot) at (box_fits makes at)
        (fits_one_apart boxes boxes how next to slot at (pair_apart (content_need holds) slot inside makes.room) from
        less)))
