-- Where an entry came to a table that was made, what was recorded follows: beside the run in which it was made only two
-- words of the map's own cell were put, the slot for its table and its count. In the run the table's slots were stored,
-- and no others.
use Rattle.std.proofs.Common.{◌≡◌, ℕ, ◌+◌, ◌*◌, ◌<◌, inl, inr, List, [], ◌∷◌, Contains, refl, sym, ap, subst}
use Rattle.std.proofs.Common.{arith}
use Rattle.std.specs.Prelude.{IsTrue}
use Rattle.std.proofs.lemmas.Bool.{cases_lt}
use Rattle.tagged_word.specs.Cells.{store_head, store_slot, is_object_kind}
use Rattle.tagged_word.proofs.Members.{first_in, rest_in}
use Rattle.heap_model.specs.Types.{Cell, Held}
use Rattle.heap_model.specs.Heaps.{HasCell, words_of_cell}
use Rattle.heap_model.specs.Kinds.{count_offset}
use Rattle.heap_model.specs.Changes.{CellsChange}
use Rattle.heap_model.specs.Remembered.{IsSlotOf, Touch, TouchesMade}
use Rattle.heap_model.specs.Wholeness.{HasRows}
use Rattle.heap_model.proofs.BoundHeaps.{none_in}
use Rattle.write_barrier.specs.MutatorState.{Mutator, heap_of}
use Rattle.write_barrier.specs.Recording.{Touches, touched, touched_one, touched_then, Remembers}
use Rattle.write_barrier.proofs.Recording.{then_touch}
use Rattle.object_cells.specs.Contents.{next_at}
use Rattle.object_cells.specs.Made.{content_touch, store_content}
use Rattle.object_cells.proofs.FittingCells.{slot_fits, content_fits}
use Rattle.object_cells.proofs.FilledRuns.{filled_writes, own_row}
use Rattle.object_cells.proofs.MadeBoxes.{made_boxes}
use Rattle.object_cells.proofs.MadeTouches.{HasSlotsBehind, table_slots_behind, first_touched, store_touched}
use Rattle.object_cells.proofs.MadeTouches.{made_content_fits, made_slot_fits, made_slots_fit, made_store_fits}
use Rattle.object_cells.proofs.OwnerWrites.{weak_owns, written_own_keeps_cells}
use Rattle.object_cells.proofs.TakenRuns.{taken_run}
use Rattle.object_cells.proofs.TouchedCells.{FitsTouch, IsBeside, kept_fits, then_kept, fits_then, fits_one, fits_made}
use Rattle.object_cells.proofs.TouchedCells.{fits_one_apart}
use Rattle.object_cells.proofs.TouchedOffsets.{IsBehindHead, object_store_slot}
use Rattle.weak_pairs.specs.Tables.{IsOutsidePairs, key_offset, value_offset}
use Rattle.weak_pairs.specs.declared.table.Table.{Table}
use Rattle.ephemeron_table.specs.Puttings.{pair_touch, table_touch}
use Rattle.ephemeron_table.proofs.GrownWords.{GrowsTable, made_table, capacity, box, filled, need, not_new, other}
use Rattle.ephemeron_table.proofs.GrownWords.{place_below}
use Rattle.ephemeron_table.proofs.KnownTables.{cell, cell_has}
use Rattle.weak_pairs.proofs.PairLists.{beside_run}
use Rattle.ephemeron_table.proofs.MapTouches.{count_fits, same_remembers}
use Rattle.ephemeron_table.proofs.PairTouches.{KeptOrPair}

-- what was put in a table touches no word beside it
pairs_beside : (cells : List Cell) (table : Table) (at : ℕ) (touch : Touch) → IsOutsidePairs table at
    → KeptOrPair table at touch → FitsTouch cells cells at touch
pairs_beside cells table at touch outside (inl kept) = kept_fits cells cells at touch kept
pairs_beside cells table at touch outside (inr stored) = absurd (stored.1 outside)

module _ {old new : Mutator} {map key count earlier : ℕ} {table : Table} {value : Held}
    (grows : GrowsTable old new map key count earlier table value) where
  -- the map's cell alone
  abbrev cells : List Cell
  cells = cell grows.known ∷ []

  abbrev Fits : ℕ → Touch → Type 0
  Fits at touch = FitsTouch cells cells at touch

  -- the run, and the cells that were made in it
  abbrev from : ℕ
  from = next_at old

  abbrev to : ℕ
  to = next_at old + need grows

  abbrev table_made : Cell
  table_made = other grows

  abbrev boxes : List Cell
  boxes = made_boxes (store_content value) (box grows)

  abbrev made : List Cell
  made = table_made ∷ boxes

  abbrev FitsMade : ℕ → Touch → Type 0
  FitsMade at touch = FitsTouch made made at touch

  -- what was touched, step by step
  abbrev begun : ℕ → Touch
  begun = table_touch (made_table grows)

  abbrev moved : ℕ → Touch
  moved = touched_then begun grows.puts.moves.changes.touch

  abbrev boxed : ℕ → Touch
  boxed = touched_then moved (content_touch (store_content value) (box grows))

  abbrev pair : ℕ → Touch
  pair = pair_touch (next_at old) grows.puts.inserts.place

  abbrev inserted : ℕ → Touch
  inserted = touched_then boxed pair

  abbrev named : ℕ → Touch
  named = touched_one Touch.Stored (map + store_slot)

  abbrev counted : ℕ → Touch
  counted = touched_one Touch.Wiped (map + count_offset)

  touches : Touches old new (touched_then inserted (touched_then named counted))
  touches =
      let puts = grows.puts in
      then_touch (then_touch (then_touch (then_touch puts.begin_touches puts.moves.changes.touches) puts.box_touches)
      puts.inserts.touches) puts.touches

  -- the head and the slots of the table
  abbrev head : ℕ → Touch
  head = touched Touch.Wiped from (from + store_head)

  abbrev slots : ℕ → Touch
  slots = touched Touch.Stored (from + store_head) (from + (store_head + 2 * capacity grows))

  -- all but the last two are of the run
  inserted_fits : (at : ℕ) → IsBeside from to at → Fits at (inserted at)
  inserted_fits at beside =
      let place : ℕ = grows.puts.inserts.place in
      let below : place < capacity grows = place_below grows in
      let outside = beside_run (made_table grows) at (λ above less. beside above (omega (arith, less))) in
      fits_then cells cells boxed pair at
      (fits_then cells cells moved (content_touch (store_content value) (box grows)) at
      (fits_then cells cells begun grows.puts.moves.changes.touch at
      (fits_then cells cells head slots at
      (fits_made cells cells Touch.Wiped from to from (from + store_head) at (omega arith) (omega arith) beside)
      (fits_made cells cells Touch.Stored from to (from + store_head) (from + (store_head + 2 * capacity grows)) at
      (omega arith) (omega arith) beside))
      (pairs_beside cells (made_table grows) at (grows.puts.moves.changes.touch at) outside
      (grows.puts.moves.changes.touched at)))
      (content_fits cells cells (store_content value) from to (box grows) at (omega arith) (omega arith) beside))
      (fits_made cells cells Touch.Stored from to (from + key_offset place) (from + (value_offset place + 1)) at
      (omega arith) (omega (arith, below)) beside)

  -- the map's slot for its table fits
  named_fits : Fits (map + store_slot) Touch.Stored
  named_fits =
      let one : Cell = cell grows.known in
      let object : IsTrue (is_object_kind one.layout.kind) = ap is_object_kind grows.known.there.of_kind in
      let among : Contains cells one = first_in one [] in
      slot_fits (cell_has grows.known) among among
      (subst (λ n. IsSlotOf one (n + store_slot)) grows.known.there.stands (object_store_slot one object))

  -- and so does its count
  counted_fits : Fits (map + count_offset) Touch.Wiped
  counted_fits = count_fits grows.known [] (λ one among. absurd (none_in one among))

  -- cells stand in the new heap
  kept : HasRows (heap_of new) × CellsChange (heap_of old) (heap_of new) cells cells made
  kept = written_own_keeps_cells weak_owns grows.known.whole (filled_writes (filled grows))

  stand : (one : Cell) → Contains made one → HasCell (heap_of new) one (words_of_cell (heap_of new) one)
  stand one among = kept.1.comes one (rest_in (cell grows.known) made one among)

  -- the table is one, and its slots are behind its head
  among_made : Contains made table_made
  among_made = first_in table_made boxes

  behind : HasSlotsBehind table_made (2 * capacity grows)
  behind = table_slots_behind table_made refl (omega arith)

  -- what was put in the table fits it
  pairs_within : (at : ℕ) (touch : Touch) → KeptOrPair (made_table grows) at touch → FitsMade at touch
  pairs_within at touch (inl same) = kept_fits made made at touch same
  pairs_within at touch (inr stored) =
      let is_behind : IsBehindHead table_made (2 * capacity grows) at = elim (cases_lt at (from + store_head)) [
        | inl low ↦ absurd (stored.1 (inl low))
        | inr above ↦ elim (cases_lt at (from + (store_head + 2 * capacity grows))) [
          | inl below ↦ record { from = above; below = below }
          | inr high ↦ absurd (stored.1 (inr high))
        ]
      ] in
      subst (FitsMade at) (sym stored.0)
      (made_slot_fits made kept.0 stand table_made among_made (behind.words at is_behind))

  -- so what was touched of the run fits what was made
  inserted_within : (at : ℕ) → FitsMade at (inserted at)
  inserted_within at =
      let place : ℕ = grows.puts.inserts.place in
      let below : place < capacity grows = place_below grows in
      fits_then made made boxed pair at
      (fits_then made made moved (content_touch (store_content value) (box grows)) at
      (fits_then made made begun grows.puts.moves.changes.touch at
      (made_store_fits made kept.0 stand table_made (2 * capacity grows) among_made behind at)
      (pairs_within at (grows.puts.moves.changes.touch at) (grows.puts.moves.changes.touched at)))
      (made_content_fits made kept.0 stand (store_content value) (box grows) at (rest_in table_made boxes)))
      (made_slots_fit made kept.0 stand table_made (2 * capacity grows) among_made behind (from + key_offset place)
      (from + (value_offset place + 1)) at (omega arith) (omega (arith, below)))

  -- and each slot of the table was put
  slot_put : (at : ℕ) → IsBehindHead table_made (2 * capacity grows) at
      → touched_then inserted (touched_then named counted) at ≡ Touch.Kept → ⊥
  slot_put at is_behind same =
      let one = (then_kept inserted (touched_then named counted) at same).0 in
      let two = (then_kept boxed pair at one).0 in
      let three = (then_kept moved (content_touch (store_content value) (box grows)) at two).0 in
      store_touched (2 * capacity grows) from at is_behind.from is_behind.below
      (then_kept begun grows.puts.moves.changes.touch at three).0

  -- the words of the map are beside the run
  map_apart : (k : ℕ) → k < 3 → IsBeside from to (map + k)
  map_apart k few above below = not_new grows k (map + k) few above below refl

  -- so the run was touched as it has to be
  of_made : TouchesMade (heap_of old) from to made (touched_then inserted (touched_then named counted))
  of_made =
      first_touched table_made (2 * capacity grows) (store_content value) (box grows)
      (touched_then inserted (touched_then named counted)) behind
      (taken_run new (need grows) grows.known.tied grows.puts.room (filled grows).young (filled grows).beside.space)
      (own_row (filled grows)).row
      (λ at of_page above below.
      fits_then made made inserted (touched_then named counted) at (inserted_within at)
      (fits_then made made named counted at
      (fits_one_apart made made Touch.Stored from to (map + store_slot) at (map_apart store_slot (omega arith)) above
      below)
      (fits_one_apart made made Touch.Wiped from to (map + count_offset) at (map_apart count_offset (omega arith)) above
      below)))
      (λ at of_page is_behind. slot_put at is_behind)

  pub grown_remembers : Remembers old new cells cells made
  grown_remembers =
      same_remembers from to cells made (touched_then inserted (touched_then named counted)) touches (λ at below beside.
      fits_then cells cells inserted (touched_then named counted) at (inserted_fits at beside)
      (fits_then cells cells named counted at
      (fits_one cells cells Touch.Stored (map + store_slot) at named_fits)
      (fits_one cells cells Touch.Wiped (map + count_offset) at counted_fits))) of_made
