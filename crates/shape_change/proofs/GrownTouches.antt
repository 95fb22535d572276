-- What was touched where a field came to a store that was made for it.
use Rattle.std.proofs.Common.{◌≡◌, ℕ, ◌+◌, List, Contains, refl, sym, ◌∙◌, subst, arith}
use Rattle.tagged_word.specs.Cells.{store_head, store_slot}
use Rattle.tagged_word.proofs.Members.{first_in, rest_in}
use Rattle.object_graph.specs.Graphs.{Graph, PlainObject}
use Rattle.heap_model.specs.Types.{Header, Value, Cell, Held}
use Rattle.heap_model.specs.Heaps.{HasCell, words_of_cell}
use Rattle.heap_model.specs.Needs.{grown}
use Rattle.heap_model.specs.Wholeness.{HasRows}
use Rattle.heap_model.specs.Remembered.{Touch, TouchesMade}
use Rattle.write_barrier.specs.MutatorState.{Mutator, heap_of}
use Rattle.write_barrier.specs.Recording.{touched, touched_one, touched_then}
use Rattle.object_cells.specs.declared.stores.Store.{Store}
use Rattle.object_cells.specs.Contents.{next_at}
use Rattle.object_cells.specs.Made.{store_content, content_touch, store_touch}
use Rattle.object_cells.proofs.FittingCells.{content_kept}
use Rattle.object_cells.proofs.MadeBoxes.{made_boxes}
use Rattle.object_cells.proofs.MadeTouches.{HasSlotsBehind, store_slots_behind, store_touched, first_touched}
use Rattle.object_cells.proofs.MadeTouches.{made_store_fits, made_slots_fit, made_content_fits}
use Rattle.object_cells.proofs.TouchedCells.{IsBeside, kept_beside, then_kept, then_first, then_next}
use Rattle.object_cells.proofs.TouchedCells.{fits_then, fits_one_apart}
use Rattle.object_cells.proofs.TouchedFields.{TouchesObject}
use Rattle.object_cells.proofs.TouchedOffsets.{IsBehindHead}
use Rattle.shape_change.proofs.AddedTouches.{path_touches}
use Rattle.shape_change.proofs.AddedWords.{over_run}
use Rattle.shape_change.proofs.GrownWords as grows
use Rattle.shape_change.proofs.GrownWords.{StoreGrowing}
use Rattle.shape_change.proofs.RunTouches.{TouchesWith}

module _ {old new : Mutator} {graph : Graph} {plain : PlainObject} {object : ℕ} {header : Header} {name : ℕ}
    {value : Held} {what : Value} {store : Store}
    (growing : StoreGrowing old new graph plain object header name value what store) where
  -- the store and the box behind it were made, and the object refers to the store
  abbrev made : List Cell
  made = grows.made growing

  abbrev run : ℕ → Touch
  run = store_touch (grown store.capacity) (next_at old)

  abbrev named : ℕ → Touch
  named = touched_one Touch.Stored (object + store_slot)

  abbrev linked : ℕ → Touch
  linked = touched_then run named

  abbrev boxed : ℕ → Touch
  boxed = content_touch (store_content value) (grows.box growing)

  -- then the slot was put
  abbrev put : ℕ → Touch
  put = touched_one Touch.Stored (next_at old + (store_head + store.capacity))

  abbrev touch : ℕ → Touch
  touch = touched_then (touched_then linked boxed) put

  -- where the run ends
  abbrev ends : ℕ
  ends = next_at old + grows.need growing

  -- beside the run only the slot for the store was touched
  as_named : (at : ℕ) → IsBeside (next_at old) ends at → touch at ≡ named at
  as_named at out =
      let next : ℕ = next_at old in
      let head = touched Touch.Wiped next (next + store_head) in
      let slots = touched Touch.Stored (next + store_head) (grows.box growing) in
      let place : ℕ = next + (store_head + store.capacity) in
      let of_head = kept_beside Touch.Wiped next ends next (next + store_head) at (omega arith) (omega arith) out in
      let of_slots = kept_beside Touch.Stored next ends (next + store_head) (grows.box growing) at (omega arith)
      (omega arith) out in
      then_first (touched_then linked boxed) put at
      (kept_beside Touch.Stored next ends place (place + 1) at (omega arith) (omega arith) out)
      ∙ then_first linked boxed at
      (content_kept (store_content value) next ends (grows.box growing) at (omega arith) (omega arith) out)
      ∙ then_next run named at (then_first head slots at of_slots ∙ of_head)

  -- the slot for the store is beside the run
  slot_apart : IsBeside (next_at old) ends (object + store_slot)
  slot_apart = grows.beside_run growing (grows.of_slot growing)

  -- each slot of the store was put
  slots_put : (at : ℕ) → IsBehindHead (grows.new_store growing) (grown store.capacity) at → touch at ≡ Touch.Kept → ⊥
  slots_put at behind kept =
      let from = behind.from in
      let below = behind.below in
      let before = then_kept (touched_then linked boxed) put at kept in
      let first = then_kept linked boxed at before.0 in
      store_touched (grown store.capacity) (next_at old) at from below (then_kept run named at first.0).0

  -- so the words of the run were touched as the store and the box owe it
  of_made : HasRows (heap_of new)
      → ((cell : Cell) → Contains made cell → HasCell (heap_of new) cell (words_of_cell (heap_of new) cell))
      → TouchesMade (heap_of old) (next_at old) ends made touch
  of_made rows stand =
      let next : ℕ = next_at old in
      let holds = store_content value in
      let first : Cell = grows.new_store growing in
      let place : ℕ = next + (store_head + store.capacity) in
      let behind : HasSlotsBehind first (grown store.capacity) = store_slots_behind first refl (omega arith) in
      let among = first_in first (made_boxes holds (grows.box growing)) in
      first_touched first (grown store.capacity) holds (grows.box growing) touch behind (over_run (grows.over growing))
      (grows.filled growing).row
      (λ at below above before.
      let linked_fits = fits_then made made run named at
      (made_store_fits made rows stand first (grown store.capacity) among behind at)
      (fits_one_apart made made Touch.Stored next ends (object + store_slot) at slot_apart above before) in
      let boxed_fits = fits_then made made linked boxed at linked_fits
      (made_content_fits made rows stand holds (grows.box growing) at
      (λ cell there. rest_in first (made_boxes holds (grows.box growing)) cell there)) in
      fits_then made made (touched_then linked boxed) put at boxed_fits
      (made_slots_fit made rows stand first (grown store.capacity) among behind place (place + 1) at (omega arith)
      (omega arith)))
      (λ at below. slots_put at)

  -- the words of the run, the slot for the store and the header were touched
  pub grown_touches : TouchesWith old new growing.known.cell made
      (touched_one Touch.Stored (growing.known.cell.at + store_slot))
  grown_touches =
      let known = growing.known in
      let all : TouchesObject old new object touch =
      path_touches (grows.need growing) growing.adds.path known.shows.bounded growing.adds.touches in
      let with_store : TouchesWith old new known.cell made named = record {
        all = touch;
        touches = record {
          touches = subst (λ a. TouchesObject old new a touch) (sym known.stands) all;
          surely = growing.adds.surely;
        };
        from = next_at old;
        to = ends;
        apart = λ at of_cell. grows.beside_run growing of_cell;
        beside = λ at below. as_named at;
        of_made = of_made;
      } in
      subst (λ a. TouchesWith old new known.cell made (touched_one Touch.Stored (a + store_slot))) (sym known.stands)
      with_store
