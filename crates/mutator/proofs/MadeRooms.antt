-- Which rooms objects have after a command that makes one: the new one has none, and the others keep theirs.
use Rattle.std.proofs.Common.{◌≡◌, ◌≢◌, ℕ, ◌<◌, List, [], ◌∷◌, ◌++◌, length, inl, inr, Some}
use Rattle.std.proofs.Common.{IsTrue, slice_get, refl, sym, ◌∙◌, ap, subst, arith}
use Rattle.std.proofs.lemmas.Bool.{cases_eq}
use Rattle.std.proofs.lemmas.Option.{same_Some}
use Rattle.tagged_word.specs.Cells.{store_slot}
use Rattle.tagged_word.proofs.Members.{one_in, first_in}
use Rattle.heap_model.specs.Types.{Command, Object, Cell, Held}
use Rattle.object_graph.specs.declared.object.Object.TheVariants.{Plain, Weak, List as ListOf}
use Rattle.object_graph.specs.Graphs.{Graph}
use Rattle.object_graph.specs.Reach.{is_marked, reach}
use Rattle.heap_model.specs.Heaps.{Heap, HasCell, words_of_cell}
use Rattle.heap_model.specs.Slots.{undefined_word, IsPlace}
use Rattle.heap_model.specs.Kinds.{HasWord, count_offset}
use Rattle.heap_model.specs.Wholeness.{Whole}
use Rattle.heap_model.specs.Needs.{capacity_at}
use Rattle.heap_model.specs.Rooms.{Room, bare_room, entries_at, room_at, with_room, rooms_after}
use Rattle.heap_model.specs.Laws.{bound}
use Rattle.heap_model.proofs.BoundHeaps.{none_in, bound_keeps, bound_moves}
use Rattle.heap_model.proofs.CellWords.{slice_get-append_left, slice_get-append_right}
use Rattle.heap_model.proofs.CellOutcomes.{cells_move, object_is_no_filler, stays_standing}
use Rattle.heap_model.proofs.ReachedStays.{reach_below}
use Rattle.heap_model.proofs.WordsRead.{word_of_cell}
use Rattle.write_barrier.specs.MutatorState.{Mutator, heap_of}
use Rattle.object_cells.proofs.CellsRead.{word_stands}
use Rattle.object_cells.proofs.KeptCapacities.{kept_where_none_went, capacity_of_none}
use Rattle.mutator.specs.Capacities.{KeepsStores}
use Rattle.mutator.proofs.NewCells.{NewCell, cell_of, RefersNowhere, CountsNone}
use Rattle.mutator.proofs.PutCells.{IsPutCell}
use Rattle.mutator.proofs.KeptStores.{IsAfter, InBoth, PlacesStay, CellStands, stood, room_stays, with_room-same}
use Rattle.mutator.proofs.KeptStores.{with_room-other, none_went, stood_before}

-- a cell that was put has no store
put_has_none : {heap now : Heap} {at : ℕ} {one : NewCell} → RefersNowhere one → IsPutCell heap now at one
    → capacity_at now at ≡ 0
put_has_none {now = now} {at} {one} fresh put =
    let cell : Cell = cell_of at one in
    let has = put.cells.comes cell (first_in cell []) in
    let slot : HasWord (words_of_cell now cell) store_slot undefined_word =
    subst (λ (words : List ℕ). HasWord words store_slot undefined_word) (sym put.words)
    (fresh.slots store_slot (omega arith) fresh.some) in
    capacity_of_none now at (word_stands store_slot undefined_word has slot)

-- an object of the new heap stood, or it is the one that was put
put_or_stood : {heap now : Heap} {one : NewCell} {number place_at at : ℕ} → IsPutCell heap now at one
    → IsPlace now number place_at → (IsPlace heap number place_at → ⊥) → at ≡ place_at
put_or_stood {one = one} {at = at} put place apart =
    elim (put.cells.back place.cell place.words place.has) [
      | inl made ↦
          ap (λ (cell : Cell). cell.at) (one_in (cell_of at one) place.cell made) ∙ place.stands
      | inr stays ↦ absurd (apart (record {
        cell = place.cell;
        words = place.words;
        has = stays.0;
        stands = place.stands;
        object = place.object;
        carries = place.carries;
      }))
    ]

-- where the words of an object's cell say that no pair is filled, none is
none_filled : {heap : Heap} {cell : Cell} {words : List ℕ} (what : Object) → HasCell heap cell words
    → CountsNone words what → entries_at heap cell.at what ≡ 0
none_filled (Plain cap proto fields) has none = refl
none_filled (ListOf elements) has none = refl
none_filled (Weak entries) has none = word_of_cell count_offset 0 has none

-- What a heap owes in which the cell of this object was put and a variable bound to it: objects' cells and capacities
-- stay, and the new one has no store, and no pairs.
pub record MakesOne (old new : Heap) (what : Object) : Type 0 where
  pub stays : PlacesStay old new
  pub stand : (at : ℕ) → CellStands old new at
  pub keeps : (number at : ℕ) → IsPlace old number at → capacity_at new at ≡ capacity_at old at
  pub made : (number at : ℕ) → IsPlace new number at → (IsPlace old number at → ⊥) → capacity_at new at ≡ 0
  pub empty : (number at : ℕ) → IsPlace new number at → (IsPlace old number at → ⊥) → entries_at new at what ≡ 0

-- so it is
pub makes_one : {heap now : Heap} {at : ℕ} {one : NewCell} (x : ℕ) (held : Held) (what : Object) → Whole heap
    → RefersNowhere one → IsPutCell heap now at one → CountsNone (words_of_cell now (cell_of at one)) what
    → x < now.space.variables → MakesOne heap (bound now x held) what
makes_one {heap} {now} {at = put_at} {one} x held what whole fresh put counts below =
    let moves = bound_moves now x held below put.whole in
    let cell : Cell = cell_of put_at one in
    let has = bound_keeps now x held below put.whole (put.cells.comes cell (first_in cell [])) in
    record {
      stays = λ number at place. none_went number at moves.cells (none_went number at (cells_move put.cells) place);
      stand = λ at other words stood object here. bound_keeps now x held below put.whole
          (stays_standing (cells_move put.cells) stood (object_is_no_filler other.layout.kind object) (none_in other));
      keeps = λ number at place.
          kept_where_none_went at put.whole moves.cells (none_went number at (cells_move put.cells) place)
          ∙ kept_where_none_went at whole (cells_move put.cells) place;
      made = λ number at place apart.
          let place_now = stood_before x held below put.whole place in
          kept_where_none_went at put.whole moves.cells place_now
          ∙ ap (capacity_at now) (sym (put_or_stood put place_now apart)) ∙ put_has_none fresh put;
      empty = λ number at place apart.
          let place_now = stood_before x held below put.whole place in
          subst (λ a. entries_at (bound now x held) a what ≡ 0) (put_or_stood put place_now apart)
          (none_filled what has counts);
    }

-- an object without a store and pairs has no room
room_is_bare : (heap : Heap) (at : ℕ) (what : Object) → capacity_at heap at ≡ 0 → entries_at heap at what ≡ 0
    → room_at heap at what ≡ bare_room
room_is_bare heap at what no_slots no_pairs = λ i. record { capacity = no_slots i; entries = no_pairs i }

-- an object was made, and all others keep their rooms
pub keeps_made : {old new : Mutator} {graph after : Graph} {rooms : ℕ → Room} (command : Command) (what : Object)
    → IsAfter old new graph after rooms
    → ((number : ℕ) → IsTrue (is_marked (reach after) number) → number ≢ length graph.objects
    → IsTrue (is_marked (reach graph) number))
    → after.objects ≡ graph.objects ++ what ∷ []
    → ((number : ℕ) → rooms_after graph rooms command number ≡ with_room rooms (length graph.objects) bare_room number)
    → MakesOne (heap_of old) (heap_of new) what → KeepsStores (heap_of old) (heap_of new) graph after command rooms
keeps_made {old} {new} {graph} {after} {rooms} command what one fewer objects gives makes = record {
  has = λ number at other there marked place.
      elim (cases_eq number (length graph.objects)) [
        | inl same ↦
            let is : what ≡ other =
            same_Some what other
            (sym (slice_get-append_right graph.objects (what ∷ []) 0 number (omega (arith, same)))
            ∙ ap (λ all. slice_get all number) (sym objects) ∙ there) in
            let new_one : IsPlace (heap_of old) number at → ⊥ = λ was.
            omega (arith, one.shows.shows.made number at was, same) in
            gives number ∙ ap (λ n. with_room rooms (length graph.objects) bare_room n) same
            ∙ with_room-same rooms (length graph.objects) bare_room
            ∙ sym (room_is_bare (heap_of new) at what (makes.made number at place new_one)
            (makes.empty number at place new_one))
            ∙ ap (room_at (heap_of new) at) is
        | inr apart ↦
            let marked_was = fewer number marked apart in
            let below : number < length graph.objects = reach_below graph number marked_was in
            let was : slice_get graph.objects number ≡ Some other =
            sym (slice_get-append_left graph.objects (what ∷ []) number below)
            ∙ ap (λ all. slice_get all number) (sym objects) ∙ there in
            let both : InBoth graph after number other =
            record { was = was; marked_was = marked_was; is = there; marked = marked } in
            let before = stood number at other one both place in
            gives number ∙ with_room-other rooms (length graph.objects) bare_room number apart
            ∙ one.has number at other was marked_was before
            ∙ sym (room_stays number at other one both before (makes.stand at) (makes.keeps number at before))
      ];
  stays = one.stays;
  others = λ number at place same_room. makes.keeps number at place;
  made = makes.made;
}
