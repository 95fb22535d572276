-- A heap in which an object was made and bound shows the graph in which it is.
use Rattle.std.proofs.Common.{◌≡◌, ℕ, ◌+◌, ◌<◌, ◌≤◌, ◌^◌, List, [], ◌∷◌, length, Ok, Err, sym}
use Rattle.std.proofs.Common.{refl, ◌∙◌, ap, subst, arith}
use Rattle.heap_model.specs.Types.{Command, Object, Cell, Held, Run}
use Rattle.tagged_word.proofs.Members.{one_in}
use Rattle.object_graph.specs.Graphs.{Graph, make}
use Rattle.object_graph.specs.Reach.{reach}
use Rattle.object_graph.specs.Meaning.{done}
use Rattle.object_graph.specs.Limits.{ideal_limits}
use Rattle.graph_laws.proofs.FieldLimits.{ideal_field_limit}
use Rattle.graph_laws.proofs.GraphsStay.{graphs_stay}
use Rattle.page_space.specs.Extents.{Space, eden_start, marks_start}
use Rattle.nursery.specs.Young.{Young, HasRoom, other_half}
use Rattle.handle_roots.specs.declared.held.Held.TheVariants as held
use Rattle.write_barrier.specs.Seats.{Seat, RestStays}
use Rattle.write_barrier.specs.Staying.{rest_stays_again}
use Rattle.heap_model.specs.Heaps.{Heap, words_of_cell}
use Rattle.heap_model.specs.Wholeness.{Whole}
use Rattle.heap_model.specs.Changes.{AreFillers, CellsChange, IsOwnChange}
use Rattle.heap_model.specs.Collectable.{IsCollectable, AreFreeRuns}
use Rattle.heap_model.specs.Remembered.{AreRemembered, TouchesCells}
use Rattle.heap_model.specs.Showing.{Shows}
use Rattle.heap_model.specs.Laws.{bound}
use Rattle.heap_model.proofs.NewObjects.{new_objects_show}
use Rattle.heap_model.proofs.ShownObjects.{object_of_shown}
use Rattle.heap_model.proofs.RememberedAlike.{bound_stays_remembered}
use Rattle.heap_model.proofs.StaysCollectable.{own_changes_stay_collectable, bound_stays_collectable}
use Rattle.heap_model.proofs.FreeStays.{own_changes_keep_free, bound_keeps_free, bound_keeps_fillers}
use Rattle.write_barrier.specs.MutatorState.{Mutator, heap_of, AreGranted, AvoidsFree, IsCalm, IsTied, MainShows}
use Rattle.write_barrier.specs.Recording.{Touches, Remembers}
use Rattle.write_barrier.proofs.Recording.{remembers_heap}
use Rattle.write_barrier.proofs.StoresOn.{next_is_young}
use Rattle.object_cells.specs.Contents.{next_at}
use Rattle.object_cells.specs.Uses.{TakesRun, UsesMore}
use Rattle.object_cells.proofs.FilledTouches.{reserved_touch}
use Rattle.object_cells.proofs.GrantedRests.{left_are_granted, left_avoids_free, made_avoid_free}
use Rattle.object_cells.proofs.RestOfWords.{range_beside, variable_beside}
use Rattle.object_cells.proofs.UnusedWords.{run_before_marks}
use Rattle.mutator.specs.CarriesOut.{Carries}
use Rattle.mutator.specs.Changing.{KeepsOtherWords, MakesNoOtherCell}
use Rattle.mutator.specs.Making.{new_touch}
use Rattle.mutator.proofs.CalmHeaps.{made_is_calm}
use Rattle.mutator.proofs.NewCells.{NewCell, cell_of, fresh_refers_not}
use Rattle.mutator.proofs.ChangedWords.{making_keeps}
use Rattle.mutator.proofs.Makings.{IsMaking, no_entry_key, none_left, reaches_one_more}
use Rattle.mutator.proofs.MadeRecords.{new_touches}
use Rattle.mutator.proofs.MadeRooms.{MakesOne, makes_one, keeps_made}
use Rattle.mutator.proofs.PutCells.{IsPutCell, before_words, with_cell_put}
use Rattle.mutator.proofs.PutWords.{with_range_before}
use Rattle.mutator.proofs.Rebinding.{heap_bound}
use Rattle.mutator.proofs.StandingCells.{put_stands}
use Rattle.mutator.specs.declared.stop.Stop.TheVariants.{NoRoom}
use Rattle.mutator.proofs.MadeHeaps.{MakesObject, made_heap, IsSoundNewCell, filled_cycle, filled_young, filled_seat}
use Rattle.mutator.proofs.MadeHeaps.{filled_space, filled_free, filled_bound, filled_heap, bound_heap}

module _ {old mid filled new : Mutator} {graph : Graph} {command : Command} {x at : ℕ} {one : NewCell} {what : Object}
    (shows : MainShows old graph) (making : IsMaking graph command x one.size what)
    (makes : MakesObject old mid filled new x at one) (made : IsSoundNewCell old graph x one what)
    (room : HasRoom old.young one.size) (small : at < 2 ^ 32) (below : x < old.seat.space.variables) where
  -- the heap with the cell
  abbrev now : Heap
  now = made_heap old one

  -- the cell
  abbrev cell : Cell
  cell = cell_of (next_at old) one

  -- what the variable holds then
  abbrev refers : Held
  refers = held.Ref (next_at old)

  -- the cell was put
  put : IsPutCell (heap_of old) now (next_at old) one
  put = with_cell_put shows.shows.whole made.fits made.sound

  -- it changes so from one heap of the mutator to the next
  filled_cells : CellsChange (heap_of old) (heap_of filled) [] [] (cell ∷ [])
  filled_cells = subst (λ h. CellsChange (heap_of old) h [] [] (cell ∷ [])) (sym (filled_heap makes)) put.cells

  filled_own : IsOwnChange (heap_of old) (heap_of filled) [] [] (cell ∷ [])
  filled_own = subst (λ h. IsOwnChange (heap_of old) h [] [] (cell ∷ [])) (sym (filled_heap makes)) put.own

  filled_whole : Whole (heap_of filled)
  filled_whole = subst Whole (sym (filled_heap makes)) put.whole

  -- the cell stands in words that were taken
  takes : TakesRun old filled (cell ∷ [])
  takes = record {
    space = filled_space makes;
    phase = ap (λ (seat : Seat). seat.phase) (filled_seat makes);
    need = one.size;
    room = room;
    young = filled_young makes;
    within = λ other among. elim_one (one_in cell other among);
  }
    where
      elim_one : {other : Cell} → cell ≡ other
          → (next_at old ≤ other.at) × (other.at + other.size ≤ next_at old + one.size)
      elim_one same = (
        omega (arith, ap (λ (c : Cell). c.at) same),
        omega (arith, ap (λ (c : Cell). c.at) same, ap (λ (c : Cell). c.size) same),
      )

  -- the variable is bound in the heap with the cell
  below_filled : x < (heap_of filled).space.variables
  below_filled = subst (λ (s : Space). x < s.variables) (sym (filled_space makes)) below

  new_heap : heap_of new ≡ bound (heap_of filled) x (held.Ref at)
  new_heap = heap_bound x (held.Ref at) makes.holds

  -- so the heap shows the graph in which the object is made
  now_shows : Shows (bound now x refers) (make graph x what)
  now_shows =
      new_objects_show (heap_of old) now graph x cell what below shows.shows put.whole shows.shows.paths put.cells
      put.own (subst (λ a. a < 2 ^ 32) makes.run small) made.carries made.shows (no_entry_key graph shows.is_graph)
      (reaches_one_more shows.is_graph making)

  made_shows : Shows (heap_of new) (make graph x what)
  made_shows = subst (λ h. Shows h (make graph x what)) (sym (bound_heap makes)) now_shows

  -- in an open cycle it rests again: no word is granted, so the cell is young
  made_calm : IsCalm new (make graph x what)
  made_calm =
      made_is_calm now x cell what shows below put.whole refl refl
      (put.whole.sized.words ∙ sym shows.shows.whole.sized.words)
      (λ a before.
      with_range_before (heap_of old).words one.words (next_at old) a (before_words made.fits) before)
      put.cells (object_of_shown now (reach (make graph x what)) cell (words_of_cell now cell) what made.shows)
      (fresh_refers_not now (next_at old) made.fits.fresh put.words) (next_is_young shows) made.carries
      (reaches_one_more shows.is_graph making) now_shows
      (ap (λ (main : Mutator). main.seat.phase) makes.holds.held ∙ ap (λ (seat : Seat). seat.phase) (filled_seat makes))
      (ap (λ (main : Mutator). main.cycle) makes.holds.held ∙ filled_cycle makes)
      (λ none. ap (λ (main : Mutator). main.young.granted.words) makes.holds.held
      ∙ ap (λ (young : Young). young.granted.words) (filled_young makes) ∙ none_left old.young one.size none)
      (bound_heap makes)

  -- the halves are as they were
  same_half : new.young.half ≡ old.young.half
  same_half =
      ap (λ (main : Mutator). main.young.half) makes.holds.held
      ∙ ap (λ (young : Young). young.half) (filled_young makes)

  -- no cell comes to the half that is empty
  made_collectable : IsCollectable (heap_of new) (other_half new.young.half)
  made_collectable =
      let half : ℕ = other_half old.young.half in
      let with_it = own_changes_stay_collectable (heap_of old) (heap_of filled) [] [] (cell ∷ []) half
      shows.shows.whole filled_whole.rows filled_cells filled_own shows.collectable in
      let bound_too = bound_stays_collectable (heap_of filled) x (held.Ref at) half below_filled filled_whole with_it in
      subst (λ h. IsCollectable h (other_half new.young.half)) (sym new_heap)
      (subst (λ n. IsCollectable (bound (heap_of filled) x (held.Ref at)) (other_half n)) (sym same_half) bound_too)

  -- free runs stay
  same_free : new.free ≡ old.free
  same_free = ap (λ (main : Mutator). main.free) makes.holds.held ∙ filled_free makes

  -- and stay free cells
  made_free : AreFreeRuns (heap_of new) new.free
  made_free =
      let with_it = own_changes_keep_free (heap_of old) (heap_of filled) [] [] (cell ∷ []) old.free shows.shows.whole
      filled_cells filled_own (made_avoid_free takes shows.tied shows.apart shows.free) shows.free in
      let bound_too = bound_keeps_free (heap_of filled) x (held.Ref at) old.free below_filled filled_whole with_it in
      subst (λ h. AreFreeRuns h new.free) (sym new_heap)
      (subst (λ (rows : List (List Run)). AreFreeRuns (bound (heap_of filled) x (held.Ref at)) rows) (sym same_free)
      bound_too)

  -- what is granted is what was left of it
  same_granted : new.young.granted ≡ filled.young.granted
  same_granted = ap (λ (main : Mutator). main.young.granted) makes.holds.held

  -- the parts stay tied
  made_tied : IsTied new
  made_tied = record {
    space = ap (λ (main : Mutator). main.young.space) makes.holds.held
        ∙ ap (λ (young : Young). young.space) (filled_young makes) ∙ shows.tied.space ∙ sym (filled_space makes)
        ∙ sym (ap (λ (main : Mutator). main.seat.space) makes.holds.held);
    granted = subst (AreGranted (heap_of new)) (sym same_granted) (λ words.
        subst (λ h. AreFillers h filled.young.granted.at (filled.young.granted.at + filled.young.granted.words))
        (sym new_heap)
        (bound_keeps_fillers (heap_of filled) x (held.Ref at) filled.young.granted.at
        (filled.young.granted.at + filled.young.granted.words) below_filled filled_whole
        (left_are_granted takes shows.shows.whole filled_cells filled_own shows.tied words)));
  }

  -- no free run begins in what is granted
  made_apart : AvoidsFree new.young.granted new.free
  made_apart =
      subst (λ (run : Run). AvoidsFree run new.free) (sym same_granted)
      (subst (AvoidsFree filled.young.granted) (sym (ap (λ (main : Mutator). main.free) makes.holds.held))
      (left_avoids_free takes (filled_free makes) shows.apart))

  -- the cell was made as it has to be recorded
  made_remembers : Remembers old filled [] [] (cell ∷ [])
  made_remembers = record {
    touch = new_touch one.head one.size at;
    touches = reserved_touch one.size
        (subst (λ (main : Mutator). Touches main filled (new_touch one.head one.size at)) makes.taken makes.touches);
    cells = subst (λ a. TouchesCells (heap_of old) [] [] (cell ∷ []) (new_touch one.head one.size a)) (sym makes.run)
        (new_touches made.fits put);
  }

  -- so what is recorded stays right
  made_remembered : AreRemembered (heap_of new) new.recorded.slots
  made_remembered =
      let slots = remembers_heap old filled [] [] (cell ∷ []) made_remembers shows.bounded shows.shows.whole
      filled_whole.rows filled_cells shows.remembered in
      let bound_too = bound_stays_remembered (heap_of filled) x (held.Ref at) filled.recorded.slots below_filled
      filled_whole slots in
      subst (λ h. AreRemembered h new.recorded.slots) (sym new_heap)
      (subst (λ (all : List ℕ). AreRemembered (bound (heap_of filled) x (held.Ref at)) all)
      (sym (ap (λ (main : Mutator). main.recorded.slots) makes.holds.held)) bound_too)

  -- the mutator shows it then
  made_main : MainShows new (make graph x what)
  made_main = record {
    tied = made_tied;
    is_graph = graphs_stay ideal_limits [] graph command (make graph x what) [] ideal_field_limit making.fits
        (making.done []) shows.is_graph;
    calm = made_calm;
    shows = made_shows;
    collectable = made_collectable;
    free = made_free;
    apart = made_apart;
    bounded = ap (λ (main : Mutator). main.recorded.bound) makes.holds.held ∙ filled_bound makes ∙ shows.bounded
        ∙ ap eden_start (sym (ap (λ (main : Mutator). main.seat.space) makes.holds.held ∙ filled_space makes));
    remembered = made_remembered;
  }

  -- as many words were taken as the cell has
  made_uses : UsesMore old new one.size
  made_uses =
      let within : at + length one.words ≤ marks_start old.seat.space =
      omega (
        arith,
        run_before_marks old one.size at old.seat.space shows.tied room makes.run refl,
        made.fits.fresh.long,
      ) in
      let put_there : RestStays old.seat filled.seat =
      subst (RestStays old.seat) (sym (filled_seat makes))
      (range_beside old at one.words shows.shows.whole.sized.words within) in
      let variable = variable_beside filled x (held.Ref at) below_filled in
      record {
        beside = rest_stays_again old.seat filled.seat new.seat put_there
            (subst (λ (main : Mutator). RestStays filled.seat main.seat) (sym makes.holds.held) variable);
        young = ap (λ (main : Mutator). main.young) makes.holds.held ∙ filled_young makes;
        free = same_free;
      }

  -- and the command is carried out
  pub making_carried : (names : List (List ℕ)) → Carries names old new graph command [] (Ok tt)
  making_carried names =
      let makes_it : MakesOne (heap_of old) (heap_of new) what =
      subst (λ heap. MakesOne (heap_of old) heap what) (sym (bound_heap makes))
      (makes_one x refers what shows.shows.whole made.fits.fresh put made.counts below) in
      record {
        after = make graph x what;
        means = making.done names;
        shows = made_main;
        cells = subst (λ heap. MakesNoOtherCell (heap_of old) heap (make graph x what)) (sym (bound_heap makes))
            (put_stands graph x what put below made.carries made.shows);
        takes = λ rooms has. record {
          room = subst (HasRoom old.young) (sym (making.need rooms)) room;
          uses = subst (UsesMore old new) (sym (making.need rooms)) made_uses;
          words = subst
              (λ n. KeepsOtherWords (heap_of old) (heap_of new) (next_at old) (next_at old + n) graph command)
              (sym (making.need rooms))
              (making_keeps graph command x refers made.fits below (bound_heap makes));
          stores = keeps_made command what (record {
            shows = shows;
            shown = made_main;
            has = has;
            stays = makes_it.stays;
          }) (reaches_one_more shows.is_graph making) refl (making.gives rooms) makes_it;
        };
      }

-- where there is no room for the cell, the command stops with what it needs
pub making_stopped : {main new : Mutator} {graph : Graph} {command : Command} {x size : ℕ} {what : Object}
    (names : List (List ℕ)) (need : ℕ) → IsMaking graph command x size what → need ≡ size
    → (HasRoom main.young size → ⊥) → new ≡ main → Carries names main new graph command [] (Err (NoRoom need))
making_stopped {main} {graph = graph} {x = x} {what = what} names need making is none same = (
  make graph x what,
  [],
  making.done names,
  λ rooms has. is ∙ sym (making.need rooms),
  λ room. none (subst (HasRoom main.young) is room),
  same,
)
