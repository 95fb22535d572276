-- A heap in which a variable was bound anew shows the graph after the command.
use Rattle.std.proofs.Common.{◌≡◌, ℕ, ◌+◌, ◌<◌, List, [], Some, None, Ok, inl, inr, sym, ◌∙◌, ap, subst}
use Rattle.std.specs.Prelude.{Option, IsTrue, is_some, Result, OnOk}
use Rattle.std.specs.FinMap.{get}
use Rattle.std.proofs.lemmas.Bool.{false≢true}
use Rattle.heap_model.specs.Types.{Command, Value, Held, Run}
use Rattle.object_graph.specs.Graphs.{Graph, bind}
use Rattle.object_graph.specs.Meaning.{done, meaning}
use Rattle.object_graph.specs.Limits.{ideal_limits}
use Rattle.graph_laws.specs.GraphLaws.{FitsCommand}
use Rattle.graph_laws.specs.ReachAfter.{made_for}
use Rattle.graph_laws.proofs.FieldLimits.{ideal_field_limit}
use Rattle.graph_laws.proofs.GraphsStay.{graphs_stay}
use Rattle.graph_laws.proofs.NothingNew.{only_made_is_new}
use Rattle.page_space.specs.Extents.{eden_start}
use Rattle.nursery.specs.Young.{HasRoom, other_half}
use Rattle.handle_roots.specs.Roots.{FitsHeld, with_root}
use Rattle.write_barrier.specs.Seats.{heap_words, RestStays}
use Rattle.heap_model.specs.Heaps.{Heap}
use Rattle.heap_model.specs.Changes.{AreFillers}
use Rattle.heap_model.specs.Collectable.{IsCollectable, AreFreeRuns}
use Rattle.heap_model.specs.Remembered.{AreRemembered}
use Rattle.heap_model.specs.Rooms.{Room, need_of, rooms_after}
use Rattle.heap_model.specs.Showing.{ShowsHeld, Shows}
use Rattle.heap_model.specs.Laws.{ReachesNoMore, BindsAnew, bound}
use Rattle.heap_model.proofs.AnewBindings.{get-insert_same, binds_anew}
use Rattle.heap_model.proofs.BoundGraphs.{bindings_show}
use Rattle.heap_model.proofs.StaysCollectable.{bound_stays_collectable}
use Rattle.heap_model.proofs.FreeStays.{bound_keeps_free, bound_keeps_fillers}
use Rattle.heap_model.proofs.RememberedAlike.{bound_stays_remembered}
use Rattle.write_barrier.specs.MutatorState.{Mutator, heap_of, AreGranted, AvoidsFree, IsTied, MainShows}
use Rattle.write_barrier.specs.MutatorState.{with_variable}
use Rattle.object_cells.specs.Uses.{UsesMore}
use Rattle.object_cells.proofs.NothingUsed as nothing
use Rattle.object_cells.proofs.RestOfWords.{variable_beside}
use Rattle.object_cells.proofs.TakenRuns.{bumped_none}
use Rattle.mutator.specs.Binding.{Binds}
use Rattle.mutator.specs.CarriesOut.{Carries}
use Rattle.mutator.proofs.CalmHeaps.{bound_is_calm}
use Rattle.mutator.proofs.ChangedWords.{rebound_keeps}
use Rattle.mutator.proofs.KeptStores.{keeps_bound}
use Rattle.mutator.proofs.StandingCells.{bound_stands}

-- a variable was made to hold a value, and only its root words changed
pub record HoldsAnew (old new : Mutator) (x : ℕ) (one : Held) : Type 0 where
  pub held : new ≡ with_variable old x one
  pub heap : heap_words new.seat ≡ with_root old.seat.space (heap_words old.seat) x one

-- it is so of a heap that is the same as another
pub holds_after : {old now new : Mutator} (x : ℕ) (one : Held) → now ≡ old → HoldsAnew now new x one
    → HoldsAnew old new x one
holds_after {new = new} x one same holds = subst (λ main. HoldsAnew main new x one) same holds

-- so only the variable was bound anew
pub binds_after : {old now new : Mutator} (x : ℕ) (one : Held) → now ≡ old → new ≡ with_variable now x one
    → Binds old new x
binds_after {new = new} x one same held = record {
  held = one;
  is = subst (λ (main : Mutator). new ≡ with_variable main x one) same held;
}

-- so it is of one that is the same as another
pub binds_still : {A E : Type 0} {old now : Mutator} (new : Mutator) (x : ℕ) (came : Result A E) → now ≡ old
    → OnOk came (Binds now new x) → OnOk came (Binds old new x)
binds_still new x came same binds = subst (λ main. OnOk came (Binds main new x)) same binds

-- the heap is then the one with these root words
pub heap_bound : {old new : Mutator} (x : ℕ) (one : Held) → HoldsAnew old new x one → heap_of new
    ≡ bound (heap_of old) x one
heap_bound {old} {new} x one holds =
    ap heap_of holds.held
    ∙ ap (λ (words : List ℕ). record (heap_of old) { words = words })
    (sym (ap (λ (main : Mutator). heap_words main.seat) holds.held) ∙ holds.heap)

-- a command that makes no object lets nothing more be reached
pub reaches_no_more : {graph after : Graph} {main : Mutator} (names : List (List ℕ)) (command : Command) (text : List ℕ)
    → MainShows main graph → meaning ideal_limits names graph command ≡ done after text → made_for command ≡ None
    → ReachesNoMore graph after
reaches_no_more {graph} {after} names command text shows carried none number marked =
    elim (only_made_is_new ideal_limits names graph command after text number shows.is_graph carried marked) [
      | inl before ↦ before
      | inr made ↦ absurd (false≢true (subst (λ (found : Option ℕ). IsTrue (is_some found)) none made.0))
    ]

-- there is room for no word
pub room_for_none : {main : Mutator} {graph : Graph} → MainShows main graph → HasRoom main.young 0
room_for_none {main} shows = nothing.room_for_none main shows.tied shows.shows.whole

-- a heap in which a variable was bound anew uses no word more
pub uses_none : {old new : Mutator} (x : ℕ) (one : Held) → HoldsAnew old new x one → x < old.seat.space.variables
    → UsesMore old new 0
uses_none {old} {new} x one holds below = record {
  beside = subst (λ (main : Mutator). RestStays old.seat main.seat) (sym holds.held)
      (variable_beside old x one below);
  young = ap (λ (main : Mutator). main.young) holds.held ∙ sym (bumped_none old.young);
  free = ap (λ (main : Mutator). main.free) holds.held;
}

-- the parts stay tied
bound_tied : {old new : Mutator} {graph : Graph} (x : ℕ) (one : Held) → x < old.seat.space.variables
    → MainShows old graph → HoldsAnew old new x one → IsTied new
bound_tied {old} {new} x one below shows holds = record {
  space = ap (λ (main : Mutator). main.young.space) holds.held ∙ shows.tied.space
      ∙ sym (ap (λ (main : Mutator). main.seat.space) holds.held);
  granted = subst (AreGranted (heap_of new)) (sym (ap (λ (main : Mutator). main.young.granted) holds.held)) (λ some.
      subst (λ h. AreFillers h old.young.granted.at (old.young.granted.at + old.young.granted.words))
      (sym (heap_bound x one holds))
      (bound_keeps_fillers (heap_of old) x one old.young.granted.at (old.young.granted.at + old.young.granted.words)
      below shows.shows.whole (shows.tied.granted some)));
}

-- it shows the graph after the command
pub rebound_shows : {old new : Mutator} {graph after : Graph} (names : List (List ℕ)) (command : Command)
    (text : List ℕ)
    (x : ℕ) (one : Held) → MainShows old graph → meaning ideal_limits names graph command ≡ done after text
    → made_for command ≡ None → FitsCommand command → BindsAnew graph after x → x < old.seat.space.variables
    → FitsHeld one → ShowsHeld (heap_of old) one (get after.bindings x) → HoldsAnew old new x one → MainShows new after
rebound_shows {old} {new} {graph} {after} names command text x one shows carried none fits anew below held_fits shown
    holds =
    let heap : Heap = heap_of old in
    let fewer : ReachesNoMore graph after = reaches_no_more names command text shows carried none in
    let bound_shows : Shows (bound heap x one) after =
    bindings_show heap graph after x one below shows.shows anew held_fits shown fewer in
    record {
      tied = bound_tied x one below shows holds;
      is_graph = graphs_stay ideal_limits names graph command after text ideal_field_limit fits carried shows.is_graph;
      calm = bound_is_calm x one shows below anew fewer bound_shows holds.held (heap_bound x one holds);
      shows = subst (λ heap. Shows heap after) (sym (heap_bound x one holds)) bound_shows;
      collectable = subst (λ heap. IsCollectable heap (other_half new.young.half)) (sym (heap_bound x one holds))
          (subst (λ (half : ℕ). IsCollectable (bound heap x one) (other_half half))
          (sym (ap (λ (main : Mutator). main.young.half) holds.held))
          (bound_stays_collectable heap x one (other_half old.young.half) below shows.shows.whole shows.collectable));
      free = subst (λ heap. AreFreeRuns heap new.free) (sym (heap_bound x one holds))
          (subst (λ (rows : List (List Run)). AreFreeRuns (bound heap x one) rows)
          (sym (ap (λ (main : Mutator). main.free) holds.held))
          (bound_keeps_free heap x one old.free below shows.shows.whole shows.free));
      apart = subst (λ (main : Mutator). AvoidsFree main.young.granted main.free) (sym holds.held) shows.apart;
      bounded = ap (λ (main : Mutator). main.recorded.bound) holds.held ∙ shows.bounded
          ∙ ap eden_start (sym (ap (λ (main : Mutator). main.seat.space) holds.held));
      remembered = subst (λ heap. AreRemembered heap new.recorded.slots) (sym (heap_bound x one holds))
          (subst (λ (slots : List ℕ). AreRemembered (bound heap x one) slots)
          (sym (ap (λ (main : Mutator). main.recorded.slots) holds.held))
          (bound_stays_remembered heap x one old.recorded.slots below shows.shows.whole shows.remembered));
    }

-- the command needs no words, and leaves each room
abbrev pub NeedsNone : Graph → Command → Type 0
NeedsNone graph command =
    (rooms : ℕ → Room) → (need_of graph rooms command ≡ 0)
    × ((number : ℕ) → rooms_after graph rooms command number ≡ rooms number)

-- so the command is carried out, if it is one that binds a variable and needs no words
pub binding_carried : {old new : Mutator} {graph : Graph} (after : Graph) (names : List (List ℕ)) (command : Command)
    (x : ℕ) (one : Held) → MainShows old graph → meaning ideal_limits names graph command ≡ done after []
    → made_for command ≡ None → FitsCommand command → BindsAnew graph after x → x < old.seat.space.variables
    → FitsHeld one → ShowsHeld (heap_of old) one (get after.bindings x) → HoldsAnew old new x one
    → NeedsNone graph command → Carries names old new graph command [] (Ok tt)
binding_carried {old} {new} {graph} after names command x one shows carried none fits anew below held_fits shown holds
    no_need =
    let shown_after =
    rebound_shows names command [] x one shows carried none fits anew below held_fits shown holds in
    record {
      after = after;
      means = carried;
      shows = shown_after;
      cells = bound_stands after x one below shows.shows.whole (heap_bound x one holds);
      takes = λ rooms has. record {
        room = subst (HasRoom old.young) (sym (no_need rooms).0) (room_for_none shows);
        uses = subst (UsesMore old new) (sym (no_need rooms).0) (uses_none x one holds below);
        words = rebound_keeps graph command x one below (heap_bound x one holds);
        stores = keeps_bound command x one below (heap_bound x one holds) shows shown_after has
            (reaches_no_more names command [] shows carried none) anew.objects (no_need rooms).1;
      };
    }

-- so is one that binds a variable to a value that is held, on a heap that is the same as before
pub value_carried : {old now new : Mutator} {graph : Graph} {command : Command} {value : Value} (names : List (List ℕ))
    (y : ℕ) (one : Held) → now ≡ old → MainShows now graph
    → meaning ideal_limits names graph command ≡ done (bind graph y value) [] → made_for command ≡ None
    → FitsCommand command → y < old.seat.space.variables → FitsHeld one → ShowsHeld (heap_of now) one (Some value)
    → HoldsAnew now new y one → NeedsNone graph command → Carries names old new graph command [] (Ok tt)
value_carried {now = now} {new} {graph} {command} {value} names y one same shows carried none fits below held_fits shown
    holds no_need =
    subst (λ main. Carries names main new graph command [] (Ok tt)) same
    (binding_carried (bind graph y value) names command y one shows carried none fits (binds_anew graph y value)
    (subst (λ (main : Mutator). y < main.seat.space.variables) (sym same) below) held_fits
    (subst (ShowsHeld (heap_of now) one) (sym (get-insert_same graph.bindings y value)) shown) holds no_need)
