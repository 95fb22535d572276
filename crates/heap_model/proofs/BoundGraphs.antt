-- A heap in which a variable was bound anew shows the graph in which it is bound to that.
use Rattle.std.specs.Prelude.{◌≤◌, None}
use Rattle.std.proofs.Common.{◌≡◌, ◌≢◌, ℕ, ◌+◌, ◌<◌, inl, inr, Bool, List, [], length, Contains, Some}
use Rattle.std.proofs.Common.{slice_get, IsTrue, sym, ◌∙◌, ap, subst, arith}
use Rattle.std.proofs.lemmas.Bool.{cases_eq}
use Rattle.std.proofs.lemmas.Option.{same_Some, slice_get_within}
use Rattle.std.specs.FinMap.{get}
use Rattle.heap_model.specs.Types.{Object, Cell, Held}
use Rattle.object_graph.specs.declared.object.Object.TheVariants as graph_object
use Rattle.object_graph.specs.Graphs.{Graph}
use Rattle.object_graph.specs.Reach.{is_marked, reach}
use Rattle.handle_roots.specs.Roots.{FitsHeld}
use Rattle.heap_model.specs.Heaps.{Heap}
use Rattle.tagged_word.specs.Cells.{is_object_kind}
use Rattle.heap_model.specs.Slots.{IsPlace, RefersToPlace}
use Rattle.heap_model.specs.Wholeness.{Whole}
use Rattle.heap_model.specs.Showing.{ShowsReached, ShowsHeld, ShowsBinding, Shows}
use Rattle.heap_model.specs.Laws.{BindsAnew, bound, BindingsShow, IsNoKey, IsNoEntryKey, NewBindingsShow}
use Rattle.heap_model.proofs.PlacesBefore.{AreNumberedFrom, place_before}
use Rattle.heap_model.proofs.ShownObjects.{ObjectKeysStay, AreMarkedBelow}
use Rattle.heap_model.proofs.ReachedStays.{reach_below, keys_stay, reached_stays}
use Rattle.heap_model.proofs.ShownGraphs.{held_shown}
use Rattle.heap_model.proofs.BoundRoots.{with_root_holds, with_root_others}
use Rattle.heap_model.proofs.BoundHeaps.{none_in, bound_moves, bound_whole}

-- all that a heap shows of a graph but for the objects that can be reached
pub record ShowsFrame (heap : Heap) (graph : Graph) : Type 0 where
  pub whole : Whole heap
  pub paths : heap.paths ≡ graph.paths
  pub bindings : (variable : ℕ) → variable < heap.space.variables → ShowsBinding heap graph variable
  pub no_others : (variable : ℕ) → heap.space.variables ≤ variable → get graph.bindings variable ≡ None
  pub made : (number at : ℕ) → IsPlace heap number at → number < length graph.objects

-- a heap that shows a graph shows that
frame_of : {heap : Heap} {graph : Graph} → Shows heap graph → ShowsFrame heap graph
frame_of shows = record {
  whole = shows.whole;
  paths = shows.paths;
  bindings = shows.bindings;
  no_others = shows.no_others;
  made = shows.made;
}

-- nothing was made
pub none_numbered : (count : ℕ) → AreNumberedFrom count []
none_numbered count cell there = absurd (none_in cell there)

-- each variable shows what it is bound to
bindings_shown : (heap : Heap) (before after : Graph) (variable : ℕ) (one : Held) → variable < heap.space.variables
    → ShowsFrame heap before → BindsAnew before after variable → FitsHeld one
    → ShowsHeld heap one (get after.bindings variable)
    → (other : ℕ) → other < heap.space.variables → ShowsBinding (bound heap variable one) after other
bindings_shown heap before after variable one below shows anew fits holds other within =
    let moves = bound_moves heap variable one below shows.whole in
    elim (cases_eq other variable) [
      | inl same ↦
          let here : ShowsBinding (bound heap variable one) after variable = record {
            held = one;
            holds = with_root_holds heap.space heap.words variable one below shows.whole.sized.words fits;
            shows = held_shown one (get after.bindings variable) moves holds;
          } in
          subst (ShowsBinding (bound heap variable one) after) (sym same) here
      | inr apart ↦
          let shown = shows.bindings other within in
          record {
            held = shown.held;
            holds = with_root_others heap.space heap.words variable one other shown.held apart shown.holds;
            shows = subst (ShowsHeld (bound heap variable one) shown.held) (sym (anew.others other apart))
                (held_shown shown.held (get before.bindings other) moves shown.shows);
          }
    ]

-- the heap shows the graph where each object that can be reached is shown
pub bound_shows : (heap : Heap) (before after : Graph) (variable : ℕ) (one : Held) → variable < heap.space.variables
    → ShowsFrame heap before → BindsAnew before after variable → FitsHeld one
    → ShowsHeld heap one (get after.bindings variable)
    → ((number : ℕ) (what : Object) → slice_get before.objects number ≡ Some what
    → IsTrue (is_marked (reach after) number) → ShowsReached (bound heap variable one) (reach after) number what)
    → Shows (bound heap variable one) after
bound_shows heap before after variable one below shows anew fits holds reached =
    let moves = bound_moves heap variable one below shows.whole in
    record {
      whole = bound_whole heap variable one (get after.bindings variable) below shows.whole fits holds;
      paths = shows.paths ∙ sym anew.paths;
      bindings = bindings_shown heap before after variable one below shows anew fits holds;
      no_others = λ other past.
          let apart : other ≢ variable = λ same. omega (arith, same, past, below) in
          anew.others other apart ∙ shows.no_others other past;
      reached = λ number what there marked.
          reached number what (ap (λ objects. slice_get objects number) (sym anew.objects) ∙ there) marked;
      made = λ number at place.
          let was = place_before (number + 1) moves (none_numbered (number + 1)) (omega arith) place in
          omega (arith, shows.made number at was, ap length anew.objects);
    }

-- no cell went
pub none_stood : (number : ℕ) (cell : Cell) → Contains [] cell → IsTrue (is_object_kind cell.layout.kind)
    → cell.header.object ≢ number
none_stood number cell there = absurd (none_in cell there)

-- so it is where nothing more can be reached than before
pub bindings_show : BindingsShow
bindings_show heap before after variable one below shows anew fits holds reached =
    let moves = bound_moves heap variable one below shows.whole in
    let count : ℕ = length before.objects in
    bound_shows heap before after variable one below (frame_of shows) anew fits holds (λ number what there marked.
    let was_marked = reached number marked in
    let shown = shows.reached number what there was_marked in
    reached_stays count (reach before) (reach after) number what moves (none_numbered count) (reach_below before)
    (reach_below before number was_marked) shown (none_stood number)
    (keys_stay heap (reach before) (reach after) shown.words what reached))

-- where one object more can be reached that is no key, the keys of each other object stay
new_keys_stay : (heap : Heap) (before after : List Bool) (objects : List Object) (number holder : ℕ) (what : Object)
    → IsNoEntryKey objects number → IsNoKey heap number
    → ((other : ℕ) → IsTrue (is_marked after other) → other ≢ number → IsTrue (is_marked before other))
    → slice_get objects holder ≡ Some what → (shown : ShowsReached heap before holder what)
    → ObjectKeysStay heap before after shown.words what
new_keys_stay heap before after objects number holder (graph_object.Plain cap proto fields) no_entry no_key
    reached there shown = tt
new_keys_stay heap before after objects number holder (graph_object.List elements) no_entry no_key
    reached there shown = tt
new_keys_stay heap before after objects number holder (graph_object.Weak entries) no_entry no_key
    reached there shown = record {
      of_entries = λ at entry stands marked. reached entry.key marked (no_entry holder at entries entry there stands);
      of_pairs = λ pair other has refers marked.
          reached other marked (λ same.
          no_key shown.cell shown.words shown.has shown.shows.of_kind pair has
          (subst (RefersToPlace heap pair.key) same refers));
    }

-- the marks of both graphs are of as many objects
marked_below : (before after : Graph) → after.objects ≡ before.objects
    → AreMarkedBelow (reach after) (length before.objects)
marked_below before after same number marked = omega (arith, reach_below after number marked, ap length same)

-- and where one object more can be reached, whose cell shows it, that is the key of nothing
pub new_bindings_show : NewBindingsShow
new_bindings_show heap before after variable one number what below shows anew fits holds there shown
    no_entry no_key reached =
    let moves = bound_moves heap variable one below shows.whole in
    let count : ℕ = length before.objects in
    let new_marked = marked_below before after anew.objects in
    bound_shows heap before after variable one below (frame_of shows) anew fits holds
    (λ other object other_there marked.
    elim (cases_eq other number) [
      | inl same ↦
          let is : what ≡ object =
          same_Some what object (sym there ∙ ap (slice_get before.objects) (sym same) ∙ other_there) in
          let here = reached_stays count (reach after) (reach after) number what moves (none_numbered count) new_marked
          (slice_get_within before.objects number what there) shown (none_stood number)
          (keys_stay heap (reach after) (reach after) shown.words what (λ n m. m)) in
          subst (λ n. ShowsReached (bound heap variable one) (reach after) n object) (sym same)
          (subst (ShowsReached (bound heap variable one) (reach after) number) is here)
      | inr apart ↦
          let was_marked = reached other marked apart in
          let was = shows.reached other object other_there was_marked in
          reached_stays count (reach before) (reach after) other object moves (none_numbered count) (reach_below before)
          (reach_below before other was_marked) was (none_stood other)
          (new_keys_stay heap (reach before) (reach after) before.objects number other object no_entry no_key reached
          other_there was)
    ])
