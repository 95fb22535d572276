-- A heap in which an object was made and a variable bound to it shows the graph in which it is made.
use Rattle.std.specs.Prelude.{◌≤◌}
use Rattle.std.proofs.Common.{◌≡◌, ◌≢◌, ℕ, ◌+◌, ◌<◌, inl, inr, Bool, List, []}
use Rattle.std.proofs.Common.{◌∷◌, ◌++◌, length, Contains, Some, slice_get, IsTrue, refl, sym, ◌∙◌, ap}
use Rattle.std.proofs.Common.{subst, arith, length-append}
use Rattle.std.specs.FinMap.{get}
use Rattle.std.proofs.lemmas.Bool.{cases_eq}
use Rattle.std.proofs.lemmas.Option.{same_Some}
use Rattle.tagged_word.proofs.Members.{first_in, one_in}
use Rattle.page_space.specs.Extents.{Space}
use Rattle.object_graph.specs.declared.value.Value.TheVariants.{Ref}
use Rattle.heap_model.specs.Types.{Object, Cell}
use Rattle.object_graph.specs.declared.object.Object.TheVariants as graph_object
use Rattle.object_graph.specs.Graphs.{Graph, make}
use Rattle.object_graph.specs.Reach.{is_marked, reach}
use Rattle.handle_roots.specs.declared.held.Held.TheVariants as held
use Rattle.heap_model.specs.Heaps.{Heap, words_of_cell}
use Rattle.heap_model.specs.Slots.{IsPlace}
use Rattle.heap_model.specs.Wholeness.{Whole}
use Rattle.heap_model.specs.Showing.{ShowsObject, ShowsReached, ShowsHeld, Shows}
use Rattle.heap_model.specs.Changes.{CellsChange}
use Rattle.heap_model.specs.Laws.{BindsAnew, IsNoEntryKey, NewObjectsShow}
use Rattle.heap_model.proofs.CellWords.{slice_get-append_left, slice_get-append_right}
use Rattle.heap_model.proofs.Moves.{Moves}
use Rattle.heap_model.proofs.CellOutcomes.{cells_move}
use Rattle.heap_model.proofs.PlacesBefore.{AreNumberedFrom}
use Rattle.heap_model.proofs.ShownObjects.{ObjectKeysStay, object_of_shown}
use Rattle.heap_model.proofs.ReachedStays.{reach_below, keys_stay, reached_stays, made_below}
use Rattle.heap_model.proofs.ShownGraphs.{binding_shown}
use Rattle.heap_model.proofs.AnewBindings.{get-insert_same, binds_anew}
use Rattle.heap_model.proofs.BoundHeaps.{bound_moves}
use Rattle.heap_model.proofs.BoundGraphs.{ShowsFrame, none_numbered, none_stood, bound_shows}

-- the graph with one object more, to which no variable is bound
abbrev with_object : Graph → Object → Graph
with_object graph what = record graph { objects = graph.objects ++ what ∷ [] }

-- there is one object more
length-with_object : (graph : Graph) (what : Object)
    → length (graph.objects ++ what ∷ []) ≡ length graph.objects + 1
length-with_object graph what = length-append graph.objects (what ∷ [])

-- what was made carries its number
made_numbered : (count : ℕ) (cell : Cell) → cell.header.object ≡ count → (other : Cell) → Contains (cell ∷ []) other
    → other.header.object ≡ count
made_numbered count cell carries other there =
    ap (λ (one : Cell). one.header.object) (sym (one_in cell other there)) ∙ carries

-- the heap with one cell more shows all of the graph with one object more but what can be reached
frame_made : (old new : Heap) (before : Graph) (cell : Cell) (what : Object) → Shows old before → Whole new
    → new.paths ≡ before.paths → CellsChange old new [] [] (cell ∷ []) → Moves old new [] [] (cell ∷ [])
    → cell.header.object ≡ length before.objects → ShowsFrame new (with_object before what)
frame_made old new before cell what shows whole paths change moves carries =
    let count : ℕ = length before.objects in
    let more = length-with_object before what in
    record {
      whole = whole;
      paths = paths;
      bindings = λ variable within.
          let below = subst (λ (space : Space). variable < space.variables) change.same_space within in
          binding_shown before (with_object before what) variable moves change refl below
          (shows.bindings variable below);
      no_others = λ variable past.
          shows.no_others variable (subst (λ (space : Space). space.variables ≤ variable) change.same_space past);
      made = made_below count (length (before.objects ++ what ∷ [])) moves (omega (arith, more)) shows.made
          (λ other there object. omega (arith, made_numbered count cell carries other there, more));
    }

-- the new object has one place, whose cell shows it
new_reached : (old new : Heap) (before : Graph) (marks : List Bool) (cell : Cell) (what : Object) → Shows old before
    → CellsChange old new [] [] (cell ∷ []) → cell.header.object ≡ length before.objects
    → ShowsObject new marks cell (words_of_cell new cell) what → ShowsReached new marks (length before.objects) what
new_reached old new before marks cell what shows change carries shown =
    record {
      cell = cell;
      words = words_of_cell new cell;
      has = change.comes cell (first_in cell []);
      carries = carries;
      shows = shown;
      once = λ at place. elim (change.back place.cell place.words place.has) [
        | inl comes ↦ sym place.stands ∙ ap (λ (one : Cell). one.at) (sym (one_in cell place.cell comes))
        | inr stays ↦
            let was : IsPlace old (length before.objects) at = record {
              cell = place.cell;
              words = place.words;
              has = stays.0;
              stands = place.stands;
              object = place.object;
              carries = place.carries;
            } in
            absurd (omega (arith, shows.made (length before.objects) at was))
      ];
    }

-- no key of an object that was there is the new object
old_keys_stay : (old : Heap) (before : Graph) (after : List Bool) (holder : ℕ) (what : Object) → Shows old before
    → IsNoEntryKey before.objects (length before.objects)
    → ((other : ℕ) → IsTrue (is_marked after other) → other ≢ length before.objects
    → IsTrue (is_marked (reach before) other))
    → slice_get before.objects holder ≡ Some what → (words : List ℕ)
    → ObjectKeysStay old (reach before) after words what
old_keys_stay old before after holder (graph_object.Plain cap proto fields) shows no_entry reached there words = tt
old_keys_stay old before after holder (graph_object.List elements) shows no_entry reached there words = tt
old_keys_stay old before after holder (graph_object.Weak entries) shows no_entry reached there words = record {
  of_entries = λ at entry stands marked. reached entry.key marked (no_entry holder at entries entry there stands);
  of_pairs = λ pair other has refers marked.
      let below : other < length before.objects = shows.made other refers.at refers.place in
      reached other marked (omega arith);
}

-- each object that was there is shown as before
old_reached : (old new : Heap) (before : Graph) (after : List Bool) (cell : Cell) (number : ℕ) (what : Object)
    → Shows old before → Moves old new [] [] (cell ∷ []) → cell.header.object ≡ length before.objects
    → IsNoEntryKey before.objects (length before.objects)
    → ((other : ℕ) → IsTrue (is_marked after other) → other ≢ length before.objects
    → IsTrue (is_marked (reach before) other))
    → slice_get before.objects number ≡ Some what → IsTrue (is_marked (reach before) number)
    → ShowsReached new after number what
old_reached old new before after cell number what shows moves carries no_entry reached there marked =
    let count : ℕ = length before.objects in
    let numbered : AreNumberedFrom count (cell ∷ []) =
    λ other among object. omega (arith, made_numbered count cell carries other among) in
    let shown = shows.reached number what there marked in
    reached_stays count (reach before) after number what moves numbered (reach_below before)
    (reach_below before number marked) shown (none_stood number)
    (old_keys_stay old before after number what shows no_entry reached there shown.words)

-- each object that can be reached is shown: the new one, or one that was there
made_reached : (old new : Heap) (before : Graph) (after : List Bool) (cell : Cell) (what : Object) (number : ℕ)
    (object : Object) → Shows old before → CellsChange old new [] [] (cell ∷ []) → Moves old new [] [] (cell ∷ [])
    → cell.header.object ≡ length before.objects → ShowsObject new after cell (words_of_cell new cell) what
    → IsNoEntryKey before.objects (length before.objects)
    → ((other : ℕ) → IsTrue (is_marked after other) → other ≢ length before.objects
    → IsTrue (is_marked (reach before) other))
    → slice_get (before.objects ++ what ∷ []) number ≡ Some object → IsTrue (is_marked after number)
    → ShowsReached new after number object
made_reached old new before after cell what number object shows change moves carries shown
    no_entry reached there marked =
    elim (cases_eq number (length before.objects)) [
      | inl same ↦
          let is : what ≡ object =
          same_Some what object
          (sym (slice_get-append_right before.objects (what ∷ []) 0 number (omega arith)) ∙ there) in
          subst (λ n. ShowsReached new after n object) (sym same)
          (subst (ShowsReached new after (length before.objects)) is
          (new_reached old new before after cell what shows change carries shown))
      | inr apart ↦
          let was_marked = reached number marked apart in
          let below = reach_below before number was_marked in
          let was_there = sym (slice_get-append_left before.objects (what ∷ []) number below) ∙ there in
          old_reached old new before after cell number object shows moves carries no_entry reached was_there was_marked
    ]

-- a heap in which an object was made shows the graph in which it is
pub new_objects_show : NewObjectsShow
new_objects_show old new before variable cell what below shows whole paths change own fits carries
    shown no_entry reached =
    let moves : Moves old new [] [] (cell ∷ []) =
    record { whole = shows.whole; cells = cells_move change; own = own } in
    let after : Graph = make before variable what in
    let count : ℕ = length after.objects in
    let here : IsPlace new (length before.objects) cell.at = record {
      cell = cell;
      words = words_of_cell new cell;
      has = change.comes cell (first_in cell []);
      stands = refl;
      object = object_of_shown new (reach after) cell (words_of_cell new cell) what shown;
      carries = carries;
    } in
    let holds : ShowsHeld new (held.Ref cell.at) (get after.bindings variable) =
    subst (ShowsHeld new (held.Ref cell.at))
    (sym (get-insert_same before.bindings variable (Ref (length before.objects))))
    (ShowsHeld.object cell.at (length before.objects) here) in
    let anew : BindsAnew (with_object before what) after variable =
    record {
      objects = refl;
      paths = refl;
      others = (binds_anew before variable (Ref (length before.objects))).others;
    } in
    bound_shows new (with_object before what) after variable (held.Ref cell.at) below
    (frame_made old new before cell what shows whole paths change moves carries) anew fits holds
    (λ number object there marked.
    let before_bound =
    made_reached old new before (reach after) cell what number object shows change moves carries shown no_entry reached
    there marked in
    reached_stays count (reach after) (reach after) number object
    (bound_moves new variable (held.Ref cell.at) below whole) (none_numbered count) (reach_below after)
    (reach_below after number marked) before_bound (none_stood number)
    (keys_stay new (reach after) (reach after) before_bound.words object (λ n m. m)))
