-- A heap in which the cell of one object shows another in its place shows the graph in which it has that place.
use Rattle.std.proofs.Common.{◌≡◌, ◌≢◌, ℕ, zero, suc, false, List, [], ◌∷◌, length, Some, refl, sym}
use Rattle.std.proofs.Common.{◌∙◌, ap, subst, Bool, arith, ◌⊎◌, inl, inr, set, length-set, slice_get}
use Rattle.std.specs.Prelude.{Contains, IsTrue}
use Rattle.std.proofs.lemmas.Bool.{false≢true}
use Rattle.std.proofs.lemmas.Option.{none-some, same_Some}
use Rattle.page_space.specs.Extents.{Space, eden_start}
use Rattle.nursery.specs.Young.{Young, other_half}
use Rattle.heap_model.specs.Types.{Object, Path, Cell}
use Rattle.object_graph.specs.Graphs.{Graph}
use Rattle.object_graph.specs.Reach.{is_marked, reach}
use Rattle.object_graph.specs.Invariants.{IsGraph}
use Rattle.core_parts.proofs.Joining.{decided}
use Rattle.object_graph.proofs.Lists.{slice_get-set_other}
use Rattle.graph_laws.specs.ReachLaws.{LinksTo, HasBound, IsClosed}
use Rattle.graph_laws.proofs.Reaches.{reach_has_bound, reach_closed, reach_least}
use Rattle.heap_model.specs.Heaps.{Heap, words_of_cell}
use Rattle.tagged_word.specs.Cells.{is_object_kind}
use Rattle.heap_model.specs.Wholeness.{HasSizes, HasRows}
use Rattle.heap_model.specs.Showing.{ShowsObject}
use Rattle.heap_model.specs.Changes.{CellsChange, IsOwnChange, IsGraphChange}
use Rattle.heap_model.specs.Collectable.{IsCollectable, AreFreeRuns}
use Rattle.heap_model.proofs.WholeStays.{own_changes_keep_whole}
use Rattle.heap_model.proofs.ShownGraphs.{own_changes_show}
use Rattle.heap_model.proofs.StaysCollectable.{own_changes_stay_collectable}
use Rattle.heap_model.proofs.FreeStays.{own_changes_keep_free}
use Rattle.write_barrier.specs.MutatorState.{Mutator, heap_of, MainShows}
use Rattle.write_barrier.specs.Recording.{Remembers}
use Rattle.write_barrier.proofs.Recording.{remembers_heap}
use Rattle.object_cells.specs.CycleChanges.{KeepsOpenCycle}
use Rattle.object_cells.specs.Uses.{TakesRun}
use Rattle.object_cells.specs.Refills.{RestsAgain}
use Rattle.object_cells.proofs.GrantedRests.{made_avoid_free, left_avoids_free, left_are_granted}
use Rattle.object_cells.proofs.RestsInCycle.{cycle_rests}

-- after one was put in the place of another, an element stood at another place, or is that one
put_cases : {X : Type 0} (xs : List X) (place : ℕ) (put : X) (i : ℕ) (x : X) → slice_get (set xs place put) i ≡ Some x
    → ((slice_get xs i ≡ Some x) × (i ≢ place)) ⊎ ((i ≡ place) × (put ≡ x))
put_cases [] place put i x there = absurd (none-some x there)
put_cases (first ∷ xs) zero put zero x there = inr (refl, same_Some put x there)
put_cases (first ∷ xs) zero put (suc i) x there = inl (there, λ same. omega (arith, same))
put_cases (first ∷ xs) (suc place) put zero x there = inl (there, λ same. omega (arith, same))
put_cases (first ∷ xs) (suc place) put (suc i) x there = elim (put_cases xs place put i x there) [
  | inl old ↦ inl (old.0, λ same. old.1 (omega (arith, same)))
  | inr new ↦ inr (ap suc new.0, new.1)
]

-- the graph with the object in the place of that with this number, and with these paths
abbrev pub replaced : Graph → ℕ → Object → List Path → Graph
replaced graph number object paths = record graph { objects = set graph.objects number object; paths = paths }

-- each object that this one links to, where what can be reached is inside, can be reached
abbrev pub HasReachedLinks : Graph → Object → Type 0
HasReachedLinks graph object =
    (number : ℕ) → LinksTo (is_marked (reach graph)) object number → IsTrue (is_marked (reach graph) number)

-- nothing more can be reached
reaches_no_more : (graph : Graph) (number : ℕ) (object : Object) (paths : List Path) (other : ℕ)
    → HasReachedLinks graph object → IsTrue (is_marked (reach (replaced graph number object paths)) other)
    → IsTrue (is_marked (reach graph) other)
reaches_no_more graph number object paths other links marked =
    let inside = is_marked (reach graph) in
    let after : Graph = replaced graph number object paths in
    let long : length after.objects ≡ length graph.objects = length-set graph.objects number object in
    let bound : HasBound after inside =
    λ x one within at. reach_has_bound graph x one (omega (arith, long, within)) at in
    let closed : IsClosed after inside = λ holder what one there held within linked.
    elim (put_cases graph.objects number object holder what there) [
      | inl old ↦ reach_closed graph holder what one old.0 held (omega (arith, long, within)) linked
      | inr new ↦ links one (subst (λ (o : Object). LinksTo inside o one) (sym new.1) linked)
    ] in
    reach_least after inside bound closed other marked

-- an object that another takes the place of can be reached still, by its number: else all that can be reached is as it
-- was, so that it could not
pub stays_reached : (graph : Graph) (number : ℕ) (object : Object) (paths : List Path)
    → IsTrue (is_marked (reach graph) number)
    → IsTrue (is_marked (reach (replaced graph number object paths)) number)
stays_reached graph number object paths marked =
    let after : Graph = replaced graph number object paths in
    let inside = is_marked (reach after) in
    let long : length after.objects ≡ length graph.objects = length-set graph.objects number object in
    elim (decided (inside number)) [
      | inl is ↦ is
      | inr lost ↦
          let bound : HasBound graph inside =
          λ x one within at. reach_has_bound after x one (omega (arith, long, within)) at in
          let closed : IsClosed graph inside = λ holder what one there held within linked.
          let other : holder ≢ number = λ same. false≢true (sym lost ∙ ap inside (sym same) ∙ held) in
          reach_closed after holder what one
          (slice_get-set_other graph.objects number holder object other ∙ there) held
          (omega (arith, long, within)) linked in
          reach_least graph inside bound closed number marked
    ]

-- nothing is marked but what can be reached
abbrev pub MarksReached : Graph → List Bool → Type 0
MarksReached graph marks = (number : ℕ) → IsTrue (is_marked marks number) → IsTrue (is_marked (reach graph) number)

-- Of objects only that with this number went. One came that carries it and shows the object, whatever of what could be
-- reached still can be, and none was made.
pub record ReplacesCells (old new : Heap) (graph : Graph) (number : ℕ) (object : Object) (gone came made : List Cell)
    : Type 0 where
  pub cells : CellsChange old new gone came made
  pub own : IsOwnChange old new gone came made
  pub only : (cell : Cell) → Contains gone cell → IsTrue (is_object_kind cell.layout.kind) → cell.header.object ≡ number
  pub no_object : (cell : Cell) → Contains made cell → is_object_kind cell.layout.kind ≡ false
  pub cell : Cell
  pub among : Contains came cell
  pub carries : cell.header.object ≡ number
  pub shows : (marks : List Bool) → MarksReached graph marks
      → ShowsObject new marks cell (words_of_cell new cell) object

-- the change of the graph is that of the cells
graph_changes : {old new : Heap} (graph : Graph) (number : ℕ) (object : Object) (paths : List Path)
    {gone came made : List Cell} → new.paths ≡ paths → HasReachedLinks graph object
    → ReplacesCells old new graph number object gone came made
    → IsGraphChange old new graph (replaced graph number object paths) gone came made
graph_changes {new = new} graph number object paths same links replaces =
    let after : Graph = replaced graph number object paths in
    let reached : MarksReached graph (reach after) =
    λ other marked. reaches_no_more graph number object paths other links marked in
    record {
      paths = same;
      bindings = refl;
      few = omega (arith, length-set graph.objects number object);
      reached = reached;
      each = λ other what there marked.
          elim (put_cases graph.objects number object other what there) [
            | inl stays ↦ inl (record {
              same = stays.0;
              stood = λ cell went is_object carries. stays.1 (sym carries ∙ replaces.only cell went is_object);
            })
            | inr put ↦ inr (record {
              cell = replaces.cell;
              among = replaces.among;
              carries = replaces.carries ∙ sym put.0;
              shows = subst (λ (one : Object). ShowsObject new (reach after) replaces.cell
                  (words_of_cell new replaces.cell) one)
                  put.1 (replaces.shows (reach after) reached);
            })
          ];
      numbered = λ cell there is_object. absurd (false≢true (sym (replaces.no_object cell there) ∙ is_object));
    }

-- the mutator rests again where its change of cells is remembered
pub rests_again : {old new : Mutator} {graph : Graph} (gone came made : List Cell) → MainShows old graph
    → TakesRun old new made → HasSizes (heap_of new) → HasRows (heap_of new)
    → CellsChange (heap_of old) (heap_of new) gone came made → Remembers old new gone came made
    → RestsAgain old new made
rests_again {old} {new} gone came made shows takes sized rows cells remembers = record {
  takes = takes;
  sized = sized;
  rows = rows;
  free = remembers.touches.free;
  bound = remembers.touches.bound;
  remembered = remembers_heap old new gone came made remembers shows.bounded shows.shows.whole rows cells
      shows.remembered;
}

-- so the heap shows it
pub replaced_shows : {old new : Mutator} {graph : Graph} (number : ℕ) (object : Object) (paths : List Path)
    {gone came made : List Cell} → MainShows old graph → IsGraph (replaced graph number object paths)
    → new.paths ≡ paths → HasReachedLinks graph object → RestsAgain old new made
    → ReplacesCells (heap_of old) (heap_of new) graph number object gone came made
    → KeepsOpenCycle old new (replaced graph number object paths) gone came made
    → MainShows new (replaced graph number object paths)
replaced_shows {old} {new} {graph} number object paths {gone} {came} {made} shows is_graph same links rest replaces
    keeps =
    let before : Heap = heap_of old in
    let now : Heap = heap_of new in
    let after : Graph = replaced graph number object paths in
    let takes : TakesRun old new made = rest.takes in
    let whole = own_changes_keep_whole before now gone came made shows.shows.whole rest.sized rest.rows replaces.cells
    replaces.own in
    let change = graph_changes graph number object paths same links replaces in
    let shown =
    own_changes_show before now graph after gone came made shows.shows whole replaces.cells replaces.own change in
    record {
      tied = record {
        space = ap (λ (young : Young). young.space) takes.young ∙ shows.tied.space ∙ sym takes.space;
        granted = left_are_granted takes shows.shows.whole replaces.cells replaces.own shows.tied;
      };
      is_graph = is_graph;
      calm = λ mark.
          let was = sym takes.phase ∙ mark in
          cycle_rests shows was shown replaces.cells replaces.own change takes (keeps was);
      shows = shown;
      collectable = subst (λ (half : ℕ). IsCollectable now (other_half half))
          (sym (ap (λ (young : Young). young.half) takes.young))
          (own_changes_stay_collectable before now gone came made (other_half old.young.half) shows.shows.whole
          rest.rows replaces.cells replaces.own shows.collectable);
      free = subst (AreFreeRuns now) (sym rest.free)
          (own_changes_keep_free before now gone came made old.free shows.shows.whole replaces.cells replaces.own
          (made_avoid_free takes shows.tied shows.apart shows.free) shows.free);
      apart = left_avoids_free takes rest.free shows.apart;
      bounded = rest.bound ∙ shows.bounded ∙ ap (λ (space : Space). eden_start space) (sym takes.space);
      remembered = rest.remembered;
    }
