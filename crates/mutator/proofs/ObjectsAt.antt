-- Objects by their addresses: the cell that stands there, and what it is.
use Rattle.std.proofs.Common.{◌≡◌, ℕ, ◌≤◌, ◌<◌, Bool, List, [], Some, slice_get, get_or, sym, ap, subst, arith}
use Rattle.std.specs.Prelude.{IsTrue, Option, codes}
use Rattle.std.specs.FinMap.{get}
use Rattle.std.proofs.lemmas.Bool.Decides.{nat_tests}
use Rattle.std.proofs.lemmas.Option.{slice_get-get_or}
use Rattle.tagged_word.specs.declared.layout.Kind.TheVariants as kind
use Rattle.tagged_word.specs.Shapes.{first_path_shape}
use Rattle.heap_model.specs.Types.{Header, Value, Object, Cell, Path}
use Rattle.object_graph.specs.declared.value.Value.TheVariants.{Ref}
use Rattle.object_graph.specs.declared.object.Object.TheVariants as graph_object
use Rattle.object_graph.specs.Graphs.{Graph}
use Rattle.object_graph.specs.Reach.{is_marked, reach}
use Rattle.object_graph.specs.Texts.{noun}
use Rattle.handle_roots.specs.declared.held.Held.TheVariants as held
use Rattle.handle_roots.specs.Roots.{Holds}
use Rattle.write_barrier.specs.Seats.{heap_words}
use Rattle.heap_model.specs.Heaps.{Heap, HasCell}
use Rattle.heap_model.specs.Slots.{IsPlace}
use Rattle.heap_model.specs.Wholeness.{Whole}
use Rattle.heap_model.specs.Showing.{ShowsObject}
use Rattle.write_barrier.specs.MutatorState.{Mutator, heap_of, MainShows}
use Rattle.object_cells.specs.HeldValues.{IsReachedValue}
use Rattle.object_cells.proofs.PlainFields.{plain_sound}
use Rattle.mutator.specs.Kinds.{noun_by_shape}
use Rattle.mutator.specs.Reading.{StandsFor, HasShapeOf, IsFoundObject}
use Rattle.mutator.proofs.HeldValues.{holds_object, held_shows, some_shown, bound_stands, ref_bound}
use Rattle.mutator.proofs.CellKinds.{other_has_fixed}

-- the object of this number has its place at the address, and the cell there shows it
pub record ObjectAt (heap : Heap) (graph : Graph) (number at : ℕ) : Type 0 where
  pub what : Object
  pub there : slice_get graph.objects number ≡ Some what
  pub cell : Cell
  pub words : List ℕ
  pub has : HasCell heap cell words
  pub stands : cell.at ≡ at
  pub carries : cell.header.object ≡ number
  pub shows : ShowsObject heap (reach graph) cell words what

-- so has each object that can be reached
pub object_at : {main : Mutator} {graph : Graph} (number at : ℕ) → MainShows main graph
    → IsPlace (heap_of main) number at
    → IsTrue (is_marked (reach graph) number) → ObjectAt (heap_of main) graph number at
object_at {main} {graph} number at shows place reached =
    let what : Object = get_or graph.objects number (graph_object.List []) in
    let there : slice_get graph.objects number ≡ Some what =
    slice_get-get_or graph.objects number (graph_object.List []) (shows.shows.made number at place) in
    let shown = shows.shows.reached number what there reached in
    record {
      what = what;
      there = there;
      cell = shown.cell;
      words = shown.words;
      has = shown.has;
      stands = sym (shown.once at place);
      carries = shown.carries;
      shows = shown.shows;
    }

-- the cell that shows an object has the object's shape
shape_of_cell : (heap : Heap) (marks : List Bool) (cell : Cell) (words : List ℕ) (what : Object) → Whole heap
    → HasCell heap cell words → ShowsObject heap marks cell words what → HasShapeOf heap.paths what cell.header.shape
shape_of_cell heap marks cell words (graph_object.Plain slots proto fields) whole has shows =
    record { is_shape = (plain_sound whole has shows.0.of_kind).shape; of_path = shows.0.path }
shape_of_cell heap marks cell words (graph_object.List elements) whole has shows =
    omega (arith, other_has_fixed kind.List whole.sized has shows.of_kind (omega arith))
shape_of_cell heap marks cell words (graph_object.Weak entries) whole has shows =
    omega (arith, other_has_fixed kind.Weak whole.sized has shows.of_kind (omega arith))

-- so has that of the object at an address
shape_told : {main : Mutator} {graph : Graph} {number at : ℕ} → MainShows main graph
    → (object : ObjectAt (heap_of main) graph number at) → HasShapeOf main.paths object.what object.cell.header.shape
shape_told {main} {graph} shows object =
    shape_of_cell (heap_of main) (reach graph) object.cell object.words object.what shows.shows.whole object.has
    object.shows

-- a shape of a path is that of a plain object
no_fixed_noun : (shape : ℕ) → first_path_shape ≤ shape → noun_by_shape shape ≡ codes "object "
no_fixed_noun shape from = grind (arith, nat_tests)

-- what the text of an object begins with is told by its shape
noun_of_shape : (paths : List Path) (shape : ℕ) (what : Object) → HasShapeOf paths what shape
    → noun_by_shape shape ≡ noun what
noun_of_shape paths shape (graph_object.Plain slots proto fields) shaped = no_fixed_noun shape shaped.is_shape.from
noun_of_shape paths shape (graph_object.List elements) shaped = ap noun_by_shape shaped
noun_of_shape paths shape (graph_object.Weak entries) shaped = ap noun_by_shape shaped

-- so is that of the object at an address
pub noun_told : {main : Mutator} {graph : Graph} {number at : ℕ} → MainShows main graph
    → (object : ObjectAt (heap_of main) graph number at) → noun_by_shape object.cell.header.shape ≡ noun object.what
noun_told {main} shows object =
    noun_of_shape main.paths object.cell.header.shape object.what (shape_told shows object)

-- the object to which a value refers that an address stands for
pub record HeldObject (main : Mutator) (graph : Graph) (at : ℕ) (value : Value) : Type 0 where
  pub number : ℕ
  pub is : value ≡ Ref number
  pub place : IsPlace (heap_of main) number at
  pub reached : IsTrue (is_marked (reach graph) number)
  pub object : ObjectAt (heap_of main) graph number at

-- an address stands for such a value alone
pub held_object : {main : Mutator} {graph : Graph} (at : ℕ) (value : Value) → MainShows main graph
    → StandsFor main graph value (held.Ref at) → HeldObject main graph at value
held_object {graph = graph} at value shows stands =
    let holds = holds_object at value stands.is.shows in
    let reached = subst (IsReachedValue graph) holds.is stands.is.reached in
    record {
      number = holds.number;
      is = holds.is;
      place = holds.place;
      reached = reached;
      object = object_at holds.number at shows holds.place reached;
    }

-- the object was found where the header was read
pub found_object : {main : Mutator} {graph : Graph} {at : ℕ} {value : Value} (header : Header) → MainShows main graph
    → (held : HeldObject main graph at value) → held.object.cell.header ≡ header
    → IsFoundObject main graph value (record { at = at; shape = header.shape })
found_object {main} header shows held read = record {
  number = held.number;
  what = held.object.what;
  is = held.is;
  there = held.object.there;
  place = held.place;
  reached = held.reached;
  shaped = subst (λ (h : Header). HasShapeOf main.paths held.object.what h.shape) read (shape_told shows held.object);
}

-- the object to which what is sought refers, at an address
pub record ReferredObject (main : Mutator) (graph : Graph) (sought : Option Value) (at : ℕ) : Type 0 where
  pub value : Value
  pub is : sought ≡ Some value
  pub object : HeldObject main graph at value

-- a variable that refers to an address is bound to the object there
pub referred_object : {main : Mutator} {graph : Graph} (x at : ℕ) → MainShows main graph
    → x < main.seat.space.variables → Holds main.seat.space (heap_words main.seat) x (held.Ref at)
    → ReferredObject main graph (get graph.bindings x) at
referred_object {graph = graph} x at shows known holds =
    let one = held.Ref at in
    let some = some_shown one (get graph.bindings x) (ref_bound at) (held_shows x one shows known holds) in
    record {
      value = some.value;
      is = some.is;
      object = held_object at some.value shows (bound_stands x one some.value shows some.is holds.fits some.shows);
    }
