-- A field of a plain object that is there is set to a value: what is known before.
use Rattle.std.proofs.Common.{◌≡◌, ℕ, ◌<◌, List, length, Option, Some, None, slice_get, set}
use Rattle.std.proofs.Common.{refl, sym, ◌∙◌, ap, subst, arith, ◌++◌, append-nil, Contains}
use Rattle.std.specs.Prelude.{option_map}
use Rattle.std.proofs.lemmas.Option.{none-some, same_Some, slice_get_within}
use Rattle.heap_model.specs.Types.{LayoutWord, Value, Field, Path, Cell, Held}
use Rattle.object_graph.specs.declared.object.Object.TheVariants.{Plain}
use Rattle.object_graph.specs.Paths.{path_of, with_path}
use Rattle.object_graph.specs.Objects.{with_field, revalued, field_value}
use Rattle.object_graph.specs.Graphs.{Graph, PlainObject}
use Rattle.object_graph.specs.Invariants.{IsValue, HasItsPath}
use Rattle.object_graph.specs.Limits.{paths_most}
use Rattle.shape_tree.proofs.GrownPaths.{missing-there}
use Rattle.shape_tree.proofs.LedPaths.{with_path-added}
use Rattle.handle_roots.specs.Roots.{FitsHeld}
use Rattle.heap_model.specs.Heaps.{HasCell, words_of_cell}
use Rattle.heap_model.specs.Showing.{ShowsHeld, ShowsPlain}
use Rattle.heap_model.proofs.PathLayouts.{layout_is}
use Rattle.heap_model.proofs.SlotWords.{All-slice_get}
use Rattle.write_barrier.specs.MutatorState.{Mutator, heap_of, MainShows}
use Rattle.object_cells.specs.PlainObjects.{IsPlainAt, LacksFields}
use Rattle.object_cells.specs.HeldValues.{IsReachedValue, IsValueHeld}
use Rattle.object_cells.specs.Refills.{AreNewFields}
use Rattle.object_cells.proofs.FieldsFound.{value_found}
use Rattle.shape_change.proofs.FieldsSet.{with_field_found}
use Rattle.object_cells.proofs.NewFields.{written_fields_are_new}
use Rattle.object_cells.proofs.OwnPlaces.{has_own_words}
use Rattle.object_cells.proofs.PlainFields.{plain_sound, plain_shown, names_distinct}

-- The plain object at an address has a field of this number and name, and the value is one of the graph.
pub record Setting (old : Mutator) (graph : Graph) (object slot : ℕ) (plain : PlainObject) (what : Value) (name : ℕ)
    : Type 0 where
  pub shows : MainShows old graph
  pub is : IsPlainAt old graph object plain
  pub value : IsValue (length graph.objects) what
  pub value_reached : IsReachedValue graph what
  pub cell : Cell
  pub has : HasCell (heap_of old) cell (words_of_cell (heap_of old) cell)
  pub stands : cell.at ≡ object
  pub carries : cell.header.object ≡ plain.number
  pub cap : cell.layout.cap ≡ plain.cap
  pub shown : ShowsPlain (heap_of old) cell (words_of_cell (heap_of old) cell) cell.layout.cap plain.fields
  pub field : Field
  pub there : slice_get plain.fields slot ≡ Some field
  pub named : field.name ≡ name

-- what an element that is there is mapped to is that of the element
record IsMapped {X Y : Type 0} (f : X → Y) (found : Option X) (y : Y) : Type 0 where
  pub x : X
  pub there : found ≡ Some x
  pub is : f x ≡ y

-- so it is
mapped : {X Y : Type 0} (f : X → Y) (found : Option X) (y : Y) → option_map f found ≡ Some y → IsMapped f found y
mapped f None y is = absurd (none-some y is)
mapped f (Some x) y is = record { x = x; there = refl; is = same_Some (f x) y is }

-- a value that is held is one of the graph
held_value : {main : Mutator} {graph : Graph} (known : Held) (what : Value) → MainShows main graph → FitsHeld known
    → ShowsHeld (heap_of main) known (Some what) → IsValue (length graph.objects) what
held_value known what shows fits ShowsHeld.undefined = tt
held_value known what shows fits (ShowsHeld.integer v) = fits
held_value known what shows fits (ShowsHeld.object at number place) = shows.shows.made number at place

-- so it is where a graph with the object is shown
pub setting : {old : Mutator} {graph : Graph} {object slot : ℕ} {plain : PlainObject} {known : Held} {what : Value}
    {name : ℕ}
    → MainShows old graph → IsPlainAt old graph object plain → IsValueHeld old graph known what → FitsHeld known
    → option_map (λ (field : Field). field.name) (slice_get plain.fields slot) ≡ Some name
    → Setting old graph object slot plain what name
setting {old} {graph} {object} {slot} {plain} {known} {what} {name} shows is holds fits there =
    let shown = plain_shown shows is in
    let heap = heap_of old in
    let cell : Cell = shown.cell in
    let has = has_own_words shown.has in
    let sound = plain_sound shows.shows.whole has shown.shows.of_kind in
    let laid = layout_is shows.shows.whole.sized has sound.shape in
    let cap : cell.layout.cap ≡ plain.cap =
    ap (λ (layout : LayoutWord). layout.cap) laid ∙ ap (λ (path : Path). path.cap) shown.shows.path in
    let own_words = subst (λ all. ShowsPlain heap cell all plain.cap plain.fields) (sym shown.has.words_are)
    shown.shows in
    let found = mapped (λ (field : Field). field.name) (slice_get plain.fields slot) name there in
    record {
      shows = shows;
      is = is;
      value = held_value known what shows fits holds.shows;
      value_reached = holds.reached;
      cell = cell;
      has = has;
      stands = shown.stands;
      carries = shown.carries;
      cap = cap;
      shown = subst (λ n. ShowsPlain heap cell (words_of_cell heap cell) n plain.fields) (sym cap) own_words;
      field = found.x;
      there = found.there;
      named = found.is;
    }

module _ {old : Mutator} {graph : Graph} {object slot : ℕ} {plain : PlainObject} {what : Value} {name : ℕ}
    (s : Setting old graph object slot plain what name) where
  -- the name is there, so there are not too many fields
  pub name_is_there : LacksFields plain name → ⊥
  name_is_there lacks =
      let value : field_value plain.fields name ≡ Some s.field.value =
      value_found plain.fields slot s.field name (names_distinct s.shows s.is) s.there s.named in
      none-some s.field.value (sym lacks.fresh ∙ value)

  -- the fields are those with the one in its place
  pub fields_are : with_field plain.fields name what ≡ set plain.fields slot (revalued s.field what)
  fields_are = with_field_found plain.fields slot s.field name what (names_distinct s.shows s.is) s.there s.named

  -- they are fields that the object may have
  pub fields_are_new : AreNewFields graph (with_field plain.fields name what)
  fields_are_new =
      written_fields_are_new graph plain name what s.shows.is_graph s.is.object s.is.reached name_is_there s.value
      s.value_reached

  -- there are as many fields as slots, and more
  pub slot_is_field : slot < length plain.fields
  slot_is_field = slice_get_within plain.fields slot s.field s.there

  -- the path of the object was there, so nothing is added for it
  pub path_is_there : with_path (Some paths_most) old.paths (path_of plain.cap plain.fields) ≡ Some old.paths
  path_is_there =
      let path : Path = path_of plain.cap plain.fields in
      let same : old.paths ≡ graph.paths = s.shows.shows.paths in
      let its = All-slice_get (HasItsPath graph.paths) graph.objects plain.number
      (Plain plain.cap plain.proto plain.fields) s.shows.is_graph.shaped s.is.object in
      let shapes = s.shows.shows.whole.sized.shapes in
      let none = missing-there old.paths path shapes.are (subst (λ paths. Contains paths path) (sym same) its) in
      let few = shapes.few in
      with_path-added old.paths old.paths path (sym (append-nil old.paths) ∙ ap (λ more. old.paths ++ more) (sym none))
      (omega (arith, few, ap (λ (more : List Path). length more) none))
