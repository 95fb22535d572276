-- The cell of a plain object that a heap shows, and the field of a name that was found in its path.
use Rattle.std.proofs.Common.{None, false, ◌≡◌, ℕ, List, Some, slice_get, sym, ◌∙◌, ap, subst}
use Rattle.std.specs.Prelude.{option_map}
use Rattle.std.proofs.lemmas.Option.{slice_get_within}
use Rattle.heap_model.specs.Types.{Header, LayoutWord, Field, Path, PathField, Cell}
use Rattle.object_graph.specs.Paths.{path_of}
use Rattle.object_graph.specs.Graphs.{Graph, PlainObject}
use Rattle.object_graph.specs.Objects.{field_value}
use Rattle.shape_tree.specs.Shapes.{has_name, IsPathShape, shape_path, IsLocated}
use Rattle.shape_tree.specs.declared.located.Located.{Located}
use Rattle.heap_model.specs.Heaps.{Heap, HasCell, words_of_cell}
use Rattle.heap_model.specs.Showing.{ShowsPlain}
use Rattle.heap_model.proofs.PathLayouts.{layout_is}
use Rattle.write_barrier.specs.MutatorState.{Mutator, heap_of, MainShows}
use Rattle.write_barrier.specs.Reading.{IsHeaderAt}
use Rattle.object_cells.specs.CellsAt.{HasField}
use Rattle.object_cells.specs.PlainObjects.{IsPlainAt}
use Rattle.object_cells.proofs.FieldsFound.{no_value, named_at, field_at}
use Rattle.object_cells.proofs.PlainFields.{plain_sound, plain_shown}

-- The plain object's cell shows it, has as many in-object slots, and the header that was read.
pub record ShownCell (main : Mutator) (object : ℕ) (plain : PlainObject) (header : Header) : Type 0 where
  pub cell : Cell
  pub at : cell.at ≡ object
  pub has : HasCell (heap_of main) cell (words_of_cell (heap_of main) cell)
  pub carries : cell.header.object ≡ plain.number
  pub cap : cell.layout.cap ≡ plain.cap
  pub header_is : cell.header ≡ header
  pub shows : ShowsPlain (heap_of main) cell (words_of_cell (heap_of main) cell) plain.cap plain.fields

-- The path's field of a name that was found is the object's, and has a slot.
pub record FieldFound (main : Mutator) (object : ℕ) (plain : PlainObject) (header : Header) (slot name : ℕ)
    : Type 0 where
  pub has : HasField (heap_of main) object header.shape slot
  pub field : Field
  pub there : slice_get plain.fields slot ≡ Some field
  pub named : field.name ≡ name

module _ {main : Mutator} {graph : Graph} {object : ℕ} {plain : PlainObject} {header : Header}
    (shows : MainShows main graph) (is : IsPlainAt main graph object plain)
    (header_at : IsHeaderAt (heap_of main) object header) where
  -- so it does where a graph with the object is shown
  pub shown_cell : ShownCell main object plain header
  shown_cell =
      let heap : Heap = heap_of main in
      let shown = plain_shown shows is in
      let cell : Cell = shown.cell in
      let has = subst (HasCell heap cell) (sym shown.has.words_are) shown.has in
      let sound = plain_sound shows.shows.whole shown.has shown.shows.of_kind in
      let laid = layout_is shows.shows.whole.sized shown.has sound.shape in
      record {
        cell = cell;
        at = shown.stands;
        has = has;
        carries = shown.carries;
        cap = ap (λ (layout : LayoutWord). layout.cap) laid ∙ ap (λ (p : Path). p.cap) shown.shows.path;
        header_is = header_at cell shown.words shown.has shown.stands;
        shows = subst (λ words. ShowsPlain heap cell words plain.cap plain.fields) (sym shown.has.words_are)
            shown.shows;
      }

  -- its header has the shape of a path
  pub shown_shape : IsPathShape main.paths header.shape
  shown_shape =
      let sound = plain_sound shows.shows.whole shown_cell.has shown_cell.shows.of_kind in
      subst (IsPathShape main.paths) (ap (λ (h : Header). h.shape) shown_cell.header_is) sound.shape

  -- which is that of the object's fields
  pub shown_path : shape_path main.paths header.shape ≡ path_of plain.cap plain.fields
  shown_path =
      ap (λ (h : Header). shape_path main.paths h.shape) (sym shown_cell.header_is) ∙ shown_cell.shows.path

  -- a name that the path has not is no field's
  pub name_is_new : (name : ℕ) → has_name (shape_path main.paths header.shape) name ≡ false
      → field_value plain.fields name ≡ None
  name_is_new name none =
      no_value plain.cap plain.fields name (ap (λ (p : Path). has_name p name) (sym shown_path) ∙ none)

  -- a field of the name is found where the path has one
  pub field_found : (slot name : ℕ)
      → option_map (λ (field : PathField). field.name) (slice_get (shape_path main.paths header.shape).fields slot)
      ≡ Some name
      → FieldFound main object plain header slot name
  field_found slot name found =
      let named = named_at (shape_path main.paths header.shape).fields slot name found in
      let at = field_at plain.cap plain.fields slot named.field
      (ap (λ (p : Path). slice_get p.fields slot) (sym shown_path) ∙ named.there) in
      record {
        has = record {
          cell = shown_cell.cell;
          words = words_of_cell (heap_of main) shown_cell.cell;
          has = shown_cell.has;
          stands = shown_cell.at;
          plain = shown_cell.shows.of_kind;
          of_shape = ap (λ (h : Header). h.shape) shown_cell.header_is;
          below = slice_get_within (shape_path main.paths header.shape).fields slot named.field named.there;
        };
        field = at.field;
        there = at.there;
        named = ap (λ (f : PathField). f.name) at.same ∙ named.named;
      }

-- a field that was found in the shapes is one of the heap's paths
pub found_there : (shapes paths : List Path) (shape slot name : ℕ) → shapes ≡ paths
    → option_map (λ (field : PathField). field.name) (slice_get (shape_path shapes shape).fields slot) ≡ Some name
    → option_map (λ (field : PathField). field.name) (slice_get (shape_path paths shape).fields slot) ≡ Some name
found_there shapes paths shape slot name same found =
    subst (λ (all : List Path). option_map (λ (field : PathField). field.name)
    (slice_get (shape_path all shape).fields slot) ≡ Some name) same found

-- the field that was located has its name among those of the path
pub located_named : (paths : List Path) (found : Located) (shape name : ℕ) → IsLocated paths found → found.shape ≡ shape
    → found.name ≡ name
    → option_map (λ (field : PathField). field.name) (slice_get (shape_path paths shape).fields found.at) ≡ Some name
located_named paths found shape name located of_shape named =
    ap (λ s. option_map (λ (field : PathField). field.name) (slice_get (shape_path paths s).fields found.at))
    (sym of_shape)
    ∙ ap (option_map (λ (field : PathField). field.name)) located.field ∙ ap Some named

-- so it is with its representation
pub located_rep : (paths : List Path) (found : Located) (shape : ℕ) → IsLocated paths found → found.shape ≡ shape
    → option_map (λ (field : PathField). field.rep) (slice_get (shape_path paths shape).fields found.at)
    ≡ Some found.rep
located_rep paths found shape located of_shape =
    ap (λ s. option_map (λ (field : PathField). field.rep) (slice_get (shape_path paths s).fields found.at))
    (sym of_shape)
    ∙ ap (option_map (λ (field : PathField). field.rep)) located.field

-- and its cap is the path's
pub located_cap : (paths : List Path) (found : Located) (shape : ℕ) → IsLocated paths found → found.shape ≡ shape
    → found.cap ≡ (shape_path paths shape).cap
located_cap paths found shape located of_shape = located.cap ∙ ap (λ s. (shape_path paths s).cap) of_shape
