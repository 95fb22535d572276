-- A field that comes to a slot that the object had: the words that are put are those of its own cells, and it is added.
use Rattle.std.proofs.Common.{◌≡◌, ℕ, ◌+◌, ◌<◌, List, [], ◌∷◌, ◌++◌, length, sym, ◌∙◌, ap, subst}
use Rattle.heap_model.specs.Types.{Header, Value, Field, Path, Cell, Held}
use Rattle.object_graph.specs.Paths.{path_of}
use Rattle.object_graph.specs.Graphs.{Graph, PlainObject}
use Rattle.shape_tree.specs.Shapes.{IsPathShape, shape_path}
use Rattle.cell_layout.specs.Cells.{IsRow}
use Rattle.write_barrier.specs.Seats.{heap_words}
use Rattle.heap_model.specs.Heaps.{Heap, words_of_cell}
use Rattle.write_barrier.specs.MutatorState.{Mutator, heap_of}
use Rattle.object_cells.specs.SlotChanges.{WritesFields}
use Rattle.object_cells.specs.Contents.{next_at}
use Rattle.shape_change.specs.Additions.{added_path}
use Rattle.object_cells.proofs.OwnerWrites.{plain_owns, written_own_keeps_cells}
use Rattle.object_cells.proofs.NumberedSlots.{IsNumbered, number_not_in_head}
use Rattle.object_cells.proofs.OwnCells.{writes_cells}
use Rattle.object_cells.proofs.OwnPlaces.{slot_place}
use Rattle.shape_change.proofs.AddedFields.{new_field}
use Rattle.shape_change.proofs.AddedWords.{PutsOver, over_writes_one}
use Rattle.shape_change.proofs.AddedShown.{Adding}
use Rattle.shape_change.proofs.OneAdded.{AddsOne}

-- the path that was added is that of the fields with this one
pub path_after : {old mid new : Mutator} {graph : Graph} {plain : PlainObject} {object : ℕ} {header : Header} {name : ℕ}
    {value : Held} {what : Value} {next at word need : ℕ} {words : List ℕ}
    (known : Adding old graph plain object header name value what)
    → PutsOver old mid new (added_path old.paths header.shape name value) known.cell next at word need words
    → shape_path new.paths next ≡ path_of known.cell.layout.cap (plain.fields ++ new_field name what ∷ [])
path_after {next = next} known over =
    ap (λ (paths : List Path). shape_path paths next) over.puts.paths ∙ over.adds.leads.shape_is.of_path ∙ known.path

-- and its shape is one
pub shape_after : {old mid new : Mutator} {path : Path} {cell : Cell} {next at word need : ℕ} {words : List ℕ}
    → PutsOver old mid new path cell next at word need words → IsPathShape new.paths next
shape_after {next = next} over =
    subst (λ (paths : List Path). IsPathShape paths next) (sym over.puts.paths) over.adds.leads.shape_is.is_shape

-- The words that were put are those of the object's own cells, and the field is added with one of them.
pub record OneAdding (old new : Heap) (cell : Cell) (next at word : ℕ) (made : List Cell) (fields : List Field)
    (field : Field) : Type 0 where
  pub others : List Cell
  pub writes : WritesFields old new cell next others made
  pub adds : AddsOne old new cell next at word others made fields field

-- so it is where the word was put in the slot behind those of the fields
pub one_adding : {old mid new : Mutator} {graph : Graph} {plain : PlainObject} {object : ℕ} {header : Header} {name : ℕ}
    {value : Held} {what : Value} {next at word need : ℕ} {words : List ℕ} (made : List Cell)
    (known : Adding old graph plain object header name value what)
    → PutsOver old mid new (added_path old.paths header.shape name value) known.cell next at word need words
    → IsRow new.seat.space (heap_words new.seat) (next_at old) (next_at old + need) made
    → IsNumbered (heap_of old) known.cell (words_of_cell (heap_of old) known.cell) (length plain.fields) at
    → length plain.fields < length known.sound.slots
    → OneAdding (heap_of old) (heap_of new) known.cell next at word made plain.fields (new_field name what)
one_adding {old} {mid} {new} {plain = plain} {header = header} {name} {value} {what} {next} {at} {word} {need} {words}
    made known
    over row numbered there =
    let before : Heap = heap_of old in
    let after : Heap = heap_of new in
    let cell : Cell = known.cell in
    let whole = known.shows.shows.whole in
    let kind = known.shown.of_kind in
    let one = over_writes_one made whole over row in
    let path = path_after known over in
    let place = slot_place (length plain.fields) at whole known.has kind known.sound.has numbered in
    let writes = writes_cells cell next at word place.0 made whole known.has kind (shape_after over)
    (ap (λ (p : Path). p.cap) path) place.1.own one in
    record {
      others = place.0;
      writes = writes;
      adds = record {
        puts = record {
          whole = whole;
          has = known.has;
          plain = kind;
          one = one;
          writes = writes;
          cells = (written_own_keeps_cells plain_owns whole writes).1;
          not_head = number_not_in_head (length plain.fields) at whole.rows known.has kind numbered;
        };
        sound = known.sound;
        was = known.was;
        path = path;
        there = there;
        numbered = numbered;
        place = place.1;
      };
    }
