-- A heap to whose plain object a field of a new name came shows the graph in which the object has it.
use Rattle.std.proofs.Common.{◌≡◌, ℕ, ◌+◌, List, [], ◌∷◌, ◌++◌, length, Some, None, sym, ◌∙◌, ap, subst, arith}
use Rattle.heap_model.specs.Types.{Header, Value, Field, Path, Cell, Held}
use Rattle.object_graph.specs.Objects.{field_value, with_field}
use Rattle.object_graph.specs.Paths.{path_of, with_path}
use Rattle.object_graph.specs.Graphs.{Graph, PlainObject}
use Rattle.object_graph.specs.Invariants.{IsValue}
use Rattle.object_graph.specs.Limits.{paths_most}
use Rattle.nursery.specs.Young.{HasRoom}
use Rattle.cell_layout.specs.Cells.{IsRow}
use Rattle.write_barrier.specs.Seats.{heap_words}
use Rattle.write_barrier.specs.Staying.{rest_stays_again}
use Rattle.shape_tree.specs.Shapes.{shape_path, stepped}
use Rattle.heap_model.specs.Heaps.{HasCell, words_of_cell}
use Rattle.heap_model.specs.Kinds.{IsPlainCell}
use Rattle.heap_model.specs.Showing.{ShowsPlain}
use Rattle.heap_model.proofs.CellsApart.{one_at}
use Rattle.write_barrier.specs.MutatorState.{Mutator, heap_of, MainShows, reserved}
use Rattle.object_cells.specs.SureCells.{RemembersSurely}
use Rattle.write_barrier.specs.Storing.{StoresOn}
use Rattle.shape_change.proofs.KeepsOpen.{stored_keeps}
use Rattle.object_cells.specs.PlainObjects.{IsPlainAt, LacksFields, ShowsRefilled}
use Rattle.object_cells.specs.HeldValues.{IsValueHeld}
use Rattle.object_cells.specs.Refills.{AreNewFields}
use Rattle.object_cells.specs.SlotChanges.{WritesFields}
use Rattle.object_cells.specs.Contents.{held_rep, next_at}
use Rattle.shape_change.specs.Additions.{CanAdd, AddsPath, added_path, count_of}
use Rattle.object_cells.specs.Made.{PutsWords}
use Rattle.object_cells.specs.CellWrites.{reshaped}
use Rattle.object_cells.proofs.PlainFields.{plain_sound, plain_shown}
use Rattle.object_cells.proofs.FieldsFound.{path_long}
use Rattle.object_cells.proofs.NewFields.{written_fields_are_new}
use Rattle.shape_change.proofs.FullStores.{cap_is}
use Rattle.object_cells.proofs.OwnPlaces.{has_own_words}
use Rattle.object_cells.proofs.HeldContents.{held_rep_is}
use Rattle.shape_change.proofs.AddedFields.{new_field, with_field-new, path_of-push}
use Rattle.shape_change.proofs.AddedSlots.{AddsSlot, added_refills}
use Rattle.object_cells.proofs.RefilledHeaps.{written_fields_show}
use Rattle.object_cells.proofs.TakenRuns.{takes_run}

-- What is known of a plain object of a graph to which a field of a new name may come: its cell, its fields, their
-- path, and that with the field.
pub record Adding (old : Mutator) (graph : Graph) (plain : PlainObject) (object : ℕ) (header : Header) (name : ℕ)
    (value : Held) (what : Value) : Type 0 where
  pub can : CanAdd old object header name value
  pub shows : MainShows old graph
  pub is : IsPlainAt old graph object plain
  pub held : IsValueHeld old graph value what
  pub fits : IsValue (length graph.objects) what
  pub fresh : field_value plain.fields name ≡ None
  pub cell : Cell
  pub has : HasCell (heap_of old) cell (words_of_cell (heap_of old) cell)
  pub stands : cell.at ≡ object
  pub headed : cell.header ≡ header
  pub carries : cell.header.object ≡ plain.number
  pub shown : ShowsPlain (heap_of old) cell (words_of_cell (heap_of old) cell) plain.cap plain.fields
  pub sound : IsPlainCell (heap_of old) cell (words_of_cell (heap_of old) cell)
  pub caps : cell.layout.cap ≡ plain.cap
  pub was : shape_path old.paths cell.header.shape ≡ path_of cell.layout.cap plain.fields
  pub count : count_of old.paths header.shape ≡ length plain.fields
  pub cap : (shape_path old.paths header.shape).cap ≡ cell.layout.cap
  pub path : added_path old.paths header.shape name value
      ≡ path_of cell.layout.cap (plain.fields ++ new_field name what ∷ [])

module _ {old : Mutator} {graph : Graph} {plain : PlainObject} {object : ℕ} {header : Header} {name : ℕ} {value : Held}
    {what : Value} where
  -- so it is known
  pub adding : CanAdd old object header name value → MainShows old graph → IsPlainAt old graph object plain
      → IsValueHeld old graph value what → IsValue (length graph.objects) what → field_value plain.fields name ≡ None
      → Adding old graph plain object header name value what
  adding can shows is held fits fresh =
      let one = plain_shown shows is in
      let whole = shows.shows.whole in
      let cell : Cell = one.cell in
      let has = has_own_words one.has in
      let shown : ShowsPlain (heap_of old) cell (words_of_cell (heap_of old) cell) plain.cap plain.fields =
      subst (λ words. ShowsPlain (heap_of old) cell words plain.cap plain.fields) (sym one.has.words_are) one.shows in
      let sound = plain_sound whole has shown.of_kind in
      let headed : cell.header ≡ header =
      ap (λ (c : Cell). c.header) (one_at one.has can.there.has (one.stands ∙ sym can.there.stands)) ∙ can.headed in
      let shape = ap (λ (h : Header). h.shape) headed in
      let caps : cell.layout.cap ≡ plain.cap =
      cap_is whole.sized has sound.shape ∙ ap (λ (p : Path). p.cap) shown.path in
      let was : shape_path old.paths cell.header.shape ≡ path_of cell.layout.cap plain.fields =
      shown.path ∙ ap (λ c. path_of c plain.fields) (sym caps) in
      let here : shape_path old.paths header.shape ≡ path_of cell.layout.cap plain.fields =
      ap (shape_path old.paths) (sym shape) ∙ was in
      record {
        can = can;
        shows = shows;
        is = is;
        held = held;
        fits = fits;
        fresh = fresh;
        cell = cell;
        has = has;
        stands = one.stands;
        headed = headed;
        carries = one.carries;
        shown = shown;
        sound = sound;
        caps = caps;
        was = was;
        count = path_long plain.fields here;
        cap = ap (λ (p : Path). p.cap) here;
        path = ap (λ (p : Path). stepped p name (held_rep value)) here
            ∙ ap (stepped (path_of cell.layout.cap plain.fields) name) (held_rep_is value what held.shows)
            ∙ sym (path_of-push cell.layout.cap plain.fields (new_field name what));
      }

  -- the object has not as many fields as it may have
  pub lacks_none : Adding old graph plain object header name value what → LacksFields plain name → ⊥
  lacks_none adds lacks = omega (arith, adds.can.few, adds.count, lacks.full)

  -- a heap in which its slots hold the fields with this one shows the graph in which it has these
  pub added_shows : {mid new : Mutator} {next : ℕ} {words : List ℕ} {others made : List Cell} (need : ℕ)
      (known : Adding old graph plain object header name value what) → HasRoom old.young need
      → AddsPath (reserved old need) mid (added_path old.paths header.shape name value) next → PutsWords mid new words
      → IsRow new.seat.space (heap_words new.seat) (next_at old) (next_at old + need) made
      → WritesFields (heap_of old) (heap_of new) known.cell next others made
      → AddsSlot (heap_of old) (heap_of new) known.cell next others made plain.fields (new_field name what)
      → RemembersSurely old new (known.cell ∷ others) (reshaped new.paths known.cell next ∷ others) made
      → StoresOn old new → ShowsRefilled new graph plain (with_field plain.fields name what)
  added_shows {mid} {new} {next} {others = others} {made} need known room path puts row writes adds remembers stores =
      let fields : List Field = plain.fields ++ new_field name what ∷ [] in
      let with : with_field plain.fields name what ≡ fields = with_field-new plain.fields name what known.fresh in
      let are = written_fields_are_new graph plain name what known.shows.is_graph known.is.object known.is.reached
      (lacks_none known) known.fits known.held.reached in
      let of_path : path_of plain.cap fields ≡ added_path old.paths header.shape name value =
      ap (λ c. path_of c fields) (sym known.caps) ∙ sym known.path in
      let added : with_path (Some paths_most) graph.paths (path_of plain.cap fields) ≡ Some new.paths =
      ap (λ paths. with_path (Some paths_most) paths (path_of plain.cap fields)) (sym known.shows.shows.paths)
      ∙ ap (with_path (Some paths_most) old.paths) of_path ∙ path.leads.added
      ∙ ap (λ paths. Some paths) (sym puts.paths) in
      let beside = rest_stays_again old.seat mid.seat new.seat path.beside puts.beside in
      subst (ShowsRefilled new graph plain) (sym with)
      (written_fields_show old new graph plain known.cell next others made fields known.shows known.is.object
      known.is.reached known.carries known.caps known.shown (subst (AreNewFields graph) with are) added
      (takes_run need beside room (puts.young ∙ path.young) row) writes (added_refills adds)
      remembers.remembers (stored_keeps known.shows stores others made writes remembers))
