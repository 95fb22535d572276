-- A heap in which a slot of a plain object was filled shows the graph in which the field of this slot has the value.
use Rattle.tagged_word.specs.Headers.{header_bits}
use Rattle.page_space.specs.Extents.{layouts_start}
use Rattle.cell_layout.specs.Cells.{IsRow}
use Rattle.cell_layout.proofs.Rows.{cell_within}
use Rattle.shape_tree.specs.Shapes.{IsShapeOf}
use Rattle.object_graph.specs.Paths.{path_of, with_path}
use Rattle.object_graph.specs.Objects.{with_field, revalued}
use Rattle.object_graph.specs.Graphs.{Graph, PlainObject}
use Rattle.object_graph.specs.Limits.{paths_most}
use Rattle.write_barrier.specs.Seats.{heap_words}
use Rattle.heap_model.specs.Types.{Value, Field, Path, Cell}
use Rattle.heap_model.specs.Heaps.{words_of_cell}
use Rattle.heap_model.specs.Needs.{capacity_at}
use Rattle.heap_model.specs.Showing.{ShowsPlain}
use Rattle.heap_model.proofs.CellsApart.{first_of_cell}
use Rattle.write_barrier.specs.MutatorState.{Mutator, heap_of}
use Rattle.object_cells.specs.SureCells.{RemembersSurely}
use Rattle.object_cells.specs.PlainObjects.{ShowsRefilled}
use Rattle.object_cells.specs.Refills.{AreNewFields}
use Rattle.object_cells.specs.Uses.{TakesRun}
use Rattle.object_cells.specs.Capacities.{ChangesObjectUsing}
use Rattle.object_cells.specs.Contents.{next_at}
use Rattle.object_cells.specs.CellWrites.{reshaped}
use Rattle.object_cells.proofs.OwnerWrites.{plain_owns, written_own_keeps_cells}
use Rattle.object_cells.proofs.OwnCapacities.{one_keeps}
use Rattle.object_cells.proofs.RefilledHeaps.{written_fields_show}
use Rattle.object_cells.proofs.WordsPut.{PutsTwo}
use Rattle.object_cells.proofs.OneWord.{IsReady, writes_two}
use Rattle.object_cells.proofs.NumberedSlots.{NotInHead}
use Rattle.object_cells.proofs.OwnCells.{IsOwnWord, writes_cells, cell_below_layouts}
use Rattle.object_cells.proofs.SlotsNow.{PutsOwn}
use Rattle.object_cells.proofs.OneField.{SetsOne, FillsOne, slots_after, refills_slots}
use Rattle.std.proofs.Common.{◌≡◌, ℕ, ◌+◌, ◌<◌, List, ◌∷◌, Some, set, sym, ◌∙◌, ap, subst}
use Rattle.shape_change.proofs.KeepsOpen.{KeepsIfSure}
use Rattle.shape_change.proofs.Settings.{Setting, fields_are, fields_are_new, slot_is_field}

module _ {old : Mutator} {graph : Graph} {object slot : ℕ} {plain : PlainObject} {what : Value} {name : ℕ}
    (s : Setting old graph object slot plain what name) where
  -- the fields with the one set, and their path
  abbrev fields : List Field
  fields = set plain.fields slot (revalued s.field what)

  -- The object has this shape, which is that of its fields with the one set, and their path was added. An open cycle is
  -- as it has to be, if words were put surely.
  pub record IsNextShape (new : Mutator) (next : ℕ) : Type 0 where
    pub is_shape : IsShapeOf new.paths (path_of plain.cap fields) next
    pub added : with_path (Some paths_most) old.paths (path_of plain.cap fields) ≡ Some new.paths
    pub keeps : KeepsIfSure old new s.cell next

  -- The heap shows the graph with the field, so many words were taken, and each property store has as many slots as
  -- before.
  pub record ShowsSet (new : Mutator) (need : ℕ) : Type 0 where
    pub shows : ShowsRefilled new graph plain (with_field plain.fields name what)
    pub changes : ChangesObjectUsing old new need s.cell.at (capacity_at (heap_of old) s.cell.at)

  module _ {mid new : Mutator} {next need at word : ℕ} (shape : IsNextShape new next) (ready : IsReady old mid need)
    where
      -- a word of the object's own cells was put, and its header, and cells were made
      pub sets_one : (others made : List Cell) → IsOwnWord (heap_of old) s.cell others at
          → NotInHead s.cell at → at < layouts_start old.seat.space
          → PutsTwo mid new s.cell.at (header_bits (record s.cell.header { shape = next })) at word
          → IsRow new.seat.space (heap_words new.seat) (next_at old) (next_at old + need) made
          → SetsOne (heap_of old) (heap_of new) s.cell next at word slot others made plain.fields
          (revalued s.field what)
      sets_one others made own not_head below puts row =
          let whole = s.shows.shows.whole in
          let cap = ap (λ (p : Path). p.cap) shape.is_shape.of_path ∙ sym s.cap in
          let one = writes_two s.cell.at (header_bits (record s.cell.header { shape = next })) at word need made
          s.shows.tied whole.rows ready (cell_below_layouts whole s.has (first_of_cell s.has)) below puts row in
          let writes = writes_cells s.cell next at word others made whole s.has s.shown.of_kind shape.is_shape.is_shape
          cap own one in
          let puts_own : PutsOwn (heap_of old) (heap_of new) s.cell next at word others made = record {
            whole = whole;
            has = s.has;
            plain = s.shown.of_kind;
            one = one;
            writes = writes;
            cells = (written_own_keeps_cells plain_owns whole writes).1;
            not_head = not_head;
          } in
          record {
            puts = puts_own;
            shown = s.shown;
            after = slots_after puts_own s.shown.has;
            path = shape.is_shape.of_path ∙ ap (λ n. path_of n fields) (sym s.cap);
            there = slot_is_field s;
          }

      -- so the heap shows the graph with the field
      pub field_shown : {others made : List Cell} {head : ℕ} → PutsTwo mid new s.cell.at head at word
          → (sets : SetsOne (heap_of old) (heap_of new) s.cell next at word slot others made plain.fields
          (revalued s.field what)) → FillsOne sets
          → IsRow new.seat.space (heap_words new.seat) (next_at old) (next_at old + need) made
          → RemembersSurely old new (s.cell ∷ others) (reshaped new.paths s.cell next ∷ others) made → ShowsSet new need
      field_shown {others} {made} puts sets fills row remembers =
          let heap = heap_of old in
          let same : with_field plain.fields name what ≡ fields = fields_are s in
          let new_fields = subst (AreNewFields graph) same (fields_are_new s) in
          let shown = subst (λ n. ShowsPlain heap s.cell (words_of_cell heap s.cell) n plain.fields) s.cap s.shown in
          let added =
          ap (λ paths. with_path (Some paths_most) paths (path_of plain.cap fields)) (sym s.shows.shows.paths)
          ∙ shape.added in
          let takes : TakesRun old new made = record {
            space = puts.beside.space ∙ ready.space;
            phase = puts.beside.phase ∙ ready.phase;
            need = need;
            room = ready.room;
            young = puts.young ∙ ready.young;
            within = λ cell among.
                cell_within new.seat.space (heap_words new.seat) (next_at old) (next_at old + need) made cell row among;
          } in
          record {
            shows = subst (ShowsRefilled new graph plain) (sym same)
                (written_fields_show old new graph plain s.cell next others made fields s.shows s.is.object
                s.is.reached s.carries s.cap shown new_fields added takes sets.puts.writes (refills_slots sets fills)
                remembers.remembers (shape.keeps others made sets.puts.writes remembers));
            changes = one_keeps sets.puts row fills.belong fills.kinds sets.shown.has.slot
                (λ other among is. (fills.stores other among is).1);
          }
