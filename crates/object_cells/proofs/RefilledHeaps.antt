-- Where words of a plain object's own cells were written and its slots show other fields, the change of cells is its
-- own, and the heap shows the graph in which the object has these fields.
use Rattle.std.proofs.Common.{◌≡◌, ℕ, List, ◌∷◌, Some, slice_get, IsTrue, inl, refl, sym, ◌∙◌, ap, subst}
use Rattle.tagged_word.specs.declared.layout.Kind.TheVariants as kind
use Rattle.tagged_word.specs.Cells.{is_object_kind}
use Rattle.tagged_word.proofs.Members.{first_in}
use Rattle.heap_model.specs.Types.{Cell}
use Rattle.object_graph.specs.declared.object.Object.TheVariants.{Plain}
use Rattle.object_graph.specs.Graphs.{Graph, PlainObject}
use Rattle.object_graph.specs.Meaning.{refill}
use Rattle.object_graph.specs.Reach.{is_marked, reach}
use Rattle.heap_model.specs.Heaps.{HasCell, words_of_cell}
use Rattle.heap_model.specs.Slots.{IsPlace}
use Rattle.heap_model.specs.Showing.{ShowsPlain, ShowsProto}
use Rattle.heap_model.proofs.CellsApart.{one_at}
use Rattle.write_barrier.specs.MutatorState.{Mutator, heap_of, MainShows}
use Rattle.object_cells.specs.CellWrites.{reshaped}
use Rattle.object_cells.specs.Refills.{RestsAgain}
use Rattle.object_cells.specs.SlotChanges.{SlotsRefill, WrittenFieldsShow}
use Rattle.object_cells.proofs.ReplacedObjects.{rests_again, stays_reached}
use Rattle.object_cells.proofs.Refills.{refills_show}
use Rattle.object_cells.proofs.OwnerWrites.{plain_owns, written_own_keeps_cells}
use Rattle.object_cells.proofs.OwnSteps.{OwnStep, own_step, went_object, of_kind_is_no_object}
use Rattle.object_cells.proofs.RefilledFields.{fields_rename, cell_shows, proto_shown}
use Rattle.object_cells.proofs.RefilledCells.{fields_sound}
use Rattle.object_cells.proofs.OwnNames.{renamed_own}
use Rattle.object_cells.proofs.OwnersKeep.{own_cells_keep_cycle}

-- the change of cells is the object's own, and its cell shows the fields
pub slots_refill : SlotsRefill
slots_refill old new plain cell shape others made fields whole carries cap shows leads writes slots =
    let one : Cell = reshaped new.paths cell shape in
    let step : OwnStep old new cell one others others made = own_step plain_owns whole writes in
    let shown = subst (λ n. ShowsPlain old cell (words_of_cell old cell) n plain.fields) (sym cap) shows in
    record {
      cells = step.cells;
      own = renamed_own (fields_rename whole shown writes slots) (fields_sound whole shown writes slots);
      only = λ other there object. ap (λ (c : Cell). c.header.object) (sym (went_object step other there object))
          ∙ carries;
      no_object = λ other there. of_kind_is_no_object plain_owns whole writes other (slots.refills.kinds other there);
      cell = one;
      among = first_in one others;
      carries = carries;
      shows = subst (λ n. ShowsPlain new one (words_of_cell new one) n fields) cap
          (cell_shows whole shown writes slots);
      leads = proto_shown whole shown writes slots plain.proto leads;
    }

-- the cell of a plain object that can be reached shows its prototype
proto_there : {main : Mutator} {graph : Graph} {plain : PlainObject} {cell : Cell} {words : List ℕ}
    → MainShows main graph → slice_get graph.objects plain.number ≡ Some (Plain plain.cap plain.proto plain.fields)
    → IsTrue (is_marked (reach graph) plain.number) → cell.header.object ≡ plain.number
    → HasCell (heap_of main) cell words → cell.layout.kind ≡ kind.Plain
    → ShowsProto (heap_of main) (words_of_cell (heap_of main) cell) plain.proto
proto_there {main} {plain = plain} {cell} {words} shows there marked carries has of_kind =
    let shown = shows.shows.reached plain.number (Plain plain.cap plain.proto plain.fields) there marked in
    let place : IsPlace (heap_of main) plain.number cell.at = record {
      cell = cell;
      words = words;
      has = has;
      stands = refl;
      object = ap is_object_kind of_kind;
      carries = carries;
    } in
    let same : shown.cell ≡ cell = one_at shown.has has (sym (shown.once cell.at place)) in
    let words_are : shown.words ≡ words_of_cell (heap_of main) cell =
    sym shown.has.words_are ∙ ap (λ (c : Cell). words_of_cell (heap_of main) c) same in
    subst (λ all. ShowsProto (heap_of main) all plain.proto) words_are shown.shows.1

-- so the heap shows the graph in which it has them
pub written_fields_show : WrittenFieldsShow
written_fields_show old new graph plain cell shape others made fields shows there marked carries cap shown are added
    takes writes slots remembers keeps =
    let whole = shows.shows.whole in
    let kept = written_own_keeps_cells plain_owns whole writes in
    let gone : List Cell = cell ∷ others in
    let came : List Cell = reshaped new.paths cell shape ∷ others in
    let rest : RestsAgain old new made =
    rests_again gone came made shows takes writes.sized kept.0 kept.1 remembers in
    let refills =
    slots_refill (heap_of old) (heap_of new) plain cell shape others made fields whole carries cap shown
    (proto_there shows there marked carries writes.stood writes.of_kind) writes slots in
    refills_show old new graph plain fields gone came made shows there marked are added rest refills
    (own_cells_keep_cycle (refill graph plain fields new.paths) (inl refl) plain_owns shows writes slots.refills
    refills.own takes (subst (λ n. IsTrue (is_marked (reach (refill graph plain fields new.paths)) n)) (sym carries)
    (stays_reached graph plain.number (Plain plain.cap plain.proto fields) new.paths marked)) keeps)
