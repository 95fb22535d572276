-- Plain objects by their addresses: their cells, and the slots of their fields.
use Rattle.std.proofs.Common.{◌≡◌, ◌≤◌, ℕ, Bool, List, length, Some, slice_get, sym, ◌∙◌, ap, subst, arith, nat_lt}
use Rattle.std.specs.List.{IsDistinct}
use Rattle.std.specs.Prelude.{map, ◌==◌}
use Rattle.tagged_word.specs.declared.layout.Kind.TheVariants as kind
use Rattle.heap_model.specs.Types.{LayoutWord, PathField, Field, Cell}
use Rattle.object_graph.specs.declared.object.Object.TheVariants.{Plain}
use Rattle.object_graph.specs.Graphs.{Graph, PlainObject}
use Rattle.object_graph.specs.Invariants.{IsObject}
use Rattle.shape_tree.specs.Shapes.{shape_path}
use Rattle.heap_model.specs.Heaps.{Heap, HasCell}
use Rattle.heap_model.specs.Slots.{IsFieldWord, hole_word}
use Rattle.heap_model.specs.Kinds.{HasWord, IsPlainCell, IsSoundOf}
use Rattle.heap_model.specs.Wholeness.{Whole}
use Rattle.heap_model.specs.Showing.{ShowsPlain}
use Rattle.heap_model.proofs.CellsApart.{one_at}
use Rattle.heap_model.proofs.PathLayouts.{layout_is}
use Rattle.heap_model.proofs.SlotWords.{All-slice_get}
use Rattle.write_barrier.specs.MutatorState.{Mutator, heap_of, MainShows}
use Rattle.object_cells.specs.PlainObjects.{IsPlainAt}
use Rattle.object_cells.proofs.FieldsFound.{path_long}
use Rattle.heap_model.proofs.OneBeside.{one_slots}
use Rattle.object_cells.specs.CellsAt.{HasPlainSlot, HasField, IsCapAt}

-- a plain cell of a whole heap is sound
pub plain_sound : {heap : Heap} {cell : Cell} {words : List ℕ} → Whole heap → HasCell heap cell words
    → cell.layout.kind ≡ kind.Plain → IsPlainCell heap cell words
plain_sound {heap} {cell} {words} whole has plain =
    subst (λ k. IsSoundOf k heap cell words) plain (whole.sound cell words has)

-- What the slots of an object that shows these fields hold: there are enough for these, and holes behind them.
pub record SlotsHeld (fields : List Field) (slots : List ℕ) : Type 0 where
  pub room : length fields ≤ length slots
  pub rest : (at word : ℕ) → length fields ≤ at → HasWord slots at word → word ≡ hole_word

-- so they do
pub slots_held : {heap : Heap} {cell : Cell} {words : List ℕ} {cap : ℕ} {fields : List Field} → Whole heap
    → HasCell heap cell words → (shows : ShowsPlain heap cell words cap fields) → SlotsHeld fields shows.slots
slots_held {fields = fields} whole has shows =
    let sound = plain_sound whole has shows.of_kind in
    let same = one_slots sound.has shows.has in
    let long = path_long fields shows.path in
    record {
      room = omega (arith, sound.hold.room, long, ap length same);
      rest = λ at word from stands.
          sound.hold.rest at word (omega (arith, from, long)) (ap (λ all. slice_get all at) same ∙ stands);
    }

-- a field has a slot
pub field_slot_there : {heap : Heap} {at shape slot : ℕ} → Whole heap → HasField heap at shape slot
    → HasPlainSlot heap at slot
field_slot_there {heap} {slot = slot} whole there =
    let sound = plain_sound whole there.has there.plain in
    let long = ap (λ shape. length (shape_path heap.paths shape).fields) there.of_shape in
    record {
      cell = there.cell;
      words = there.words;
      has = there.has;
      stands = there.stands;
      plain = there.plain;
      slots = sound.slots;
      are = sound.has;
      below = omega (arith, sound.hold.room, there.below, long);
    }

-- the cell at the address has this shape
pub shape_there : {heap : Heap} {at shape slot : ℕ} {cell : Cell} {words : List ℕ} → HasField heap at shape slot
    → HasCell heap cell words → cell.at ≡ at → cell.header.shape ≡ shape
shape_there {cell = cell} there has stands =
    let same : cell ≡ there.cell = one_at has there.has (stands ∙ sym there.stands) in
    ap (λ (one : Cell). one.header.shape) same ∙ there.of_shape

-- and as many in-object slots as its path
pub cap_there : {heap : Heap} {at shape slot : ℕ} (cap : ℕ) → Whole heap → HasField heap at shape slot
    → cap ≡ (shape_path heap.paths shape).cap → IsCapAt heap at cap
cap_there {heap} cap whole there is cell words has stands =
    let same : cell ≡ there.cell = one_at has there.has (stands ∙ sym there.stands) in
    let sound = plain_sound whole there.has there.plain in
    ap (λ (one : Cell). one.layout.cap) same
    ∙ ap (λ (layout : LayoutWord). layout.cap) (layout_is whole.sized there.has sound.shape)
    ∙ ap (λ shape. (shape_path heap.paths shape).cap) there.of_shape ∙ sym is

-- the word of a field's slot is one of its representation
pub field_word_there : {heap : Heap} {at shape slot : ℕ} (whole : Whole heap) (there : HasField heap at shape slot)
    (own : Bool)
    (field : PathField) (word : ℕ) → own ≡ nat_lt slot (shape_path heap.paths shape).cap
    → slice_get (shape_path heap.paths shape).fields slot ≡ Some field
    → HasWord (field_slot_there whole there).slots slot word → IsFieldWord heap own field.rep word
unfolding plain_sound field_slot_there
field_word_there {heap} {slot = slot} whole there own field word is of_path stands =
    let sound = plain_sound whole there.has there.plain in
    let back = sym there.of_shape in
    let among : slice_get (shape_path heap.paths there.cell.header.shape).fields slot ≡ Some field =
    ap (λ shape. slice_get (shape_path heap.paths shape).fields slot) there.of_shape ∙ of_path in
    subst (λ one. IsFieldWord heap one field.rep word)
    (ap (λ shape. nat_lt slot (shape_path heap.paths shape).cap) there.of_shape ∙ sym is)
    (sound.hold.each slot field word among stands)

-- the plain object's cell stands at the address and shows it
pub record PlainShown (heap : Heap) (at : ℕ) (plain : PlainObject) : Type 0 where
  pub cell : Cell
  pub words : List ℕ
  pub has : HasCell heap cell words
  pub stands : cell.at ≡ at
  pub carries : cell.header.object ≡ plain.number
  pub shows : ShowsPlain heap cell words plain.cap plain.fields

-- so it is where a graph with the object is shown
pub plain_shown : {main : Mutator} {graph : Graph} {at : ℕ} {plain : PlainObject} → MainShows main graph
    → IsPlainAt main graph at plain → PlainShown (heap_of main) at plain
plain_shown {at = at} {plain} shows is =
    let shown = shows.shows.reached plain.number (Plain plain.cap plain.proto plain.fields) is.object is.reached in
    record {
      cell = shown.cell;
      words = shown.words;
      has = shown.has;
      stands = sym (shown.once at is.place);
      carries = shown.carries;
      shows = shown.shows.0;
    }

-- no name of its fields stands twice
pub names_distinct : {main : Mutator} {graph : Graph} {at : ℕ} {plain : PlainObject} → MainShows main graph
    → IsPlainAt main graph at plain → IsDistinct ◌==◌ (map (λ (field : Field). field.name) plain.fields)
names_distinct {graph = graph} {plain = plain} shows is =
    (All-slice_get (IsObject (length graph.objects)) graph.objects plain.number
    (Plain plain.cap plain.proto plain.fields) shows.is_graph.made is.object).are.distinct

-- the heap is whole
pub shown_whole : {main : Mutator} {graph : Graph} → MainShows main graph → Whole (heap_of main)
shown_whole shows = shows.shows.whole
