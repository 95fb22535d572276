-- The ways to fill the slot of a field that is set: with a tagged word, a raw one, or a box that is made.
use Rattle.std.proofs.Common.{◌≡◌, ℕ, ◌+◌, ◌<◌, List, [], length, Some, slice_get, set, nat_lt, true, refl, sym}
use Rattle.std.proofs.Common.{◌∙◌, ap, subst, arith}
use Rattle.std.proofs.lemmas.Bool.Decides.{nat_tests}
use Rattle.std.proofs.lemmas.Option.{same_Some}
use Rattle.tagged_word.specs.Headers.{header_bits}
use Rattle.page_space.specs.Extents.{Space, layouts_start, marks_start}
use Rattle.page_space.proofs.Starts.{marks_start_is}
use Rattle.cell_layout.specs.Cells.{IsRow}
use Rattle.shape_tree.specs.Shapes.{shape_path}
use Rattle.object_graph.specs.declared.value.Rep.TheVariants as rep
use Rattle.object_graph.specs.Objects.{revalued}
use Rattle.object_graph.specs.Graphs.{Graph, PlainObject}
use Rattle.object_graph.proofs.Lists.{slice_get-set_same}
use Rattle.write_barrier.specs.Seats.{heap_words}
use Rattle.heap_model.specs.Types.{Word, Value, Field, Path, PathField, Cell}
use Rattle.heap_model.specs.Heaps.{Heap, words_of_cell}
use Rattle.heap_model.specs.Showing.{ShowsField}
use Rattle.heap_model.specs.Remembered.{Touch}
use Rattle.heap_model.proofs.BoundHeaps.{none_in}
use Rattle.heap_model.proofs.CellsApart.{first_of_cell}
use Rattle.write_barrier.specs.MutatorState.{Mutator, heap_of}
use Rattle.write_barrier.specs.Recording.{touched_one}
use Rattle.object_cells.specs.declared.content.SlotContent.TheVariants as content
use Rattle.object_cells.specs.Contents.{next_at}
use Rattle.object_cells.specs.CellWrites.{reshaped}
use Rattle.object_cells.specs.OwnSlots.{ComesFrom}
use Rattle.object_cells.specs.SlotChanges.{IsTaggedSlot, HasTagged}
use Rattle.object_cells.specs.declared.content.SlotContent.{SlotContent}
use Rattle.object_cells.specs.Made.{slot_touch}
use Rattle.object_cells.proofs.FieldWords.{path_field, tagged_is_field}
use Rattle.object_cells.proofs.HeldContents.{HoldsValue}
use Rattle.object_cells.proofs.NumberedSlots.{IsNumbered, number_not_in_head}
use Rattle.object_cells.proofs.OneWord.{IsReady}
use Rattle.object_cells.proofs.OneField.{SetsOne}
use Rattle.object_cells.proofs.OwnPlaces.{IsSlotPlace, slot_place}
use Rattle.object_cells.proofs.OwnCells.{cell_below_layouts}
use Rattle.object_cells.proofs.MadeBoxes.{row_of_none}
use Rattle.object_cells.proofs.SlotsNow.{IsSlotAddress, numbered_address}
use Rattle.object_cells.proofs.OwnSteps.{written_places_stay}
use Rattle.object_cells.proofs.OwnerWrites.{plain_owns, becomes_cap}
use Rattle.object_cells.proofs.WordsPut.{PutsWord, PutsTwo, HasHead, puts_two}
use Rattle.shape_change.specs.Shifts.{field_touch}
use Rattle.shape_change.proofs.ContentsShown.{word_shows, raw_shows}
use Rattle.shape_change.proofs.FilledSlots.{AreBoxes, fills_slot}
use Rattle.shape_change.proofs.SetFields.{IsNextShape, ShowsSet, sets_one, field_shown}
use Rattle.shape_change.proofs.FieldsAlike.{set_alike}
use Rattle.shape_change.proofs.TouchedSlots.{content_touches, set_refields, slot_remembered}
use Rattle.shape_change.proofs.RunTouches.{TouchesWith, TouchesSurely, touches_alone}
use Rattle.shape_change.proofs.Settings.{Setting, slot_is_field}

-- an address before the layout words is before the marks
pub before_marks : {old mid : Mutator} {need : ℕ} (a : ℕ) → IsReady old mid need → a < layouts_start old.seat.space
    → a < marks_start mid.seat.space
before_marks {old} a ready below =
    subst (λ (space : Space). a < marks_start space) (sym ready.space)
    (omega (arith, below, marks_start_is old.seat.space))

-- What is owed of the word that was put: the cells that were made are boxes, where the word comes from, and that it
-- shows the field.
pub record ShowsPut {old new : Heap} {cell : Cell} {shape at word slot : ℕ} {others made : List Cell}
    {before : List Field}
    {field : Field} (sets : SetsOne old new cell shape at word slot others made before field) : Type 0 where
  pub boxes : AreBoxes new made
  pub comes : IsTaggedSlot (reshaped new.paths cell shape) slot
      → ComesFrom new (HasTagged cell sets.shown.slots) made slot slot slot word
  pub shows : ShowsField new (nat_lt slot cell.layout.cap) word field.rep field.value

-- no wide field that stands in the object is in a tagged slot
raw_not_tagged : {old new : Heap} {cell : Cell} {shape at word slot : ℕ} {others made : List Cell} {before : List Field}
    {field : Field} (sets : SetsOne old new cell shape at word slot others made before field)
    → nat_lt slot cell.layout.cap ≡ true → field.rep ≡ rep.Wide
    → IsTaggedSlot (reshaped new.paths cell shape) slot → ⊥
raw_not_tagged {new = new} {cell} {shape} {slot = slot} {before = before} {field} sets own wide tagged =
    let path : Path = shape_path new.paths shape in
    let within : slot < path.cap = grind (arith, nat_tests, own, becomes_cap sets.puts.writes.becomes) in
    let of_path = tagged_is_field (reshaped new.paths cell shape) path slot refl tagged within in
    let there : slice_get path.fields slot ≡ Some (record { name = field.name; rep = field.rep }) =
    ap (λ (p : Path). slice_get p.fields slot) sets.path
    ∙ path_field cell.layout.cap (set before slot field) slot field (slice_get-set_same before slot field sets.there) in
    of_path.apart (ap (λ (f : PathField). f.rep) (same_Some of_path.field _ (sym of_path.there ∙ there)) ∙ wide)

module _ {old : Mutator} {graph : Graph} {object slot : ℕ} {plain : PlainObject} {what : Value} {name : ℕ}
    (s : Setting old graph object slot plain what name) where
  -- the header of the object of another shape
  abbrev pub next_head : ℕ → ℕ
  next_head next = header_bits (record s.cell.header { shape = next })

  -- it stands before the layout words
  pub head_below : s.cell.at < layouts_start old.seat.space
  head_below = cell_below_layouts s.shows.shows.whole s.has (first_of_cell s.has)

  module _ (at : ℕ) (numbered : IsNumbered (heap_of old) s.cell (words_of_cell (heap_of old) s.cell) slot at) where
    -- so does the slot of the field, and apart from it
    pub address : IsSlotAddress (heap_of old) s.cell at
    address = numbered_address slot at s.shows.shows.whole s.has s.shown.of_kind numbered

    pub slot_below : at < layouts_start old.seat.space
    slot_below = cell_below_layouts s.shows.shows.whole address.has address.of_cell

    -- a word was put in the slot, and the header is there
    pub slot_puts : {mid put new : Mutator} {need : ℕ} (word next : ℕ) → IsReady old mid need
        → PutsWord mid put at word → HasHead mid put new s.cell.at (next_head next)
        → PutsTwo mid new s.cell.at (next_head next) at word
    slot_puts {mid} {put} {new} word next ready puts head =
        puts_two mid put new s.cell.at (next_head next) at word puts (before_marks at ready slot_below)
        (before_marks s.cell.at ready head_below) ready.sized.words (λ same. address.not_header (sym same)) head

    -- The slot was touched, as the representation of the field says, and maybe the header; and cells were made.
    abbrev pub TouchesSlot : Mutator → List Cell → Type 0
    TouchesSlot new made = TouchesWith old new s.cell made
        (touched_one (field_touch (nat_lt slot s.cell.layout.cap)
        (Some (record { name = s.field.name; rep = (revalued s.field what).rep }))) at)

    -- so it is where the slot was touched as what it comes to hold says
    pub touches_slot : {new : Mutator} {made : List Cell} (holds : SlotContent)
        → HoldsValue (heap_of old) (nat_lt slot s.cell.layout.cap) s.field.rep (revalued s.field what).rep what holds
        → TouchesWith old new s.cell made (touched_one (slot_touch holds) at) → TouchesSlot new made
    touches_slot {new} {made} holds is touches =
        subst (λ how. TouchesWith old new s.cell made (touched_one how at)) (content_touches s.field.name is) touches

    module _ {mid put new : Mutator} {next : ℕ} (shape : IsNextShape s new next) where
      -- where a word was put in the slot, the heap shows the graph with the field
      pub slot_shown : {need : ℕ} (word : ℕ) (made : List Cell) → IsReady old mid need → PutsWord mid put at word
          → HasHead mid put new s.cell.at (next_head next) → TouchesSlot new made
          → IsRow new.seat.space (heap_words new.seat) (next_at old) (next_at old + need) made
          → ((others : List Cell) (sets : SetsOne (heap_of old) (heap_of new) s.cell next at word slot others made
          plain.fields (revalued s.field what)) → ShowsPut sets) → ShowsSet s new need
      slot_shown {need} word made ready word_put head touches row owed =
          let whole = s.shows.shows.whole in
          let puts = slot_puts word next ready word_put head in
          let place = slot_place slot at whole s.has s.shown.of_kind s.shown.has numbered in
          let not_head = number_not_in_head slot at whole.rows s.has s.shown.of_kind numbered in
          let sets = sets_one s shape ready place.0 made place.1.own not_head slot_below puts row in
          let shows = owed place.0 sets in
          let store : s.shown.has.store ≡ sets.shown.has.store =
          same_Some _ _ (sym s.shown.has.slot ∙ sets.shown.has.slot) in
          let stands = subst (λ n. IsSlotPlace (heap_of old) s.cell n at place.0) store place.1 in
          let cap : ℕ = s.cell.layout.cap in
          let field : Field = revalued s.field what in
          field_shown s shape ready puts sets (fills_slot sets numbered stands shows.boxes shows.comes shows.shows) row
          (slot_remembered (record { name = field.name; rep = field.rep }) (set_refields sets) whole s.shown.of_kind
          numbered place.1
          (path_field cap (set plain.fields slot field) slot field
          (slice_get-set_same plain.fields slot field (slot_is_field s)))
          (set_alike cap plain.fields slot field) touches)

      -- so it does where it is tagged
      pub tagged_shown : (word : Word) → IsReady old mid 0 → PutsWord mid put at word.0
          → HasHead mid put new s.cell.at (next_head next)
          → TouchesSurely old new s.cell.at (touched_one Touch.Stored at)
          → HoldsValue (heap_of old) (nat_lt slot s.cell.layout.cap) s.field.rep (revalued s.field what).rep what
          (content.Tagged word) → ShowsSet s new 0
      tagged_shown word ready word_put head touches holds =
          slot_shown word.0 [] ready word_put head (touches_slot (content.Tagged word) holds (touches_alone touches))
          (row_of_none (heap_of new) (next_at old)) (λ others sets.
          let shown = word_shows word (written_places_stay plain_owns sets.puts.whole sets.puts.writes) holds in
          record {
            boxes = λ other there. absurd (none_in other there);
            comes = λ tagged. ComesFrom.none shown.1;
            shows = shown.0;
          })

      -- and where it is raw
      pub raw_shown : (word : ℕ) → IsReady old mid 0 → PutsWord mid put at word
          → HasHead mid put new s.cell.at (next_head next)
          → TouchesSurely old new s.cell.at (touched_one Touch.Wiped at)
          → HoldsValue (heap_of old) (nat_lt slot s.cell.layout.cap) s.field.rep (revalued s.field what).rep what
          (content.Raw word) → ShowsSet s new 0
      raw_shown word ready word_put head touches holds =
          slot_shown word [] ready word_put head (touches_slot (content.Raw word) holds (touches_alone touches))
          (row_of_none (heap_of new) (next_at old)) (λ others sets.
          let shown = raw_shows word (length graph.objects) s.value holds in
          record {
            boxes = λ other there. absurd (none_in other there);
            comes = λ tagged. absurd (raw_not_tagged sets shown.1.0 shown.1.1 tagged);
            shows = shown.0;
          })
