-- What was touched where the slot of a field that is there was filled.
use Rattle.std.proofs.Common.{◌≡◌, ℕ, ◌+◌, ◌<◌, inl, inr, refl, sym, ◌∙◌, ap, subst, arith}
use Rattle.std.proofs.lemmas.Bool.{cases_eq}
use Rattle.std.proofs.lemmas.List.Elements.{All-contains_itself}
use Rattle.tagged_word.specs.Headers.{header_bits}
use Rattle.page_space.specs.Extents.{Space, marks_start}
use Rattle.page_space.proofs.Starts.{roots_start_is, layouts_start_is, marks_start_is}
use Rattle.object_graph.specs.Graphs.{Graph, PlainObject}
use Rattle.heap_model.specs.Types.{Value, Path}
use Rattle.heap_model.specs.Needs.{box_words, word_at}
use Rattle.heap_model.specs.Remembered.{Touch}
use Rattle.object_graph.proofs.Lists.{slice_get-set_other}
use Rattle.write_barrier.specs.Seats.{heap_words}
use Rattle.write_barrier.specs.SureStores.{StoresSurely}
use Rattle.write_barrier.proofs.SureStores.{sure_stays}
use Rattle.write_barrier.proofs.TouchedRanges.{touched_other}
use Rattle.write_barrier.specs.Marking.{with_blackened}
use Rattle.write_barrier.specs.MutatorState.{Mutator, heap_of, with_word}
use Rattle.write_barrier.specs.Recording.{Touches, touched, touched_one, untouched}
use Rattle.write_barrier.proofs.Recording.{no_touch, same_touch, then_touch, word_touch}
use Rattle.object_cells.specs.declared.content.SlotContent.{SlotContent}
use Rattle.object_cells.specs.declared.content.SlotWrite.{SlotWrite}
use Rattle.object_cells.specs.declared.content.SlotWrite.TheVariants as filling
use Rattle.object_cells.proofs.FillsOn.{filled_surely, stored_last, wiped_if}
use Rattle.object_cells.specs.Contents.{box_in, filling_at, filled, filled_touch, FillsSlot, IsBeforeLayouts}
use Rattle.object_cells.proofs.FilledTouches.{filled_touches, fills_touch, fills_before_layouts, allocates_touch}
use Rattle.object_cells.proofs.TouchedCells.{touches_next}
use Rattle.object_cells.proofs.TouchedFields.{TouchesObject}
use Rattle.object_cells.proofs.TouchedWords.{then_wiped}
use Rattle.shape_change.specs.Fillings.{FillsWider}
use Rattle.shape_change.proofs.Filled.{laid_space, filled_space}
use Rattle.shape_change.proofs.FilledFields.{address, head_below, slot_below}
use Rattle.shape_change.proofs.RunTouches.{TouchesSurely}
use Rattle.shape_change.proofs.Settings.{Setting}
use Rattle.shape_change.proofs.SetShown.{FillsAt, held_slot}

-- what is kept is not stored
pub kept_not_stored : Touch.Kept ≡ Touch.Stored → ⊥
kept_not_stored same = cc

-- where a header is put that was not stored as a slot's word, what was put before was put surely
pub head_surely : (main : Mutator) (object head : ℕ) (touch : ℕ → Touch) → object < marks_start main.seat.space
    → (touch object ≡ Touch.Stored → ⊥) → StoresSurely main touch → StoresSurely (with_word main object head) touch
head_surely main object head touch below apart before =
    let put = word_touch main object head below in
    record {
      sure = λ mark one page bound stored. elim (cases_eq one object) [
        | inl same ↦ absurd (apart (sym (ap touch same) ∙ stored))
        | inr other ↦
            sure_stays main (with_word main object head) one refl page (All-contains_itself main.cycle.sure)
            (slice_get-set_other (heap_words main.seat) object one head other)
            (before.sure mark one page (omega (arith, bound, put.bound)) stored)
      ];
    }

module _ {old : Mutator} {graph : Graph} {object slot : ℕ} {plain : PlainObject} {what : Value} {name : ℕ}
    (s : Setting old graph object slot plain what name) (at : ℕ) {word : ℕ} {content : SlotContent}
    (fills : FillsAt s at word content) where
  -- how the slot is filled
  abbrev fill : SlotWrite
  fill = filling_at old at content

  -- the slot is before the marks
  slot_before : at < marks_start old.seat.space
  slot_before = omega (arith, slot_below s at fills.numbered, marks_start_is old.seat.space)

  -- where the shape stays, so was touched what filling it touches
  pub as_it_is_touches : {new : Mutator} → FillsSlot old new at content
      → TouchesObject old new s.cell.at (filled_touch fill at)
  as_it_is_touches filled_so =
      TouchesObject.slots (fills_touch filled_so s.shows.tied s.shows.shows.whole slot_before (held_slot s fills))

  -- where the representation became wider, paths were added before, which touches nothing of pages
  laid_touches : {new : Mutator} {path : Path} (wider : FillsWider old new s.cell.at at path content)
      → Touches old wider.laid untouched
  laid_touches wider =
      let space : Space = old.seat.space in
      let bound = (allocates_touch fill wider.allocates (no_touch wider.between)).bound in
      allocates_touch fill wider.allocates
      (same_touch wider.between wider.laid wider.changes.free wider.changes.recorded (λ a below.
      wider.changes.beside a
      (inl (omega (arith, below, bound, s.shows.bounded, roots_start_is space, layouts_start_is space)))))

  -- nor does it that the object was made black
  abbrev black : {new : Mutator} {path : Path} → FillsWider old new s.cell.at at path content → Mutator
  black wider = with_blackened wider.laid s.cell.at

  black_touches : {new : Mutator} {path : Path} (wider : FillsWider old new s.cell.at at path content)
      → Touches old (black wider) untouched
  black_touches wider =
      let laid = laid_touches wider in
      record { free = laid.free; bound = laid.bound; records = laid.records }

  -- and the header was put then
  pub wider_touches : {new : Mutator} {path : Path} → FillsWider old new s.cell.at at path content
      → TouchesObject old new s.cell.at (filled_touch fill at)
  wider_touches wider =
      let laid : Mutator = black wider in
      let whole = s.shows.shows.whole in
      let space : laid.seat.space ≡ old.seat.space =
      laid_space old wider.between wider.laid fill _ _ wider.allocates wider.changes in
      let room : IsBeforeLayouts old.seat.space fill =
      fills_before_layouts old wider.between (word_at (heap_of old) at) content
      (box_in (heap_of old) (word_at (heap_of old) at)) s.shows.tied whole (held_slot s fills) refl wider.allocates in
      let put : Touches laid (filled laid at fill) (filled_touch fill at) =
      filled_touches laid at fill wider.sized.words
      (subst (λ (sp : Space). at < marks_start sp) (sym space) slot_before)
      (subst (λ (sp : Space). IsBeforeLayouts sp fill) (sym space) room) in
      let first : Touches old (filled laid at fill) (filled_touch fill at) =
      touches_next untouched (filled_touch fill at) (λ a below. refl) (then_touch (black_touches wider) put) in
      let same = filled_space laid at fill ∙ space in
      let below : s.cell.at < marks_start (filled laid at fill).seat.space =
      subst (λ (sp : Space). s.cell.at < marks_start sp) (sym same)
      (omega (arith, head_below s, marks_start_is old.seat.space)) in
      TouchesObject.header (then_wiped s.cell.at (header_bits (record wider.header { shape = wider.next })) first
      wider.fills below)

  -- what is stored is stored in the slot alone
  stored_here : (one : ℕ) → touched_one Touch.Stored at one ≡ Touch.Stored → one ≡ at
  stored_here one stored = elim (cases_eq one at) [
    | inl same ↦ same
    | inr apart ↦ absurd (kept_not_stored (sym (touched_other Touch.Stored at one apart) ∙ stored))
  ]

  stored_there : (write : SlotWrite) (one : ℕ) → filled_touch write at one ≡ Touch.Stored → one ≡ at
  stored_there (filling.Tagged word) one stored = stored_here one stored
  stored_there (filling.Raw word) one stored = absurd (wiped_if _ stored)
  stored_there (filling.NewBox box v) one stored =
      stored_here one (stored_last (touched Touch.Wiped box (box + box_words) one) (touched_one Touch.Stored at one)
      (wiped_if _) stored)
  stored_there (filling.OldBox box v) one stored = absurd (wiped_if _ stored)

  -- so where the header was put too, what was put as a slot's word was put surely
  wider_surely : {new : Mutator} {path : Path} → FillsWider old new s.cell.at at path content
      → StoresSurely new (filled_touch fill at)
  wider_surely wider =
      let laid : Mutator = black wider in
      let head : ℕ = header_bits (record wider.header { shape = wider.next }) in
      let whole = s.shows.shows.whole in
      let space : laid.seat.space ≡ old.seat.space =
      laid_space old wider.between wider.laid fill _ _ wider.allocates wider.changes in
      let room : IsBeforeLayouts old.seat.space fill =
      fills_before_layouts old wider.between (word_at (heap_of old) at) content
      (box_in (heap_of old) (word_at (heap_of old) at)) s.shows.tied whole (held_slot s fills) refl wider.allocates in
      let put : StoresSurely (filled laid at fill) (filled_touch fill at) =
      filled_surely laid at fill wider.sized.words
      (subst (λ (sp : Space). at < marks_start sp) (sym space) slot_before)
      (subst (λ (sp : Space). IsBeforeLayouts sp fill) (sym space) room) in
      let below : s.cell.at < marks_start (filled laid at fill).seat.space =
      subst (λ (sp : Space). s.cell.at < marks_start sp) (sym (filled_space laid at fill ∙ space))
      (omega (arith, head_below s, marks_start_is old.seat.space)) in
      subst (λ (main : Mutator). StoresSurely main (filled_touch fill at)) (sym wider.fills)
      (head_surely (filled laid at fill) s.cell.at head (filled_touch fill at) below
      (λ stored. (address s at fills.numbered).not_header (sym (stored_there fill s.cell.at stored))) put)

  -- so it was touched surely
  pub wider_touched : {new : Mutator} {path : Path} → FillsWider old new s.cell.at at path content
      → TouchesSurely old new s.cell.at (filled_touch fill at)
  wider_touched wider = record { touches = wider_touches wider; surely = wider_surely wider }
