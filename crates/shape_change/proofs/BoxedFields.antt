-- The slot of a field that is set comes to refer to a box that is made, or the box to which it refers is written.
use Rattle.std.specs.Prelude.{ℤ, FitsSigned}
use Rattle.std.specs.Int.{w64}
use Rattle.std.proofs.Common.{◌≡◌, ◌≢◌, ℕ, ◌+◌, ◌<◌, ◌≤◌, List, [], ◌∷◌, length, Some, slice_get, nat_lt, refl, sym}
use Rattle.std.proofs.Common.{◌∙◌, ap, subst, arith, inl, inr}
use Rattle.std.proofs.lemmas.List.Elements.{Contains-append_right}
use Rattle.std.proofs.lemmas.Bool.{lt-ltb}
use Rattle.tagged_word.specs.declared.layout.Kind.TheVariants as kind
use Rattle.tagged_word.specs.Headers.{header_bits}
use Rattle.tagged_word.proofs.Members.{one_in, first_in}
use Rattle.page_space.specs.Extents.{Space, layouts_start, marks_start}
use Rattle.page_space.proofs.Starts.{marks_start_is}
use Rattle.cell_layout.specs.Cells.{IsRow}
use Rattle.object_graph.specs.Objects.{revalued}
use Rattle.object_graph.specs.Graphs.{Graph, PlainObject}
use Rattle.write_barrier.specs.Seats.{heap_words}
use Rattle.heap_model.specs.Types.{Value, Path, Cell}
use Rattle.heap_model.specs.Heaps.{words_of_cell}
use Rattle.heap_model.specs.Slots.{reference_word, raw_word}
use Rattle.heap_model.specs.Kinds.{HasWord, IsBoxCell}
use Rattle.heap_model.specs.Needs.{box_words}
use Rattle.heap_model.specs.Wholeness.{HasSizes}
use Rattle.heap_model.specs.Remembered.{Touch}
use Rattle.heap_model.proofs.CellOutcomes.{object_is_no_filler}
use Rattle.heap_model.proofs.CellsApart.{IsOfCell, first_of_cell}
use Rattle.write_barrier.specs.MutatorState.{Mutator, heap_of, with_word, with_slot}
use Rattle.write_barrier.specs.Recording.{touched_one}
use Rattle.object_cells.specs.Formats.{box_header}
use Rattle.object_cells.specs.declared.content.SlotContent.TheVariants as content
use Rattle.object_cells.specs.CellWrites.{reshaped}
use Rattle.object_cells.specs.OwnSlots.{ComesFrom}
use Rattle.object_cells.specs.SlotChanges.{IsTaggedSlot}
use Rattle.object_cells.specs.declared.content.SlotWrite.TheVariants as filling
use Rattle.object_cells.specs.Contents.{next_at, with_box, filled_touch}
use Rattle.object_cells.proofs.SlotBoxes.{IsBoxOf}
use Rattle.object_cells.proofs.FieldWords.{path_field, field_is_tagged}
use Rattle.object_cells.proofs.MadeBoxes.{BoxStands, boxed_integer, made_is_box, refers_to_made, made_row, row_of_none}
use Rattle.object_cells.proofs.HeldContents.{HoldsValue}
use Rattle.object_cells.proofs.NewBoxes.{box_cell}
use Rattle.object_cells.proofs.NumberedSlots.{IsNumbered}
use Rattle.object_cells.proofs.OneWord.{IsReady}
use Rattle.object_cells.proofs.OwnPlaces.{box_size, box_place, plain_is_object, head_not_in_box}
use Rattle.object_cells.proofs.OwnCells.{cell_below_layouts, beside_not_header}
use Rattle.object_cells.proofs.PlainFields.{plain_sound}
use Rattle.heap_model.proofs.OneBeside.{one_slots}
use Rattle.object_cells.proofs.RunCells.{AreOfRegion}
use Rattle.object_cells.proofs.TakenRuns.{taken_run}
use Rattle.object_cells.proofs.TouchedCells.{IsBeside}
use Rattle.object_cells.proofs.UnusedWords.{IsUnusedRun, next_run, run_beside}
use Rattle.object_cells.proofs.WordsPut.{PutsTwo, HasHead, puts_no_slot, puts_slot, puts_two, sizes_put}
use Rattle.shape_change.proofs.ContentsShown.{box_shows}
use Rattle.shape_change.proofs.FilledFields.{next_head, head_below, slot_below, before_marks, slot_puts}
use Rattle.shape_change.proofs.FilledFields.{touches_slot, slot_shown}
use Rattle.shape_change.proofs.FilledSlots.{RefersToOld, fills_box}
use Rattle.shape_change.proofs.ReadyHeaps.{ready_boxed, puts_box}
use Rattle.shape_change.proofs.RunTouches.{TouchesWith, TouchesSurely, numbered_beside, touches_alone, touches_box}
use Rattle.shape_change.proofs.Settings.{Setting}
use Rattle.shape_change.proofs.SetFields.{IsNextShape, ShowsSet, sets_one, field_shown}
use Rattle.shape_change.proofs.FieldsAlike.{replaced_alike}
use Rattle.shape_change.proofs.TouchedSlots.{set_refields, boxed_not_raw, box_remembered}

-- A field that is set comes to hold a box of an integer.
module _ {old : Mutator} {graph : Graph} {object slot : ℕ} {plain : PlainObject} {what : Value} {name : ℕ}
    (s : Setting old graph object slot plain what name) (v : ℤ)
    (holds : HoldsValue (heap_of old) (nat_lt slot s.cell.layout.cap) s.field.rep (revalued s.field what).rep what
    (content.Boxed v)) where
  -- the integer is one of 64 bits
  fits : FitsSigned w64 v
  fits = boxed_integer (length graph.objects) v holds s.value refl

  -- the slot of a field that is not raw is tagged
  slot_is_tagged : IsTaggedSlot s.cell slot
  slot_is_tagged =
      let whole = s.shows.shows.whole in
      let sound = plain_sound whole s.has s.shown.of_kind in
      let there = ap (λ (p : Path). slice_get p.fields slot) s.shown.path
      ∙ path_field s.cell.layout.cap plain.fields slot s.field s.there in
      field_is_tagged slot (record { name = s.field.name; rep = s.field.rep }) whole.sized s.has s.shown.of_kind
      sound.shape there (box_shows {new = heap_of old} v holds).was_not_raw

  module _ (at : ℕ) (numbered : IsNumbered (heap_of old) s.cell (words_of_cell (heap_of old) s.cell) slot at)
      {mid new : Mutator} {next : ℕ} (ready : IsReady old mid box_words) (shape : IsNextShape s new next)
      (head : HasHead mid (with_slot (with_box mid (next_at old) v) at (reference_word (next_at old))) new s.cell.at
      (next_head s next))
      (touches : TouchesSurely old new s.cell.at (filled_touch (filling.NewBox (next_at old) v) at)) where
    -- the address of the box that is made
    abbrev box : ℕ
    box = next_at old

    -- its words are not used
    run : IsUnusedRun (heap_of old) box box_words
    run = next_run old box_words s.shows.tied s.shows.shows.whole.rows ready.room

    -- no word of the object is among them, so not its header, nor is the slot
    not_of_object : (a : ℕ) → IsOfCell s.cell a → IsBeside box (box + box_words) a
    not_of_object a of_cell =
        run_beside a run (object_is_no_filler s.cell.layout.kind (plain_is_object s.shown.of_kind)) s.has of_cell

    not_head : (free : ℕ) → box ≤ free → free < box + box_words → free ≢ s.cell.at
    not_head free from below same =
        not_of_object s.cell.at (first_of_cell s.has) (omega (arith, from, same)) (omega (arith, below, same))

    not_slot : (free : ℕ) → box ≤ free → free < box + box_words → free ≢ at
    not_slot free from below same =
        numbered_beside run s.has s.shown.of_kind numbered (omega (arith, from, same)) (omega (arith, below, same))

    -- they are put before the word of the slot
    made : PutsTwo mid (with_box mid box v) (box + 1) (raw_word v) box (header_bits box_header)
    made =
        let space : Space = old.seat.space in
        puts_box mid box v
        (subst (λ (p : Space). box + box_words ≤ marks_start p) (sym ready.space)
        (omega (arith, run.within, marks_start_is space))) ready.sized.words

    boxed : IsReady old (with_box mid box v) box_words
    boxed = ready_boxed v s.shows.tied ready

    -- the word of the slot is put then
    abbrev put : Mutator
    put = with_slot (with_box mid box v) at (reference_word box)

    -- the header stays
    head_now : HasHead (with_box mid box v) put new s.cell.at (next_head s next)
    head_now = elim head [
      | inl is ↦ inl (
        is.0,
        made.stay s.cell.at (λ same. not_head (box + 1) (omega arith) (omega arith) (sym same))
            (λ same. not_head box (omega arith) (omega arith) (sym same)) ∙ is.1,
      )
      | inr is ↦ inr is
    ]

    puts : PutsTwo (with_box mid box v) new s.cell.at (next_head s next) at (reference_word box)
    puts = slot_puts s at numbered (reference_word box) next boxed (puts_slot refl) head_now

    -- so the words of the box stand in the new heap
    put_stays : (free : ℕ) → box ≤ free → free < box + box_words
        → slice_get (heap_words new.seat) free ≡ slice_get (heap_words (with_box mid box v).seat) free
    put_stays free from below =
        puts.stay free (not_head free from below) (not_slot free from below)

    same_space : new.seat.space ≡ old.seat.space
    same_space = puts.beside.space ∙ boxed.space

    stands : BoxStands (heap_of new) (content.Boxed v) box
    stands = record {
      header = λ w is. put_stays box (omega arith) (omega arith) ∙ made.put;
      raw = λ w is.
          let same : v ≡ w = cc in
          put_stays (box + 1) (omega arith) (omega arith) ∙ made.header ∙ ap (λ n. Some (raw_word n)) same;
      region = λ w is. subst (λ (p : Space). AreOfRegion p box (box + box_words)) (sym same_space) run.region;
    }

    -- as many words and layouts as before
    sized : HasSizes (heap_of new)
    sized =
        let below = λ (a : ℕ) (is : a < layouts_start old.seat.space).
        subst (λ (p : Space). a < layouts_start p) (sym boxed.space) is in
        sizes_put (with_box mid box v) new s.cell.at (next_head s next) at (reference_word box) boxed.sized
        (below s.cell.at (head_below s)) (below at (slot_below s at numbered)) puts

    -- the box fills its words
    row : IsRow new.seat.space (heap_words new.seat) box (box + box_words) (box_cell box ∷ [])
    row = made_row (heap_of new) (content.Boxed v) box sized stands

    -- and the heap shows the graph with the field
    pub new_box_shown : ShowsSet s new box_words
    new_box_shown =
        let run_taken = taken_run new box_words s.shows.tied ready.room (puts.young ∙ boxed.young) same_space in
        let stored : TouchesWith old new s.cell (box_cell box ∷ []) (touched_one Touch.Stored at) =
        touches_box Touch.Stored (content.Boxed v) run_taken row touches
        not_of_object (λ from below. not_slot at from below refl) in
        slot_shown s at numbered shape (reference_word box) (box_cell box ∷ []) boxed (puts_slot refl) head_now
        (touches_slot s at numbered (content.Boxed v) holds stored)
        row (λ others sets.
        let came : List Cell = reshaped new.paths s.cell next ∷ others in
        let has = sets.puts.cells.comes (box_cell box) (Contains-append_right came (box_cell box ∷ []) (box_cell box)
        (first_in (box_cell box) [])) in
        record {
          boxes = λ other there.
              subst (λ (c : Cell). (c.layout.kind ≡ kind.Boxed) × IsBoxCell c (words_of_cell (heap_of new) c))
              (one_in (box_cell box) other there)
              (refl, made_is_box (content.Boxed v) box v refl fits stands has);
          comes = λ tagged. ComesFrom.of_made (box_cell box) (first_in (box_cell box) []) refl refl refl;
          shows = (box_shows v holds).shows (reference_word box)
              (refers_to_made (content.Boxed v) box v refl fits stands has);
        })

  -- the integer is put into the box to which the slot refers
  pub old_box_shown : {mid new : Mutator} {next : ℕ} (word box : ℕ) → HasWord s.shown.slots slot word
      → IsBoxOf (heap_of old) word box → IsReady old mid 0 → IsNextShape s new next
      → HasHead mid (with_word mid (box + 1) (raw_word v)) new s.cell.at (next_head s next)
      → TouchesSurely old new s.cell.at (touched_one Touch.Wiped (box + 1)) → ShowsSet s new 0
  old_box_shown {mid} {new} {next} word box there is ready shape head touches =
      let whole = s.shows.shows.whole in
      let one : Cell = is.cell in
      let has = is.refers.has in
      let of_box : IsOfCell one (one.at + 1) =
      record { from = omega arith; below = omega (arith, box_size has is.box) } in
      let below = cell_below_layouts whole has of_box in
      let put = subst (λ n. HasHead mid (with_word mid (n + 1) (raw_word v)) new s.cell.at (next_head s next))
      (sym is.stands) head in
      let not_header = beside_not_header (one.at + 1) whole s.has s.shown.of_kind has (inr is.box) of_box in
      let puts = puts_two mid (with_word mid (one.at + 1) (raw_word v)) new s.cell.at (next_head s next) (one.at + 1)
      (raw_word v) (puts_no_slot refl)
      (before_marks (one.at + 1) ready below) (before_marks s.cell.at ready (head_below s)) ready.sized.words
      (λ same. not_header (sym same)) put in
      let sets = sets_one s shape ready (one ∷ []) [] (box_place has is.box)
      (head_not_in_box whole s.has s.shown.of_kind has is.box) below puts
      (row_of_none (heap_of new) (next_at old)) in
      let to_old : RefersToOld (heap_of old) s.cell sets.shown.slots slot one = record {
        word = word;
        holds = subst (λ all. HasWord all slot word) (one_slots s.shown.has sets.shown.has) there;
        tagged = slot_is_tagged;
        words = is.words;
        refers = is.refers;
        of_kind = is.box;
      } in
      let cap : ℕ = s.cell.layout.cap in
      let not_raw = λ (below : slot < cap). boxed_not_raw v holds (lt-ltb slot cap below) in
      field_shown s shape ready puts sets (fills_box v sets to_old fits (box_shows v holds).shows)
      (row_of_none (heap_of new) (next_at old)) (box_remembered one (set_refields sets) is.box
      (replaced_alike cap plain.fields slot s.field (revalued s.field what) s.there not_raw)
      (touches_alone
      (subst (λ n. TouchesSurely old new s.cell.at (touched_one Touch.Wiped (n + 1))) (sym is.stands) touches)))
