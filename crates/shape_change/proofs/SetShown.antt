-- A field that is there was set: as it is, or with a wider representation.
use Rattle.std.specs.Prelude.{ℤ}
use Rattle.std.proofs.Common.{◌≡◌, ℕ, Option, Some, None, nat_lt, refl, sym, ap, subst}
use Rattle.object_graph.specs.Objects.{revalued}
use Rattle.object_graph.specs.Graphs.{Graph, PlainObject}
use Rattle.heap_model.specs.Types.{Value}
use Rattle.heap_model.specs.Heaps.{words_of_cell}
use Rattle.heap_model.specs.Slots.{IsSlotWord, IsFieldWord}
use Rattle.heap_model.specs.Kinds.{HasWord}
use Rattle.heap_model.specs.Needs.{word_at}
use Rattle.write_barrier.specs.MutatorState.{Mutator, heap_of}
use Rattle.object_cells.specs.declared.content.SlotContent.{SlotContent}
use Rattle.object_cells.specs.declared.content.SlotContent.TheVariants as content
use Rattle.object_cells.specs.Contents.{box_in, next_at, filling_of, filling_at, filling_need, filled, filled_touch}
use Rattle.object_cells.specs.Contents.{HoldsSlotWord}
use Rattle.object_cells.proofs.SlotBoxes.{box_of_word}
use Rattle.object_cells.proofs.FieldWords.{field_word as is_field_word}
use Rattle.object_cells.proofs.HeldContents.{HoldsValue, held_slot_word}
use Rattle.object_cells.proofs.NumberedSlots.{IsNumbered}
use Rattle.object_cells.proofs.OneWord.{IsReady}
use Rattle.shape_change.proofs.RunTouches.{TouchesSurely}
use Rattle.object_cells.proofs.WordsPut.{HasHead, puts_slot, puts_no_slot}
use Rattle.shape_change.proofs.BoxedFields.{new_box_shown, old_box_shown}
use Rattle.shape_change.proofs.FilledFields.{next_head, tagged_shown, raw_shown}
use Rattle.shape_change.proofs.Settings.{Setting}
use Rattle.shape_change.proofs.SetFields.{IsNextShape, ShowsSet}

module _ {old : Mutator} {graph : Graph} {object slot : ℕ} {plain : PlainObject} {what : Value} {name : ℕ}
    (s : Setting old graph object slot plain what name) where
  -- The slot of the field stands at the address and holds the word, and comes to hold this.
  pub record FillsAt (at word : ℕ) (content : SlotContent) : Type 0 where
    pub numbered : IsNumbered (heap_of old) s.cell (words_of_cell (heap_of old) s.cell) slot at
    pub holds : HasWord s.shown.slots slot word
    pub reads : word_at (heap_of old) at ≡ word
    pub comes : HoldsValue (heap_of old) (nat_lt slot s.cell.layout.cap) s.field.rep (revalued s.field what).rep what
        content

  -- the word is one of the field's representation
  pub was_field_word : {at word : ℕ} {content : SlotContent} → FillsAt at word content
      → IsFieldWord (heap_of old) (nat_lt slot s.cell.layout.cap) s.field.rep word
  was_field_word {word = word} fills =
      is_field_word word s.field.rep s.field.value (s.shown.each slot s.field word s.there fills.holds)

  -- and where the slot comes to refer to a box, a slot word
  pub held_slot : {at word : ℕ} {content : SlotContent} → FillsAt at word content
      → HoldsSlotWord (heap_of old) (word_at (heap_of old) at) content
  held_slot {word = word} {content} fills =
      subst (λ w. HoldsSlotWord (heap_of old) w content) (sym fills.reads)
      (held_slot_word word fills.comes (was_field_word fills))

  module _ {mid new : Mutator} (at word : ℕ) {next : ℕ} (shape : IsNextShape s new next) where
    -- where the slot comes to refer to a box, by whether it refers to one
    boxed_shown : (v : ℤ) (found : Option ℕ) → FillsAt at word (content.Boxed v) → box_in (heap_of old) word ≡ found
        → IsReady old mid (filling_need (filling_of found (next_at old) (content.Boxed v)))
        → HasHead mid (filled mid at (filling_of found (next_at old) (content.Boxed v))) new s.cell.at
        (next_head s next)
        → TouchesSurely old new s.cell.at (filled_touch (filling_of found (next_at old) (content.Boxed v)) at)
        → ShowsSet s new (filling_need (filling_of found (next_at old) (content.Boxed v)))
    boxed_shown v None fills is ready head touches =
        new_box_shown s v fills.comes at fills.numbered ready shape head touches
    boxed_shown v (Some box) fills is ready head touches =
        let slot_word : IsSlotWord (heap_of old) word = held_slot_word word fills.comes (was_field_word fills) in
        old_box_shown s v fills.comes word box fills.holds (box_of_word word box s.shows.shows.whole.sized slot_word is)
        ready shape head touches

    -- where the slot was filled, the heap shows the graph with the field
    pub fill_shown : (content : SlotContent) → FillsAt at word content
        → IsReady old mid (filling_need (filling_at old at content))
        → HasHead mid (filled mid at (filling_at old at content)) new s.cell.at (next_head s next)
        → TouchesSurely old new s.cell.at (filled_touch (filling_at old at content) at)
        → ShowsSet s new (filling_need (filling_at old at content))
    fill_shown (content.Tagged put) fills ready head touches =
        tagged_shown s at fills.numbered shape put ready (puts_slot refl) head touches fills.comes
    fill_shown (content.Raw put) fills ready head touches =
        raw_shown s at fills.numbered shape put ready (puts_no_slot refl) head touches fills.comes
    fill_shown (content.Boxed v) fills ready head touches =
        boxed_shown v (box_in (heap_of old) (word_at (heap_of old) at)) fills
        (ap (box_in (heap_of old)) (sym fills.reads)) ready head touches
