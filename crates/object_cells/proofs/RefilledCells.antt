-- Each cell that came or was made where the fields of a plain object became others is sound.
use Rattle.std.proofs.Common.{◌≡◌, ℕ, ◌+◌, ◌-◌, false, List, ◌∷◌, ◌++◌, length, drop, Contains}
use Rattle.std.proofs.Common.{slice_get, nat_lt, inl, inr, refl, sym, ◌∙◌, ap, subst, arith, length-append}
use Rattle.std.proofs.lemmas.Bool.{false≢true, le-ltb}
use Rattle.std.proofs.lemmas.List.{length-map}
use Rattle.std.proofs.lemmas.Option.{slice_get_cases}
use Rattle.tagged_word.specs.Cells.{store_head}
use Rattle.tagged_word.proofs.Members.{rest_in}
use Rattle.heap_model.specs.Types.{Field, PathField, Cell, Path}
use Rattle.object_graph.specs.Paths.{path_of}
use Rattle.heap_model.specs.Heaps.{Heap, HasCell, words_of_cell}
use Rattle.heap_model.specs.Slots.{RefersTo, IsFieldWord, IsSlotWord}
use Rattle.heap_model.specs.Kinds.{HasWord, HoldFields, IsPlainCell, IsSoundCell}
use Rattle.heap_model.proofs.SlotWords.{field_is_slot}
use Rattle.heap_model.specs.Wholeness.{Whole}
use Rattle.heap_model.specs.Showing.{ShowsPlain}
use Rattle.shape_tree.specs.Shapes.{IsPathShape}
use Rattle.object_cells.specs.CellWrites.{reshaped}
use Rattle.object_cells.specs.SlotChanges.{WritesFields, RefillsSlots}
use Rattle.object_cells.proofs.SlotPlaces.{behind_cap}
use Rattle.object_cells.proofs.FieldsFound.{field_at}
use Rattle.object_cells.proofs.FieldWords.{field_word}
use Rattle.object_cells.proofs.NumberedSlots.{store_of}
use Rattle.object_cells.proofs.PlainFields.{plain_sound}
use Rattle.object_cells.proofs.OwnerWrites.{plain_owns, becomes_cap, becomes_shape}
use Rattle.object_cells.proofs.OwnSteps.{stands}
use Rattle.object_cells.proofs.BesideSound.{store_is_sound, beside_sound, came_sound}
use Rattle.object_cells.proofs.RefilledFields.{fields_step, proto_stands, proto_is, field_shown}

-- a number that is so much more than another is so far behind it
behind_by : (cap k : ℕ) → cap + k - cap ≡ k
behind_by cap k = omega arith

-- so a slot behind those of the object itself is not below their number
not_below : (cap k : ℕ) → nat_lt (cap + k) cap ≡ false
not_below cap k = le-ltb (cap + k) cap (omega arith)

module _ {old new : Heap} {cell : Cell} {shape : ℕ} {others made : List Cell} {before after : List Field}
    (whole : Whole old) (shown : ShowsPlain old cell (words_of_cell old cell) cell.layout.cap before)
    (writes : WritesFields old new cell shape others made)
    (slots : RefillsSlots old new cell shape others made before after) where
  -- what the object's cell becomes
  abbrev came : Cell
  came = reshaped new.paths cell shape

  -- the slots hold the fields of the path
  slots_hold : HoldFields new (path_of cell.layout.cap after) slots.now
  slots_hold =
      let long : length (path_of cell.layout.cap after).fields ≡ length after =
      length-map after (λ f. record { name = f.name; rep = f.rep }) in
      record {
        room = omega (arith, long, slots.enough);
        each = λ at field word there holds.
            let found = field_at cell.layout.cap after at field there in
            let shows = field_shown whole shown writes slots at word found.field found.there holds in
            subst (λ (f : PathField). IsFieldWord new (nat_lt at cell.layout.cap) f.rep word) found.same
            (field_word word found.field.rep found.field.value shows);
        rest = λ at word from holds. slots.rest at word (omega (arith, long, from)) holds;
      }

  -- the shape is a path's
  is_shape : IsPathShape new.paths shape
  is_shape = becomes_shape writes.becomes (λ same.
      let was = (plain_sound whole writes.stood writes.of_kind).shape in
      let more = ap (λ (all : List Path). length all) writes.paths in
      record { from = was.from; below = omega (arith, was.below, more, length-append old.paths writes.more) })

  -- the object's cell is sound
  object_sound : IsPlainCell new came (words_of_cell new came)
  object_sound = record {
    shape = is_shape;
    slots = slots.now;
    has = slots.are;
    proto = (plain_sound whole writes.stood writes.of_kind).proto;
    proto_has = proto_stands whole shown writes slots;
    proto_is = proto_is whole shown writes slots;
    hold = subst (λ path. HoldFields new path slots.now) (sym slots.path) slots_hold;
  }

  -- a slot from the cap on holds a slot word: that of a field, or a hole
  slot_word : (k word : ℕ) → HasWord slots.now k word → nat_lt k cell.layout.cap ≡ false → IsSlotWord new word
  slot_word k word holds behind = elim ((slice_get_cases after k).1) [
    | inl there ↦
        let field : Field = there.0 in
        let shows = field_shown whole shown writes slots k word field there.2 holds in
        field_is_slot field.rep word (field_word word field.rep field.value shows)
        (λ own wide. false≢true (sym behind ∙ own))
    | inr past ↦ subst (IsSlotWord new) (sym (slots.rest k word past.0 holds)) IsSlotWord.hole
  ]

  -- so does each word of the object's store
  store_word : {other : Cell} {words : List ℕ} (k word : ℕ) → RefersTo new slots.refills.store other words
      → HasWord (drop store_head words) k word → IsSlotWord new word
  store_word {words = words} k word refers holds =
      let cap : ℕ = cell.layout.cap in
      let has = stands (fields_step whole shown writes slots) in
      let is = store_of slots.refills.store slots.are slots.refills.has_store refers in
      let number : ℕ = cap + k in
      let back : number - cap ≡ k = behind_by cap k in
      let here : HasWord slots.now number word =
      sym (behind_cap number cap has refl slots.are (becomes_cap writes.becomes) (omega arith))
      ∙ ap (slice_get slots.are.beside) back ∙ ap (λ all. slice_get all k) is.are ∙ holds in
      slot_word number word here (not_below cap k)

  -- each cell that came or was made is sound
  pub fields_sound : (one : Cell) → Contains (came ∷ (others ++ made)) one → IsSoundCell new one (words_of_cell new one)
  fields_sound =
      came_sound others made object_sound (beside_sound others made plain_owns writes.beside slots.refills.kinds
      (λ other there is.
      let told = slots.refills.stores other there is in
      let words : List ℕ = words_of_cell new other in
      let has : HasCell new other words =
      (fields_step whole shown writes slots).cells.comes other (rest_in came (others ++ made) other there) in
      let refers : RefersTo new slots.refills.store other words = record { refers = told.1; has = has } in
      store_is_sound words told.0 (λ k word holds. store_word k word refers holds)) slots.refills.boxes)
