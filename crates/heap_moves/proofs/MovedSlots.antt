-- The slots of a plain object, moved: its own and those of its store, field by field.
use Rattle.std.proofs.Common.{◌≡◌, ℕ, ◌+◌, ◌-◌, ◌<◌, ◌≤◌, inl, inr, true, false, List, ◌++◌, length, drop, get_or}
use Rattle.std.proofs.Common.{Option, Some}
use Rattle.std.proofs.Common.{Contains, slice_get, nat_lt, refl, sym, ◌∙◌, ap, subst, arith, length-drop, length-append}
use Rattle.std.proofs.lemmas.Bool.{cases_lt, false≢true}
use Rattle.std.proofs.lemmas.Bool.Decides.{nat_tests}
use Rattle.std.proofs.lemmas.Option.{same_Some, slice_get_within, slice_get-get_or}
use Rattle.tagged_word.specs.declared.layout.Kind.TheVariants as kind
use Rattle.heap_model.specs.Types.{LayoutWord, Path, PathField, Rep, Cell}
use Rattle.tagged_word.specs.Layouts.{is_raw}
use Rattle.tagged_word.specs.Cells.{scavenge_offsets, plain_head, proto_slot, store_slot}
use Rattle.tagged_word.proofs.Offsets.{IsPlainSlot, plain_slot_is, plain_has_store, plain_has_proto}
use Rattle.object_graph.specs.declared.value.Rep.TheVariants as rep
use Rattle.shape_tree.specs.Shapes.{IsPathShape, shape_path}
use Rattle.shape_tree.specs.ShapeLayouts.{layout_of, raw_bit}
use Rattle.heap_model.specs.Heaps.{Heap, HasCell}
use Rattle.heap_model.specs.Slots.{hole_word}
use Rattle.heap_model.specs.Kinds.{HasWord, HasSlots}
use Rattle.heap_model.specs.Wholeness.{HasSizes}
use Rattle.heap_model.proofs.CellWords.{slice_get-drop, slice_get-append_left, slice_get-append_right, words_by_kind}
use Rattle.heap_model.proofs.CellWords.{slots_by_kind, slots_of_kind}
use Rattle.heap_model.proofs.PathLayouts.{layout_is}
use Rattle.heap_model.proofs.ObjectSlots.{in_object_offset}
use Rattle.heap_model.proofs.SlotWords.{in_object_not_wide}
use Rattle.heap_moves.specs.Moved.{IsMovedWord, AreMoved, IsMoved}
use Rattle.heap_moves.proofs.MovedWords.{contains_or_not}
use Rattle.heap_moves.proofs.MovedTargets.{beside_moved}
use Rattle.heap_moves.proofs.MovedValues.{IsMovedField, hole_stays}

-- a word stands at a place of a list that is as long as one with a word there
pub other_word : (words others : List ℕ) (k now : ℕ) → length others ≡ length words → HasWord others k now
    → (word : ℕ) × HasWord words k word
other_word words others k now long there =
    (get_or words k 0, slice_get-get_or words k 0 (omega (arith, long, slice_get_within others k now there)))

-- the word of a slot that a scavenge visits is moved
pub slot_moved : {to : ℕ → Option ℕ} {cell : Cell} {words others : List ℕ} (offset word : ℕ)
    → Contains (scavenge_offsets cell.layout cell.length) offset → AreMoved to cell words others
    → HasWord words offset word → (now : ℕ) × HasWord others offset now × IsMovedWord to word now
slot_moved {words = words} {others} offset word there are stands =
    let is = other_word others words offset word (sym are.long) stands in
    (is.0, is.1, are.slots offset word is.0 there stands is.1)

-- so is that of an object's store
pub store_slot_moved : {to : ℕ → Option ℕ} {cell : Cell} {words others : List ℕ} (store : ℕ)
    → Contains (scavenge_offsets cell.layout cell.length) store_slot → AreMoved to cell words others
    → HasWord words store_slot store → (now : ℕ) × HasWord others store_slot now × IsMovedWord to store now
store_slot_moved store there are slot = slot_moved store_slot store there are slot

-- and that of a plain object's prototype
pub proto_slot_moved : {to : ℕ → Option ℕ} {cell : Cell} {words others : List ℕ} (proto : ℕ)
    → cell.layout.kind ≡ kind.Plain → AreMoved to cell words others → HasWord words proto_slot proto
    → (now : ℕ) × HasWord others proto_slot now × IsMovedWord to proto now
proto_slot_moved {cell = cell} proto of_kind are slot =
    let visited = slots_by_kind cell kind.Plain proto_slot of_kind (plain_has_proto cell.layout) in
    slot_moved proto_slot proto visited are slot

-- A slot of a plain object: it is moved where a scavenge visits it, and else it is the object's own and as it was.
pub data IsMovedSlot (to : ℕ → Option ℕ) (cell : Cell) (at old new : ℕ) : Type 0 where
  own : at < cell.layout.cap → Contains (scavenge_offsets cell.layout cell.length) (plain_head + at)
      → IsMovedWord to old new → IsMovedSlot to cell at old new
  raw : at < cell.layout.cap → (Contains (scavenge_offsets cell.layout cell.length) (plain_head + at) → ⊥)
      → new ≡ old → IsMovedSlot to cell at old new
  beside : cell.layout.cap ≤ at → IsMovedWord to old new → IsMovedSlot to cell at old new

-- the slots of a plain object after it was moved
pub record MovedSlots (new : Heap) (to : ℕ → Option ℕ) (cell : Cell) (others slots : List ℕ) : Type 0 where
  pub now : List ℕ
  pub has : HasSlots new others now
  pub long : length now ≡ length slots
  pub each : (at old word : ℕ) → HasWord slots at old → HasWord now at word → IsMovedSlot to cell at old word

-- a hole in a slot is as it was
pub slot_hole_stays : {to : ℕ → Option ℕ} {cell : Cell} {at old new : ℕ} → IsMovedSlot to cell at old new
    → old ≡ hole_word → new ≡ hole_word
slot_hole_stays (IsMovedSlot.own below there is) hole = hole_stays is hole
slot_hole_stays (IsMovedSlot.raw below none same) hole = same ∙ hole
slot_hole_stays (IsMovedSlot.beside past is) hole = hole_stays is hole

-- an own slot is moved or as it was
own_slot : {to : ℕ → Option ℕ} {cell : Cell} {words others : List ℕ} (at old new : ℕ) → at < cell.layout.cap
    → AreMoved to cell words others → HasWord words (plain_head + at) old → HasWord others (plain_head + at) new
    → IsMovedSlot to cell at old new
own_slot {cell = cell} at old new below are there there_too =
    elim (contains_or_not (scavenge_offsets cell.layout cell.length) (plain_head + at)) [
      | inl visited ↦ IsMovedSlot.own below visited (are.slots (plain_head + at) old new visited there there_too)
      | inr none ↦ IsMovedSlot.raw below none
          (same_Some new old (sym there_too ∙ are.raw (plain_head + at) none ∙ there))
    ]

-- an own slot of a field that is wide is visited by no scavenge
wide_not_visited : (cell : Cell) (path : Path) (at : ℕ) (field : PathField) → cell.layout.kind ≡ kind.Plain
    → cell.layout ≡ layout_of path → slice_get path.fields at ≡ Some field → at < path.cap
    → Contains (scavenge_offsets cell.layout cell.length) (plain_head + at) → field.rep ≡ rep.Wide → ⊥
wide_not_visited cell path at field of_kind laid there below visited wide =
    let offset : ℕ = plain_head + at in
    elim (plain_slot_is cell.layout offset (slots_of_kind cell kind.Plain offset of_kind visited)) [
      | IsPlainSlot.store same ↦ absurd (omega (arith, same))
      | IsPlainSlot.proto same ↦ absurd (omega (arith, same))
      | IsPlainSlot.own is ↦
          let slot : offset - plain_head ≡ at = omega arith in
          let tagged : is_raw cell.layout at ≡ false = subst (λ n. is_raw cell.layout n ≡ false) slot is.tagged in
          in_object_not_wide path at field there below
          (subst (λ (layout : LayoutWord). is_raw layout at ≡ false) laid tagged) wide
    ]

-- an own field that is visited by no scavenge is wide
not_visited_is_wide : (cell : Cell) (path : Path) (at : ℕ) (field : PathField) (one : Rep) → field.rep ≡ one
    → cell.layout.kind ≡ kind.Plain → cell.layout ≡ layout_of path → slice_get path.fields at ≡ Some field
    → at < path.cap → (Contains (scavenge_offsets cell.layout cell.length) (plain_head + at) → ⊥) → one ≡ rep.Wide
not_visited_is_wide cell path at field rep.Small is of_kind laid there below none =
    absurd (none (in_object_offset cell path at field of_kind laid there below (ap raw_bit is)))
not_visited_is_wide cell path at field rep.Wide is of_kind laid there below none = refl
not_visited_is_wide cell path at field rep.Tagged is of_kind laid there below none =
    absurd (none (in_object_offset cell path at field of_kind laid there below (ap raw_bit is)))

-- the field at a slot is moved, or raw and as it was
pub field_moved : {heap : Heap} {to : ℕ → Option ℕ} {cell : Cell} {words : List ℕ} {at old new : ℕ} (field : PathField)
    → HasSizes heap → HasCell heap cell words → cell.layout.kind ≡ kind.Plain
    → IsPathShape heap.paths cell.header.shape
    → slice_get (shape_path heap.paths cell.header.shape).fields at ≡ Some field → IsMovedSlot to cell at old new
    → IsMovedField to (nat_lt at (shape_path heap.paths cell.header.shape).cap) field.rep old new
field_moved {heap} {cell = cell} {at = at} field sized has of_kind shape there (IsMovedSlot.own below visited is) =
    let path : Path = shape_path heap.paths cell.header.shape in
    let laid : cell.layout ≡ layout_of path = layout_is sized has shape in
    let caps : cell.layout.cap ≡ path.cap = ap (λ (layout : LayoutWord). layout.cap) laid in
    IsMovedField.moved
    (λ own wide. wide_not_visited cell path at field of_kind laid there (omega (arith, below, caps)) visited wide) is
field_moved {heap} {cell = cell} {at = at} field sized has of_kind shape there (IsMovedSlot.raw below none same) =
    let path : Path = shape_path heap.paths cell.header.shape in
    let laid : cell.layout ≡ layout_of path = layout_is sized has shape in
    let caps : cell.layout.cap ≡ path.cap = ap (λ (layout : LayoutWord). layout.cap) laid in
    let within : at < path.cap = omega (arith, below, caps) in
    let test : nat_lt at path.cap ≡ true = grind (arith, nat_tests, within) in
    IsMovedField.raw test (not_visited_is_wide cell path at field field.rep refl of_kind laid there within none) same
field_moved {heap} {cell = cell} {at = at} field sized has of_kind shape there (IsMovedSlot.beside past is) =
    let path : Path = shape_path heap.paths cell.header.shape in
    let laid : cell.layout ≡ layout_of path = layout_is sized has shape in
    let caps : cell.layout.cap ≡ path.cap = ap (λ (layout : LayoutWord). layout.cap) laid in
    let behind : path.cap ≤ at = omega (arith, past, caps) in
    let test : nat_lt at path.cap ≡ false = grind (arith, nat_tests, behind) in
    IsMovedField.moved (λ own wide. absurd (false≢true (sym test ∙ own))) is

module _ {old new : Heap} {to : ℕ → Option ℕ} (moved : IsMoved old new to) where
  -- the slots of a plain object that stays
  pub plain_slots : {cell : Cell} {words others slots : List ℕ} → HasCell old cell words
      → cell.layout.kind ≡ kind.Plain → AreMoved to cell words others → HasSlots old words slots
      → MovedSlots new to cell others slots
  plain_slots {cell} {words} {others} {slots} has of_kind are had =
      let visited : Contains (scavenge_offsets cell.layout cell.length) store_slot =
      slots_by_kind cell kind.Plain store_slot of_kind (plain_has_store cell.layout) in
      let store = store_slot_moved had.store visited are had.slot in
      let next = beside_moved moved store.2 had.stands in
      let own : List ℕ = drop plain_head words in
      let own_now : List ℕ = drop plain_head others in
      let cap : length own ≡ cell.layout.cap =
      omega (arith, length-drop plain_head words, words_by_kind kind.Plain has of_kind) in
      let cap_now : length own_now ≡ cell.layout.cap =
      omega (arith, length-drop plain_head others, are.long, words_by_kind kind.Plain has of_kind) in
      record {
        now = own_now ++ next.others;
        has = record { store = store.0; slot = store.1; beside = next.others; stands = next.stands; are = refl };
        long = length-append own_now next.others ∙ omega (
          arith,
          cap,
          cap_now,
          next.are.long,
          length-append own had.beside,
          ap length had.are,
        );
        each = λ at before word there there_too.
            let in_both : HasWord (own ++ had.beside) at before = subst (λ all. HasWord all at before) had.are there in
            elim (cases_lt at cell.layout.cap) [
              | inl below ↦ own_slot at before word below are
                  (sym (slice_get-drop plain_head words at (plain_head + at) refl)
                  ∙ sym (slice_get-append_left own had.beside at (omega (arith, cap))) ∙ in_both)
                  (sym (slice_get-drop plain_head others at (plain_head + at) refl)
                  ∙ sym (slice_get-append_left own_now next.others at (omega (arith, cap_now))) ∙ there_too)
              | inr past ↦
                  let k : ℕ = at - cell.layout.cap in
                  IsMovedSlot.beside past (next.are.each k before word
                  (sym (slice_get-append_right own had.beside k at (omega (arith, cap))) ∙ in_both)
                  (sym (slice_get-append_right own_now next.others k at (omega (arith, cap_now))) ∙ there_too))
            ];
      }
