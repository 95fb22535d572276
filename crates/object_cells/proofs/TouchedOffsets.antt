-- Which addresses of a cell are slots that a scavenge visits, by its kind.
use Rattle.std.proofs.Common.{◌≡◌, ℕ, ◌+◌, ◌-◌, ◌*◌, ◌≤◌, ◌<◌, [], Contains, IsTrue, refl, sym, subst, arith}
use Rattle.std.specs.List.{range_with_len}
use Rattle.std.proofs.lemmas.Bool.{false≢true}
use Rattle.tagged_word.specs.declared.layout.Kind.TheVariants as kind
use Rattle.tagged_word.specs.Cells.{scavenge_offsets_of, is_object_kind, is_free_kind, has_length}
use Rattle.tagged_word.specs.Cells.{store_head, store_slot, length_offset}
use Rattle.tagged_word.proofs.Members.{one_in, in_range, range_bounds}
use Rattle.tagged_word.proofs.Offsets.{IsPlainSlot, plain_slot_is}
use Rattle.heap_model.specs.Types.{Kind, LayoutWord, Cell}
use Rattle.heap_model.specs.Kinds.{count_offset}
use Rattle.heap_model.specs.Remembered.{IsSlotOf}
use Rattle.heap_model.proofs.CellWords.{slots_by_kind, slots_of_kind}
use Rattle.heap_model.proofs.ObjectSlots.{store_slot_in}

-- an address at an offset of slots of the cell's kind is a slot
pub slot_by_kind : {cell : Cell} {at : ℕ} (of : Kind) (offset : ℕ) → cell.layout.kind ≡ of → cell.at + offset ≡ at
    → Contains (scavenge_offsets_of of cell.layout cell.length) offset → IsSlotOf cell at
slot_by_kind {cell} of offset of_kind stands there =
    record { offset = offset; visited = slots_by_kind cell of offset of_kind there; stands = stands }

-- and the offset of a slot is one of the slots of its kind
pub offset_by_kind : {cell : Cell} {at : ℕ} (of : Kind) → cell.layout.kind ≡ of → (slot : IsSlotOf cell at)
    → Contains (scavenge_offsets_of of cell.layout cell.length) slot.offset
offset_by_kind {cell} of of_kind slot = slots_of_kind cell of slot.offset of_kind slot.visited

-- nothing is in a list of nothing
none_in : (offset : ℕ) → Contains [] offset → ⊥
none_in offset (k, within, is) = omega (arith, within)

-- each slot stands behind the header, kind by kind
behind_header_of : (k : Kind) (layout : LayoutWord) (long offset : ℕ)
    → Contains (scavenge_offsets_of k layout long) offset → 1 ≤ offset
behind_header_of kind.Plain layout long offset there =
    elim (plain_slot_is layout offset there) [
      | IsPlainSlot.store same ↦ omega (arith, same)
      | IsPlainSlot.proto same ↦ omega (arith, same)
      | IsPlainSlot.own own ↦ omega (arith, own.behind)
    ]
behind_header_of kind.List layout long offset there = let same = one_in store_slot offset there in omega (arith, same)
behind_header_of kind.Weak layout long offset there = let same = one_in store_slot offset there in omega (arith, same)
behind_header_of kind.Store layout long offset there =
    let within = range_bounds store_head long offset there in omega (arith, within)
behind_header_of kind.Table layout long offset there =
    let within = range_bounds store_head (2 * long) offset there in omega (arith, within)
behind_header_of kind.Boxed layout long offset there = absurd (none_in offset there)
behind_header_of kind.Filler layout long offset there = absurd (none_in offset there)
behind_header_of kind.Gap layout long offset there = absurd (none_in offset there)

-- the header of a cell is no slot
pub header_is_no_slot : (cell : Cell) → IsSlotOf cell cell.at → ⊥
header_is_no_slot cell slot =
    let behind = behind_header_of cell.layout.kind cell.layout cell.length slot.offset slot.visited in
    omega (arith, slot.stands, behind)

-- where a cell has a length, no slot stands there, kind by kind
behind_length_of : (k : Kind) (layout : LayoutWord) (long offset : ℕ) → IsTrue (has_length k)
    → Contains (scavenge_offsets_of k layout long) offset → length_offset < offset
behind_length_of kind.Store layout long offset is there =
    let within = range_bounds store_head long offset there in omega (arith, within)
behind_length_of kind.Table layout long offset is there =
    let within = range_bounds store_head (2 * long) offset there in omega (arith, within)
behind_length_of kind.Gap layout long offset is there = absurd (none_in offset there)
behind_length_of _ layout long offset is there = absurd (false≢true is)

-- a box has no slots
pub box_has_no_slots : {cell : Cell} {at : ℕ} → cell.layout.kind ≡ kind.Boxed → IsSlotOf cell at → ⊥
box_has_no_slots of_kind slot = none_in slot.offset (offset_by_kind kind.Boxed of_kind slot)

-- what is free has none, kind by kind
free_of : (k : Kind) (layout : LayoutWord) (long offset : ℕ) → IsTrue (is_free_kind k)
    → Contains (scavenge_offsets_of k layout long) offset → ⊥
free_of kind.Filler layout long offset is there = none_in offset there
free_of kind.Gap layout long offset is there = none_in offset there
free_of _ layout long offset is there = absurd (false≢true is)

-- a filler or a gap has none
pub free_has_no_slots : {cell : Cell} {at : ℕ} → IsTrue (is_free_kind cell.layout.kind) → IsSlotOf cell at → ⊥
free_has_no_slots {cell} is slot =
    free_of cell.layout.kind cell.layout cell.length slot.offset is slot.visited

-- an object has the slot of its store or table
pub object_store_slot : (cell : Cell) → IsTrue (is_object_kind cell.layout.kind) → IsSlotOf cell (cell.at + store_slot)
object_store_slot cell is = record {
  offset = store_slot;
  visited = store_slot_in cell.layout.kind cell.layout cell.length is;
  stands = refl;
}

-- a list has no other
pub list_slot : {cell : Cell} {at : ℕ} → cell.layout.kind ≡ kind.List → IsSlotOf cell at → cell.at + store_slot ≡ at
list_slot of_kind slot =
    let same = one_in store_slot slot.offset (offset_by_kind kind.List of_kind slot) in omega (arith, same, slot.stands)

-- nor has a weak map
pub weak_slot : {cell : Cell} {at : ℕ} → cell.layout.kind ≡ kind.Weak → IsSlotOf cell at → cell.at + store_slot ≡ at
weak_slot of_kind slot =
    let same = one_in store_slot slot.offset (offset_by_kind kind.Weak of_kind slot) in omega (arith, same, slot.stands)

-- nor is the count of a weak map
pub weak_count_is_no_slot : (cell : Cell) → cell.layout.kind ≡ kind.Weak → IsSlotOf cell (cell.at + count_offset) → ⊥
weak_count_is_no_slot cell of_kind slot = let same = weak_slot of_kind slot in omega (arith, same)

-- the address is one of so many words behind the head of a store or a table
pub record IsBehindHead (cell : Cell) (many at : ℕ) : Type 0 where
  pub from : cell.at + store_head ≤ at
  pub below : at < cell.at + (store_head + many)

-- where the slots of a kind are so many behind the head, a cell of it has these
behind_head_slot : {cell : Cell} {at : ℕ} (of : Kind) (many : ℕ) → cell.layout.kind ≡ of
    → scavenge_offsets_of of cell.layout cell.length ≡ range_with_len store_head many
    → IsBehindHead cell many at → IsSlotOf cell at
behind_head_slot {cell} {at} of many of_kind are behind =
    let offset : ℕ = at - cell.at in
    let stands : cell.at + offset ≡ at = omega (arith, behind.from) in
    let there : Contains (range_with_len store_head many) offset =
    in_range store_head many offset (omega (arith, stands, behind.from)) (omega (arith, stands, behind.below)) in
    slot_by_kind of offset of_kind stands (subst (λ offsets. Contains offsets offset) (sym are) there)

-- and no others
slot_behind_head : {cell : Cell} {at : ℕ} (of : Kind) (many : ℕ) → cell.layout.kind ≡ of
    → scavenge_offsets_of of cell.layout cell.length ≡ range_with_len store_head many
    → IsSlotOf cell at → IsBehindHead cell many at
slot_behind_head of many of_kind are slot =
    let there = subst (λ offsets. Contains offsets slot.offset) are (offset_by_kind of of_kind slot) in
    let within = range_bounds store_head many slot.offset there in
    record { from = omega (arith, within, slot.stands); below = omega (arith, within, slot.stands) }

-- the slots of a store are as many as its length
pub store_has_slot : {cell : Cell} {at : ℕ} → cell.layout.kind ≡ kind.Store → IsBehindHead cell cell.length at
    → IsSlotOf cell at
store_has_slot {cell} of_kind behind = behind_head_slot kind.Store cell.length of_kind refl behind

-- and no others
pub slot_of_store : {cell : Cell} {at : ℕ} → cell.layout.kind ≡ kind.Store → IsSlotOf cell at
    → IsBehindHead cell cell.length at
slot_of_store {cell} of_kind slot = slot_behind_head kind.Store cell.length of_kind refl slot

-- the slots of a table are twice as many as its length
pub table_has_slot : {cell : Cell} {at : ℕ} → cell.layout.kind ≡ kind.Table → IsBehindHead cell (2 * cell.length) at
    → IsSlotOf cell at
table_has_slot {cell} of_kind behind = behind_head_slot kind.Table (2 * cell.length) of_kind refl behind

-- and no others
pub slot_of_table : {cell : Cell} {at : ℕ} → cell.layout.kind ≡ kind.Table → IsSlotOf cell at
    → IsBehindHead cell (2 * cell.length) at
slot_of_table {cell} of_kind slot = slot_behind_head kind.Table (2 * cell.length) of_kind refl slot
