-- Where a field was taken out of a plain object, only words of its own cells were written, and its cell has as many
-- slots.
use Rattle.std.proofs.Common.{◌≡◌, ◌≢◌, ℕ, ◌+◌, ◌<◌, inl, List, [], Contains, Some, slice_get, refl, sym, ◌∙◌, ap}
use Rattle.std.proofs.Common.{subst, arith, ◌∷◌, ◌++◌, length}
use Rattle.tagged_word.specs.Cells.{plain_head, store_head, length_offset, store_slot, proto_slot, is_object_kind}
use Rattle.page_space.specs.Extents.{Space, layouts_start, eden_start}
use Rattle.page_space.proofs.Starts.{layouts_start_is}
use Rattle.heap_model.specs.Types.{Field, Path, Cell}
use Rattle.object_graph.specs.Paths.{missing}
use Rattle.object_graph.specs.Limits.{paths_most}
use Rattle.object_graph.proofs.AddedPaths.{with_path-is}
use Rattle.shape_tree.specs.Shapes.{shape_path, without}
use Rattle.cell_layout.specs.Cells.{IsRow}
use Rattle.heap_model.proofs.CellsApart.{first_of_cell}
use Rattle.nursery.specs.Young.{Young}
use Rattle.write_barrier.specs.Seats.{heap_words}
use Rattle.write_barrier.specs.MutatorState.{Mutator, heap_of}
use Rattle.tagged_word.specs.declared.layout.Kind.TheVariants as kind
use Rattle.object_cells.specs.CellWrites.{IsInCell, IsWrittenOfKind, Becomes, reshaped}
use Rattle.object_cells.specs.SlotChanges.{WritesFields}
use Rattle.object_cells.proofs.StoreCells.{store_cells, is_store_cell, store_at}
use Rattle.shape_change.proofs.SlotAddresses.{head_is_apart, IsOfObject, slot_is_of_object, SlotsStand, slot_read}
use Rattle.shape_change.proofs.DeletedSlots.{Deleting, cap_is, room_is, address, address_is, all_stand, NowHolds}
use Rattle.shape_change.proofs.DeletedSlots.{now_holds}
use Rattle.std.proofs.lemmas.Bool.Decides.{nat_tests}
use Rattle.std.proofs.lemmas.Option.{slice_get_within}
use Rattle.tagged_word.proofs.Members.{first_in}
use Rattle.heap_model.specs.Heaps.{Heap, HasCell, words_of_cell}
use Rattle.heap_model.specs.Kinds.{HasWord}
use Rattle.heap_model.specs.Changes.{IsRunOf, CellsChange}
use Rattle.shape_change.specs.Shifts.{slot_at}
use Rattle.object_cells.proofs.CellsRead.{word_stands}
use Rattle.object_cells.proofs.OneField.{SlotsAfter, slots_again}
use Rattle.object_cells.proofs.OwnerWrites.{plain_owns, becomes_cap, written_own_keeps_cells}
use Rattle.object_cells.proofs.SlotsNow.{beside_stands, plain_cell_size, word_at_offset}

-- no slot stands where a word of the head does
head_is_no_slot : (heap : Heap) (object cap store count offset one : ℕ) → SlotsStand heap object cap store count
    → offset < plain_head → one < count → slot_at object cap store one ≢ object + offset
head_is_no_slot heap object cap store count offset one stand head below same = grind (arith, nat_tests, stand.apart)

module _ {old new : Mutator} {cell : Cell} {slot : ℕ} {fields : List Field}
    (deleting : Deleting old new cell slot fields) where
  -- the store of the object, if it has one
  abbrev pub others_of : List Cell
  others_of = store_cells deleting.shows.has.stands

  -- neither the header nor the length of the store changed
  head_stays : (k : ℕ) (other : Cell) → Contains others_of other → k < store_head
      → slice_get (heap_words new.seat) (other.at + k) ≡ slice_get (heap_words old.seat) (other.at + k)
  head_stays k other there head =
      let shows = deleting.shows in
      let is = is_store_cell shows.has.stands other there in
      let apart = head_is_apart k deleting.whole deleting.has shows.of_kind shows.has is head in
      deleting.taken.stay (other.at + k) (omega (arith, apart.below, layouts_start_is old.seat.space)) apart.object
      (λ one low high same. apart.slots one (omega (arith, room_is deleting, high))
      (sym (address_is deleting one high) ∙ same))

  -- the store is written beside the object
  written_beside : (other : Cell) → Contains others_of other
      → IsWrittenOfKind kind.Store (heap_of old) (heap_of new) other
  written_beside other there =
      let is = is_store_cell deleting.shows.has.stands other there in
      let first : other.at + 0 ≡ other.at = omega arith in
      record {
        stood = is.refers.has;
        of_kind = inl is.of_kind;
        header = ap (slice_get (heap_words new.seat)) (sym first) ∙ head_stays 0 other there (omega arith)
            ∙ ap (slice_get (heap_words old.seat)) first;
        length = λ store. head_stays length_offset other there (omega arith);
      }

  -- no other word changed
  others_stay : (at : ℕ) → at < layouts_start old.seat.space → (IsInCell at cell → ⊥)
      → ((other : Cell) → Contains others_of other → IsInCell at other → ⊥)
      → slice_get (heap_words new.seat) at ≡ slice_get (heap_words old.seat) at
  others_stay at below not_own not_beside =
      let shows = deleting.shows in
      let first = first_of_cell deleting.has in
      let of_cell : cell.at ≢ at = λ same.
      not_own (record { from = omega (arith, same); below = omega (arith, same, first.below) }) in
      deleting.taken.stay at below of_cell (λ one low high same.
      let is = slot_is_of_object one deleting.has shows.of_kind shows.has (omega (arith, room_is deleting, high)) in
      let stands : address deleting one ≡ at = sym (address_is deleting one high) ∙ same in
      elim is [
        | IsOfObject.in_object in_cell ↦ not_own (subst (λ n. IsInCell n cell) stands in_cell)
        | IsOfObject.in_store other there in_cell ↦
            not_beside other there (subst (λ n. IsInCell n other) stands in_cell)
      ])

  -- only words of the object's own cells were written
  pub deleted_writes : WritesFields (heap_of old) (heap_of new) cell deleting.taken.next others_of []
  deleted_writes =
      let taken = deleting.taken in
      let used = ap (λ (young : Young). young.used) taken.young in
      let survivors = ap (λ (young : Young). young.survivors) taken.young in
      let young = ap (λ (space : Space). space.sizes.young) taken.beside.space in
      let path : Path = without (shape_path old.paths cell.header.shape) slot in
      let behind : ℕ = eden_start old.seat.space + old.young.used in
      record {
        same_space = taken.beside.space;
        same_survivors = survivors;
        room = omega (arith, used, survivors, young, deleting.whole.rows.few);
        more = missing old.paths path;
        paths = sym (with_path-is (Some paths_most) old.paths new.paths path taken.leads.added);
        sized = taken.sized;
        stood = deleting.has;
        of_kind = deleting.shows.of_kind;
        becomes = Becomes.other_shape (record {
          plain = deleting.shows.of_kind;
          is = refl;
          is_shape = taken.leads.shape_is.is_shape;
          cap = ap (λ (p : Path). p.cap) taken.leads.shape_is.of_path ∙ taken.caps ∙ cap_is deleting;
          header = taken.headed;
        });
        beside = λ other there. written_beside other there;
        from = behind;
        to = behind;
        run = IsRunOf.of_eden refl (omega (arith, used)) (omega (arith, used));
        made_stand = IsRow.none behind;
        stay = λ at below not_own not_beside not_new. others_stay at below not_own not_beside;
      }

  -- the cell with the new shape
  abbrev pub one_of : Cell
  one_of = reshaped new.paths cell deleting.taken.next

  -- the words of the head behind the header stay
  pub behind_header_stays : (offset : ℕ) → 0 < offset → offset < plain_head
      → slice_get (heap_words new.seat) (cell.at + offset) ≡ slice_get (heap_words old.seat) (cell.at + offset)
  behind_header_stays offset behind head =
      let are = deleting.shows.has in
      let stand = all_stand deleting in
      let count : ℕ = length deleting.shows.slots in
      deleting.taken.stay (cell.at + offset) (omega (arith, stand.own, head, layouts_start_is old.seat.space))
      (λ same. omega (arith, same, behind))
      (λ one low high same. head_is_no_slot (heap_of old) cell.at cell.layout.cap (store_at are.stands) count offset one
      stand head (omega (arith, room_is deleting, high)) (sym (address_is deleting one high) ∙ same))

  -- the object's cell and its store stand again
  cells_come : CellsChange (heap_of old) (heap_of new) (cell ∷ others_of) (one_of ∷ others_of) []
  cells_come = (written_own_keeps_cells plain_owns deleting.whole deleted_writes).1

  -- the object's with the new shape
  has_one : HasCell (heap_of new) one_of (words_of_cell (heap_of new) one_of)
  has_one = cells_come.comes one_of (first_in one_of (others_of ++ []))

  -- its prototype stays
  pub proto_stays : slice_get (words_of_cell (heap_of new) one_of) proto_slot
      ≡ slice_get (words_of_cell (heap_of old) cell) proto_slot
  proto_stays =
      let within : proto_slot < cell.size = omega (arith, plain_cell_size deleting.has deleting.shows.of_kind) in
      word_at_offset proto_slot has_one within ∙ behind_header_stays proto_slot (omega arith) (omega arith)
      ∙ sym (word_at_offset proto_slot deleting.has within)

  -- so the object's has as many slots, and its store is the same
  pub slots_now : SlotsAfter (heap_of new) one_of deleting.shows.has
  slots_now =
      let was = deleting.shows.has in
      let plain = deleting.shows.of_kind in
      let object = ap is_object_kind plain in
      slots_again deleting.has has_one refl (λ other words stood store. beside_stands object cells_come stood store) was
      (word_at_offset store_slot has_one (omega (arith, plain_cell_size deleting.has plain))
      ∙ behind_header_stays store_slot (omega arith) (omega arith)
      ∙ word_stands store_slot was.store deleting.has was.slot)

  -- and this is what each holds
  pub now_read : (one word : ℕ) → HasWord slots_now.now one word → NowHolds deleting one word
  now_read one word there =
      let slots = slots_now in
      let below : one < length slots.now = slice_get_within slots.now one word there in
      let caps : one_of.layout.cap ≡ cell.layout.cap = becomes_cap deleted_writes.becomes in
      let at : slot_at cell.at one_of.layout.cap (store_at slots.are.stands) one ≡ address deleting one =
      ap (λ n. slot_at cell.at n (store_at slots.are.stands) one) caps
      ∙ ap (λ n. slot_at cell.at cell.layout.cap n one) slots.at in
      now_holds deleting one word (omega (arith, below, slots.long))
      (ap (slice_get (heap_words new.seat)) (sym at) ∙ slot_read one has_one refl slots.are below ∙ there)
