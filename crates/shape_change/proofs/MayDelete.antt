-- What the mutator may do in an open cycle while it takes a field out of a plain object, whose cell it makes black.
use Rattle.std.proofs.Common.{◌≡◌, ℕ, suc, ◌+◌, ◌-◌, ◌<◌, ◌≤◌, true, inl, inr, Contains, List, Some, length, slice_get}
use Rattle.std.proofs.Common.{sym, ◌∙◌, ap, subst, arith}
use Rattle.std.specs.Prelude.{Ok}
use Rattle.std.proofs.lemmas.Bool.{cases_lt, lt-ltb}
use Rattle.tagged_word.specs.declared.layout.Kind.TheVariants as kind
use Rattle.tagged_word.specs.Cells.{plain_head, store_head}
use Rattle.page_space.specs.Extents.{eden_start, layouts_start}
use Rattle.page_space.proofs.Starts.{layouts_start_is}
use Rattle.mark_world.specs.Cycles.{Cycle}
use Rattle.mark_world.specs.declared.event.Event.TheVariants as event
use Rattle.object_graph.specs.declared.value.Rep.TheVariants as rep
use Rattle.heap_model.specs.Types.{Path, Rep}
use Rattle.heap_model.specs.Heaps.{Heap}
use Rattle.heap_model.specs.Remembered.{Touch}
use Rattle.heap_model.specs.Wholeness.{Whole}
use Rattle.shape_tree.specs.Shapes.{shape_path}
use Rattle.write_barrier.specs.Marking.{MayPut, MayPutHeader, with_blackened}
use Rattle.write_barrier.specs.MutatorState.{Mutator, heap_of, with_word}
use Rattle.write_barrier.specs.Seats.{heap_words}
use Rattle.write_barrier.specs.Storing.{MayChange, MayHold, StoresOn}
use Rattle.write_barrier.specs.SureStores.{StoresBlack}
use Rattle.write_barrier.proofs.BlackenedOn.{black_is_mine, may_change_black, may_hold_black}
use Rattle.write_barrier.proofs.MayPuts.{may_put_black, may_put_own_header}
use Rattle.write_barrier.proofs.SlotStores.{header_stores_on}
use Rattle.write_barrier.proofs.StoresOn.{may_change_stays, may_hold_stays, stores_on_again}
use Rattle.object_cells.specs.CellsAt.{HasField}
use Rattle.shape_change.specs.Deletions.{DrawsInFirst, FindsWithout, HasStoreAt, IsDrawnIn, MayTakeOut}
use Rattle.shape_change.specs.Shifts.{MayChangeStore, MayCloseSlots, MayMoveDown, MayRefill, field_touch, fields_beside}
use Rattle.shape_change.specs.Shifts.{own_touch, rep_touch}
use Rattle.shape_change.proofs.FieldsLess.{less_behind}
use Rattle.shape_change.proofs.MayMove.{refill_stays, store_stays}
use Rattle.shape_change.proofs.SamePages.{pages_same}
use Rattle.shape_change.proofs.SlotAddresses.{slot_at-own, slot_at-beside}
use Rattle.shape_change.proofs.SlotTouches.{own_touch_at}
use Rattle.shape_change.proofs.StoresFound.{fields_stand, first_there, own_stands}
use Rattle.shape_change.proofs.TakenOut.{one_fewer}

-- what comes into the object as a slot's word is the word of the store
drawn_as_is : (heap : Heap) {word drawn : ℕ} (one : Rep) → rep_touch one ≡ Touch.Stored → IsDrawnIn heap one word drawn
    → drawn ≡ word
drawn_as_is heap rep.Small stored is = is
drawn_as_is heap rep.Wide stored is = absurd (cc)
drawn_as_is heap rep.Tagged stored is = is

module _ {old mid : Mutator} {object shape slot next : ℕ} (may : MayTakeOut old object shape)
    (whole : Whole (heap_of old))
    (there : HasField (heap_of old) object shape slot) (found : FindsWithout old mid shape slot (Ok next))
    (stores : StoresOn old mid) where
  -- the path before
  abbrev before : Path
  before = shape_path old.paths shape

  -- and the one without the field
  abbrev now : Path
  now = shape_path mid.paths next

  -- the mutator once the object's cell is black
  abbrev pub dark : Mutator
  dark = with_blackened mid object

  -- the object's cell may be made black
  pub may_blacken : MayPut mid object (event.Blacken object)
  may_blacken =
      may_put_black (may_change_stays stores may.may) (λ below mark.
      subst (λ (list : List ℕ). Contains list object) (sym (ap (λ (one : Cycle). one.born) stores.cycle))
      (may.born (omega (arith, below, ap eden_start stores.space)) (sym stores.phase ∙ mark)))

  -- then any of its words may be put
  pub dark_refills : MayRefill dark object now.cap
  dark_refills =
      let change : MayChange mid object (plain_head + before.cap) kind.Plain = may_change_stays stores may.may in
      record {
        may = subst (λ n. MayChange dark object (plain_head + n) kind.Plain) (sym (one_fewer whole there found).cap)
            (may_change_black object may_blacken change);
        mine = λ below mark. black_is_mine object (change below mark).readable below mark;
      }

  -- the field of a slot that moves is that of the next slot before
  field_now : (one : ℕ) → slot ≤ one → slice_get now.fields one ≡ slice_get before.fields (suc one)
  field_now one low =
      ap (λ (p : Path). slice_get p.fields one) found.0.shape_is.of_path ∙ less_behind before.fields slot one low

  -- a word of the heap may be held that might before the path was added
  dark_holds : {word : ℕ} → MayHold old word → MayHold dark word
  dark_holds holds = may_hold_black object (may_hold_stays stores holds)

  -- so may one of an in-object slot that comes one down as a slot's word
  own_holds : (one word : ℕ) → slot ≤ one → suc one < before.cap
      → field_touch true (slice_get now.fields one) ≡ Touch.Stored
      → slice_get (heap_words dark.seat) (object + (plain_head + suc one)) ≡ Some word → MayHold dark word
  own_holds one word low below stored stands =
      let own = own_stands whole there in
      let within : object + (plain_head + suc one) < layouts_start old.seat.space =
      omega (arith, own, below, layouts_start_is old.seat.space) in
      dark_holds (may.own (suc one) word below (ap (field_touch true) (sym (field_now one low)) ∙ stored)
      (sym (found.2.same (object + (plain_head + suc one)) within) ∙ stands))

  -- and one of a slot of the store
  beside_holds : (store one word : ℕ) → HasStoreAt (heap_of old) object store
      → before.cap < length before.fields → one < fields_beside before
      → slice_get (heap_words dark.seat) (store + (store_head + one)) ≡ Some word → MayHold dark word
  beside_holds store one word stored some below stands =
      let stand = fields_stand store whole there (λ more. stored) in
      let within : store + (store_head + one) < layouts_start old.seat.space =
      omega (arith, stand.beside some, below, layouts_start_is old.seat.space) in
      dark_holds (may.beside store one word stored below
      (sym (found.2.same (store + (store_head + one)) within) ∙ stands))

  -- where all fields stand in the object its slots may move down
  pub dark_own_moves : length before.fields ≤ before.cap
      → MayMoveDown dark (object + (plain_head + slot)) (object + (plain_head + length now.fields))
      (own_touch now object)
  dark_own_moves own = record {
    holds = λ at word low high stored stands.
        let one : ℕ = at - (object + plain_head) in
        let is : object + (plain_head + one) ≡ at = omega (arith, low) in
        let fewer = one_fewer whole there found in
        own_holds one word (omega (arith, low)) (omega (arith, high, own, fewer.fields))
        (sym (own_touch_at now object one) ∙ ap (own_touch now object) is ∙ stored)
        (ap (slice_get (heap_words dark.seat)) (omega (arith, is)) ∙ stands);
  }

  -- the words of its store may be put
  pub dark_store : (store : ℕ) → HasStoreAt (heap_of old) object store → before.cap < length before.fields
      → MayChangeStore dark store (fields_beside now + 1)
  dark_store store stored some =
      let fewer = one_fewer whole there found in
      let change = store_stays stores (may.may_beside store stored) in
      record {
        size = change.size;
        long = omega (arith, change.long, fewer.cap, fewer.fields, some);
        may = may_change_black object may_blacken change.may;
      }

  -- and its slots and those of its store may be closed
  pub dark_closes : (store first : ℕ) → before.cap < length before.fields → HasStoreAt (heap_of old) object store
      → DrawsInFirst (heap_of old) store shape first
      → MayCloseSlots dark object now.cap store slot (length now.fields) first now
  dark_closes store first some stored draws =
      let fewer = one_fewer whole there found in
      record {
        moved = λ one word low high apart touch stands. elim (cases_lt one now.cap) [
          | inl below ↦
              own_holds one word low (omega (arith, below, apart, fewer.cap))
              (ap (λ test. field_touch test (slice_get now.fields one)) (sym (lt-ltb one now.cap below)) ∙ touch)
              (ap (slice_get (heap_words dark.seat)) (sym (slot_at-own object now.cap store (suc one)
              (omega (arith, below, apart)))) ∙ stands)
          | inr behind ↦
              beside_holds store (suc one - now.cap) word stored some
              (omega (arith, behind, high, fewer.cap, fewer.fields))
              (ap (slice_get (heap_words dark.seat)) (sym (slot_at-beside object now.cap store (suc one)
              (omega (arith, behind)))) ∙ stands)
        ];
        drawn = λ one low high same touch.
            let has = first_there whole there some stored in
            let field : slice_get now.fields one ≡ Some has.field =
            field_now one low ∙ ap (slice_get before.fields) (same ∙ fewer.cap) ∙ has.among in
            let tagged = ap (field_touch true) (sym field)
            ∙ ap (λ test. field_touch test (slice_get now.fields one))
            (sym (lt-ltb one now.cap (omega (arith, same)))) ∙ touch in
            subst (MayHold dark) (sym (drawn_as_is (heap_of old) has.field.rep tagged
            (draws has.field has.word has.among has.stands)))
            (dark_holds (may.beside store 0 has.word stored (omega (arith, some))
            (ap (slice_get (heap_words old.seat)) (omega arith) ∙ has.stands)));
      }

  module _ {closed : Mutator} (on : StoresOn dark closed) (bits : ℕ) where
    -- in the end any header may be put
    pub dark_heads : MayPutHeader closed object bits
    dark_heads =
        let refills = refill_stays on dark_refills in
        may_put_own_header bits refills.may (omega arith) refills.mine

    -- so words were stored once the object's cell was black
    pub took_black : {new : Mutator} → new ≡ with_word closed object bits → StoresBlack old new object
    took_black is =
        let below : object < layouts_start closed.seat.space =
        omega (
          arith,
          own_stands whole there,
          layouts_start_is old.seat.space,
          ap layouts_start on.space,
          ap layouts_start stores.space,
        ) in
        record {
          mid = mid;
          before = stores;
          words = pages_same old mid found.2.beside.space found.2.count found.2.same;
          may = may_blacken;
          after = stores_on_again on (subst (StoresOn closed) (sym is) (header_stores_on object bits below dark_heads));
        }
