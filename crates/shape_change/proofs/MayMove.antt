-- Which words of a plain object's cells the mutator may put in an open cycle, while slots move down.
use Rattle.std.proofs.Common.{◌≡◌, ℕ, suc, ◌+◌, ◌-◌, ◌<◌, ◌≤◌, false, inr, Contains, List, Some, length, slice_get}
use Rattle.std.proofs.Common.{refl, sym, ◌∙◌, ap, subst, arith}
use Rattle.std.proofs.lemmas.Bool.{lt-ltb, le-ltb}
use Rattle.std.proofs.lemmas.Bool.Decides.{nat_tests}
use Rattle.tagged_word.specs.declared.layout.Kind.TheVariants as kind
use Rattle.tagged_word.specs.Cells.{plain_head, store_head}
use Rattle.page_space.specs.Extents.{Space, eden_start, layouts_start, marks_start}
use Rattle.page_space.proofs.Starts.{layouts_start_is, marks_start_is}
use Rattle.mark_world.specs.Cycles.{Cycle}
use Rattle.mark_world.specs.declared.event.Event.TheVariants as event
use Rattle.cycle_state.specs.Claims.{is_head_in}
use Rattle.heap_model.specs.Types.{Path, Word}
use Rattle.heap_model.specs.Remembered.{Touch}
use Rattle.heap_model.specs.Slots.{hole_word}
use Rattle.write_barrier.specs.Marking.{MayPut}
use Rattle.write_barrier.specs.MutatorState.{Mutator, with_slot, with_word}
use Rattle.write_barrier.specs.Recording.{touched_one}
use Rattle.write_barrier.specs.SureStores.{StoresSurely}
use Rattle.write_barrier.proofs.SlotStores.{slot_stores_on, word_stores_on}
use Rattle.write_barrier.proofs.SureStores.{slot_surely}
use Rattle.write_barrier.specs.Seats.{heap_words}
use Rattle.write_barrier.specs.Storing.{StoresOn, MayHold}
use Rattle.write_barrier.proofs.StoresOn.{may_change_stays, may_hold_stays}
use Rattle.write_barrier.proofs.MayPuts.{may_put_slot, may_put_mine}
use Rattle.object_cells.proofs.HoldableWords.{hole_may_hold}
use Rattle.shape_change.specs.Shifts.{MayRefill, MayChangeStore, MayMoveDown, MayCloseSlots, slot_at, own_touch}
use Rattle.shape_change.specs.Shifts.{beside_touch, field_touch, ClosesGap, KeepsBeside}
use Rattle.shape_change.proofs.SlotAddresses.{slot_at-own, slot_at-beside}
use Rattle.shape_change.proofs.SlotTouches.{own_touch_at}
use Rattle.shape_change.proofs.SlotsClosed.{RangesDisjoint, beside_is_not_own}

-- an object's words stay the mutator's to change while words are stored
pub refill_stays : {old new : Mutator} {object cap : ℕ} → StoresOn old new → MayRefill old object cap
    → MayRefill new object cap
refill_stays {new = new} {object} stores may = record {
  may = may_change_stays stores may.may;
  mine = λ below mark. subst (λ (list : List ℕ). Contains list object)
      (sym (ap (λ (one : Cycle). one.mine) stores.cycle))
      (may.mine (omega (arith, below, ap eden_start stores.space)) (sym stores.phase ∙ mark));
}

-- and so do a store's
pub store_stays : {old new : Mutator} {store count : ℕ} → StoresOn old new → MayChangeStore old store count
    → MayChangeStore new store count
store_stays stores may = record { size = may.size; long = may.long; may = may_change_stays stores may.may }

-- of a store of so many slots so are those of fewer
pub store_fewer : {main : Mutator} {store count few : ℕ} → few ≤ count → MayChangeStore main store count
    → MayChangeStore main store few
store_fewer fewer may = record { size = may.size; long = omega (arith, fewer, may.long); may = may.may }

-- an address before the layout words is before the marks
pub before_marks : (space : Space) (at : ℕ) → at < layouts_start space → at < marks_start space
before_marks space at below = omega (arith, below, layouts_start_is space, marks_start_is space)

-- no slot of a plain object stands in its head
own_is_no_head : (slot : ℕ) → is_head_in kind.Plain (plain_head + slot) ≡ false
own_is_no_head slot = grind (arith, nat_tests)

-- nor one of a store
beside_is_no_head : (slot : ℕ) → is_head_in kind.Store (store_head + slot) ≡ false
beside_is_no_head slot = grind (arith, nat_tests)

-- any word may be put in an in-object slot as no slot's
pub own_word_may : {main : Mutator} {object cap : ℕ} (slot word : ℕ) → MayRefill main object cap → slot < cap
    → MayPut main (object + (plain_head + slot)) (event.StoreOwned (object + (plain_head + slot)) word)
own_word_may slot word may below = may_put_mine (plain_head + slot) word may.may (omega (arith, below)) may.mine

-- and as a slot's one that may be held
pub own_slot_may : {main : Mutator} {object cap : ℕ} (slot word : ℕ) → MayRefill main object cap → slot < cap
    → MayHold main word
    → MayPut main (object + (plain_head + slot)) (event.StoreSlot (object + (plain_head + slot)) word)
own_slot_may slot word may below holds =
    may_put_slot (plain_head + slot) word may.may (omega (arith, below)) (own_is_no_head slot) holds

-- so it may in a slot of a store
pub beside_slot_may : {main : Mutator} {store count : ℕ} (slot word : ℕ) → MayChangeStore main store count
    → slot < count → MayHold main word
    → MayPut main (store + (store_head + slot)) (event.StoreSlot (store + (store_head + slot)) word)
beside_slot_may slot word may below holds =
    may_put_slot (store_head + slot) word may.may (omega (arith, below, may.long)) (beside_is_no_head slot) holds

-- so words are stored then
pub own_word_on : {old new : Mutator} {object cap : ℕ} (slot word : ℕ)
    → new ≡ with_word old (object + (plain_head + slot)) word → MayRefill old object cap → slot < cap
    → object + (plain_head + slot) < layouts_start old.seat.space → StoresOn old new
own_word_on {old} {object = object} slot word is may below within =
    subst (StoresOn old) (sym is) (word_stores_on (object + (plain_head + slot)) word within
    (own_word_may slot word may below))

-- also as slots' words
pub own_slot_on : {old new : Mutator} {object cap : ℕ} (slot word : ℕ)
    → new ≡ with_slot old (object + (plain_head + slot)) word → MayRefill old object cap → slot < cap
    → MayHold old word → object + (plain_head + slot) < layouts_start old.seat.space → StoresOn old new
own_slot_on {old} {object = object} slot word is may below holds within =
    subst (StoresOn old) (sym is) (slot_stores_on (object + (plain_head + slot)) word within
    (own_slot_may slot word may below holds))

-- and as those of a store
pub beside_slot_on : {old new : Mutator} {store count : ℕ} (slot word : ℕ)
    → new ≡ with_slot old (store + (store_head + slot)) word → MayChangeStore old store count → slot < count
    → MayHold old word → store + (store_head + slot) < layouts_start old.seat.space → StoresOn old new
beside_slot_on {old} {store = store} slot word is may below holds within =
    subst (StoresOn old) (sym is) (slot_stores_on (store + (store_head + slot)) word within
    (beside_slot_may slot word may below holds))

-- a slot's word is put surely
pub slot_put_surely : {new : Mutator} (old : Mutator) (at word : ℕ) → new ≡ with_slot old at word
    → length (heap_words old.seat) ≡ marks_start old.seat.space → at < layouts_start old.seat.space
    → StoresSurely new (touched_one Touch.Stored at)
slot_put_surely old at word is counted within =
    subst (λ (main : Mutator). StoresSurely main (touched_one Touch.Stored at)) (sym is)
    (slot_surely old at word (omega (arith, counted, before_marks old.seat.space at within)))

-- the hole may be held
pub odd_hole_may : (main : Mutator) (word : Word) → word.0 ≡ hole_word → MayHold main word.0
odd_hole_may main word is = subst (MayHold main) (sym is) hole_may_hold

-- where words from one on stay, they may move down that might
pub moves_stay : {old new : Mutator} {from to : ℕ} {how : ℕ → Touch} → StoresOn old new
    → ((at : ℕ) → from ≤ at → at < to
    → slice_get (heap_words new.seat) (at + 1) ≡ slice_get (heap_words old.seat) (at + 1))
    → MayMoveDown old from to how → MayMoveDown new from to how
moves_stay stores same may = record {
  holds = λ at word low high stored stands.
      may_hold_stays stores (may.holds at word low high stored (sym (same at low high) ∙ stands));
}

-- in-object slots may move down where they may be closed by their numbers
pub own_moves : {main : Mutator} {object cap store slot last first : ℕ} {path : Path} (end : ℕ)
    → MayCloseSlots main object cap store slot last first path → end < cap → end ≤ last
    → MayMoveDown main (object + (plain_head + slot)) (object + (plain_head + end)) (own_touch path object)
own_moves {main} {object} {cap} {store} {slot} {path = path} end may own few = record {
  holds = λ at word low high stored stands.
      let one : ℕ = at - (object + plain_head) in
      let is : object + (plain_head + one) ≡ at = omega (arith, low) in
      let touch = ap (λ test. field_touch test (slice_get path.fields one)) (lt-ltb one cap (omega (arith, high, own)))
      ∙ sym (own_touch_at path object one) ∙ ap (own_touch path object) is ∙ stored in
      let next : slot_at object cap store (suc one) ≡ at + 1 =
      slot_at-own object cap store (suc one) (omega (arith, high, own)) ∙ omega (arith, is) in
      may.moved one word (omega (arith, low)) (omega (arith, high, few)) (λ same. omega (arith, same, high, own)) touch
      (ap (slice_get (heap_words main.seat)) next ∙ stands);
}

-- and so may slots of the store
pub beside_moves : {main : Mutator} {object cap store slot last first : ℕ} {path : Path} (from : ℕ)
    → MayCloseSlots main object cap store slot last first path → slot ≤ cap + from → cap ≤ last
    → MayMoveDown main (store + (store_head + from)) (store + (store_head + (last - cap))) beside_touch
beside_moves {main} {object} {cap} {store} {path = path} from may order some = record {
  holds = λ at word low high stored stands.
      let one : ℕ = cap + (at - (store + store_head)) in
      let touch = ap (λ test. field_touch test (slice_get path.fields one)) (le-ltb one cap (omega arith)) in
      let next : slot_at object cap store (suc one) ≡ at + 1 =
      slot_at-beside object cap store (suc one) (omega arith) ∙ omega (arith, low) in
      may.moved one word (omega (arith, low, order)) (omega (arith, low, high, some)) (λ same. omega (arith, same))
      touch
      (ap (slice_get (heap_words main.seat)) next ∙ stands);
}

-- The slots of the store may move down once those of the object have.
pub beside_moves_then : {old mid : Mutator} {object cap store slot last first word : ℕ} {path : Path}
    → MayCloseSlots old object cap store slot last first path → slot < cap → cap ≤ last
    → RangesDisjoint object cap store last → StoresOn old mid
    → ClosesGap old mid (object + (plain_head + slot)) (object + (plain_head + (cap - 1))) word (own_touch path object)
    → MayMoveDown mid (store + (store_head + 0)) (store + (store_head + (last - cap))) beside_touch
beside_moves_then {old} {mid} {object} {cap} {store} {slot} {last} may own some apart stores gap =
    moves_stay stores (λ at low high.
    let one : ℕ = at - (store + store_head) in
    let is : store + (store_head + (one + 1)) ≡ at + 1 = omega (arith, low) in
    ap (slice_get (heap_words mid.seat)) (sym is)
    ∙ gap.beside (store + (store_head + (one + 1)))
    (beside_is_not_own object cap store last slot (one + 1) apart (omega (arith, own)) (omega (arith, low, high)))
    ∙ ap (slice_get (heap_words old.seat)) is)
    (beside_moves 0 may (omega (arith, own)) some)

-- a word of a store that moves down may be held, while those before it have moved
pub word_holds : {old mid : Mutator} (store from to slot word : ℕ)
    → MayMoveDown old (store + (store_head + from)) (store + (store_head + to)) beside_touch → StoresOn old mid
    → KeepsBeside old mid (store + (store_head + from)) (store + (store_head + slot)) → from ≤ slot → slot < to
    → slice_get (heap_words mid.seat) (store + (store_head + (slot + 1))) ≡ Some word → MayHold mid word
word_holds {old} store from to slot word may stores beside low high stands =
    let at : ℕ = store + (store_head + slot) in
    let next : store + (store_head + (slot + 1)) ≡ at + 1 = omega arith in
    may_hold_stays stores (may.holds at word (omega (arith, low)) (omega (arith, high)) refl
    (ap (slice_get (heap_words old.seat)) (sym next)
    ∙ sym (beside (store + (store_head + (slot + 1))) (inr (omega arith))) ∙ stands))
