-- The store is made, and then the object's slot refers to it.
use Rattle.std.proofs.Common.{◌≡◌, ℕ, ◌+◌, ◌<◌, sym, ◌∙◌, ap, subst, arith}
use Rattle.tagged_word.specs.Cells.{store_slot}
use Rattle.page_space.specs.Extents.{layouts_start, marks_start}
use Rattle.mark_world.specs.declared.event.Event.TheVariants as event
use Rattle.heap_model.specs.Remembered.{Touch}
use Rattle.heap_model.specs.Slots.{reference_word}
use Rattle.write_barrier.specs.Marking.{MayPut}
use Rattle.write_barrier.specs.MutatorState.{Mutator}
use Rattle.write_barrier.specs.Recording.{Touches, touched_one}
use Rattle.write_barrier.specs.Storing.{StoresOn}
use Rattle.write_barrier.proofs.SlotStores.{slot_stores_on}
use Rattle.write_barrier.proofs.StoresOn.{stores_on_again}
use Rattle.write_barrier.proofs.Recording.{then_touch, slot_touch}
use Rattle.object_cells.specs.Made.{store_touch}
use Rattle.object_cells.proofs.RestOfWords.{layouts_before_marks}
use Rattle.object_cells.proofs.StoredRuns.{begun_puts_young}
use Rattle.object_cells.proofs.YoungStores.{may_put_stays}
use Rattle.object_cells.proofs.stores.make_store.Goals as goal

pub returns-clause-touches : goal.returns-clause-touches
returns-clause-touches c =
    let old : Mutator = c.args.main.now in
    let mid : Mutator = c.begin_store.new.main in
    let new : Mutator = c.store.new.self in
    let slot = c.args.object + store_slot in
    let marks : marks_start mid.seat.space ≡ marks_start old.seat.space =
    ap marks_start c.begin_store.ensures.puts.beside.space in
    let first : Touches old mid (store_touch c.args.capacity c.args.at) = c.begin_store.ensures.touches in
    let named : Touches mid new (touched_one Touch.Stored slot) =
    subst (λ (main : Mutator). Touches mid main (touched_one Touch.Stored slot)) (sym c.store.ensures.stored)
    (slot_touch mid slot c.reference.result.0 c.addresses_fit.ensures.heap_counted
    (omega (arith, marks, c.requires.named, layouts_before_marks old.seat.space))) in
    then_touch first named

pub store-requires-clause-may_store : goal.store-requires-clause-may_store
store-requires-clause-may_store c =
    let slot : ℕ = c.args.object + store_slot in
    let mid : Mutator = c.begin_store.new.main in
    let rest = c.begin_store.ensures.puts.beside in
    let begun = begun_puts_young c.args.at c.begin_store.ensures.cycle c.begin_store.ensures.touches.bound
    c.requires.young (sym rest.count ∙ c.addresses_fit.ensures.heap_counted ∙ ap marks_start rest.space) c.args.store
    c.args.capacity c.begin_store.ensures.puts c.requires.more c.requires.within c.requires.other in
    subst (λ word. MayPut mid slot (event.StoreSlot slot word)) (sym c.reference.ensures)
    (may_put_stays begun slot (event.StoreSlot slot (reference_word c.args.at)) c.requires.may)

pub store-requires-clause-within : goal.store-requires-clause-within
store-requires-clause-within c =
    omega (
      arith,
      ap marks_start c.begin_store.ensures.puts.beside.space,
      c.requires.named,
      layouts_before_marks c.args.main.now.seat.space,
    )

pub returns-clause-stores : goal.returns-clause-stores
returns-clause-stores c =
    let slot : ℕ = c.args.object + store_slot in
    let mid : Mutator = c.begin_store.new.main in
    let rest = c.begin_store.ensures.puts.beside in
    let begun = begun_puts_young c.args.at c.begin_store.ensures.cycle c.begin_store.ensures.touches.bound
    c.requires.young (sym rest.count ∙ c.addresses_fit.ensures.heap_counted ∙ ap marks_start rest.space) c.args.store
    c.args.capacity c.begin_store.ensures.puts c.requires.more c.requires.within c.requires.other in
    let before : slot < layouts_start mid.seat.space =
    omega (arith, c.requires.named, ap layouts_start rest.space) in
    let may = subst (λ word. MayPut mid slot (event.StoreSlot slot word)) (sym c.reference.ensures)
    (may_put_stays begun slot (event.StoreSlot slot (reference_word c.args.at)) c.requires.may) in
    stores_on_again c.begin_store.ensures.stores
    (subst (StoresOn mid) (sym c.store.ensures.stored) (slot_stores_on slot c.reference.result.0 before may))
