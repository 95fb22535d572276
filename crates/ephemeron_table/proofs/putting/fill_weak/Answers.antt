-- Marking visits no pair, so any word may be put there. A box that is made is young where a cycle is open, and the
-- integer of one that stands there is no slot.
use Rattle.std.proofs.Common.{ℕ, ◌+◌, ◌≡◌, sym, subst, arith, to_z, of_z, w64}
use Rattle.std.specs.Prelude.{ℤ}
use Rattle.write_barrier.specs.MutatorState.{Mutator}
use Rattle.write_barrier.specs.Storing.{StoresOn}
use Rattle.write_barrier.proofs.SlotStores.{word_stores_on}
use Rattle.write_barrier.proofs.StoresOn.{stores_on_again}
use Rattle.object_cells.specs.Contents.{IsBeforeLayouts, with_box}
use Rattle.object_cells.specs.declared.content.SlotWrite.{SlotWrite}
use Rattle.object_cells.specs.declared.content.SlotWrite.TheVariants as filling
use Rattle.object_cells.proofs.RestOfWords.{layouts_before_marks}
use Rattle.object_cells.proofs.YoungStores.{box_stores_on}
use Rattle.ephemeron_table.specs.MapClaims.{MayPutBox}
use Rattle.ephemeron_table.proofs.ClaimedMaps.{integer_may_put, pair_may_put, pair_stores_on, pairs_may_still}
use Rattle.ephemeron_table.proofs.putting.fill_weak.Goals as goal

-- where a box is made, words are stored
new_box_on : {main made : Mutator} {put : SlotWrite} (at : ℕ) (v put_v : ℤ) → put ≡ filling.NewBox at v
    → MayPutBox main put → IsBeforeLayouts main.seat.space put → made ≡ with_box main at put_v → StoresOn main made
new_box_on {main} at v put_v is may room same =
    let before = subst (IsBeforeLayouts main.seat.space) is room in
    subst (StoresOn main) (sym same) (box_stores_on at put_v (subst (MayPutBox main) is may) (omega (arith, before)))

pub store_weak-requires-clause-may_store : goal.store_weak-requires-clause-may_store
store_weak-requires-clause-may_store c =
    pair_may_put c.args.offset _ c.requires.may c.requires.behind c.requires.inside

pub write_slot-requires-clause-may_store : goal.write_slot-requires-clause-may_store
write_slot-requires-clause-may_store c =
    pair_may_put c.args.offset _ c.requires.may c.requires.behind c.requires.inside

pub store_weak-requires-in-NewBox-clause-may_store : goal.store_weak-requires-in-NewBox-clause-may_store
store_weak-requires-in-NewBox-clause-may_store c =
    let boxed = new_box_on c.in-NewBox.at c.in-NewBox.v (to_z w64 (of_z w64 c.in-NewBox.v)) c.in-NewBox.is
    c.requires.boxed c.requires.room c.make_box.ensures.made in
    pair_may_put c.args.offset _ (pairs_may_still boxed c.requires.may) c.requires.behind c.requires.inside

pub write_slot-requires-in-OldBox-clause-may_store : goal.write_slot-requires-in-OldBox-clause-may_store
write_slot-requires-in-OldBox-clause-may_store c =
    integer_may_put _ (subst (MayPutBox c.args.main.now) c.in-OldBox.is c.requires.boxed)

pub write_slot-requires-in-OldBox-clause-within : goal.write_slot-requires-in-OldBox-clause-within
write_slot-requires-in-OldBox-clause-within c =
    let room = subst (IsBeforeLayouts c.args.main.now.seat.space) c.in-OldBox.is c.requires.room in
    omega (arith, room, layouts_before_marks c.args.main.now.seat.space)

pub returns-in-Tagged-clause-stores : goal.returns-in-Tagged-clause-stores
returns-in-Tagged-clause-stores c =
    pair_stores_on c.args.offset _ c.requires.may c.requires.behind c.requires.inside c.store_weak.ensures.weak

pub returns-in-Raw-clause-stores : goal.returns-in-Raw-clause-stores
returns-in-Raw-clause-stores c =
    subst (StoresOn c.args.main.now) (sym c.write_slot.ensures.written)
    (word_stores_on (c.args.table.at + c.args.offset) _ (omega (arith, c.requires.inside, c.requires.may.in_cells))
    (pair_may_put c.args.offset _ c.requires.may c.requires.behind c.requires.inside))

pub returns-in-NewBox-clause-stores : goal.returns-in-NewBox-clause-stores
returns-in-NewBox-clause-stores c =
    let boxed = new_box_on c.in-NewBox.at c.in-NewBox.v (to_z w64 (of_z w64 c.in-NewBox.v)) c.in-NewBox.is
    c.requires.boxed c.requires.room c.make_box.ensures.made in
    stores_on_again boxed (pair_stores_on c.args.offset _ (pairs_may_still boxed c.requires.may) c.requires.behind
    c.requires.inside c.store_weak-in-NewBox.ensures.weak)

pub returns-in-OldBox-clause-stores : goal.returns-in-OldBox-clause-stores
returns-in-OldBox-clause-stores c =
    let room = subst (IsBeforeLayouts c.args.main.now.seat.space) c.in-OldBox.is c.requires.room in
    subst (StoresOn c.args.main.now) (sym c.write_slot-in-OldBox.ensures.written)
    (word_stores_on (c.in-OldBox.at + 1) _ (omega (arith, room))
    (integer_may_put _ (subst (MayPutBox c.args.main.now) c.in-OldBox.is c.requires.boxed)))
