-- Fields close the gap in the object and in the store.
use Rattle.std.proofs.Common.{◌+◌, ap, arith, length, subst, sym}
use Rattle.heap_model.specs.Types.{Path}
use Rattle.page_space.specs.Extents.{Space, marks_start}
use Rattle.shape_tree.specs.Shapes.{shape_path}
use Rattle.write_barrier.specs.MutatorState.{Mutator}
use Rattle.write_barrier.specs.Storing.{StoresOn}
use Rattle.shape_change.specs.Deletions.{shaped_bits}
use Rattle.shape_change.specs.Shifts.{MayChangeStore, MayCloseSlots, MayRefill, fields_beside}
use Rattle.shape_change.proofs.MayDelete.{may_blacken, dark_refills, dark_store, dark_closes, dark_heads, took_black}
use Rattle.shape_change.proofs.StoresFound.{store_there, first_there}
use Rattle.shape_change.proofs.TakenOut.{found_black, one_fewer, own_before_marks, slots_within, beside_taken}
use Rattle.shape_change.proofs.delete_field.take_out_beside.Goals as goal

pub store_of-store-requires-clause-there : goal.store_of-store-requires-clause-there
store_of-store-requires-clause-there c = store_there c.requires.whole c.requires.there c.requires.beside

pub first_drawn_in-first-requires-clause-there : goal.first_drawn_in-first-requires-clause-there
first_drawn_in-first-requires-clause-there c =
    first_there c.requires.whole c.requires.there c.requires.beside c.store_of-store.ensures

pub blacken-requires-clause-may_store : goal.blacken-requires-clause-may_store
blacken-requires-clause-may_store c =
    may_blacken c.requires.may c.requires.whole c.requires.there c.in_ok-next.ensures.finds c.in_ok-next.ensures.stores

pub blacken-requires-clause-within : goal.blacken-requires-clause-within
blacken-requires-clause-within c =
    omega (arith, own_before_marks c.requires.whole c.requires.there c.in_ok-next.ensures.finds)

pub close_both-requires-clause-may : goal.close_both-requires-clause-may
close_both-requires-clause-may c =
    subst (λ (main : Mutator). MayRefill main c.args.object (shape_path main.paths c.in_ok-next.next).cap)
    (sym c.blacken.ensures.blackened)
    (dark_refills c.requires.may c.requires.whole c.requires.there c.in_ok-next.ensures.finds
    c.in_ok-next.ensures.stores)

pub close_both-requires-clause-may_beside : goal.close_both-requires-clause-may_beside
close_both-requires-clause-may_beside c =
    subst (λ (main : Mutator). let path : Path = shape_path main.paths c.in_ok-next.next in
    MayChangeStore main c.store_of-store.result (fields_beside path + 1))
    (sym c.blacken.ensures.blackened)
    (dark_store c.requires.may c.requires.whole c.requires.there c.in_ok-next.ensures.finds
    c.in_ok-next.ensures.stores c.store_of-store.result c.store_of-store.ensures c.requires.beside)

pub close_both-requires-clause-held : goal.close_both-requires-clause-held
close_both-requires-clause-held c =
    subst (λ (main : Mutator). let path : Path = shape_path main.paths c.in_ok-next.next in
    MayCloseSlots main c.args.object path.cap c.store_of-store.result c.args.slot (length path.fields)
    c.first_drawn_in-first.result path)
    (sym c.blacken.ensures.blackened)
    (dark_closes c.requires.may c.requires.whole c.requires.there c.in_ok-next.ensures.finds
    c.in_ok-next.ensures.stores c.store_of-store.result c.first_drawn_in-first.result c.requires.beside
    c.store_of-store.ensures c.first_drawn_in-first.ensures)

pub close_both-requires-clause-beside : goal.close_both-requires-clause-beside
close_both-requires-clause-beside c =
    let found = found_black c.args.header.shape c.args.slot c.args.object c.blacken.ensures.blackened
    c.in_ok-next.ensures.finds in
    let fewer = one_fewer c.requires.whole c.requires.there found in
    omega (arith, fewer.cap, fewer.fields, c.requires.beside)

pub close_both-requires-clause-within : goal.close_both-requires-clause-within
close_both-requires-clause-within c =
    slots_within c.requires.whole c.requires.there
    (found_black c.args.header.shape c.args.slot c.args.object c.blacken.ensures.blackened
    c.in_ok-next.ensures.finds) c.store_of-store.result
    c.requires.beside c.store_of-store.ensures

pub set_shape-requires-clause-may : goal.set_shape-requires-clause-may
set_shape-requires-clause-may c =
    dark_heads c.requires.may c.requires.whole c.requires.there c.in_ok-next.ensures.finds c.in_ok-next.ensures.stores
    (subst (λ (main : Mutator). StoresOn main c.close_both.new.main) c.blacken.ensures.blackened
    c.close_both.ensures.stores) (shaped_bits c.args.header c.in_ok-next.next)

pub set_shape-requires-clause-within : goal.set_shape-requires-clause-within
set_shape-requires-clause-within c =
    let before = own_before_marks c.requires.whole c.requires.there c.in_ok-next.ensures.finds in
    let same = ap (λ (main : Mutator). marks_start main.seat.space) c.blacken.ensures.blackened in
    omega (
      arith,
      before,
      same,
      ap (λ (space : Space). marks_start space) c.close_both.ensures.closes.rest.beside.space,
    )

pub returns : goal.returns
returns c =
    let on = subst (λ (main : Mutator). StoresOn main c.close_both.new.main) c.blacken.ensures.blackened
    c.close_both.ensures.stores in
    beside_taken
    (took_black c.requires.may c.requires.whole c.requires.there c.in_ok-next.ensures.finds c.in_ok-next.ensures.stores
    on (shaped_bits c.args.header c.in_ok-next.next) c.set_shape.ensures.put)
    c.requires.whole c.requires.there
    (found_black c.args.header.shape c.args.slot c.args.object c.blacken.ensures.blackened
    c.in_ok-next.ensures.finds) c.set_shape.ensures.put
    c.set_shape.ensures.heap c.store_of-store.result c.first_drawn_in-first.result c.store_of-store.ensures
    c.first_drawn_in-first.ensures c.close_both.ensures.closes
