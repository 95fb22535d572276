-- Fields that stand in the object close the gap.
use Rattle.std.proofs.Common.{◌+◌, ap, arith, length, subst, sym}
use Rattle.heap_model.specs.Types.{Path}
use Rattle.tagged_word.specs.Cells.{plain_head}
use Rattle.page_space.specs.Extents.{Space, marks_start}
use Rattle.shape_tree.specs.Shapes.{shape_path}
use Rattle.write_barrier.specs.MutatorState.{Mutator}
use Rattle.write_barrier.specs.Storing.{StoresOn}
use Rattle.shape_change.specs.Deletions.{shaped_bits}
use Rattle.shape_change.specs.Shifts.{MayMoveDown, MayRefill, own_touch}
use Rattle.shape_change.proofs.MayDelete.{may_blacken, dark_refills, dark_own_moves, dark_heads, took_black}
use Rattle.shape_change.proofs.TakenOut.{found_black, one_fewer, own_before_layouts, own_before_marks, own_taken}
use Rattle.shape_change.proofs.delete_field.take_out_own.Goals as goal

pub blacken-requires-clause-may_store : goal.blacken-requires-clause-may_store
blacken-requires-clause-may_store c =
    may_blacken c.requires.may c.requires.whole c.requires.there c.in_ok-next.ensures.finds c.in_ok-next.ensures.stores

pub blacken-requires-clause-within : goal.blacken-requires-clause-within
blacken-requires-clause-within c =
    omega (arith, own_before_marks c.requires.whole c.requires.there c.in_ok-next.ensures.finds)

pub close_own-requires-clause-may : goal.close_own-requires-clause-may
close_own-requires-clause-may c =
    subst (λ (main : Mutator). MayRefill main c.args.object (shape_path main.paths c.in_ok-next.next).cap)
    (sym c.blacken.ensures.blackened)
    (dark_refills c.requires.may c.requires.whole c.requires.there c.in_ok-next.ensures.finds
    c.in_ok-next.ensures.stores)

pub close_own-requires-clause-held : goal.close_own-requires-clause-held
close_own-requires-clause-held c =
    subst (λ (main : Mutator). let path : Path = shape_path main.paths c.in_ok-next.next in
    MayMoveDown main (c.args.object + (plain_head + c.args.slot)) (c.args.object + (plain_head + length path.fields))
    (own_touch path c.args.object)) (sym c.blacken.ensures.blackened)
    (dark_own_moves c.requires.may c.requires.whole c.requires.there c.in_ok-next.ensures.finds
    c.in_ok-next.ensures.stores c.requires.own)

pub close_own-requires-clause-own : goal.close_own-requires-clause-own
close_own-requires-clause-own c =
    let found = found_black c.args.header.shape c.args.slot c.args.object c.blacken.ensures.blackened
    c.in_ok-next.ensures.finds in
    let fewer = one_fewer c.requires.whole c.requires.there found in
    omega (arith, fewer.cap, fewer.fields, c.requires.own)

pub close_own-requires-clause-laid : goal.close_own-requires-clause-laid
close_own-requires-clause-laid c =
    let found = found_black c.args.header.shape c.args.slot c.args.object c.blacken.ensures.blackened
    c.in_ok-next.ensures.finds in
    let fewer = one_fewer c.requires.whole c.requires.there found in
    let before = own_before_layouts c.requires.whole c.requires.there found in
    omega (arith, before, fewer.cap, fewer.fields, c.requires.own)

pub close_own-requires-clause-within : goal.close_own-requires-clause-within
close_own-requires-clause-within c =
    let found = found_black c.args.header.shape c.args.slot c.args.object c.blacken.ensures.blackened
    c.in_ok-next.ensures.finds in
    let fewer = one_fewer c.requires.whole c.requires.there found in
    let before = own_before_marks c.requires.whole c.requires.there found in
    omega (arith, before, fewer.cap, fewer.fields, c.requires.own)

pub set_shape-requires-clause-may : goal.set_shape-requires-clause-may
set_shape-requires-clause-may c =
    dark_heads c.requires.may c.requires.whole c.requires.there c.in_ok-next.ensures.finds c.in_ok-next.ensures.stores
    (subst (λ (main : Mutator). StoresOn main c.close_own.new.main) c.blacken.ensures.blackened
    c.close_own.ensures.stores) (shaped_bits c.args.header c.in_ok-next.next)

pub set_shape-requires-clause-within : goal.set_shape-requires-clause-within
set_shape-requires-clause-within c =
    let before = own_before_marks c.requires.whole c.requires.there c.in_ok-next.ensures.finds in
    let same = ap (λ (main : Mutator). marks_start main.seat.space) c.blacken.ensures.blackened in
    omega (
      arith,
      before,
      same,
      ap (λ (space : Space). marks_start space) c.close_own.ensures.closes.rest.beside.space,
    )

pub returns : goal.returns
returns c =
    let on = subst (λ (main : Mutator). StoresOn main c.close_own.new.main) c.blacken.ensures.blackened
    c.close_own.ensures.stores in
    own_taken
    (took_black c.requires.may c.requires.whole c.requires.there c.in_ok-next.ensures.finds c.in_ok-next.ensures.stores
    on (shaped_bits c.args.header c.in_ok-next.next) c.set_shape.ensures.put)
    c.requires.whole c.requires.there
    (found_black c.args.header.shape c.args.slot c.args.object c.blacken.ensures.blackened c.in_ok-next.ensures.finds)
    c.set_shape.ensures.put c.set_shape.ensures.heap c.requires.own c.close_own.ensures.closes
