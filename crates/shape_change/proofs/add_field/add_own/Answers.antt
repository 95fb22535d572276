-- The word is put, and then the header.
use Rattle.std.proofs.Common.{◌+◌, ◌<◌, ap, subst, sym, ◌∙◌, arith, rules}
use Rattle.tagged_word.specs.Cells.{plain_head}
use Rattle.page_space.specs.Extents.{Space, layouts_start, marks_start}
use Rattle.heap_model.specs.Remembered.{Touch}
use Rattle.write_barrier.specs.MutatorState.{Mutator}
use Rattle.write_barrier.specs.Recording.{Touches, touched_one}
use Rattle.object_cells.specs.Made.{PutsWords, content_word, slot_touch}
use Rattle.object_cells.proofs.FilledSlots.{reserved_none}
use Rattle.object_cells.proofs.RestOfWords.{put_rest}
use Rattle.object_cells.proofs.TouchedWords.{then_wiped}
use Rattle.shape_change.specs.Additions.{AddsPath, MayPutContent, added_path, count_of, own_content}
use Rattle.shape_change.specs.Deletions.{shaped_bits}
use Rattle.shape_change.proofs.AddableCells.{object_before, size_is}
use Rattle.shape_change.proofs.OwnPut.{own_may_put, own_may_head}
use Rattle.shape_change.proofs.SetTouches.{head_surely, kept_not_stored}
use Rattle.write_barrier.proofs.SlotStores.{header_stores_on}
use Rattle.write_barrier.proofs.StoresOn.{stores_on_again}
use Rattle.write_barrier.proofs.TouchedRanges.{touched_other}
use Rattle.write_barrier.specs.Seats.{heap_words}
use Rattle.write_barrier.specs.Storing.{StoresOn}
use Rattle.write_barrier.specs.SureStores.{StoresSurely}
use Rattle.std.specs.Prelude.{slice_set}
use Rattle.shape_change.proofs.add_field.add_own.Goals as goal

pub put_own-requires-clause-may : goal.put_own-requires-clause-may
put_own-requires-clause-may c =
    let old : Mutator = c.args.main.now in
    let mid : Mutator = c.step_to-next.new.main in
    let path : AddsPath old mid (added_path old.paths c.args.header.shape c.args.new.field.name c.args.new.value)
    c.step_to-next.result = search rules in
    let adds = subst (λ (main : Mutator). AddsPath main mid
    (added_path old.paths c.args.header.shape c.args.new.field.name c.args.new.value) c.step_to-next.result)
    (reserved_none old) path in
    subst (λ slot. MayPutContent mid (c.args.object + (plain_head + slot)) c.args.content) (sym c.requires.new.slot)
    (own_may_put c.requires.can adds c.requires.own c.args.content c.requires.content)

pub put_own-requires-clause-within : goal.put_own-requires-clause-within
put_own-requires-clause-within c =
    omega (
      arith,
      object_before c.requires.can,
      size_is c.requires.can,
      c.requires.own,
      c.requires.new.slot,
      ap (λ (s : Space). layouts_start s) c.step_to-next.ensures.beside.space,
    )

pub set_shape-requires-clause-may : goal.set_shape-requires-clause-may
set_shape-requires-clause-may c =
    let old : Mutator = c.args.main.now in
    let mid : Mutator = c.step_to-next.new.main in
    let put : Mutator = c.put_own.new.main in
    let path : AddsPath old mid (added_path old.paths c.args.header.shape c.args.new.field.name c.args.new.value)
    c.step_to-next.result = search rules in
    let adds = subst (λ (main : Mutator). AddsPath main mid
    (added_path old.paths c.args.header.shape c.args.new.field.name c.args.new.value) c.step_to-next.result)
    (reserved_none old) path in
    own_may_head c.requires.can adds c.requires.own c.args.content c.requires.content (content_word c.args.content 0)
    c.put_own.ensures.stores
    (subst (λ slot. StoresSurely put (touched_one (slot_touch c.args.content) (c.args.object + (plain_head + slot))))
    c.requires.new.slot c.put_own.ensures.surely)
    (subst (λ slot. PutsWords mid put (slice_set (heap_words mid.seat) (c.args.object + (plain_head + slot))
    (content_word c.args.content 0))) c.requires.new.slot c.put_own.ensures.puts) c.put_own.ensures.touches.bound

pub returns : goal.returns
returns c =
    let mid : Mutator = c.step_to-next.new.main in
    let put : Mutator = c.put_own.new.main in
    let space = c.put_own.ensures.puts.beside.space ∙ c.step_to-next.ensures.beside.space in
    let below : c.args.object < marks_start put.seat.space =
    omega (arith, ap (λ (s : Space). marks_start s) space, c.requires.can.within) in
    let head_below : c.args.object < layouts_start put.seat.space =
    omega (arith, ap (λ (s : Space). layouts_start s) space, object_before c.requires.can, size_is c.requires.can) in
    let path : AddsPath c.args.main.now mid
    (added_path c.args.main.now.paths c.args.header.shape c.args.new.field.name c.args.new.value)
    c.step_to-next.result = search rules in
    let adds = subst (λ (main : Mutator). AddsPath main mid
    (added_path c.args.main.now.paths c.args.header.shape c.args.new.field.name c.args.new.value)
    c.step_to-next.result) (reserved_none c.args.main.now) path in
    let may_head = own_may_head c.requires.can adds c.requires.own c.args.content c.requires.content
    (content_word c.args.content 0) c.put_own.ensures.stores
    (subst (λ slot. StoresSurely put (touched_one (slot_touch c.args.content) (c.args.object + (plain_head + slot))))
    c.requires.new.slot c.put_own.ensures.surely)
    (subst (λ slot. PutsWords mid put (slice_set (heap_words mid.seat) (c.args.object + (plain_head + slot))
    (content_word c.args.content 0))) c.requires.new.slot c.put_own.ensures.puts) c.put_own.ensures.touches.bound in
    let touched : Touches mid put (touched_one (slot_touch (own_content c.args.new.value))
    (c.args.object + (plain_head + c.args.new.slot))) =
    subst (λ (how : Touch). Touches mid put (touched_one how (c.args.object + (plain_head + c.args.new.slot))))
    (ap slot_touch c.requires.content) c.put_own.ensures.touches in
    record {
      next = c.step_to-next.result;
      mid = mid;
      path = search rules;
      words = record {
        beside = put_rest c.args.object _ c.put_own.ensures.puts.beside
            (ap (λ (main : Mutator). main.seat) c.set_shape.ensures.put) below;
        paths = search rules;
        young = search rules;
        heap = search rules;
      };
      stores = stores_on_again c.step_to-next.ensures.stores (stores_on_again c.put_own.ensures.stores
          (subst (StoresOn put) (sym c.set_shape.ensures.put) (header_stores_on c.args.object
          (shaped_bits c.args.header c.step_to-next.result) head_below may_head)));
      surely = subst (λ (main : Mutator). StoresSurely main (touched_one
          (slot_touch (own_content c.args.new.value))
          (c.args.object + (plain_head + count_of c.args.main.now.paths c.args.header.shape))))
          (sym c.set_shape.ensures.put) (head_surely put c.args.object
          (shaped_bits c.args.header c.step_to-next.result) _ below (λ stored. kept_not_stored
          (sym (touched_other (slot_touch (own_content c.args.new.value))
          (c.args.object + (plain_head + count_of c.args.main.now.paths c.args.header.shape)) c.args.object
          (λ same. omega (arith, same))) ∙ stored))
          (subst (λ slot. StoresSurely put (touched_one (slot_touch (own_content c.args.new.value))
          (c.args.object + (plain_head + slot)))) c.requires.new.slot
          (subst (λ (how : Touch). StoresSurely put (touched_one how
          (c.args.object + (plain_head + c.args.new.slot)))) (ap slot_touch c.requires.content)
          c.put_own.ensures.surely)));
      touches = then_wiped c.args.object _
          (subst (λ slot. Touches mid put (touched_one (slot_touch (own_content c.args.new.value))
          (c.args.object + (plain_head + slot)))) c.requires.new.slot touched) c.set_shape.ensures.put below;
    }
