-- The regions stay, and so what is before the marks.
use Rattle.std.proofs.Common.{◌≡◌, ◌<◌, ℕ, sym, ◌∙◌, ap, subst, rules}
use Rattle.page_space.specs.Extents.{Space, marks_start}
use Rattle.write_barrier.specs.Seats.{RestStays}
use Rattle.write_barrier.specs.MutatorState.{Mutator, with_word}
use Rattle.object_cells.specs.declared.content.SlotWrite.{SlotWrite}
use Rattle.write_barrier.specs.Marking.{MayPutHeader, with_blackened}
use Rattle.object_cells.specs.CycleChanges.{MayFillSlot}
use Rattle.shape_change.specs.Deletions.{shaped_bits}
use Rattle.shape_change.specs.Places.{place_at}
use Rattle.shape_change.proofs.WiderBySetting.{setting_may_blacken, setting_may_fill, setting_may_head, setting_stores}
use Rattle.object_cells.specs.Contents.{filled, filling_at}
use Rattle.object_cells.proofs.CellsRead.{cell_at_before_marks}
use Rattle.object_cells.proofs.RestOfWords.{put_rest, filled_still}
use Rattle.object_cells.proofs.NothingUsed.{room_for_none}
use Rattle.shape_change.proofs.ReadyHeaps.{ready_allocated}
use Rattle.shape_change.proofs.Filled.{laid_space, filled_space}
use Rattle.shape_change.proofs.set_slot.set_wider.Goals as goal

pub blacken-requires-clause-within : goal.blacken-requires-clause-within
blacken-requires-clause-within c =
    let there = c.requires.can.there in
    let same =
    laid_space c.args.main.now c.filling_of.new.main c.changed_shape-next.new.main c.in_ok-filling.filling _ _
    c.in_ok-filling.ensures.allocates c.changed_shape-next.ensures.changes in
    subst (λ (space : Space). c.args.object < marks_start space) (sym same)
    (subst (λ at. at < marks_start c.args.main.now.seat.space) there.stands
    (cell_at_before_marks c.requires.can.whole.sized there.has))

pub changed_shape-next-requires-clause-sized : goal.changed_shape-next-requires-clause-sized
changed_shape-next-requires-clause-sized c =
    let old : Mutator = c.args.main.now in
    let can = c.requires.can in
    (ready_allocated old c.filling_of.new.main c.in_ok-filling.filling can.whole.sized
    (room_for_none old can.tied can.whole) c.in_ok-filling.ensures.allocates).sized

pub blacken-requires-clause-may_store : goal.blacken-requires-clause-may_store
blacken-requires-clause-may_store c =
    setting_may_blacken c.filling_of.new.main c.requires.can (search rules)
    c.changed_shape-next.ensures.stores

pub fill-requires-clause-may : goal.fill-requires-clause-may
fill-requires-clause-may c =
    let at : ℕ = place_at c.args.object c.args.setting.place in
    let is = c.in_ok-filling.ensures.filling in
    subst (λ (main : Mutator). MayFillSlot main at c.in_ok-filling.filling) (sym c.blacken.ensures.blackened)
    (subst (λ (write : SlotWrite). MayFillSlot (with_blackened c.changed_shape-next.new.main c.args.object) at write)
    (sym is) (setting_may_fill c.filling_of.new.main c.requires.can (search rules)
    c.changed_shape-next.ensures.stores))

pub set_shape-requires-clause-may : goal.set_shape-requires-clause-may
set_shape-requires-clause-may c =
    let at : ℕ = place_at c.args.object c.args.setting.place in
    let head : ℕ = shaped_bits c.args.header c.changed_shape-next.result in
    let is = c.in_ok-filling.ensures.filling in
    let put : c.fill.new.main ≡ filled (with_blackened c.changed_shape-next.new.main c.args.object) at
    (filling_at c.args.main.now at c.args.setting.content) =
    c.fill.ensures ∙ ap (λ (main : Mutator). filled main at c.in_ok-filling.filling) c.blacken.ensures.blackened
    ∙ ap (filled (with_blackened c.changed_shape-next.new.main c.args.object) at) is in
    subst (λ (main : Mutator). MayPutHeader main c.args.object head) (sym put)
    (setting_may_head c.filling_of.new.main c.requires.can (search rules)
    c.changed_shape-next.ensures.stores head)

pub set_shape-requires-clause-within : goal.set_shape-requires-clause-within
set_shape-requires-clause-within c =
    let filling = c.in_ok-filling.filling in
    let there = c.requires.can.there in
    let same = ap (λ (main : Mutator). main.seat.space) c.fill.ensures
    ∙ filled_space c.blacken.new.self (place_at c.args.object c.args.setting.place) filling
    ∙ ap (λ (main : Mutator). main.seat.space) c.blacken.ensures.blackened
    ∙ laid_space c.args.main.now c.filling_of.new.main c.changed_shape-next.new.main filling _ _
    c.in_ok-filling.ensures.allocates c.changed_shape-next.ensures.changes in
    subst (λ (space : Space). c.args.object < marks_start space) (sym same)
    (subst (λ at. at < marks_start c.args.main.now.seat.space) there.stands
    (cell_at_before_marks c.requires.can.whole.sized there.has))

pub returns : goal.returns
returns c =
    let old : Mutator = c.args.main.now in
    let between : Mutator = c.filling_of.new.main in
    let laid : Mutator = c.changed_shape-next.new.main in
    let filling = c.in_ok-filling.filling in
    let there = c.requires.can.there in
    let at : ℕ = place_at c.args.object c.args.setting.place in
    let black : Mutator = with_blackened laid c.args.object in
    let put : c.fill.new.main ≡ filled black at filling =
    c.fill.ensures ∙ ap (λ (main : Mutator). filled main at filling) c.blacken.ensures.blackened in
    let still = filled_still old between black at filling c.in_ok-filling.ensures.allocates
    c.changed_shape-next.ensures.changes.seat c.requires.can.within c.in_ok-filling.ensures.in_cells in
    let stays = subst (λ (main : Mutator). RestStays old.seat main.seat) (sym put) still in
    let below = subst (λ (space : Space). c.args.object < marks_start space) (sym stays.space)
    (subst (λ at. at < marks_start old.seat.space) there.stands
    (cell_at_before_marks c.requires.can.whole.sized there.has)) in
    let is : c.set_shape.new.main ≡ with_word (filled black at (filling_at old at c.args.setting.content)) c.args.object
    (shaped_bits c.args.header c.changed_shape-next.result) =
    c.set_shape.ensures.put ∙ ap (λ (main : Mutator). with_word main c.args.object
    (shaped_bits c.args.header c.changed_shape-next.result))
    (put ∙ ap (filled black at) c.in_ok-filling.ensures.filling) in
    record {
      between = between;
      allocates = search rules;
      laid = laid;
      changes = search rules;
      sized = c.changed_shape-next.ensures.sized;
      next = c.changed_shape-next.result;
      leads = search rules;
      header = c.args.header;
      is_header = c.requires.headed;
      fills = is;
      stores = setting_stores between c.requires.can (search rules) c.changed_shape-next.ensures.stores
          (shaped_bits c.args.header c.changed_shape-next.result) c.changed_shape-next.ensures.changes is;
      beside = put_rest c.args.object _ stays (ap (λ (main : Mutator). main.seat) c.set_shape.ensures.put) below;
    }
