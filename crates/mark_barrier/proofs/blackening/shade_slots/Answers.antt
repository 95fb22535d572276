-- Each turn pays the target of one slot more.
use Rattle.std.proofs.Common.{◌≡◌, ◌<◌, ◌+◌, ℕ, List, Contains, Some, None, Option, All, sym, ap, subst, ◌∙◌, arith}
use Rattle.std.proofs.lemmas.List.Elements.{All-contains}
use Rattle.cell_layout.specs.declared.cell.Cell.{Cell}
use Rattle.cell_layout.specs.Cells.{reading_of}
use Rattle.cell_layout.specs.Slots.{IsFirstFrom, IsLeastFrom}
use Rattle.mark_world.specs.Pages.{OfTarget, slots_of}
use Rattle.page_space.specs.Extents.{eden_start}
use Rattle.tagged_word.proofs.Cells.{size_bounds}
use Rattle.shared_table.proofs.PageEnds.{pages_before_marks}
use Rattle.heap_table.specs.Overviews.{cycle_in, overview}
use Rattle.heap_table.specs.Seats.{Seat}
use Rattle.mark_barrier.specs.CycleSteps.{sure_of_target}
use Rattle.mark_barrier.specs.Owing.{Owes, slot_word}
use Rattle.mark_barrier.specs.Paid.{StepsTo, without_target}
use Rattle.mark_barrier.proofs.Owing.{ends_old, none_later, owes_on, paid_next, sized, slot_in, sure_again}
use Rattle.mark_barrier.proofs.ReadCells.{word_there}
use Rattle.mark_barrier.proofs.LeftToDo.{no_more_on}
use Rattle.mark_barrier.proofs.Steps.{steps_after}
use Rattle.mark_barrier.proofs.blackening.shade_slots.Goals as goal

-- the offset that was found is the least of the tagged slots that is not below another
least_of : (offsets : List ℕ) (from offset : ℕ) (found : Option ℕ) → IsFirstFrom offsets from found
    → found ≡ Some offset → IsLeastFrom offsets from offset
least_of offsets from offset found first is = subst (IsFirstFrom offsets from) is first

-- where none was found all are below
behind_all : (offsets : List ℕ) (from : ℕ) (found : Option ℕ) → IsFirstFrom offsets from found → found ≡ None
    → All (λ offset. offset < from) offsets
behind_all offsets from found first is = subst (IsFirstFrom offsets from) is first

pub next_tagged-requires : goal.next_tagged-requires
next_tagged-requires c =
    let seat : Seat = c.args.seat.now in
    sized seat.space seat.table (cycle_in seat) (overview seat).view.owed c.args.cell.now 0 c.requires.owes

module _ (seat : Seat) (cell : Cell) (from offset : ℕ) (owes : Owes seat cell from)
    (least : IsLeastFrom (slots_of (reading_of cell)) from offset) where
  -- the slot lies in the cell
  inside : offset < cell.size
  inside = slot_in seat.space seat.table (cycle_in seat) (overview seat).view.owed cell from owes offset least.among

  -- and in the pages
  in_pages : cell.at + offset < eden_start seat.space
  in_pages =
      let ends = ends_old seat.space seat.table (cycle_in seat) (overview seat).view.owed cell from owes in
      omega (arith, inside, ends)

pub slot-requires : goal.slot-requires
slot-requires c =
    let seat : Seat = c.loop-offset.seat in
    let cell : Cell = c.args.cell.now in
    let least = least_of (slots_of (reading_of cell)) c.loop-offset.from c.in-Some.offset c.next_tagged.result
    c.next_tagged.ensures c.in-Some.is in
    let inside = in_pages seat cell c.loop-offset.from c.in-Some.offset c.loop-offset.invariant.owes least in
    omega (arith, inside, pages_before_marks seat.space)

pub shade_target-requires-clause-born : goal.shade_target-requires-clause-born
shade_target-requires-clause-born c =
    let seat : Seat = c.loop-offset.seat in
    let cell : Cell = c.args.cell.now in
    let least = least_of (slots_of (reading_of cell)) c.loop-offset.from c.in-Some.offset c.next_tagged.result
    c.next_tagged.ensures c.in-Some.is in
    let inside = in_pages seat cell c.loop-offset.from c.in-Some.offset c.loop-offset.invariant.owes least in
    subst (λ (w : ℕ). OfTarget (eden_start seat.space) w (Contains (overview seat).view.born))
    (sym (word_there seat.space seat.table cell c.in-Some.offset c.slot.result inside c.slot.ensures.of_heap))
    (All-contains (λ (o : ℕ). OfTarget (eden_start seat.space) (slot_word seat.space seat.table cell o)
    (Contains (overview seat).view.born)) (slots_of (reading_of cell)) c.in-Some.offset
    c.loop-offset.invariant.owes.born least.among)

pub overflow_add-from : goal.overflow_add-from
overflow_add-from c =
    let seat : Seat = c.loop-offset.seat in
    let cell : Cell = c.args.cell.now in
    let least = least_of (slots_of (reading_of cell)) c.loop-offset.from c.in-Some.offset c.next_tagged.result
    c.next_tagged.ensures c.in-Some.is in
    let low = inside seat cell c.loop-offset.from c.in-Some.offset c.loop-offset.invariant.owes least in
    let has = sized seat.space seat.table (cycle_in seat) (overview seat).view.owed cell c.loop-offset.from
    c.loop-offset.invariant.owes in
    let bounds = size_bounds cell.layout cell.length cell.size has.sized in
    omega (arith, low, bounds.1)

pub loop-offset-smaller : goal.loop-offset-smaller
loop-offset-smaller c =
    let seat : Seat = c.loop-offset.seat in
    let cell : Cell = c.args.cell.now in
    let least = least_of (slots_of (reading_of cell)) c.loop-offset.from c.in-Some.offset c.next_tagged.result
    c.next_tagged.ensures c.in-Some.is in
    let low = inside seat cell c.loop-offset.from c.in-Some.offset c.loop-offset.invariant.owes least in
    omega (arith, low, least.reached)

-- the target of one slot is paid
module _ (seat new : Seat) (cell : Cell) (from offset word : ℕ) (owes : Owes seat cell from)
    (least : IsLeastFrom (slots_of (reading_of cell)) from offset)
    (is : word ≡ slot_word seat.space seat.table cell offset)
    (steps : StepsTo seat new seat.table (sure_of_target (eden_start seat.space) (cycle_in seat) word))
    (owed : (overview new).view.owed ≡ without_target (eden_start seat.space) (overview seat).view.owed word) where
  -- the mutator was sure of it
  same_cycle : sure_of_target (eden_start seat.space) (cycle_in seat) word ≡ cycle_in seat
  same_cycle =
      sure_again (eden_start seat.space) (cycle_in seat) word
      (subst (λ (w : ℕ). OfTarget (eden_start seat.space) w (Contains (overview seat).view.sure)) (sym is)
      (All-contains (λ (o : ℕ). OfTarget (eden_start seat.space) (slot_word seat.space seat.table cell o)
      (Contains (overview seat).view.sure)) (slots_of (reading_of cell)) offset owes.sure least.among))

  -- what is owed then is to come behind it
  owes_next : Owes new cell (offset + 1)
  owes_next =
      owes_on seat new cell (offset + 1)
      (without_target (eden_start seat.space) (overview seat).view.owed (slot_word seat.space seat.table cell offset))
      steps.moves.space steps.moves.table (steps.moves.cycle ∙ same_cycle)
      (owed ∙ ap (without_target (eden_start seat.space) (overview seat).view.owed) is)
      (paid_next seat.space seat.table (cycle_in seat) (overview seat).view.owed cell from owes offset least)

  -- and own words and cycle are as before
  no_steps : StepsTo seat new seat.table (cycle_in seat)
  no_steps = subst (StepsTo seat new seat.table) same_cycle steps

pub loop-offset-preserved : goal.loop-offset-preserved
loop-offset-preserved c =
    let seat : Seat = c.loop-offset.seat in
    let new : Seat = c.shade_target.new.seat in
    let cell : Cell = c.args.cell.now in
    let before = c.loop-offset.invariant in
    let after = c.shade_target.ensures in
    let least = least_of (slots_of (reading_of cell)) c.loop-offset.from c.in-Some.offset c.next_tagged.result
    c.next_tagged.ensures c.in-Some.is in
    let inside = in_pages seat cell c.loop-offset.from c.in-Some.offset before.owes least in
    let is = word_there seat.space seat.table cell c.in-Some.offset c.slot.result inside c.slot.ensures.of_heap in
    record {
      lists = after.lists;
      passed = after.passed ∙ before.passed;
      owes = owes_next seat new cell c.loop-offset.from c.in-Some.offset c.slot.result before.owes least is after.steps
          after.owed;
      steps = steps_after c.args.seat.now seat new c.args.seat.now.table (cycle_in c.args.seat.now) before.steps
          (no_steps seat new cell c.loop-offset.from c.in-Some.offset c.slot.result before.owes least is after.steps
          after.owed);
      no_more = no_more_on c.args.seat.now seat new c.args.grey.now c.loop-offset.grey c.shade_target.new.grey
          before.steps.moves.home before.no_more after.no_more;
    }

pub returns-clause-owed : goal.returns-clause-owed
returns-clause-owed c =
    let seat : Seat = c.loop-offset.seat in
    let cell : Cell = c.args.cell.now in
    none_later seat.space seat.table (cycle_in seat) (overview seat).view.owed cell c.loop-offset.from
    c.loop-offset.invariant.owes
    (behind_all (slots_of (reading_of cell)) c.loop-offset.from c.next_tagged.result c.next_tagged.ensures
    c.in_default.is)
