-- The slots of a cell are looked at one after another.
use Rattle.std.proofs.Common.{ℕ, ◌+◌, refl, sym, ◌∙◌, subst, arith}
use Rattle.cell_layout.proofs.OneCell.{slots_lie_within, cell_is_sized}
use Rattle.heap_model.specs.Images.{image_heap}
use Rattle.heap_model.proofs.CellsApart.{has_is_cell}
use Rattle.image_walk.proofs.ObjectNaming.{slot_before}
use Rattle.heap_check.specs.Cells.{BreaksOwners}
use Rattle.heap_check.specs.Firsts.{IsFirst}
use Rattle.heap_check.specs.Names.{NamesBelow}
use Rattle.heap_check.proofs.NamedSlots.{names_slot, named_again, cell_to_slot, cell_to_end, word_read}
use Rattle.image_walk.proofs.SpanWords.{words_count_few}
use Rattle.heap_check.proofs.owners.flaw_of_names.Goals as goal

pub loop-offset-init : goal.loop-offset-init
loop-offset-init c = record {
  names =
      subst (λ (to : ℕ). NamesBelow (image_heap c.args.image.now) to c.args.named.now) (omega arith) c.requires.names;
  within = omega arith;
  as_many = refl;
}

pub next_scavenge_slot-requires : goal.next_scavenge_slot-requires
next_scavenge_slot-requires c =
    let heap = image_heap c.args.image.now in
    cell_is_sized heap.space heap.words c.args.cell (has_is_cell c.requires.stands)

pub word_of-word-requires-clause-within : goal.word_of-word-requires-clause-within
word_of-word-requires-clause-within c =
    let heap = image_heap c.args.image.now in
    (slots_lie_within heap.space heap.words c.args.cell c.in-Some.offset (has_is_cell c.requires.stands)
    c.in-Some.ensures.among).within

pub overflow_add-result : goal.overflow_add-result
overflow_add-result c =
    omega (
      arith,
      slot_before (image_heap c.args.image.now) c.args.cell c.in-Some.offset c.requires.sized
          (has_is_cell c.requires.stands) c.in-Some.ensures.among,
      words_count_few c.args.image.now.regions c.sizes_fit.ensures,
    )

pub returns-then-is_named_again-clause-owned : goal.returns-then-is_named_again-clause-owned
returns-then-is_named_again-clause-owned c =
    let heap = image_heap c.args.image.now in
    let step = cell_to_slot c.requires.rows c.requires.stands c.in-Some.ensures c.loop-offset.invariant.names in
    let reads = word_read c.requires.stands c.in-Some.ensures.among c.word_of-word.ensures in
    let Is : ℕ → Type 0 = λ wanted.
    IsFirst (BreaksOwners heap)
    (record { at = c.args.cell.at + c.in-Some.offset; found = c.word_of-word.result; wanted = wanted }) in
    subst Is (sym c.odd.ensures)
    (named_again c.requires.stands c.requires.namer c.in-Some.ensures.among reads
    (c.is_named_again.ensures.again c.if-is_named_again.true) step)

pub overflow_add-from : goal.overflow_add-from
overflow_add-from c =
    omega (
      arith,
      slot_before (image_heap c.args.image.now) c.args.cell c.in-Some.offset c.requires.sized
          (has_is_cell c.requires.stands) c.in-Some.ensures.among,
      words_count_few c.args.image.now.regions c.sizes_fit.ensures,
    )

pub loop-offset-smaller : goal.loop-offset-smaller
loop-offset-smaller c =
    let heap = image_heap c.args.image.now in
    let slot = slots_lie_within heap.space heap.words c.args.cell c.in-Some.offset (has_is_cell c.requires.stands)
    c.in-Some.ensures.among in
    omega (arith, slot.within, c.in-Some.ensures.reached)

pub loop-offset-preserved : goal.loop-offset-preserved
loop-offset-preserved c =
    let heap = image_heap c.args.image.now in
    let step = cell_to_slot c.requires.rows c.requires.stands c.in-Some.ensures c.loop-offset.invariant.names in
    let reads = word_read c.requires.stands c.in-Some.ensures.among c.word_of-word.ensures in
    let next = names_slot c.requires.stands c.requires.namer c.in-Some.ensures.among reads
    (c.is_named_again.ensures.fresh c.if-is_named_again.false) step in
    let slot = slots_lie_within heap.space heap.words c.args.cell c.in-Some.offset (has_is_cell c.requires.stands)
    c.in-Some.ensures.among in
    record {
      names = subst (λ (to : ℕ). NamesBelow heap to c.is_named_again.new.named) (omega arith) next;
      within = omega (arith, slot.within);
      as_many = c.is_named_again.ensures.as_many ∙ c.loop-offset.invariant.as_many;
    }

pub returns-clause-owned : goal.returns-clause-owned
returns-clause-owned c =
    cell_to_end c.requires.rows c.requires.stands c.loop-offset.invariant.within c.in_default.ensures
    c.loop-offset.invariant.names

pub returns-then-is_named_again-clause-as_many : goal.returns-then-is_named_again-clause-as_many
returns-then-is_named_again-clause-as_many c = c.is_named_again.ensures.as_many ∙ c.loop-offset.invariant.as_many
