-- A slot that is to refer to a box holds a slot word, so what it refers to stands before the layout words.
use Rattle.std.proofs.Common.{◌≡◌, ℕ, ap, subst, unwrap_or}
use Rattle.tagged_word.proofs.Readings.{reference_from}
use Rattle.heap_model.specs.Slots.{IsSlotWord}
use Rattle.heap_model.specs.Needs.{word_at}
use Rattle.write_barrier.specs.MutatorState.{heap_of}
use Rattle.object_cells.specs.Contents.{HoldsSlotWord}
use Rattle.object_cells.proofs.SlotTargets.{target_before_layouts}
use Rattle.object_cells.proofs.boxes.filling_of.Goals as goal

pub box_filling-requires-clause-within : goal.box_filling-requires-clause-within
box_filling-requires-clause-within c at is =
    let heap = heap_of c.args.main.now in
    let word : ℕ = word_at heap c.args.at in
    let read : word ≡ c.word-word.result = ap (λ found. unwrap_or found 0) c.word-word.ensures.of_heap in
    let slot : IsSlotWord heap c.word-word.result =
    subst (IsSlotWord heap) read (subst (HoldsSlotWord heap word) c.in-Boxed.is c.requires.slot) in
    target_before_layouts c.word-word.result at c.requires.whole slot
    (reference_from c.word-word.result at is).1
