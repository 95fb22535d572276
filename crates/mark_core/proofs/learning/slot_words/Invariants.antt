use Rattle.std.proofs.Common.{◌≡◌, ◌+◌, map, slice_index}
use Rattle.mark_world.specs.Pages.{slots_of}
use Rattle.mark_core.proofs.SlotWalks.{below}
use Rattle.mark_core.proofs.learning.slot_words.Given as goal

abbrev pub invariant-loop-offset : goal.invariant-loop-offset
invariant-loop-offset l =
    l.words ≡ map (λ offset. slice_index l.world.words (l.at + offset)) (below l.offset (slots_of l.cell))
