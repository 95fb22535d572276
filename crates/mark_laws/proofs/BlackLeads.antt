-- Where no seat is out and the mutator's part is done, black cells lead to cells that are not white.
use Rattle.std.proofs.Common.{ℕ, ◌+◌, ◌≡◌, ◌≢◌, inl, inr, false, []}
use Rattle.std.proofs.Common.{slice_index, Some, Contains}
use Rattle.std.proofs.lemmas.List.Elements.{All-contains}
use Rattle.mark_laws.specs.Types.{Reading, World, HelperView}
use Rattle.mark_world.specs.Pages.{slots_of, target}
use Rattle.mark_world.specs.Steps.{white, black}
use Rattle.mark_world.specs.Coverage.{EachSlot, HasCovered, IsCovered, cell_of, colour_of}
use Rattle.mark_world.specs.Soundness.{HasLists, HasViewLists, Sound}
use Rattle.mark_world.specs.BetweenCommands.{HasSureTarget, Settled}
use Rattle.mark_laws.specs.Runs.{HasNoneOut}
use Rattle.mark_laws.proofs.Starts.{free_or_mine}
use Rattle.mark_laws.proofs.Joins.{of_slot, of_target}
use Rattle.mark_laws.proofs.Drained.{in_none}

-- a covered cell is not white
covered_coloured : (world : World) → HasLists world → HasNoneOut world → world.main.owed ≡ [] → (at : ℕ)
    → IsCovered world at → colour_of world at ≢ white
covered_coloured world lists none owed at (inl coloured) = coloured
covered_coloured world lists none owed at (inr (inl owes)) = absurd (in_none world.main.owed at owed owes)
covered_coloured world lists none owed at (inr (inr (k, view, l, e, visits))) =
    let has : HasViewLists world view = All-contains (HasViewLists world) world.helpers view lists.helpers (k, l, e) in
    let out = All-contains (λ (v : HelperView). v.out ≡ false) world.helpers view none (k, l, e) in
    absurd (in_none view.visit at (has.in_hand out).visit visits)

-- what a slot of a black cell refers to is not white
pub black_leads_on : (world : World) (from at offset : ℕ) (cell : Reading) → Sound world → Settled world
    → HasNoneOut world
    → Contains world.main.starts from → colour_of world from ≡ black → cell_of world from ≡ Some cell
    → Contains (slots_of cell) offset → target world.old (slice_index world.words (from + offset)) ≡ Some at
    → colour_of world at ≢ white
black_leads_on world from at offset cell sound settled none start is_black reads there refers =
    elim (free_or_mine world from start) [
      | inl free ↦
          let covered = of_slot world from offset cell (λ o. HasCovered world) reads there
          (sound.black from free is_black) in
          covered_coloured world sound.lists none settled.owed at
          (of_target world.old (slice_index world.words (from + offset)) at (IsCovered world) refers covered)
      | inr mine ↦
          let slots = All-contains (λ (a : ℕ). EachSlot world a (λ o. HasSureTarget world)) world.main.mine from
          settled.sure mine in
          let sure = of_target world.old (slice_index world.words (from + offset)) at (Contains world.main.sure) refers
          (of_slot world from offset cell (λ o. HasSureTarget world) reads there slots) in
          covered_coloured world sound.lists none settled.owed at
          (All-contains (IsCovered world) world.main.sure at sound.sure.covered sure)
    ]
