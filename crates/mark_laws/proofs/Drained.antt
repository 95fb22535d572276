-- Where nothing waits: no cell is grey, and what is covered is black.
use Rattle.std.proofs.Common.{ℕ, ◌+◌, ◌≤◌, ◌≡◌, ◌≢◌, inl, inr, false, List, [], length}
use Rattle.std.proofs.Common.{slice_index, Option, Some, None, IsSomeAnd, Contains, sym, ap, ◌∙◌, arith}
use Rattle.std.proofs.lemmas.List.Elements.{All-contains}
use Rattle.mark_laws.specs.Types.{Reading, World, HelperView, Snap}
use Rattle.tagged_word.specs.Readings.{reference_in}
use Rattle.mark_world.specs.Pages.{slots_of, target}
use Rattle.mark_world.specs.Steps.{white, grey, black}
use Rattle.mark_world.specs.AfterEvents.{IsMarked}
use Rattle.mark_world.specs.Coverage.{EachSlot, HasCovered, IsCovered, IsToVisit, cell_of, colour_of}
use Rattle.mark_world.specs.Soundness.{HasLists, HasViewLists, IsEmptyView, Sound, Waits}
use Rattle.mark_laws.proofs.Colours.{each_colour}
use Rattle.mark_laws.proofs.Starts.{free_or_mine}
use Rattle.mark_laws.proofs.Joins.{of_slot, of_target}
use Rattle.mark_world.specs.BetweenCommands.{HasSureTarget, IsDrained, MarksAll, IsReachedByMarking, Settled}

-- an empty list has no member
pub in_none : {X : Type 0} (xs : List X) (x : X) → xs ≡ [] → Contains xs x → ⊥
in_none xs x e c = omega (arith, ap length e, c.1)

-- the view of each helper is empty where none is out
each_empty : (world : World) → HasLists world → IsDrained world → (view : HelperView) → Contains world.helpers view
    → IsEmptyView view
each_empty world lists drained view there =
    let has : HasViewLists world view = All-contains (HasViewLists world) world.helpers view lists.helpers there in
    has.in_hand (All-contains (λ (v : HelperView). v.out ≡ false) world.helpers view drained.none_out there)

-- no helper is to visit a cell
pub none_to_visit : (world : World) → HasLists world → IsDrained world → (at : ℕ) → IsToVisit world at → ⊥
none_to_visit world lists drained at (k, view, l, e, visits) =
    in_none view.visit at (each_empty world lists drained view (k, l, e)).visit visits

-- a helper with an empty view reads nothing
reads_none : (snap : Option Snap) (at : ℕ) → snap ≡ None → IsSomeAnd snap (λ s. s.cell ≡ at) → ⊥
reads_none None at e r = r
reads_none (Some s) at e r = cc

-- no cell waits
pub none_waits : (world : World) → HasLists world → IsDrained world → (at : ℕ) → Waits world at → ⊥
none_waits world lists drained at (inl main) = in_none world.main.grey at drained.grey main
none_waits world lists drained at (inr (inl (k, view, l, e, inl waits))) =
    in_none view.grey at (each_empty world lists drained view (k, l, e)).grey waits
none_waits world lists drained at (inr (inl (k, view, l, e, inr reads))) =
    reads_none view.snap at (each_empty world lists drained view (k, l, e)).snap reads
none_waits world lists drained at (inr (inr (k, word, l, e, refers))) =
    let zero_word : word ≡ 0 = All-contains (λ (w : ℕ). w ≡ 0) world.board word drained.board (k, l, e) in
    let nothing : None ≡ Some at = sym (ap reference_in zero_word) ∙ refers in cc

-- a colour of three that is neither white nor grey is black
pub last_colour : (colour : ℕ) → colour ≤ black → colour ≢ white → colour ≢ grey → colour ≡ black
last_colour colour most coloured settled = grind arith

-- a reached cell is black
pub reached_black : (world : World) → Sound world → IsDrained world → (at : ℕ) → IsMarked world at
    → colour_of world at ≡ black
reached_black world sound drained at reached =
    last_colour (colour_of world at) (each_colour world sound.sizes at) reached.coloured
    (λ is_grey. none_waits world sound.lists drained at
    (All-contains (λ (a : ℕ). colour_of world a ≡ grey → Waits world a) world.main.starts at sound.grey reached.start
    is_grey))

-- a covered cell is reached
pub covered_reached : (world : World) → HasLists world → IsDrained world → world.main.owed ≡ [] → (at : ℕ)
    → IsCovered world at → IsMarked world at
covered_reached world lists drained none at (inl coloured) =
    record { start = lists.coloured at coloured; coloured = coloured }
covered_reached world lists drained none at (inr (inl owed)) = absurd (in_none world.main.owed at none owed)
covered_reached world lists drained none at (inr (inr visit)) = absurd (none_to_visit world lists drained at visit)

-- a tagged slot of a reached cell refers to a reached cell
pub next_reached : (world : World) → Sound world → Settled world → IsDrained world → (from at offset : ℕ)
    (cell : Reading)
    → IsMarked world from → cell_of world from ≡ Some cell → Contains (slots_of cell) offset
    → target world.old (slice_index world.words (from + offset)) ≡ Some at → IsMarked world at
next_reached world sound settled drained from at offset cell reached reads there refers =
    elim (free_or_mine world from reached.start) [
      | inl free ↦
          let covered = of_slot world from offset cell (λ o. HasCovered world) reads there
          (sound.black from free (reached_black world sound drained from reached)) in
          covered_reached world sound.lists drained settled.owed at
          (of_target world.old (slice_index world.words (from + offset)) at (IsCovered world) refers covered)
      | inr mine ↦
          let slots = All-contains (λ (a : ℕ). EachSlot world a (λ o. HasSureTarget world)) world.main.mine from
          settled.sure mine in
          let sure = of_target world.old (slice_index world.words (from + offset)) at (Contains world.main.sure) refers
          (of_slot world from offset cell (λ o. HasSureTarget world) reads there slots) in
          covered_reached world sound.lists drained settled.owed at
          (All-contains (IsCovered world) world.main.sure at sound.sure.covered sure)
    ]

-- each old cell that is reached, in so many steps or few, is reached at once
all_reached : (world : World) → Sound world → Settled world → IsDrained world → (at : ℕ) → IsReachedByMarking world at
    → IsMarked world at
all_reached world sound settled drained _ (IsReachedByMarking.start at reached) = reached
all_reached world sound settled drained _ (IsReachedByMarking.slot from at offset cell before reads there refers) =
    next_reached world sound settled drained from at offset cell
    (all_reached world sound settled drained from before) reads there refers

-- each old cell that is reached is black
pub reached_is_black : (world : World) → Sound world → Settled world → IsDrained world → MarksAll world
reached_is_black world sound settled drained at reached =
    reached_black world sound drained at (all_reached world sound settled drained at reached)
