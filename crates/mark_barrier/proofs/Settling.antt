-- The mutator's part of marking stays done where a cell is made black, and nothing is owed then.
use Rattle.std.proofs.Common.{◌≡◌, inl, inr, ℕ, ◌+◌, Bool, IsTrue, List, [], All, Contains, IfSome}
use Rattle.std.proofs.Common.{if◌then◌else◌, slice_index, sym, ap, subst, ◌∙◌}
use Rattle.std.proofs.lemmas.Bool.{cases_eq}
use Rattle.std.proofs.lemmas.List.Elements.{All-contains}
use Rattle.tagged_word.proofs.Members.{in_map}
use Rattle.page_space.specs.Extents.{Space, eden_start}
use Rattle.core_parts.specs.Lists.{joined}
use Rattle.core_parts.proofs.Joining.{joined_from}
use Rattle.mark_laws.specs.Types.{MainView}
use Rattle.mark_laws.proofs.Joins.{all_from, targets_keep, targets_there}
use Rattle.mark_laws.proofs.Listing.{some_weaker}
use Rattle.mark_laws.proofs.Slots.{some_from}
use Rattle.mark_laws.proofs.Starts.{free_or_mine}
use Rattle.mark_world.specs.BetweenCommands.{Settled}
use Rattle.mark_world.specs.Cycles.{Cycle, with_cycle}
use Rattle.mark_world.specs.Pages.{OfTarget, cell_at, is_free, slot_words, slots_of, target, targets_joined}
use Rattle.mark_world.specs.Steps.{free_slot_words, words_in_slots}
use Rattle.shared_table.specs.Worlds.{no_cycle, world_at_home}
use Rattle.heap_table.specs.Overviews.{cycle_in, overview}
use Rattle.heap_table.specs.Seats.{Seat}
use Rattle.mark_barrier.specs.CycleSteps.{made_black}
use Rattle.mark_barrier.specs.Owing.{page_words_of}
use Rattle.mark_barrier.specs.Paid.{MovesTo}

-- the mutator is sure of each target of a tagged slot of a cell
abbrev IsDone : (old : ℕ) (words layouts sure : List ℕ) (at : ℕ) → Type 0
IsDone old words layouts sure at =
    IfSome (cell_at old words layouts at) (λ cell.
    All (λ offset. OfTarget old (slice_index words (at + offset)) (Contains sure)) (slots_of cell))

-- of each cell that it made black
abbrev AreDone : (old : ℕ) (words layouts : List ℕ) → Cycle → Type 0
AreDone old words layouts cycle = All (IsDone old words layouts cycle.sure) cycle.mine

module _ (old : ℕ) (words layouts : List ℕ) (at : ℕ) where
  -- it stays so where it is sure of more
  done_more : (sure more : List ℕ) → ((one : ℕ) → Contains sure one → Contains more one)
      → IsDone old words layouts sure at → IsDone old words layouts more at
  done_more sure more keeps done =
      some_weaker
      (λ cell. All (λ offset. OfTarget old (slice_index words (at + offset)) (Contains sure)) (slots_of cell))
      (λ cell. All (λ offset. OfTarget old (slice_index words (at + offset)) (Contains more)) (slots_of cell))
      (cell_at old words layouts at) (λ cell all.
      all_from (λ offset. OfTarget old (slice_index words (at + offset)) (Contains more)) (slots_of cell)
      (λ offset slot. some_weaker (Contains sure) (Contains more) (target old (slice_index words (at + offset))) keeps
      (All-contains (λ o. OfTarget old (slice_index words (at + o)) (Contains sure)) (slots_of cell) offset all slot)))
      done

  -- a free start is done once the targets of its tagged slots have joined
  done_now : (main : MainView) (sure : List ℕ) → IsTrue (is_free main at)
      → IsDone old words layouts (targets_joined old sure (free_slot_words old words layouts main at)) at
  done_now main sure free =
      let all : List ℕ = targets_joined old sure (free_slot_words old words layouts main at) in
      some_from (λ cell. All (λ offset. OfTarget old (slice_index words (at + offset)) (Contains all)) (slots_of cell))
      (cell_at old words layouts at) (λ cell is.
      let of_cell : free_slot_words old words layouts main at ≡ slot_words words at cell =
      ap (λ (b : Bool). if b then words_in_slots words at (cell_at old words layouts at) else []) free
      ∙ ap (words_in_slots words at) is in
      all_from (λ offset. OfTarget old (slice_index words (at + offset)) (Contains all)) (slots_of cell)
      (λ offset slot. some_from (Contains all) (target old (slice_index words (at + offset))) (λ to refers.
      subst (λ (ws : List ℕ). Contains (targets_joined old sure ws) to) (sym of_cell)
      (targets_there old sure (slot_words words at cell) (slice_index words (at + offset)) to
      (in_map (λ (o : ℕ). slice_index words (at + o)) (slots_of cell) offset slot) refers))))

-- so each cell is done once one more was made black
made_done : (seat : Seat) (at : ℕ) → Contains (overview seat).view.starts at
    → AreDone (overview seat).old (overview seat).words (overview seat).layouts (cycle_in seat)
    → AreDone (overview seat).old (overview seat).words (overview seat).layouts
    (made_black (overview seat).old (overview seat).words (overview seat).layouts (cycle_in seat) at)
made_done seat at start done =
    let old : ℕ = (overview seat).old in
    let words : List ℕ = (overview seat).words in
    let layouts : List ℕ = (overview seat).layouts in
    let cycle : Cycle = cycle_in seat in
    let later : Cycle = made_black old words layouts cycle at in
    let before : (one : ℕ) → Contains cycle.mine one → IsDone old words layouts later.sure one =
    λ one was. done_more old words layouts one cycle.sure later.sure
    (λ to has. targets_keep old cycle.sure
    (free_slot_words old words layouts (with_cycle no_cycle cycle) at) to has)
    (All-contains (IsDone old words layouts cycle.sure) cycle.mine one done was) in
    all_from (IsDone old words layouts later.sure) (joined cycle.mine at) (λ one on.
    elim (cases_eq one at) [
      | inr other ↦ before one (joined_from cycle.mine at one other on)
      | inl same ↦ subst (IsDone old words layouts later.sure) (sym same)
          (elim (free_or_mine (world_at_home (overview seat)) at start) [
            | inl free ↦ done_now old words layouts at (with_cycle no_cycle cycle) cycle.sure free
            | inr was ↦ before at was
          ])
    ])

-- the mutator's part is done in a later seat with the same pages and layout words
pub black_settles : (second third : Seat) (at : ℕ) → Contains (overview second).view.starts at
    → MovesTo second third second.table
    (made_black (overview second).old (overview second).words (overview second).layouts (cycle_in second) at)
    → (overview third).view.owed ≡ [] → Settled (world_at_home (overview second))
    → Settled (world_at_home (overview third))
black_settles second third at start moves owed settled =
    let words : List ℕ = (overview second).words in
    let done = made_done second at start settled.sure in
    record {
      owed = owed;
      sure = subst (AreDone (overview third).old (overview third).words (overview third).layouts) (sym moves.cycle)
          (subst (λ (ls : List ℕ). AreDone (overview third).old (overview third).words ls
          (made_black (overview second).old words (overview second).layouts (cycle_in second) at)) (sym moves.layouts)
          (subst (λ (table : List ℕ). AreDone (overview third).old (page_words_of third.space table)
          (overview second).layouts
          (made_black (overview second).old words (overview second).layouts (cycle_in second) at)) (sym moves.table)
          (subst (λ (space : Space). AreDone (eden_start space) (page_words_of space second.table)
          (overview second).layouts
          (made_black (overview second).old words (overview second).layouts (cycle_in second) at)) (sym moves.space)
          done)));
    }
