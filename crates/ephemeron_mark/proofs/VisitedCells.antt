-- The cells that were visited stay closed while more are marked, and the next one is read where it stands.
use Rattle.std.proofs.Common.{◌≡◌, ℕ, zero, suc, ◌+◌, ◌<◌, ◌≤◌, inl, inr, Some, Contains, slice_get, length, get_or}
use Rattle.std.proofs.Common.{sym, ◌∙◌, subst, arith}
use Rattle.std.proofs.lemmas.Bool.{cases_lt}
use Rattle.std.proofs.lemmas.Option.{same_Some, slice_get-get_or, slice_get_within}
use Rattle.heap_model.specs.Types.{Cell}
use Rattle.heap_model.specs.Heaps.{HasCell}
use Rattle.heap_model.proofs.CellsApart.{has_is_cell}
use Rattle.live_cells.proofs.ObjectTargets.{at_is_in}
use Rattle.live_cells.proofs.MarkedLinks.{element_at}
use Rattle.cell_list.specs.Listing.{Listing}
use Rattle.heap_walk.specs.Standing.{StandsAt}
use Rattle.write_barrier.specs.Seats.{heap_words}
use Rattle.write_barrier.specs.MutatorState.{Mutator, heap_of}
use Rattle.ephemeron_mark.specs.Pairs.{Waits}
use Rattle.ephemeron_mark.specs.Progress.{IsMarking, HasGrown, IsCellOf, WaitsMore, IsVisited, IsAmong, AreVisited}
use Rattle.ephemeron_mark.proofs.GrownLists.{stays_marked}
use Rattle.ephemeron_mark.proofs.WaitingKeys.{marked_or_waits_stays}

-- one that is among the first so many is marked
pub among_marked : {cells : Listing} {count at : ℕ} → IsAmong cells count at → Contains cells.addresses at
among_marked {cells} {at = at} among = at_is_in cells.addresses among.place at among.there

-- and a marked one is among all
pub marked_among : (cells : Listing) (at : ℕ) → Contains cells.addresses at
    → IsAmong cells (length cells.addresses) at
marked_among cells at there =
    record { place = there.0; below = there.1; there = element_at cells.addresses at there }

-- a cell is among the first so many that were marked, or is the next one
pub data WhichAmong (cells : Listing) (count at : ℕ) : Type 0 where
  before : IsAmong cells count at → WhichAmong cells count at
  last : slice_get cells.addresses count ≡ Some at → WhichAmong cells count at

-- so it is with one among the first so many and one more
pub which_among : (cells : Listing) (count at : ℕ) → IsAmong cells (count + 1) at → WhichAmong cells count at
which_among cells count at among =
    elim (cases_lt among.place count) [
      | inl less ↦ WhichAmong.before (record { place = among.place; below = less; there = among.there })
      | inr past ↦
          let same : among.place ≡ count = omega (arith, past, among.below) in
          WhichAmong.last (subst (λ (n : ℕ). slice_get cells.addresses n ≡ Some at) same among.there)
    ]

module _ {main : Mutator} {old new : Listing} (grown : HasGrown main old new) where
  -- the first so many are those that they were
  pub among_before : (count at : ℕ) → count ≤ length old.addresses → IsAmong new count at → IsAmong old count at
  among_before count at few among =
      let place : ℕ = among.place in
      let was : ℕ = get_or old.addresses place 0 in
      let there = slice_get-get_or old.addresses place 0 (omega (arith, among.below, few)) in
      let same : was ≡ at = same_Some was at (sym (grown.kept place was there) ∙ among.there) in
      record {
        place = place;
        below = among.below;
        there = subst (λ (one : ℕ). slice_get old.addresses place ≡ Some one) same there;
      }

  pub among_after : (count at : ℕ) → IsAmong old count at → IsAmong new count at
  among_after count at among =
      record { place = among.place; below = among.below; there = grown.kept among.place at among.there }

  -- no fewer are marked
  pub no_fewer : (count : ℕ) → count < length old.addresses → count < length new.addresses
  no_fewer count below =
      let at : ℕ = get_or old.addresses count 0 in
      slice_get_within new.addresses count at (grown.kept count at (slice_get-get_or old.addresses count 0 below))

  pub as_many_still : (count : ℕ) → count ≤ length old.addresses → count ≤ length new.addresses
  as_many_still zero few = omega arith
  as_many_still (suc count) few = omega (arith, no_fewer count (omega (arith, few)))

  -- a marked cell that was visited is closed still, where more pairs wait for keys that were not marked
  visited_stays : {before after : Waits} (at : ℕ) → WaitsMore old before after → Contains old.addresses at
      → IsVisited (heap_of main) old before at → IsVisited (heap_of main) new after at
  visited_stays at more there visited = record {
    slots = λ to slot. stays_marked to grown (visited.slots to slot);
    pairs = λ key value entry. marked_or_waits_stays grown key value more.kept (visited.pairs key value entry);
    woken = λ value waits. elim (more.fresh at waits.slot waits.waits_for) [
      | inl earlier ↦
          stays_marked value grown
          (visited.woken value (record { slot = waits.slot; waits_for = earlier; refers = waits.refers }))
      | inr none ↦ absurd (none there)
    ];
  }

  -- with the next cell visited, all before and it are
  pub next_visited : {before after : Waits} (next at : ℕ) → WaitsMore old before after
      → next < length old.addresses → slice_get old.addresses next ≡ Some at
      → AreVisited (heap_of main) old before next → IsVisited (heap_of main) new after at
      → AreVisited (heap_of main) new after (next + 1)
  next_visited {after = after} next at more below there visited own other among =
      elim (which_among old next other (among_before (next + 1) other (omega (arith, below)) among)) [
        | WhichAmong.before earlier ↦ visited_stays other more (among_marked earlier) (visited other earlier)
        | WhichAmong.last here ↦
            subst (IsVisited (heap_of main) new after) (same_Some at other (sym there ∙ here)) own
      ]

module _ {main : Mutator} {cells : Listing} (marking : IsMarking main cells) where
  -- a marked cell stands where it is read
  pub stands_to_read : (at : ℕ) → Contains cells.addresses at
      → (cell : Cell) × StandsAt main.seat.space (heap_words main.seat) at cell
  stands_to_read at there =
      let stands = marking.stand at there in
      (stands.cell, record { is_cell = has_is_cell stands.has; stands = stands.stands })

  -- and what is read is a cell of the heap
  pub read_is_cell : (at : ℕ) (read : Cell) → Contains cells.addresses at
      → ((cell : Cell) → StandsAt main.seat.space (heap_words main.seat) at cell → read ≡ cell)
      → IsCellOf (heap_of main) read
  read_is_cell at read there one =
      let stands = marking.stand at there in
      let same : read ≡ stands.cell =
      one stands.cell (record { is_cell = has_is_cell stands.has; stands = stands.stands }) in
      (stands.words, subst (λ (cell : Cell). HasCell (heap_of main) cell stands.words) (sym same) stands.has)
