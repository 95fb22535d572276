-- What is owed is paid slot by slot.
use Rattle.std.proofs.Common.{◌≡◌, ℕ, ◌+◌, ◌≤◌, ◌<◌, List, [], ◌∷◌, Option, Some, None}
use Rattle.std.proofs.Common.{All, Contains, IfSome, min, sym, ap, subst, ◌∙◌, refl, arith}
use Rattle.std.proofs.lemmas.List.Elements.{All-contains}
use Rattle.page_space.specs.Extents.{Space, eden_start}
use Rattle.cell_layout.specs.declared.cell.Cell.{Cell}
use Rattle.cell_layout.specs.Cells.{IsSized, layouts_in, reading_of}
use Rattle.cell_layout.specs.Slots.{IsLeastFrom}
use Rattle.tagged_word.proofs.Members.{first_in}
use Rattle.tagged_word.proofs.CellReadings.{cell_from}
use Rattle.tagged_word.proofs.Cells.{slot_within, tagged_is_scavenged}
use Rattle.core_parts.specs.Boards.{joined_by}
use Rattle.core_parts.specs.Lists.{left}
use Rattle.core_parts.proofs.Joining.{joined_cases}
use Rattle.core_parts.proofs.Leaving.{left_from, left_out}
use Rattle.mark_laws.proofs.Joins.{all_from}
use Rattle.mark_world.specs.Cycles.{Cycle}
use Rattle.mark_world.specs.Pages.{OfTarget, page_end, slots_of, target}
use Rattle.heap_table.specs.Overviews.{cycle_in, overview}
use Rattle.heap_table.specs.Seats.{Seat}
use Rattle.mark_barrier.specs.CycleSteps.{sure_of_target}
use Rattle.mark_barrier.specs.Owing.{IsToCome, Owes, OwesSlots, page_words_of, slot_word}
use Rattle.mark_barrier.specs.Paid.{left_by, without_target}

-- the list stays where something joins that is in it
joined_again : (list : List ℕ) (to : Option ℕ) → IfSome to (Contains list) → joined_by list to ≡ list
joined_again list None there = refl
joined_again list (Some at) there =
    joined_cases (λ (xs : List ℕ). xs ≡ list) list at (λ is. refl) (λ out. absurd (out there))

-- a cycle stays where the mutator is already sure of a target
pub sure_again : (old : ℕ) (cycle : Cycle) (word : ℕ) → OfTarget old word (Contains cycle.sure)
    → sure_of_target old cycle word ≡ cycle
sure_again old cycle word there =
    ap (λ (list : List ℕ). record cycle { sure = list }) (joined_again cycle.sure (target old word) there)

-- what a list without a target has it had before, and that is not the target
left_by_from : (list : List ℕ) (to : Option ℕ) (at : ℕ) → Contains (left_by list to) at
    → Contains list at × (to ≡ Some at → ⊥)
left_by_from list None at has = (has, λ e. absurd (cc))
left_by_from list (Some a) at has =
    (left_from list a at has, λ e. left_out list a (subst (Contains (left list a)) (let is : at ≡ a = cc in is) has))

-- a list with no member is empty
pub none_in : (list : List ℕ) → ((at : ℕ) → Contains list at → ⊥) → list ≡ []
none_in [] none = refl
none_in (x ∷ xs) none = absurd (none x (first_in x xs))

module _ (space : Space) (table : List ℕ) (cycle : Cycle) (owed : List ℕ) (cell : Cell) (from : ℕ)
    (owes : OwesSlots space table cycle owed cell from) where
  -- a tagged slot lies in the cell
  pub slot_in : (offset : ℕ) → Contains (slots_of (reading_of cell)) offset → offset < cell.size
  slot_in offset there =
      let reads = cell_from (page_words_of space table) (layouts_in space table) cell.at
      (min (eden_start space) (page_end cell.at)) (reading_of cell) owes.reads in
      (slot_within cell.layout cell.length cell.size offset reads.is_layout reads.sized
      (tagged_is_scavenged cell.layout cell.length offset there)).1

  -- the cell ends in the pages
  pub ends_old : cell.at + cell.size ≤ eden_start space
  ends_old =
      let reads = cell_from (page_words_of space table) (layouts_in space table) cell.at
      (min (eden_start space) (page_end cell.at)) (reading_of cell) owes.reads in
      omega (arith, reads.ends)

  -- its layout is one, and gives its size
  pub sized : IsSized cell
  sized =
      let reads = cell_from (page_words_of space table) (layouts_in space table) cell.at
      (min (eden_start space) (page_end cell.at)) (reading_of cell) owes.reads in
      record { is_layout = reads.is_layout; sized = reads.sized }

  -- what is owed behind a slot whose target was shaded
  owed_later : (offset : ℕ) → IsLeastFrom (slots_of (reading_of cell)) from offset → (to : ℕ)
      → Contains (without_target (eden_start space) owed (slot_word space table cell offset)) to
      → IsToCome space table cell (offset + 1) to
  owed_later offset least to has =
      let parts = left_by_from owed (target (eden_start space) (slot_word space table cell offset)) to has in
      let before = All-contains (IsToCome space table cell from) owed to owes.owed parts.0 in
      let other : before.offset ≡ offset → ⊥ = λ e. parts.1
      (ap (λ (o : ℕ). target (eden_start space) (slot_word space table cell o)) (sym e) ∙ before.refers) in
      record {
        offset = before.offset;
        reached = let more = least.least before.offset before.slot before.reached in omega (arith, more, other);
        slot = before.slot;
        refers = before.refers;
      }

  -- the target of the next slot is paid
  pub paid_next : (offset : ℕ) → IsLeastFrom (slots_of (reading_of cell)) from offset
      → OwesSlots space table cycle (without_target (eden_start space) owed (slot_word space table cell offset)) cell
      (offset + 1)
  paid_next offset least = record {
    reads = owes.reads;
    owed = all_from (IsToCome space table cell (offset + 1))
        (without_target (eden_start space) owed (slot_word space table cell offset)) (owed_later offset least);
    born = owes.born;
    sure = owes.sure;
  }

  -- behind the last slot nothing is owed
  pub none_later : All (λ offset. offset < from) (slots_of (reading_of cell)) → owed ≡ []
  none_later behind = none_in owed (λ to has.
      let last = All-contains (IsToCome space table cell from) owed to owes.owed has in
      let low = All-contains (λ (o : ℕ). o < from) (slots_of (reading_of cell)) last.offset behind last.slot in
      omega (arith, low, last.reached))

-- what is owed by one seat is owed by another with the same own words and the same cycle
pub owes_on : (seat new : Seat) (cell : Cell) (from : ℕ) (debts : List ℕ) → new.space ≡ seat.space
    → new.table ≡ seat.table → cycle_in new ≡ cycle_in seat → (overview new).view.owed ≡ debts
    → OwesSlots seat.space seat.table (cycle_in seat) debts cell from → Owes new cell from
owes_on seat new cell from debts space table cycle owed owes =
    subst (λ (xs : List ℕ). OwesSlots new.space new.table (cycle_in new) xs cell from) (sym owed)
    (subst (λ (c : Cycle). OwesSlots new.space new.table c debts cell from) (sym cycle)
    (subst (λ (ws : List ℕ). OwesSlots new.space ws (cycle_in seat) debts cell from) (sym table)
    (subst (λ (s : Space). OwesSlots s seat.table (cycle_in seat) debts cell from) (sym space) owes)))
