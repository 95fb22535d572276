-- The words of a cell by their addresses: its slots, and the first root words of variables.
use Rattle.std.proofs.Common.{◌≡◌, ℕ, ◌+◌, ◌*◌, ◌<◌, ◌≤◌, inl, inr, List, Some, All, Contains, slice_get}
use Rattle.std.proofs.Common.{refl, sym, ◌∙◌, ap, subst, arith}
use Rattle.std.proofs.lemmas.Bool.{cases_lt}
use Rattle.std.proofs.lemmas.Option.{same_Some}
use Rattle.std.proofs.lemmas.List.Elements.{All-contains}
use Rattle.tagged_word.specs.Cells.{tagged_offsets}
use Rattle.page_space.specs.Extents.{Space, roots_start, marks_start, root_words}
use Rattle.page_space.proofs.LawsHold.{kinds_by_number}
use Rattle.handle_roots.specs.Roots.{root_at}
use Rattle.cell_layout.proofs.OneCell.{slots_lie_within}
use Rattle.heap_model.specs.Types.{Cell}
use Rattle.heap_model.specs.Heaps.{Heap, HasCell}
use Rattle.heap_model.specs.Kinds.{HasWord}
use Rattle.heap_model.specs.Wholeness.{Whole}
use Rattle.heap_model.proofs.CellsApart.{has_is_cell, one_at, used_few}
use Rattle.heap_model.proofs.CellWords.{word_there}
use Rattle.heap_model.proofs.WordsAlike.{cell_below_roots}
use Rattle.live_cells.specs.Live.{HasSlotTo}
use Rattle.live_cells.proofs.Slots.{marking_slots}
use Rattle.heap_walk.proofs.SlotTargets.{word_found}
use Rattle.cell_list.specs.Listing.{Listing}
use Rattle.write_barrier.specs.MutatorState.{Mutator, heap_of}
use Rattle.ephemeron_mark.specs.Progress.{HoldsReference, HasGrown}
use Rattle.ephemeron_mark.proofs.LiveStands.{before_marks}
use Rattle.ephemeron_mark.proofs.GrownLists.{stays_marked}

-- where the words of a variable stand
pub record IsRootWord (space : Space) (variable at : ℕ) : Type 0 where
  pub known : variable < space.variables
  pub is : at ≡ root_at space variable
  pub below : at < marks_start space

-- the first word of a variable's root is found by its number
pub root_word : (told space : Space) (variable count at : ℕ) → told ≡ space → count ≡ told.variables
    → variable < count → at ≡ roots_start told + root_words * variable → IsRootWord space variable at
root_word told space variable count at same counted below is =
    let many = ap (λ (one : Space). one.variables) same in
    let starts = ap (λ (one : Space). roots_start one) same in
    let kinds = kinds_by_number space in
    record {
      known = omega (arith, many, counted, below);
      is = omega (arith, starts, is);
      below = omega (arith, many, counted, below, starts, is, kinds.layouts, kinds.marks);
    }

-- with the next variable's target, those of all before and its own are marked
pub next_root : {main : Mutator} {old new : Listing} (next : ℕ) → HasGrown main old new
    → ((variable at : ℕ) → variable < next → HoldsReference (heap_of main) (root_at main.seat.space variable) at
    → Contains old.addresses at)
    → ((at : ℕ) → HoldsReference (heap_of main) (root_at main.seat.space next) at → Contains new.addresses at)
    → (variable at : ℕ) → variable < next + 1 → HoldsReference (heap_of main) (root_at main.seat.space variable) at
    → Contains new.addresses at
next_root {main} {new = new} next grown before own variable at below refers =
    elim (cases_lt variable next) [
      | inl earlier ↦ stays_marked at grown (before variable at earlier refers)
      | inr last ↦
          let same : variable ≡ next = omega (arith, last, below) in
          own at (subst (λ (one : ℕ). HoldsReference (heap_of main) (root_at main.seat.space one) at) same refers)
    ]

module _ {heap : Heap} {cell : Cell} {words : List ℕ} (has : HasCell heap cell words) where
  -- the word at the address of a cell's word is that of the cell
  pub word_read : (offset word : ℕ) → offset < cell.size → slice_get heap.words (cell.at + offset) ≡ Some word
      → HasWord words offset word
  word_read offset word within read =
      let there = word_there offset has within in
      there.1 ∙ ap (λ (one : ℕ). Some one)
      (same_Some there.0 word (sym (word_found offset there.0 has within there.1) ∙ read))

  -- the slots that marking visits lie in the cell
  pub slot_within : (offset : ℕ) → Contains (tagged_offsets cell.layout cell.length) offset → offset < cell.size
  slot_within offset visited =
      (slots_lie_within heap.space heap.words cell offset (has_is_cell has)
      (marking_slots cell.layout.kind cell.layout cell.length offset visited)).within

  -- behind its header
  pub slot_behind : (offset : ℕ) → Contains (tagged_offsets cell.layout cell.length) offset → 1 ≤ offset
  slot_behind offset visited =
      (slots_lie_within heap.space heap.words cell offset (has_is_cell has)
      (marking_slots cell.layout.kind cell.layout cell.length offset visited)).behind_header

  -- so a word of the cell stands before the marks
  pub word_below : (offset : ℕ) → Whole heap → offset < cell.size → cell.at + offset < marks_start heap.space
  word_below offset whole within =
      before_marks heap.space (cell.at + offset) (omega (arith, within, cell_below_roots (used_few whole.rows) has))

  -- what the word of a slot refers to, the cell has a slot to
  pub slot_to : (offset at : ℕ) → Contains (tagged_offsets cell.layout cell.length) offset
      → HoldsReference heap (cell.at + offset) at → HasSlotTo heap cell.at at
  slot_to offset at visited refers = record {
    cell = cell;
    words = words;
    has = has;
    stands = refl;
    offset = offset;
    visited = visited;
    holds = word_read offset (4 * at + 1) (slot_within offset visited) refers;
  }

  -- and a slot of the cell there stands at one of its offsets
  slot_from : (at : ℕ) (slot : HasSlotTo heap cell.at at)
      → Contains (tagged_offsets cell.layout cell.length) slot.offset × HoldsReference heap (cell.at + slot.offset) at
  slot_from at slot =
      let same : slot.cell ≡ cell = one_at slot.has has slot.stands in
      let visited = subst (λ (one : Cell). Contains (tagged_offsets one.layout one.length) slot.offset) same
      slot.visited in
      let own : HasCell heap cell slot.words = subst (λ (one : Cell). HasCell heap one slot.words) same slot.has in
      (visited, word_found slot.offset (4 * at + 1) own (slot_within slot.offset visited) slot.holds)

-- with the target of the slot at an offset, those of all before and its own are marked
pub next_slot : {main : Mutator} {old new : Listing} (offsets : List ℕ) (cell next : ℕ) → HasGrown main old new
    → ((offset at : ℕ) → Contains offsets offset → offset < next → HoldsReference (heap_of main) (cell + offset) at
    → Contains old.addresses at)
    → ((at : ℕ) → HoldsReference (heap_of main) (cell + next) at → Contains new.addresses at)
    → (offset at : ℕ) → Contains offsets offset → offset < next + 1 → HoldsReference (heap_of main) (cell + offset) at
    → Contains new.addresses at
next_slot {main} {new = new} offsets cell next grown before own offset at visited below refers =
    elim (cases_lt offset next) [
      | inl earlier ↦ stays_marked at grown (before offset at visited earlier refers)
      | inr last ↦
          let same : offset ≡ next = omega (arith, last, below) in
          own at (subst (λ (one : ℕ). HoldsReference (heap_of main) (cell + one) at) same refers)
    ]

-- where an offset is none of a list, those that are not behind it are before it
pub passes_offset : (offsets : List ℕ) (next : ℕ) → (Contains offsets next → ⊥) → (offset : ℕ)
    → Contains offsets offset → offset < next + 1 → offset < next
passes_offset offsets next none offset there below =
    elim (cases_lt offset next) [
      | inl earlier ↦ earlier
      | inr last ↦
          let same : offset ≡ next = omega (arith, last, below) in
          absurd (none (subst (λ (one : ℕ). Contains offsets one) same there))
    ]

-- where all slots are before an offset, each target is marked
pub all_slots : {heap : Heap} {cell : Cell} {words : List ℕ} (cells : Listing) (from : ℕ) → HasCell heap cell words
    → All (λ offset. offset < from) (tagged_offsets cell.layout cell.length)
    → ((offset at : ℕ) → Contains (tagged_offsets cell.layout cell.length) offset → offset < from
    → HoldsReference heap (cell.at + offset) at → Contains cells.addresses at)
    → (at : ℕ) → HasSlotTo heap cell.at at → Contains cells.addresses at
all_slots {cell = cell} cells from has all marked at slot =
    let stands = slot_from has at slot in
    marked slot.offset at stands.0
    (All-contains (λ offset. offset < from) (tagged_offsets cell.layout cell.length) slot.offset all stands.0) stands.1
