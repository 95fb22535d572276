-- What holds as a cycle ends: cells with a colour are kept cells of pages, black ones lead on, and pages that
-- are one free run have none.
use Rattle.std.proofs.Common.{◌≡◌, ◌≢◌, ℕ, ◌+◌, ◌<◌, ◌≤◌, ◌⊎◌, inl, inr, true, Some, Contains}
use Rattle.std.proofs.Common.{IsTrue, nat_lt, slice_index, refl, sym, ◌∙◌, ap, subst, arith}
use Rattle.std.specs.Option.{option_and_then}
use Rattle.std.proofs.lemmas.Bool.{cases_lt, cases_eq}
use Rattle.std.proofs.lemmas.Bool.Decides.{nat_tests}
use Rattle.std.proofs.lemmas.List.Elements.{All-contains}
use Rattle.tagged_word.specs.Cells.{is_free_kind}
use Rattle.tagged_word.specs.Readings.{given}
use Rattle.tagged_word.proofs.Readings.{reference_to}
use Rattle.page_space.specs.Extents.{eden_start}
use Rattle.cell_layout.specs.Cells.{reading_of}
use Rattle.mark_world.specs.declared.world.World.{World}
use Rattle.mark_world.specs.Pages.{target}
use Rattle.mark_world.specs.Steps.{white, black}
use Rattle.mark_world.specs.Coverage.{cell_of, colour_of}
use Rattle.mark_world.specs.Soundness.{Sound}
use Rattle.mark_world.specs.BetweenCommands.{Settled}
use Rattle.mark_laws.specs.Runs.{HasNoneOut}
use Rattle.mark_laws.proofs.BlackLeads.{black_leads_on}
use Rattle.mark_laws.proofs.Starts.{free_or_mine}
use Rattle.heap_model.specs.Types.{Cell}
use Rattle.heap_model.specs.Heaps.{Heap}
use Rattle.heap_model.specs.Slots.{reference_word}
use Rattle.heap_model.proofs.CellsApart.{cells_apart, first_of_cell}
use Rattle.live_cells.specs.Live.{HasSlotTo}
use Rattle.mark_world.specs.Cycles.{Cycle}
use Rattle.cycle_state.specs.Cycles.{IsWorldOf, main_of, world_in}
use Rattle.cycle_state.specs.Resting.{IsPageCell, Rests}
use Rattle.cycle_state.proofs.PageCells.{page_cells_are_read, page_words_are_read}
use Rattle.cycle_laws.specs.Ends.{ColouredIsKept, BlackSlotsLeadOn, BlackSlotsLeadToStarts, FreePagesAreWhite}
use Rattle.cycle_laws.proofs.Kept.{born_is_kept}
use Rattle.cycle_laws.proofs.TableSlots.{weak_slot}
use Rattle.cycle_laws.proofs.Targets.{cell_there, slot_target}

-- the world of the heap's pages, with what else a world has
abbrev pub home : Heap → Cycle → World → World
home heap cycle world = record (world_in heap cycle) {
  colours = world.colours;
  board = world.board;
  main = record (main_of cycle) { grey = world.main.grey; log = world.main.log };
  helpers = world.helpers;
}

module _ {heap : Heap} {cycle : Cycle} {world : World} (rests : Rests heap cycle) (of : IsWorldOf heap cycle world)
    (sound : Sound world) where
  -- a cell that has a colour is published
  coloured_start : (at : ℕ) → colour_of world at ≢ white → Contains cycle.starts at
  coloured_start at coloured =
      subst (λ (one : World). Contains one.main.starts at) of.is (sound.lists.coloured at coloured)

  -- so it is a cell of a page
  pub coloured_cell : (at : ℕ) → colour_of world at ≢ white → IsPageCell heap at
  coloured_cell at coloured = elim (free_or_mine (home heap cycle world) at (coloured_start at coloured)) [
    | inl free ↦
        let there = rests.free at free in record {
          cell = there.cell;
          words = there.words;
          has = there.has;
          stands = there.stands;
          of_page = there.of_page;
          part = λ free. absurd (there.used free);
        }
    | inr mine ↦ All-contains (IsPageCell heap) cycle.mine at rests.mine mine
  ]

  -- the mutator's part is done there
  home_settled : Settled (home heap cycle world)
  home_settled = record { owed = refl; sure = rests.settled.sure }

  -- a reference to an old cell has that for its target
  old_target : (at : ℕ) → at < eden_start heap.space → target (eden_start heap.space) (reference_word at) ≡ Some at
  old_target at below =
      let addresses = (subst Sound of.is sound).sizes.addresses in
      let read = reference_to (reference_word at) at (omega (arith, below, addresses)) refl in
      let test : nat_lt at (eden_start heap.space) ≡ true = grind (arith, nat_tests) in
      ap (option_and_then (λ to. given (nat_lt to (eden_start heap.space)) to)) read
      ∙ ap (λ one. given one at) test

  -- what a slot of a black cell refers to is young, or has a colour
  pub leads_on : (from at : ℕ) → HasNoneOut world → colour_of world from ≡ black → HasSlotTo heap from at
      → (eden_start heap.space ≤ at) ⊎ (colour_of world at ≢ white)
  leads_on from at none is_black slot = elim (cases_lt at (eden_start heap.space)) [
    | inr young ↦ inl young
    | inl below ↦
        let coloured : colour_of world from ≢ white = λ is. omega (arith, is, is_black) in
        let here = coloured_cell from coloured in
        let cell : Cell = slot.cell in
        let of_page : cell.at < eden_start heap.space =
        subst (λ n. n < eden_start heap.space) (sym slot.stands) here.of_page in
        let reads : cell_of (home heap cycle world) from ≡ Some (reading_of cell) =
        subst (λ n. cell_of (home heap cycle world) n ≡ Some (reading_of cell)) slot.stands
        (page_cells_are_read heap cell slot.words slot.has of_page) in
        let word : slice_index (home heap cycle world).words (from + slot.offset) ≡ reference_word at =
        subst (λ n. slice_index (home heap cycle world).words (n + slot.offset) ≡ reference_word at) slot.stands
        (page_words_are_read heap cell slot.words slot.offset (reference_word at) slot.has of_page slot.holds) in
        inr (black_leads_on (home heap cycle world) from at slot.offset (reading_of cell) (subst Sound of.is sound)
        home_settled none (coloured_start from coloured) is_black reads slot.visited
        (ap (target (eden_start heap.space)) word ∙ old_target at below))
  ]

-- a coloured cell is kept
pub coloured_is_kept : ColouredIsKept
coloured_is_kept heap cycle world at rests of sound born coloured =
    let counts = born.reached at (record { start = sound.lists.coloured at coloured; coloured = coloured }) in (
      coloured_cell rests of sound at coloured,
      born_is_kept heap cycle.born at (subst (λ (one : World). Contains one.main.born at) of.is counts),
    )

-- and a black one leads on
pub black_slots_lead_on : BlackSlotsLeadOn
black_slots_lead_on heap cycle world from at rests of sound none is_black slot =
    leads_on rests of sound from at none is_black slot

-- so a slot of one that is no weak map refers to a cell at which the last marking may start
pub black_slots_lead_to_starts : BlackSlotsLeadToStarts
black_slots_lead_to_starts heap cycle world from at whole rests of sound none is_black slot no_map =
    let there = cell_there (slot_target from at whole slot) in
    record {
      cell = there.cell;
      words = there.words;
      has = there.has;
      stands = there.stands;
      used = there.used;
      no_table = λ of_table. no_map (weak_slot from at whole slot there.has there.stands of_table);
      given = leads_on rests of sound from at none is_black slot;
    }

-- in a page that is one free run none has a colour
pub free_pages_are_white : FreePagesAreWhite
free_pages_are_white heap cycle world run at whole rests of sound free long from below =
    elim (cases_eq (colour_of world at) white) [
      | inl is ↦ is
      | inr coloured ↦
          let there = coloured_cell rests of sound at coloured in
          let first = first_of_cell there.has in
          let same : there.cell ≡ free.cell = cells_apart at whole.rows there.has free.has
          (record { from = omega (arith, there.stands); below = omega (arith, there.stands, first.below) })
          (record {
            from = omega (arith, from, free.stands);
            below = omega (arith, below, free.stands, free.size);
          }) in
          let is_free = subst (λ (one : Cell). IsTrue (is_free_kind one.layout.kind)) (sym same) free.free in
          let size : there.cell.size ≡ free.cell.size = ap (λ (one : Cell). one.size) same in
          absurd (omega (arith, there.part is_free, size, free.size, long))
    ]
