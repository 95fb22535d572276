-- What a copy makes others of words and of what is recorded: in the segment, or in a free run of a page.
use Rattle.std.proofs.Common.{ℕ, ◌+◌, ◌-◌, ◌<◌, ◌≤◌, ◌≡◌, ◌≢◌, inl, inr, List, length, get_or}
use Rattle.std.proofs.Common.{arith, refl, sym, ap, ◌∙◌}
use Rattle.std.specs.List.{Contains}
use Rattle.std.proofs.lemmas.Bool.{cases_lt}
use Rattle.tagged_word.specs.declared.word.Class.TheVariants.{Ref}
use Rattle.tagged_word.specs.Words.{bits_of}
use Rattle.tagged_word.specs.Readings.{reference_in}
use Rattle.page_space.specs.Extents.{eden_start}
use Rattle.word_store.specs.Copies.{copied}
use Rattle.word_store.proofs.CopiedWords.{get_or-copied}
use Rattle.heap_model.specs.Types.{Cell, Run}
use Rattle.write_barrier.specs.MutatorState.{Mutator}
use Rattle.write_barrier.proofs.FreeCells.{length-free_cell}
use Rattle.scav_copy.specs.declared.places.Home.{Home}
use Rattle.scav_copy.specs.Places.{Fixed, offsets_of, IsInRooms}
use Rattle.scav_copy.proofs.Spots.{cell_itself, elsewhere, slot_in_cell}
use Rattle.scavenger.specs.Starts.{Start, IsBegun}
use Rattle.scavenger.specs.Filling.{CopiesFillRooms}
use Rattle.scavenger.specs.Following.{moved_words}
use Rattle.scavenger.specs.Walking.{CopiesCell, RefersToRoom, CutsFreeCell}
use Rattle.scavenger.proofs.FollowTiles.{fill_above}
use Rattle.scavenger.proofs.HandedStays.{moved_elsewhere, moved_long, free_elsewhere}
use Rattle.scavenger.proofs.FollowCopies.{cell_is_there, copy_is_there}
use Rattle.scavenger.proofs.FollowRunWords.{TakesRoom}
use Rattle.scavenger.proofs.FollowFilled.{IsNew, fits_behind, fits_run, rest_words}
use Rattle.scavenger.proofs.SegmentRooms.{half_is_room}
use Rattle.scavenger.proofs.KeptCopies.{Spares, Rerecords}

module _ {start : Start} {fixed : Fixed} {words : List ℕ} {rows : List (List Run)} {homes : List Home} {fill : ℕ}
    {cell : Cell} (begun : IsBegun start fixed) (filled : CopiesFillRooms start fixed words rows homes fill)
    (new : IsNew start fixed words homes fill cell) where
  -- the cell is a young one
  cell_young : eden_start start.heap.space ≤ cell.at
  cell_young = ((begun.begins.cells cell.at).0 new.is).young

  -- a copy in the segment makes words behind the other copies others, and the header
  pub spares_behind : Spares fixed homes words (moved_words words cell fill) cell.at fill (fill + cell.size)
  spares_behind =
      let fits = fits_behind begun filled new in
      let room = copy_is_there fits in
      let there = cell_is_there fits in
      record {
        long = moved_long words cell fill there room;
        among = new.is;
        in_rooms = λ at from below. (
          fits.room,
          fits.lies.among,
          record { from = omega (arith, fits.lies.from, from); below = omega (arith, fits.lies.ends, below) },
        );
        apart = fits.free;
        others = λ at beside apart. moved_elsewhere words cell fill at there room beside apart;
      }

  -- it is no slot of a page
  pub fresh_behind : (now : List ℕ) (offset : ℕ) → Contains (offsets_of fixed cell.at) offset
      → fill < eden_start start.heap.space → RefersToRoom start now (fill + offset) → ⊥
  fresh_behind now offset visited of_page room = omega (arith, of_page, fill_above filled)

  module _ {run : Run} (free : Cell) (takes : TakesRoom start fixed homes cell.size free.size run) where
    -- the words once a copy is in the run
    abbrev in_run : List ℕ
    in_run = moved_words (rest_words words cell free run.at) cell run.at

    -- the words of the run are in a room, and in no copy
    run_in_rooms : (at : ℕ) → run.at ≤ at → at < run.at + free.size → IsInRooms fixed at
    run_in_rooms at from below = (
      takes.room,
      takes.lies.among,
      record { from = omega (arith, takes.lies.from, from); below = omega (arith, takes.lies.ends, below) },
    )

    -- a copy in a free run makes words of the run others, and the header
    pub spares_in_run : Spares fixed homes words in_run cell.at run.at (run.at + free.size)
    spares_in_run =
        let rest : List ℕ = rest_words words cell free run.at in
        let fits = fits_run cell free begun filled new takes in
        let long : length rest ≡ length words =
        length-free_cell words (run.at + cell.size) (free.size - cell.size) in
        let room = copy_is_there fits in
        let there = cell_is_there fits in
        record {
          long = moved_long rest cell run.at there room ∙ long;
          among = new.is;
          in_rooms = run_in_rooms;
          apart = takes.free;
          others = λ at beside apart. elim beside [
            | inl before ↦
                moved_elsewhere rest cell run.at at there room (inl before) apart
                ∙ free_elsewhere words cell free run.at at (inl (omega (arith, before)))
            | inr behind ↦
                moved_elsewhere rest cell run.at at there room (inr (omega (arith, behind, takes.enough))) apart
                ∙ free_elsewhere words cell free run.at at (inr (omega (arith, behind, takes.enough)))
          ];
        }

    -- a slot of the copy is as the cell's was before
    copied_slot : (offset : ℕ) → Contains (offsets_of fixed cell.at) offset
        → get_or in_run (run.at + offset) 0 ≡ get_or fixed.before (cell.at + offset) 0
    copied_slot offset visited =
        let rest : List ℕ = rest_words words cell free run.at in
        let fits = fits_run cell free begun filled new takes in
        let room = copy_is_there fits in
        let there = cell_is_there fits in
        let inside = slot_in_cell fixed cell.at offset visited in
        let less : offset < cell.size = omega (arith, inside.1, new.size) in
        let apart : run.at + offset ≢ cell.at = λ same.
        omega (arith, same, less, takes.enough, takes.in_page, cell_young) in
        elsewhere (copied rest cell.at run.at cell.size) cell.at (bits_of (Ref run.at)) (run.at + offset) apart
        ∙ get_or-copied rest cell.at run.at cell.size offset 0 there room less
        ∙ fits.copying.bodies cell.at offset new.is inside.0 inside.1

    -- so it refers to no copy
    pub fresh_in_run : (offset : ℕ) → Contains (offsets_of fixed cell.at) offset
        → run.at < eden_start start.heap.space → RefersToRoom start in_run (run.at + offset) → ⊥
    fresh_in_run offset visited of_page room =
        let refers = ap reference_in (sym (copied_slot offset visited)) ∙ room.refers in
        let young : eden_start start.heap.space ≤ room.cell = omega (arith, room.from) in
        let is : Contains fixed.cells room.cell =
        begun.targets (cell.at + offset) room.cell (inr (cell.at, offset, new.is, visited, refl)) refers young in
        begun.laid.cell_in_no_room room.cell (room.cell, is, cell_itself room.cell begun.laid is)
        (half_is_room begun.begins room.cell room.from room.below)

-- what is recorded where a copy goes to the segment
pub records_behind : {old new : Mutator} {cell : Cell} (eden to : ℕ) → old.recorded.bound ≡ eden → eden ≤ to
    → eden ≤ cell.at → CopiesCell old new cell to
    → Rerecords eden old.recorded.slots new.recorded.slots to (to + cell.size)
records_behind {old} {new} {cell} eden to bound young cell_young copies = record {
  stays = λ at below beside. (
    copies.recorded at,
    λ stood. copies.others at stood (λ inside. omega (arith, inside.0, young, below))
        (λ same. omega (arith, same, cell_young, below)),
  );
  wiped = λ at below from ends there. omega (arith, from, young, below);
  beyond = λ at above. copies.recorded at;
}

-- and where it goes to a free run
pub records_in_run : {old mid new : Mutator} {cell free : Cell} {run : Run} (eden : ℕ) → old.recorded.bound ≡ eden
    → run.at + free.size ≤ eden → cell.size ≤ free.size → eden ≤ cell.at → CutsFreeCell old mid cell.size run free
    → CopiesCell mid new cell run.at
    → Rerecords eden old.recorded.slots new.recorded.slots run.at (run.at + free.size)
records_in_run {old} {mid} {new} {cell} {free} {run} eden bound in_page enough cell_young takes copies =
    let same : mid.recorded.bound ≡ eden = takes.changes.bound ∙ bound in
    record {
      stays = λ at below beside. (
        λ there. ((takes.recorded at (omega (arith, below, bound))).0 (copies.recorded at there)).0,
        λ stood.
            let outside : (run.at ≤ at) × (at < run.at + cell.size) → ⊥ = λ inside. elim beside [
              | inl before ↦ omega (arith, before, inside.0)
              | inr behind ↦ omega (arith, behind, inside.1, enough)
            ] in
            let not_rest : (run.at + cell.size ≤ at) × (at < run.at + free.size) → ⊥ = λ inside. elim beside [
              | inl before ↦ omega (arith, before, inside.0)
              | inr behind ↦ omega (arith, behind, inside.1)
            ] in
            copies.others at ((takes.recorded at (omega (arith, below, bound))).1 (stood, not_rest)) outside
            (λ is. omega (arith, is, cell_young, below)),
      );
      wiped = λ at below from ends there. elim (cases_lt at (run.at + cell.size)) [
        | inl in_copy ↦ copies.wiped at (omega (arith, below, same)) from in_copy there
        | inr in_rest ↦
            ((takes.recorded at (omega (arith, below, bound))).0 (copies.recorded at there)).1 (in_rest, ends)
      ];
      beyond = λ at above there. takes.beyond at (omega (arith, above, bound)) (copies.recorded at there);
    }
