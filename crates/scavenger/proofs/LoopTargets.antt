-- What may be read and copied where a live slot is followed.
use Rattle.std.proofs.Common.{◌≡◌, ℕ, ◌+◌, ◌-◌, ◌<◌, ◌≤◌, ◌↔◌, inl, inr, List, length, get_or, slice_get, Some, None}
use Rattle.std.proofs.Common.{Bool, true, false, IsTrue, sym, ◌∙◌, ap, subst, arith}
use Rattle.std.specs.List.{Contains}
use Rattle.std.proofs.lemmas.Bool.{cases_lt}
use Rattle.std.proofs.lemmas.Option.{get_or_from_slice_get}
use Rattle.tagged_word.specs.Readings.{reference_in}
use Rattle.page_space.specs.Extents.{Space, marks_start}
use Rattle.page_space.proofs.LawsHold.{kinds_by_number}
use Rattle.word_store.specs.Copies.{AreDisjoint}
use Rattle.cell_layout.specs.Cells.{IsCell}
use Rattle.free_runs.specs.FreeRuns.{TakesFront}
use Rattle.nursery.specs.Young.{Young}
use Rattle.heap_model.specs.Types.{Cell, Run}
use Rattle.write_barrier.specs.Seats.{heap_words}
use Rattle.write_barrier.specs.MutatorState.{Mutator, MayStore}
use Rattle.write_barrier.specs.FreeCells.{with_free_cell}
use Rattle.write_barrier.proofs.FreeCells.{cell_beside}
use Rattle.scav_copy.specs.declared.places.Home.{Home}
use Rattle.scav_copy.specs.Places.{Fixed, size_of, StoodAt}
use Rattle.scav_copy.specs.Renamings.{RefersToAddress, IsReachable}
use Rattle.scav_copy.proofs.Redirecting.{as_before}
use Rattle.scav_copy.proofs.Spots.{live_is_there, cell_within}
use Rattle.scavenger.specs.declared.progress.Progress.{Progress}
use Rattle.scavenger.specs.Starts.{Start, SegmentCopies, start_with, room_start}
use Rattle.scavenger.specs.Filling.{Front}
use Rattle.scavenger.specs.Following.{IsFreeAt, IsFromSpace, IsTarget}
use Rattle.scavenger.specs.Walking.{Places, Scavenging, StandFree, CutsFreeCell}
use Rattle.scavenger.proofs.CodeMoves.{two_halves}
use Rattle.scavenger.proofs.CodeSegments.{room_before_marks}
use Rattle.scavenger.proofs.FollowFilled.{IsNew, fits_behind}
use Rattle.scavenger.proofs.FollowRegions.{cell_is_left}
use Rattle.scavenger.proofs.FollowRunWords.{takes_room}
use Rattle.scavenger.proofs.PagesFree.{free_runs_stand}
use Rattle.scavenger.proofs.Sums.{few_with_one}
use Rattle.scavenger.proofs.Targets.{slots_have_targets}

-- the word that is read at a slot refers where the slot does
pub refers_by : (words : List ℕ) (slot word at : ℕ) → slice_get words slot ≡ Some word → Some at ≡ reference_in word
    → RefersToAddress words slot at
refers_by words slot word at read is = ap reference_in (get_or_from_slice_get words slot word 0 read) ∙ sym is

-- and a word that is read and is no reference refers nowhere
pub refers_nowhere : (words : List ℕ) (slot word : ℕ) → slice_get words slot ≡ Some word → None ≡ reference_in word
    → reference_in (get_or words slot 0) ≡ None
refers_nowhere words slot word read is = ap reference_in (get_or_from_slice_get words slot word 0 read) ∙ sym is

-- what a test that passed says
pub passed : {P : Type 0} (test : Bool) → test ≡ true → IsTrue test ↔ P → P
passed test is says = says.0 is

-- what a test that failed says
pub failed : {P : Type 0} (test : Bool) → test ≡ false → IsTrue test ↔ P → P → ⊥
failed test is says holds = let holds_too : test ≡ true = says.1 holds in cc

-- two stretches with no common address are disjoint
pub disjoint_by : (from to count : ℕ)
    → ((at : ℕ) → from ≤ at → at < from + count → to ≤ at → at < to + count → ⊥) → AreDisjoint from to count
disjoint_by from to count none = elim (cases_lt to (from + count)) [
  | inr behind ↦ inl behind
  | inl less ↦ elim (cases_lt from (to + count)) [
    | inr before ↦ inr before
    | inl more ↦ elim (cases_lt from to) [
      | inl first ↦ absurd (none to (omega arith) less (omega arith) (omega arith))
      | inr then ↦ absurd (none from (omega arith) (omega arith) then more)
    ]
  ]
]

-- a cell that has no home stands at the address
pub record NewAt (start : Start) (fixed : Fixed) (words : List ℕ) (homes : List Home) (fill at : ℕ) : Type 0 where
  pub cell : Cell
  pub new : IsNew start fixed words homes fill cell
  pub stands : cell.at ≡ at

-- so it does where a slot refers to a word that is no reference
new_target : {start : Start} {fixed : Fixed} {words : List ℕ} {homes : List Home} {fill at : ℕ}
    → Contains fixed.cells at → IsReachable fixed at → reference_in (get_or words at 0) ≡ None
    → IsTarget start.heap.space fixed words homes
    (room_start start.heap.space start.half + start.heap.space.sizes.young) fill at
    → NewAt start fixed words homes fill at
new_target is reached head (IsTarget.forwarded home there from refers) = absurd cc
new_target {fixed = fixed} is reached head (IsTarget.unmoved cell none is_cell stands size ends homeless) = record {
  cell = cell;
  new = record {
    is_cell = is_cell;
    is = subst (Contains fixed.cells) (sym stands) is;
    reached = subst (IsReachable fixed) (sym stands) reached;
    none = λ home among from. homeless home among (from ∙ stands);
    size = size ∙ ap (size_of fixed) (sym stands);
    ends = ends;
  };
  stands = stands;
}

-- What is known of a cell before it is copied to an address.
pub record MayBeCopied (main : Mutator) (cell : Cell) (to : ℕ) : Type 0 where
  pub quiet : MayStore main
  pub is : IsCell main.seat.space (heap_words main.seat) cell
  pub room : to + cell.size ≤ marks_start main.seat.space
  pub apart : AreDisjoint cell.at to cell.size

module _ {start now : Mutator} {handed : List SegmentCopies} {all : Bool} {progress : Progress} {todo : List ℕ}
    {front : Front}
    (state : Scavenging start handed now all progress todo front) where
  -- a live slot stands before the marks
  pub slot_before_marks : (slot place : ℕ) → StoodAt state.fixed state.homes slot place
      → length (heap_words now.seat) ≡ marks_start now.seat.space → slot < marks_start now.seat.space
  slot_before_marks slot place stood counted =
      let copying = state.filled.copying in
      omega (arith, live_is_there slot place state.begun.laid copying stood, counted, copying.long)

  -- so does a cell that is to be copied
  pub target_before_marks : (at : ℕ) → Contains state.fixed.cells at
      → length (heap_words now.seat) ≡ marks_start now.seat.space → at < marks_start now.seat.space
  target_before_marks at is counted =
      let there = cell_within state.fixed at (state.begun.laid.cells_are at is) in
      omega (arith, there, counted, state.filled.copying.long)

  -- what is left is what was to be left at the start
  pub left_at_start : (at : ℕ) → IsFromSpace now.seat.space now.young.half at
      → IsFromSpace start.seat.space start.young.half at
  left_at_start at left =
      subst (λ (space : Space). IsFromSpace space start.young.half at) state.changes.seat.space
      (subst (λ (young : Young). IsFromSpace now.seat.space young.half at) state.changes.young left)

  -- a cell that is to be copied is left
  pub cell_left : (at : ℕ) → Contains state.fixed.cells at → IsFromSpace now.seat.space now.young.half at
  cell_left at is =
      subst (λ (young : Young). IsFromSpace now.seat.space young.half at) (sym state.changes.young)
      (subst (λ (space : Space). IsFromSpace space start.young.half at) (sym state.changes.seat.space)
      (cell_is_left start.young.half at state.begun (two_halves start.young.half state.two) is))

  -- each free run is a free cell
  pub stand_free : StandFree now
  stand_free run is =
      let stands = free_runs_stand (start_with start handed) state.fixed (heap_words now.seat) now.free state.homes
      progress.fill run state.begun state.filled is in (
        stands.free,
        subst (λ (space : Space). IsFreeAt space (heap_words now.seat) stands.free run.at)
            (sym state.changes.seat.space) stands.is,
        stands.size,
      )

  module _ (slot place at : ℕ) (stood : StoodAt state.fixed state.homes slot place)
      (refers : RefersToAddress (heap_words now.seat) slot at)
      (left : IsFromSpace now.seat.space now.young.half at) where
    -- what a live slot refers to has a target, and is one of the cells
    pub has_target : Contains state.fixed.cells at
        × IsTarget start.seat.space state.fixed (heap_words now.seat) state.homes
        (room_start start.seat.space (start_with start handed).half + start.seat.space.sizes.young) progress.fill at
    has_target =
        slots_have_targets (start_with start handed) start.young.half state.fixed
        (heap_words now.seat) now.free state.homes
        progress.fill slot place at state.begun (two_halves start.young.half state.two) state.filled stood refers
        (left_at_start at left)

    -- where the word there is no reference, a cell stands there that has no home
    pub new_at : reference_in (get_or (heap_words now.seat) at 0) ≡ None
        → NewAt (start_with start handed) state.fixed (heap_words now.seat) state.homes progress.fill at
    new_at none =
        let target = has_target in
        let reached = (as_before state.fixed (heap_words now.seat) state.homes slot place at state.begun.laid
        state.filled.copying stood refers target.0).1 in
        new_target target.0 reached none target.1

  module _ {cell : Cell} (new : IsNew (start_with start handed) state.fixed
      (heap_words now.seat) state.homes progress.fill cell)
    where
      -- it is a cell of the words
      pub new_is_cell : IsCell now.seat.space (heap_words now.seat) cell
      new_is_cell =
          subst (λ (space : Space). IsCell space (heap_words now.seat) cell) (sym state.changes.seat.space) new.is_cell

      -- behind the copies it ends before the marks
      pub copy_before_marks : progress.fill + cell.size ≤ marks_start now.seat.space
      copy_before_marks =
          let ends = room_before_marks start.seat.space start.young.half in
          subst (λ (space : Space). progress.fill + cell.size ≤ marks_start space) (sym state.changes.seat.space)
          (omega (arith, new.ends, ends))

      -- all copies and this have no more words than the young generation
      pub few_words : progress.copied + cell.size ≤ now.seat.space.sizes.young
      few_words =
          let few = few_with_one cell.at state.begun state.filled new.is new.none in
          let most = state.begun.whole.rows.few in
          subst (λ (space : Space). progress.copied + cell.size ≤ space.sizes.young) (sym state.changes.seat.space)
          (omega (arith, few, most, new.size, state.copied))

      -- it may be copied behind the other copies
      copied_behind : MayBeCopied now cell progress.fill
      copied_behind =
          let fits = fits_behind state.begun state.filled new in
          record {
            quiet = state.quiet;
            is = new_is_cell;
            room = copy_before_marks;
            apart = disjoint_by cell.at progress.fill cell.size (λ at at_from at_below fill_from fill_below.
                state.begun.laid.cell_in_no_room at
                (cell.at, new.is, record { from = at_from; below = omega (arith, at_below, new.size) }) (
                  fits.room,
                  fits.lies.among,
                  record {
                    from = omega (arith, fits.lies.from, fill_from);
                    below = omega (arith, fits.lies.ends, fill_below);
                  },
                ));
          }

      -- and to the front of a free run that was taken
      copied_in_run : {mid : Mutator} (run : Run) (free : Cell) → TakesFront now.free mid.free cell.size run
          → IsFreeAt now.seat.space (heap_words now.seat) free run.at → CutsFreeCell now mid cell.size run free
          → MayBeCopied mid cell run.at
      copied_in_run {mid} run free takes is_free taken =
          let words : List ℕ = heap_words now.seat in
          let at_start : IsFreeAt start.seat.space words free run.at =
          subst (λ (space : Space). IsFreeAt space words free run.at) state.changes.seat.space is_free in
          let room = takes_room state.begun state.filled takes at_start in
          let young = ((state.begun.begins.cells cell.at).0 new.is).young in
          let kinds = kinds_by_number start.seat.space in
          let from : ℕ = run.at + cell.size in
          let count : ℕ = free.size - cell.size in
          let beside : IsCell start.seat.space (with_free_cell words from count) cell =
          cell_beside start.seat.space words from count cell
          (omega (arith, room.enough, room.in_page, kinds.roots, kinds.layouts)) new.is_cell
          (inr (omega (arith, room.enough, room.in_page, young))) in
          let space_is : mid.seat.space ≡ start.seat.space = taken.changes.seat.space ∙ state.changes.seat.space in
          record {
            quiet = λ mark. state.quiet (sym taken.changes.seat.phase ∙ mark);
            is = subst (λ (all_words : List ℕ). IsCell mid.seat.space all_words cell) (sym taken.words)
                (subst (λ (space : Space). IsCell space (with_free_cell words from count) cell) (sym space_is) beside);
            room = subst (λ (space : Space). from ≤ marks_start space) (sym space_is)
                (omega (arith, room.enough, room.in_page, kinds.roots, kinds.layouts, kinds.marks));
            apart = inr (omega (arith, room.enough, room.in_page, young));
          }

      -- so it may be where it goes
      pub may_be_copied : {mid : Mutator} {after : Progress} {to : ℕ}
          → Places now mid all cell.at cell.size progress after to
          → MayBeCopied mid cell to
      may_be_copied (Places.stays same not_to) =
          subst (λ (main : Mutator). MayBeCopied main cell progress.fill) (sym same) copied_behind
      may_be_copied (Places.passes same promote many) =
          subst (λ (main : Mutator). MayBeCopied main cell progress.fill) (sym same) copied_behind
      may_be_copied (Places.refuses same promote less none) =
          subst (λ (main : Mutator). MayBeCopied main cell progress.fill) (sym same) copied_behind
      may_be_copied (Places.promotes run free promote takes is_free taken) = copied_in_run run free takes is_free taken
