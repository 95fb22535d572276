-- What a scavenge comes to where a live slot is followed: its cell has a home, or one is found that gets it.
use Rattle.std.proofs.Common.{◌≡◌, ℕ, ◌+◌, ◌≤◌, List, [], ◌∷◌, ◌++◌, length, get_or, slice_get}
use Rattle.std.proofs.Common.{Some, None, Bool, refl, sym, ◌∙◌, ap, subst, arith}
use Rattle.tagged_word.specs.Readings.{reference_in}
use Rattle.tagged_word.proofs.Cells.{some_same}
use Rattle.page_space.specs.Extents.{Space, marks_start}
use Rattle.page_space.proofs.LawsHold.{kinds_by_number}
use Rattle.cell_layout.proofs.OneCell.{cells_have_words}
use Rattle.heap_model.specs.Types.{Cell}
use Rattle.write_barrier.specs.Seats.{heap_words}
use Rattle.heap_walk.specs.Standing.{StandsAt}
use Rattle.write_barrier.specs.MutatorState.{Mutator}
use Rattle.scav_copy.specs.Places.{StoodAt}
use Rattle.scav_copy.specs.Renamings.{RefersToAddress}
use Rattle.scavenger.specs.declared.progress.Progress.{Progress}
use Rattle.scavenger.specs.Starts.{SegmentCopies, start_with, room_start}
use Rattle.scavenger.specs.Filling.{Front}
use Rattle.scavenger.specs.Following.{IsFromSpace, IsTarget}
use Rattle.scavenger.specs.Walking.{CopiesCell, HasFollowed, HasMoved, MayMove, Places, Scavenging}
use Rattle.scavenger.proofs.CodeMoves.{copied_by, moved_by}
use Rattle.scavenger.proofs.CodeStores.{goes_nowhere}
use Rattle.scavenger.proofs.FollowFilled.{IsNew}
use Rattle.scavenger.proofs.LoopTargets.{refers_nowhere, has_target, new_at, new_is_cell, left_at_start, cell_left}
use Rattle.scavenger.proofs.LoopTargets.{MayBeCopied, may_be_copied, few_words}

-- In a scavenge a cell was found that has no home, where a slot refers to.
pub record NewCell (now : Mutator) (all : Bool) (progress : Progress) (todo : List ℕ) (at : ℕ) (cell : Cell)
    : Type 0 where
  pub start : Mutator
  pub handed : List SegmentCopies
  pub front : Front
  pub state : Scavenging start handed now all progress todo front
  pub new : IsNew (start_with start handed) state.fixed (heap_words now.seat) state.homes progress.fill cell
  pub stands : cell.at ≡ at

-- so it is where a cell may be moved, and the word there is no reference
pub cell_there : {now : Mutator} {all : Bool} {progress : Progress} {todo : List ℕ} {at : ℕ} (word : ℕ)
    → MayMove now all progress todo at → slice_get (heap_words now.seat) at ≡ Some word → reference_in word ≡ None
    → (cell : Cell) × NewCell now all progress todo at cell
cell_there {now} {at = at} word move read none =
    let may = move.may in
    let one = new_at may.scavenging move.slot may.place at may.stood move.refers move.left
    (refers_nowhere (heap_words now.seat) at word read (sym none)) in (
      one.cell,
      record {
        start = may.start;
        handed = may.handed;
        front = may.front;
        state = may.scavenging;
        new = one.new;
        stands = one.stands;
      },
    )

-- and the cell that is read is that one
pub cell_found : {now : Mutator} {all : Bool} {progress : Progress} {todo : List ℕ} {at : ℕ} (word : ℕ) (found : Cell)
    → MayMove now all progress todo at → slice_get (heap_words now.seat) at ≡ Some word → reference_in word ≡ None
    → ((cell : Cell) → StandsAt now.seat.space (heap_words now.seat) at cell → found ≡ cell)
    → NewCell now all progress todo at found
cell_found {now} {all} {progress} {todo} {at} word found move read none known =
    let one = cell_there word move read none in
    let is = known one.0 (record { is_cell = new_is_cell one.1.state one.1.new; stands = one.1.stands }) in
    subst (NewCell now all progress todo at) (sym is) one.1

-- where a copy goes tells nothing of how many words all have
pub copied_stays : {old mid : Mutator} {all : Bool} {at size : ℕ} {before : Progress} (after : Progress) (to : ℕ)
    → Places old mid all at size before after to → after.copied ≡ before.copied
copied_stays _ _ (Places.stays same not_to) = refl
copied_stays _ _ (Places.passes same promote many) = refl
copied_stays _ _ (Places.refuses same promote less none) = refl
copied_stays _ _ (Places.promotes run free promote takes is_free taken) = refl

-- the young generation is before the marks
pub young_before_marks : (space : Space) → space.sizes.young ≤ marks_start space
young_before_marks space =
    let kinds = kinds_by_number space in
    omega (arith, kinds.roots, kinds.layouts, kinds.marks)

module _ {now : Mutator} {all : Bool} {progress : Progress} {todo : List ℕ} {at : ℕ} {cell : Cell}
    (found : NewCell now all progress todo at cell) where
  -- it may be copied where it goes
  pub found_may_be_copied : {mid : Mutator} {after : Progress} {to : ℕ}
      → Places now mid all at cell.size progress after to
      → MayBeCopied mid cell to
  found_may_be_copied {mid} {after} {to} places =
      may_be_copied found.state found.new
      (subst (λ (one : ℕ). Places now mid all one cell.size progress after to) (sym found.stands) places)

  -- the list is shorter than the words of all copies
  pub list_is_short : length todo + 1 ≤ now.seat.space.sizes.young
  list_is_short =
      let few = few_words found.state found.new in
      let some = (cells_have_words now.seat.space (heap_words now.seat) cell (new_is_cell found.state found.new)).0 in
      omega (arith, few, some, found.state.few)

-- A cell was found where a live slot of this scavenge refers to, it goes there and is copied: it was moved.
pub found_moves : {start now mid new : Mutator} {handed : List SegmentCopies} {all : Bool}
    {progress after : Progress} {todo more : List ℕ}
    {front : Front} (state : Scavenging start handed now all progress todo front) (slot place at word to : ℕ)
    (found : Cell)
    → StoodAt state.fixed state.homes slot place → RefersToAddress (heap_words now.seat) slot at
    → IsFromSpace now.seat.space now.young.half at → slice_get (heap_words now.seat) at ≡ Some word
    → reference_in word ≡ None
    → ((cell : Cell) → StandsAt now.seat.space (heap_words now.seat) at cell → found ≡ cell)
    → Places now mid all at found.size progress after to → CopiesCell mid new found to → more ≡ todo ++ to ∷ []
    → HasMoved start handed now new all progress (record after { copied = after.copied + found.size })
    todo more front at to state
found_moves {start} {now} {mid} {new} {handed} {all} {progress} {after} {todo} {more} {front} state slot place at word
    to found stood refers left read none known places copies list_is =
    let head = refers_nowhere (heap_words now.seat) at word read (sym none) in
    let one = new_at state slot place at stood refers left head in
    let same : found ≡ one.cell =
    known one.cell (record { is_cell = new_is_cell state one.new; stands = one.stands }) in
    let stands : found.at ≡ at = ap (λ (cell : Cell). cell.at) same ∙ one.stands in
    let is_new : IsNew (start_with start handed) state.fixed (heap_words now.seat) state.homes progress.fill found =
    subst (IsNew (start_with start handed) state.fixed (heap_words now.seat) state.homes progress.fill)
    (sym same) one.new in
    let copied = copied_by state is_new new after to
    (subst (λ (from : ℕ). Places now mid all from found.size progress after to) (sym stands) places) copies in
    let moved = moved_by state is_new copied slot place stood
    (subst (RefersToAddress (heap_words now.seat) slot) (sym stands) refers)
    (subst (IsFromSpace start.seat.space start.young.half) (sym stands) (left_at_start state at left))
    (subst (λ (from : ℕ). reference_in (get_or (heap_words now.seat) from 0) ≡ None) (sym stands) head) in
    let After : Progress = record after { copied = after.copied + found.size } in
    subst (λ (from : ℕ). HasMoved start handed now new all progress After todo more front from to state) stands
    (subst (λ (list : List ℕ). HasMoved start handed now new all progress After todo list front found.at to state)
    (sym list_is) moved)

-- A cell that has a home stands where a live slot of this scavenge refers to.
pub home_moves : {start now : Mutator} {handed : List SegmentCopies} {all : Bool} {progress : Progress}
    {todo : List ℕ} {front : Front}
    (state : Scavenging start handed now all progress todo front) (slot place at to : ℕ)
    → StoodAt state.fixed state.homes slot place → RefersToAddress (heap_words now.seat) slot at
    → IsFromSpace now.seat.space now.young.half at → RefersToAddress (heap_words now.seat) at to
    → HasMoved start handed now now all progress progress todo todo front at to state
home_moves {start} {now} {handed} {all} {progress} {todo} {front} state slot place at to stood refers left points =
    let Moved : Type 0 = HasMoved start handed now now all progress progress todo todo front at to state in
    let by_target : IsTarget start.seat.space state.fixed (heap_words now.seat) state.homes
    (room_start start.seat.space (start_with start handed).half + start.seat.space.sizes.young) progress.fill at
    → Moved =
    λ target. elim target [
      | IsTarget.forwarded home there from forwards ↦ record {
        on = goes_nowhere state;
        home = home;
        among = there;
        from = from;
        stands = some_same forwards points;
        live = λ other one cell live says. says;
      }
      | IsTarget.unmoved cell none is_cell stands size ends homeless ↦ absurd cc
    ] in
    by_target (has_target state slot place at stood refers left).1

-- a slot that refers to nothing that is left is done
pub done_already : {start now : Mutator} {handed : List SegmentCopies} {all : Bool} {progress : Progress}
    {todo : List ℕ} {front : Front} (slot : ℕ)
    (state : Scavenging start handed now all progress todo front)
    → ((cell : ℕ) → RefersToAddress (heap_words now.seat) slot cell
    → IsFromSpace now.seat.space now.young.half cell → ⊥)
    → HasFollowed start handed now now all progress progress todo todo front slot state
done_already slot state none = record {
  on = goes_nowhere state;
  done = λ place cell live says is. none cell says (cell_left state cell is);
}
