-- A heap is another one moved where its parts are.
use Rattle.std.proofs.Common.{◌≡◌, ℕ, ◌+◌, ◌<◌, inl, inr, List, Option, Some, ap, subst, arith}
use Rattle.std.proofs.lemmas.Bool.{cases_lt}
use Rattle.heap_model.specs.Types.{Cell}
use Rattle.heap_model.specs.Heaps.{Heap, words_of_cell}
use Rattle.heap_model.specs.Wholeness.{HasRows}
use Rattle.heap_model.proofs.CellsApart.{IsOfCell, cells_apart, first_of_cell}
use Rattle.heap_moves.specs.Moved.{IsMoved, StandsMoved}
use Rattle.image_walk.specs.Spans.{StandsIn}
use Rattle.slow_check.specs.MovedCells.{HasSameFrame, AreMovedCells, AreFrom, AreMovedRoots}
use Rattle.slow_check.proofs.ComersFound.{own_words_there}

-- of two cells that come to one address, none stands behind the other
none_behind : {old new : Heap} {to : ℕ → Option ℕ} (one other : Cell) (now : ℕ) → HasRows old
    → AreMovedCells old new to → StandsIn old one → StandsIn old other → to one.at ≡ Some now → to other.at ≡ Some now
    → one.at < other.at → ⊥
none_behind one other now rows cells stands stands_too stays stays_too before =
    elim (cases_lt other.at (one.at + one.size)) [
      | inl within ↦
          let of_one : IsOfCell one other.at = record { from = omega (arith, before); below = within } in
          let same : one ≡ other = cells_apart other.at rows stands stands_too of_one (first_of_cell stands_too) in
          omega (arith, before, ap (λ (c : Cell). c.at) same)
      | inr behind ↦ (cells one stands now stays).alone other stands_too behind stays_too
    ]

-- the parts make the whole
pub moved_from_parts : (old new : Heap) (to : ℕ → Option ℕ) → HasRows old → HasSameFrame old new
    → AreMovedCells old new to → AreFrom old new to → AreMovedRoots old new to → IsMoved old new to
moved_from_parts old new to rows frame cells from roots = record {
  space = frame.space;
  paths = frame.paths;
  sized = frame.sized;
  rows = frame.rows;
  apart = λ one other words others now has has_too stays stays_too.
      let stands = own_words_there has in
      let stands_too = own_words_there has_too in
      elim (cases_lt one.at other.at) [
        | inl before ↦ absurd (none_behind one other now rows cells stands stands_too stays stays_too before)
        | inr from ↦ elim (cases_lt other.at one.at) [
          | inl behind ↦ absurd (none_behind other one now rows cells stands_too stands stays_too stays behind)
          | inr same ↦ omega (arith, from, same)
        ]
      ];
  fits = λ cell words now has stays. (cells cell (own_words_there has) now stays).fits;
  stands = λ cell words now has stays.
      let Stands : List ℕ → Type 0 = λ some. StandsMoved new to cell some now in
      subst Stands has.words_are (cells cell (own_words_there has) now stays).stands;
  back = λ cell words has. from cell (own_words_there has);
  roots = roots;
}

-- and of a heap that is moved the parts are
pub frame_of_moved : {old new : Heap} {to : ℕ → Option ℕ} → IsMoved old new to → HasSameFrame old new
frame_of_moved moved =
    record { space = moved.space; paths = moved.paths; sized = moved.sized; rows = moved.rows }

-- each cell that stays stands where it came, and nothing else comes there
pub cells_of_moved : {old new : Heap} {to : ℕ → Option ℕ} → IsMoved old new to → AreMovedCells old new to
cells_of_moved {old} moved cell stands now stays = record {
  fits = moved.fits cell (words_of_cell old cell) now stands stays;
  stands = moved.stands cell (words_of_cell old cell) now stands stays;
  alone = λ other stands_too behind stays_too.
      let same : cell.at ≡ other.at =
      moved.apart cell other (words_of_cell old cell) (words_of_cell old other) now stands stands_too stays stays_too in
      omega (arith, same, behind, (first_of_cell stands).below);
}

-- each cell of the new heap is from one that stays, or is free
pub from_of_moved : {old new : Heap} {to : ℕ → Option ℕ} → IsMoved old new to → AreFrom old new to
from_of_moved {new = new} moved cell stands = moved.back cell (words_of_cell new cell) stands
