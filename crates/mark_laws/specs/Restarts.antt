-- How an open cycle goes on after a scavenge.
use Rattle.std.specs.Prelude.{◌≡◌, ℕ, ◌+◌, ◌<◌, ◌⊎◌, true, List, ◌++◌, All, Contains, length, slice_index, Some, IsTrue}
use Rattle.mark_laws.specs.Types.{Reading, World}
use Rattle.mark_world.specs.Pages.{EachFree, OfTarget, is_free, is_head_of, leaves_alone, slots_of}
use Rattle.mark_world.specs.Steps.{black}
use Rattle.mark_world.specs.Coverage.{EachSlot, cell_of, colour_of}
use Rattle.mark_world.specs.Unfinished.{SettledBut}
use Rattle.mark_laws.specs.Runs.{HasNoneOut, IsSoundAndBorn}

-- a list is what it was, with others joined
pub record HasJoined (list others now : List ℕ) : Type 0 where
  pub kept : (at : ℕ) → Contains list at → Contains now at
  pub new : (at : ℕ) → Contains others at → Contains now at
  pub from : (at : ℕ) → Contains now at → Contains list at ⊎ Contains others at

-- no helper that reads a free start's cell minds the word at an address
abbrev pub IsLeftAlone : World → ℕ → Type 0
IsLeftAlone world at = EachFree world.main (λ start. leaves_alone start (cell_of world start) at ≡ true)

-- The word at an address is a tagged slot of a free start's cell, into which a word goes that has no target or one of
-- these cells.
pub record IsMovedSlot (world : World) (cells : List ℕ) (at word : ℕ) : Type 0 where
  pub start : ℕ
  pub free : IsTrue (is_free world.main start)
  pub cell : Reading
  pub reads : cell_of world start ≡ Some cell
  pub offset : ℕ
  pub slot : Contains (slots_of cell) offset
  pub place : at ≡ start + offset
  pub target : OfTarget world.old word (Contains cells)

-- A world is that of before a scavenge with the cells that it promoted. Nothing changed but the mutator's view, words
-- and colours. The promoted cells were not published; they are black, and have joined what is published, born, made
-- black by the mutator and sure. What is owed and what waits stays. Each word of the pages is as before, or no helper
-- minds it, or it is a tagged slot that refers to a promoted cell now, or to no old one.
pub record IsRestarted (world : World) (promoted : List ℕ) (later : World) : Type 0 where
  pub rest : later ≡ record world { words = later.words; colours = later.colours; main = later.main }
  pub unpublished : (at : ℕ) → Contains promoted at → Contains world.main.starts at → ⊥
  pub starts : HasJoined world.main.starts promoted later.main.starts
  pub born : HasJoined world.main.born promoted later.main.born
  pub mine : HasJoined world.main.mine promoted later.main.mine
  pub sure : HasJoined world.main.sure promoted later.main.sure
  pub owed : later.main.owed ≡ world.main.owed
  pub grey : later.main.grey ≡ world.main.grey
  pub coloured : length later.colours ≡ length world.colours
  pub blackened : (at : ℕ) → Contains promoted at → colour_of later at ≡ black
  pub others : (at : ℕ) → (Contains promoted at → ⊥) → colour_of later at ≡ colour_of world at
  pub count : length later.words ≡ length world.words
  pub words : (at : ℕ) → at < world.old → (slice_index later.words at ≡ slice_index world.words at)
      ⊎ IsLeftAlone world at ⊎ IsMovedSlot world promoted at (slice_index later.words at)

-- a whole world where no seat is out is whole after a scavenge
abbrev pub RestartsStayWhole : Type 0
RestartsStayWhole =
    (world : World) (promoted : List ℕ) (later : World) → IsSoundAndBorn world → HasNoneOut world
    → IsRestarted world promoted later → IsSoundAndBorn later

-- A scavenge keeps a cell that the mutator made black: each word that the cell is read by is as before, and each of its
-- tagged slots is, or has no target, or that of a promoted cell.
pub record KeepsCell (world : World) (promoted : List ℕ) (later : World) (at : ℕ) : Type 0 where
  pub heads : (place : ℕ) → is_head_of at (cell_of world at) place ≡ true
      → slice_index later.words place ≡ slice_index world.words place
  pub slots : EachSlot world at (λ offset word. (slice_index later.words (at + offset) ≡ word)
      ⊎ OfTarget world.old (slice_index later.words (at + offset)) (Contains promoted))

-- it keeps each that the mutator is done with
abbrev pub KeepsDone : World → List ℕ → List ℕ → World → Type 0
KeepsDone world made promoted later =
    All (λ at. Contains made at ⊎ KeepsCell world promoted later at) world.main.mine

-- after a scavenge that keeps these cells the mutator's part is done but for the promoted ones, which are made too
abbrev pub RestartsStaySettled : Type 0
RestartsStaySettled =
    (world : World) (made promoted : List ℕ) (later : World) → SettledBut world made
    → IsRestarted world promoted later → KeepsDone world made promoted later → SettledBut later (promoted ++ made)
