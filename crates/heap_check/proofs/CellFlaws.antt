-- What is found of the cells of a heap, one after another.
use Rattle.std.proofs.Common.{ℕ, Option, ◌+◌, ◌≤◌, ◌<◌, ◌⊎◌, inl, inr, List, sym, subst, arith}
use Rattle.heap_model.specs.Types.{Cell}
use Rattle.heap_model.specs.Heaps.{Heap, HasCell, words_of_cell}
use Rattle.heap_model.specs.Kinds.{IsSoundCell}
use Rattle.heap_model.specs.Wholeness.{HasRows}
use Rattle.image_walk.specs.Finding.{HasNoCellFrom}
use Rattle.image_walk.specs.NextCell.{IsNextCell}
use Rattle.heap_check.specs.SoundCells.{HasSoundCells}
use Rattle.heap_check.proofs.CellByCell.{SoundBefore, sound_behind}
use Rattle.image_walk.proofs.CellsOnward.{passed_or_next}
use Rattle.heap_check.specs.declared.flaw.Flaw.{Flaw}
use Rattle.heap_check.specs.Firsts.{IsVerdict, earlier_of}
use Rattle.heap_check.specs.Cells.{BreaksOf, BreaksCells}
use Rattle.heap_check.proofs.JoinedFinds.{Includes, Excludes, finds_same, joined_finds}
use Rattle.heap_check.proofs.CellLaws.{cell_excludes}

-- some cell that begins before the address is broken
pub data BreaksBefore (heap : Heap) (least : ℕ) : ℕ → ℕ → ℕ → Type 0 where
  broken : (cell : Cell) (words : List ℕ) (at found wanted : ℕ) → HasCell heap cell words → cell.at < least
      → BreaksOf cell.layout.kind heap cell words at found wanted → BreaksBefore heap least at found wanted

-- none is where all of them hold what their kinds have
before_excludes : (heap : Heap) (least : ℕ) → Excludes (BreaksBefore heap least) (SoundBefore heap least)
before_excludes heap least _ _ _ (BreaksBefore.broken cell words at found wanted has below breaks) sound =
    cell_excludes heap cell words at found wanted breaks (sound cell words has below)

-- what breaks cells before an address breaks cells before a higher one
before_more : (heap : Heap) (least more : ℕ) → least ≤ more
    → Includes (BreaksBefore heap least) (BreaksBefore heap more)
before_more heap least more on _ _ _ (BreaksBefore.broken cell words at found wanted has below breaks) =
    BreaksBefore.broken cell words at found wanted has (omega arith) breaks

-- what breaks the next cell breaks cells before its end
next_before : (heap : Heap) (least : ℕ) (next : Cell) → IsNextCell heap least next → 1 ≤ next.size
    → Includes (BreaksOf next.layout.kind heap next (words_of_cell heap next))
    (BreaksBefore heap (next.at + next.size))
next_before heap least next is some at found wanted breaks =
    BreaksBefore.broken next (words_of_cell heap next) at found wanted is.first.has (omega arith) breaks

-- and nothing else does but what breaks cells before the address
before_or_next : (heap : Heap) (least : ℕ) (next : Cell) → HasRows heap → IsNextCell heap least next
    → (at found wanted : ℕ) → BreaksBefore heap (next.at + next.size) at found wanted
    → BreaksBefore heap least at found wanted
    ⊎ BreaksOf next.layout.kind heap next (words_of_cell heap next) at found wanted
before_or_next heap least next rows is _ _ _ (BreaksBefore.broken cell words at found wanted has below breaks) =
    let stands = subst (HasCell heap cell) (sym has.words_are) has in
    let breach = subst (λ all. BreaksOf cell.layout.kind heap cell all at found wanted) (sym has.words_are) breaks in
    elim (passed_or_next heap least next cell rows is stands below) [
      | inl early ↦ inl (BreaksBefore.broken cell words at found wanted has early breaks)
      | inr same ↦
          let Broken : Cell → Type 0 =
          λ c. BreaksOf c.layout.kind heap c (words_of_cell heap c) at found wanted in
          inr (subst Broken (sym same) breach)
    ]

-- what is found before an address, and what is found of the next cell, is found before the end of that
pub finds_behind : (heap : Heap) (least : ℕ) (next : Cell) (one other : Option Flaw) → HasRows heap
    → IsNextCell heap least next → 1 ≤ next.size → IsVerdict (SoundBefore heap least) (BreaksBefore heap least) one
    → IsVerdict (IsSoundCell heap next (words_of_cell heap next))
    (BreaksOf next.layout.kind heap next (words_of_cell heap next)) other
    → IsVerdict (SoundBefore heap (next.at + next.size)) (BreaksBefore heap (next.at + next.size))
    (earlier_of one other)
finds_behind heap least next one other rows is some before here =
    let end : ℕ = next.at + next.size in
    let words : List ℕ = words_of_cell heap next in
    joined_finds (SoundBefore heap least) (IsSoundCell heap next words) (SoundBefore heap end) (BreaksBefore heap least)
    (BreaksOf next.layout.kind heap next words) (BreaksBefore heap end) one other
    (record {
      both = λ all sound. sound_behind heap least next rows all is.first sound;
      of_one = before_more heap least end (omega (arith, is.first.reached));
      of_other = next_before heap least next is some;
      only = before_or_next heap least next rows is;
      not_one = before_excludes heap least;
      not_other = cell_excludes heap next words;
    })
    before here

-- where no cell is left, what breaks cells breaks cells before the address
all_before : (heap : Heap) (least : ℕ) → HasNoCellFrom heap least
    → Includes (BreaksCells heap) (BreaksBefore heap least)
all_before heap least none _ _ _ (BreaksCells.cell cell words at found wanted has breaks) =
    BreaksBefore.broken cell words at found wanted has (none cell words has) breaks

-- and the other way round
before_all : (heap : Heap) (least : ℕ) → Includes (BreaksBefore heap least) (BreaksCells heap)
before_all heap least _ _ _ (BreaksBefore.broken cell words at found wanted has below breaks) =
    BreaksCells.cell cell words at found wanted has breaks

-- then what is found before the address is found of the heap
pub finds_all : (heap : Heap) (least : ℕ) (found : Option Flaw) → HasNoCellFrom heap least
    → IsVerdict (SoundBefore heap least) (BreaksBefore heap least) found
    → IsVerdict (HasSoundCells heap) (BreaksCells heap) found
finds_all heap least found none finds =
    finds_same (SoundBefore heap least) (HasSoundCells heap) (BreaksBefore heap least) (BreaksCells heap) found
    (λ sound cell words has. sound cell words has (none cell words has)) (before_all heap least)
    (all_before heap least none) finds
