-- Worlds that agree on the words of their pages: cells, sizes and lists are right alike.
use Rattle.std.proofs.Common.{ℕ, ◌+◌, ◌≤◌, ◌≡◌, ◌∙◌, false, List, length}
use Rattle.std.proofs.Common.{get_or, min, take, Option, Some, IsSome, sym, ap, subst, arith}
use Rattle.std.proofs.lemmas.List.{length-take}
use Rattle.mark_laws.specs.Types.{Reading, Note, Snap, HelperView, World}
use Rattle.tagged_word.specs.Readings.{reference_in}
use Rattle.tagged_word.proofs.CellReadings.{cell_from}
use Rattle.mark_world.specs.Pages.{is_inside, page_end}
use Rattle.mark_world.specs.AfterEvents.{IsMarked}
use Rattle.mark_world.specs.Coverage.{EachSlot, cell_of}
use Rattle.mark_world.specs.Soundness.{HasCells, HasLists, HasSizes, HasViewLists}
use Rattle.mark_laws.proofs.Alike.{page_cells, same_index}
use Rattle.mark_laws.proofs.Joins.{of_slot}
use Rattle.mark_laws.proofs.Listing.{some_weaker}
use Rattle.mark_laws.proofs.Slots.{each_slot, slot_inside}

-- the world with other words and another log of the mutator
abbrev pub paged : World → List ℕ → List Note → World
paged world words log = record world { words = words; main = record world.main { log = log } }

-- other words agree with a world's on its pages
abbrev pub Agree : World → List ℕ → Type 0
Agree world words = take world.old words ≡ take world.old world.words

-- each address reads the same cell
pub same_cell : (world : World) (words : List ℕ) (log : List Note) → Agree world words → (at : ℕ)
    → cell_of (paged world words log) at ≡ cell_of world at
same_cell world words log same at = page_cells world.old world.words words world.layouts same at

-- what holds of each tagged slot of a cell does so in the other world
pub each_on : (world : World) (words : List ℕ) (log : List Note) → Agree world words → (at : ℕ) (P : ℕ → ℕ → Type 0)
    → EachSlot world at P → EachSlot (paged world words log) at P
each_on world words log same at P each =
    each_slot (paged world words log) at P (λ cell f offset c.
    let e : cell_of world at ≡ Some cell = sym (same_cell world words log same at) ∙ f in
    let ends : at + cell.size ≤ min world.old (page_end at) =
    (cell_from world.words world.layouts at (min world.old (page_end at)) cell e).ends in
    let inside = slot_inside world at cell offset e c in
    subst (P offset)
    (sym (same_index world.old world.words words same (at + offset) (omega (arith, ends, inside.1))))
    (of_slot world at offset cell P e c each))

-- what is reached is reached in the other world
pub reached_on : (world : World) (words : List ℕ) (log : List Note) (at : ℕ) → IsMarked world at
    → IsMarked (paged world words log) at
reached_on world words log at reached = record { start = reached.start; coloured = reached.coloured }

-- the words of the pages are there
pub words_on : (world : World) (words : List ℕ) → Agree world words → world.old ≤ length world.words
    → world.old ≤ length words
words_on world words same within =
    let were : length (take world.old world.words) ≡ min world.old (length world.words) =
    length-take world.old world.words in
    let are : length (take world.old words) ≡ min world.old (length words) = length-take world.old words in
    let both : length (take world.old words) ≡ length (take world.old world.words) = ap length same in
    omega (arith, were, are, both, within)

-- the sizes are right there
pub sizes_on : (world : World) (words : List ℕ) (log : List Note) → Agree world words → HasSizes world
    → HasSizes (paged world words log)
sizes_on world words log same sizes = record {
  pages = sizes.pages;
  addresses = sizes.addresses;
  words = words_on world words same sizes.words;
  colours = sizes.colours;
  three = sizes.three;
  board = sizes.board;
  layouts = sizes.layouts;
}

-- so are the cells
pub cells_on : (world : World) (words : List ℕ) (log : List Note) → Agree world words → HasCells world
    → HasCells (paged world words log)
cells_on world words log same cells = record {
  read = λ start free. subst (λ (c : Option Reading). IsSome c) (sym (same_cell world words log same start))
      (cells.read start free);
  apart = λ start free other other_free differ. subst (λ (c : Option Reading). is_inside start c other ≡ false)
      (sym (same_cell world words log same start)) (cells.apart start free other other_free differ);
  born = cells.born;
  mine = cells.mine;
  mine_born = cells.mine_born;
  mine_black = cells.mine_black;
}

-- the lists of a helper
view_on : (world : World) (words : List ℕ) (log : List Note) (view : HelperView) → HasViewLists world view
    → HasViewLists (paged world words log) view
view_on world words log view has = record {
  grey = λ k d l. reached_on world words log (get_or view.grey k d) (has.grey k d l);
  snap = some_weaker (λ (s : Snap). IsMarked world s.cell) (λ s. IsMarked (paged world words log) s.cell) view.snap
      (λ s r. reached_on world words log s.cell r) has.snap;
  one_at_once = has.one_at_once;
  in_hand = has.in_hand;
}

-- and all lists
pub lists_on : (world : World) (words : List ℕ) (log : List Note) → HasLists world → HasLists (paged world words log)
lists_on world words log lists = record {
  main = λ k d l. reached_on world words log (get_or world.main.grey k d) (lists.main k d l);
  helpers = λ k d l. view_on world words log (get_or world.helpers k d) (lists.helpers k d l);
  board = λ k d l. some_weaker (IsMarked world) (IsMarked (paged world words log))
      (reference_in (get_or world.board k d)) (reached_on world words log) (lists.board k d l);
  coloured = lists.coloured;
}
