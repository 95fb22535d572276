-- Worlds that agree on the words of their pages are sound alike, born alike and settled alike.
use Rattle.std.proofs.Common.{ℕ, ◌+◌, ◌<◌, ◌≤◌, ◌≡◌, ◌∙◌, ◌⊎◌, inl, inr, true, false, IsTrue, List, Contains}
use Rattle.std.proofs.lemmas.List.Elements.{All-contains}
use Rattle.mark_laws.proofs.Joins.{all_from}
use Rattle.std.proofs.Common.{get_or, min, slice_get, Option, Some, None, IsSome, IfSome, sym, ap}
use Rattle.std.proofs.Common.{subst, arith}
use Rattle.mark_laws.specs.Types.{Reading, Note, Laid, Snap, World}
use Rattle.tagged_word.specs.Cells.{length_offset, marks_by_length}
use Rattle.tagged_word.proofs.Cells.{some_same}
use Rattle.tagged_word.proofs.CellReadings.{cell_from}
use Rattle.mark_world.specs.Pages.{is_inside, page_end}
use Rattle.mark_world.specs.Safety.{IsSafe, laid_in}
use Rattle.mark_world.specs.Steps.{grey}
use Rattle.mark_world.specs.AfterEvents.{IsMarked}
use Rattle.mark_world.specs.Coverage.{EachSlot, HasCovered, cell_of, colour_of}
use Rattle.mark_world.specs.Soundness.{HasSnaps, HasSure, IsFreshSlot, IsTrueSnap, Sound, header_slots}
use Rattle.mark_world.specs.BornCells.{Born, HasBorn}
use Rattle.mark_world.specs.BetweenCommands.{HasSureTarget, Settled}
use Rattle.mark_laws.specs.PageWords.{AgreesOnPages, HasMainSound, KnowsOf}
use Rattle.mark_laws.proofs.Alike.{same_get, same_index}
use Rattle.mark_laws.proofs.Laid.{laid_of}
use Rattle.mark_laws.proofs.Listing.{some_weaker}
use Rattle.mark_laws.proofs.Names.{WasHeader, marks_long, safe_unmarked, was_header}
use Rattle.mark_laws.proofs.PageWords.{Agree, cells_on, each_on, lists_on, paged, same_cell, sizes_on, words_on}
use Rattle.mark_laws.proofs.Reading.{size_two}
use Rattle.mark_laws.proofs.Slots.{free_cell, grey_free, some_at, some_from}
use Rattle.mark_laws.proofs.Starts.{start_old}

-- a cell whose length marking asks for has its length in the pages
length_old : (world : World) (at : ℕ) (cell : Reading) → cell_of world at ≡ Some cell
    → marks_by_length cell.layout.kind ≡ true → at + length_offset < world.old
length_old world at cell e marks =
    let bound : ℕ = min world.old (page_end at) in
    let ends : at + cell.size ≤ min world.old (page_end at) =
    (cell_from world.words world.layouts at bound cell e).ends in
    let two = size_two world.words world.layouts at bound cell e (marks_long cell.layout.kind marks) in
    omega (arith, ends, two)

-- so is that of the cell of which a true snap read a header with such a layout
read_length_old : (world : World) (snap : Snap) (cell : Reading) (laid : Laid) → cell_of world snap.cell ≡ Some cell
    → WasHeader world snap cell → laid_in world.layouts snap.header ≡ Some laid
    → marks_by_length laid.layout.kind ≡ true → snap.cell + length_offset < world.old
read_length_old world snap cell laid e was f marks =
    let is : laid ≡ was.laid = some_same f was.is in
    elim was.still [
      | inl same ↦ length_old world snap.cell cell e (ap (λ (l : Laid). marks_by_length l.layout.kind)
          (sym same) ∙ ap (λ (l : Laid). marks_by_length l.layout.kind) (sym is) ∙ marks)
      | inr change ↦ absurd (safe_unmarked was.laid (laid_of cell) change
          (ap (λ (l : Laid). marks_by_length l.layout.kind) (sym is) ∙ marks))
    ]

-- the length that a true snap read stands in the other world
length_on : (world : World) (words : List ℕ) → Agree world words → (snap : Snap) (cell : Reading)
    → cell_of world snap.cell ≡ Some cell → IsTrueSnap world snap
    → IfSome snap.length (λ long. IfSome (laid_in world.layouts snap.header) (λ laid.
    IsTrue (marks_by_length laid.layout.kind) → slice_get words (snap.cell + length_offset) ≡ Some long))
length_on world words same snap cell e is_true =
    let was = was_header world snap cell is_true e in
    some_from (λ (long : ℕ). IfSome (laid_in world.layouts snap.header) (λ laid.
    IsTrue (marks_by_length laid.layout.kind) → slice_get words (snap.cell + length_offset) ≡ Some long))
    snap.length (λ long g.
    some_from (λ (laid : Laid). IsTrue (marks_by_length laid.layout.kind)
    → slice_get words (snap.cell + length_offset) ≡ Some long)
    (laid_in world.layouts snap.header) (λ laid f marks.
    same_get world.old world.words words same (snap.cell + length_offset)
    (read_length_old world snap cell laid e was f marks)
    ∙ some_at (λ (l : Laid). IsTrue (marks_by_length l.layout.kind)
    → slice_get world.words (snap.cell + length_offset) ≡ Some long)
    (laid_in world.layouts snap.header) laid f
    (some_at (λ (n : ℕ). IfSome (laid_in world.layouts snap.header) (λ l.
    IsTrue (marks_by_length l.layout.kind) → slice_get world.words (snap.cell + length_offset) ≡ Some n))
    snap.length long g is_true.length) marks))

-- what a true snap knows of a tagged slot
abbrev KnownSlot : World → Snap → ℕ → ℕ → ℕ → Type 0
KnownSlot world snap long offset word =
    HasCovered world word ⊎ (Contains (header_slots world snap long) offset × IsFreshSlot snap offset word)

-- a true snap of a grey cell is true in the other world
snap_on : (world : World) (words : List ℕ) (log : List Note) → Agree world words → Sound world → (snap : Snap)
    → IsMarked world snap.cell → colour_of world snap.cell ≡ grey → IsTrueSnap world snap
    → IsTrueSnap (paged world words log) snap
snap_on world words log same sound snap reached is_grey is_true =
    let read = free_cell world sound.cells snap.cell (grey_free world sound.cells snap.cell reached.start is_grey) in
    let old = start_old world sound.sizes sound.cells snap.cell reached.start in
    record {
      header = subst (λ (w : ℕ). (w ≡ snap.header) ⊎ IsSafe world.layouts snap.header w)
          (sym (same_index world.old world.words words same snap.cell (omega (arith, old, sound.sizes.colours))))
          is_true.header;
      layout = is_true.layout;
      length = length_on world words same snap read.0 read.1 is_true;
      slots = subst (λ (o : Option Reading). IfSome o (λ cell.
          EachSlot (paged world words log) snap.cell (KnownSlot world snap cell.length)))
          (sym (same_cell world words log same snap.cell))
          (some_weaker (λ (cell : Reading). EachSlot world snap.cell (KnownSlot world snap cell.length))
          (λ cell. EachSlot (paged world words log) snap.cell (KnownSlot world snap cell.length))
          (cell_of world snap.cell)
          (λ cell each. each_on world words log same snap.cell (KnownSlot world snap cell.length) each)
          is_true.slots);
    }

-- a snap, if there is one
some_snap_on : (world : World) (words : List ℕ) (log : List Note) → Agree world words → Sound world
    → (snap : Option Snap) → IfSome snap (λ s. IsMarked world s.cell)
    → IfSome snap (λ s. colour_of world s.cell ≡ grey → IsTrueSnap world s)
    → IfSome snap (λ s. colour_of world s.cell ≡ grey → IsTrueSnap (paged world words log) s)
some_snap_on world words log same sound None reached is_true = tt
some_snap_on world words log same sound (Some s) reached is_true =
    λ is_grey. snap_on world words log same sound s reached is_grey (is_true is_grey)

-- all snaps
snaps_on : (world : World) (words : List ℕ) (log : List Note) → Agree world words → Sound world
    → HasSnaps (paged world words log)
snaps_on world words log same sound =
    λ k d l. some_snap_on world words log same sound (get_or world.helpers k d).snap
    (sound.lists.helpers k d l).snap (sound.snaps k d l)

-- what the mutator is sure of
sure_on : (world : World) (words : List ℕ) (log : List Note) → HasSure world → HasSure (paged world words log)
sure_on world words log sure =
    record { covered = sure.covered; sure_born = sure.sure_born; owed_born = sure.owed_born }

-- a sound world stays so with other words behind its pages
sound_on : (world : World) (words : List ℕ) (log : List Note) → Agree world words → Sound world
    → Sound (paged world words log)
sound_on world words log same sound = record {
  sizes = sizes_on world words log same sound.sizes;
  cells = cells_on world words log same sound.cells;
  lists = lists_on world words log sound.lists;
  sure = sure_on world words log sound.sure;
  black = λ start free is_black. each_on world words log same start (λ offset. HasCovered world)
      (sound.black start free is_black);
  grey = sound.grey;
  snaps = snaps_on world words log same sound;
}

-- only born cells are reached in it
born_on : (world : World) (words : List ℕ) (log : List Note) → Agree world words → Born world
    → Born (paged world words log)
born_on world words log same born = record {
  reached = λ at reached. born.reached at record { start = reached.start; coloured = reached.coloured };
  slots = λ start free is_born. each_on world words log same start (λ offset. HasBorn world)
      (born.slots start free is_born);
  snaps = born.snaps;
  visits = born.visits;
}

-- the mutator's part is done there too
settled_on : (world : World) (words : List ℕ) (log : List Note) → Agree world words → Settled world
    → Settled (paged world words log)
settled_on world words log same settled = record {
  owed = settled.owed;
  sure = λ k d l. each_on world words log same (get_or world.main.mine k d) (λ offset. HasSureTarget world)
      (settled.sure k d l);
}

-- what is known of the mutator's view alone
main_on : (world : World) (words : List ℕ) (log : List Note) → Agree world words → HasMainSound world
    → HasMainSound (paged world words log)
main_on world words log same main = record {
  pages = main.pages;
  addresses = main.addresses;
  within = words_on world words same main.within;
  shapes = main.shapes;
  read = λ start free. subst (λ (c : Option Reading). IsSome c) (sym (same_cell world words log same start))
      (main.read start free);
  apart = λ start free other other_free differ. subst (λ (c : Option Reading). is_inside start c other ≡ false)
      (sym (same_cell world words log same start)) (main.apart start free other other_free differ);
  born = main.born;
  mine = main.mine;
  mine_born = main.mine_born;
  mine_old = main.mine_old;
  sure_born = main.sure_born;
  owed_born = main.owed_born;
  slots = λ start free is_born. each_on world words log same start (λ offset. HasBorn world)
      (main.slots start free is_born);
}

-- what is known of a world is known of it with other words behind its pages
paged_tells : (world : World) (words : List ℕ) (log : List Note) → Agree world words
    → KnowsOf world (paged world words log)
paged_tells world words log same = record {
  sound = sound_on world words log same;
  born = born_on world words log same;
  settled = settled_on world words log same;
  main = main_on world words log same;
}

-- what is known of a world is known of each that agrees with it on the pages
pub pages_tell : (world other : World) → AgreesOnPages world other → KnowsOf world other
pages_tell world other agrees =
    subst (KnowsOf world) (sym agrees.rest) (paged_tells world other.words other.main.log agrees.words)

-- a whole world has what is known of the mutator's view alone
pub whole_main : (world : World) → Sound world → Born world → HasMainSound world
whole_main world sound born = record {
  pages = sound.sizes.pages;
  addresses = sound.sizes.addresses;
  within = sound.sizes.words;
  shapes = sound.sizes.layouts;
  read = sound.cells.read;
  apart = sound.cells.apart;
  born = sound.cells.born;
  mine = sound.cells.mine;
  mine_born = sound.cells.mine_born;
  mine_old = all_from (λ at. at < world.old) world.main.mine (λ at mine. subst (λ (n : ℕ). at < n) sound.sizes.colours
      (start_old world sound.sizes sound.cells at (All-contains (Contains world.main.starts) world.main.mine at
      sound.cells.mine mine)));
  sure_born = sound.sure.sure_born;
  owed_born = sound.sure.owed_born;
  slots = born.slots;
}
