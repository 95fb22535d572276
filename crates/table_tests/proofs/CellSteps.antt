-- What the mutator's steps leave of the cells that pages are cut into.
use Rattle.std.proofs.Common.{◌≢◌, ◌<◌, ◌≤◌, ◌+◌, ◌*◌, ◌%◌, ℕ, List, Contains, IsTrue, slice_index, slice_set}
use Rattle.std.proofs.Common.{inl, inr, length, refl, sym, subst, arith}
use Rattle.std.proofs.lemmas.Bool.{cases_eq, cases_lt}
use Rattle.std.proofs.lemmas.List.{get_or_past, get_or-set_same, get_or-set_other}
use Rattle.core_parts.specs.Lists.{joined}
use Rattle.core_parts.proofs.Joining.{found_in, in_found, joined_from, joined_in, joined_keeps}
use Rattle.mark_laws.proofs.Stores.{free_is, free_made}
use Rattle.mark_laws.specs.Types.{HelperView}
use Rattle.mark_world.specs.declared.event.Event.TheVariants as event
use Rattle.mark_world.specs.Pages.{is_free}
use Rattle.shared_table.specs.declared.overview.Overview.{Overview}
use Rattle.shared_table.specs.Changes.{home_with, lending, taking, told}
use Rattle.table_tests.specs.Grids.{IsOpenGrid, IsWholeGrid, is_plain_head}

-- a cell that is shaded stays one of them, and so does each other
pub shaded_grid : (main : Overview) (count at found : ℕ) → IsOpenGrid main count
    → IsOpenGrid (told main (event.ShadeMain at) found) count
shaded_grid main count at found g = record { phase = g.phase; room = g.room; born = g.born }

-- a whole grid is one still after a shade
pub shaded_whole : (main : Overview) (count trimmed at found : ℕ) → IsWholeGrid main count trimmed
    → IsWholeGrid (told main (event.ShadeMain at) found) count trimmed
shaded_whole main count trimmed at found w = record {
  grid = shaded_grid main count at found w.grid;
  few = w.few;
  one_raw = w.one_raw;
  none_raw = w.none_raw;
  aligned = w.aligned;
  free = w.free;
  heads = w.heads;
}

-- and so it is where a cell is given to the board, or taken from it, or a seat is lent or taken back
pub given_whole : (main : Overview) (count trimmed place at found : ℕ) → IsWholeGrid main count trimmed
    → IsWholeGrid (told main (event.GiveMain place at) found) count trimmed
given_whole main count trimmed place at found w = record {
  grid = record { phase = w.grid.phase; room = w.grid.room; born = w.grid.born };
  few = w.few;
  one_raw = w.one_raw;
  none_raw = w.none_raw;
  aligned = w.aligned;
  free = w.free;
  heads = w.heads;
}

-- and after a seat was lent
pub lent_whole : (main : Overview) (count trimmed : ℕ) → IsWholeGrid main count trimmed
    → IsWholeGrid (lending main) count trimmed
lent_whole main count trimmed w = record {
  grid = record { phase = w.grid.phase; room = w.grid.room; born = w.grid.born };
  few = w.few;
  one_raw = w.one_raw;
  none_raw = w.none_raw;
  aligned = w.aligned;
  free = w.free;
  heads = w.heads;
}

-- a grid is open still after a cell was taken from the board
pub taken_grid : (main : Overview) (count place found : ℕ) → IsOpenGrid main count
    → IsOpenGrid (told main (event.TakeMain place) found) count
taken_grid main count place found g = record { phase = g.phase; room = g.room; born = g.born }

-- after a seat was taken back
pub back_grid : (main : Overview) (count : ℕ) (view : HelperView) → IsOpenGrid main count
    → IsOpenGrid (taking main view) count
back_grid main count view g = record { phase = g.phase; room = g.room; born = g.born }

-- and once colours and board are known again
pub home_grid : (main : Overview) (count : ℕ) (view : HelperView) (colours board : List ℕ) → IsOpenGrid main count
    → IsOpenGrid (home_with (taking main view) colours board) count
home_grid main count view colours board g = record { phase = g.phase; room = g.room; born = g.born }

-- a cell that is made black is born still
pub black_grid : (main : Overview) (count at found : ℕ) → IsOpenGrid main count
    → IsOpenGrid (told main (event.Blacken at) found) count
black_grid main count at found g = record { phase = g.phase; room = g.room; born = g.born }

-- the first one that was not trimmed is made black
module _ (main : Overview) (count cell found : ℕ) (more : cell < count) (w : IsWholeGrid main count cell) where
  -- where the cell begins
  abbrev at : ℕ
  at = 4 * cell

  -- what the main seat knows after the cell was made black
  abbrev after : Overview
  after = told main (event.Blacken at) found

  -- a free start was one before, and is another
  was_free : (start : ℕ) → IsTrue (is_free after.view start) → IsTrue (is_free main.view start) × (start ≢ at)
  was_free start free =
      let f = free_is after.view start free in (
        free_made main.view start f.0 (λ had. f.1 (joined_keeps main.view.mine at start had)),
        λ same. f.1 (subst (Contains (joined main.view.mine at)) (sym same) (joined_in main.view.mine at)),
      )

  -- a later cell is free still
  is_still : (other : ℕ) → cell + 1 ≤ other → other < count → IsTrue (is_free after.view (4 * other))
  is_still other later within =
      let f = free_is main.view (4 * other) (w.free other (omega (arith, later)) within) in
      free_made after.view (4 * other) f.0
      (λ had. f.1 (joined_from main.view.mine at (4 * other) (omega (arith, later)) had))

  -- the next cell counts as trimmed in a whole grid then
  pub black_whole : IsWholeGrid after count (cell + 1)
  black_whole = record {
    grid = black_grid main count at found w.grid;
    few = omega (arith, more);
    one_raw = w.one_raw;
    none_raw = w.none_raw;
    aligned = λ start free. let was = was_free start free in let held = w.aligned start was.0 in
        (held.0, omega (arith, held.0, held.1, was.1));
    free = is_still;
    heads = λ other later within. w.heads other (omega (arith, later)) within;
  }

-- a word that is no header of a later cell leaves the headers
kept_heads : (words : List ℕ) (count trimmed at word : ℕ) → ((cell : ℕ) → trimmed ≤ cell → 4 * cell ≢ at)
    → ((cell : ℕ) → trimmed ≤ cell → cell < count → IsTrue (is_plain_head (slice_index words (4 * cell))))
    → (cell : ℕ) → trimmed ≤ cell → cell < count
    → IsTrue (is_plain_head (slice_index (slice_set words at word) (4 * cell)))
kept_heads words count trimmed at word apart heads cell later within =
    subst (λ (one : ℕ). IsTrue (is_plain_head one))
    (sym (get_or-set_other words at (4 * cell) word 0 (apart cell later))) (heads cell later within)

-- a word that is stored in a slot leaves all of it
pub stored_whole : (main : Overview) (count trimmed at word : ℕ) → 2 ≤ at % 4 → IsWholeGrid main count trimmed
    → IsWholeGrid (told main (event.StoreSlot at word) word) count trimmed
stored_whole main count trimmed at word slot w = record {
  grid = record { phase = w.grid.phase; room = w.grid.room; born = w.grid.born };
  few = w.few;
  one_raw = w.one_raw;
  none_raw = w.none_raw;
  aligned = w.aligned;
  free = w.free;
  heads = kept_heads main.words count trimmed at word (λ cell later. omega (arith, slot)) w.heads;
}

-- and so does a word of a cell that was trimmed
pub owned_whole : (main : Overview) (count trimmed at word : ℕ) → at < 4 * trimmed → IsWholeGrid main count trimmed
    → IsWholeGrid (told main (event.StoreOwned at word) word) count trimmed
owned_whole main count trimmed at word own w = record {
  grid = record { phase = w.grid.phase; room = w.grid.room; born = w.grid.born };
  few = w.few;
  one_raw = w.one_raw;
  none_raw = w.none_raw;
  aligned = w.aligned;
  free = w.free;
  heads = kept_heads main.words count trimmed at word (λ cell later. omega (arith, own, later)) w.heads;
}

-- where such a header is read there is a word
head_there : (words : List ℕ) (at : ℕ) → IsTrue (is_plain_head (slice_index words at)) → at < length words
head_there words at is = elim (cases_lt at (length words)) [
  | inl within ↦ within
  | inr past ↦
      let none : IsTrue (is_plain_head 0) =
      subst (λ (one : ℕ). IsTrue (is_plain_head one)) (get_or_past words at 0 past) is in
      absurd cc
]

-- the header of a cell with a tagged field is one of the two
wide_heads : (words : List ℕ) (count trimmed at : ℕ) → 4 * at < length words
    → ((cell : ℕ) → trimmed ≤ cell → cell < count → IsTrue (is_plain_head (slice_index words (4 * cell))))
    → (cell : ℕ) → trimmed ≤ cell → cell < count
    → IsTrue (is_plain_head (slice_index (slice_set words (4 * at) 38) (4 * cell)))
wide_heads words count trimmed at there heads cell later within = elim (cases_eq cell at) [
  | inl same ↦
      subst (λ (one : ℕ). IsTrue (is_plain_head (slice_index (slice_set words (4 * at) 38) (4 * one)))) (sym same)
      (subst (λ (one : ℕ). IsTrue (is_plain_head one)) (sym (get_or-set_same words (4 * at) 38 0 there)) refl)
  | inr other ↦ subst (λ (one : ℕ). IsTrue (is_plain_head one))
      (sym (get_or-set_other words (4 * at) (4 * cell) 38 0 (omega (arith, other)))) (heads cell later within)
]

-- a cell that is widened leaves all of it
pub widened_whole : (main : Overview) (count trimmed at : ℕ) → trimmed ≤ at → at < count
    → IsWholeGrid main count trimmed → IsWholeGrid (told main (event.StoreHeader (4 * at) 38) 38) count trimmed
widened_whole main count trimmed at later within w = record {
  grid = record { phase = w.grid.phase; room = w.grid.room; born = w.grid.born };
  few = w.few;
  one_raw = w.one_raw;
  none_raw = w.none_raw;
  aligned = w.aligned;
  free = w.free;
  heads = wide_heads main.words count trimmed at (head_there main.words (4 * at) (w.heads at later within)) w.heads;
}

-- a filler is made in a cell that was trimmed
module _ (main : Overview) (count trimmed at : ℕ) (inside : at < 4 * trimmed) (slot : 2 ≤ at % 4)
    (w : IsWholeGrid main count trimmed) where
  -- what the main seat knows after the new cell was made black
  abbrev made : Overview
  made = told main (event.NewBlack at) 2

  -- a free start was one before
  was_start : (start : ℕ) → IsTrue (is_free made.view start) → IsTrue (is_free main.view start)
  was_start start free =
      let f = free_is made.view start free in
      let other : start ≢ at =
      λ same. f.1 (subst (Contains (joined main.view.mine at)) (sym same) (joined_in main.view.mine at)) in
      free_made main.view start (joined_from main.view.starts at start other f.0)
      (λ had. f.1 (joined_keeps main.view.mine at start had))

  -- a later cell is free still
  stays_free : (cell : ℕ) → trimmed ≤ cell → cell < count → IsTrue (is_free made.view (4 * cell))
  stays_free cell later within =
      let f = free_is main.view (4 * cell) (w.free cell later within) in
      free_made made.view (4 * cell) (joined_keeps main.view.starts at (4 * cell) f.0)
      (λ had. f.1 (joined_from main.view.mine at (4 * cell) (omega (arith, slot)) had))

  -- a whole grid is one still then
  pub made_whole : IsWholeGrid made count trimmed
  made_whole = record {
    grid = record {
      phase = w.grid.phase;
      room = w.grid.room;
      born = λ cell within.
          found_in made.view.born (4 * cell)
          (joined_keeps main.view.born at (4 * cell) (in_found main.view.born (4 * cell) (w.grid.born cell within)));
    };
    few = w.few;
    one_raw = w.one_raw;
    none_raw = w.none_raw;
    aligned = λ start free. w.aligned start (was_start start free);
    free = stays_free;
    heads = w.heads;
  }
