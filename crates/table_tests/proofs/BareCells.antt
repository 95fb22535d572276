-- A cycle may begin with cells that were checked.
use Rattle.std.proofs.Common.{◌≡◌, ◌≢◌, ◌≤◌, ◌<◌, ◌+◌, ◌==◌, inl, inr, ℕ, Bool, true, false, not}
use Rattle.std.proofs.Common.{List, All, Contains, Option, Some, None, IfSome, length, get_or, slice_index, refl, sym}
use Rattle.std.proofs.Common.{ap, subst}
use Rattle.std.proofs.Common.{IsTrue, ◌∙◌, arith, eqb-true, min, nat_lt}
use Rattle.std.specs.List.{list_all, range_with_len}
use Rattle.std.proofs.lemmas.Bool.{and_parts, or_cases}
use Rattle.std.proofs.lemmas.List.{length-replicate}
use Rattle.std.proofs.lemmas.List.Elements.{All-nil, All-replicate, All-contains, Contains-get_or}
use Rattle.std.proofs.lemmas.List.FromFn.{get_or-range_with_len, length-range_with_len}
use Rattle.std.proofs.lemmas.List.Sums.{AllPass-from_list_all}
use Rattle.tagged_word.specs.declared.reading.Reading.{Reading}
use Rattle.tagged_word.specs.Readings.{reference_in}
use Rattle.tagged_word.proofs.CellReadings.{cell_from}
use Rattle.tagged_word.proofs.Cells.{slot_within, tagged_is_scavenged}
use Rattle.core_parts.specs.Boards.{IsBoard, IsBoardWord}
use Rattle.core_parts.specs.Lists.{is_in}
use Rattle.core_parts.proofs.Joining.{found_in, in_found}
use Rattle.page_space.specs.Extents.{board_words}
use Rattle.mark_laws.specs.Types.{HelperView, World}
use Rattle.mark_laws.proofs.Stores.{free_is}
use Rattle.mark_world.specs.Pages.{is_free, is_inside, page_end, slots_of, target}
use Rattle.mark_world.specs.Steps.{black, grey, white, returned}
use Rattle.mark_world.specs.AfterEvents.{IsMarked}
use Rattle.mark_world.specs.Coverage.{EachSlot, IsCovered, cell_of, colour_of}
use Rattle.mark_world.specs.Soundness.{HasViewLists, IsTrueSnap}
use Rattle.mark_world.specs.BornCells.{HasBorn}
use Rattle.mark_world.specs.BetweenCommands.{Fresh}
use Rattle.shared_table.specs.declared.overview.Overview.{Overview}
use Rattle.shared_table.specs.Worlds.{world_at_home}
use Rattle.shared_table.specs.Changes.{opened}
use Rattle.table_tests.specs.OneCell.{IsBare}
use Rattle.table_tests.specs.CellPages.{are_cells, cell_fits, is_among, is_apart, slot_fits, stands, these_cells}
use Rattle.table_tests.proofs.Bare.{zero_at}

-- a test that fails
flips : (b : Bool) → not b ≡ true → b ≡ false
flips true e = cc
flips false e = refl

-- no test passes and fails
clash : {A : Type 0} (b : Bool) → b ≡ true → not b ≡ true → A
clash true passed failed = absurd cc
clash false passed failed = absurd cc

-- a cell that was checked
record Fits (old : ℕ) (words starts : List ℕ) (at : ℕ) (o : Option Reading) : Type 0 where
  cell : Reading
  reads : o ≡ Some cell
  apart : list_all (λ other. is_apart at cell other) starts ≡ true
  slots : list_all (λ offset. slot_fits old words starts at cell offset) (range_with_len 0 cell.size) ≡ true

-- a cell that was checked fits
fits_from : (old : ℕ) (words starts : List ℕ) (at : ℕ) (o : Option Reading) → cell_fits old words starts at o ≡ true
    → Fits old words starts at o
fits_from old words starts at None e = absurd cc
fits_from old words starts at (Some cell) e =
    let parts = and_parts (list_all (λ other. is_apart at cell other) starts)
    (list_all (λ offset. slot_fits old words starts at cell offset) (range_with_len 0 cell.size)) e in
    record { cell = cell; reads = refl; apart = parts.0; slots = parts.1 }

-- what is checked of each of a list holds of each of its elements
pub passes : (test : ℕ → Bool) (list : List ℕ) (x : ℕ) → list_all test list ≡ true → Contains list x
    → test x ≡ true
passes test list x all there =
    All-contains (λ (one : ℕ). test one ≡ true) list x (AllPass-from_list_all test list all) there

-- a number below another is in the range up to it
pub in_range : (n x : ℕ) → x < n → Contains (range_with_len 0 n) x
in_range n x less =
    subst (Contains (range_with_len 0 n)) (get_or-range_with_len 0 n x 0 less ∙ omega arith)
    (Contains-get_or (range_with_len 0 n) x 0 (omega (arith, length-range_with_len 0 n, less)))

-- a target among cells is one of them
among : (starts : List ℕ) (o : Option ℕ) → is_among starts o ≡ true → IfSome o (Contains starts)
among starts None e = tt
among starts (Some to) e = in_found starts to e

-- no other cell begins inside
outside : (at : ℕ) (cell : Reading) (other : ℕ) → is_apart at cell other ≡ true → at ≢ other
    → is_inside at (Some cell) other ≡ false
outside at cell other e apart = elim (or_cases (at == other) (not (is_inside at (Some cell) other)) e) [
  | inl same ↦ absurd (apart (eqb-true at other same))
  | inr out ↦ flips (is_inside at (Some cell) other) out
]

-- the word of a tagged slot refers to a cell of the list, or to no old one
slot_among : (old : ℕ) (words starts : List ℕ) (at : ℕ) (cell : Reading) (offset : ℕ)
    → slot_fits old words starts at cell offset ≡ true → Contains (slots_of cell) offset
    → IfSome (target old (slice_index words (at + offset))) (Contains starts)
slot_among old words starts at cell offset e tagged =
    elim (or_cases (not (is_in (slots_of cell) offset)) (is_among starts (target old (slice_index words (at + offset))))
    e) [
      | inl free ↦ clash (is_in (slots_of cell) offset) (found_in (slots_of cell) offset tagged) free
      | inr is ↦ among starts (target old (slice_index words (at + offset))) is
    ]

module _ (main : Overview) (starts : List ℕ) (bare : IsBare main)
    (cells : are_cells main.old main.words main.layouts starts ≡ true) where
  -- the world when the cycle begins
  abbrev begun : World
  begun = world_at_home (opened main (these_cells starts))

  -- each cell of the list was checked
  fits : (at : ℕ) → Contains starts at → Fits main.old main.words starts at (cell_of begun at)
  fits at there =
      fits_from main.old main.words starts at (cell_of begun at)
      (and_parts (nat_lt at main.old) (cell_fits main.old main.words starts at (cell_of begun at))
      (passes (λ (one : ℕ). stands main.old main.words main.layouts starts one) starts at cells there)).1

  -- a free start is one of them
  fits_free : (at : ℕ) → IsTrue (is_free begun.main at) → Fits main.old main.words starts at (cell_of begun at)
  fits_free at free = fits at (free_is begun.main at free).0

  -- each cell is white
  white_at : (at : ℕ) → colour_of begun at ≡ white
  white_at at = ap (λ (all : List ℕ). slice_index all at) bare.colours ∙ zero_at main.old at

  -- each tagged slot of a cell refers to born cells alone
  slots_born : (at : ℕ) → Contains starts at → EachSlot begun at (λ offset. HasBorn begun)
  slots_born at there =
      let f = fits at there in
      let r = cell_from main.words main.layouts at (min main.old (page_end at)) f.cell f.reads in
      rw f.reads (λ k d l.
      let offset : ℕ = get_or (slots_of f.cell) k d in
      let tagged : Contains (slots_of f.cell) offset = Contains-get_or (slots_of f.cell) k d l in
      let within = slot_within f.cell.layout f.cell.length f.cell.size offset r.is_layout r.sized
      (tagged_is_scavenged f.cell.layout f.cell.length offset tagged) in
      slot_among main.old main.words starts at f.cell offset
      (passes (λ (one : ℕ). slot_fits main.old main.words starts at f.cell one) (range_with_len 0 f.cell.size) offset
      f.slots (in_range f.cell.size offset within.1)) tagged)

  -- a seat that came back has nothing
  returned_lists : HasViewLists begun returned
  returned_lists = record {
    grey = All-nil (IsMarked begun);
    snap = tt;
    one_at_once = λ some. refl;
    in_hand = λ none. record { snap = refl; last = refl; visit = refl; grey = refl; log = refl };
  }

  -- so the world is fresh
  pub cells_fresh : Fresh begun
  cells_fresh = record {
    sound = record {
      sizes = record {
        pages = bare.pages;
        addresses = bare.addresses;
        words = omega (arith, bare.words);
        colours = ap (λ (all : List ℕ). length all) bare.colours ∙ length-replicate {A = ℕ} main.old 0;
        three = subst (λ (all : List ℕ). All (λ colour. colour ≤ black) all) (sym bare.colours)
            (All-replicate (λ (colour : ℕ). colour ≤ black) main.old 0 (omega arith));
        board = subst IsBoard (sym bare.board)
            (record {
              count = length-replicate {A = ℕ} board_words 0;
              each = All-replicate IsBoardWord board_words 0 (inl refl);
            });
        layouts = bare.layouts;
      };
      cells = record {
        read = λ start free. let f = fits_free start free in rw f.reads refl;
        apart = λ start free other also differ. let f = fits_free start free in rw f.reads
            (outside start f.cell other
            (passes (λ (one : ℕ). is_apart start f.cell one) starts other f.apart (free_is begun.main other also).0)
            differ);
        born = λ k d l. Contains-get_or starts k d l;
        mine = All-nil (Contains begun.main.starts);
        mine_born = All-nil (Contains begun.main.born);
        mine_black = All-nil (λ (at : ℕ). colour_of begun at ≡ black);
      };
      lists = record {
        main = All-nil (IsMarked begun);
        helpers = All-replicate (HasViewLists begun) main.lent returned returned_lists;
        board = subst (λ (all : List ℕ). All (λ word. IfSome (reference_in word) (IsMarked begun)) all) (sym bare.board)
            (All-replicate (λ (word : ℕ). IfSome (reference_in word) (IsMarked begun)) board_words 0 tt);
        coloured = λ at not_white. absurd (not_white (white_at at));
      };
      sure = record {
        covered = All-nil (IsCovered begun);
        sure_born = All-nil (Contains begun.main.born);
        owed_born = All-nil (Contains begun.main.born);
      };
      black = λ start free is_black. absurd (omega (arith, white_at start, is_black));
      grey = λ k d l is_grey. absurd (omega (arith, white_at (get_or begun.main.starts k d), is_grey));
      snaps = All-replicate (λ (view : HelperView). IfSome view.snap (λ snap. colour_of begun snap.cell ≡ grey
          → IsTrueSnap begun snap)) main.lent returned tt;
    };
    born = record {
      reached = λ at marked. absurd (marked.coloured (white_at at));
      slots = λ start free born. slots_born start born;
      snaps = All-replicate (λ (view : HelperView). IfSome view.snap (λ snap. colour_of begun snap.cell ≡ grey
          → All (λ slot. HasBorn begun slot.word) snap.slots)) main.lent returned tt;
      visits = All-replicate (λ (view : HelperView). All (Contains begun.main.born) view.visit) main.lent returned
          (All-nil (Contains begun.main.born));
    };
    white = subst (λ (all : List ℕ). All (λ colour. colour ≡ white) all) (sym bare.colours)
        (All-replicate (λ (colour : ℕ). colour ≡ white) main.old 0 refl);
    board = subst (λ (all : List ℕ). All (λ word. word ≡ 0) all) (sym bare.board)
        (All-replicate (λ (word : ℕ). word ≡ 0) board_words 0 refl);
    none_out = All-replicate (λ (view : HelperView). view.out ≡ false) main.lent returned refl;
    mine = refl;
    sure = refl;
    owed = refl;
    grey = refl;
    log = refl;
  }
