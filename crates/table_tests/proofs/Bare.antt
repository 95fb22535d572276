-- With no cell a cycle may begin, and one may be made in it.
use Rattle.std.proofs.Common.{◌≡◌, ◌≤◌, ℕ, false, List, All, Contains, IsTrue, IfSome, inl, inr}
use Rattle.std.proofs.Common.{length, replicate, slice_index, refl, sym, ap, subst, ◌∙◌, arith}
use Rattle.std.proofs.lemmas.Bool.{cases_lt}
use Rattle.std.proofs.lemmas.List.{length-replicate, get_or-replicate, get_or_past}
use Rattle.std.proofs.lemmas.List.Elements.{All-nil, All-replicate}
use Rattle.tagged_word.specs.Readings.{reference_in}
use Rattle.core_parts.specs.Boards.{IsBoard, IsBoardWord}
use Rattle.page_space.specs.Extents.{board_words}
use Rattle.mark_laws.specs.Types.{HelperView, World}
use Rattle.mark_world.specs.Pages.{is_free}
use Rattle.mark_world.specs.Steps.{black, grey, white, returned}
use Rattle.mark_world.specs.AfterEvents.{IsMarked}
use Rattle.mark_world.specs.Coverage.{IsCovered, colour_of}
use Rattle.mark_world.specs.Soundness.{HasViewLists, IsTrueSnap, Waits}
use Rattle.mark_world.specs.BornCells.{HasBorn}
use Rattle.mark_world.specs.BetweenCommands.{Fresh}
use Rattle.shared_table.specs.declared.overview.Overview.{Overview}
use Rattle.shared_table.specs.Worlds.{world_at_home}
use Rattle.shared_table.specs.Changes.{opened}
use Rattle.table_tests.specs.OneCell.{IsBare, no_cells}

-- a list of 0 has 0 everywhere
pub zero_at : (n at : ℕ) → slice_index (replicate n 0) at ≡ 0
zero_at n at = elim (cases_lt at n) [
  | inl inside ↦ get_or-replicate n at 0 0 inside
  | inr past ↦ get_or_past (replicate n 0) at 0 (omega (arith, length-replicate {A = ℕ} n 0, past))
]

module _ (main : Overview) (bare : IsBare main) where
  -- the world when the cycle begins
  abbrev begun : World
  begun = world_at_home (opened main no_cells)

  -- there is no free start
  none_free : (P : ℕ → Type 0) (start : ℕ) → IsTrue (is_free begun.main start) → P start
  none_free P start free = absurd cc

  -- each cell is white
  white_at : (at : ℕ) → colour_of begun at ≡ white
  white_at at = ap (λ (all : List ℕ). slice_index all at) bare.colours ∙ zero_at main.old at

  returned_lists : HasViewLists begun returned
  returned_lists = record {
    grey = All-nil (IsMarked begun);
    snap = tt;
    one_at_once = λ some. refl;
    in_hand = λ none. record { snap = refl; last = refl; visit = refl; grey = refl; log = refl };
  }

  pub begun_fresh : Fresh begun
  begun_fresh = record {
    sound = record {
      sizes = record {
        pages = bare.pages;
        addresses = bare.addresses;
        words = omega (arith, bare.words);
        colours = ap (λ (all : List ℕ). length all) bare.colours ∙ length-replicate {A = ℕ} main.old 0;
        three = subst (λ (all : List ℕ). All (λ colour. colour ≤ black) all) (sym bare.colours)
            (All-replicate (λ (colour : ℕ). colour ≤ black) main.old 0 (omega arith));
        board = subst IsBoard (sym bare.board)
            (record {
              count = length-replicate {A = ℕ} board_words 0;
              each = All-replicate IsBoardWord board_words 0 (inl refl);
            });
        layouts = bare.layouts;
      };
      cells = record {
        read = none_free _;
        apart = none_free _;
        born = All-nil (Contains begun.main.starts);
        mine = All-nil (Contains begun.main.starts);
        mine_born = All-nil (Contains begun.main.born);
        mine_black = All-nil (λ (at : ℕ). colour_of begun at ≡ black);
      };
      lists = record {
        main = All-nil (IsMarked begun);
        helpers = All-replicate (HasViewLists begun) main.lent returned returned_lists;
        board = subst (λ (all : List ℕ). All (λ word. IfSome (reference_in word) (IsMarked begun)) all) (sym bare.board)
            (All-replicate (λ (word : ℕ). IfSome (reference_in word) (IsMarked begun)) board_words 0 tt);
        coloured = λ at not_white. absurd (not_white (white_at at));
      };
      sure = record {
        covered = All-nil (IsCovered begun);
        sure_born = All-nil (Contains begun.main.born);
        owed_born = All-nil (Contains begun.main.born);
      };
      black = none_free _;
      grey = All-nil (λ (at : ℕ). colour_of begun at ≡ grey → Waits begun at);
      snaps = All-replicate (λ (view : HelperView). IfSome view.snap (λ snap. colour_of begun snap.cell ≡ grey
          → IsTrueSnap begun snap)) main.lent returned tt;
    };
    born = record {
      reached = λ at marked. absurd (marked.coloured (white_at at));
      slots = none_free _;
      snaps = All-replicate (λ (view : HelperView). IfSome view.snap (λ snap. colour_of begun snap.cell ≡ grey
          → All (λ slot. HasBorn begun slot.word) snap.slots)) main.lent returned tt;
      visits = All-replicate (λ (view : HelperView). All (Contains begun.main.born) view.visit) main.lent returned
          (All-nil (Contains begun.main.born));
    };
    white = subst (λ (all : List ℕ). All (λ colour. colour ≡ white) all) (sym bare.colours)
        (All-replicate (λ (colour : ℕ). colour ≡ white) main.old 0 refl);
    board = subst (λ (all : List ℕ). All (λ word. word ≡ 0) all) (sym bare.board)
        (All-replicate (λ (word : ℕ). word ≡ 0) board_words 0 refl);
    none_out = All-replicate (λ (view : HelperView). view.out ≡ false) main.lent returned refl;
    mine = refl;
    sure = refl;
    owed = refl;
    grey = refl;
    log = refl;
  }
