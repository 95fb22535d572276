-- A world in which no cell has a colour, no cell waits and no seat is out is fresh, where the mutator's view is sound.
use Rattle.std.proofs.Common.{◌≡◌, ℕ, inl, inr, false, [], length, All, Contains, get_or}
use Rattle.std.proofs.Common.{IfSome, sym, subst, refl, arith}
use Rattle.std.proofs.lemmas.Bool.{cases_lt}
use Rattle.std.proofs.lemmas.List.{get_or_past}
use Rattle.std.proofs.lemmas.List.Elements.{All-nil, All-replicate}
use Rattle.tagged_word.specs.Readings.{reference_in}
use Rattle.core_parts.specs.Boards.{IsBoard, empty_board}
use Rattle.core_parts.proofs.Handing.{empty_is_board}
use Rattle.page_space.specs.Extents.{board_words}
use Rattle.mark_world.specs.Steps.{white, grey, black}
use Rattle.mark_world.specs.AfterEvents.{IsMarked}
use Rattle.mark_world.specs.Coverage.{IsCovered, colour_of}
use Rattle.mark_world.specs.Soundness.{HasSizes, HasCells, HasLists, HasViewLists, HasSure, IsEmptyView, IsTrueSnap}
use Rattle.mark_world.specs.Soundness.{Waits, Sound}
use Rattle.mark_world.specs.BornCells.{Born, HasBorn}
use Rattle.mark_world.specs.BetweenCommands.{Fresh}
use Rattle.mark_laws.specs.PageWords.{HasMainSound}
use Rattle.mark_laws.specs.Types.{HelperView, SnapSlot, World}
use Rattle.mark_laws.proofs.Joins.{all_from}

-- nothing is known of the world but which cells are published and born
pub record IsWhiteWorld (world : World) : Type 0 where
  pub sound : HasMainSound world
  pub count : length world.colours ≡ world.old
  pub colours : All (λ colour. colour ≡ white) world.colours
  pub board : world.board ≡ empty_board
  pub none_out : All (λ view. view.out ≡ false) world.helpers
  pub empty : All IsEmptyView world.helpers
  pub mine : world.main.mine ≡ []
  pub sure : world.main.sure ≡ []
  pub owed : world.main.owed ≡ []
  pub grey : world.main.grey ≡ []
  pub log : world.main.log ≡ []

module _ {world : World} (is : IsWhiteWorld world) where
  -- each cell is white
  all_white : (at : ℕ) → colour_of world at ≡ white
  all_white at = elim (cases_lt at (length world.colours)) [
    | inl within ↦ is.colours at 0 within
    | inr past ↦ get_or_past world.colours at 0 past
  ]

  -- so none has another colour
  none_black : (at : ℕ) → colour_of world at ≡ black → ⊥
  none_black at is_black = omega (arith, all_white at, is_black)

  -- the sizes are right
  white_sizes : HasSizes world
  white_sizes = record {
    pages = is.sound.pages;
    addresses = is.sound.addresses;
    words = is.sound.within;
    colours = is.count;
    three = λ k d within. (let one = is.colours k d within in omega (arith, one));
    board = subst IsBoard (sym is.board) empty_is_board;
    layouts = is.sound.shapes;
  }

  -- so are the cells
  white_cells : HasCells world
  white_cells = record {
    read = is.sound.read;
    apart = is.sound.apart;
    born = is.sound.born;
    mine = is.sound.mine;
    mine_born = is.sound.mine_born;
    mine_black = subst (λ list. All (λ at. colour_of world at ≡ black) list) (sym is.mine)
        (All-nil (λ at. colour_of world at ≡ black));
  }

  -- an empty view has lists
  empty_lists : (view : HelperView) → IsEmptyView view → HasViewLists world view
  empty_lists view empty = record {
    grey = subst (λ list. All (IsMarked world) list) (sym empty.grey) (All-nil (IsMarked world));
    snap = subst (λ snap. IfSome snap (λ snap. IsMarked world snap.cell)) (sym empty.snap) tt;
    one_at_once = λ some. empty.visit;
    in_hand = λ out. empty;
  }

  -- and so has the world
  white_lists : HasLists world
  white_lists = record {
    main = subst (λ list. All (IsMarked world) list) (sym is.grey) (All-nil (IsMarked world));
    helpers = λ k d within. empty_lists (get_or world.helpers k d) (is.empty k d within);
    board = subst (λ board. All (λ word. IfSome (reference_in word) (IsMarked world)) board) (sym is.board)
        (All-replicate (λ word. IfSome (reference_in word) (IsMarked world)) board_words 0 tt);
    coloured = λ at coloured. absurd (coloured (all_white at));
  }

  -- the mutator is sure of nothing
  white_sure : HasSure world
  white_sure = record {
    covered = subst (λ list. All (IsCovered world) list) (sym is.sure) (All-nil (IsCovered world));
    sure_born = is.sound.sure_born;
    owed_born = is.sound.owed_born;
  }

  -- so it is sound
  white_sound : Sound world
  white_sound = record {
    sizes = white_sizes;
    cells = white_cells;
    lists = white_lists;
    sure = white_sure;
    black = λ start free is_black. absurd (none_black start is_black);
    grey = all_from (λ at. colour_of world at ≡ grey → Waits world at) world.main.starts
        (λ at there is_grey. absurd (omega (arith, all_white at, is_grey)));
    snaps = λ k d within.
        subst (λ snap. IfSome snap (λ snap. colour_of world snap.cell ≡ grey → IsTrueSnap world snap))
        (sym (is.empty k d within).snap) tt;
  }

  -- and marking reaches born cells alone
  white_born : Born world
  white_born = record {
    reached = λ at marked. absurd (marked.coloured (all_white at));
    slots = is.sound.slots;
    snaps = λ k d within.
        subst (λ snap. IfSome snap (λ snap. colour_of world snap.cell ≡ grey
        → All (λ (slot : SnapSlot). HasBorn world slot.word) snap.slots)) (sym (is.empty k d within).snap) tt;
    visits = λ k d within.
        subst (λ list. All (λ at. Contains world.main.born at) list) (sym (is.empty k d within).visit)
        (All-nil (λ at. Contains world.main.born at));
  }

  -- so it is fresh
  pub white_fresh : Fresh world
  white_fresh = record {
    sound = white_sound;
    born = white_born;
    white = is.colours;
    board = subst (λ board. All (λ word. word ≡ 0) board) (sym is.board)
        (All-replicate (λ word. word ≡ 0) board_words 0 refl);
    none_out = is.none_out;
    mine = is.mine;
    sure = is.sure;
    owed = is.owed;
    grey = is.grey;
    log = is.log;
  }
