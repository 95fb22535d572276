-- A cycle may begin with the two cells.
use Rattle.std.proofs.Common.{◌≡◌, ◌≢◌, ◌≤◌, inl, inr, ℕ, ◌+◌, true, false, List, [], ◌∷◌, All}
use Rattle.std.proofs.Common.{Contains, IsTrue}
use Rattle.std.proofs.Common.{IsSome, IfSome, Some, min, length, slice_index, get_or}
use Rattle.std.proofs.Common.{refl, sym, ap}
use Rattle.std.proofs.Common.{Bool, not, ◌&&◌, nat_lt, subst, ◌∙◌, arith}
use Rattle.std.proofs.lemmas.Bool.{cases_eq}
use Rattle.std.proofs.lemmas.List.{length-replicate}
use Rattle.std.proofs.lemmas.List.Elements.{All-nil, All-push, All-replicate}
use Rattle.std.proofs.lemmas.Option.{get_or_from_slice_get}
use Rattle.tagged_word.specs.declared.layout.Kind.TheVariants as kind
use Rattle.tagged_word.specs.declared.reading.Reading.{Reading}
use Rattle.tagged_word.specs.Readings.{given, reference_in}
use Rattle.tagged_word.proofs.CellReadings.{cell_to}
use Rattle.core_parts.specs.Boards.{IsBoard, IsBoardWord}
use Rattle.tagged_word.proofs.Members.{in_cases, one_in}
use Rattle.core_parts.specs.Lists.{is_in}
use Rattle.core_parts.proofs.Joining.{in_found}
use Rattle.page_space.specs.Extents.{board_words}
use Rattle.mark_laws.specs.Types.{HelperView, World}
use Rattle.mark_world.specs.Pages.{OfTarget, is_free, is_inside, page_end, target}
use Rattle.mark_laws.proofs.Slots.{some_from}
use Rattle.mark_world.specs.Steps.{black, grey, white, returned}
use Rattle.mark_world.specs.AfterEvents.{IsMarked}
use Rattle.mark_world.specs.Coverage.{EachSlot, IsCovered, cell_of, colour_of}
use Rattle.mark_world.specs.Soundness.{HasViewLists, IsTrueSnap}
use Rattle.mark_world.specs.BornCells.{HasBorn}
use Rattle.mark_world.specs.BetweenCommands.{Fresh}
use Rattle.shared_table.specs.declared.overview.Overview.{Overview}
use Rattle.shared_table.specs.Worlds.{world_at_home}
use Rattle.shared_table.specs.Changes.{opened}
use Rattle.table_tests.specs.TwoCells.{HasTwoCells, two_cells}
use Rattle.table_tests.proofs.Bare.{zero_at}

-- the list
abbrev the_list : Reading
the_list = record {
  header = record { shape = 1; object = 0 };
  layout = record { kind = kind.List; cap = 0; used = 0; raw = 0 };
  length = 0;
  size = 3;
}

-- the store of the list
abbrev the_store : Reading
the_store = record {
  header = record { shape = 3; object = 0 };
  layout = record { kind = kind.Store; cap = 0; used = 0; raw = 0 };
  length = 0;
  size = 2;
}

-- the first of two tests that hold
and_first : (a b : Bool) → IsTrue (a && b) → a ≡ true
and_first true b both = refl
and_first false b both = both

-- no other address is a free start
no_start : (start : ℕ) → start ≢ 0 → start ≢ 3 → IsTrue (is_in (0 ∷ 3 ∷ []) start && not (is_in [] start)) → ⊥
no_start start other apart free =
    let on : is_in (0 ∷ 3 ∷ []) start ≡ true = and_first (is_in (0 ∷ 3 ∷ []) start) (not (is_in [] start)) free in
    elim (in_cases 0 (3 ∷ []) start (in_found (0 ∷ 3 ∷ []) start on)) [
      | inl first ↦ other (sym first)
      | inr rest ↦ apart (sym (one_in 3 start rest))
    ]

-- what holds of a number holds of the list of it alone
all_one : (P : ℕ → Type 0) (x : ℕ) → P x → All P (x ∷ [])
all_one P x is = All-push P [] x (All-nil P) is

-- what holds of both cells holds of the list of both
all_two : (P : ℕ → Type 0) → P 0 → P 3 → All P (0 ∷ 3 ∷ [])
all_two P first second = All-push P (0 ∷ []) 3 (all_one P 0 first) second

-- a test gives its value
given_value : (b : Bool) (x y : ℕ) → given b x ≡ Some y → x ≡ y
given_value true x y e = cc
given_value false x y e = cc

-- the target of the list's slot
target_of : (old to : ℕ) → target old 13 ≡ Some to → 3 ≡ to
target_of old to e = given_value (nat_lt 3 old) 3 to e

-- the cycle that begins with the two cells
module _ (main : Overview) (two : HasTwoCells main) where
  -- the world when the cycle begins
  abbrev begun : World
  begun = world_at_home (opened main two_cells)

  -- the list reads as a cell
  pub list_reads : cell_of begun 0 ≡ Some the_list
  list_reads = cell_to main.words main.layouts 0 (min main.old (page_end 0)) the_list (record {
    is_header = record { shape = omega arith; object = omega arith };
    first = two.list;
    known = omega arith;
    is_layout = record { cap = refl; used = refl; raw = refl };
    of_shape = two.list_layout;
    second = refl;
    sized = refl;
    ends = omega (arith, two.page);
    there = omega (arith, two.page, two.bare.words);
  })

  -- the store of the list reads too
  store_reads : cell_of begun 3 ≡ Some the_store
  store_reads = cell_to main.words main.layouts 3 (min main.old (page_end 3)) the_store (record {
    is_header = record { shape = omega arith; object = omega arith };
    first = two.store;
    known = omega arith;
    is_layout = record { cap = refl; used = refl; raw = refl };
    of_shape = two.store_layout;
    second = two.capacity;
    sized = refl;
    ends = omega (arith, two.page);
    there = omega (arith, two.page, two.bare.words);
  })

  -- a free start is one of them
  free_cases : (P : ℕ → Type 0) → P 0 → P 3 → (start : ℕ) → IsTrue (is_free begun.main start) → P start
  free_cases P at_list at_store start free = elim (cases_eq start 0) [
    | inl first ↦ subst P (sym first) at_list
    | inr other ↦ elim (cases_eq start 3) [
      | inl second ↦ subst P (sym second) at_store
      | inr apart ↦ absurd (no_start start other apart free)
    ]
  ]

  -- each cell is white
  white_at : (at : ℕ) → colour_of begun at ≡ white
  white_at at = ap (λ (all : List ℕ). slice_index all at) two.bare.colours ∙ zero_at main.old at

  -- the store is born
  refers : (word : ℕ) → word ≡ 13 → HasBorn begun word
  refers word is =
      subst (λ (w : ℕ). OfTarget main.old w (λ to. Contains begun.main.born to)) (sym is)
      (some_from (λ (to : ℕ). Contains begun.main.born to) (target main.old 13) (λ to e.
      let t = target_of main.old to e in subst (Contains begun.main.born) t (1, omega arith, refl)))

  -- a seat that came back has nothing
  returned_lists : HasViewLists begun returned
  returned_lists = record {
    grey = All-nil (IsMarked begun);
    snap = tt;
    one_at_once = λ some. refl;
    in_hand = λ none. record { snap = refl; last = refl; visit = refl; grey = refl; log = refl };
  }

  -- so the world is fresh
  pub paired_fresh : Fresh begun
  paired_fresh = record {
    sound = record {
      sizes = record {
        pages = two.bare.pages;
        addresses = two.bare.addresses;
        words = omega (arith, two.bare.words);
        colours = ap (λ (all : List ℕ). length all) two.bare.colours ∙ length-replicate {A = ℕ} main.old 0;
        three = subst (λ (all : List ℕ). All (λ colour. colour ≤ black) all) (sym two.bare.colours)
            (All-replicate (λ (colour : ℕ). colour ≤ black) main.old 0 (omega arith));
        board = subst IsBoard (sym two.bare.board)
            (record {
              count = length-replicate {A = ℕ} board_words 0;
              each = All-replicate IsBoardWord board_words 0 (inl refl);
            });
        layouts = two.bare.layouts;
      };
      cells = record {
        read = free_cases (λ (start : ℕ). IsSome (cell_of begun start)) (rw list_reads refl) (rw store_reads refl);
        apart = free_cases (λ (start : ℕ). (other : ℕ) → IsTrue (is_free begun.main other) → start ≢ other
            → is_inside start (cell_of begun start) other ≡ false)
            (free_cases (λ (other : ℕ). 0 ≢ other → is_inside 0 (cell_of begun 0) other ≡ false)
            (λ same. absurd (same refl)) (λ same. rw list_reads refl))
            (free_cases (λ (other : ℕ). 3 ≢ other → is_inside 3 (cell_of begun 3) other ≡ false)
            (λ same. rw store_reads refl) (λ same. absurd (same refl)));
        born = all_two (Contains begun.main.starts) (0, omega arith, refl) (1, omega arith, refl);
        mine = All-nil (Contains begun.main.starts);
        mine_born = All-nil (Contains begun.main.born);
        mine_black = All-nil (λ (at : ℕ). colour_of begun at ≡ black);
      };
      lists = record {
        main = All-nil (IsMarked begun);
        helpers = All-replicate (HasViewLists begun) main.lent returned returned_lists;
        board = subst (λ (all : List ℕ). All (λ word. IfSome (reference_in word) (IsMarked begun)) all)
            (sym two.bare.board)
            (All-replicate (λ (word : ℕ). IfSome (reference_in word) (IsMarked begun)) board_words 0 tt);
        coloured = λ at not_white. absurd (not_white (white_at at));
      };
      sure = record {
        covered = All-nil (IsCovered begun);
        sure_born = All-nil (Contains begun.main.born);
        owed_born = All-nil (Contains begun.main.born);
      };
      black = λ start free is_black. absurd (omega (arith, white_at start, is_black));
      grey = λ k d l is_grey. absurd (omega (arith, white_at (get_or begun.main.starts k d), is_grey));
      snaps = All-replicate (λ (view : HelperView). IfSome view.snap (λ snap. colour_of begun snap.cell ≡ grey
          → IsTrueSnap begun snap)) main.lent returned tt;
    };
    born = record {
      reached = λ at marked. absurd (marked.coloured (white_at at));
      slots = free_cases (λ (start : ℕ). Contains begun.main.born start → EachSlot begun start (λ offset. HasBorn
          begun))
          (λ born. rw list_reads (all_one (λ (offset : ℕ). HasBorn begun (slice_index main.words (0 + offset))) 1
          (refers (slice_index main.words 1) (get_or_from_slice_get main.words 1 13 0 two.slot))))
          (λ born. rw store_reads (All-nil (λ (offset : ℕ). HasBorn begun (slice_index main.words (3 + offset)))));
      snaps = All-replicate (λ (view : HelperView). IfSome view.snap (λ snap. colour_of begun snap.cell ≡ grey
          → All (λ slot. HasBorn begun slot.word) snap.slots)) main.lent returned tt;
      visits = All-replicate (λ (view : HelperView). All (Contains begun.main.born) view.visit) main.lent returned
          (All-nil (Contains begun.main.born));
    };
    white = subst (λ (all : List ℕ). All (λ colour. colour ≡ white) all) (sym two.bare.colours)
        (All-replicate (λ (colour : ℕ). colour ≡ white) main.old 0 refl);
    board = subst (λ (all : List ℕ). All (λ word. word ≡ 0) all) (sym two.bare.board)
        (All-replicate (λ (word : ℕ). word ≡ 0) board_words 0 refl);
    none_out = All-replicate (λ (view : HelperView). view.out ≡ false) main.lent returned refl;
    mine = refl;
    sure = refl;
    owed = refl;
    grey = refl;
    log = refl;
  }
