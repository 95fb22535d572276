-- A seat that was just opened is bare, and so is one whose cycle was closed.
use Rattle.std.proofs.Common.{◌≡◌, ◌%◌, ℕ, true, is_some, replicate, refl, sym, ap}
use Rattle.std.proofs.Common.{subst, ◌∙◌, arith, Some, slice_get, Result, Ok, Err, IfOk}
use Rattle.std.proofs.Math.Nat.{mul-mod_right}
use Rattle.std.proofs.lemmas.List.{length-replicate, get_or-replicate}
use Rattle.std.proofs.lemmas.Option.{slice_get-get_or}
use Rattle.tagged_word.specs.Shapes.{shapes_most}
use Rattle.page_space.specs.Sizes.{page_words, AreWithin}
use Rattle.page_space.specs.Extents.{Space, eden_start}
use Rattle.shared_table.specs.declared.overview.Overview.{Overview}
use Rattle.shared_table.specs.Worlds.{beginning}
use Rattle.shared_table.specs.Seats.{Side}
use Rattle.shared_table.specs.Owned.{zeros}
use Rattle.heap_table.specs.Seats.{Seat, IsFresh, counts_of}
use Rattle.heap_table.specs.Overviews.{overview}
use Rattle.heap_table.proofs.Agreeing.{zeros_agree}
use Rattle.heap_table.proofs.SeatSteps.{overview_is}
use Rattle.table_tests.specs.OneCell.{IsBare}
use Rattle.table_tests.specs.BareSeats.{IsBareSeat, HasNoLayout}
use Rattle.table_tests.specs.OpenMains.{page_and_eden}

-- pages are whole
whole_pages : (space : Space) → eden_start space % page_words ≡ 0
whole_pages space = mul-mod_right page_words space.sizes.pages

-- a table that was just opened is bare
beginning_bare : (space : Space) → AreWithin space.sizes space.variables → IsBare (beginning (counts_of space))
beginning_bare space within = record {
  phase = refl;
  home = refl;
  pages = whole_pages space;
  addresses = omega (arith, within.pages);
  words = length-replicate {A = ℕ} (eden_start space) 0;
  layouts = length-replicate {A = ℕ} shapes_most 0;
  colours = refl;
  board = refl;
  out = refl;
}

-- what a seat knows that was just opened
opened_overview : (space : Space) (seat : Seat) → IsFresh space true seat → overview seat ≡ beginning (counts_of space)
opened_overview space seat fresh =
    let side : Side = record { table = fresh.0; main = beginning (counts_of space) } in
    overview_is (zeros space) side seat (sym fresh.1) (zeros_agree space)

-- it has a shared table, and no cell
pub opened_bare : (space : Space) (seat : Seat) → AreWithin space.sizes space.variables → IsFresh space true seat
    → IsBareSeat seat
opened_bare space seat within fresh = record {
  shared = ap (λ (one : Seat). is_some one.shared) fresh.1;
  bare = subst IsBare (sym (opened_overview space seat fresh)) (beginning_bare space within);
}

-- no shape 17 is in use there
pub opened_layouts : (space : Space) (seat : Seat) → IsFresh space true seat → HasNoLayout seat 17
opened_layouts space seat fresh =
    ap (λ (main : Overview). slice_get main.layouts 17) (opened_overview space seat fresh)
    ∙ slice_get-get_or (replicate shapes_most 0) 17 0 (omega (arith, length-replicate {A = ℕ} shapes_most 0))
    ∙ ap Some (get_or-replicate shapes_most 17 0 0 (omega arith))

-- the regions of one page are within the limits
pub one_page : AreWithin page_and_eden.sizes page_and_eden.variables
one_page = record {
  some_page = omega arith;
  pages = omega arith;
  young_is_least = omega arith;
  young = omega arith;
  helpers = omega arith;
  of_variables = omega arith;
}

-- a seat that was opened with them has all words of the page
pub opened_page : (space : Space) (seat : Seat) → space ≡ page_and_eden → IsFresh space true seat
    → eden_start seat.space ≡ 2048
opened_page space seat is fresh =
    ap (λ (one : Seat). eden_start one.space) fresh.1 ∙ ap (λ (one : Space). eden_start one) is

-- what follows where a seat was opened
pub if_ok : {P Q : Seat → Type 0} {E : Type 0} (result : Result Seat E) → ((seat : Seat) → P seat → Q seat)
    → IfOk result P → IfOk result Q
if_ok (Ok seat) follows holds = follows seat holds
if_ok (Err error) follows holds = tt
