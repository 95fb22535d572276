-- What a seat comes to once its cycle is dropped.
use Rattle.std.proofs.Common.{◌≡◌, ◌<◌, ◌+◌, ℕ, List, length, replicate, slice_index, slice_set, refl, sym}
use Rattle.std.proofs.Common.{ap, subst, ◌∙◌, arith, below_more}
use Rattle.std.proofs.lemmas.List.{ext_get_or, get_or-replicate, get_or-set_other, get_or-set_same, length-replicate}
use Rattle.page_space.specs.Extents.{Space, eden_start}
use Rattle.core_parts.specs.Boards.{empty_board}
use Rattle.shared_table.specs.Changes.{closed, whitened}
use Rattle.heap_table.specs.Overviews.{cycle_in, knowing, overview}
use Rattle.heap_table.specs.Seats.{Seat}
use Rattle.mark_barrier.specs.Paid.{IsDropped, StepsTo}

-- one place more of the board has no cell
pub emptied_more : (before after : List ℕ) (place : ℕ) → place < length before → after ≡ slice_set before place 0
    → ((k : ℕ) → k < place → slice_index before k ≡ 0) → (k : ℕ) → k < place + 1 → slice_index after k ≡ 0
emptied_more before after place within is none =
    below_more (λ k. slice_index after k ≡ 0) place
    (λ k low. ap (λ (b : List ℕ). slice_index b k) is
    ∙ get_or-set_other before place k 0 0 (omega (arith, low)) ∙ none k low)
    (ap (λ (b : List ℕ). slice_index b place) is ∙ get_or-set_same before place 0 0 within)

-- a board without cells is empty
pub all_emptied : (board : List ℕ) (count : ℕ) → length board ≡ count
    → ((k : ℕ) → k < count → slice_index board k ≡ 0) → board ≡ replicate count 0
all_emptied board count long none =
    ext_get_or 0 board (replicate count 0) (long ∙ sym (length-replicate count 0)) (λ k below.
    none k (omega (arith, below, long)) ∙ sym (get_or-replicate count k 0 0 (omega (arith, below, long))))

-- a cycle was closed, and all cells are white
pub dropped_from : (old mid new : Seat) → StepsTo old mid old.table (cycle_in old)
    → new ≡ knowing mid mid.table (whitened (closed (overview mid))) → (overview mid).board ≡ empty_board
    → IsDropped old new
dropped_from old mid new steps is empty = subst (IsDropped old) (sym is) (record {
  space = steps.moves.space;
  phase = refl;
  table = steps.moves.table;
  id = steps.moves.id;
  shared = refl;
  layouts = steps.moves.layouts;
  home = steps.moves.home;
  out = steps.moves.out;
  lent = steps.moves.lent;
  colours = ap (λ (s : Space). replicate (eden_start s) 0) steps.moves.space;
  board = empty;
  cycle = refl;
})
