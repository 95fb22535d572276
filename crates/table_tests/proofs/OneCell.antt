-- In a cycle in which one cell was made, which is black, there is no free start.
use Rattle.std.proofs.Common.{◌≡◌, ◌<◌, ℕ, Bool, true, false, not, ◌&&◌, List, length, ap, sym, ◌∙◌, arith}
use Rattle.std.proofs.lemmas.List.{length-take}
use Rattle.page_space.specs.Extents.{eden_start, marks_start}
use Rattle.core_parts.specs.Lists.{is_in}
use Rattle.mark_laws.specs.Types.{MainView}
use Rattle.mark_world.specs.Pages.{EachFree}
use Rattle.heap_table.specs.Seats.{Seat}
use Rattle.heap_table.specs.Overviews.{overview}
use Rattle.shared_table.proofs.PageEnds.{pages_before_marks}
use Rattle.table_tests.specs.BareSeats.{HasOneCellOpen}

-- nothing is so and not so
never : (b : Bool) → b && not b ≡ true → ⊥
never true is = cc
never false is = cc

-- no cell is a free start
pub none_free : (seat : Seat) (at : ℕ) → HasOneCellOpen seat at → (P : ℕ → Type 0) → EachFree (overview seat).view P
none_free seat at cycle P start free =
    let view : MainView = (overview seat).view in
    let same : view.mine ≡ view.starts = cycle.cell.mine ∙ sym cycle.cell.starts in
    absurd (never (is_in view.starts start)
    (ap (λ (all : List ℕ). is_in view.starts start && not (is_in all start)) (sym same) ∙ free))

-- a word of a page is there
pub word_there : (seat : Seat) (a : ℕ) → length seat.table ≡ marks_start seat.space → a < eden_start seat.space
    → a < length (overview seat).words
word_there seat a counted below =
    omega (arith, length-take (eden_start seat.space) seat.table, counted, pages_before_marks seat.space)
