-- Steps of marking that change a word which the seat knows, and nothing that it knows besides.
use Rattle.std.proofs.Common.{◌≡◌, ℕ, ◌+◌, Option, Some, sym, ◌∙◌, ap}
use Rattle.page_space.specs.Extents.{layouts_start}
use Rattle.mark_world.specs.declared.event.Event.TheVariants as event
use Rattle.shared_table.specs.Seats.{Side}
use Rattle.heap_table.specs.declared.main_seat.MainSeat.TheInside.{Inside}
use Rattle.heap_table.specs.Overviews.{stored}
use Rattle.heap_table.specs.Seated.{besides, seat_of}
use Rattle.heap_table.specs.Seats.{Beside, Seat, beside_in, with_layout}

-- what a seat with a shared table knows of it
pub beside_is : (inside : Inside) (seat : Seat) (side : Side) → seat_of inside ≡ seat → inside.shared ≡ Some side
    → seat.shared ≡ Some (beside_in side.table side.main)
beside_is inside seat side view is = ap (λ (one : Seat). one.shared) (sym view) ∙ ap besides is

-- a layout word is put
pub layout_put : (seat : Seat) (beside : Beside) (shape word : ℕ) → seat.shared ≡ Some beside
    → stored seat (event.AddLayout shape word) (layouts_start seat.space + shape) word ≡ with_layout seat shape word
layout_put seat beside shape word is =
    ap (λ (shared : Option Beside). stored (record seat { shared = shared }) (event.AddLayout shape word)
    (layouts_start seat.space + shape) word) is
    ∙ sym (ap (λ (shared : Option Beside). with_layout (record seat { shared = shared }) shape word) is)
