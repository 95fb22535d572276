-- What a seat with a shared table shows, before and after a step.
use Rattle.std.proofs.Common.{◌≡◌, ℕ, List, Option, Some, sym, ap, ◌∙◌}
use Rattle.shared_table.specs.declared.overview.Overview.{Overview}
use Rattle.shared_table.specs.Seats.{Side}
use Rattle.shared_table.specs.Owned.{Own}
use Rattle.heap_table.specs.declared.main_seat.MainSeat.TheInside.{Inside}
use Rattle.heap_table.specs.Seated.{IsSeated, seat_of}
use Rattle.heap_table.specs.Seats.{Seat, beside_in}
use Rattle.heap_table.specs.Overviews.{overview, knowing}
use Rattle.heap_table.specs.Sharing.{Agrees}
use Rattle.heap_table.proofs.PutSeats.{agreed}

-- what a seat with a shared table shows
abbrev pub shown : Own → Side → Seat
shown own side = record {
  space = own.space;
  phase = side.main.phase;
  table = own.words;
  shared = Some (beside_in side.table side.main);
}

-- it shows what the main seat of the shared table knows
overview_shown : (own : Own) (side : Side) → Agrees own side.main → overview (shown own side) ≡ side.main
overview_shown own side agrees =
    let main : Overview = side.main in
    let shows : Overview = overview (shown own side) in
    ap (λ (n : ℕ). record shows { old = n }) (sym agrees.old)
    ∙ ap (λ (ws : List ℕ). record shows { old = main.old; words = ws }) (sym agrees.words)

module _ (own : Own) (side : Side) (seat : Seat) (shows : shown own side ≡ seat) (agrees : Agrees own side.main) where
  pub overview_is : overview seat ≡ side.main
  overview_is = ap overview (sym shows) ∙ overview_shown own side agrees

  -- what the seat shows after a step, by what the step does to the shared table's main seat
  pub step_shown : (now : Side) (words : List ℕ) (f : Overview → Overview) → now ≡ record side { main = f side.main }
      → shown (record own { words = words }) now ≡ knowing seat words (f (overview seat))
  step_shown now words f is =
      ap (λ (one : Side). shown (record own { words = words }) one) is
      ∙ ap (λ (s : Seat). knowing s words (f side.main)) shows
      ∙ ap (λ (main : Overview). knowing seat words (f main)) (sym overview_is)

-- what a seat with a shared table knows is what the main seat of that table knows
pub side_overview : (inside : Inside) (seat : Seat) (side : Side) → seat_of inside ≡ seat → inside.shared ≡ Some side
    → IsSeated inside → overview seat ≡ side.main
side_overview inside seat side view is seated =
    overview_is inside.own side seat
    (sym (ap (λ (one : Option Side). seat_of (record inside { shared = one })) is) ∙ view)
    (agreed inside side is seated)
