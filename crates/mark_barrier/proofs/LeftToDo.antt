-- White and listed cells are together no more than before.
use Rattle.std.proofs.Common.{◌≡◌, ◌≢◌, ◌≤◌, ◌<◌, ◌+◌, ℕ, true, List, length, slice_index, slice_set, sym, subst, ◌∙◌}
use Rattle.std.proofs.Common.{arith}
use Rattle.mark_barrier.specs.Waiting.{Waiting, count_on}
use Rattle.mark_laws.proofs.Coverage.{shaded_not_white}
use Rattle.mark_world.specs.declared.event.Event.TheVariants as event
use Rattle.mark_world.specs.Steps.{black, shaded, white}
use Rattle.shared_table.specs.declared.colour.Colour.{Colour}
use Rattle.shared_table.specs.Colours.{number_of}
use Rattle.heap_table.specs.Overviews.{overview, stepped}
use Rattle.heap_table.specs.Seats.{Seat}
use Rattle.mark_barrier.specs.Paid.{AreNoMore}
use Rattle.mark_barrier.proofs.Darker.{whites, whites_fewer, whites_no_more, whites_same}

-- after changes that each make no more there are no more
pub no_more_on : (first second third : Seat) (one two three : Waiting)
    → (overview second).home ≡ (overview first).home → AreNoMore first one second two → AreNoMore second two third three
    → AreNoMore first one third three
no_more_on first second third one two three same a b home =
    let x = a home in
    let y = b (same ∙ home) in
    omega (arith, x, y)

module _ (seat : Seat) (grey : Waiting) (at found : ℕ) (within : at < length (overview seat).colours)
    (is : (overview seat).home ≡ true → found ≡ slice_index (overview seat).colours at) where
  abbrev colours : List ℕ
  colours = (overview seat).colours

  -- a cell that was found white is so no more, and is listed
  pub white_no_more : (now : Waiting) → found ≡ white → count_on now ≤ count_on grey + 1
      → AreNoMore seat grey (stepped seat (event.ShadeMain at) found) now
  white_no_more now is_white few home =
      let fewer = whites_fewer colours at within (sym (is home) ∙ is_white) in
      let count : whites (slice_set colours at (shaded found)) + 1 ≡ whites colours =
      subst (λ (c : ℕ). whites (slice_set colours at (shaded c)) + 1 ≡ whites colours) (sym (is home)) fewer in
      omega (arith, few, count)

  -- one that was found grey or black leaves all as it was
  pub other_no_more : found ≢ white → AreNoMore seat grey (stepped seat (event.ShadeMain at) found) grey
  other_no_more other home =
      let count = whites_same colours at (shaded found) within (λ e. other (is home ∙ e)) (shaded_not_white found) in
      omega (arith, count)

-- a cell that is made black is not white then
pub black_no_more : (seat : Seat) (grey : Waiting) (at : ℕ) (colour : Colour) → at < length (overview seat).colours
    → AreNoMore seat grey (stepped seat (event.Blacken at) (number_of colour)) grey
black_no_more seat grey at colour within home =
    let count = whites_no_more (overview seat).colours at black within (λ e. absurd (omega (arith, e))) in
    omega (arith, count)
