-- A run of turns leaves a marker's list its room.
use Rattle.std.proofs.Common.{◌≡◌, ◌∙◌, ℕ, Option, Some, None, IfSome, ap, sym, subst}
use Rattle.atomic_table.specs.Seated.{TableId}
use Rattle.marker.specs.declared.marking.Outcome.{Outcome}
use Rattle.marker.specs.Markers.{HasMarked, Marking}
use Rattle.shared_table.specs.Seats.{Helping}
use Rattle.table_tests.specs.Grids.{IsSeatedAt}

-- a run of turns leaves the list its room
bound_stays : (before after : Marking) (turns : ℕ) (outcome : Option Outcome) → HasMarked before after turns outcome
    → after.listing.bound ≡ before.listing.bound
bound_stays before after turns None marked = ap (λ (m : Marking). m.listing.bound) marked.1
bound_stays before after turns (Some outcome) marked = marked.bound

-- and so do a seat that is attached before, and one that is detached after it
pub room_stays : (before ready after free : Marking) (seat : Helping) (turns : ℕ) (outcome : Option Outcome)
    → ready ≡ record before { seat = Some seat } → HasMarked ready after turns outcome
    → free ≡ record after { seat = None } → free.listing.bound ≡ before.listing.bound
room_stays before ready after free seat turns outcome attached marked detached =
    ap (λ (m : Marking). m.listing.bound) detached
    ∙ bound_stays ready after turns outcome marked
    ∙ ap (λ (m : Marking). m.listing.bound) attached

-- a run of turns leaves a marker's seat at its table
pub seated_stays : (table : TableId) (bound : ℕ) (before after : Marking) (turns : ℕ) (outcome : Option Outcome)
    → HasMarked before after turns outcome → IsSeatedAt table bound before → IsSeatedAt table bound after
seated_stays table bound before after turns None marked seated = subst (IsSeatedAt table bound) (sym marked.1) seated
seated_stays table bound before after turns (Some outcome) marked seated =
    let at : marked.seat.table ≡ table =
    subst (λ (o : Option Helping). IfSome o (λ seat. seat.table ≡ table)) marked.had seated.seat in
    record {
      seat = subst (λ (o : Option Helping). IfSome o (λ seat. seat.table ≡ table)) (sym marked.has)
          (marked.stays.table ∙ at);
      room = marked.bound ∙ seated.room;
    }
