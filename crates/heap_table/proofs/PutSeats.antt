-- A seat that puts a word agrees with its shared table afterwards.
use Rattle.std.proofs.Common.{◌≡◌, ℕ, ◌+◌, ◌<◌, ◌≤◌, Option, Some, None, IfSome, IsTrue, refl, sym, subst, ◌∙◌}
use Rattle.std.specs.Prelude.{is_some}
use Rattle.page_space.specs.Extents.{eden_start, layouts_start}
use Rattle.mark_laws.specs.Types.{MainView, Spot}
use Rattle.shared_table.specs.Seats.{Side}
use Rattle.shared_table.specs.Spots.{with_spot}
use Rattle.heap_table.specs.declared.main_seat.MainSeat.TheInside.{Inside}
use Rattle.shared_table.specs.Owned.{Own}
use Rattle.heap_table.specs.Seats.{Seat}
use Rattle.heap_table.specs.Seated.{IsSeated, besides, seat_of}
use Rattle.heap_table.specs.Sharing.{Agrees}
use Rattle.heap_table.proofs.Agreeing.{own_with, page_agrees, layout_agrees}

-- where there is a shared table, it agrees
pub agreed : (seat : Inside) (side : Side) → seat.shared ≡ Some side → IsSeated seat → Agrees seat.own side.main
agreed seat side is seated = subst (λ shared. IfSome shared (λ one. Agrees seat.own one.main)) is seated.agrees

-- a word of a page was put in the shared table too
pub both_agree : (own now : Own) (side new : Side) (a word : ℕ) → Agrees own side.main → now ≡ own_with own a word
    → new ≡ record side { main = with_spot side.main (Spot.Heap a) word } → a < eden_start own.space
    → Agrees now new.main
both_agree own now side new a word agrees put shared below =
    subst (λ (one : Own). Agrees one new.main) (sym put)
    (subst (λ (one : Side). Agrees (own_with own a word) one.main) (sym shared)
    (page_agrees own side.main agrees word a below))

-- a word of a page was stored by a step of marking
pub stored_agree : (own now : Own) (side new : Side) (a word : ℕ) (view : MainView) → Agrees own side.main
    → now ≡ own_with own a word
    → new ≡ record side { main = record (with_spot side.main (Spot.Heap a) word) { view = view } }
    → a < eden_start own.space → Agrees now new.main
stored_agree own now side new a word view agrees put stored below =
    let both = page_agrees own side.main agrees word a below in
    subst (λ (one : Own). Agrees one new.main) (sym put)
    (subst (λ (one : Side). Agrees (own_with own a word) one.main) (sym stored)
    (record { old = both.old; words = both.words; layouts = both.layouts }))

-- a layout word was put, or added by a step of marking
pub added_agree : (own now : Own) (side new : Side) (shape word : ℕ) (view : MainView) → Agrees own side.main
    → now ≡ own_with own (layouts_start own.space + shape) word
    → new ≡ record side { main = record (with_spot side.main (Spot.Layout shape) word) { view = view } }
    → Agrees now new.main
added_agree own now side new shape word view agrees put added =
    let both = layout_agrees own side.main agrees word shape in
    subst (λ (one : Own). Agrees one new.main) (sym put)
    (subst (λ (one : Side). Agrees (own_with own (layouts_start own.space + shape) word) one.main) (sym added)
    (record { old = both.old; words = both.words; layouts = both.layouts }))

-- there is a shared table where something is known of it
besides_some : (shared : Option Side) → is_some (besides shared) ≡ is_some shared
besides_some (Some side) = refl
besides_some None = refl

-- a word that is put among the own ones alone is behind the pages where there is a shared table
pub behind_pages : (inside : Inside) (seat : Seat) (a : ℕ) → seat_of inside ≡ seat
    → (IsTrue (is_some seat.shared) → eden_start seat.space ≤ a)
    → IsTrue (is_some inside.shared) → eden_start inside.own.space ≤ a
behind_pages inside seat a view behind some =
    subst (λ (one : Seat). IsTrue (is_some one.shared) → eden_start one.space ≤ a) (sym view) behind
    (besides_some inside.shared ∙ some)
