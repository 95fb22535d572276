-- The word goes to both.
use Rattle.std.proofs.Common.{◌≡◌, ◌<◌, ◌⊎◌, IfSome, sym, subst, ap, arith}
use Rattle.page_space.specs.Extents.{eden_start}
use Rattle.mark_world.specs.declared.event.Event.TheVariants as event
use Rattle.shared_table.specs.declared.overview.Overview.{Overview}
use Rattle.shared_table.specs.declared.phase.Phase.TheVariants.{Mark}
use Rattle.shared_table.specs.Changes.{MayDo}
use Rattle.heap_table.specs.Seats.{Seat}
use Rattle.heap_table.specs.Seated.{IsSeated}
use Rattle.heap_table.specs.Sharing.{Agrees}
use Rattle.heap_table.proofs.PutSeats.{agreed, both_agree}
use Rattle.heap_table.proofs.SeatSteps.{side_overview}
use Rattle.heap_table.proofs.main_seat.MainSeat.store_header.Goals as goal
use Rattle.heap_table.proofs.main_seat.MainSeat.store_header.Goals.{in-Some, in_default}

pub share-requires-clause-within : goal.share-requires-clause-within
share-requires-clause-within c =
    omega (
      arith,
      ap (λ (seat : Seat). eden_start seat.space) c.self.view_is,
      c.requires.within,
      (agreed c.self.inside c.in-Some.side c.in-Some.is c.self.invariant).old,
    )

pub share-requires-clause-may : goal.share-requires-clause-may
share-requires-clause-may c =
    subst (λ (main : Overview). main.phase ≡ Mark → MayDo main (event.StoreHeader c.args.a c.args.word)
    ⊎ MayDo main (event.StoreOwned c.args.a c.args.word))
    (side_overview c.self.inside c.args.self.now c.in-Some.side c.self.view_is c.in-Some.is c.self.invariant)
    c.requires.may

pub invariant_of-self : goal.invariant_of-self
invariant_of-self c =
    let below : c.args.a < eden_start c.self.inside.own.space =
    omega (arith, ap (λ (seat : Seat). eden_start seat.space) c.self.view_is, c.requires.within) in
    elim c.match-self.branch [
      | in-Some w ↦ subst IsSeated (sym w.self-inside-is) (record {
        agrees = both_agree c.self.inside.own c.put_in_page.new.self w.in-Some.side w.share.new.side c.args.a
            c.args.word (agreed c.self.inside w.in-Some.side w.in-Some.is c.self.invariant) c.put_in_page.ensures
            w.share.ensures below;
      })
      | in_default w ↦ subst IsSeated (sym w.self-inside-is) (record {
        agrees = subst (λ shared. IfSome shared (λ side. Agrees c.put_in_page.new.self side.main))
            (sym w.in_default.is) tt;
      })
    ]
