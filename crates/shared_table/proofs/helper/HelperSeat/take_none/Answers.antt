-- The load is an event where it finds nothing.
use Rattle.std.proofs.Common.{◌≡◌, inl, inr, ◌<◌, ◌∙◌, ◌+◌, ◌-◌, ℕ, [], IfSome, refl, sym, ap, subst, arith, rules}
use Rattle.std.proofs.lemmas.Bool.{cases_eq}
use Rattle.shared_table.specs.declared.helper.HelperSeat.TheInside.{Inside}
use Rattle.mark_laws.specs.Types.{Event, Spot}
use Rattle.mark_world.specs.declared.event.Event.TheVariants as event
use Rattle.tagged_word.specs.Readings.{reference_in}
use Rattle.page_space.specs.Extents.{board_words}
use Rattle.shared_table.specs.declared.overview.Counts.{Counts}
use Rattle.shared_table.specs.declared.overview.Lent.{Lent}
use Rattle.shared_table.specs.declared.overview.View.TheVariants.{Helper}
use Rattle.shared_table.specs.HelperTold.{learned}
use Rattle.shared_table.specs.Worlds.{lent_of}
use Rattle.shared_table.proofs.HelperEvents.{IsStep}
use Rattle.shared_table.proofs.HelperSpots.{take_step}
use Rattle.shared_table.proofs.HelperSteps.{none_may}
use Rattle.shared_table.proofs.Helping.{look_keeps, step_keeps, step_place}
use Rattle.shared_table.proofs.helper.HelperSeat.take_none.Goals as goal

pub load-requires : goal.load-requires
load-requires c =
    let s = c.self.inside in
    let inv = c.self.invariant in
    let lent : Lent = lent_of s.seat.me.0 in
    let inside : c.args.place < board_words = c.requires.on_board in
    let of : ℕ → Event = λ j. event.Take j c.args.place in
    let spot : Spot = Spot.Board c.args.place in
    let is : IsStep lent.view of spot = take_step lent.view inv.out c.args.place inside in
    let own : s.seat.table_id ≡ c.args.table.now.table.shared.table_id = search rules in
    let place : c.board_place-place.result ≡ lent.counts.old + (lent.counts.shapes + (lent.counts.old + c.args.place)) =
    c.board_place-place.ensures ∙ ap (λ (x : Counts). x.old + (x.shapes + (x.old + c.args.place))) (sym inv.counts) in (
      own,
      step_place s of spot inv is c.args.table.now.table.shared.table_id c.board_place-place.result own place,
      none_may _ s.seat.id _ c.board_place-place.result s.seat.me lent inv.me inv.out c.args.place inside place,
    )

pub invariant_of-self : goal.invariant_of-self
invariant_of-self c =
    let s = c.self.inside in
    let inv = c.self.invariant in
    let lent : Lent = lent_of s.seat.me.0 in
    let inside : c.args.place < board_words = c.requires.on_board in
    let of : ℕ → Event = λ j. event.Take j c.args.place in
    let spot : Spot = Spot.Board c.args.place in
    let is : IsStep lent.view of spot = take_step lent.view inv.out c.args.place inside in
    let place : c.board_place-place.result ≡ lent.counts.old + (lent.counts.shapes + (lent.counts.old + c.args.place)) =
    c.board_place-place.ensures ∙ ap (λ (x : Counts). x.old + (x.shapes + (x.old + c.args.place))) (sym inv.counts) in
    let is_place : c.board_place-place.result - (lent.counts.old + (lent.counts.shapes + lent.counts.old)) ≡
    c.args.place =
    omega (arith, place) in
    let n : ℕ = c.load.result in
    let t : Inside = record { counts = s.counts; seat = c.load.new.seat } in
    elim (cases_eq n 0) [
      | inl nothing ↦
          let me : c.load.new.seat.me ≡ (Helper (learned lent (of 0) n), []) =
          c.load.ensures.2.0 nothing
          ∙ (ap (λ (i : ℕ). (Helper (learned lent (event.Take 0 i) n), s.seat.me.1)) is_place
          ∙ ap (λ l. (Helper (learned lent (of 0) n), l)) (ap (λ e. e.1) inv.me)) in
          step_keeps s of spot inv is t n (λ m. lent.seen) c.load.ensures.0 refl me inv.seen
          (subst (λ (m : ℕ). IfSome (reference_in m) (λ at. at < s.counts.old)) (sym nothing) tt)
      | inr other ↦ look_keeps s t inv c.load.ensures.0 refl (c.load.ensures.2.1 other)
    ]
