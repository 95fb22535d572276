-- The step is an event.
use Rattle.std.proofs.Common.{◌≡◌, ◌<◌, ◌∙◌, ◌+◌, ◌-◌, ℕ, length, sym, ap, subst, arith, rules}
use Rattle.shared_table.specs.Owned.{Own}
use Rattle.atomic_table.specs.Table.{Me}
use Rattle.atomic_table.specs.Seated.{TableId}
use Rattle.mark_world.specs.declared.event.Event.TheVariants as event
use Rattle.shared_table.specs.declared.phase.Phase.TheVariants.{Mark}
use Rattle.shared_table.specs.declared.overview.Overview.{Overview}
use Rattle.shared_table.specs.declared.overview.View.{View}
use Rattle.shared_table.specs.Changes.{MayDo, told}
use Rattle.shared_table.specs.Colours.{number_of}
use Rattle.shared_table.specs.Seats.{Side}
use Rattle.shared_table.specs.Worlds.{overview_of}
use Rattle.shared_table.proofs.ColourSteps.{blacken_may}
use Rattle.shared_table.proofs.main_side.MainSide.blacken_unseen.Goals as goal

pub swap-found-requires : goal.swap-found-requires
swap-found-requires c =
    let s = c.self.inside in
    let inv = c.self.invariant in
    let inside : c.args.a < s.counts.old =
    omega (arith, ap (λ (v : Side). v.main.old) c.self.view_is, inv.old, c.requires.within) in
    let marks : (overview_of s.seat.me.0).phase ≡ Mark =
    ap (λ (v : Side). v.main.phase) c.self.view_is ∙ c.requires.mark in
    let may : MayDo (overview_of s.seat.me.0) (event.Blacken c.args.a) =
    subst (λ (v : Side). MayDo v.main (event.Blacken c.args.a)) (sym c.self.view_is) c.requires.may in (
      search rules,
      omega (arith, inside, ap (λ t. t.table.shared.table_id.words) c.deref.ensures, inv.counted),
      blacken_may _ s.counts _ _ c.args.a _ s.seat.me (overview_of s.seat.me.0) (search rules) inv.id inv.me marks
          inv.old
          inv.layouts c.colour_place-place.ensures inside may,
    )

pub returns-clause-blackened : goal.returns-clause-blackened
returns-clause-blackened c =
    let s = c.self.inside in
    let inv = c.self.invariant in
    let main : Overview = overview_of s.seat.me.0 in
    let now : Me Own View = c.swap-found.new.seat.me in
    let n : ℕ = c.swap-found.result in
    let cell : c.colour_place-place.result - (main.old + length main.layouts) ≡ c.args.a =
    omega (arith, c.colour_place-place.ensures, inv.old, inv.layouts) in
    let side : TableId → Overview → Side = λ table one. record { table = table; main = one } in
    ap (λ (table : TableId). side table (overview_of now.0)) c.swap-found.ensures.0
    ∙ ap (λ (me : Me Own View). side s.seat.table_id (overview_of me.0)) c.swap-found.ensures.2.0
    ∙ ap (λ (i : ℕ). side s.seat.table_id (told main (event.Blacken i) n)) cell
    ∙ ap (λ (k : ℕ). side s.seat.table_id (told main (event.Blacken c.args.a) k)) (sym c.of.ensures)
    ∙ ap (λ (v : Side). record v { main = told v.main (event.Blacken c.args.a) (number_of c.of.result) }) c.self.view_is
