-- The step is an event.
use Rattle.std.proofs.Common.{◌≡◌, ◌<◌, ◌∙◌, ◌+◌, ◌-◌, ℕ, Contains, length, sym, ap, subst, arith, rules}
use Rattle.mark_world.specs.declared.event.Event.TheVariants as event
use Rattle.shared_table.specs.declared.phase.Phase.TheVariants.{Mark}
use Rattle.shared_table.specs.declared.overview.Overview.{Overview}
use Rattle.shared_table.specs.Changes.{MayDo}
use Rattle.shared_table.specs.Seats.{Side}
use Rattle.shared_table.specs.Worlds.{overview_of}
use Rattle.shared_table.proofs.ColourNumbers.{black_is}
use Rattle.shared_table.proofs.ColourSteps.{shade_may}
use Rattle.shared_table.proofs.main_side.MainSide.shade_white.Goals as goal

pub compare_exchange-found-requires : goal.compare_exchange-found-requires
compare_exchange-found-requires c =
    let s = c.self.inside in
    let inv = c.self.invariant in
    let inside : c.args.a < s.counts.old =
    omega (arith, ap (λ (v : Side). v.main.old) c.self.view_is, inv.old, c.requires.within) in
    let marks : (overview_of s.seat.me.0).phase ≡ Mark =
    ap (λ (v : Side). v.main.phase) c.self.view_is ∙ c.requires.mark in
    let may : MayDo (overview_of s.seat.me.0) (event.ShadeMain c.args.a) =
    subst (λ (v : Side). MayDo v.main (event.ShadeMain c.args.a)) (sym c.self.view_is) c.requires.may in (
      search rules,
      omega (arith, inside, ap (λ t. t.table.shared.table_id.words) c.deref.ensures, inv.counted),
      shade_may _ s.counts _ _ c.args.a _ s.seat.me (overview_of s.seat.me.0) (search rules) inv.id inv.me marks inv.old
          inv.layouts c.colour_place-place.ensures inside may,
    )

pub returns-clause-mine : goal.returns-clause-mine
returns-clause-mine c =
    let s = c.self.inside in
    let inv = c.self.invariant in
    let main : Overview = overview_of s.seat.me.0 in
    let cell : c.colour_place-place.result - (main.old + length main.layouts) ≡ c.args.a =
    omega (arith, c.colour_place-place.ensures, inv.old, inv.layouts) in
    λ own. black_is c.of.result (c.of.ensures
    ∙ c.compare_exchange-found.ensures.2.1.mark.mine (subst (λ (i : ℕ). Contains main.view.mine i) (sym cell)
    (subst (λ (v : Side). Contains v.main.view.mine c.args.a) (sym c.self.view_is) own)))
