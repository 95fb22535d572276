-- The load is an event where it finds a cell that is black.
use Rattle.std.proofs.Common.{◌≡◌, ◌<◌, ◌∙◌, sym, ap, subst, arith, rules}
use Rattle.mark_world.specs.declared.event.Event.TheVariants as event
use Rattle.shared_table.specs.declared.phase.Phase.TheVariants.{Mark}
use Rattle.shared_table.specs.Changes.{MayDo}
use Rattle.shared_table.specs.Seats.{Side}
use Rattle.shared_table.specs.Worlds.{overview_of}
use Rattle.shared_table.proofs.ColourSteps.{blacken_left_may}
use Rattle.shared_table.proofs.main_side.MainSide.blacken_seen.Goals as goal

pub load-found-requires : goal.load-found-requires
load-found-requires c =
    let s = c.self.inside in
    let inv = c.self.invariant in
    let inside : c.args.a < s.counts.old =
    omega (arith, ap (λ (v : Side). v.main.old) c.self.view_is, inv.old, c.requires.within) in
    let marks : (overview_of s.seat.me.0).phase ≡ Mark =
    ap (λ (v : Side). v.main.phase) c.self.view_is ∙ c.requires.mark in
    let may : MayDo (overview_of s.seat.me.0) (event.Blacken c.args.a) =
    subst (λ (v : Side). MayDo v.main (event.Blacken c.args.a)) (sym c.self.view_is) c.requires.may in (
      search rules,
      omega (arith, inside, ap (λ t. t.table.shared.table_id.words) c.deref.ensures, inv.counted),
      blacken_left_may _ s.counts _ _ c.args.a _ s.seat.me (overview_of s.seat.me.0)
          (search rules) inv.id inv.me marks inv.old
          inv.layouts c.colour_place-place.ensures inside may,
    )
