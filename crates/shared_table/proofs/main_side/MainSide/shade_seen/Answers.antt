-- The load is an event where it finds a cell that is not white.
use Rattle.std.proofs.Common.{◌≡◌, ◌<◌, ◌∙◌, ◌+◌, ◌-◌, ℕ, Contains, Option, IfSome, length, sym, ap, subst, arith}
use Rattle.std.proofs.Common.{rules}
use Rattle.mark_world.specs.declared.event.Event.TheVariants as event
use Rattle.shared_table.specs.declared.phase.Phase.TheVariants.{Mark}
use Rattle.shared_table.specs.declared.overview.Overview.{Overview}
use Rattle.shared_table.specs.declared.colour.Colour.{Colour}
use Rattle.shared_table.specs.declared.colour.Colour.TheVariants.{Black}
use Rattle.shared_table.specs.Changes.{MayDo}
use Rattle.shared_table.specs.Seats.{Side}
use Rattle.shared_table.specs.Worlds.{overview_of}
use Rattle.shared_table.proofs.ColourNumbers.{black_is}
use Rattle.shared_table.proofs.ColourSteps.{shade_left_may}
use Rattle.shared_table.proofs.main_side.MainSide.shade_seen.Goals as goal
use Rattle.shared_table.proofs.main_side.MainSide.shade_seen.Goals.{then-found-eq0, else-found-eq0}

pub load-found-requires : goal.load-found-requires
load-found-requires c =
    let s = c.self.inside in
    let inv = c.self.invariant in
    let inside : c.args.a < s.counts.old =
    omega (arith, ap (λ (v : Side). v.main.old) c.self.view_is, inv.old, c.requires.within) in
    let marks : (overview_of s.seat.me.0).phase ≡ Mark =
    ap (λ (v : Side). v.main.phase) c.self.view_is ∙ c.requires.mark in
    let may : MayDo (overview_of s.seat.me.0) (event.ShadeMain c.args.a) =
    subst (λ (v : Side). MayDo v.main (event.ShadeMain c.args.a)) (sym c.self.view_is) c.requires.may in (
      search rules,
      omega (arith, inside, ap (λ t. t.table.shared.table_id.words) c.deref.ensures, inv.counted),
      shade_left_may _ s.counts _ _ c.args.a _ s.seat.me (overview_of s.seat.me.0)
          (search rules) inv.id inv.me marks inv.old
          inv.layouts c.colour_place-place.ensures inside may,
    )

pub returns-clause-mine : goal.returns-clause-mine
returns-clause-mine c =
    let s = c.self.inside in
    let inv = c.self.invariant in
    let main : Overview = overview_of s.seat.me.0 in
    let cell : c.colour_place-place.result - (main.old + length main.layouts) ≡ c.args.a =
    omega (arith, c.colour_place-place.ensures, inv.old, inv.layouts) in
    let Says : Option Colour → Type 0 = λ found. IfSome found (λ colour.
    Contains c.args.self.now.main.view.mine c.args.a → colour ≡ Black) in
    elim c.if-found-eq0.branch [
      | then-found-eq0 w ↦ subst Says (sym w.result-is) tt
      | else-found-eq0 w ↦ subst Says (sym w.result-is) (λ own. black_is w.of.result (w.of.ensures
          ∙ (c.load-found.ensures.2.0 (search rules)).1.mark.mine
          (subst (λ (i : ℕ). Contains main.view.mine i) (sym cell)
          (subst (λ (v : Side). Contains v.main.view.mine c.args.a) (sym c.self.view_is) own))))
    ]
