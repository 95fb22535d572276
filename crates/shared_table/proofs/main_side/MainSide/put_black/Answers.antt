-- Any colour may be put.
use Rattle.std.proofs.Common.{◌≡◌, ◌<◌, ◌∙◌, ℕ, sym, ap, arith, rules}
use Rattle.mark_laws.specs.Types.{Spot}
use Rattle.shared_table.specs.declared.phase.Phase.TheVariants.{Mark, Paused}
use Rattle.shared_table.specs.Seats.{Side}
use Rattle.shared_table.specs.Told.{colour_spot}
use Rattle.shared_table.specs.Worlds.{overview_of}
use Rattle.shared_table.proofs.PutSteps.{put_may, colour_keeps_three}
use Rattle.shared_table.proofs.main_side.MainSide.put_black.Goals as goal

pub store-requires : goal.store-requires
store-requires c =
    let s = c.self.inside in
    let inv = c.self.invariant in
    let inside : c.args.a < s.counts.old =
    omega (arith, ap (λ (v : Side). v.main.old) c.self.view_is, inv.old, c.requires.within) in
    let is : (overview_of s.seat.me.0).phase ≡ Paused =
    ap (λ (v : Side). v.main.phase) c.self.view_is ∙ c.requires.paused in (
      search rules,
      omega (arith, inside, ap (λ t. t.table.shared.table_id.words) c.deref.ensures, inv.counted),
      put_may _ s.counts _ _ _ 2 s.seat.me (overview_of s.seat.me.0) (Spot.Colour c.args.a) colour_spot (search rules)
          inv.id inv.me c.colour_place-place.ensures inside (λ e. let no : Paused ≡ Mark = sym is ∙ e in cc)
          (colour_keeps_three c.args.a 2 (omega arith))
          (ap (λ (i : ℕ). Spot.Colour i) (omega (arith, inv.old, inv.layouts))),
    )
