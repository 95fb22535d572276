-- The store is an event.
use Rattle.std.proofs.Common.{◌≡◌, ◌+◌, ◌<◌, ◌∙◌, length, sym, ap, subst, refl, arith, rules}
use Rattle.mark_world.specs.declared.event.Event.TheVariants as event
use Rattle.shared_table.specs.declared.phase.Phase.TheVariants.{Mark}
use Rattle.shared_table.specs.Changes.{MayDo}
use Rattle.shared_table.specs.Seats.{Side}
use Rattle.shared_table.specs.Worlds.{overview_of}
use Rattle.shared_table.proofs.StoreSteps.{layout_may}
use Rattle.shared_table.proofs.main_side.MainSide.add_layout.Goals as goal

pub store-requires : goal.store-requires
store-requires c =
    let s = c.self.inside in
    let inv = c.self.invariant in
    let inside : c.args.shape < s.counts.shapes =
    omega (arith, ap (λ (v : Side). length v.main.layouts) c.self.view_is, inv.layouts, c.requires.within) in
    let marks : (overview_of s.seat.me.0).phase ≡ Mark =
    ap (λ (v : Side). v.main.phase) c.self.view_is ∙ c.requires.mark in
    let may : MayDo (overview_of s.seat.me.0) (event.AddLayout c.args.shape c.args.word) =
    subst (λ (v : Side). MayDo v.main (event.AddLayout c.args.shape c.args.word)) (sym c.self.view_is) c.requires.may
    in (
      search rules,
      omega (arith, inside, ap (λ t. t.table.shared.table_id.words) c.deref.ensures, inv.counted),
      layout_may _ s.counts _ _ c.args.word s.seat.me (overview_of s.seat.me.0) (search rules) inv.id inv.me marks
          c.args.shape (s.counts.old + c.args.shape) refl inside inv.old may,
    )
