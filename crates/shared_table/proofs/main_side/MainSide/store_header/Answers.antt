-- The word may be put, in an open cycle too.
use Rattle.std.proofs.Common.{◌≡◌, ◌<◌, ◌⊎◌, refl, sym, ap, subst, arith, rules}
use Rattle.mark_world.specs.declared.event.Event.TheVariants as event
use Rattle.shared_table.specs.declared.overview.Overview.{Overview}
use Rattle.shared_table.specs.declared.phase.Phase.TheVariants.{Mark}
use Rattle.shared_table.specs.Changes.{MayDo}
use Rattle.shared_table.specs.Seats.{Side}
use Rattle.shared_table.specs.Worlds.{overview_of}
use Rattle.shared_table.proofs.StoreSteps.{word_may}
use Rattle.shared_table.proofs.main_side.MainSide.store_header.Goals as goal

pub store-requires : goal.store-requires
store-requires c =
    let s = c.self.inside in
    let inv = c.self.invariant in
    let inside : c.args.a < s.counts.old =
    omega (arith, ap (λ (v : Side). v.main.old) c.self.view_is, inv.old, c.requires.within) in
    let main : Overview = overview_of s.seat.me.0 in
    let may = subst (λ (v : Side). v.main.phase ≡ Mark → MayDo v.main (event.StoreHeader c.args.a c.args.word)
    ⊎ MayDo v.main (event.StoreOwned c.args.a c.args.word)) (sym c.self.view_is) c.requires.may in (
      search rules,
      omega (arith, inside, ap (λ t. t.table.shared.table_id.words) c.deref.ensures, inv.counted),
      word_may _ s.counts _ _ c.args.word s.seat.me main (search rules) inv.id inv.me c.args.a inside main.phase refl
          may,
    )
