-- The step is an event.
use Rattle.std.proofs.Common.{◌≡◌, ◌<◌, ◌^◌, ◌∙◌, sym, ap, subst, arith, rules}
use Rattle.mark_world.specs.declared.event.Event.TheVariants as event
use Rattle.page_space.specs.Extents.{board_words}
use Rattle.shared_table.specs.declared.phase.Phase.TheVariants.{Mark}
use Rattle.shared_table.specs.Changes.{MayDo}
use Rattle.shared_table.specs.Seats.{Side}
use Rattle.shared_table.specs.Worlds.{overview_of}
use Rattle.shared_table.proofs.ColourSteps.{give_may}
use Rattle.shared_table.proofs.main_side.MainSide.give_board.Goals as goal

pub compare_exchange-requires : goal.compare_exchange-requires
compare_exchange-requires c =
    let s = c.self.inside in
    let inv = c.self.invariant in
    let marks : (overview_of s.seat.me.0).phase ≡ Mark =
    ap (λ (v : Side). v.main.phase) c.self.view_is ∙ c.requires.mark in
    let may : MayDo (overview_of s.seat.me.0) (event.GiveMain c.args.place c.args.at) =
    subst (λ (v : Side). MayDo v.main (event.GiveMain c.args.place c.args.at)) (sym c.self.view_is) c.requires.may in
    let inside : c.args.place < board_words = may.on_board in
    let fits : c.args.at < 2 ^ 32 = omega arith in (
      search rules,
      omega (arith, inside, ap (λ t. t.table.shared.table_id.words) c.deref.ensures, inv.counted),
      give_may _ s.counts _ _ c.args.place _ s.seat.me (overview_of s.seat.me.0) (search rules) inv.id inv.me marks
          inv.old
          inv.layouts c.args.at c.reference.result.0 c.board_place-place.ensures fits c.reference.ensures may,
    )
