-- A colour is one of three.
use Rattle.std.proofs.Common.{◌<◌, ap, arith, rules}
use Rattle.shared_table.specs.Seats.{Side}
use Rattle.shared_table.specs.Worlds.{overview_of}
use Rattle.shared_table.proofs.Loads.{colour_may}
use Rattle.shared_table.proofs.main_side.MainSide.colour.Goals as goal

pub load-found-requires : goal.load-found-requires
load-found-requires c =
    let s = c.self.inside in
    let inv = c.self.invariant in
    let inside : c.args.a < s.counts.old =
    omega (arith, ap (λ (v : Side). v.main.old) c.self.view_is, inv.old, c.requires.within) in (
      search rules,
      omega (arith, inside, ap (λ t. t.table.shared.table_id.words) c.deref.ensures, inv.counted),
      colour_may _ s.counts _ _ s.seat.me (overview_of s.seat.me.0) (search rules) inv.id inv.me c.args.a _
          c.colour_place-place.ensures inside inv.old inv.layouts,
    )
