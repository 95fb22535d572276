-- A load tells nothing, and keeps the rule.
use Rattle.std.proofs.Common.{◌≡◌, ap, subst, sym, rules}
use Rattle.shared_table.specs.Seats.{Helping}
use Rattle.shared_table.specs.HelperTold.{HasPlace}
use Rattle.shared_table.proofs.HelperEvents.{look_may}
use Rattle.shared_table.proofs.Helping.{in_table}
use Rattle.shared_table.proofs.helper.HelperSeat.look.Goals as goal

pub load-requires : goal.load-requires
load-requires c =
    let s = c.self.inside in
    let inv = c.self.invariant in
    let own : s.seat.table_id ≡ c.args.table.now.table.shared.table_id = search rules in (
      own,
      in_table s c.args.table.now.table.shared.table_id c.args.place inv own
          (subst (λ (v : Helping). HasPlace v.lent.counts c.args.place) (sym c.self.view_is) c.requires.within),
      look_may _ s.seat.id _ c.args.place s.seat.me (ap (λ e. e.1) inv.me),
    )
