-- The cycle that is chosen meets the rule.
use Rattle.std.proofs.Common.{◌≡◌, ◌∙◌, true, sym, ap, subst, arith, rules}
use Rattle.mark_laws.specs.Runs.{IsSoundAndBorn}
use Rattle.shared_table.specs.Changes.{IsContinued, resumed}
use Rattle.shared_table.specs.Seats.{Side}
use Rattle.shared_table.specs.Worlds.{overview_of, world_at_home}
use Rattle.shared_table.proofs.Beginnings.{resume_may}
use Rattle.shared_table.proofs.main_side.MainSide.resume_cycle.Goals as goal

pub compare_exchange_with-requires : goal.compare_exchange_with-requires
compare_exchange_with-requires g c =
    let s = c.self.inside in
    let inv = c.self.invariant in
    let chosen = c.requires.chosen in
    let home : (overview_of s.seat.me.0).home ≡ true =
    ap (λ (v : Side). v.main.home) c.self.view_is ∙ c.requires.home in (
      search rules,
      omega (arith, ap (λ t. t.table.shared.table_id.words) c.deref.ensures, inv.counted),
      resume_may _ s.counts _ _ c.args.made s.seat.me (overview_of s.seat.me.0) c.args.own.now g.M.Choice.fits
          (search rules) inv.id inv.me home (
            chosen.0,
            subst (λ (v : Side). g.M.Choice.fits c.args.own.now c.args.made v.main chosen.0)
                (sym c.self.view_is) chosen.1,
            subst (λ (v : Side). IsContinued v.main chosen.0) (sym c.self.view_is) chosen.2,
            subst (λ (v : Side). IsSoundAndBorn (world_at_home (resumed v.main chosen.0)))
                (sym c.self.view_is) chosen.3,
          ),
    )
