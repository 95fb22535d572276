-- The rule says it.
use Rattle.std.proofs.Common.{◌≡◌, ◌∙◌, true, ap, arith, rules}
use Rattle.shared_table.specs.declared.phase.Phase.TheVariants.{Mark}
use Rattle.shared_table.specs.Seats.{Side}
use Rattle.shared_table.specs.Worlds.{overview_of}
use Rattle.shared_table.proofs.Loads.{whole_may}
use Rattle.shared_table.proofs.main_side.MainSide.whole.Goals as goal

pub load-requires : goal.load-requires
load-requires c =
    let s = c.self.inside in
    let inv = c.self.invariant in
    let marks : (overview_of s.seat.me.0).phase ≡ Mark =
    ap (λ (v : Side). v.main.phase) c.self.view_is ∙ c.requires.mark in
    let home : (overview_of s.seat.me.0).home ≡ true =
    ap (λ (v : Side). v.main.home) c.self.view_is ∙ c.requires.home in (
      search rules,
      omega (arith, ap (λ t. t.table.shared.table_id.words) c.deref.ensures, inv.counted),
      whole_may _ s.counts _ _ s.seat.me (overview_of s.seat.me.0) (search rules) inv.id inv.me 0 marks home,
    )
