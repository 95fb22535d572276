-- A lend keeps the rule.
use Rattle.std.proofs.Common.{◌≡◌, ◌<◌, ◌∙◌, ap, arith, rules}
use Rattle.page_space.specs.Sizes.{helpers_most}
use Rattle.shared_table.specs.declared.phase.Phase.TheVariants.{Mark}
use Rattle.shared_table.specs.Seats.{Side}
use Rattle.shared_table.specs.Worlds.{overview_of}
use Rattle.shared_table.proofs.LentSeats.{lend_may}
use Rattle.shared_table.proofs.main_side.MainSide.lend.Goals as goal

pub split_seat-seat-requires : goal.split_seat-seat-requires
split_seat-seat-requires c =
    let s = c.self.inside in
    let inv = c.self.invariant in
    let marks : (overview_of s.seat.me.0).phase ≡ Mark =
    ap (λ (v : Side). v.main.phase) (c.self.view_is ∙ c.sound.ensures.same) ∙ c.requires.mark in
    let few : (overview_of s.seat.me.0).out < helpers_most =
    omega (arith, ap (λ (v : Side). v.main.out) (c.self.view_is ∙ c.sound.ensures.same), c.requires.few) in (
      search rules,
      omega (arith, ap (λ t. t.table.shared.table_id.words) c.deref.ensures, inv.counted),
      lend_may _ s.counts _ s.seat.me (overview_of s.seat.me.0) (search rules) inv.id inv.me marks few,
    )
