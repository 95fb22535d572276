-- A return keeps the rule, and so does what is known again after the last one.
use Rattle.std.proofs.Common.{◌≡◌, ◌∙◌, [], ap, arith, rules}
use Rattle.shared_table.specs.declared.overview.Overview.{Overview}
use Rattle.shared_table.specs.declared.overview.View.TheVariants.{Main}
use Rattle.shared_table.specs.declared.phase.Phase.TheVariants.{Mark}
use Rattle.shared_table.specs.Changes.{taking}
use Rattle.shared_table.specs.Seats.{Side}
use Rattle.shared_table.specs.Worlds.{overview_of, lent_of}
use Rattle.shared_table.proofs.LentSeats.{take_may}
use Rattle.shared_table.proofs.Loads.{home_may}
use Rattle.shared_table.proofs.main_side.MainSide.take_back.Goals as goal

pub join_seat-requires : goal.join_seat-requires
join_seat-requires c =
    let s = c.self.inside in
    let inv = c.self.invariant in
    let marks : (overview_of s.seat.me.0).phase ≡ Mark =
    ap (λ (v : Side). v.main.phase) c.self.view_is ∙ c.requires.mark in (
      search rules,
      search rules,
      ap (λ e. e.1) c.helper.invariant.me,
      omega (arith, ap (λ t. t.table.shared.table_id.words) c.deref.ensures, inv.counted),
      take_may _ s.counts _ c.helper.inside.seat.id s.seat.me c.helper.inside.seat.me (overview_of s.seat.me.0)
          (lent_of c.helper.inside.seat.me.0) (search rules) inv.id inv.me c.helper.invariant.me marks,
    )

pub load-requires : goal.load-requires
load-requires c =
    let s = c.self.inside in
    let inv = c.self.invariant in
    let q : Overview = taking (overview_of s.seat.me.0) (lent_of c.helper.inside.seat.me.0).view in
    let me : c.join_seat.new.seat.me ≡ (Main q, []) =
    c.join_seat.ensures.2 ∙ ap (λ l. (Main q, l)) (ap (λ e. e.1) inv.me) in (
      search rules,
      omega (arith, ap (λ t. t.table.shared.table_id.words) c.deref-then-self-eq0.ensures, inv.counted),
      home_may _ s.counts _ _ c.join_seat.new.seat.me q (search rules) (c.join_seat.ensures.1 ∙ inv.id) me 0
          (omega (arith, inv.out)),
    )
