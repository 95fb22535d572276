-- The rule says it.
use Rattle.std.proofs.Common.{◌≡◌, ◌∙◌, ap, subst, arith, rules}
use Rattle.mark_world.specs.Soundness.{AreIn}
use Rattle.shared_table.specs.declared.phase.Phase.TheVariants.{Mark}
use Rattle.shared_table.specs.Seats.{Side}
use Rattle.shared_table.specs.Worlds.{overview_of}
use Rattle.shared_table.proofs.Loads.{sound_may}
use Rattle.shared_table.proofs.main_side.MainSide.sound.Goals as goal

pub load-requires : goal.load-requires
load-requires c =
    let s = c.self.inside in
    let inv = c.self.invariant in
    let marks : (overview_of s.seat.me.0).phase ≡ Mark =
    ap (λ (v : Side). v.main.phase) c.self.view_is ∙ c.requires.mark in (
      search rules,
      omega (arith, ap (λ t. t.table.shared.table_id.words) c.deref.ensures, inv.counted),
      sound_may _ s.counts _ _ s.seat.me (overview_of s.seat.me.0) (search rules) inv.id inv.me 0 marks,
    )

pub returns-clause-grey : goal.returns-clause-grey
returns-clause-grey c =
    subst (λ (v : Side). AreIn v.main.view.born v.main.view.grey) c.self.view_is c.load.ensures.2.2
