-- The main seat and a lent one on the page with a list and its store.
use Rattle.std.specs.Prelude.{◌≡◌, ◌≤◌, [], ◌∷◌}
use Rattle.mark_world.specs.Conditions.{MayBegin}
use Rattle.shared_table.specs.declared.overview.Overview.{Overview}
use Rattle.shared_table.specs.declared.phase.Phase.TheVariants.{Mark}
use Rattle.shared_table.specs.Seats.{Helping}

-- a cycle is open in which the list and its store are born
pub record IsOpenWithTwo (main : Overview) : Type 0 where
  pub phase : main.phase ≡ Mark
  pub page : 2048 ≤ main.old
  pub born : main.view.born ≡ 0 ∷ 3 ∷ []

-- a seat of this page that has no snap and nothing to visit
pub record IsIdle (seat : Helping) : Type 0 where
  pub page : 2048 ≤ seat.lent.counts.old
  pub may : MayBegin seat.lent.view
