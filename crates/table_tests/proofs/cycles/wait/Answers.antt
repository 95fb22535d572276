-- The cycle goes on as it was, so its world is whole.
use Rattle.std.proofs.Common.{ℕ, List, [], Contains, inl, refl, sym, subst, arith}
use Rattle.mark_laws.specs.Restarts.{HasJoined}
use Rattle.mark_laws.specs.Runs.{IsSoundAndBorn}
use Rattle.mark_world.specs.Cycles.{Cycle, cycle_of}
use Rattle.shared_table.specs.Changes.{IsContinued, resumed}
use Rattle.shared_table.specs.declared.overview.Overview.{Overview}
use Rattle.shared_table.specs.Seats.{Side}
use Rattle.shared_table.specs.Worlds.{world_at_home}
use Rattle.table_tests.proofs.cycles.wait.Goals as goal

-- nothing is in the empty list
none_in : (at : ℕ) → Contains [] at → ⊥
none_in at has = omega (arith, has.1)

-- a list has stayed
has_stayed : (list : List ℕ) → HasJoined list [] list
has_stayed list =
    record { kept = λ at has. has; new = λ at none. absurd (none_in at none); from = λ at has. inl has }

-- no cell was promoted
goes_on : (main : Overview) → IsContinued main (cycle_of main.view main.reached main.made main.dead)
goes_on main = record {
  promoted = [];
  unpublished = λ at none has. none_in at none;
  starts = has_stayed main.view.starts;
  born = has_stayed main.view.born;
  mine = has_stayed main.view.mine;
  sure = has_stayed main.view.sure;
  reached = refl;
  made = refl;
  dead = refl;
}

pub resume_cycle-requires-clause-chosen : goal.resume_cycle-requires-clause-chosen
resume_cycle-requires-clause-chosen c =
    let same : Side → Cycle = λ side. cycle_of side.main.view side.main.reached side.main.made side.main.dead in (
      same c.pause_cycle.new.self,
      refl,
      goes_on c.pause_cycle.new.self.main,
      subst (λ (side : Side). IsSoundAndBorn (world_at_home (resumed side.main (same side))))
          (sym c.pause_cycle.ensures.paused) c.pause_cycle.ensures.whole,
    )
