-- What a scan makes of a seat, cell by cell.
use Rattle.std.proofs.Common.{◌≡◌, inl, inr, ℕ, IsTrue, is_some, List, [], Contains, refl, sym, ap}
use Rattle.std.proofs.Common.{subst, ◌∙◌}
use Rattle.std.proofs.lemmas.List.Elements.{All-contains_itself}
use Rattle.core_parts.specs.Lists.{joined}
use Rattle.core_parts.proofs.Joining.{joined_keeps}
use Rattle.mark_laws.specs.Growing.{Grows}
use Rattle.mark_laws.proofs.Drained.{in_none}
use Rattle.mark_laws.proofs.Growing.{grown_from_itself, grown_twice}
use Rattle.mark_laws.proofs.Joins.{all_from, targets_keep}
use Rattle.mark_world.specs.BetweenCommands.{Settled}
use Rattle.mark_world.specs.Cycles.{Cycle, with_cycle}
use Rattle.mark_world.specs.Soundness.{AreIn}
use Rattle.mark_world.specs.Steps.{free_slot_words}
use Rattle.shared_table.specs.Worlds.{no_cycle, world_at_home}
use Rattle.heap_table.specs.Overviews.{cycle_in, overview}
use Rattle.heap_table.specs.Seats.{Seat}
use Rattle.mark_barrier.specs.CycleSteps.{made_black}
use Rattle.mark_barrier.specs.Paid.{IsPaid, ListsAllBut, ListsGrey, Scans, StepsTo}
use Rattle.mark_barrier.specs.Waiting.{IsEmpty, TakesOff, Waiting}
use Rattle.mark_barrier.proofs.Listed.{others_on}
use Rattle.mark_barrier.proofs.Owing.{none_in}
use Rattle.mark_barrier.proofs.Steps.{same_steps, steps_on}

-- nothing was scanned
pub scans_none : (seat : Seat) → IsTrue (is_some seat.shared) → Scans seat seat
scans_none seat shared = record {
  steps = same_steps seat shared;
  cycle = refl;
  grows = grown_from_itself (overview seat).view;
  settled = λ settled. settled;
}

module _ (first second third : Seat) (old at : ℕ) (words layouts : List ℕ) (before : Scans first second)
    (then : StepsTo second third second.table (made_black old words layouts (cycle_in second) at))
    (settles : Settled (world_at_home (overview second)) → Settled (world_at_home (overview third))) where
  abbrev after : Cycle
  after = made_black old words layouts (cycle_in second) at

  -- the cycle has new cells that the mutator made black, and new ones that it is sure of
  scanned_cycle : cycle_in third
      ≡ record (cycle_in first) { mine = (cycle_in third).mine; sure = (cycle_in third).sure }
  scanned_cycle =
      subst (λ (c : Cycle). c ≡ record (cycle_in first) { mine = c.mine; sure = c.sure }) (sym then.moves.cycle)
      (ap (λ (c : Cycle). record c { mine = after.mine; sure = after.sure }) before.cycle)

  -- no cell left a list
  black_grows : Grows (overview second).view (overview third).view
  black_grows = record {
    starts = subst (λ (c : Cycle). AreIn c.starts (cycle_in second).starts) (sym then.moves.cycle)
        (All-contains_itself (cycle_in second).starts);
    born = subst (λ (c : Cycle). AreIn c.born (cycle_in second).born) (sym then.moves.cycle)
        (All-contains_itself (cycle_in second).born);
    mine = subst (λ (c : Cycle). AreIn c.mine (cycle_in second).mine) (sym then.moves.cycle)
        (all_from (Contains (joined (cycle_in second).mine at)) (cycle_in second).mine
        (λ one has. joined_keeps (cycle_in second).mine at one has));
    sure = subst (λ (c : Cycle). AreIn c.sure (cycle_in second).sure) (sym then.moves.cycle)
        (all_from (Contains after.sure) (cycle_in second).sure (λ one has.
        targets_keep old (cycle_in second).sure
        (free_slot_words old words layouts (with_cycle no_cycle (cycle_in second)) at) one has));
  }

  -- one cell more was scanned
  pub scans_on : Scans first third
  scans_on = record {
    steps =
        subst (λ (ws : List ℕ). StepsTo first third ws (cycle_in third)) before.steps.moves.table
        (subst (StepsTo first third second.table) (sym then.moves.cycle)
        (steps_on first second third first.table second.table (cycle_in second) after before.steps then));
    cycle = scanned_cycle;
    grows = grown_twice (overview first).view (overview second).view (overview third).view before.grows black_grows;
    settled = λ settled. settles (before.settled settled);
  }

-- with no cell on the lists none waits
pub none_waits : (seat : Seat) (grey : Waiting) → IsPaid seat grey → IsEmpty grey → (overview seat).view.grey ≡ []
none_waits seat grey paid empty = none_in (overview seat).view.grey (λ one waits.
    elim (paid.lists.waits one waits) [
      | inl listed ↦ in_none grey.list.addresses one empty.list listed
      | inr over ↦ in_none grey.passed.addresses one empty.passed over
    ])

-- where one was taken off, all others that wait are on the lists
pub taken_off : (seat : Seat) (grey rest : Waiting) (at : ℕ) → ListsGrey seat grey → TakesOff grey rest at
    → ListsAllBut seat rest at
taken_off seat grey rest at lists off =
    others_on seat grey rest at lists (record {
      list = off.list;
      passed = off.passed ∙ lists.room.passed ∙ sym lists.room.list;
    }) off.others off.none_more (λ one on. lists.passed one (off.over one on))
