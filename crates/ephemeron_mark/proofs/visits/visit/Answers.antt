-- What each step marks stays marked.
use Rattle.ephemeron_mark.proofs.GrownLists.{grows_again, stays_marked}
use Rattle.ephemeron_mark.proofs.WaitingKeys.{waiting_stays, marked_or_waits_stays, waits_no_more, waits_again}
use Rattle.ephemeron_mark.proofs.visits.visit.Goals as goal

pub mark_pairs-requires-clause-waits : goal.mark_pairs-requires-clause-waits
mark_pairs-requires-clause-waits c = waiting_stays c.mark_slots.ensures.grown c.requires.waits

pub mark_pairs-requires-clause-marked : goal.mark_pairs-requires-clause-marked
mark_pairs-requires-clause-marked c =
    stays_marked c.args.cell.now.at c.mark_slots.ensures.grown c.requires.marked

pub wake-requires-clause-marked : goal.wake-requires-clause-marked
wake-requires-clause-marked c =
    stays_marked c.args.cell.now.at (grows_again c.mark_slots.ensures.grown c.mark_pairs.ensures.grown)
    c.requires.marked

pub returns-clause-grown : goal.returns-clause-grown
returns-clause-grown c =
    grows_again (grows_again c.mark_slots.ensures.grown c.mark_pairs.ensures.grown) c.wake.ensures.grown

pub returns-clause-waits : goal.returns-clause-waits
returns-clause-waits c = waiting_stays c.wake.ensures.grown c.mark_pairs.ensures.waits

pub returns-clause-more : goal.returns-clause-more
returns-clause-more c = waits_again c.mark_slots.ensures.grown waits_no_more c.mark_pairs.ensures.more

pub returns-clause-visited : goal.returns-clause-visited
returns-clause-visited c =
    let rest = grows_again c.mark_pairs.ensures.grown c.wake.ensures.grown in
    record {
      slots = λ to slot. stays_marked to rest (c.mark_slots.ensures.slots to slot);
      pairs = λ key value entry.
          marked_or_waits_stays c.wake.ensures.grown key value (λ one slot waits_for. waits_for)
          (c.mark_pairs.ensures.pairs key value entry);
      woken = c.wake.ensures.woken;
    }
