-- No pair waits for the cell: none did, and those that come wait for keys that are not marked.
use Rattle.std.proofs.Common.{inl, inr}
use Rattle.ephemeron_mark.proofs.GrownLists.{grows_again, stays_marked}
use Rattle.ephemeron_mark.proofs.WaitingKeys.{waiting_stays, waits_no_more, waits_again}
use Rattle.ephemeron_mark.proofs.seen.visit_entries.Goals as goal

pub mark_pairs-requires-clause-waits : goal.mark_pairs-requires-clause-waits
mark_pairs-requires-clause-waits c = waiting_stays c.mark_table.ensures.grown c.requires.waits

pub mark_pairs-requires-clause-marked : goal.mark_pairs-requires-clause-marked
mark_pairs-requires-clause-marked c =
    stays_marked c.args.cell.now.at c.mark_table.ensures.grown c.requires.marked

pub returns-clause-grown : goal.returns-clause-grown
returns-clause-grown c = grows_again c.mark_table.ensures.grown c.mark_pairs.ensures.grown

pub returns-clause-more : goal.returns-clause-more
returns-clause-more c = waits_again c.mark_table.ensures.grown waits_no_more c.mark_pairs.ensures.more

pub returns-clause-visited : goal.returns-clause-visited
returns-clause-visited c = record {
  slots = λ to slot. stays_marked to c.mark_pairs.ensures.grown (c.mark_table.ensures.slots to slot);
  pairs = c.mark_pairs.ensures.pairs;
  woken = λ value waits. elim (c.mark_pairs.ensures.more.fresh c.args.cell.now.at waits.slot waits.waits_for) [
    | inl before ↦ absurd (c.requires.awaited waits.slot before)
    | inr none ↦ absurd (none (stays_marked c.args.cell.now.at c.mark_table.ensures.grown c.requires.marked))
  ];
}
