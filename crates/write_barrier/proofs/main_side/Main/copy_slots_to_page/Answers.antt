-- Nothing is recorded of the copies until they are judged.
use Rattle.std.proofs.Common.{◌+◌}
use Rattle.write_barrier.proofs.StoredRanges.{wiped_clear}
use Rattle.write_barrier.proofs.main_side.Main.copy_slots_to_page.Goals as goal

pub judge_copies-requires-clause-none : goal.judge_copies-requires-clause-none
judge_copies-requires-clause-none c =
    wiped_clear c.args.to (c.args.to + c.args.count) c.copy_words.ensures.touches
