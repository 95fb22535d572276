-- A run of turns leaves each marker's seat at its table.
use Rattle.std.proofs.Common.{slice_index_or}
use Rattle.table_tests.proofs.Marked.{seated_stays}
use Rattle.table_tests.proofs.crews.run_beside.Goals as goal

pub returns-clause-seated : goal.returns-clause-seated
returns-clause-seated g c = λ i default within.
    let marked = c.beside.ensures.done i default within in
    seated_stays c.args.mutator.now.side.table c.args.mutator.now.side.main.old
    (slice_index_or c.args.tasks.now i default) (slice_index_or c.beside.new.tasks i default) 4096 marked.0 marked.1
    (c.requires.seated i default within)
