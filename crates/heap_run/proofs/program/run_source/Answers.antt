use Rattle.heap_run.specs.declared.last_line.LastLine.TheVariants as last
use Rattle.heap_run.proofs.Answering.{Runs-unopened, Comes-memory, Comes-stopped}
use Rattle.heap_run.proofs.program.run_source.Goals as goal

pub returns-in-Err : goal.returns-in-Err
returns-in-Err g c checks is =
    let source = c.args.source.now in
    let line = c.of_source in
    let given = c.give_up in
    Runs-unopened checks c.args.sizes source _ _ _ _ given.result line.result given.ensures.unopened
    (Comes-stopped checks c.args.sizes source c.in-Err.stop line.result c.in-Err.ensures.refused line.ensures.refused
    line.ensures.no_memory) given.ensures.taken

pub run_opened-requires-after_bounds : goal.run_opened-requires-after_bounds
run_opened-requires-after_bounds g c κs within =
    (c.args.inspects, c.args.sizes, rw c.variables.ensures.count at c.in-Ok-new.ensures)

pub returns-in-Ok-new : goal.returns-in-Ok-new
returns-in-Ok-new g c checks is =
    c.run_opened.ensures checks c.args.sizes c.args.source.now c.in-Ok.ensures.script
    (rw (c.variables.ensures.count, is) at c.in-Ok-new.ensures)

pub returns : goal.returns
returns g c checks is =
    let source = c.args.source.now in
    let given = c.give_up-in-Err-new in
    Runs-unopened checks c.args.sizes source _ _ _ _ given.result last.NoMemory given.ensures.unopened
    (Comes-memory checks c.args.sizes source) given.ensures.taken
