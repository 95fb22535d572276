use Rattle.std.proofs.Common.{◌≡◌, ◌∙◌}
use Rattle.script_gen.specs.Generated.{generated}
use Rattle.heap_run.proofs.Answering.{stops_for_memory}
use Rattle.heap_run.proofs.SoakLines.{Soaks-memory}
use Rattle.heap_run.proofs.soaking.soak.Goals as goal

pub returns-in_default : goal.returns-in_default
returns-in_default g c =
    let given = c.give_up in
    Soaks-memory c.args.sizes c.args.seed c.args.forms _ _ _ _ given.result given.ensures.unopened given.ensures.taken

pub returns-in-Err : goal.returns-in-Err
returns-in-Err g c =
    let bytes = generated c.args.seed c.args.forms in
    let is = c.generated_scripts_are_read.ensures.scripts c.args.seed c.args.forms in
    let same : c.deref.result.now ≡ bytes = c.deref.ensures.value ∙ c.in-Ok.ensures in
    let stop = stops_for_memory bytes is.script c.in-Err.stop is.read (rw same at c.in-Err.ensures.refused) in
    let given = c.give_up-in-Err in
    Soaks-memory c.args.sizes c.args.seed c.args.forms _ _ _ _ given.result given.ensures.unopened
    (rw (c.of_source.ensures.no_memory stop) at given.ensures.taken)

pub soak_opened-requires-after_bounds : goal.soak_opened-requires-after_bounds
soak_opened-requires-after_bounds g c κs within = (c.args.sizes, rw c.variables.ensures.count at c.in-Ok-new.ensures)

pub returns-in-Ok-new : goal.returns-in-Ok-new
returns-in-Ok-new g c =
    let bytes = generated c.args.seed c.args.forms in
    let same : c.deref.result.now ≡ bytes = c.deref.ensures.value ∙ c.in-Ok.ensures in
    c.soak_opened.ensures c.args.sizes c.args.seed c.args.forms (rw same at c.in-Ok-parse.ensures.script)
    (rw c.variables.ensures.count at c.in-Ok-new.ensures)

pub returns : goal.returns
returns g c =
    let given = c.give_up-in-Err-new in
    Soaks-memory c.args.sizes c.args.seed c.args.forms _ _ _ _ given.result given.ensures.unopened given.ensures.taken
