-- What is written are the bytes of the generated script.
use Rattle.std.proofs.Common.{◌≡◌, ◌∙◌, subst}
use Rattle.byte_ends.specs.Sink.{AppendsSome}
use Rattle.byte_ends.proofs.Appending.{Appends-along}
use Rattle.script_gen.specs.Generated.{generated}
use Rattle.heap_run.proofs.Generating.{Generates-memory, Generates-whole, Generates-in_part}
use Rattle.heap_run.proofs.generated.write_generated.Goals as goal

pub returns-in_default : goal.returns-in_default
returns-in_default g c =
    Generates-memory c.args.seed c.args.forms _ _ _ _ c.give_up.result c.give_up.ensures.unopened
    c.give_up.ensures.taken

pub returns-in-Ok-write_all : goal.returns-in-Ok-write_all
returns-in-Ok-write_all g c =
    let is : c.deref.result.now ≡ generated c.args.seed c.args.forms = c.deref.ensures.value ∙ c.in-Ok.ensures in
    let wrote = c.in-Ok-write_all.ensures in
    rw c.status.ensures
    (Generates-whole c.args.seed c.args.forms _ _ _ _ (Appends-along is wrote.appended) wrote.steady)

pub returns : goal.returns
returns g c =
    let is : c.deref.result.now ≡ generated c.args.seed c.args.forms = c.deref.ensures.value ∙ c.in-Ok.ensures in
    let stopped = c.in-Err.ensures in
    Generates-in_part c.args.seed c.args.forms _ _ _ _
    (subst (λ bytes. AppendsSome (g.K.Sink.HasTaken c.args.sink.now) (g.K.Sink.HasTaken c.write_all.new.sink) bytes) is
    stopped.stopped) stopped.failed
