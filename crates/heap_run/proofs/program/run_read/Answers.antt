use Rattle.std.proofs.Common.{inl, refl}
use Rattle.heap_run.specs.declared.last_line.LastLine.TheVariants as last
use Rattle.heap_run.specs.Answers.{Comes}
use Rattle.heap_run.proofs.Answering.{Answers-unopened, Answers-runs, begins}
use Rattle.heap_run.proofs.program.run_read.Goals as goal

pub returns-in-Ok : goal.returns-in-Ok
returns-in-Ok g c words checks is asks =
    let read = c.in-Ok.ensures in
    Answers-runs words _ c.in-Ok.bytes.items checks c.args.sizes _ _ _ _ c.run_source.result asks
    (record { all = read.whole; few = read.short; none_left = read.empty; steady = read.steady })
    (rw c.deref.ensures.value at (c.run_source.ensures checks is))

pub returns-in-Err-Fault : goal.returns-in-Err-Fault
returns-in-Err-Fault g c words checks is asks =
    let stopped = rw c.in-Err-Fault.field-0-is at c.in-Err-Fault.ensures in
    Answers-unopened words _ _ _ _ _ c.give_up.result last.ReadFault c.give_up.ensures.unopened
    (Comes.read_fault checks c.args.sizes asks (stopped.fault refl)) c.give_up.ensures.taken

pub returns-in-Err-TooLong : goal.returns-in-Err-TooLong
returns-in-Err-TooLong g c words checks is asks =
    let stopped = rw c.in-Err-TooLong.field-0-is at c.in-Err-TooLong.ensures in
    let many = stopped.too_long refl in
    let given = c.give_up-in-Err-TooLong in
    Answers-unopened words _ _ _ _ _ given.result last.SourceTooLong given.ensures.unopened
    (Comes.too_long checks c.args.sizes asks (record { many = many.0; steady = many.1 })) given.ensures.taken

pub returns-in-Err-NoMemory : goal.returns-in-Err-NoMemory
returns-in-Err-NoMemory g c words checks is asks =
    let stopped = rw c.in-Err-NoMemory.field-0-is at c.in-Err-NoMemory.ensures in
    let given = c.give_up-in-Err-NoMemory in
    Answers-unopened words _ _ _ _ _ given.result last.NoMemory given.ensures.unopened
    (Comes.no_memory (begins words checks c.args.sizes asks) (inl (stopped.no_memory refl))) given.ensures.taken
