-- What follows of a run from what it comes to and what the sink took.
use Rattle.std.proofs.Common.{arith, ◌≡◌, ◌≢◌, ℕ, Bool, List, [], ◌∷◌, Option, Some}
use Rattle.std.proofs.Common.{None, Ok, Err, refl, sym, ◌∙◌, subst, false, true, lit<, ◌⊎◌, inl, inr}
use Rattle.std.specs.Prelude.{Contains, IsTrue}
use Rattle.object_graph.specs.Run.{Told}
use Rattle.script_text.specs.Scripts.{ScriptText}
use Rattle.heap_model.specs.Types.{Sizes, Run as FreeRun}
use Rattle.heap_model.specs.Heaps.{Heap}
use Rattle.heap_model.specs.Images.{image_heap}
use Rattle.command_line.specs.declared.invocation.Invocation.{Invocation}
use Rattle.command_line.specs.declared.invocation.Invocation.TheVariants.{Run, Check, Soak, Gen}
use Rattle.command_line.specs.Invocations.{begins_with_any, commands, invocation_of, asked_run}
use Rattle.script_gen.specs.Generated.{generated}
use Rattle.command_line.proofs.AskedCommands.{begins_command}
use Rattle.script_text.specs.declared.script.BadScript.{BadScript}
use Rattle.script_text.specs.declared.script.BadScript.TheVariants as bad
use Rattle.script_text.specs.Grammar.{reading}
use Rattle.byte_ends.specs.Faults.{Rose}
use Rattle.byte_ends.specs.Sink.{Appends, AppendsSome}
use Rattle.heap_script.specs.declared.finished.How.{How}
use Rattle.heap_script.specs.declared.finished.How.TheVariants as how
use Rattle.heap_script.specs.Stages.{Collections}
use Rattle.heap_script.specs.Runs.{EndsRun}
use Rattle.heap_run.specs.declared.ended.Kept.{Kept}
use Rattle.heap_run.specs.declared.ended.Ended.{Ended}
use Rattle.heap_run.specs.declared.last_line.LastLine.{LastLine}
use Rattle.heap_run.specs.declared.last_line.LastLine.TheVariants as last
use Rattle.heap_run.specs.Texts.{last_bytes, status_of, sink_fault_status}
use Rattle.heap_run.specs.Answers.{Input, ReadsAll, Answer, unopened, refusal_of, last_line_of, soak_line_of}
use Rattle.heap_run.specs.Answers.{Comes, Taken, Answers, Runs, AsksFor}
use Rattle.heap_run.specs.AnswerLaws.{IsKeptAt, IsKeptBy, IsKeptFor, KeepsGraph, KeptIsOfScript, KeptWasRead}
use Rattle.heap_run.specs.AnswerLaws.{KeptGoesWithStatus}

-- no last line has the status of a sink that failed
pub status-apart : (line : LastLine) → status_of line ≢ sink_fault_status
status-apart last.Nothing e = cc
status-apart (last.Fault line word) e = cc
status-apart (last.BadScript line why) e = cc
status-apart (last.TooManyNames line) e = cc
status-apart (last.HeapFull line) e = cc
status-apart last.ReadFault e = cc
status-apart last.SourceTooLong e = cc
status-apart last.NoMemory e = cc
status-apart (last.LineLimit line) e = cc
status-apart last.BadWords e = cc
status-apart (last.Checked counts) e = cc
status-apart (last.Soaked soaked) e = cc
status-apart (last.Flawed flaw) e = cc

-- a heap that is kept is of the script that the words ask to be run
pub keeps-comes : KeptIsOfScript
keeps-comes words input _ (Comes.bad_words refused unread steady) = tt
keeps-comes words input _ (Comes.no_memory begins read) = tt
keeps-comes words input _ (Comes.read_fault checks sizes asks rose) = tt
keeps-comes words input _ (Comes.too_long checks sizes asks many) = tt
keeps-comes words input _ (Comes.no_script checks sizes bytes stop line asks reads is refusal) = tt
keeps-comes words input _ (Comes.ended checks sizes bytes script kept came asks reads is keeps comes judged need) =
    (sizes, bytes, inl (checks, asks, reads.all), subst (λ r. KeepsGraph sizes r kept) (sym is) keeps)
keeps-comes words input _ (Comes.cut_short checks sizes bytes script kept asks reads is keeps line need none due) =
    (sizes, bytes, inl (checks, asks, reads.all), subst (λ r. KeepsGraph sizes r kept) (sym is) keeps)
keeps-comes words input _ (Comes.generated seed forms asks unread steady) = tt
keeps-comes words input _ (Comes.generated_in_part seed forms count asks unread steady) = tt
keeps-comes words input _ (Comes.soaked sizes seed forms script kept came asks unread steady is keeps comes need) =
    (sizes, generated seed forms, inr (seed, forms, asks, refl), subst (λ r. KeepsGraph sizes r kept) (sym is) keeps)

-- words that ask for a soak ask for no run of what the source has
no_soak : {A : Type 0} (words : List (List ℕ)) (checks : Bool) (sizes other : Sizes) (seed forms : ℕ)
    → AsksFor words (asked_run checks sizes) → AsksFor words (Soak other seed forms) → A
no_soak words false sizes other seed forms asks soaks =
    let same : Some (Run sizes) ≡ Some (Soak other seed forms) = sym asks ∙ soaks in
    absurd (cc)
no_soak words true sizes other seed forms asks soaks =
    let same : Some (Check sizes) ≡ Some (Soak other seed forms) = sym asks ∙ soaks in
    absurd (cc)

-- where a heap is kept of a script that was read, nothing of the source is left
pub reads-comes : KeptWasRead
reads-comes words input _ (Comes.bad_words refused unread steady) check these wants = tt
reads-comes words input _ (Comes.no_memory begins read) check these wants = tt
reads-comes words input _ (Comes.read_fault checks sizes asks rose) check these wants = tt
reads-comes words input _ (Comes.too_long checks sizes asks many) check these wants = tt
reads-comes words input _ (Comes.no_script checks sizes bytes stop line asks reads is refusal) check these wants = tt
reads-comes words input _ (Comes.ended checks sizes bytes script kept came asks reads is keeps comes judged need)
    check these
    wants =
    reads.none_left
reads-comes words input _ (Comes.cut_short checks sizes bytes script kept asks reads is keeps line need none due) check
    these wants =
    reads.none_left
reads-comes words input _ (Comes.generated seed forms asks unread steady) check these wants = tt
reads-comes words input _ (Comes.generated_in_part seed forms count asks unread steady) check these wants = tt
reads-comes words input _ (Comes.soaked sizes seed forms script kept came asks unread steady is keeps comes need) check
    these wants =
    no_soak words check these sizes seed forms wants asks

-- the status of the end of a script
opened-ended : (checks : Bool) (script : ScriptText) (heap : Heap) (rows : List (List FreeRun))
    (collections : Collections)
    (n : ℕ) (so_far : Told) (came : How) (line : ℕ) → EndsRun checks script heap rows collections n so_far came line
    → Contains (0 ∷ 1 ∷ 3 ∷ sink_fault_status ∷ 8 ∷ []) (status_of (last_line_of came line))
opened-ended checks script heap rows collections n so_far how.End line comes = (0, lit< tt, refl)
opened-ended checks script heap rows collections n so_far (how.Counted counts) line comes = (0, lit< tt, refl)
opened-ended checks script heap rows collections n so_far (how.Fault word) line comes = (1, lit< tt, refl)
opened-ended checks script heap rows collections n so_far (how.HeapFull need) line comes = (2, lit< tt, refl)
opened-ended checks script heap rows collections n so_far (how.SinkFault need) line comes = absurd (comes)
opened-ended checks script heap rows collections n so_far how.LineLimit line comes = (4, lit< tt, refl)
opened-ended checks script heap rows collections n so_far (how.Flawed flaw) line comes = absurd (comes)

-- the status of a source that is no script
opened-refused : (stop : BadScript) (line : LastLine) → refusal_of stop ≡ Some line
    → Contains (2 ∷ 4 ∷ sink_fault_status ∷ 6 ∷ 7 ∷ 64 ∷ []) (status_of line)
opened-refused (bad.BadLine at why) line e =
    let is : last.BadScript at why ≡ line = cc in
    subst (λ l. Contains (2 ∷ 4 ∷ sink_fault_status ∷ 6 ∷ 7 ∷ 64 ∷ []) (status_of l)) is (0, lit< tt, refl)
opened-refused (bad.TooManyNames at) line e =
    let is : last.TooManyNames at ≡ line = cc in
    subst (λ l. Contains (2 ∷ 4 ∷ sink_fault_status ∷ 6 ∷ 7 ∷ 64 ∷ []) (status_of l)) is (0, lit< tt, refl)
opened-refused bad.NoMemory line e = cc

-- where none is kept, that goes with a status of words that ask for a run, and with each of other words
kept_none : (asked : Option Invocation) (status : ℕ) → IsKeptAt status None → IsKeptBy asked status None
kept_none None status at = at
kept_none (Some (Run sizes)) status at = at
kept_none (Some (Check sizes)) status at = at
kept_none (Some (Soak sizes seed forms)) status at = at
kept_none (Some (Gen seed forms)) status at = refl

-- where the words ask for a run, what is kept goes with the status
kept_run : (words : List (List ℕ)) (checks : Bool) (sizes : Sizes) (status : ℕ) (kept : Option Kept)
    → AsksFor words (asked_run checks sizes) → IsKeptAt status kept → IsKeptFor words status kept
kept_run words false sizes status kept asks at = subst (λ asked. IsKeptBy asked status kept) (sym asks) at
kept_run words true sizes status kept asks at = subst (λ asked. IsKeptBy asked status kept) (sym asks) at

-- so it does where they ask for a soak
kept_soak : (words : List (List ℕ)) (sizes : Sizes) (seed forms status : ℕ) (kept : Option Kept)
    → AsksFor words (Soak sizes seed forms) → IsKeptAt status kept → IsKeptFor words status kept
kept_soak words sizes seed forms status kept asks at = subst (λ asked. IsKeptBy asked status kept) (sym asks) at

-- of a generated script that is told none is kept
kept_generated : (words : List (List ℕ)) (seed forms status : ℕ) → AsksFor words (Gen seed forms)
    → IsKeptFor words status None
kept_generated words seed forms status asks = subst (λ asked. IsKeptBy asked status None) (sym asks) refl

-- the status of a soak's last line is that of its run
opened-soaked : (script : ScriptText) (heap : Heap) (rows : List (List FreeRun)) (collections : Collections) (n : ℕ)
    (so_far : Told) (came : How) (line executed : ℕ) (bytes : List ℕ)
    → EndsRun true script heap rows collections n so_far came line
    → Contains (0 ∷ 1 ∷ 3 ∷ sink_fault_status ∷ 8 ∷ []) (status_of (soak_line_of came line executed bytes))
opened-soaked script heap rows collections n so_far how.End line executed bytes comes = (0, lit< tt, refl)
opened-soaked script heap rows collections n so_far (how.Counted counts) line executed bytes comes = (0, lit< tt, refl)
opened-soaked script heap rows collections n so_far (how.Fault word) line executed bytes comes = (1, lit< tt, refl)
opened-soaked script heap rows collections n so_far (how.HeapFull need) line executed bytes comes = (2, lit< tt, refl)
opened-soaked script heap rows collections n so_far (how.SinkFault need) line executed bytes comes = absurd (comes)
opened-soaked script heap rows collections n so_far how.LineLimit line executed bytes comes = (4, lit< tt, refl)
opened-soaked script heap rows collections n so_far (how.Flawed flaw) line executed bytes comes = absurd (comes)

-- the status of an answer whose last line is written goes with the heap that is kept
opened-line : (words : List (List ℕ)) (input : Input) (answer : Answer) → Comes words input answer → (line : LastLine)
    → answer.last ≡ Some line → IsKeptFor words (status_of line) answer.kept
opened-line words input _ (Comes.bad_words refused unread steady) line e =
    let is : last.BadWords ≡ line = cc in
    kept_none (invocation_of words) _ (subst (λ l. IsKeptAt (status_of l) None) is (5, lit< tt, refl))
opened-line words input _ (Comes.no_memory begins read) line e =
    let is : last.NoMemory ≡ line = cc in
    kept_none (invocation_of words) _ (subst (λ l. IsKeptAt (status_of l) None) is (4, lit< tt, refl))
opened-line words input _ (Comes.read_fault checks sizes asks rose) line e =
    let is : last.ReadFault ≡ line = cc in
    kept_none (invocation_of words) _ (subst (λ l. IsKeptAt (status_of l) None) is (1, lit< tt, refl))
opened-line words input _ (Comes.too_long checks sizes asks many) line e =
    let is : last.SourceTooLong ≡ line = cc in
    kept_none (invocation_of words) _ (subst (λ l. IsKeptAt (status_of l) None) is (3, lit< tt, refl))
opened-line words input _ (Comes.no_script checks sizes bytes stop at asks reads is refusal) line e =
    let same : at ≡ line = cc in
    kept_none (invocation_of words) _
    (subst (λ l. IsKeptAt (status_of l) None) same (opened-refused stop at refusal))
opened-line words input _ (Comes.ended checks sizes bytes script kept came asks reads is keeps comes judged need)
    line e =
    let same : last_line_of came kept.line ≡ line = cc in
    kept_run words checks sizes _ (Some kept) asks
    (subst (λ l. IsKeptAt (status_of l) (Some kept)) same
    (opened-ended checks script (image_heap kept.image) keeps.last.rows keeps.collections kept.executed
    keeps.reached.so_far came kept.line comes))
opened-line words input _ (Comes.cut_short checks sizes bytes script kept asks reads is keeps at need none due) line e =
    cc
opened-line words input _ (Comes.generated seed forms asks unread steady) line e =
    kept_generated words seed forms _ asks
opened-line words input _ (Comes.generated_in_part seed forms count asks unread steady) line e = cc
opened-line words input _ (Comes.soaked sizes seed forms script kept came asks unread steady is keeps comes need)
    line e =
    let same : soak_line_of came kept.line kept.executed keeps.reached.so_far.bytes ≡ line = cc in
    kept_soak words sizes seed forms _ (Some kept) asks
    (subst (λ l. IsKeptAt (status_of l) (Some kept)) same
    (opened-soaked script (image_heap kept.image) keeps.last.rows keeps.collections kept.executed
    keeps.reached.so_far came kept.line kept.executed keeps.reached.so_far.bytes comes))

-- the status of a sink that failed goes with a heap and with none
opened-failed : (kept : Option Kept) → IsKeptAt sink_fault_status kept
opened-failed None = (2, lit< tt, refl)
opened-failed (Some kept) = (3, lit< tt, refl)

-- so it does for all words
opened-front : (words : List (List ℕ)) (input : Input) (answer : Answer) → Comes words input answer
    → IsKeptFor words sink_fault_status answer.kept
opened-front words input _ (Comes.bad_words refused unread steady) =
    kept_none (invocation_of words) sink_fault_status (opened-failed None)
opened-front words input _ (Comes.no_memory begins read) =
    kept_none (invocation_of words) sink_fault_status (opened-failed None)
opened-front words input _ (Comes.read_fault checks sizes asks rose) =
    kept_none (invocation_of words) sink_fault_status (opened-failed None)
opened-front words input _ (Comes.too_long checks sizes asks many) =
    kept_none (invocation_of words) sink_fault_status (opened-failed None)
opened-front words input _ (Comes.no_script checks sizes bytes stop line asks reads is refusal) =
    kept_none (invocation_of words) sink_fault_status (opened-failed None)
opened-front words input _ (Comes.ended checks sizes bytes script kept came asks reads is keeps comes judged need) =
    kept_run words checks sizes sink_fault_status (Some kept) asks (opened-failed (Some kept))
opened-front words input _ (Comes.cut_short checks sizes bytes script kept asks reads is keeps line need none due) =
    kept_run words checks sizes sink_fault_status (Some kept) asks (opened-failed (Some kept))
opened-front words input _ (Comes.generated seed forms asks unread steady) =
    kept_none (invocation_of words) sink_fault_status (opened-failed None)
opened-front words input _ (Comes.generated_in_part seed forms count asks unread steady) =
    kept_none (invocation_of words) sink_fault_status (opened-failed None)
opened-front words input _ (Comes.soaked sizes seed forms script kept came asks unread steady is keeps comes need) =
    kept_soak words sizes seed forms sink_fault_status (Some kept) asks (opened-failed (Some kept))

-- whether a heap is kept goes with the status
pub opened-comes : KeptGoesWithStatus
opened-comes words input answer status comes (inl five) =
    subst (λ one. IsKeptFor words one answer.kept) (sym five) (opened-front words input answer comes)
opened-comes words input answer status comes (inr (line, last-is, is)) =
    subst (λ one. IsKeptFor words one answer.kept) (sym is) (opened-line words input answer comes line last-is)

-- an answer before the opening, as it is concluded
pub Taken-unopened : (old new : List ℕ → Type 0) (faults_old faults_new status : ℕ) (line : LastLine)
    → (status ≢ sink_fault_status
    → (status ≡ status_of line) × Appends old new (last_bytes line) × (faults_new ≡ faults_old))
    → (status ≡ sink_fault_status → AppendsSome old new (last_bytes line) × Rose faults_old faults_new)
    → (status ≡ sink_fault_status) ⊎ (status ≢ sink_fault_status)
    → Taken old new faults_old faults_new (unopened line) status
Taken-unopened old new faults_old faults_new status line written failed (inl five) =
    let (some, rose) = failed five in
    rw five (Taken.front (unopened line) some (omega arith) rose)
Taken-unopened old new faults_old faults_new status line written failed (inr other) =
    let (is, appends, steady) = written other in
    rw is (Taken.all [] line None appends steady)

-- an answer before the opening
pub Answers-unopened : (words : List (List ℕ)) (input : Input) (old new : List ℕ → Type 0) (faults_old faults_new : ℕ)
    (ended : Ended) (line : LastLine) → ended.kept ≡ None → Comes words input (unopened line)
    → Taken old new faults_old faults_new (unopened line) ended.status
    → Answers words input old new faults_old faults_new ended
Answers-unopened words input old new faults_old faults_new ended line none comes taken =
    record { answer = unopened line; kept = sym none; comes = comes; taken = taken }

-- the same of a source that was read
pub Runs-unopened : (checks : Bool) (sizes : Sizes) (bytes : List ℕ) (old new : List ℕ → Type 0)
    (faults_old faults_new : ℕ)
    (ended : Ended)
    (line : LastLine) → ended.kept ≡ None
    → ((words : List (List ℕ)) (input : Input) → AsksFor words (asked_run checks sizes) → ReadsAll input bytes
    → Comes words input (unopened line))
    → Taken old new faults_old faults_new (unopened line) ended.status
    → Runs checks sizes bytes old new faults_old faults_new ended
Runs-unopened checks sizes bytes old new faults_old faults_new ended line none comes taken =
    record { answer = unopened line; kept = sym none; comes = comes; taken = taken }

-- words that ask for a run begin with a command
pub begins : (words : List (List ℕ)) (checks : Bool) (sizes : Sizes) → AsksFor words (asked_run checks sizes)
    → IsTrue (begins_with_any commands words)
begins words checks sizes asks = begins_command words (asked_run checks sizes) asks

-- want of memory once the source was read
pub Comes-memory : (checks : Bool) (sizes : Sizes) (bytes : List ℕ) (words : List (List ℕ)) (input : Input)
    → AsksFor words (asked_run checks sizes)
    → ReadsAll input bytes → Comes words input (unopened last.NoMemory)
Comes-memory checks sizes bytes words input asks reads =
    Comes.no_memory (begins words checks sizes asks) (inr (checks, sizes, bytes, asks, reads))

-- the reading of a source stopped: memory was refused, or it is no script
pub Comes-stopped : (checks : Bool) (sizes : Sizes) (bytes : List ℕ) (stop : BadScript) (line : LastLine)
    → (stop ≢ bad.NoMemory → reading bytes ≡ Err stop) → (stop ≢ bad.NoMemory → refusal_of stop ≡ Some line)
    → (stop ≡ bad.NoMemory → line ≡ last.NoMemory) → (words : List (List ℕ)) (input : Input)
    → AsksFor words (asked_run checks sizes) → ReadsAll input bytes → Comes words input (unopened line)
Comes-stopped checks sizes bytes (bad.BadLine at why) line read refusal memory words input asks reads =
    let apart : bad.BadLine at why ≢ bad.NoMemory = λ e. cc in
    Comes.no_script checks sizes bytes (bad.BadLine at why) line asks reads (read apart) (refusal apart)
Comes-stopped checks sizes bytes (bad.TooManyNames at) line read refusal memory words input asks reads =
    let apart : bad.TooManyNames at ≢ bad.NoMemory = λ e. cc in
    Comes.no_script checks sizes bytes (bad.TooManyNames at) line asks reads (read apart) (refusal apart)
Comes-stopped checks sizes bytes bad.NoMemory line read refusal memory words input asks reads =
    subst (λ one. Comes words input (unopened one)) (sym (memory refl))
    (Comes-memory checks sizes bytes words input asks reads)

-- of a source that is a script only want of memory stops the reading
pub stops_for_memory : (bytes : List ℕ) (script : ScriptText) (stop : BadScript) → reading bytes ≡ Ok script
    → (stop ≢ bad.NoMemory → reading bytes ≡ Err stop) → stop ≡ bad.NoMemory
stops_for_memory bytes script (bad.BadLine at why) is read =
    let apart : bad.BadLine at why ≢ bad.NoMemory = λ e. cc in
    let not : Ok script ≡ Err (bad.BadLine at why) = sym is ∙ read apart in
    cc
stops_for_memory bytes script (bad.TooManyNames at) is read =
    let apart : bad.TooManyNames at ≢ bad.NoMemory = λ e. cc in
    let not : Ok script ≡ Err (bad.TooManyNames at) = sym is ∙ read apart in
    cc
stops_for_memory bytes script bad.NoMemory is read = refl

-- a run whose source was read, under the words that ask for it
pub Answers-runs : (words : List (List ℕ)) (input : Input) (bytes : List ℕ) (checks : Bool) (sizes : Sizes)
    (old new : List ℕ → Type 0) (faults_old faults_new : ℕ) (ended : Ended) → AsksFor words (asked_run checks sizes)
    → ReadsAll input bytes
    → Runs checks sizes bytes old new faults_old faults_new ended
    → Answers words input old new faults_old faults_new ended
Answers-runs words input bytes checks sizes old new faults_old faults_new ended asks reads r =
    record { answer = r.answer; kept = r.kept; comes = r.comes words input asks reads; taken = r.taken }
