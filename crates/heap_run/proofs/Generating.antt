-- What a generated script comes to, once it was written or the sink failed.
use Rattle.std.proofs.Common.{◌≡◌, ℕ, ◌+◌, inl, List, [], ◌∷◌, ◌++◌, length, take, get_or, None, Some, refl, sym, ap}
use Rattle.std.proofs.Common.{◌∙◌, arith, length-append}
use Rattle.std.proofs.lemmas.List.{append-nil, length-take-le, take_more, take-append-le, take_all}
use Rattle.command_line.specs.declared.invocation.Invocation.TheVariants.{Gen}
use Rattle.command_line.proofs.AskedCommands.{begins_command}
use Rattle.script_gen.specs.Generated.{generated}
use Rattle.byte_ends.specs.Faults.{Rose}
use Rattle.byte_ends.specs.Sink.{Appends, AppendsSome}
use Rattle.byte_ends.proofs.Appending.{Appends-along}
use Rattle.heap_run.specs.declared.ended.Ended.{Ended}
use Rattle.heap_run.specs.declared.last_line.LastLine.TheVariants as last
use Rattle.heap_run.specs.Texts.{sink_fault_status}
use Rattle.heap_run.specs.Answers.{Input, NoReadFailed, AsksFor, Comes, Taken, Answers, Generates, unopened}

-- want of memory, as it is concluded
pub Generates-memory : (seed forms : ℕ) (old new : List ℕ → Type 0) (faults_old faults_new : ℕ) (ended : Ended)
    → ended.kept ≡ None → Taken old new faults_old faults_new (unopened last.NoMemory) ended.status
    → Generates seed forms old new faults_old faults_new ended
Generates-memory seed forms old new faults_old faults_new ended none taken =
    record {
      answer = unopened last.NoMemory;
      kept = sym none;
      comes = λ words input asks unread steady.
          Comes.no_memory (begins_command words (Gen seed forms) asks) (inl (unread, steady));
      taken = taken;
    }

-- the whole script was written
pub Generates-whole : (seed forms : ℕ) (old new : List ℕ → Type 0) (faults_old faults_new : ℕ)
    → Appends old new (generated seed forms) → faults_new ≡ faults_old
    → Generates seed forms old new faults_old faults_new (record { status = 0; kept = None })
Generates-whole seed forms old new faults_old faults_new appends steady =
    let script = generated seed forms in
    record {
      answer = record { told = script; last = Some last.Nothing; kept = None };
      kept = refl;
      comes = λ words input asks unread stays. Comes.generated seed forms asks unread stays;
      taken = Taken.all script last.Nothing None (Appends-along (sym (append-nil script)) appends) steady;
    }

-- a sink took a front of these bytes that is so long
record TookFront (old new : List ℕ → Type 0) (bytes : List ℕ) (count : ℕ) : Type 0 where
  some : AppendsSome old new bytes
  long : some.count ≡ count

-- the front that a sink took is one of a front that is longer by a byte
TookFront-more : {old new : List ℕ → Type 0} (script : List ℕ) (some : AppendsSome old new script)
    → TookFront old new (take (some.count + 1) script ++ []) some.count
TookFront-more script some =
    let i = some.count in
    let more = take (i + 1) script in
    let size : length (take i script) ≡ i = length-take-le i script (omega (arith, some.short)) in
    let size_more : length more ≡ i + 1 = length-take-le (i + 1) script (omega (arith, some.short)) in
    let same =
    ap (take i) (take_more script i 0 some.short)
    ∙ take-append-le i (take i script) (get_or script i 0 ∷ []) (omega arith)
    ∙ take_all i (take i script) (omega arith) in
    record {
      some = record {
        count = i;
        short = omega (arith, length-append more [], size_more);
        front = Appends-along (sym (ap (take i) (append-nil more) ∙ same)) some.front;
      };
      long = refl;
    }

-- the sink failed before it had the whole script
pub Generates-in_part : (seed forms : ℕ) (old new : List ℕ → Type 0) (faults_old faults_new : ℕ)
    → AppendsSome old new (generated seed forms) → Rose faults_old faults_new
    → Generates seed forms old new faults_old faults_new (record { status = sink_fault_status; kept = None })
Generates-in_part seed forms old new faults_old faults_new some rose =
    let script = generated seed forms in
    let size = length-take-le (some.count + 1) script (omega (arith, some.short)) in
    let took = TookFront-more script some in
    record {
      answer = record { told = take (some.count + 1) script; last = None; kept = None };
      kept = refl;
      comes = λ words input asks unread stays.
          Comes.generated_in_part seed forms (some.count + 1) asks unread stays;
      taken = Taken.front _ took.some (omega (arith, size, took.long)) rose;
    }

-- a generated script, under the words that ask for it
pub Answers-generates : (words : List (List ℕ)) (input : Input) (seed forms : ℕ) (old new : List ℕ → Type 0)
    (faults_old faults_new : ℕ) (ended : Ended) → AsksFor words (Gen seed forms) → input.after ≡ input.before
    → NoReadFailed input → Generates seed forms old new faults_old faults_new ended
    → Answers words input old new faults_old faults_new ended
Answers-generates words input seed forms old new faults_old faults_new ended asks unread steady g =
    record { answer = g.answer; kept = g.kept; comes = g.comes words input asks unread steady; taken = g.taken }
