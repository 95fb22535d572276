-- What a soak comes to.
use Rattle.std.proofs.Common.{◌≡◌, ◌≢◌, ◌⊎◌, ℕ, List, [], inl, inr, Option, Some, None, Ok, refl, sym, subst, true}
use Rattle.std.proofs.Common.{arith}
use Rattle.script_text.specs.Scripts.{ScriptText}
use Rattle.script_text.specs.Grammar.{reading}
use Rattle.script_gen.specs.Generated.{generated}
use Rattle.heap_model.specs.Types.{Sizes}
use Rattle.heap_model.specs.Heaps.{Heap}
use Rattle.heap_model.specs.declared.image.HeapImage.{HeapImage}
use Rattle.heap_model.specs.Images.{image_heap}
use Rattle.command_line.specs.declared.invocation.Invocation.TheVariants.{Soak}
use Rattle.command_line.proofs.AskedCommands.{begins_command}
use Rattle.byte_ends.specs.Faults.{Rose}
use Rattle.byte_ends.specs.Sink.{Appends, AppendsSome}
use Rattle.byte_ends.specs.Sure.{Sums, HasSums}
use Rattle.heap_script.specs.declared.finished.How.{How}
use Rattle.heap_script.specs.declared.finished.How.TheVariants.{End, Counted, Fault, HeapFull, SinkFault, LineLimit}
use Rattle.heap_script.specs.declared.finished.How.TheVariants.{Flawed}
use Rattle.heap_script.specs.Runs.{EndsRun}
use Rattle.heap_run.specs.declared.ended.Kept.{Kept}
use Rattle.heap_run.specs.declared.ended.Ended.{Ended}
use Rattle.heap_run.specs.declared.last_line.LastLine.{LastLine}
use Rattle.heap_run.specs.declared.last_line.LastLine.TheVariants as last
use Rattle.heap_run.specs.Texts.{last_bytes, status_of, sink_fault_status}
use Rattle.heap_run.specs.Answers.{Comes, Taken, Soaks, Answers, AsksFor, Input, NoReadFailed, unopened}
use Rattle.heap_run.specs.Answers.{soak_line_of}
use Rattle.heap_run.proofs.Imaged.{FinishesImaged}
use Rattle.heap_run.proofs.Concluding.{IsKeepable, finished_by, kept_by, ended_by, keeps}

-- a tally that had taken nothing has taken what was told
sums_of : {sums : Sums} {bytes : List ℕ} → Appends (HasSums (record { bytes = 0; total = 0 })) (HasSums sums) bytes
    → HasSums sums bytes
sums_of appends = appends.appended [] (record { bytes-is = refl; total-is = refl })

-- no fault of a tally is counted
never_rose : Rose 0 0 → ⊥
never_rose (inl less) = omega (arith, less)
never_rose (inr is) = omega (arith, is)

-- the run of a script, counted at its end and written to a tally, came to an end, and the tally has its sums
record ComesToEnd (script : ScriptText) (heap : Heap) (sums : Sums) (how : How) (line n : ℕ) {old : List ℕ → Type 0}
    (f : FinishesImaged true script heap (finished_by how line n) old (HasSums sums) 0 0) : Type 0 where
  comes : EndsRun true script heap f.led.last.rows f.led.collections n f.reached.so_far how line
  summed : HasSums sums f.reached.so_far.bytes

-- a tally never fails
comes_to_end : (script : ScriptText) (heap : Heap) (sums : Sums) (how : How) (line n : ℕ)
    → (f : FinishesImaged true script heap (finished_by how line n) (HasSums (record { bytes = 0; total = 0 }))
    (HasSums sums)
    0 0) → ComesToEnd script heap sums how line n f
comes_to_end script heap sums End line n f = record { comes = f.writes.0; summed = sums_of f.writes.1 }
comes_to_end script heap sums (Counted counts) line n f = record { comes = f.writes.0; summed = sums_of f.writes.1 }
comes_to_end script heap sums (Fault word) line n f = record { comes = f.writes.0; summed = sums_of f.writes.1 }
comes_to_end script heap sums (HeapFull need) line n f = record { comes = f.writes.0; summed = sums_of f.writes.1 }
comes_to_end script heap sums (SinkFault need) line n f = absurd (never_rose f.writes.2)
comes_to_end script heap sums LineLimit line n f = record { comes = f.writes.0; summed = sums_of f.writes.1 }
comes_to_end script heap sums (Flawed flaw) line n f = absurd (f.writes.0)

-- what the sink took of a line: all of it, or a front
pub record Concludes (line : LastLine) (old new : List ℕ → Type 0) (faults_old faults_new status : ℕ) : Type 0 where
  pub written : status ≢ sink_fault_status
      → (status ≡ status_of line) × Appends old new (last_bytes line) × (faults_new ≡ faults_old)
  pub failed : status ≡ sink_fault_status → AppendsSome old new (last_bytes line) × Rose faults_old faults_new

-- so a line alone was told
line_taken : (line : LastLine) (kept : Option Kept) (old new : List ℕ → Type 0) (faults_old faults_new status : ℕ)
    → Concludes line old new faults_old faults_new status
    → (status ≡ sink_fault_status) ⊎ (status ≢ sink_fault_status)
    → Taken old new faults_old faults_new (record { told = []; last = Some line; kept = kept }) status
line_taken line kept old new faults_old faults_new status concluded (inl five) =
    let (some, rose) = concluded.failed five in
    rw five (Taken.front (record { told = []; last = Some line; kept = kept }) some (omega arith) rose)
line_taken line kept old new faults_old faults_new status concluded (inr other) =
    let (is, appends, steady) = concluded.written other in
    rw is (Taken.all [] line kept appends steady)

-- a soak, by how its run finished, which line was made of that, and what the sink took of the line
pub Soaks-finished : (sizes : Sizes) (seed forms : ℕ) (script : ScriptText) (image : HeapImage) (sums : Sums)
    (how : How) (line n status : ℕ) (last : LastLine) (old new : List ℕ → Type 0) (faults_old faults_new : ℕ)
    → reading (generated seed forms) ≡ Ok script → IsKeepable sizes script image
    → FinishesImaged true script (image_heap image) (finished_by how line n) (HasSums (record { bytes = 0; total = 0 }))
    (HasSums sums) 0 0
    → ((bytes : List ℕ) → HasSums sums bytes → last ≡ soak_line_of how line n bytes)
    → Concludes last old new faults_old faults_new status
    → (status ≡ sink_fault_status) ⊎ (status ≢ sink_fault_status)
    → Soaks sizes seed forms old new faults_old faults_new (ended_by image how line n status)
Soaks-finished sizes seed forms script image sums how line n status last old new faults_old faults_new is keepable f
    tells concluded decided =
    let ends = comes_to_end script (image_heap image) sums how line n f in
    let kept = kept_by image how line n in
    let told = soak_line_of how line n f.reached.so_far.bytes in
    record {
      answer = record { told = []; last = Some told; kept = Some kept };
      kept = refl;
      comes = λ words input asks unread steady.
          Comes.soaked sizes seed forms script kept how asks unread steady is
          (keeps how line n keepable f.reached f.led) ends.comes refl;
      taken = subst (λ one. Taken old new faults_old faults_new
          (record { told = []; last = Some one; kept = Some kept })
          status) (tells f.reached.so_far.bytes ends.summed)
          (line_taken last (Some kept) old new faults_old faults_new status concluded decided);
    }

-- want of memory, as it is concluded
pub Soaks-memory : (sizes : Sizes) (seed forms : ℕ) (old new : List ℕ → Type 0) (faults_old faults_new : ℕ)
    (ended : Ended) → ended.kept ≡ None → Taken old new faults_old faults_new (unopened last.NoMemory) ended.status
    → Soaks sizes seed forms old new faults_old faults_new ended
Soaks-memory sizes seed forms old new faults_old faults_new ended none taken = record {
  answer = unopened last.NoMemory;
  kept = sym none;
  comes = λ words input asks unread steady.
      Comes.no_memory (begins_command words (Soak sizes seed forms) asks) (inl (unread, steady));
  taken = taken;
}

-- a soak, under the words that ask for it
pub Answers-soaks : (words : List (List ℕ)) (input : Input) (sizes : Sizes) (seed forms : ℕ) (old new : List ℕ → Type 0)
    (faults_old faults_new : ℕ) (ended : Ended) → AsksFor words (Soak sizes seed forms) → input.after ≡ input.before
    → NoReadFailed input → Soaks sizes seed forms old new faults_old faults_new ended
    → Answers words input old new faults_old faults_new ended
Answers-soaks words input sizes seed forms old new faults_old faults_new ended asks unread steady s =
    record { answer = s.answer; kept = s.kept; comes = s.comes words input asks unread steady; taken = s.taken }
