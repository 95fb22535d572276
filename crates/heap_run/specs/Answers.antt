-- What a run comes to, and what of it the sink took.
use Rattle.std.specs.Prelude.{◌≡◌, ◌⊎◌, ℕ, ◌+◌, ◌%◌, ◌^◌, ◌<◌, ◌≤◌, Bool, List, [], ◌++◌}
use Rattle.std.specs.Prelude.{length, sum, take, drop, true, IsTrue, Option, Some, None, IfSome, Ok, Err}
use Rattle.heap_model.specs.Types.{Sizes}
use Rattle.command_line.specs.declared.invocation.Invocation.{Invocation}
use Rattle.command_line.specs.declared.invocation.Invocation.TheVariants.{Soak, Gen}
use Rattle.command_line.specs.Invocations.{invocation_of, begins_with_any, commands, asked_run}
use Rattle.script_text.specs.declared.script.BadScript.{BadScript}
use Rattle.script_text.specs.declared.script.BadScript.TheVariants as bad
use Rattle.script_text.specs.Scripts.{ScriptText}
use Rattle.script_text.specs.Grammar.{reading}
use Rattle.script_gen.specs.Generated.{generated as script_of_seed}
use Rattle.byte_ends.specs.Faults.{Rose}
use Rattle.byte_ends.specs.Sink.{Appends, AppendsSome}
use Rattle.heap_script.specs.declared.finished.How.{How}
use Rattle.heap_script.specs.declared.finished.How.TheVariants as how
use Rattle.heap_script.specs.TheConstants.{OUTPUT_BYTES}
use Rattle.heap_script.specs.Stages.{Stage, Collections, uncollected}
use Rattle.heap_script.specs.Reached.{RanTo}
use Rattle.heap_script.specs.Spending.{Spends}
use Rattle.heap_script.specs.Runs.{EndsRun, need_at, IsDue}
use Rattle.heap_model.specs.Heaps.{Heap}
use Rattle.heap_model.specs.Images.{image_heap}
use Rattle.heap_model.specs.Collectable.{AreFreeRuns}
use Rattle.collector.specs.Born.{Opening}
use Rattle.collector.specs.Images.{IsImageOf}
use Rattle.heap_check.specs.Judging.{IsCounted}
use Rattle.heap_run.specs.declared.ended.Kept.{Kept}
use Rattle.heap_run.specs.declared.ended.Ended.{Ended}
use Rattle.heap_run.specs.declared.last_line.LastLine.{LastLine}
use Rattle.heap_run.specs.declared.last_line.LastLine.TheVariants as last
use Rattle.heap_run.specs.Texts.{last_bytes, status_of, sink_fault_status}

-- the most bytes of a source
abbrev pub source_most : ℕ
source_most = 1048576

-- the words ask for this
abbrev pub AsksFor : List (List ℕ) → Invocation → Type 0
AsksFor words asked = invocation_of words ≡ Some asked

-- what a source had left before a run and has after it, where it tells that, and its counts of faults
pub record Input : Type 0 where
  pub before : Option (List ℕ)
  pub after : Option (List ℕ)
  pub faults_before : ℕ
  pub faults_after : ℕ

-- the same by its parts
abbrev pub input_of : Option (List ℕ) → Option (List ℕ) → ℕ → ℕ → Input
input_of before after faults_before faults_after =
    record { before = before; after = after; faults_before = faults_before; faults_after = faults_after }

-- no read failed
abbrev pub NoReadFailed : Input → Type 0
NoReadFailed input = input.faults_after ≡ input.faults_before

-- these bytes are all that the source had left; they were read to their end, and no read failed
pub record ReadsAll (input : Input) (bytes : List ℕ) : Type 0 where
  pub all : IfSome input.before (λ left. bytes ≡ left)
  pub few : length bytes ≤ source_most
  pub none_left : IfSome input.before (λ _. input.after ≡ Some [])
  pub steady : NoReadFailed input

-- the source had more bytes than it may have; one byte more than that was read
pub record ReadsTooMany (input : Input) : Type 0 where
  pub many : IfSome input.before
      (λ left. (source_most < length left) × (input.after ≡ Some (drop (source_most + 1) left)))
  pub steady : NoReadFailed input

-- the last line of a source that is no script
abbrev pub refusal_of : BadScript → Option LastLine
refusal_of (bad.BadLine line why) = Some (last.BadScript line why)
refusal_of (bad.TooManyNames line) = Some (last.TooManyNames line)
refusal_of bad.NoMemory = None

-- the last line of a script that came to this at a line; a sink that failed is no end of a script
abbrev pub last_line_of : How → ℕ → LastLine
last_line_of how.End line = last.Nothing
last_line_of (how.Counted counts) line = last.Checked counts
last_line_of (how.Fault word) line = last.Fault line word
last_line_of (how.HeapFull need) line = last.HeapFull line
last_line_of (how.SinkFault need) line = last.Nothing
last_line_of how.LineLimit line = last.LineLimit line
last_line_of (how.Flawed flaw) line = last.Flawed flaw

-- The last line of a soak whose script came to this at a line, after so many executed lines that told these bytes: at
-- its end, where the heap was collected and counted, how many lines and bytes these are, the sum of the bytes, and what
-- was counted; at any other end that end's line.
abbrev pub soak_line_of : How → ℕ → ℕ → List ℕ → LastLine
soak_line_of (how.Counted counts) line executed bytes = last.Soaked (record {
  lines = executed;
  bytes = length bytes % 2 ^ 64;
  sum = sum bytes % 2 ^ 64;
  counts = counts;
})
soak_line_of came line executed bytes = last_line_of came line

-- nothing was read, or all was, for words that ask for the run of a script
abbrev pub ReadsNoneOrAll : List (List ℕ) → Input → Type 0
ReadsNoneOrAll words input =
    ((input.after ≡ input.before) × NoReadFailed input)
    ⊎ ((checks : Bool) × (sizes : Sizes) × (bytes : List ℕ) × AsksFor words (asked_run checks sizes)
    × ReadsAll input bytes)

-- What is told before the last line, the last line where the run comes to one, and the heap that is kept.
pub record Answer : Type 0 where
  pub told : List ℕ
  pub last : Option LastLine
  pub kept : Option Kept

-- an answer before a heap is opened: a last line, and nothing kept
abbrev pub unopened : LastLine → Answer
unopened line = record { told = []; last = Some line; kept = None }

-- The kept heap of a script that was run with these sizes: its regions are those of the sizes and of the script's
-- variables, and it shows the graph after the executed lines. It is an image of the heap to which these lines led,
-- which spent the words that they needed, of eden and of free runs. So all words that no cell uses are 0.
pub record IsKeptHeapOf (sizes : Sizes) (script : ScriptText) (kept : Kept) : Type 0 where
  pub regions : kept.image.regions ≡ record { sizes = sizes; variables = length script.variables }
  pub reached : RanTo script (image_heap kept.image) kept.executed
  pub last : Stage
  pub collections : Collections
  pub opened : Option Opening
  pub spends : Spends script last kept.executed collections opened
  pub free : AreFreeRuns last.heap last.rows
  pub image : IsImageOf last.heap (image_heap kept.image)

-- A run that is checked came to these counts of its last heap: an image of that is whole, and has these counts. It says
-- nothing of a judge: what the last heap keeps (`IsKeptHeapOf`) and these counts (`EndsRun`) say as much.
abbrev pub IsChecked : Bool → Heap → How → Type 0
IsChecked true heap (how.Counted counts) = (image : Heap) × IsImageOf heap image × IsCounted image counts
IsChecked checks heap came = Unit {0}

-- What a run comes to, by the words and the source.
pub data Comes (words : List (List ℕ)) (input : Input) : Answer → Type 0 where
  -- the words are refused, and nothing is read
  bad_words : invocation_of words ≡ None → input.after ≡ input.before → NoReadFailed input
      → Comes words input (unopened last.BadWords)
  -- memory was refused, which is free; but not where the words begin with no command, nor between two reads
  no_memory : IsTrue (begins_with_any commands words) → ReadsNoneOrAll words input
      → Comes words input (unopened last.NoMemory)
  -- a read failed
  read_fault : (checks : Bool) (sizes : Sizes) → AsksFor words (asked_run checks sizes)
      → Rose input.faults_before input.faults_after → Comes words input (unopened last.ReadFault)
  -- the source is too long
  too_long : (checks : Bool) (sizes : Sizes) → AsksFor words (asked_run checks sizes) → ReadsTooMany input
      → Comes words input (unopened last.SourceTooLong)
  -- the source is no script
  no_script : (checks : Bool) (sizes : Sizes) (bytes : List ℕ) (stop : BadScript) (line : LastLine)
      → AsksFor words (asked_run checks sizes) → ReadsAll input bytes → reading bytes ≡ Err stop
      → refusal_of stop ≡ Some line → Comes words input (unopened line)
  -- the source is a script, and its run, which is checked or not, came to an end
  ended : (checks : Bool) (sizes : Sizes) (bytes : List ℕ) (script : ScriptText) (kept : Kept) (came : How)
      → AsksFor words (asked_run checks sizes) → ReadsAll input bytes → reading bytes ≡ Ok script
      → (keeps : IsKeptHeapOf sizes script kept)
      → EndsRun checks script (image_heap kept.image) keeps.last.rows keeps.collections kept.executed
      keeps.reached.so_far came kept.line
      → IsChecked checks keeps.last.heap came
      → kept.need ≡ need_at came
      → Comes words input (record {
        told = keeps.reached.so_far.bytes;
        last = Some (last_line_of came kept.line);
        kept = Some kept;
      })
  -- the source is a script, and the sink failed between two of its lines, just where an output was due, and before the
  -- heap was collected for the next line
  cut_short : (checks : Bool) (sizes : Sizes) (bytes : List ℕ) (script : ScriptText) (kept : Kept)
      → AsksFor words (asked_run checks sizes) → ReadsAll input bytes → reading bytes ≡ Ok script
      → (keeps : IsKeptHeapOf sizes script kept) → kept.line ≡ 0 → kept.need ≡ 0 → keeps.collections ≡ uncollected
      → IsDue script kept.executed
      → Comes words input (record { told = keeps.reached.so_far.bytes; last = None; kept = Some kept })
  -- the words ask for a generated script, which is told; nothing is read, and no heap is opened
  generated : (seed forms : ℕ) → AsksFor words (Gen seed forms) → input.after ≡ input.before → NoReadFailed input
      → Comes words input (record { told = script_of_seed seed forms; last = Some last.Nothing; kept = None })
  -- the sink failed while it was told; then a front of the script is, and nothing behind it
  generated_in_part : (seed forms count : ℕ) → AsksFor words (Gen seed forms) → input.after ≡ input.before
      → NoReadFailed input
      → Comes words input (record { told = take count (script_of_seed seed forms); last = None; kept = None })
  -- the words ask for a soak: the generated script was run, and counted its heap at its end, and it came to an end;
  -- nothing is read, and of what the script tells only that line is told
  soaked : (sizes : Sizes) (seed forms : ℕ) (script : ScriptText) (kept : Kept) (came : How)
      → AsksFor words (Soak sizes seed forms) → input.after ≡ input.before → NoReadFailed input
      → reading (script_of_seed seed forms) ≡ Ok script
      → (keeps : IsKeptHeapOf sizes script kept)
      → EndsRun true script (image_heap kept.image) keeps.last.rows keeps.collections kept.executed
      keeps.reached.so_far came kept.line
      → kept.need ≡ need_at came
      → Comes words input (record {
        told = [];
        last = Some (soak_line_of came kept.line kept.executed keeps.reached.so_far.bytes);
        kept = Some kept;
      })

-- the bytes of a last line, if there is one
abbrev pub bytes_of : Option LastLine → List ℕ
bytes_of None = []
bytes_of (Some line) = last_bytes line

-- What the sink took of an answer, with which status. It took all, no write failed, and the status is that of the last
-- line. Or a write failed, and the status is 5: it took a front of the answer, not all of it; of what was told no more
-- is missing than one output holds.
pub data Taken (old new : List ℕ → Type 0) (faults_old faults_new : ℕ) : Answer → ℕ → Type 0 where
  all : (told : List ℕ) (line : LastLine) (kept : Option Kept)
      → Appends old new (told ++ last_bytes line) → faults_new ≡ faults_old
      → Taken old new faults_old faults_new (record { told = told; last = Some line; kept = kept }) (status_of line)
  front : (answer : Answer) → (some : AppendsSome old new (answer.told ++ bytes_of answer.last))
      → length answer.told ≤ some.count + OUTPUT_BYTES → Rose faults_old faults_new
      → Taken old new faults_old faults_new answer sink_fault_status

-- How a run ended, with this status and this heap, is what the words and the source come to, and the sink took of it
-- what it took.
pub record Answers (words : List (List ℕ)) (input : Input) (old new : List ℕ → Type 0) (faults_old faults_new : ℕ)
    (ended : Ended) : Type 0 where
  pub answer : Answer
  pub kept : answer.kept ≡ ended.kept
  pub comes : Comes words input answer
  pub taken : Taken old new faults_old faults_new answer ended.status

-- the same of a run, checked or not, whose source was read as these bytes, for all words that ask for it with these
-- sizes
pub record Runs (checks : Bool) (sizes : Sizes) (bytes : List ℕ) (old new : List ℕ → Type 0) (faults_old faults_new : ℕ)
    (ended : Ended) : Type 0 where
  pub answer : Answer
  pub kept : answer.kept ≡ ended.kept
  pub comes : (words : List (List ℕ)) (input : Input) → AsksFor words (asked_run checks sizes) → ReadsAll input bytes
      → Comes words input answer
  pub taken : Taken old new faults_old faults_new answer ended.status

-- the same of a generated script, for all words that ask for it, where nothing is read
pub record Generates (seed forms : ℕ) (old new : List ℕ → Type 0) (faults_old faults_new : ℕ)
    (ended : Ended) : Type 0 where
  pub answer : Answer
  pub kept : answer.kept ≡ ended.kept
  pub comes : (words : List (List ℕ)) (input : Input) → AsksFor words (Gen seed forms)
      → input.after ≡ input.before → NoReadFailed input → Comes words input answer
  pub taken : Taken old new faults_old faults_new answer ended.status

-- the same of a soak, for all words that ask for it, where nothing is read
pub record Soaks (sizes : Sizes) (seed forms : ℕ) (old new : List ℕ → Type 0) (faults_old faults_new : ℕ)
    (ended : Ended) : Type 0 where
  pub answer : Answer
  pub kept : answer.kept ≡ ended.kept
  pub comes : (words : List (List ℕ)) (input : Input) → AsksFor words (Soak sizes seed forms)
      → input.after ≡ input.before → NoReadFailed input → Comes words input answer
  pub taken : Taken old new faults_old faults_new answer ended.status
