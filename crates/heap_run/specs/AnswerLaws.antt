-- What follows from what a run comes to: of which script a heap is kept, what is read then, at which status, and what
-- a full heap lacks.
use Rattle.std.specs.Prelude.{◌≡◌, ◌⊎◌, ℕ, Bool, List, [], ◌∷◌, Option, Some, None, IfSome, MatchOption, Contains}
use Rattle.std.specs.Prelude.{IsTrue}
use Rattle.std.specs.Prelude.{Result, Ok, Err}
use Rattle.heap_model.specs.Types.{Sizes, Run}
use Rattle.heap_model.specs.Heaps.{Heap}
use Rattle.heap_model.specs.Images.{image_heap}
use Rattle.heap_model.specs.Needs.{lacks_room}
use Rattle.heap_model.specs.Reaching.{IsTight}
use Rattle.free_runs.specs.FreeRuns.{FitsNowhere}
use Rattle.command_line.specs.declared.invocation.Invocation.{Invocation}
use Rattle.command_line.specs.declared.invocation.Invocation.TheVariants.{Gen}
use Rattle.command_line.specs.Invocations.{invocation_of}
use Rattle.script_text.specs.declared.script.BadScript.{BadScript}
use Rattle.script_text.specs.Scripts.{ScriptText}
use Rattle.script_text.specs.Grammar.{reading}
use Rattle.script_gen.specs.Generated.{generated as script_of_seed}
use Rattle.byte_ends.specs.Source.{IsInput}
use Rattle.heap_script.specs.declared.finished.How.TheVariants.{HeapFull}
use Rattle.heap_script.specs.Runs.{EndsRun}
use Rattle.heap_run.specs.declared.ended.Kept.{Kept}
use Rattle.heap_run.specs.declared.last_line.LastLine.{LastLine}
use Rattle.heap_run.specs.Texts.{status_of, sink_fault_status}
use Rattle.command_line.specs.Invocations.{asked_run}
use Rattle.command_line.specs.declared.invocation.Invocation.TheVariants.{Soak}
use Rattle.heap_run.specs.Answers.{AsksFor, Input, Answer, IsKeptHeapOf, Comes}

-- a heap is kept at the statuses of a script that was run, and none at the others; the sink may fail before or after
abbrev pub IsKeptAt : ℕ → Option Kept → Type 0
IsKeptAt status kept =
    MatchOption kept (Contains (2 ∷ 4 ∷ sink_fault_status ∷ 6 ∷ 7 ∷ 64 ∷ []) status)
    (λ _. Contains (0 ∷ 1 ∷ 3 ∷ sink_fault_status ∷ 8 ∷ []) status)

-- the same for what words ask for: of a generated script that is told no heap is kept
abbrev pub IsKeptBy : Option Invocation → ℕ → Option Kept → Type 0
IsKeptBy (Some (Gen seed forms)) status kept = kept ≡ None
IsKeptBy asked status kept = IsKeptAt status kept

-- the same for the words
abbrev pub IsKeptFor : List (List ℕ) → ℕ → Option Kept → Type 0
IsKeptFor words status kept = IsKeptBy (invocation_of words) status kept

-- These bytes are the script that the words ask to be run on a heap of these sizes: all that the source had left, or
-- the generated script of a seed.
abbrev pub IsScriptFor : List (List ℕ) → Option (List ℕ) → Sizes → List ℕ → Type 0
IsScriptFor words left sizes bytes =
    ((checks : Bool) × AsksFor words (asked_run checks sizes) × IsInput left bytes)
    ⊎ ((seed : ℕ) × (forms : ℕ) × AsksFor words (Soak sizes seed forms) × (bytes ≡ script_of_seed seed forms))

-- What was read is a script, and the heap that is kept of its run with these sizes shows the graph after the executed
-- lines.
abbrev pub KeepsGraph : Sizes → Result ScriptText BadScript → Kept → Type 0
KeepsGraph sizes (Ok script) kept = IsKeptHeapOf sizes script kept
KeepsGraph sizes (Err stop) kept = ⊥

-- A heap that is kept is of the script that the words ask to be run, with the sizes that they ask for.
abbrev pub KeptIsOfScript : Type 0
KeptIsOfScript =
    (words : List (List ℕ)) (input : Input) (answer : Answer) → Comes words input answer
    → IfSome answer.kept (λ kept. (sizes : Sizes) × (script : List ℕ) × IsScriptFor words input.before sizes script
    × KeepsGraph sizes (reading script) kept)

-- Where the words ask for the run of a source, and a heap is kept, nothing of the source is left.
abbrev pub KeptWasRead : Type 0
KeptWasRead =
    (words : List (List ℕ)) (input : Input) (answer : Answer) → Comes words input answer → (checks : Bool)
    (sizes : Sizes) → AsksFor words (asked_run checks sizes)
    → IfSome answer.kept (λ _. IfSome input.before (λ _. input.after ≡ Some []))

-- The heap has no room for so many words in any part: survivors, used words and these are more than the words of the
-- young generation, each young cell is reached from a variable or a slot of a page, and no free run has so many words.
pub record HasNoRoom (heap : Heap) (rows : List (List Run)) (need : ℕ) : Type 0 where
  pub lacks : IsTrue (lacks_room heap need)
  pub tight : IsTight heap
  pub runs : FitsNowhere rows need

-- So it is with a heap that is kept of a run that came to a full heap.
abbrev pub FullHasNoRoom : Type 0
FullHasNoRoom =
    (counted : Bool) (sizes : Sizes) (script : ScriptText) (kept : Kept) (line need : ℕ)
    (keeps : IsKeptHeapOf sizes script kept)
    → EndsRun counted script (image_heap kept.image) keeps.last.rows keeps.collections kept.executed
    keeps.reached.so_far
    (HeapFull need) line
    → HasNoRoom (image_heap kept.image) keeps.last.rows need

-- the status of an answer: that of its last line, or that of a sink that failed
abbrev pub IsStatusOf : Answer → ℕ → Type 0
IsStatusOf answer status =
    (status ≡ sink_fault_status) ⊎ ((line : LastLine) × (answer.last ≡ Some line) × (status ≡ status_of line))

-- Whether a heap is kept goes with the status.
abbrev pub KeptGoesWithStatus : Type 0
KeptGoesWithStatus =
    (words : List (List ℕ)) (input : Input) (answer : Answer) (status : ℕ) → Comes words input answer
    → IsStatusOf answer status → IsKeptFor words status answer.kept
