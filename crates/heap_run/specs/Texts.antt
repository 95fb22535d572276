-- The last line of a run, and the status that goes with it.
use Rattle.std.specs.Prelude.{ℕ, List, [], ◌++◌, codes, decimal}
use Rattle.heap_command.specs.Commands.{fault_text}
use Rattle.object_graph.specs.Texts.{line}
use Rattle.script_text.specs.Grammar.{why_text}
use Rattle.heap_run.specs.declared.last_line.LastLine.{LastLine}
use Rattle.heap_run.specs.declared.last_line.LastLine.TheVariants.{Nothing, Fault, BadScript, TooManyNames, HeapFull}
use Rattle.heap_run.specs.declared.last_line.LastLine.TheVariants.{ReadFault, SourceTooLong, NoMemory, LineLimit}
use Rattle.heap_run.specs.declared.last_line.LastLine.TheVariants.{BadWords, Checked, Soaked, Flawed}

-- a head, the number of a line, and a reason
abbrev pub reason_line : List ℕ → ℕ → List ℕ → List ℕ
reason_line head number reason = line (head ++ decimal number ++ codes " " ++ reason)

-- a head and a number
abbrev pub numbered : List ℕ → ℕ → List ℕ
numbered head number = head ++ decimal number

-- a head, and how many objects and entries were counted of a heap
abbrev pub counts_line : List ℕ → ℕ → ℕ → List ℕ
counts_line head objects entries = line (numbered head objects ++ numbered (codes " entries ") entries)

-- The bytes of a last line. That of a flaw has the address of the word, what stands there, and what is asked for.
abbrev pub last_bytes : LastLine → List ℕ
last_bytes Nothing = []
last_bytes (Checked counts) = counts_line (codes "checked objects ") counts.objects counts.entries
last_bytes (Soaked soaked) =
    numbered (codes "lines ") soaked.lines ++ numbered (codes " bytes ") soaked.bytes
    ++ numbered (codes " sum ") soaked.sum
    ++ counts_line (codes " objects ") soaked.counts.objects soaked.counts.entries
last_bytes (Fault at word) = reason_line (codes "fault ") at (fault_text word)
last_bytes (BadScript at why) = reason_line (codes "bad script ") at (why_text why)
last_bytes (TooManyNames at) = reason_line (codes "bad script ") at (codes "names")
last_bytes (HeapFull at) = line (numbered (codes "heap full ") at)
last_bytes ReadFault = line (codes "read fault")
last_bytes SourceTooLong = line (codes "source too long")
last_bytes NoMemory = line (codes "no memory")
last_bytes (LineLimit at) = line (numbered (codes "line limit ") at)
last_bytes BadWords = line (codes "bad words")
last_bytes (Flawed flaw) =
    line (numbered (codes "flaw ") flaw.at ++ numbered (codes " ") flaw.found ++ numbered (codes " ") flaw.wanted)

-- the status of a run whose sink failed
abbrev pub sink_fault_status : ℕ
sink_fault_status = 5

-- the status of a run that has this last line
abbrev pub status_of : LastLine → ℕ
status_of Nothing = 0
status_of (Checked counts) = 0
status_of (Soaked soaked) = 0
status_of (Fault at word) = 1
status_of (BadScript at why) = 2
status_of (TooManyNames at) = 2
status_of (HeapFull at) = 3
status_of ReadFault = 4
status_of SourceTooLong = 6
status_of NoMemory = 7
status_of (LineLimit at) = 8
status_of BadWords = 64
status_of (Flawed flaw) = 70
