-- A run between two lines that are executed one after another: what was handed on, and what the output holds.
use Rattle.std.proofs.Common.{◌≡◌, ℕ, ◌+◌, ◌≤◌, Bool, false, List, [], ◌++◌, length, refl, sym, ap, subst}
use Rattle.std.proofs.Common.{cond, arith}
use Rattle.std.specs.Prelude.{nat_lt}
use Rattle.std.proofs.lemmas.Bool.Decides.{nat_tests}
use Rattle.script_text.specs.Scripts.{ScriptText}
use Rattle.collector.specs.States.{HeapState}
use Rattle.mutator.specs.declared.output.TheConstants.{OUTPUT_BYTES, ROOM}
use Rattle.heap_script.specs.Runs.{OutputHolds, TellsAt, waiting_of}
use Rattle.byte_ends.specs.Sink.{Appends}
use Rattle.heap_script.specs.Progress.{Handed}
use Rattle.heap_script.specs.Between.{Running, only}
use Rattle.heap_script.specs.Stages.{uncollected}

-- what a run told was handed on or waits: the first was taken
pub as_taken : {script : ScriptText} {heap : HeapState} {objects at n : ℕ} {waiting : List ℕ}
    {old new : List ℕ → Type 0} {ts : List ℕ} → (r : Running script heap objects waiting old new at ts n uncollected)
    → Running script heap objects waiting (only []) (only r.handed.handed) at ts n uncollected
as_taken r = record {
  reached = r.reached;
  opened = r.opened;
  spends = r.spends;
  ungranted = r.ungranted;
  shown = r.shown;
  left = r.left;
  handed = record {
    handed = r.handed.handed;
    taken = record { appended = λ before is. ap (λ (xs : List ℕ). xs ++ r.handed.handed) is };
    bytes = r.handed.bytes;
  };
  made = r.made;
  few = r.few;
  cycle = r.cycle;
  since = r.since;
}

-- where nothing was taken before, what is taken was handed on
taken_bytes : {taken waiting all : List ℕ} → (h : Handed (only []) (only taken) waiting all) → h.handed ≡ taken
taken_bytes h = h.taken.appended [] refl

-- and what was handed on is so still, if no more was
pub as_handed : {script : ScriptText} {heap : HeapState} {objects at n : ℕ} {waiting taken : List ℕ}
    {old new : List ℕ → Type 0} {ts : List ℕ} → Running script heap objects waiting (only [])
    (only taken) at ts n uncollected
    → Appends old new taken → Running script heap objects waiting old new at ts n uncollected
as_handed {taken = taken} {old} {new} r appends = record {
  reached = r.reached;
  opened = r.opened;
  spends = r.spends;
  ungranted = r.ungranted;
  shown = r.shown;
  left = r.left;
  handed = record {
    handed = r.handed.handed;
    taken = subst (Appends old new) (sym (taken_bytes r.handed)) appends;
    bytes = r.handed.bytes;
  };
  made = r.made;
  few = r.few;
  cycle = r.cycle;
  since = r.since;
}

-- an output that is not full holds what it held and what the next line writes behind it
pub holds_on : {script : ScriptText} (n : ℕ) (held text : List ℕ) → length held + ROOM ≤ OUTPUT_BYTES
    → OutputHolds script n held → TellsAt script n text → OutputHolds script (n + 1) (held ++ text)
holds_on {script} n held text room holds tells =
    let within : nat_lt OUTPUT_BYTES (length held + ROOM) ≡ false = grind (arith, nat_tests) in
    let waits : waiting_of held ≡ held = ap (λ (test : Bool). cond test [] held) within in
    subst (λ (waiting : List ℕ). OutputHolds script (n + 1) (waiting ++ text)) waits
    (OutputHolds.one_more n held text holds tells)
