-- A run that has paused, once its last bytes are handed on.
use Rattle.std.proofs.Common.{◌≡◌, ℕ, Bool, List, inl, inr, refl, subst, ◌∙◌}
use Rattle.script_text.specs.Scripts.{ScriptText}
use Rattle.object_graph.specs.Run.{Told}
use Rattle.heap_model.specs.Types.{Run}
use Rattle.heap_model.specs.Heaps.{Heap}
use Rattle.write_barrier.specs.MutatorState.{heap_of}
use Rattle.collector.specs.States.{HeapState}
use Rattle.byte_ends.specs.Faults.{Rose}
use Rattle.byte_ends.specs.Sink.{Appends}
use Rattle.heap_script.specs.declared.finished.How.{How}
use Rattle.heap_script.specs.declared.finished.How.TheVariants.{End, Counted, Fault, HeapFull, SinkFault, LineLimit}
use Rattle.heap_script.specs.declared.finished.How.TheVariants.{Flawed}
use Rattle.heap_script.specs.declared.finished.Finished.{Finished}
use Rattle.heap_script.specs.Stages.{Collections, uncollected, stage_of}
use Rattle.heap_script.specs.Runs.{Finishes, Writes, need_at, EndsRun, CutsOff}
use Rattle.heap_script.specs.Progress.{Pauses, Handed}
use Rattle.heap_script.proofs.Handing.{Appends-handed, CutsOff-handed}

-- how a run finished, by its parts
abbrev pub finished_by : How → ℕ → ℕ → Finished
finished_by how line executed = record { how = how; line = line; executed = executed }

-- the sink failed between two lines, behind the collections that came before it did
pub Finishes-cut : (counted : Bool) (script : ScriptText) (heap : HeapState) (waiting : List ℕ) (how : How)
    (line n need : ℕ)
    (old new : List ℕ → Type 0) (faults_old faults_new : ℕ) → how ≡ SinkFault need
    → Pauses counted script heap waiting (finished_by how line n) old new faults_old faults_new
    → (finishes : Finishes counted script (stage_of heap.main) (finished_by how line n) old new faults_old faults_new)
    × (finishes.collections ≡ uncollected)
Finishes-cut counted script heap waiting End line n need old new faults_old faults_new is p = absurd (cc)
Finishes-cut counted script heap waiting (Fault word) line n need old new faults_old faults_new is p = absurd (cc)
Finishes-cut counted script heap waiting (HeapFull words) line n need old new faults_old faults_new is p = absurd (cc)
Finishes-cut counted script heap waiting (SinkFault none) line n need old new faults_old faults_new is p =
    let (between, some, rose) = p.halts in (
      record {
        reached = p.reached;
        collections = p.collections;
        opened = p.opened;
        spends = p.spends;
        free = p.shown.main.free;
        writes = (inl between, some, rose);
      },
      between.2,
    )
Finishes-cut counted script heap waiting LineLimit line n need old new faults_old faults_new is p = absurd (cc)
Finishes-cut counted script heap waiting (Counted counts) line n need old new faults_old faults_new is p = absurd (cc)
Finishes-cut counted script heap waiting (Flawed flaw) line n need old new faults_old faults_new is p = absurd (cc)

-- a run that paused at an end: what it came to, what was handed on, and that no write failed
pub record PausedAt (counted : Bool) (script : ScriptText) (heap : HeapState) (waiting : List ℕ) (how : How)
    (line n : ℕ)
    (old mid : List ℕ → Type 0) (faults_old faults_mid : ℕ)
    (paused : Pauses counted script heap waiting (finished_by how line n) old mid faults_old faults_mid) : Type 0 where
  pub comes : EndsRun counted script (heap_of heap.main) heap.main.free paused.collections n paused.reached.so_far how
      line
  pub handed : Handed old mid waiting paused.reached.so_far.bytes
  pub steady : faults_mid ≡ faults_old

-- each pause but at a failed sink is at an end
pub paused_at : (counted : Bool) (script : ScriptText) (heap : HeapState) (waiting : List ℕ) (how : How) (line n : ℕ)
    (old mid : List ℕ → Type 0) (faults_old faults_mid : ℕ) → ((need : ℕ) → how ≡ SinkFault need → ⊥)
    → (p : Pauses counted script heap waiting (finished_by how line n) old mid faults_old faults_mid)
    → PausedAt counted script heap waiting how line n old mid faults_old faults_mid p
paused_at counted script heap waiting End line n old mid faults_old faults_mid other p =
    record { comes = p.halts.0; handed = p.halts.1; steady = p.halts.2 }
paused_at counted script heap waiting (Fault word) line n old mid faults_old faults_mid other p =
    record { comes = p.halts.0; handed = p.halts.1; steady = p.halts.2 }
paused_at counted script heap waiting (HeapFull need) line n old mid faults_old faults_mid other p =
    record { comes = p.halts.0; handed = p.halts.1; steady = p.halts.2 }
paused_at counted script heap waiting (SinkFault need) line n old mid faults_old faults_mid other p =
    absurd (other need refl)
paused_at counted script heap waiting LineLimit line n old mid faults_old faults_mid other p =
    record { comes = p.halts.0; handed = p.halts.1; steady = p.halts.2 }
paused_at counted script heap waiting (Counted counts) line n old mid faults_old faults_mid other p =
    record { comes = p.halts.0; handed = p.halts.1; steady = p.halts.2 }
paused_at counted script heap waiting (Flawed flaw) line n old mid faults_old faults_mid other p = absurd (p.halts.0)

-- so the run finishes where what it told was written
pub writes_at : (counted : Bool) (script : ScriptText) (heap : Heap) (rows : List (List Run))
    (collections : Collections)
    (how : How) (line n : ℕ) (so_far : Told) (old new : List ℕ → Type 0) (faults_old faults_new : ℕ)
    → EndsRun counted script heap rows collections n so_far how line → Appends old new so_far.bytes
    → faults_new ≡ faults_old
    → Writes counted script heap rows collections (finished_by how line n) so_far old new faults_old faults_new how
writes_at counted script heap rows collections End line n so_far old new fo fn comes wrote same = (comes, wrote, same)
writes_at counted script heap rows collections (Counted counts) line n so_far old new fo fn comes wrote same =
    (comes, wrote, same)
writes_at counted script heap rows collections (Fault word) line n so_far old new fo fn comes wrote same =
    (comes, wrote, same)
writes_at counted script heap rows collections (HeapFull need) line n so_far old new fo fn comes wrote same =
    (comes, wrote, same)
writes_at counted script heap rows collections (SinkFault need) line n so_far old new fo fn comes wrote same =
    absurd (comes)
writes_at counted script heap rows collections LineLimit line n so_far old new fo fn comes wrote same =
    (comes, wrote, same)
writes_at counted script heap rows collections (Flawed flaw) line n so_far old new fo fn comes wrote same =
    absurd (comes)

-- what waited was written
abbrev pub Finishes-written : (counted : Bool) (script : ScriptText) (heap : HeapState) (waiting : List ℕ) (how : How)
    (line n : ℕ)
    (old mid new : List ℕ → Type 0) (faults_old faults_mid faults_new : ℕ)
    → ((need : ℕ) → how ≡ SinkFault need → ⊥)
    → Pauses counted script heap waiting (finished_by how line n) old mid faults_old faults_mid
    → Appends mid new waiting → faults_new ≡ faults_mid
    → Finishes counted script (stage_of heap.main) (finished_by how line n) old new faults_old faults_new
Finishes-written counted script heap waiting how line n old mid new faults_old faults_mid faults_new other p wrote
    same =
    let at = paused_at counted script heap waiting how line n old mid faults_old faults_mid other p in
    record {
      reached = p.reached;
      collections = p.collections;
      opened = p.opened;
      spends = p.spends;
      free = p.shown.main.free;
      writes = writes_at counted script (heap_of heap.main) heap.main.free p.collections how line n p.reached.so_far old
          new faults_old faults_new at.comes (Appends-handed at.handed wrote) (same ∙ at.steady);
    }

-- writing what waited failed
abbrev pub Finishes-failed : (counted : Bool) (script : ScriptText) (heap : HeapState) (waiting : List ℕ) (how : How)
    (line n : ℕ)
    (old mid new : List ℕ → Type 0) (faults_old faults_mid faults_new : ℕ)
    → ((need : ℕ) → how ≡ SinkFault need → ⊥)
    → Pauses counted script heap waiting (finished_by how line n) old mid faults_old faults_mid
    → CutsOff mid new waiting → Rose faults_mid faults_new
    → Finishes counted script (stage_of heap.main) (finished_by (SinkFault (need_at how)) line n) old new faults_old
    faults_new
Finishes-failed counted script heap waiting how line n old mid new faults_old faults_mid faults_new other p wrote rose =
    let at = paused_at counted script heap waiting how line n old mid faults_old faults_mid other p in
    record {
      reached = p.reached;
      collections = p.collections;
      opened = p.opened;
      spends = p.spends;
      free = p.shown.main.free;
      writes = (
        inr (how, at.comes, refl),
        CutsOff-handed at.handed wrote,
        subst (λ before. Rose before faults_new) at.steady rose,
      );
    }
