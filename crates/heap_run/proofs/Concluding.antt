-- What a run on a heap comes to, once its last line is written.
use Rattle.std.proofs.Common.{◌≡◌, ◌≢◌, ℕ, Bool, ◌+◌, ◌≤◌, ◌⊎◌, inl, inr, List, [], length}
use Rattle.std.proofs.Common.{arith, Some, None, Ok, refl, subst, ◌∙◌}
use Rattle.script_text.specs.Scripts.{ScriptText}
use Rattle.script_text.specs.Grammar.{reading}
use Rattle.heap_model.specs.Types.{Sizes}
use Rattle.heap_model.specs.declared.image.HeapImage.{HeapImage}
use Rattle.heap_model.specs.Heaps.{Heap}
use Rattle.heap_model.specs.Images.{image_heap}
use Rattle.byte_ends.specs.Faults.{Rose}
use Rattle.byte_ends.specs.Sink.{Appends, AppendsSome}
use Rattle.byte_ends.proofs.Appending.{Appends-append}
use Rattle.heap_script.specs.declared.finished.How.{How}
use Rattle.heap_script.specs.declared.finished.How.TheVariants.{End, Counted, Fault, HeapFull, SinkFault, LineLimit}
use Rattle.heap_script.specs.declared.finished.How.TheVariants.{Flawed}
use Rattle.heap_script.specs.declared.finished.Finished.{Finished}
use Rattle.heap_script.specs.Reached.{RanTo}
use Rattle.heap_script.specs.Runs.{EndsRun, need_at, IsCut}
use Rattle.heap_script.proofs.Handing.{front-behind, front-longer}
use Rattle.heap_script.specs.TheConstants.{OUTPUT_BYTES}
use Rattle.heap_run.specs.declared.ended.Kept.{Kept}
use Rattle.heap_run.specs.declared.ended.Ended.{Ended}
use Rattle.heap_run.specs.Texts.{last_bytes, status_of, sink_fault_status}
use Rattle.heap_run.specs.Answers.{Answer, IsKeptHeapOf, IsChecked, Comes, Taken, Runs, last_line_of}
use Rattle.heap_run.proofs.Imaged.{LedTo, FinishesImaged}

-- what is kept of a run
abbrev pub kept_by : HeapImage → How → ℕ → ℕ → Kept
kept_by image how line executed = record { image = image; need = need_at how; line = line; executed = executed }

-- how a run ended, with this status and what is kept of it
abbrev pub ended_by : HeapImage → How → ℕ → ℕ → ℕ → Ended
ended_by image how line executed status = record { status = status; kept = Some (kept_by image how line executed) }

-- how a run finished, by its parts
abbrev pub finished_by : How → ℕ → ℕ → Finished
finished_by how line executed = record { how = how; line = line; executed = executed }

-- what the last line came to: all of it was written, or a front
pub record Lasts (how : How) (line : ℕ) (mid new : List ℕ → Type 0) (faults_mid faults_new status : ℕ) : Type 0 where
  pub written : status ≢ sink_fault_status → (status ≡ status_of (last_line_of how line))
      × Appends mid new (last_bytes (last_line_of how line)) × (faults_new ≡ faults_mid)
  pub failed : status ≡ sink_fault_status
      → AppendsSome mid new (last_bytes (last_line_of how line)) × Rose faults_mid faults_new

-- the image has the regions of these sizes and of the script's variables
pub record IsKeepable (sizes : Sizes) (script : ScriptText) (image : HeapImage) : Type 0 where
  pub regions : image.regions ≡ record { sizes = sizes; variables = length script.variables }

-- what is kept of a run that has come so far
abbrev pub keeps : {sizes : Sizes} {script : ScriptText} {image : HeapImage} (how : How) (line n : ℕ)
    → IsKeepable sizes script image → RanTo script (image_heap image) n → LedTo script (image_heap image) n
    → IsKeptHeapOf sizes script (kept_by image how line n)
keeps how line n is reached led = record {
  regions = is.regions;
  reached = reached;
  last = led.last;
  collections = led.collections;
  opened = led.opened;
  spends = led.spends;
  free = led.free;
  image = led.is;
}

-- a run that came to an end, and its last line
Runs-ended : (checks : Bool) (sizes : Sizes) (bytes : List ℕ) (script : ScriptText) (image : HeapImage) (how : How)
    (line n status : ℕ)
    (old mid new : List ℕ → Type 0) (faults_old faults_mid faults_new : ℕ) → reading bytes ≡ Ok script
    → IsKeepable sizes script image → (reached : RanTo script (image_heap image) n)
    → (led : LedTo script (image_heap image) n)
    → EndsRun checks script (image_heap image) led.last.rows led.collections n reached.so_far how line
    → IsChecked checks led.last.heap how → Appends old mid reached.so_far.bytes → faults_mid ≡ faults_old
    → Lasts how line mid new faults_mid faults_new status → (status ≡ sink_fault_status) ⊎ (status ≢ sink_fault_status)
    → Runs checks sizes bytes old new faults_old faults_new (ended_by image how line n status)
Runs-ended checks sizes bytes script image how line n status old mid new faults_old faults_mid faults_new
    is keepable reached led comes judged told steady lasts (inl five) =
    let (some, rose) = lasts.failed five in
    let last = last_line_of how line in
    let (all, count) = front-behind reached.so_far.bytes (last_bytes last) told some in
    let near : length reached.so_far.bytes ≤ all.count + OUTPUT_BYTES = omega (arith, count) in
    let kept = kept_by image how line n in
    let answer : Answer =
    record { told = reached.so_far.bytes; last = Some (last_line_of how line); kept = Some kept } in
    record {
      answer = answer;
      kept = refl;
      comes = λ words input asks reads.
          Comes.ended checks sizes bytes script kept how asks reads is (keeps how line n keepable reached led) comes
          judged refl;
      taken = rw five (Taken.front answer all near (subst (λ f. Rose f faults_new) steady rose));
    }
Runs-ended checks sizes bytes script image how line n status old mid new faults_old faults_mid faults_new
    is keepable reached led comes judged told steady lasts (inr other) =
    let (status-is, appends, same) = lasts.written other in
    let kept = kept_by image how line n in
    record {
      answer = record { told = reached.so_far.bytes; last = Some (last_line_of how line); kept = Some kept };
      kept = refl;
      comes = λ words input asks reads.
          Comes.ended checks sizes bytes script kept how asks reads is (keeps how line n keepable reached led) comes
          judged refl;
      taken = rw status-is
          (Taken.all reached.so_far.bytes (last_line_of how line) (Some kept)
          (Appends-append told appends) (same ∙ steady));
    }

-- A run finished, and whatever it came to, its last heap was judged, if it is checked and came to counts.
pub record FinishesJudged (checks : Bool) (script : ScriptText) (heap : Heap) (how : How) (line n : ℕ)
    (old new : List ℕ → Type 0) (faults_old faults_new : ℕ) : Type 0 where
  pub finishes : FinishesImaged checks script heap (finished_by how line n) old new faults_old faults_new
  pub judged : (came : How)
      → EndsRun checks script heap finishes.led.last.rows finishes.led.collections n finishes.reached.so_far came line
      → IsChecked checks finishes.led.last.heap came

-- a run that the sink cut short: between two lines, or at an end
Runs-cut : (checks : Bool) (sizes : Sizes) (bytes : List ℕ) (script : ScriptText) (image : HeapImage) (need line n : ℕ)
    (old new : List ℕ → Type 0) (faults_old faults_new : ℕ) → reading bytes ≡ Ok script
    → IsKeepable sizes script image
    → FinishesJudged checks script (image_heap image) (SinkFault need) line n old new faults_old faults_new
    → Runs checks sizes bytes old new faults_old faults_new (ended_by image (SinkFault need) line n sink_fault_status)
Runs-cut checks sizes bytes script image need line n old new faults_old faults_new is keepable ran =
    let f = ran.finishes in
    let (at, cut, rose) = f.writes in
    let told = f.reached.so_far.bytes in
    let kept = kept_by image (SinkFault need) line n in
    let kept_is = keeps (SinkFault need) line n keepable f.reached f.led in
    elim at [
      | inl (none, nothing, uncollected, due) ↦
          let (some, count) = front-longer told [] cut.some in
          let near : length told ≤ some.count + OUTPUT_BYTES = omega (arith, count, cut.near) in
          record {
            answer = record { told = told; last = None; kept = Some kept };
            kept = refl;
            comes = λ words input asks reads.
                Comes.cut_short checks sizes bytes script kept asks reads is kept_is none nothing uncollected due;
            taken = Taken.front (record { told = told; last = None; kept = Some kept }) some near rose;
          }
      | inr (came, comes, same) ↦
          let last = last_line_of came line in
          let (some, count) = front-longer told (last_bytes last) cut.some in
          let near : length told ≤ some.count + OUTPUT_BYTES = omega (arith, count, cut.near) in
          record {
            answer = record { told = told; last = Some last; kept = Some kept };
            kept = refl;
            comes = λ words input asks reads.
                Comes.ended checks sizes bytes script kept came asks reads is kept_is comes (ran.judged came comes)
                same;
            taken = Taken.front (record { told = told; last = Some last; kept = Some kept }) some near rose;
          }
    ]

-- a run on a heap, by how it finished and what the last line came to
pub Runs-finished : (checks : Bool) (sizes : Sizes) (bytes : List ℕ) (script : ScriptText) (image : HeapImage)
    (how : How) (line n status : ℕ)
    (old mid new : List ℕ → Type 0) (faults_old faults_mid faults_new : ℕ) → reading bytes ≡ Ok script
    → IsKeepable sizes script image
    → FinishesJudged checks script (image_heap image) how line n old mid faults_old faults_mid
    → (IsCut how → status ≡ sink_fault_status)
    → (IsCut how → FinishesJudged checks script (image_heap image) how line n old new faults_old faults_new)
    → (¬ IsCut how → Lasts how line mid new faults_mid faults_new status)
    → (status ≡ sink_fault_status) ⊎ (status ≢ sink_fault_status)
    → Runs checks sizes bytes old new faults_old faults_new (ended_by image how line n status)
Runs-finished checks sizes bytes script image End line n status old mid new fo fm fn is keepable ran five cut lasts
    dec =
    let f = ran.finishes in
    let (comes, told, steady) = f.writes in
    Runs-ended checks sizes bytes script image End line n status old mid new fo fm fn is keepable f.reached f.led
    comes (ran.judged End comes) told steady (lasts (λ no. no)) dec
Runs-finished checks sizes bytes script image (Fault word) line n status old mid new fo fm fn is keepable ran five cut
    lasts dec =
    let f = ran.finishes in
    let (comes, told, steady) = f.writes in
    Runs-ended checks sizes bytes script image (Fault word) line n status old mid new fo fm fn is keepable f.reached
    f.led comes (ran.judged (Fault word) comes) told steady (lasts (λ no. no)) dec
Runs-finished checks sizes bytes script image (Counted counts) line n status old mid new fo fm fn is keepable ran five
    cut lasts dec =
    let f = ran.finishes in
    let (comes, told, steady) = f.writes in
    Runs-ended checks sizes bytes script image (Counted counts) line n status old mid new fo fm fn is keepable f.reached
    f.led comes (ran.judged (Counted counts) comes) told steady (lasts (λ no. no)) dec
Runs-finished checks sizes bytes script image (Flawed flaw) line n status old mid new fo fm fn is keepable ran five cut
    lasts dec =
    absurd (ran.finishes.writes.0)
Runs-finished checks sizes bytes script image (HeapFull need) line n status old mid new fo fm fn is keepable ran five
    cut lasts dec =
    let f = ran.finishes in
    let (comes, told, steady) = f.writes in
    Runs-ended checks sizes bytes script image (HeapFull need) line n status old mid new fo fm fn is keepable f.reached
    f.led comes (ran.judged (HeapFull need) comes) told steady (lasts (λ no. no)) dec
Runs-finished checks sizes bytes script image (SinkFault need) line n status old mid new fo fm fn is keepable ran five
    cut lasts dec =
    rw (five tt) (Runs-cut checks sizes bytes script image need line n old new fo fn is keepable (cut tt))
Runs-finished checks sizes bytes script image LineLimit line n status old mid new fo fm fn is keepable ran five cut
    lasts dec =
    let f = ran.finishes in
    let (comes, told, steady) = f.writes in
    Runs-ended checks sizes bytes script image LineLimit line n status old mid new fo fm fn is keepable f.reached f.led
    comes (ran.judged LineLimit comes) told steady (lasts (λ no. no)) dec
