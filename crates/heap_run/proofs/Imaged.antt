-- What holds of a run on a heap holds of its image.
use Rattle.std.proofs.Common.{◌≡◌, ℕ, Bool, zero, suc, ◌+◌, ◌≤◌, List, Option, Some, None, ap, ◌∙◌, sym}
use Rattle.std.proofs.Common.{subst, inl, inr, IsTrue, arith}
use Rattle.std.proofs.Common.{nat_lt}
use Rattle.std.proofs.lemmas.Bool.Decides.{nat_tests}
use Rattle.heap_model.specs.Types.{Command, Run}
use Rattle.page_space.specs.Extents.{Space}
use Rattle.free_runs.specs.FreeRuns.{AreFree, FitsNowhere}
use Rattle.object_graph.specs.Graphs.{Graph}
use Rattle.script_text.specs.Scripts.{ScriptText}
use Rattle.heap_model.specs.Heaps.{Heap}
use Rattle.heap_model.specs.Wholeness.{Whole}
use Rattle.heap_model.specs.Collectable.{AreFreeRuns}
use Rattle.heap_model.specs.Needs.{lacks_room}
use Rattle.heap_model.specs.Showing.{Shows}
use Rattle.live_cells.specs.Exact.{Fits}
use Rattle.live_cells.specs.Fitting.{DeadIsFree, NoRunFitsNone}
use Rattle.live_cells.proofs.DeadWords.{no_run_fits_none}
use Rattle.collector.specs.Born.{Opening}
use Rattle.collector.specs.Images.{IsImageOf}
use Rattle.collector.proofs.ImagesShow.{images_show}
use Rattle.collector.proofs.ImageStores.{images_have_rooms}
use Rattle.collector.proofs.ImagesStuck.{images_stay_stuck}
use Rattle.collector.proofs.ImagesExact.{images_are_exact, images_keep_dead}
use Rattle.collector.specs.ImageLaws.{ImagesShow, ImagesHaveRooms, ImagesStayStuck}
use Rattle.collector.specs.ImageLaws.{ImagesAreExact, ImagesKeepDead}
use Rattle.heap_script.specs.declared.finished.How.{How}
use Rattle.heap_script.specs.declared.finished.How.TheVariants as how
use Rattle.heap_script.specs.declared.finished.Finished.{Finished}
use Rattle.heap_script.specs.Stages.{Stage, Collections, fully_collected}
use Rattle.heap_script.specs.Reached.{RanTo}
use Rattle.heap_script.specs.Spending.{HoldsOfNeed, Spends}
use Rattle.heap_script.specs.Runs.{IsFull, EndsRun, FailedAt, Writes, Finishes}
use Rattle.heap_run.proofs.FullHeaps.{HasRuns, lacks_them, runs_lack_them, behind_full}

-- the laws of images, and that words fit nowhere which no run has
pub record Laws : Type 0 where
  pub show : ImagesShow
  pub rooms : ImagesHaveRooms
  pub stuck : ImagesStayStuck
  pub exact : ImagesAreExact
  pub dead : ImagesKeepDead
  pub nowhere : NoRunFitsNone

-- they hold
pub laws_hold : Laws
laws_hold = record {
  show = images_show;
  rooms = images_have_rooms;
  stuck = images_stay_stuck;
  exact = images_are_exact;
  dead = images_keep_dead;
  nowhere = no_run_fits_none;
}

-- the run has come so far on the image too
abbrev pub reached_imaged : {script : ScriptText} {heap image : Heap} {n : ℕ} → Laws → IsImageOf heap image
    → RanTo script heap n → RanTo script image n
reached_imaged {heap = heap} {image = image} laws is r = record {
  within = r.within;
  few = r.few;
  variables = ap (λ (space : Space). space.variables) is.space ∙ r.variables;
  so_far = r.so_far;
  said = r.said;
  shown = laws.show heap image r.so_far.graph r.shown is;
}

-- The lines led to a heap, by which they spent the words that they needed, and the heap that is kept is an image of it.
pub record LedTo (script : ScriptText) (image : Heap) (executed : ℕ) : Type 0 where
  pub last : Stage
  pub collections : Collections
  pub opened : Option Opening
  pub spends : Spends script last executed collections opened
  pub free : AreFreeRuns last.heap last.rows
  pub is : IsImageOf last.heap image

-- a run finished on an image of its heap
pub record FinishesImaged (checks : Bool) (script : ScriptText) (image : Heap) (finished : Finished)
    (old new : List ℕ → Type 0) (faults_old faults_new : ℕ) : Type 0 where
  pub reached : RanTo script image finished.executed
  pub led : LedTo script image finished.executed
  pub writes : Writes checks script image led.last.rows led.collections finished reached.so_far old new faults_old
      faults_new finished.how

-- where no word more is wanted, a whole heap does not lack it
none_lacks : {heap : Heap} → Whole heap → IsTrue (lacks_room heap 0) → ⊥
none_lacks {heap} whole lacks =
    let few : heap.survivors + heap.used ≤ heap.space.sizes.young = whole.rows.few in
    grind (arith, nat_tests)

-- words for which a whole heap has no room, and which no run has, fit nowhere
nowhere : {heap : Heap} {rows : List (List Run)} (need : ℕ) → NoRunFitsNone → Whole heap → AreFree rows
    → DeadIsFree heap rows → FitsNowhere rows need → IsTrue (lacks_room heap need) → Fits heap need → ⊥
nowhere zero law whole apart dead runs lacks fits = none_lacks whole lacks
nowhere {heap} {rows} (suc n) law whole apart dead runs lacks fits =
    law heap rows (suc n) (omega arith) apart dead runs lacks fits

-- an image is as full as the heap
as_full : {heap image : Heap} {rows : List (List Run)} {graph : Graph} (need : ℕ) → Laws → Shows heap graph
    → HasRuns heap rows → IsImageOf heap image → IsFull heap rows graph need → IsFull image rows graph need
as_full {heap} {image} {rows} {graph} need laws shows runs is full =
    let whole = shows.whole in
    let lacked = lacks_them {heap = heap} need full.full in
    let shorter = runs_lack_them {heap = heap} {rows = rows} need whole.rows runs full.full in
    let space : heap.space ≡ image.space = sym is.space in
    let survivors : heap.survivors ≡ image.survivors = sym is.survivors in
    let used : heap.used ≡ image.used = sym is.used in
    let lacks : IsTrue (lacks_room image need) =
    subst (λ (s : Space). IsTrue (nat_lt s.sizes.young (image.survivors + image.used + need))) space
    (subst (λ (n : ℕ). IsTrue (nat_lt heap.space.sizes.young (n + image.used + need))) survivors
    (subst (λ (n : ℕ). IsTrue (nat_lt heap.space.sizes.young (heap.survivors + n + need))) used lacked)) in
    let dead = laws.dead heap image rows whole full.dead is in
    record {
      exact = laws.exact heap image graph full.exact is;
      full = nowhere need laws.nowhere (laws.show heap image graph shows is).whole runs.apart dead shorter lacks;
      empty = is.used ∙ full.empty;
      dead = dead;
      stuck = laws.stuck heap image rows whole full.stuck is;
    }

-- the command of a line needs as many words on it
as_needy : {heap image : Heap} (graph : Graph) (need : ℕ) (command : Option Command) → Laws → Shows heap graph
    → IsImageOf heap image → HoldsOfNeed heap graph command (λ words. need ≡ words)
    → HoldsOfNeed image graph command (λ words. need ≡ words)
as_needy graph need None laws shows is needs = needs
as_needy {heap = heap} {image = image} graph need (Some command) laws shows is needs =
    λ rooms has. needs rooms ((laws.rooms heap image graph rooms shows is).1 has)

-- a run comes to the same on the image
comes_imaged : (checks : Bool) {script : ScriptText} {heap image : Heap} {n : ℕ} (rows : List (List Run))
    (collections : Collections)
    (came : How) (line : ℕ) → Laws → IsImageOf heap image → (collections ≡ fully_collected → HasRuns heap rows)
    → (r : RanTo script heap n) → EndsRun checks script heap rows collections n r.so_far came line
    → EndsRun checks script image rows collections n r.so_far came line
comes_imaged checks rows collections how.End line laws is apart r comes = comes
comes_imaged checks rows collections (how.Fault word) line laws is apart r comes = comes
comes_imaged checks {script = script} {heap = heap} {image = image} {n = n} rows collections
    (how.HeapFull need) line laws is
    apart r comes =
    record {
      goes_on = comes.goes_on;
      at = comes.at;
      next = comes.next;
      number = comes.number;
      needs = as_needy {heap = heap} {image = image} r.so_far.graph need comes.at.command laws r.shown is comes.needs;
      full = as_full need laws r.shown (apart comes.collected) is comes.full;
      collected = comes.collected;
    }
comes_imaged checks rows collections (how.SinkFault need) line laws is apart r comes = comes
comes_imaged checks rows collections how.LineLimit line laws is apart r comes = comes
comes_imaged checks rows collections (how.Counted counts) line laws is apart r comes = comes
comes_imaged checks rows collections (how.Flawed flaw) line laws is apart r comes = comes

-- the sink failed where it failed
failed_imaged : (checks : Bool) {script : ScriptText} {heap image : Heap} {n : ℕ} (rows : List (List Run))
    (collections : Collections)
    (line need : ℕ)
    → Laws → IsImageOf heap image → (collections ≡ fully_collected → HasRuns heap rows) → (r : RanTo script heap n)
    → FailedAt checks script heap rows collections n r.so_far line need
    → FailedAt checks script image rows collections n r.so_far line need
failed_imaged checks rows collections line need laws is apart r (inl between) = inl between
failed_imaged checks rows collections line need laws is apart r (inr (came, comes, same)) =
    inr (came, comes_imaged checks rows collections came line laws is apart r comes, same)

-- what was written was written
pub writes_imaged : (checks : Bool) {script : ScriptText} {heap image : Heap} (rows : List (List Run))
    (collections : Collections)
    (came : How) (finished : Finished) (old new : List ℕ → Type 0) (faults_old faults_new : ℕ) → Laws
    → IsImageOf heap image
    → (collections ≡ fully_collected → HasRuns heap rows) → (r : RanTo script heap finished.executed)
    → Writes checks script heap rows collections finished r.so_far old new faults_old faults_new came
    → Writes checks script image rows collections finished r.so_far old new faults_old faults_new came
writes_imaged checks rows collections how.End finished old new fo fn laws is apart r (comes, appends, steady) =
    (comes_imaged checks rows collections how.End finished.line laws is apart r comes, appends, steady)
writes_imaged checks rows collections (how.Fault word) finished old new fo fn laws is apart r (comes, appends, steady) =
    (comes_imaged checks rows collections (how.Fault word) finished.line laws is apart r comes, appends, steady)
writes_imaged checks rows collections (how.HeapFull need) finished old new fo fn laws is apart r
    (comes, appends, steady) =
    (comes_imaged checks rows collections (how.HeapFull need) finished.line laws is apart r comes, appends, steady)
writes_imaged checks rows collections (how.SinkFault need) finished old new fo fn laws is apart r (failed, cut, rose) =
    (failed_imaged checks rows collections finished.line need laws is apart r failed, cut, rose)
writes_imaged checks rows collections how.LineLimit finished old new fo fn laws is apart r (comes, appends, steady) =
    (comes_imaged checks rows collections how.LineLimit finished.line laws is apart r comes, appends, steady)
writes_imaged checks rows collections (how.Counted counts) finished old new fo fn laws is apart r
    (comes, appends, steady) =
    (comes_imaged checks rows collections (how.Counted counts) finished.line laws is apart r comes, appends, steady)
writes_imaged checks rows collections (how.Flawed flaw) finished old new fo fn laws is apart r
    (comes, appends, steady) =
    absurd (comes)

-- the run finishes on the image as on the heap
abbrev pub finishes_imaged : (checks : Bool) {script : ScriptText} {stage : Stage} {image : Heap} (finished : Finished)
    (old new : List ℕ → Type 0)
    (faults_old faults_new : ℕ) → Laws → IsImageOf stage.heap image
    → Finishes checks script stage finished old new faults_old faults_new
    → FinishesImaged checks script image finished old new faults_old faults_new
finishes_imaged checks {stage = stage} finished old new fo fn laws is f = record {
  reached = reached_imaged laws is f.reached;
  led = record {
    last = stage;
    collections = f.collections;
    opened = f.opened;
    spends = f.spends;
    free = f.free;
    is = is;
  };
  writes = writes_imaged checks stage.rows f.collections finished.how finished old new fo fn laws is
      (λ full. record { apart = (behind_full f.spends full).apart; free = f.free }) f.reached f.writes;
}
