-- A heap that is full for words has no room for them in any part.
use Rattle.std.proofs.Common.{◌≡◌, ℕ, ◌+◌, ◌<◌, List, [], Option, Some, inl, inr, IsTrue, Contains, get_or, ◌∙◌}
use Rattle.std.proofs.Common.{length, sym, subst, arith}
use Rattle.std.proofs.lemmas.Bool.{cases_lt}
use Rattle.std.proofs.lemmas.Bool.Decides.{nat_tests}
use Rattle.std.proofs.lemmas.Option.{slice_get-get_or}
use Rattle.heap_model.specs.Types.{Run}
use Rattle.free_runs.specs.FreeRuns.{AreFree, FitsNowhere, row_of}
use Rattle.script_text.specs.Scripts.{ScriptText}
use Rattle.heap_model.specs.Heaps.{Heap}
use Rattle.heap_model.specs.Wholeness.{Whole, HasRows}
use Rattle.heap_model.specs.Collectable.{AreFreeRuns}
use Rattle.heap_model.specs.Needs.{lacks_room}
use Rattle.heap_model.specs.Reaching.{IsTight}
use Rattle.live_cells.specs.Exact.{Fits}
use Rattle.live_cells.proofs.DeadWords.{runs_fit}
use Rattle.live_cells.proofs.SameNumbers.{all_from_each}
use Rattle.collector.specs.Born.{Opening}
use Rattle.heap_script.specs.Stages.{Stage, Collections, fully_collected}
use Rattle.heap_script.specs.Spending.{Spends}

-- free runs of a heap that neither overlap nor touch
pub record HasRuns (heap : Heap) (rows : List (List Run)) : Type 0 where
  pub apart : AreFree rows
  pub free : AreFreeRuns heap rows

-- words that don't fit are over the young generation
pub lacks_them : {heap : Heap} (n : ℕ) → (Fits heap n → ⊥) → IsTrue (lacks_room heap n)
lacks_them {heap} n full = elim (cases_lt heap.space.sizes.young (heap.survivors + heap.used + n)) [
  | inl over ↦ grind (arith, nat_tests)
  | inr within ↦ absurd (full (Fits.young within))
]

-- and each free run has fewer
shorter : {heap : Heap} {rows : List (List Run)} (page n : ℕ) (run : Run) → HasRows heap → HasRuns heap rows
    → (Fits heap n → ⊥) → Contains (row_of rows page) run → run.words < n
shorter {heap} {rows} page n run is_rows runs full there = elim (cases_lt run.words n) [
  | inl less ↦ less
  | inr enough ↦ absurd (full (runs_fit heap rows page run n is_rows runs.apart runs.free there enough))
]

-- a row is the same, whatever stands for one that is not there
same_row : (rows : List (List Run)) (page : ℕ) (default : List Run) → page < length rows
    → get_or rows page default ≡ row_of rows page
same_row rows page default within =
    let one = slice_get-get_or rows page default within in
    let two = slice_get-get_or rows page [] within in
    let same : Some (get_or rows page default) ≡ Some (row_of rows page) = sym one ∙ two in
    cc

-- so no run has them
pub runs_lack_them : {heap : Heap} {rows : List (List Run)} (n : ℕ) → HasRows heap → HasRuns heap rows
    → (Fits heap n → ⊥) → FitsNowhere rows n
runs_lack_them {heap} {rows} n is_rows runs full page default within =
    all_from_each (λ (run : Run). run.words < n) (get_or rows page default)
    (λ run there.
    shorter {heap = heap} {rows = rows} page n run is_rows runs full
    (subst (λ (row : List Run). Contains row run) (same_row rows page default within) there))

-- What holds of a stage where a full collection came since the last line.
pub record IsBehindFull (stage : Stage) : Type 0 where
  pub whole : Whole stage.heap
  pub apart : AreFree stage.rows
  pub tight : IsTight stage.heap

-- it holds
pub behind_full : {script : ScriptText} {stage : Stage} {n : ℕ} {collections : Collections} {opened : Option Opening}
    → Spends script stage n collections opened → collections ≡ fully_collected → IsBehindFull stage
behind_full (Spends.none stage unused none rows free reached) is = absurd (cc)
behind_full (Spends.one_more old new n before opened line spends next reached after does) is = absurd (cc)
behind_full (Spends.once old new n opened spends reached wants after collected) is = absurd (cc)
behind_full (Spends.twice old new n opened spends reached lacks after collected) is =
    record { whole = after.shown.whole; apart = collected.apart; tight = collected.tight }
behind_full (Spends.cleared old new n opened spends reached wants after collected) is =
    record { whole = after.shown.whole; apart = collected.apart; tight = collected.tight }
behind_full (Spends.finally old new n opened spends reached ends after collected) is = absurd (cc)
