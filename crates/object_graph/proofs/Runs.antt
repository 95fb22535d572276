-- A run, line by line.
use Rattle.std.proofs.Common.{◌≡◌, ℕ, List, [], ◌∷◌, ◌++◌, Option, Some, None, refl}
use Rattle.std.specs.Option.{option_and_then}
use Rattle.heap_command.specs.Executed.{Executed}
use Rattle.object_graph.specs.Meaning.{Limits}
use Rattle.object_graph.specs.Run.{Told, untold, tell, run_of, run_from}

-- where some lines more go on from what was told, if anything was
abbrev goes_on : Limits → List (List ℕ) → List Executed → Option Told → Option Told
goes_on limits names lines so_far = option_and_then (λ later. run_from limits names later lines) so_far

-- no line more leaves what was told
run_from-nil : (limits : Limits) (names : List (List ℕ)) (next : Option Told) → goes_on limits names [] next ≡ next
run_from-nil limits names None = refl
run_from-nil limits names (Some so_far) = refl

-- the run from some point on after one line more is that line after the run
pub run_from-push : (limits : Limits) (names : List (List ℕ)) (so_far : Told) (lines : List Executed) (line : Executed)
    → run_from limits names so_far (lines ++ line ∷ [])
    ≡ option_and_then (λ later. tell limits names later line.command) (run_from limits names so_far lines)
run_from-push limits names so_far [] line = run_from-nil limits names (tell limits names so_far line.command)
run_from-push limits names so_far (first ∷ lines) line =
    elim (tell limits names so_far first.command) as (λ next.
    goes_on limits names (lines ++ line ∷ []) next
    ≡ option_and_then (λ later. tell limits names later line.command) (goes_on limits names lines next)) [
      | None ↦ refl
      | Some next ↦ run_from-push limits names next lines line
    ]

-- the run from the start after one line more is that line after the run
pub run_of-push : (limits : Limits) (names : List (List ℕ)) (lines : List Executed) (line : Executed)
    → run_of limits names (lines ++ line ∷ [])
    ≡ option_and_then (λ so_far. tell limits names so_far line.command) (run_of limits names lines)
run_of-push limits names lines line = run_from-push limits names untold lines line

-- the run from some point on after more lines is those lines after the run
pub run_from-append : (limits : Limits) (names : List (List ℕ)) (so_far : Told) (lines more : List Executed)
    → run_from limits names so_far (lines ++ more)
    ≡ option_and_then (λ later. run_from limits names later more) (run_from limits names so_far lines)
run_from-append limits names so_far [] more = refl
run_from-append limits names so_far (first ∷ lines) more =
    elim (tell limits names so_far first.command) as (λ next.
    goes_on limits names (lines ++ more) next ≡ goes_on limits names more (goes_on limits names lines next)) [
      | None ↦ refl
      | Some next ↦ run_from-append limits names next lines more
    ]

-- the run from the start after more lines is those lines after the run
pub run_of-append : (limits : Limits) (names : List (List ℕ)) (lines more : List Executed)
    → run_of limits names (lines ++ more)
    ≡ option_and_then (λ later. run_from limits names later more) (run_of limits names lines)
run_of-append limits names lines more = run_from-append limits names untold lines more

-- where lines come to nothing after a line, so do more lines after it
none_after : (limits : Limits) (names : List (List ℕ)) (lines more : List Executed)
    → ((next : Told) → run_from limits names next lines ≡ None → run_from limits names next (lines ++ more) ≡ None)
    → (next : Option Told) → goes_on limits names lines next ≡ None → goes_on limits names (lines ++ more) next ≡ None
none_after limits names lines more stays None none = refl
none_after limits names lines more stays (Some next) none = stays next none

-- where some lines come to nothing, so do more
pub run_from-none : (limits : Limits) (names : List (List ℕ)) (so_far : Told) (lines more : List Executed)
    → run_from limits names so_far lines ≡ None → run_from limits names so_far (lines ++ more) ≡ None
run_from-none limits names so_far [] more none = cc
run_from-none limits names so_far (first ∷ lines) more none =
    let stays = λ (next : Told). run_from-none limits names next lines more in
    none_after limits names lines more stays (tell limits names so_far first.command) none
