-- The free runs that a scavenge begins with: each is one free cell of a page, and no other cell has a word of it.
use Rattle.std.proofs.Common.{◌≡◌, ℕ, inl, inr, true, false, IsTrue, List, [], ◌∷◌, Contains, sym, ◌∙◌, ap, subst}
use Rattle.std.proofs.Common.{arith}
use Rattle.std.proofs.lemmas.Bool.{cases_eq, cases_Bool, or_cases, false≢true}
use Rattle.std.proofs.lemmas.Bool.Decides.{nat_tests}
use Rattle.tagged_word.specs.Cells.{is_free_kind}
use Rattle.tagged_word.proofs.Members.{first_in, rest_in, in_cases}
use Rattle.free_runs.specs.Laws.{IsOfRun}
use Rattle.heap_model.specs.Types.{Cell, Run}
use Rattle.heap_model.specs.Heaps.{HasCell}
use Rattle.heap_model.specs.Collectable.{IsFreeCell}
use Rattle.heap_model.proofs.BoundHeaps.{none_in}
use Rattle.heap_model.proofs.CellsApart.{IsOfCell, one_at, cells_apart}
use Rattle.scav_copy.specs.Places.{Fixed}
use Rattle.scavenger.specs.Starts.{Start, IsBegun, IsFreeRun}
use Rattle.scavenger.specs.Scavenged.{begins_run, begins_free}
use Rattle.heap_walk.proofs.SlotTargets.{IsUsedAt}
use Rattle.scavenger.proofs.PagesRuns.{HasRun}

-- a run of a row that begins at the address is found there
begins_there : (row : List Run) (run : Run) (at : ℕ) → Contains row run → run.at ≡ at → begins_run row at ≡ true
begins_there [] run at there is = absurd (none_in run there)
begins_there (first ∷ more) run at there is =
    elim (in_cases first more run there) [
      | inl same ↦
          let here : first.at ≡ at = ap (λ (one : Run). one.at) same ∙ is in
          grind (arith, nat_tests)
      | inr later ↦
          let rest : begins_run more at ≡ true = begins_there more run at later is in
          grind (arith, nat_tests)
    ]

-- and one of all rows
pub free_begins : (rows : List (List Run)) (row : List Run) (run : Run) (at : ℕ) → Contains rows row → Contains row run
    → run.at ≡ at → begins_free rows at ≡ true
free_begins [] row run at there among is = absurd (none_in row there)
free_begins (first ∷ more) row run at there among is =
    elim (in_cases first more row there) [
      | inl same ↦
          let here : begins_run first at ≡ true =
          begins_there first run at (subst (λ (one : List Run). Contains one run) (sym same) among) is in
          grind (arith, nat_tests)
      | inr later ↦
          let rest : begins_free more at ≡ true = free_begins more row run at later among is in
          grind (arith, nat_tests)
    ]

-- a run that begins at the address, where one is found
record BeginsIn (row : List Run) (at : ℕ) : Type 0 where
  run : Run
  among : Contains row run
  stands : run.at ≡ at

-- what is found in a row is one
found_in_row : (row : List Run) (at : ℕ) → begins_run row at ≡ true → BeginsIn row at
found_in_row [] at found = absurd (false≢true found)
found_in_row (first ∷ more) at found =
    elim (cases_eq first.at at) [
      | inl is ↦ record { run = first; among = first_in first more; stands = is }
      | inr other ↦
          let later : begins_run more at ≡ true = grind (arith, nat_tests) in
          let rest = found_in_row more at later in
          record { run = rest.run; among = rest_in first more rest.run rest.among; stands = rest.stands }
    ]

-- a free run that begins at the address
pub record IsRunAt (rows : List (List Run)) (at : ℕ) : Type 0 where
  pub run : Run
  pub is : IsFreeRun rows run
  pub stands : run.at ≡ at

-- what is found in all rows is one
pub found_run : (rows : List (List Run)) (at : ℕ) → begins_free rows at ≡ true → IsRunAt rows at
found_run [] at found = absurd (false≢true found)
found_run (first ∷ more) at found =
    elim (or_cases (begins_run first at) (begins_free more at) found) [
      | inl here ↦
          let one = found_in_row first at here in
          record {
            run = one.run;
            is = record { row = first; of_rows = first_in first more; among = one.among };
            stands = one.stands;
          }
      | inr later ↦
          let rest = found_run more at later in
          record {
            run = rest.run;
            is = record {
              row = rest.is.row;
              of_rows = rest_in first more rest.is.row rest.is.of_rows;
              among = rest.is.among;
            };
            stands = rest.stands;
          }
    ]

-- no run begins where none is
pub no_run_begins : (rows : List (List Run)) (at : ℕ) → ((run : Run) → IsFreeRun rows run → run.at ≡ at → ⊥)
    → begins_free rows at ≡ false
no_run_begins rows at none =
    elim (cases_Bool (begins_free rows at)) [
      | inl found ↦ let one = found_run rows at found in absurd (none one.run one.is one.stands)
      | inr not_found ↦ not_found
    ]

-- and where none is found, none is
pub no_run_there : (rows : List (List Run)) (at : ℕ) → begins_free rows at ≡ false
    → (run : Run) → IsFreeRun rows run → run.at ≡ at → ⊥
no_run_there rows at none run is stands =
    false≢true (sym none ∙ free_begins rows is.row run at is.of_rows is.among stands)

module _ {start : Start} {fixed : Fixed} (begun : IsBegun start fixed) where
  -- a free run is one free cell
  pub run_cell : {run : Run} → IsFreeRun start.rows run → IsFreeCell start.heap run
  run_cell {run} is = begun.free is.row run is.of_rows is.among

  -- its words are those of the cell
  pub run_of_cell : {run : Run} {at : ℕ} (is : IsFreeRun start.rows run) → IsOfRun run at
      → IsOfCell (run_cell is).cell at
  run_of_cell is of_run =
      let free = run_cell is in
      record {
        from = omega (arith, of_run.from, free.stands);
        below = omega (arith, of_run.below, free.stands, free.size);
      }

  -- no word of it is one of a cell that is none
  pub run_of_no_cell : {cell : Cell} {words : List ℕ} (at : ℕ) → HasCell start.heap cell words → IsOfCell cell at
      → begins_free start.rows cell.at ≡ false → HasRun start.rows at → ⊥
  run_of_no_cell {cell} at has of_cell none inside =
      let free = run_cell inside.is in
      let same : free.cell ≡ cell =
      cells_apart at begun.whole.rows free.has has (run_of_cell inside.is inside.of_run) of_cell in
      no_run_there start.rows cell.at none inside.run inside.is
      (sym free.stands ∙ ap (λ (one : Cell). one.at) same)

  -- no free run begins where a cell stands that is not free
  pub used_is_no_run : {at : ℕ} → IsUsedAt start.heap at → begins_free start.rows at ≡ false
  used_is_no_run {at} target =
      no_run_begins start.rows at (λ run is stands.
      let free = run_cell is in
      let same : free.cell ≡ target.cell = one_at free.has target.has (free.stands ∙ stands ∙ sym target.stands) in
      target.used (subst (λ (one : Cell). IsTrue (is_free_kind one.layout.kind)) same free.free))
