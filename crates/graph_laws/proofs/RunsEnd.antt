-- Each run ends.
use Rattle.std.proofs.Common.{◌≡◌, ℕ, suc, ◌+◌, ◌≤◌, Bool, false, cond, List, [], ◌∷◌, length, take, drop}
use Rattle.std.proofs.Common.{Option, Some, None, refl, sym, ap, ◌∙◌, arith, ◌⊎◌, inl, inr}
use Rattle.std.specs.Prelude.{nat_lt}
use Rattle.std.specs.Option.{option_and_then}
use Rattle.std.proofs.lemmas.Bool.{cases_eq, ne_eqb, eq-eqb}
use Rattle.std.proofs.lemmas.Bool.Decides.{nat_tests}
use Rattle.heap_command.specs.declared.command.Command.{Command}
use Rattle.heap_command.specs.Executed.{Executed}
use Rattle.object_graph.specs.Meaning.{Limits, Outcome, done, fault, meaning}
use Rattle.object_graph.specs.Run.{Told, untold, tell, run_from, told_with, lines_most, Ending, end, fault_at}
use Rattle.object_graph.specs.Run.{limit_at, fault_in, fault_of, ending_here, ending}
use Rattle.graph_laws.specs.Laws.{RunsEnd}

-- the run ends after some of these lines, before which so many were executed
record EndsOn (limits : Limits) (names : List (List ℕ)) (so_far : Told) (executed : ℕ)
    (lines : List Executed) : Type 0 where
  more : ℕ
  later : Told
  how : Ending
  within : more ≤ length lines
  said : run_from limits names so_far (take more lines) ≡ Some later
  ends : ending limits names later.graph (executed + more) (drop more lines) ≡ Some how

-- an outcome is a fault, which ends a run, or tells more
fault_or_told : (so_far : Told) (number : ℕ) (outcome : Outcome)
    → ((how : Ending) × (fault_in number outcome ≡ Some how))
    ⊎ ((later : Told) × (told_with so_far outcome ≡ Some later))
fault_or_told so_far number (done graph text) = inr (_, refl)
fault_or_told so_far number (fault word) = inl (fault_at number word, refl)

-- a line has a fault, or it tells more
faults_or_tells : (limits : Limits) (names : List (List ℕ)) (so_far : Told) (number : ℕ) (command : Option Command)
    → ((how : Ending) × (fault_of limits names so_far.graph number command ≡ Some how))
    ⊎ ((later : Told) × (tell limits names so_far command ≡ Some later))
faults_or_tells limits names so_far number None = inr (so_far, refl)
faults_or_tells limits names so_far number (Some command) =
    fault_or_told so_far number (meaning limits names so_far.graph command)

-- where no more lines were executed than may be, a run ends as it does here
not_past : (most executed : ℕ) (here : Option Ending) → executed ≤ most → cond (nat_lt most executed) None here ≡ here
not_past most executed here within =
    let below : nat_lt most executed ≡ false = grind (arith, nat_tests) in
    ap (λ test. cond test None here) below

-- a run that ends here ends on these lines
ends_here : (limits : Limits) (names : List (List ℕ)) (so_far : Told) (executed : ℕ)
    (lines : List Executed) (how : Ending)
    → executed ≤ lines_most → ending_here limits names so_far.graph executed lines ≡ Some how
    → EndsOn limits names so_far executed lines
ends_here limits names so_far executed lines how within is =
    let same : executed + 0 ≡ executed = omega arith in
    let now = not_past lines_most executed (ending_here limits names so_far.graph executed lines) within in
    record {
      more = 0;
      later = so_far;
      how = how;
      within = omega arith;
      said = refl;
      ends = ap (λ n. ending limits names so_far.graph n lines) same ∙ now ∙ is;
    }

-- a run that ends on the lines after this one ends on these lines
ends_after : (limits : Limits) (names : List (List ℕ)) (so_far next : Told) (executed : ℕ) (line : Executed)
    (lines : List Executed)
    → tell limits names so_far line.command ≡ Some next → EndsOn limits names next (suc executed) lines
    → EndsOn limits names so_far executed (line ∷ lines)
ends_after limits names so_far next executed line lines told on =
    let sum : executed + suc on.more ≡ suc executed + on.more = omega arith in
    let rest = take on.more lines in
    record {
      more = suc on.more;
      later = on.later;
      how = on.how;
      within = omega (arith, on.within);
      said = ap (λ so. option_and_then (λ later. run_from limits names later rest) so) told ∙ on.said;
      ends = ap (λ n. ending limits names on.later.graph n (drop on.more lines)) sum ∙ on.ends;
    }

-- from wherever no more lines were executed than may be, a run ends
ends_on : (limits : Limits) (names : List (List ℕ)) (so_far : Told) (executed : ℕ) (lines : List Executed)
    → executed ≤ lines_most → EndsOn limits names so_far executed lines
ends_on limits names so_far executed [] within = ends_here limits names so_far executed [] end within refl
ends_on limits names so_far executed (line ∷ lines) within =
    let faults = fault_of limits names so_far.graph line.number line.command in
    let here = λ (test : Bool). cond test (Some (limit_at line.number)) faults in
    elim (cases_eq executed lines_most) [
      | inl same ↦
          ends_here limits names so_far executed (line ∷ lines) (limit_at line.number) within
          (ap here (eq-eqb executed lines_most same))
      | inr apart ↦ elim (faults_or_tells limits names so_far line.number line.command) [
        | inl faulty ↦
            ends_here limits names so_far executed (line ∷ lines) faulty.0 within
            (ap here (ne_eqb executed lines_most apart) ∙ faulty.1)
        | inr next ↦
            ends_after limits names so_far next.0 executed line lines next.1
            (ends_on limits names next.0 (suc executed) lines (omega arith))
      ]
    ]

-- each run ends
pub runs_end : RunsEnd
runs_end limits names lines =
    let on = ends_on limits names untold 0 lines (omega arith) in
    let sum : 0 + on.more ≡ on.more = omega arith in (
      on.more,
      on.later,
      on.how,
      record {
        within = on.within;
        said = on.said;
        ends = ap (λ n. ending limits names on.later.graph n (drop on.more lines)) (sym sum) ∙ on.ends;
      },
    )
