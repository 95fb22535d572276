-- A run ends once.
use Rattle.std.proofs.Common.{◌≡◌, ◌≢◌, ℕ, suc, zero, ◌<◌, ◌≤◌, Bool, true, false, cond, List, []}
use Rattle.std.proofs.Common.{◌∷◌, ◌++◌, length, take, drop, Option, Some, None, refl, sym, ap, subst, ◌∙◌, arith}
use Rattle.std.proofs.Common.{inl, inr}
use Rattle.std.specs.Prelude.{◌==◌, nat_lt}
use Rattle.std.specs.Option.{option_and_then}
use Rattle.std.proofs.lemmas.Bool.{ltb-false, ne_eqb, cases_lt}
use Rattle.std.proofs.lemmas.Option.{none-some}
use Rattle.heap_command.specs.declared.command.Command.{Command}
use Rattle.heap_command.specs.Executed.{Executed}
use Rattle.object_graph.specs.Meaning.{Limits, Outcome, done, fault, meaning}
use Rattle.object_graph.specs.Run.{Told, tell, run_of, run_from, told_with, lines_most, Ending, limit_at, fault_in}
use Rattle.object_graph.specs.Run.{fault_of, ending_here, ending, EndsAfter}
use Rattle.object_graph.proofs.Runs.{run_of-append}
use Rattle.graph_laws.specs.Laws.{RunsEndOnce}

-- an outcome that ends a run leaves no graph
fault_in-tells : (so_far : Told) (number : ℕ) (outcome : Outcome) (how : Ending)
    → fault_in number outcome ≡ Some how → told_with so_far outcome ≡ None
fault_in-tells so_far number (done graph text) how is = absurd (none-some how is)
fault_in-tells so_far number (fault word) how is = refl

-- a line with a fault leaves no graph
fault_of-tells : (limits : Limits) (names : List (List ℕ)) (so_far : Told) (number : ℕ) (command : Option Command)
    (how : Ending)
    → fault_of limits names so_far.graph number command ≡ Some how → tell limits names so_far command ≡ None
fault_of-tells limits names so_far number None how is = absurd (none-some how is)
fault_of-tells limits names so_far number (Some command) how is =
    fault_in-tells so_far number (meaning limits names so_far.graph command) how is

-- what is there though a test may take it away
not_taken : (test : Bool) (here : Option Ending) (how : Ending) → cond test None here ≡ Some how
    → (test ≡ false) × (here ≡ Some how)
not_taken true here how is = absurd (none-some how is)
not_taken false here how is = (refl, is)

-- where a run ends no more lines were executed than may be
within_most : (most executed : ℕ) (here : Option Ending) (how : Ending)
    → cond (nat_lt most executed) None here ≡ Some how → (executed ≤ most) × (here ≡ Some how)
within_most most executed here how is =
    let taken = not_taken (nat_lt most executed) here how is in
    (ltb-false most executed taken.0, taken.1)

-- before the limit, a run ends at a line by its fault
before_limit : (most executed : ℕ) (at : Ending) (there : Option Ending) (how : Ending) → executed < most
    → cond (executed == most) (Some at) there ≡ Some how → there ≡ Some how
before_limit most executed at there how below is =
    let apart : executed ≢ most = omega arith in
    ap (λ test. cond test (Some at) there) (sym (ne_eqb executed most apart)) ∙ is

-- a run that ends before the limit with lines left has a fault in the first of them
ends_by_fault : (limits : Limits) (names : List (List ℕ)) (so_far : Told) (executed : ℕ) (next : Executed)
    (more : List Executed) (how : Ending)
    → executed < lines_most → ending limits names so_far.graph executed (next ∷ more) ≡ Some how
    → tell limits names so_far next.command ≡ None
ends_by_fault limits names so_far executed next more how below is =
    let at = limit_at next.number in
    let faults = fault_of limits names so_far.graph next.number next.command in
    let here = within_most lines_most executed (ending_here limits names so_far.graph executed (next ∷ more)) how is in
    fault_of-tells limits names so_far next.number next.command how
    (before_limit lines_most executed at faults how below here.1)

-- the lines after the first n, which begin with this one, where more than n are taken
record NextOf (lines : List Executed) (n m : ℕ) : Type 0 where
  next : Executed
  more : List Executed
  between : List Executed
  after : drop n lines ≡ next ∷ more
  before : take m lines ≡ take n lines ++ next ∷ between

-- the same of the lines with one more in front
next_after : (first : Executed) (lines : List Executed) (n m : ℕ) → NextOf lines n m
    → NextOf (first ∷ lines) (suc n) (suc m)
next_after first lines n m found = record {
  next = found.next;
  more = found.more;
  between = found.between;
  after = found.after;
  before = ap (λ rest. first ∷ rest) found.before;
}

-- where more than n lines are taken, one is next after the first n
next_of : (lines : List Executed) (n m : ℕ) → n < m → m ≤ length lines → NextOf lines n m
next_of [] n m below within = absurd (omega arith)
next_of (first ∷ lines) n zero below within = absurd (omega arith)
next_of (first ∷ lines) zero (suc m) below within =
    record { next = first; more = lines; between = take m lines; after = refl; before = refl }
next_of (first ∷ lines) (suc n) (suc m) below within =
    next_after first lines n m (next_of lines n m (omega arith) (omega arith))

-- a run with a line that leaves no graph leaves none
stopped : (limits : Limits) (names : List (List ℕ)) (first between : List Executed) (next : Executed) (so_far : Told)
    → run_of limits names first ≡ Some so_far → tell limits names so_far next.command ≡ None
    → run_of limits names (first ++ next ∷ between) ≡ None
stopped limits names first between next so_far said none =
    run_of-append limits names first (next ∷ between)
    ∙ ap (λ so. option_and_then (λ later. run_from limits names later (next ∷ between)) so) said
    ∙ ap (λ so. option_and_then (λ later. run_from limits names later between) so) none

-- a run that ends after n lines doesn't end after more
ends_no_later : (limits : Limits) (names : List (List ℕ)) (lines : List Executed) (n m : ℕ) (a b : Told) (e f : Ending)
    → EndsAfter limits names lines n a e → EndsAfter limits names lines m b f → n < m → ⊥
ends_no_later limits names lines n m a b e f first second below =
    let found = next_of lines n m below second.within in
    let here = ending_here limits names b.graph m (drop m lines) in
    let most : m ≤ lines_most = (within_most lines_most m here f second.ends).0 in
    let ends : ending limits names a.graph n (found.next ∷ found.more) ≡ Some e =
    ap (λ rest. ending limits names a.graph n rest) (sym found.after) ∙ first.ends in
    let none = ends_by_fault limits names a n found.next found.more e (omega (arith, below, most)) ends in
    let stops = stopped limits names (take n lines) found.between found.next a first.said none in
    none-some b (sym stops ∙ ap (run_of limits names) (sym found.before) ∙ second.said)

-- ends after the same number of lines are one
same_end : (limits : Limits) (names : List (List ℕ)) (lines : List Executed) (n : ℕ) (a b : Told) (e f : Ending)
    → EndsAfter limits names lines n a e → EndsAfter limits names lines n b f → (a ≡ b) × (e ≡ f)
same_end limits names lines n a b e f first second =
    let told_alike : Some a ≡ Some b = sym first.said ∙ second.said in
    let same : a ≡ b = cc in
    let end_alike : Some e ≡ Some f =
    sym first.ends ∙ ap (λ t. ending limits names t.graph n (drop n lines)) same ∙ second.ends in
    (same, cc)

-- a run ends after one number of lines
runs_end_at_once : (limits : Limits) (names : List (List ℕ)) (lines : List Executed) (n m : ℕ)
    (a b : Told) (e f : Ending)
    → EndsAfter limits names lines n a e → EndsAfter limits names lines m b f → n ≡ m
runs_end_at_once limits names lines n m a b e f first second =
    elim (cases_lt n m) [
      | inl below ↦ absurd (ends_no_later limits names lines n m a b e f first second below)
      | inr not_below ↦ elim (cases_lt m n) [
        | inl above ↦ absurd (ends_no_later limits names lines m n b a f e second first above)
        | inr not_above ↦ omega arith
      ]
    ]

-- a run ends once
pub runs_end_once : RunsEndOnce
runs_end_once limits names lines n m a b e f first second =
    let same : n ≡ m = runs_end_at_once limits names lines n m a b e f first second in
    let (told_same, ends_same) =
    same_end limits names lines m a b e f (subst (λ k. EndsAfter limits names lines k a e) same first) second in
    (same, told_same, ends_same)
