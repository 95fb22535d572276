-- What holds of the graph after a command, step by step of its meaning.
use Rattle.std.proofs.Common.{◌≡◌, Bool, true, false, List, Option, Some, None, refl}
use Rattle.heap_command.specs.declared.command.FaultWord.{FaultWord}
use Rattle.object_graph.specs.declared.value.Value.{Value}
use Rattle.object_graph.specs.declared.object.Field.{Field}
use Rattle.object_graph.specs.Graphs.{Graph, PlainObject}
use Rattle.object_graph.specs.Meaning.{Limits, Outcome, done, fault, given, unless, reshape, reshape_if}

-- the graph after the outcome, if it is no fault, has the property
abbrev pub Leads : (Graph → Type 0) → Outcome → Type 0
Leads Holds (done after text) = Holds after
Leads Holds (fault word) = Unit {0}

-- a step that finds what it seeks leads where the next one does
pub each : {A : Type 0} (Holds : Graph → Type 0) (word : FaultWord) (sought : Option A) (next : A → Outcome)
    → ((found : A) → sought ≡ Some found → Leads Holds (next found)) → Leads Holds (given word sought next)
each Holds word None next leads = tt
each Holds word (Some found) next leads = leads found refl

-- a test that does not fault leads where the next step does, which may count on its failing
pub if_fails : (Holds : Graph → Type 0) (word : FaultWord) (test : Bool) (next : Outcome)
    → (test ≡ false → Leads Holds next) → Leads Holds (unless word test next)
if_fails Holds word true next leads = tt
if_fails Holds word false next leads = leads refl

-- and so it does where the next step leads whatever was tested
pub if_not : (Holds : Graph → Type 0) (word : FaultWord) (test : Bool) (next : Outcome) → Leads Holds next
    → Leads Holds (unless word test next)
if_not Holds word test next leads = if_fails Holds word test next (λ fails. leads)

-- a field that is not there leaves the graph as it is
pub if_there : (Holds : Graph → Type 0) (limits : Limits) (graph : Graph) (plain : PlainObject) (there : Option Value)
    (fields : List Field)
    → Holds graph → Leads Holds (reshape limits graph plain fields)
    → Leads Holds (reshape_if limits graph plain there fields)
if_there Holds limits graph plain None fields same leads = same
if_there Holds limits graph plain (Some value) fields same leads = leads
