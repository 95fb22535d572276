-- A heap that is the same as before shows the same.
use Rattle.std.proofs.Common.{◌≡◌, ℕ, sym, subst}
use Rattle.std.specs.Prelude.{Option}
use Rattle.handle_roots.specs.declared.given.Given.{Given}
use Rattle.heap_model.specs.Types.{Operand, Value, Held, Header}
use Rattle.object_graph.specs.Graphs.{Graph, value_of}
use Rattle.write_barrier.specs.MutatorState.{Mutator, MainShows}
use Rattle.mutator.specs.Reading.{StandsFor, StandForBoth, IsShownValue, FindsGiven, FindsHeader}

-- it shows a graph where it showed one
pub some_still : {old new : Mutator} → new ≡ old → (graph : Graph) × MainShows old graph
    → (graph : Graph) × MainShows new graph
some_still same shown = (shown.0, subst (λ main. MainShows main shown.0) (sym same) shown.1)

-- it shows the graph that it showed
pub shows_still : {old new : Mutator} {graph : Graph} → new ≡ old → MainShows old graph → MainShows new graph
shows_still {graph = graph} same shows = subst (λ main. MainShows main graph) (sym same) shows

-- what stood for a value stands for it
pub stands_still : {old new : Mutator} {graph : Graph} {value : Value} {held : Held} → new ≡ old
    → StandsFor old graph value held → StandsFor new graph value held
stands_still {graph = graph} {value} {held} same stands = subst (λ main. StandsFor main graph value held)
    (sym same) stands

-- and for a value of some graph that is shown
pub value_still : {old new : Mutator} (graph : Graph) (value : Value) (held : Held) → new ≡ old → MainShows old graph
    → StandsFor old graph value held → IsShownValue new held
value_still graph value held same shows stands =
    subst (λ main. IsShownValue main held) (sym same)
    (record { graph = graph; value = value; shows = shows; stands = stands })

-- so does the first of two operands that were read
pub first_still : {old new : Mutator} {pair : Held × Held} (a b : Operand) → new ≡ old
    → (graph : Graph) × MainShows old graph
    → ((graph : Graph) → MainShows old graph → StandForBoth old graph (value_of graph a) (value_of graph b) pair)
    → IsShownValue new pair.0
first_still {pair = pair} a b same (graph, shows) found =
    let both = found graph shows in value_still graph both.first pair.0 same shows both.stands_first

-- and so does the second
pub second_still : {old new : Mutator} {pair : Held × Held} (a b : Operand) → new ≡ old
    → (graph : Graph) × MainShows old graph
    → ((graph : Graph) → MainShows old graph → StandForBoth old graph (value_of graph a) (value_of graph b) pair)
    → IsShownValue new pair.1
second_still {pair = pair} a b same (graph, shows) found =
    let both = found graph shows in value_still graph both.second pair.1 same shows both.stands_second

-- what was given is given
pub given_still : {old new : Mutator} (graph : Graph) (sought : Option Value) (given : Option Given) → new ≡ old
    → FindsGiven old graph sought given → FindsGiven new graph sought given
given_still graph sought given same finds =
    subst (λ main. FindsGiven main graph sought given) (sym same) finds

-- the header that was found is that of the object
pub header_still : {old new : Mutator} {graph : Graph} {sought : Option Value} {at : ℕ} {header : Header} → new ≡ old
    → FindsHeader old graph sought at header → FindsHeader new graph sought at header
header_still {graph = graph} {sought} {at} {header} same finds =
    subst (λ main. FindsHeader main graph sought at header) (sym same) finds
