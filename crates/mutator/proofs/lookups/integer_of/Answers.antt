-- The integer that an operand stands for is that of its value.
use Rattle.std.proofs.Common.{◌≡◌, ℤ, Ok, Err, sym, ◌∙◌, ap}
use Rattle.std.specs.Prelude.{Result, option_and_then}
use Rattle.std.specs.Result.{result_ok}
use Rattle.heap_model.specs.Types.{FaultWord, Value}
use Rattle.object_graph.specs.Graphs.{integer_in}
use Rattle.mutator.specs.Reading.{FindsInteger}
use Rattle.mutator.proofs.lookups.integer_of.Goals as goal

-- what was found of a value is the integer that it is, if it is one
integer_found : (value : Value) (found : Result ℤ FaultWord) → FindsInteger value found
    → result_ok found ≡ integer_in value
integer_found value (Ok v) is = sym is
integer_found value (Err word) is = sym is.0

pub returns-in-Ok-clause-found : goal.returns-in-Ok-clause-found
returns-in-Ok-clause-found c graph shows =
    let (value, is, stands) = c.in-Ok.ensures.found graph shows in
    c.ok.ensures.value
    ∙ integer_found value c.integer.result (c.integer.ensures c.args.main.now graph value stands)
    ∙ sym (ap (option_and_then integer_in) is)

pub returns-in-Err-clause-found : goal.returns-in-Err-clause-found
returns-in-Err-clause-found c graph shows =
    sym (ap (option_and_then integer_in) (c.in-Err.ensures.found graph shows).0)
