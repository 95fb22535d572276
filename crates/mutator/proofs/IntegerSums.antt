-- A sum of integers that the command `add` binds.
use Rattle.std.proofs.Common.{◌≡◌, ℕ, ℤ, ◌+ℤ◌, w64, SFits, arith, false, List, [], Some}
use Rattle.std.proofs.Common.{sym, subst}
use Rattle.std.specs.Prelude.{option_and_then}
use Rattle.std.specs.FinMap.{get}
use Rattle.std.proofs.lemmas.Int.{ints}
use Rattle.std.proofs.lemmas.Option.{option_and_then_some}
use Rattle.heap_command.specs.declared.command.Command.TheVariants.{Add}
use Rattle.heap_model.specs.Types.{Value, Operand}
use Rattle.object_graph.specs.declared.value.Value.TheVariants.{Int}
use Rattle.object_graph.specs.Graphs.{Graph, bind, value_of, integer_in}
use Rattle.object_graph.specs.Meaning.{done, is_outside, meaning}
use Rattle.object_graph.specs.Limits.{ideal_limits}
use Rattle.mutator.specs.Reading.{FindsSum}

-- an integer of 64 bits is not outside them
inside : (v : ℤ) → SFits w64 v → is_outside v ≡ false
inside v fits = grind (arith, ints)

-- a sum of 64 bits
pub add_done : (names : List (List ℕ)) (graph : Graph) (x : ℕ) (v : Operand) (held added : Value) (a b : ℤ)
    → get graph.bindings x ≡ Some held → value_of graph v ≡ Some added → integer_in held ≡ Some a
    → integer_in added ≡ Some b → SFits w64 (a +ℤ b)
    → meaning ideal_limits names graph (Add x v) ≡ done (bind graph x (Int (a +ℤ b))) []
add_done names graph x v held added a b bound is first second fits = rw (bound, is, first, second, inside (a +ℤ b) fits)

-- where the variable and the operand stand for two integers whose sum has 64 bits, it is the sum that is bound
pub finds_sum : (names : List (List ℕ)) (graph : Graph) (x : ℕ) (v : Operand) (a b sum : ℤ)
    → option_and_then integer_in (get graph.bindings x) ≡ Some a
    → option_and_then integer_in (value_of graph v) ≡ Some b → SFits w64 (a +ℤ b) → sum ≡ a +ℤ b
    → FindsSum names graph x v sum
finds_sum names graph x v a b sum is_first is_second fits same =
    option_and_then_some integer_in (get graph.bindings x) a is_first (λ held bound first.
    option_and_then_some integer_in (value_of graph v) b is_second (λ added is second.
    subst (λ total. meaning ideal_limits names graph (Add x v) ≡ done (bind graph x (Int total)) []) (sym same)
    (add_done names graph x v held added a b bound is first second fits)))
