-- The bindings of a graph after a variable was bound to a value.
use Rattle.std.proofs.Common.{◌≡◌, ◌≢◌, ℕ, true, false, cond, eqb, Some, refl, ◌∙◌, ap, arith, eq-eqb}
use Rattle.std.specs.FinMap.{FinMap, get, insert, get-insert}
use Rattle.std.specs.Ordering.{nat_cmp, eq_by_cmp}
use Rattle.std.specs.Cmp.{unsigned_tied}
use Rattle.std.proofs.lemmas.Cmp.{nat_cmp_total}
use Rattle.std.proofs.lemmas.Bool.Decides.{nat_tests}
use Rattle.heap_model.specs.Types.{Value}
use Rattle.object_graph.specs.Graphs.{Graph, bind}
use Rattle.heap_model.specs.Laws.{BindsAnew}

-- a variable that is bound to a value is bound to that
pub get-insert_same : (bindings : FinMap nat_cmp Value) (variable : ℕ) (value : Value)
    → get (insert bindings variable value) variable ≡ Some value
get-insert_same bindings variable value =
    let test : eq_by_cmp nat_cmp variable variable ≡ true =
    unsigned_tied variable variable ∙ eq-eqb variable variable refl in
    get-insert nat_cmp_total bindings variable value variable
    ∙ ap (λ b. cond b (Some value) (get bindings variable)) test

-- and the others are bound as before
pub get-insert_other : (bindings : FinMap nat_cmp Value) (variable : ℕ) (value : Value) (other : ℕ) → other ≢ variable
    → get (insert bindings variable value) other ≡ get bindings other
get-insert_other bindings variable value other apart =
    let test : eqb other variable ≡ false = grind (arith, nat_tests) in
    get-insert nat_cmp_total bindings variable value other
    ∙ ap (λ b. cond b (Some value) (get bindings other)) (unsigned_tied other variable ∙ test)

-- a graph in which a variable is bound to a value differs in that alone
pub binds_anew : (graph : Graph) (variable : ℕ) (value : Value) → BindsAnew graph (bind graph variable value) variable
binds_anew graph variable value = record {
  objects = refl;
  paths = refl;
  others = λ other apart. get-insert_other graph.bindings variable value other apart;
}
