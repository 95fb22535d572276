-- The bindings of a graph after a variable was unbound.
use Rattle.std.proofs.Common.{◌≡◌, ℕ, true, false, cond, eqb, None, refl, ◌∙◌, ap, arith, eq-eqb}
use Rattle.std.specs.FinMap.{FinMap, get, remove, get-remove}
use Rattle.std.specs.Ordering.{nat_cmp, eq_by_cmp}
use Rattle.std.specs.Cmp.{unsigned_tied}
use Rattle.std.proofs.lemmas.Cmp.{nat_cmp_total}
use Rattle.std.proofs.lemmas.Bool.Decides.{nat_tests}
use Rattle.heap_model.specs.Types.{Value}
use Rattle.object_graph.specs.Graphs.{Graph}
use Rattle.heap_model.specs.Laws.{BindsAnew}

-- the graph with a variable bound to nothing
abbrev pub unbind : Graph → ℕ → Graph
unbind graph variable = record graph { bindings = remove graph.bindings variable }

-- a variable that was unbound is bound to nothing
pub get-remove_same : (bindings : FinMap nat_cmp Value) (variable : ℕ) → get (remove bindings variable) variable ≡ None
get-remove_same bindings variable =
    let test : eq_by_cmp nat_cmp variable variable ≡ true = unsigned_tied variable variable
    ∙ eq-eqb variable variable refl in
    get-remove nat_cmp_total bindings variable variable
    ∙ ap (λ b. cond b None (get bindings variable)) test

-- a graph in which a variable was unbound differs in that alone
pub unbinds_anew : (graph : Graph) (variable : ℕ) → BindsAnew graph (unbind graph variable) variable
unbinds_anew graph variable = record {
  objects = refl;
  paths = refl;
  others = λ other apart.
      let test : eqb other variable ≡ false = grind (arith, nat_tests) in
      get-remove nat_cmp_total graph.bindings variable other
      ∙ ap (λ b. cond b None (get graph.bindings other)) (unsigned_tied other variable ∙ test);
}
