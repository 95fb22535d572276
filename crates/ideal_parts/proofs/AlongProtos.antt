-- Loops along prototypes: what is left to do after a turn.
use Rattle.std.proofs.Common.{◌≡◌, ◌≢◌, ◌∙◌, ap, sym, ℕ, suc, ◌+◌, ◌-◌, ◌<◌, Bool, false, ◌||◌, ◌==◌, List, Option}
use Rattle.std.proofs.Common.{Some, None, arith}
use Rattle.std.specs.Prelude.{option_and_then, option_map, unwrap_or}
use Rattle.std.specs.Option.{option_or}
use Rattle.std.proofs.lemmas.Bool.Decides.{nat_tests}
use Rattle.object_graph.specs.declared.value.Value.{Value}
use Rattle.object_graph.specs.declared.object.Object.{Object}
use Rattle.object_graph.specs.Graphs.{PlainObject}
use Rattle.object_graph.specs.Objects.{field_value}
use Rattle.object_graph.specs.Prototypes.{proto_of, proto_at, field_along, leads_to}
use Rattle.ideal_parts.specs.declared.lookups.Plain.{Plain}
use Rattle.ideal_parts.specs.Lookups.{seen_plain}

-- whether a prototype, if there is one, leads to an object
abbrev next_leads : List Object → ℕ → ℕ → Option ℕ → Bool
next_leads objects left other found =
    unwrap_or (option_map (λ next. leads_to objects left next other) found) false

-- the value of the field that is found from a prototype on, if there is one
abbrev next_field : List Object → ℕ → ℕ → Option PlainObject → Option Value
next_field objects left name found = option_and_then (λ next. field_along objects left next name) found

-- the turns that are left are one, and those that are left after it
left_over : (all turn : ℕ) → turn < all → all - turn ≡ suc (all - (turn + 1))
left_over all turn within = omega (arith, within)

-- the test of two numbers that differ
test_differs : (a b : ℕ) → a ≢ b → (a == b) ≡ false
test_differs a b differs = grind (arith, nat_tests)

-- an object that is not the other leads where its prototype does in one turn less
pub leads_on : (objects : List Object) (all turn at other next : ℕ) → turn < all → at ≢ other
    → proto_of objects at ≡ Some next
    → leads_to objects (all - turn) at other ≡ leads_to objects (all - (turn + 1)) next other
leads_on objects all turn at other next within differs is =
    let less = all - (turn + 1) in
    ap (λ left. leads_to objects left at other) (left_over all turn within)
    ∙ ap (λ here. here || next_leads objects less other (proto_of objects at)) (test_differs at other differs)
    ∙ ap (next_leads objects less other) is

-- a field that an object has not is found from its prototype on in one turn less
pub field_on : (objects : List Object) (all turn : ℕ) (at : PlainObject) (name : ℕ) (found : Option Plain)
    (next : Plain) → turn < all → field_value at.fields name ≡ None → option_map seen_plain found ≡ proto_at objects at
    → found ≡ Some next
    → field_along objects (all - turn) at name ≡ field_along objects (all - (turn + 1)) (seen_plain next) name
field_on objects all turn at name found next within none is here =
    let less = all - (turn + 1) in
    ap (λ left. field_along objects left at name) (left_over all turn within)
    ∙ ap (λ own. option_or own (next_field objects less name (proto_at objects at))) none
    ∙ ap (next_field objects less name) (sym is)
    ∙ ap (λ seen. next_field objects less name (option_map seen_plain seen)) here
