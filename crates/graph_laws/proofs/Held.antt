-- What a graph has refers to its own objects, and so it does among more objects.
use Rattle.std.proofs.Common.{◌≡◌, ℕ, ◌<◌, ◌≤◌, Bool, true, false, cond, List, Option, Some, None, sym}
use Rattle.std.proofs.Common.{◌∙◌, subst, arith}
use Rattle.std.specs.Prelude.{All, slice_get, option_and_then, ℤ, FitsSigned}
use Rattle.std.specs.Int.{w64}
use Rattle.std.specs.Ordering.{nat_cmp, eq_by_cmp}
use Rattle.std.specs.Cmp.{nat_cmp_total}
use Rattle.std.specs.FinMap.{FinMap, get, insert, remove, get-insert, get-remove}
use Rattle.std.proofs.lemmas.Int.{ints}
use Rattle.std.proofs.lemmas.Option.{none-some, same_Some, slice_get_within, get_or_from_slice_get}
use Rattle.std.proofs.lemmas.List.Elements.{All-get_or, All-weaker}
use Rattle.heap_command.specs.declared.command.Operand.{Operand}
use Rattle.heap_command.specs.declared.command.Operand.TheVariants as operand
use Rattle.object_graph.specs.declared.value.Value.{Value}
use Rattle.object_graph.specs.declared.value.Value.TheVariants.{Int, Undefined, Ref}
use Rattle.object_graph.specs.declared.object.Object.{Object}
use Rattle.object_graph.specs.declared.object.Object.TheVariants.{Plain, List as ListOf, Weak}
use Rattle.object_graph.specs.declared.object.Field.{Field}
use Rattle.object_graph.specs.declared.object.Entry.{Entry}
use Rattle.object_graph.specs.Graphs.{Graph, object_in, value_of}
use Rattle.object_graph.specs.Meaning.{is_outside}
use Rattle.object_graph.specs.Invariants.{IsValue, IsEntry, AreFields, AreElements, AreEntries, IsProto, IsObject}
use Rattle.object_graph.specs.Invariants.{AreBound}
use Rattle.graph_laws.specs.GraphLaws.{FitsOperand}

-- what is there has what all have
pub held_at : {X : Type 0} (P : X → Type 0) (xs : List X) (place : ℕ) (x : X)
    → All P xs → slice_get xs place ≡ Some x → P x
held_at P xs place x all there =
    subst P (get_or_from_slice_get xs place x x there) (All-get_or P xs place x (slice_get_within xs place x there) all)

-- among more objects a value refers to one of them
value_grows : (count more : ℕ) (value : Value) → count ≤ more → IsValue count value → IsValue more value
value_grows count more (Int v) grows is = is
value_grows count more Undefined grows is = tt
value_grows count more (Ref number) grows is = omega arith

-- among more objects an entry refers to some of them
entry_grows : (count more : ℕ) (entry : Entry) → count ≤ more → IsEntry count entry → IsEntry more entry
entry_grows count more entry grows is =
    record { key = omega (arith, is.key); value = value_grows count more entry.value grows is.value }

-- among more objects fields refer to some of them
fields_grow : (count more : ℕ) (fields : List Field) → count ≤ more → AreFields count fields → AreFields more fields
fields_grow count more fields grows are =
    let wider = λ (f : Field) (is : IsValue count f.value). value_grows count more f.value grows is in
    record {
      values = All-weaker (λ f. IsValue count f.value) (λ f. IsValue more f.value) wider fields are.values;
      distinct = are.distinct;
    }

-- among more objects entries refer to some of them
entries_grow : (count more : ℕ) (entries : List Entry) → count ≤ more → AreEntries count entries
    → AreEntries more entries
entries_grow count more entries grows are =
    let wider = λ (e : Entry) (is : IsEntry count e). entry_grows count more e grows is in
    record {
      keys_and_values = All-weaker (IsEntry count) (IsEntry more) wider entries are.keys_and_values;
      distinct = are.distinct;
    }

-- among more objects elements refer to some of them
elements_grow : (count more : ℕ) (elements : List Value) → count ≤ more → AreElements count elements
    → AreElements more elements
elements_grow count more elements grows are =
    let wider = λ (value : Value). value_grows count more value grows in
    record { values = All-weaker (IsValue count) (IsValue more) wider elements are.values; few = are.few }

-- among more objects a prototype is one of them
proto_grows : (count more : ℕ) (proto : Option ℕ) → count ≤ more → IsProto count proto → IsProto more proto
proto_grows count more None grows is = tt
proto_grows count more (Some number) grows is = omega (arith, is)

-- among more objects an object refers to some of them
pub object_grows : (count more : ℕ) (object : Object) → count ≤ more → IsObject count object → IsObject more object
object_grows count more (Plain cap proto fields) grows is = record {
  capped = is.capped;
  leads = proto_grows count more proto grows is.leads;
  are = fields_grow count more fields grows is.are;
}
object_grows count more (ListOf elements) grows is = elements_grow count more elements grows is
object_grows count more (Weak entries) grows is = entries_grow count more entries grows is

-- what holds of either of two that may be there holds of the one that is chosen
either_held : (P : Value → Type 0) (test : Bool) (one other : Option Value) (found : Value)
    → ((value : Value) → one ≡ Some value → P value) → ((value : Value) → other ≡ Some value → P value)
    → cond test one other ≡ Some found → P found
either_held P true one other found first second is = first found is
either_held P false one other found first second is = second found is

-- what all variables' values have and one more, they have after a variable was bound to that one
pub insert_all : (P : Value → Type 0) (bindings : FinMap nat_cmp Value) (x : ℕ) (value : Value) → P value
    → ((y : ℕ) (found : Value) → get bindings y ≡ Some found → P found)
    → (y : ℕ) (found : Value) → get (insert bindings x value) y ≡ Some found → P found
insert_all P bindings x value is bound y found at =
    either_held P (eq_by_cmp nat_cmp y x) (Some value) (get bindings y) found
    (λ v same. subst P (same_Some value v same) is)
    (λ v there. bound y v there)
    (sym (get-insert nat_cmp_total bindings x value y) ∙ at)

-- what all variables' values have, they have after a variable was unbound
pub remove_all : (P : Value → Type 0) (bindings : FinMap nat_cmp Value) (x : ℕ)
    → ((y : ℕ) (found : Value) → get bindings y ≡ Some found → P found)
    → (y : ℕ) (found : Value) → get (remove bindings x) y ≡ Some found → P found
remove_all P bindings x bound y found at =
    either_held P (eq_by_cmp nat_cmp y x) None (get bindings y) found
    (λ v none. absurd (none-some v none))
    (λ v there. bound y v there)
    (sym (get-remove nat_cmp_total bindings x y) ∙ at)

-- the variables refer to so many objects after one was bound to one of them
pub insert_bound : (count : ℕ) (bindings : FinMap nat_cmp Value) (x : ℕ) (value : Value)
    → IsValue count value → AreBound count bindings → AreBound count (insert bindings x value)
insert_bound count bindings x value is bound = insert_all (IsValue count) bindings x value is bound

-- the variables do so after one was unbound
pub remove_bound : (count : ℕ) (bindings : FinMap nat_cmp Value) (x : ℕ)
    → AreBound count bindings → AreBound count (remove bindings x)
remove_bound count bindings x bound = remove_all (IsValue count) bindings x bound

-- the variables do so among more objects
pub bound_grows : (count more : ℕ) (bindings : FinMap nat_cmp Value) → count ≤ more
    → AreBound count bindings → AreBound more bindings
bound_grows count more bindings grows bound x value at = value_grows count more value grows (bound x value at)

-- what an operand stands for is a value over the objects that variables refer to
pub operand_held : (count : ℕ) (graph : Graph) (operand : Operand) (value : Value)
    → FitsOperand operand → AreBound count graph.bindings → value_of graph operand ≡ Some value → IsValue count value
operand_held count graph (operand.Int v) value fits bound is = subst (IsValue count) (same_Some (Int v) value is) fits
operand_held count graph operand.Undefined value fits bound is = subst (IsValue count) (same_Some Undefined value is) tt
operand_held count graph (operand.Var x) value fits bound is = bound x value is

-- the object that a value refers to is one of so many
number_held : (count : ℕ) (value : Value) (number : ℕ) → IsValue count value → object_in value ≡ Some number
    → number < count
number_held count (Int v) number is at = absurd (none-some number at)
number_held count Undefined number is at = absurd (none-some number at)
number_held count (Ref other) number is at = subst (λ n. n < count) (same_Some other number at) is

-- the object that an operand refers to is one of those that variables refer to
pub key_held : (count : ℕ) (graph : Graph) (operand : Operand) (value : Value) (number : ℕ)
    → AreBound count graph.bindings → value_of graph operand ≡ Some value → object_in value ≡ Some number
    → number < count
key_held count graph (operand.Int v) value number bound is at =
    let same : value ≡ Int v = sym (same_Some (Int v) value is) in
    absurd (none-some number (subst (λ w. object_in w ≡ Some number) same at))
key_held count graph operand.Undefined value number bound is at =
    number_held count value number (subst (IsValue count) (same_Some Undefined value is) tt) at
key_held count graph (operand.Var x) value number bound is at = number_held count value number (bound x value is) at

-- a sum that is not outside 64 bits has 64 bits
pub sum_held : (v : ℤ) → is_outside v ≡ false → FitsSigned w64 v
sum_held v inside = grind (arith, ints)

-- an element at a place that may be there has what all elements have
pub element_all : (P : Value → Type 0) (elements : List Value) (place : Option ℕ) (value : Value)
    → All P elements → option_and_then (slice_get elements) place ≡ Some value → P value
element_all P elements None value all is = absurd (none-some value is)
element_all P elements (Some place) value all is = held_at P elements place value all is

-- an element that is read is a value over the objects that elements refer to
pub element_held : (count : ℕ) (elements : List Value) (place : Option ℕ) (value : Value)
    → AreElements count elements → option_and_then (slice_get elements) place ≡ Some value → IsValue count value
element_held count elements place value are is = element_all (IsValue count) elements place value are.values is
