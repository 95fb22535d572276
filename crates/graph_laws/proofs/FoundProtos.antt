-- What a prototype is found to be: that of a plain object, and the one that a value gives.
use Rattle.std.proofs.Common.{◌≡◌, ℕ, List, Option, Some, None, refl, sym, ap, ◌∙◌, subst}
use Rattle.std.specs.Prelude.{option_and_then, option_map}
use Rattle.std.proofs.lemmas.Option.{none-some, same_Some}
use Rattle.object_graph.specs.declared.value.Value.{Value}
use Rattle.object_graph.specs.declared.value.Value.TheVariants.{Int, Undefined, Ref}
use Rattle.object_graph.specs.declared.object.Object.{Object}
use Rattle.object_graph.specs.Graphs.{PlainObject, object_in, plain_at}
use Rattle.object_graph.specs.Prototypes.{proto_at, proto_for}
use Rattle.graph_laws.proofs.FoundObjects.{plain_at-is}

-- where a step from what may be found comes to something, something was found
pub step_found : {A B : Type 0} (step : A → Option B) (found : Option A) (b : B) → option_and_then step found ≡ Some b
    → (a : A) × (found ≡ Some a) × (step a ≡ Some b)
step_found step None b is = absurd (none-some b is)
step_found step (Some a) b is = (a, refl, is)

-- where what may be found is turned into something, something was found
turned_found : {A B : Type 0} (turn : A → B) (found : Option A) (b : B) → option_map turn found ≡ Some b
    → (a : A) × (found ≡ Some a) × (turn a ≡ b)
turned_found turn None b is = absurd (none-some b is)
turned_found turn (Some a) b is = (a, refl, same_Some (turn a) b is)

-- two references to objects that are the same are to the same object
pub same_number : (a b : ℕ) → Ref a ≡ Ref b → a ≡ b
same_number a b same = same_Some a b (ap object_in same)

-- the plain object that a value refers to is found by its number
pub plain_at-number : (objects : List Object) (target : Value) (plain : PlainObject)
    → plain_at objects target ≡ Some plain → plain_at objects (Ref plain.number) ≡ Some plain
plain_at-number objects target plain at =
    ap (plain_at objects) (sym (plain_at-is objects target plain at).0) ∙ at

-- the prototype of a plain object is the plain object of the number that it holds
pub proto_at-is : (objects : List Object) (plain next : PlainObject) → proto_at objects plain ≡ Some next
    → (plain.proto ≡ Some next.number) × (plain_at objects (Ref next.number) ≡ Some next)
proto_at-is objects plain next is =
    let found = step_found (λ n. plain_at objects (Ref n)) plain.proto next is in
    let same = same_number found.0 next.number (plain_at-is objects (Ref found.0) next found.2).0 in
    (found.1 ∙ ap (λ n. Some n) same, plain_at-number objects (Ref found.0) next found.2)

-- the prototype that a value gives: none where it is `undefined`, and else the plain object that it refers to
pub data IsGiven (objects : List Object) : Value → Option ℕ → Type 0 where
  none_given : IsGiven objects Undefined None
  one_given : (plain : PlainObject) → plain_at objects (Ref plain.number) ≡ Some plain
      → IsGiven objects (Ref plain.number) (Some plain.number)

-- a value gives no other prototype
pub proto_for-is : (objects : List Object) (value : Value) (proto : Option ℕ) → proto_for objects value ≡ Some proto
    → IsGiven objects value proto
proto_for-is objects (Int v) proto is = absurd (none-some proto is)
proto_for-is objects Undefined proto is = subst (IsGiven objects Undefined) (same_Some None proto is) none_given
proto_for-is objects (Ref number) proto is =
    let found = turned_found (λ (p : PlainObject). Some p.number) (plain_at objects (Ref number)) proto is in
    let plain = found.0 in
    let same = (plain_at-is objects (Ref number) plain found.1).0 in
    subst (λ value. IsGiven objects value proto) (sym same)
    (subst (IsGiven objects (Ref plain.number)) found.2
    (one_given plain (plain_at-number objects (Ref number) plain found.1)))
