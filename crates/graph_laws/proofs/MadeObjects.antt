-- The object that a command makes: the command's variable refers to it, and nothing else does.
use Rattle.std.proofs.Common.{◌≡◌, ℕ, ◌<◌, Bool, true, false, cond, List, [], ◌∷◌, length, Option, Some, None, refl}
use Rattle.std.proofs.Common.{sym, ap, ◌∙◌, subst, arith, length-append, inl, inr}
use Rattle.std.specs.Prelude.{Contains, IsTrue}
use Rattle.std.specs.Ordering.{nat_cmp, eq_by_cmp}
use Rattle.std.specs.Cmp.{nat_cmp_total, unsigned_tied}
use Rattle.std.specs.FinMap.{get, insert, get-insert}
use Rattle.std.proofs.lemmas.Bool.{eqb-true, eq-eqb}
use Rattle.std.proofs.lemmas.Option.{none-some, same_Some}
use Rattle.std.proofs.lemmas.List.Elements.{All-contains}
use Rattle.heap_command.specs.declared.command.Command.{Command}
use Rattle.heap_command.specs.declared.command.Command.TheVariants as command
use Rattle.object_graph.specs.declared.value.Value.{Value}
use Rattle.object_graph.specs.declared.value.Value.TheVariants.{Ref}
use Rattle.object_graph.specs.declared.object.Field.{Field}
use Rattle.object_graph.specs.declared.object.Object.{Object}
use Rattle.object_graph.specs.declared.object.Object.TheVariants.{Plain, List as ListOf, Weak}
use Rattle.object_graph.specs.Graphs.{Graph, make}
use Rattle.object_graph.specs.Meaning.{Limits, Outcome, done, fault, meaning}
use Rattle.object_graph.specs.Reach.{is_marked, reach}
use Rattle.object_graph.specs.Invariants.{IsValue, IsEntry, IsProto, IsObject, IsGraph}
use Rattle.object_graph.proofs.Leads.{Leads}
use Rattle.graph_laws.specs.ReachAfter.{made_for, Mentions, IsOnlyBoundTo, MadeIsReached, MadeIsUnshared}
use Rattle.graph_laws.proofs.Held.{held_at}
use Rattle.graph_laws.proofs.Reaches.{reach_has_bound}
use Rattle.graph_laws.proofs.InsideChanges.{pushed}

-- nothing is an element of an empty list
none_among : {X : Type 0} (x : X) → ¬ Contains [] x
none_among x among = absurd (omega (arith, among.1))

-- a plain object without a prototype and without fields mentions no object
bare_plain : (cap number : ℕ) → ¬ Mentions (Plain cap None []) number
bare_plain cap number (inl same) = absurd (none-some number same)
bare_plain cap number (inr at) = none_among at.0 at.1

-- the graph after the command is the graph before it with a new object, which refers to none
pub record Makes (graph : Graph) (x : ℕ) (after : Graph) : Type 0 where
  pub object : Object
  pub is : after ≡ make graph x object
  pub bare : (number : ℕ) → ¬ Mentions object number

-- what a property says of each graph holds where an outcome leads
leads_always : (Holds : Graph → Type 0) (outcome : Outcome) → ((after : Graph) → Holds after) → Leads Holds outcome
leads_always Holds (done after text) always = always after
leads_always Holds (fault word) always = tt

-- where a command's variable is this one, making the object is making it for this one
makes : (graph : Graph) (x y : ℕ) (object : Object) → ((number : ℕ) → ¬ Mentions object number) → Some x ≡ Some y
    → Makes graph y (make graph x object)
makes graph x y object bare same =
    record { object = object; is = ap (λ z. make graph z object) (same_Some x y same); bare = bare }

-- a command that makes an object makes it for its variable, and does no more
made : (limits : Limits) (names : List (List ℕ)) (graph : Graph) (command : Command)
    → Leads (λ after. (x : ℕ) → made_for command ≡ Some x → Makes graph x after) (meaning limits names graph command)
made limits names graph (command.New x cap) =
    λ y same. makes graph x y (Plain cap None []) (bare_plain cap) same
made limits names graph (command.List x) =
    λ y same. makes graph x y (ListOf []) (λ number at. none_among (Ref number) at) same
made limits names graph (command.Weak x) =
    λ y same. makes graph x y (Weak []) (λ number at. none_among at.0 at.1) same
made limits names graph other =
    leads_always (λ after. (x : ℕ) → made_for other ≡ Some x → Makes graph x after) (meaning limits names graph other)
    (λ after x none. absurd (none-some x none))

-- so it is where the command is carried out
carried_out : (limits : Limits) (names : List (List ℕ)) (graph : Graph) (command : Command)
    (after : Graph) (text : List ℕ)
    (x : ℕ)
    → meaning limits names graph command ≡ done after text → made_for command ≡ Some x → Makes graph x after
carried_out limits names graph command after text x carried =
    let Holds = λ (later : Graph). (y : ℕ) → made_for command ≡ Some y → Makes graph y later in
    let holds = subst (Leads Holds) carried (made limits names graph command) in
    holds x

-- a variable that was bound to a value is bound to it
get-insert_same : (graph : Graph) (x : ℕ) (value : Value) → get (insert graph.bindings x value) x ≡ Some value
get-insert_same graph x value =
    get-insert nat_cmp_total graph.bindings x value x
    ∙ ap (λ b. cond b (Some value) (get graph.bindings x)) (unsigned_tied x x ∙ eq-eqb x x refl)

-- where what was there is never this, the test chose the other
bound_cases : (test : Bool) (one other : Option Value) (found : Value) → cond test one other ≡ Some found
    → ¬ (other ≡ Some found) → test ≡ true
bound_cases true one other found at never = refl
bound_cases false one other found at never = absurd (never at)

-- no object of a graph has a number that is past its objects
unmentioned : (count : ℕ) (object : Object) → IsObject count object → ¬ Mentions object count
unmentioned count (Plain cap proto fields) is (inl same) =
    let below : count < count = subst (IsProto count) same is.leads in
    omega arith
unmentioned count (Plain cap proto fields) is (inr (field, among, same)) =
    let value = All-contains (λ (f : Field). IsValue count f.value) fields field is.are.values among in
    let below : count < count = subst (IsValue count) same value in
    omega arith
unmentioned count (ListOf elements) is among =
    let below : count < count = All-contains (IsValue count) elements (Ref count) is.values among in
    omega arith
unmentioned count (Weak entries) is (entry, among, inl same) =
    let held = All-contains (IsEntry count) entries entry is.keys_and_values among in
    omega (arith, held.key, same)
unmentioned count (Weak entries) is (entry, among, inr same) =
    let held = All-contains (IsEntry count) entries entry is.keys_and_values among in
    let below : count < count = subst (IsValue count) same held.value in
    omega arith

-- the new object can be reached
make_reached : (graph : Graph) (x : ℕ) (object : Object)
    → (get (make graph x object).bindings x ≡ Some (Ref (length graph.objects)))
    × IsTrue (is_marked (reach (make graph x object)) (length graph.objects))
make_reached graph x object =
    let after = make graph x object in
    let within : length graph.objects < length after.objects =
    omega (arith, length-append graph.objects (object ∷ [])) in
    let bound = get-insert_same graph x (Ref (length graph.objects)) in
    (bound, reach_has_bound after x (length graph.objects) within bound)

-- nothing refers to the new object but its variable
make_unshared : (graph : Graph) (x : ℕ) (object : Object) → IsGraph graph → ((number : ℕ) → ¬ Mentions object number)
    → IsOnlyBoundTo (make graph x object) x (length graph.objects)
make_unshared graph x object is bare =
    let count = length graph.objects in
    let old = λ (y : ℕ) (at : get graph.bindings y ≡ Some (Ref count)).
    (let below : count < count = is.bound y (Ref count) at in let no : ⊥ = omega arith in no) in
    record {
      variables = λ y at.
          let by_test = sym (get-insert nat_cmp_total graph.bindings x (Ref count) y) ∙ at in
          let test = eq_by_cmp nat_cmp y x in
          let passes = bound_cases test (Some (Ref count)) (get graph.bindings y) (Ref count) by_test (old y) in
          eqb-true y x (sym (unsigned_tied y x) ∙ passes);
      objects = λ holder found there mentions. elim (pushed graph.objects object holder found there) [
        | inl before ↦ unmentioned count found
            (held_at (IsObject count) graph.objects holder found is.made before) mentions
        | inr new ↦ bare count (subst (λ o. Mentions o count) (sym new.1) mentions)
      ];
    }

-- a made object is reached
pub made_is_reached : MadeIsReached
made_is_reached limits names graph command after text x carried made_here =
    let making = carried_out limits names graph command after text x carried made_here in
    let Says = λ (later : Graph).
    (get later.bindings x ≡ Some (Ref (length graph.objects)))
    × IsTrue (is_marked (reach later) (length graph.objects)) in
    subst Says (sym making.is) (make_reached graph x making.object)

-- a made object is unshared
pub made_is_unshared : MadeIsUnshared
made_is_unshared limits names graph command after text x is carried made_here =
    let making = carried_out limits names graph command after text x carried made_here in
    subst (λ later. IsOnlyBoundTo later x (length graph.objects)) (sym making.is)
    (make_unshared graph x making.object is making.bare)
