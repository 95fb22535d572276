-- What can be reached after a command could be reached before it, or was made; what is lost stays lost.
use Rattle.std.proofs.Common.{◌≡◌, ℕ, ◌<◌, ◌==◌, Bool, true, ◌&&◌, ◌||◌, List, length, Option, Some, None}
use Rattle.std.proofs.Common.{refl, ap, ◌∙◌, subst, arith, ◌⊎◌, inl, inr}
use Rattle.std.specs.Prelude.{All, Contains, slice_get, is_some, IsTrue}
use Rattle.std.proofs.lemmas.Bool.{or_cases, or_left, or_right, and_parts, and_from, eqb-true, eq-eqb}
use Rattle.std.proofs.lemmas.Option.{slice_get_within}
use Rattle.std.proofs.lemmas.List.Elements.{All-contains, All-contains_itself, All-weaker}
use Rattle.heap_command.specs.declared.command.Command.{Command}
use Rattle.object_graph.specs.declared.value.Value.{Value}
use Rattle.object_graph.specs.declared.value.Value.TheVariants.{Int, Undefined, Ref}
use Rattle.object_graph.specs.declared.object.Field.{Field}
use Rattle.object_graph.specs.declared.object.Object.{Object}
use Rattle.object_graph.specs.declared.object.Object.TheVariants.{Plain, List as ListOf, Weak}
use Rattle.object_graph.specs.Graphs.{Graph}
use Rattle.object_graph.specs.Reach.{is_marked, reach}
use Rattle.object_graph.specs.Invariants.{IsValue, IsEntry, IsProto, IsObject, IsGraph}
use Rattle.object_graph.proofs.Leads.{Leads}
use Rattle.graph_laws.specs.ReachLaws.{LinksTo, HasBound, IsClosed}
use Rattle.graph_laws.specs.ReachAfter.{made_for, IsMadeBy, OnlyMadeIsNew}
use Rattle.graph_laws.proofs.Held.{held_at}
use Rattle.graph_laws.proofs.Reaches.{reach_has_bound, reach_closed, reach_least}
use Rattle.graph_laws.proofs.Inside.{IsInside, ProtoInside, EntryInside, ObjectInside, StaysInside}
use Rattle.graph_laws.proofs.InsideChanges.{leads}

-- the object can be reached, or it is the one that the command makes
abbrev known : Graph → Command → ℕ → Bool
known graph command number =
    is_marked (reach graph) number || (is_some (made_for command) && (number == length graph.objects))

-- what is reached is known
reached_known : (graph : Graph) (command : Command) (number : ℕ) → is_marked (reach graph) number ≡ true
    → known graph command number ≡ true
reached_known graph command number marked =
    or_left (is_marked (reach graph) number) (is_some (made_for command) && (number == length graph.objects)) marked

-- what is known is reached or made
known_cases : (graph : Graph) (command : Command) (number : ℕ) → known graph command number ≡ true
    → (is_marked (reach graph) number ≡ true) ⊎ IsMadeBy graph command number
known_cases graph command number is =
    let made = is_some (made_for command) && (number == length graph.objects) in
    elim (or_cases (is_marked (reach graph) number) made is) [
      | inl old ↦ inl old
      | inr new ↦
          let parts = and_parts (is_some (made_for command)) (number == length graph.objects) new in
          inr (parts.0, eqb-true number (length graph.objects) parts.1)
    ]

-- what is known and was there is reached
known_reached : (graph : Graph) (command : Command) (number : ℕ) → number < length graph.objects
    → known graph command number ≡ true → is_marked (reach graph) number ≡ true
known_reached graph command number within is = elim (known_cases graph command number is) [
  | inl old ↦ old
  | inr new ↦ absurd (omega (arith, new.1))
]

-- a value of the graph's objects is known if it is reached wherever it is an object
value_known : (graph : Graph) (command : Command) (value : Value) → IsValue (length graph.objects) value
    → ((number : ℕ) → number < length graph.objects → value ≡ Ref number → is_marked (reach graph) number ≡ true)
    → IsInside (known graph command) value
value_known graph command (Int v) is reached = tt
value_known graph command Undefined is reached = tt
value_known graph command (Ref number) is reached = reached_known graph command number (reached number is refl)

-- a prototype that is one of the graph's objects is known if it is reached
proto_known : (graph : Graph) (command : Command) (proto : Option ℕ) → IsProto (length graph.objects) proto
    → ((number : ℕ) → number < length graph.objects → proto ≡ Some number → is_marked (reach graph) number ≡ true)
    → ProtoInside (known graph command) proto
proto_known graph command None is reached = tt
proto_known graph command (Some number) is reached = reached_known graph command number (reached number is refl)

-- what all elements have, told from that each is one of them, all have
all_from : {X : Type 0} (P : X → Type 0) (xs : List X) → ((x : X) → Contains xs x → P x) → All P xs
all_from P xs each = All-weaker (Contains xs) P each xs (All-contains_itself xs)

-- what a reached object refers to is known
object_known : (graph : Graph) (command : Command) (holder : ℕ) (object : Object)
    → slice_get graph.objects holder ≡ Some object → is_marked (reach graph) holder ≡ true
    → IsObject (length graph.objects) object → ObjectInside (known graph command) object
object_known graph command holder (Plain cap proto fields) there marked is =
    let closed = λ (number : ℕ). reach_closed graph holder (Plain cap proto fields) number there marked in (
      proto_known graph command proto is.leads (λ number within same. closed number within (inl same)),
      all_from (λ f. IsInside (known graph command) f.value) fields (λ f among.
          let value =
          All-contains (λ (g : Field). IsValue (length graph.objects) g.value) fields f is.are.values among in
          value_known graph command f.value value (λ number within same. closed number within (inr (f, among, same)))),
    )
object_known graph command holder (ListOf elements) there marked is =
    all_from (IsInside (known graph command)) elements (λ v among.
    let value = All-contains (IsValue (length graph.objects)) elements v is.values among in
    value_known graph command v value (λ number within same.
    reach_closed graph holder (ListOf elements) number there marked within (subst (Contains elements) same among)))
object_known graph command holder (Weak entries) there marked is =
    all_from (EntryInside (known graph command)) entries (λ e among key.
    let entry = All-contains (IsEntry (length graph.objects)) entries e is.keys_and_values among in
    let reached = known_reached graph command e.key entry.key key in
    value_known graph command e.value entry.value (λ number within same.
    reach_closed graph holder (Weak entries) number there marked within (e, among, reached, same)))

-- a graph stays inside what is known
stays_known : (graph : Graph) (command : Command) → IsGraph graph → StaysInside (known graph command) graph
stays_known graph command is = record {
  bound = λ x value at. value_known graph command value (is.bound x value at) (λ number within same.
      reach_has_bound graph x number within (at ∙ ap (λ v. Some v) same));
  closed = λ holder object there held.
      let within = slice_get_within graph.objects holder object there in
      let marked = known_reached graph command holder within held in
      let made = held_at (IsObject (length graph.objects)) graph.objects holder object is.made there in
      object_known graph command holder object there marked made;
}

-- an object links to objects inside where it refers to such alone
links_inside : (inside : ℕ → Bool) (object : Object) (number : ℕ) → ObjectInside inside object
    → LinksTo inside object number → inside number ≡ true
links_inside inside (Plain cap proto fields) number all (inl same) = subst (ProtoInside inside) same all.0
links_inside inside (Plain cap proto fields) number all (inr (field, among, same)) =
    subst (IsInside inside) same (All-contains (λ (f : Field). IsInside inside f.value) fields field all.1 among)
links_inside inside (ListOf elements) number all among = All-contains (IsInside inside) elements (Ref number) all among
links_inside inside (Weak entries) number all (entry, among, key, same) =
    subst (IsInside inside) same (All-contains (EntryInside inside) entries entry all among key)

-- what is reached in a graph that stays inside is inside
reach_inside : (inside : ℕ → Bool) (graph : Graph) → StaysInside inside graph
    → (number : ℕ) → is_marked (reach graph) number ≡ true → inside number ≡ true
reach_inside inside graph stays number marked =
    let bound : HasBound graph inside = λ x other within at. stays.bound x (Ref other) at in
    let closed : IsClosed graph inside = λ holder object other there held within linked.
    links_inside inside object other (stays.closed holder object there held) linked in
    reach_least graph inside bound closed number marked

-- what is reached after a command was reached before it, or the command made it
pub only_made_is_new : OnlyMadeIsNew
only_made_is_new limits names graph command after text number is carried marked =
    let inside = known graph command in
    let count = length graph.objects in
    let made = λ (makes : IsTrue (is_some (made_for command))).
    or_right (is_marked (reach graph) count) (is_some (made_for command) && (count == count))
    (and_from (is_some (made_for command)) (count == count) makes (eq-eqb count count refl)) in
    let before = stays_known graph command is in
    let stays = subst (Leads (StaysInside inside)) carried (leads inside limits names graph command made before) in
    known_cases graph command number (reach_inside inside after stays number marked)
