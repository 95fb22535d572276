-- `proto` is carried out as the call on prototypes says.
use Rattle.std.proofs.Common.{◌≡◌, ℕ, true, false, List, [], Option, Ok, Err, Some, refl, ◌∙◌, ap}
use Rattle.std.specs.FinMap.{get}
use Rattle.heap_model.specs.Types.{Operand, Value, Held}
use Rattle.heap_model.specs.Needs.{capacity_at}
use Rattle.heap_command.specs.declared.command.Command.TheVariants.{Proto}
use Rattle.heap_command.specs.declared.command.FaultWord.TheVariants as word
use Rattle.object_graph.specs.declared.value.Value.TheVariants.{Ref}
use Rattle.object_graph.specs.declared.object.Object.TheVariants.{Plain}
use Rattle.object_graph.specs.Graphs.{Graph, PlainObject, value_of, as_plain}
use Rattle.object_graph.specs.Prototypes.{makes_ring, proto_for, with_proto}
use Rattle.object_graph.specs.Meaning.{done, fault, unless, meaning}
use Rattle.object_graph.specs.Limits.{ideal_limits}
use Rattle.write_barrier.specs.MutatorState.{Mutator, heap_of, MainShows}
use Rattle.object_cells.specs.PlainObjects.{IsPlainAt}
use Rattle.shape_change.specs.Prototypes.{GivesProto, MaySetProto, HasSetProto}
use Rattle.mutator.specs.declared.lookups.Found.{Found}
use Rattle.mutator.specs.declared.stop.Stop.TheVariants.{Fault}
use Rattle.mutator.specs.CarriesOut.{Carries}
use Rattle.mutator.specs.Reading.{StandsFor, StandForBoth, IsFound}
use Rattle.mutator.specs.Linking.{FindsProtoFor, IsShownLink}
use Rattle.mutator.proofs.CommandRooms.{keeps_object}
use Rattle.mutator.proofs.KnownObjects.{IsKnown, known_found, change_carried}
use Rattle.mutator.proofs.Rebinding.{room_for_none}
use Rattle.mutator.proofs.StillShown.{shows_still, stands_still}

module _ {graph : Graph} {x : ℕ} {target value : Value} {plain : PlainObject} {proto : Option ℕ}
    (names : List (List ℕ)) (v : Operand) (known : IsKnown as_plain graph x target plain)
    (is : value_of graph v ≡ Some value) (gives : proto_for graph.objects value ≡ Some proto) where
  -- a `proto` whose object and prototype are known
  proto_known : meaning ideal_limits names graph (Proto x v)
      ≡ unless word.Ring (makes_ring graph.objects plain.number proto) (done (with_proto graph plain proto) [])
  proto_known = rw (known.bound, is, known.refers, gives)

  -- where no ring is closed, the object has the prototype
  pub proto_done : makes_ring graph.objects plain.number proto ≡ false
      → meaning ideal_limits names graph (Proto x v) ≡ done (with_proto graph plain proto) []
  proto_done open_chain =
      proto_known ∙ ap (λ test. unless word.Ring test (done (with_proto graph plain proto) [])) open_chain

  -- where one is, that is the fault
  pub proto_ring : makes_ring graph.objects plain.number proto ≡ true
      → meaning ideal_limits names graph (Proto x v) ≡ fault word.Ring
  proto_ring closed = proto_known ∙ ap (λ test. unless word.Ring test (done (with_proto graph plain proto) [])) closed

-- what is known once the variables of a `proto`, its object and the prototype were found
pub record IsLinking (main : Mutator) (graph : Graph) (x : ℕ) (v : Operand) (at : ℕ) (to : Option ℕ) : Type 0 where
  pub plain : PlainObject
  pub value : Value
  pub proto : Option ℕ
  pub shows : MainShows main graph
  pub known : IsKnown as_plain graph x (Ref plain.number) plain
  pub value_is : value_of graph v ≡ Some value
  pub gives : proto_for graph.objects value ≡ Some proto
  pub stands : IsPlainAt main graph at plain
  pub given : GivesProto main graph to proto

-- so it is once they were read, of a heap that is the same
pub linking_read : {old now : Mutator} {graph : Graph} {pair : Held × Held} {found : Found} {to : Option ℕ} (x : ℕ)
    (v : Operand) → now ≡ old → MainShows old graph
    → StandForBoth old graph (get graph.bindings x) (value_of graph v) pair
    → ((value : Value) → MainShows now graph → StandsFor now graph value pair.0 → IsFound now graph value found)
    → ((value : Value) → MainShows now graph → StandsFor now graph value pair.1
    → FindsProtoFor now graph value (Ok to))
    → IsLinking now graph x v found.at to
linking_read x v same shows both found gives =
    let shown = shows_still same shows in
    let named = found both.first shown (stands_still same both.stands_first) in
    let (proto, is, given) = gives both.second shown (stands_still same both.stands_second) in
    record {
      plain = named.plain;
      value = both.second;
      proto = proto;
      shows = shown;
      known = known_found both.is_first named.is named.refers;
      value_is = both.is_second;
      gives = is;
      stands = named.stands;
      given = given;
    }

-- whether a ring would be closed may be asked
pub linking_shown : {main : Mutator} {graph : Graph} {x at : ℕ} {v : Operand} {to : Option ℕ}
    → IsLinking main graph x v at to → IsShownLink main at to
linking_shown {graph = graph} linking = record {
  graph = graph;
  plain = linking.plain;
  proto = linking.proto;
  shows = linking.shows;
  is = linking.stands;
  gives = linking.given;
}

-- where none is, the prototype may be set
pub linking_may_set : {main : Mutator} {graph : Graph} {x at : ℕ} {v : Operand} {to : Option ℕ}
    → (linking : IsLinking main graph x v at to)
    → makes_ring graph.objects linking.plain.number linking.proto ≡ false → MaySetProto main at to
linking_may_set {graph = graph} linking open_chain = record {
  graph = graph;
  plain = linking.plain;
  proto = linking.proto;
  shows = linking.shows;
  is = linking.stands;
  gives = linking.given;
  no_ring = open_chain;
}

-- a prototype that was set
pub proto_carried : {old main new : Mutator} {graph : Graph} {x at : ℕ} {v : Operand} {to : Option ℕ}
    (names : List (List ℕ)) → main ≡ old → (linking : IsLinking main graph x v at to)
    → makes_ring graph.objects linking.plain.number linking.proto ≡ false
    → HasSetProto main new graph at linking.plain linking.proto → Carries names old new graph (Proto x v) [] (Ok tt)
proto_carried {main = main} {x = x} {at} {v} names same linking open_chain sets =
    let plain = linking.plain in
    let stands = linking.stands in
    change_carried names same linking.shows sets.shows
    (proto_done names v linking.known linking.value_is linking.gives open_chain) refl refl linking.known.bound
    stands.place sets.changes (room_for_none linking.shows) sets.uses (λ rooms has. refl)
    (λ rooms one fewer.
    keeps_object one fewer (Proto x v) (Plain plain.cap linking.proto plain.fields) (capacity_at (heap_of main) at) refl
    stands.object stands.reached stands.place refl (one.has plain.number at _ stands.object stands.reached stands.place)
    (λ number apart. refl) sets.changes)

-- and one that was not, since it would close a ring
pub proto_stopped : {old main : Mutator} {graph : Graph} {x at : ℕ} {v : Operand} {to : Option ℕ}
    (names : List (List ℕ)) → main ≡ old → (linking : IsLinking main graph x v at to)
    → makes_ring graph.objects linking.plain.number linking.proto ≡ true
    → Carries names old main graph (Proto x v) [] (Err (Fault word.Ring))
proto_stopped {v = v} names same linking closed =
    (proto_ring names v linking.known linking.value_is linking.gives closed, same)
