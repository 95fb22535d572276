-- A command with the fault `weakfull` finds its map full of pairs, on each heap that shows the graph.
use Rattle.std.proofs.Common.{◌≡◌, ◌≢◌, ℕ, ◌<◌, ◌≤◌, Bool, true, false, ◌&&◌, List, [], length, Option, Some, None}
use Rattle.std.proofs.Common.{is_none, nat_le, refl, sym, ap, ◌∙◌, arith}
use Rattle.std.specs.Prelude.{option_and_then}
use Rattle.std.specs.FinMap.{get}
use Rattle.std.proofs.lemmas.Bool.{false≢true}
use Rattle.std.proofs.lemmas.Bool.Decides.{nat_tests}
use Rattle.std.proofs.lemmas.Option.{slice_get_within}
use Rattle.heap_model.specs.Types.{Command, FaultWord, Operand, Value}
use Rattle.heap_command.specs.declared.command.Command.TheVariants as command
use Rattle.heap_command.specs.declared.command.FaultWord.TheVariants.{Unbound, NotWeak, BadKey, WeakFull}
use Rattle.heap_command.specs.declared.command.Operand.TheVariants as operand
use Rattle.object_graph.specs.declared.value.Value.TheVariants.{Int, Undefined, Ref}
use Rattle.object_graph.specs.declared.object.Field.{Field}
use Rattle.object_graph.specs.declared.object.Object.TheVariants.{Weak}
use Rattle.object_graph.specs.Objects.{entry_value}
use Rattle.object_graph.specs.Graphs.{Graph, PlainObject, value_of, object_in, weak_at}
use Rattle.object_graph.specs.Invariants.{IsGraph}
use Rattle.object_graph.specs.Limits.{ideal_limits}
use Rattle.object_graph.specs.Meaning.{Limits, Outcome, done, fault, given, unless, weak_most, no_entry_for, meaning}
use Rattle.object_graph.specs.Meaning.{reshape, reshape_if}
use Rattle.object_graph.specs.Reach.{is_marked, reach}
use Rattle.object_graph.proofs.WeakMost.{no_entry_for-is}
use Rattle.graph_laws.proofs.FoundObjects.{weak_at-is}
use Rattle.graph_laws.proofs.Reaches.{reach_has_bound}
use Rattle.heap_model.specs.Needs.{count_at}
use Rattle.heap_model.specs.Rooms.{Room}
use Rattle.live_cells.specs.Counts.{reached_keys}
use Rattle.live_cells.proofs.PairCounts.{maps_have_reached_keys}
use Rattle.live_cells.proofs.ReachedMarked.{shown_place}
use Rattle.write_barrier.specs.MutatorState.{Mutator, heap_of, MainShows}
use Rattle.mutator.specs.CarriesOut.{FindsMapNotFull}
use Rattle.heap_script.specs.Collecting.{FindsPairs}

-- whether a fault is another one than `weakfull`
abbrev is_other : FaultWord → Bool
is_other WeakFull = false
is_other _ = true

-- whether an outcome is no fault, or another one
abbrev avoids : Outcome → Bool
avoids (done after text) = true
avoids (fault word) = is_other word

-- a step with another fault avoids `weakfull` where the next one does
seeks : {A : Type 0} (word : FaultWord) (sought : Option A) (next : A → Outcome) → is_other word ≡ true
    → ((found : A) → avoids (next found) ≡ true) → avoids (given word sought next) ≡ true
seeks word None next other after = other
seeks word (Some found) next other after = after found

-- so does a test with another fault
tests : (word : FaultWord) (test : Bool) (next : Outcome) → is_other word ≡ true → avoids next ≡ true
    → avoids (unless word test next) ≡ true
tests word true next other after = other
tests word false next other after = after

-- and a change of fields, where the fields are there
reshapes : (limits : Limits) (graph : Graph) (plain : PlainObject) (there : Option Value) (fields : List Field)
    → avoids (reshape limits graph plain fields) ≡ true → avoids (reshape_if limits graph plain there fields) ≡ true
reshapes limits graph plain None fields after = refl
reshapes limits graph plain (Some value) fields after = after

-- the command puts an entry, or its outcome avoids `weakfull`
data PutsOrAvoids (names : List (List ℕ)) (graph : Graph) : Command → Type 0 where
  putting : (m : ℕ) (k v : Operand) → PutsOrAvoids names graph (command.WPut m k v)
  avoiding : (one : Command) → avoids (meaning ideal_limits names graph one) ≡ true → PutsOrAvoids names graph one

-- so it is with each command
puts_or_avoids : (names : List (List ℕ)) (graph : Graph) (one : Command) → PutsOrAvoids names graph one
puts_or_avoids names graph (command.WPut m k v) = PutsOrAvoids.putting m k v
puts_or_avoids names graph (command.New x cap) = PutsOrAvoids.avoiding _ refl
puts_or_avoids names graph (command.List x) = PutsOrAvoids.avoiding _ refl
puts_or_avoids names graph (command.Weak x) = PutsOrAvoids.avoiding _ refl
puts_or_avoids names graph (command.LetValue x v) = PutsOrAvoids.avoiding _ (search seeks)
puts_or_avoids names graph (command.DropVar x) = PutsOrAvoids.avoiding _ (search seeks)
puts_or_avoids names graph (command.Add x v) = PutsOrAvoids.avoiding _ (search (seeks, tests) depth 14)
puts_or_avoids names graph (command.Set x f v) = PutsOrAvoids.avoiding _ (search (seeks, tests) depth 14)
puts_or_avoids names graph (command.Get y x f) = PutsOrAvoids.avoiding _ (search (seeks) depth 14)
puts_or_avoids names graph (command.Del x f) = PutsOrAvoids.avoiding _ (search (seeks, reshapes) depth 14)
puts_or_avoids names graph (command.Proto x v) = PutsOrAvoids.avoiding _ (search (seeks, tests) depth 14)
puts_or_avoids names graph (command.Push x v) = PutsOrAvoids.avoiding _ (search (seeks, tests) depth 14)
puts_or_avoids names graph (command.Put x i v) = PutsOrAvoids.avoiding _ (search (seeks) depth 14)
puts_or_avoids names graph (command.At y x i) = PutsOrAvoids.avoiding _ (search (seeks) depth 14)
puts_or_avoids names graph (command.Shift x n) = PutsOrAvoids.avoiding _ (search (seeks) depth 14)
puts_or_avoids names graph (command.Trunc x n) = PutsOrAvoids.avoiding _ (search (seeks) depth 14)
puts_or_avoids names graph (command.WGet y m k) = PutsOrAvoids.avoiding _ (search (seeks) depth 14)
puts_or_avoids names graph (command.WDel m k) = PutsOrAvoids.avoiding _ (search (seeks) depth 14)
puts_or_avoids names graph (command.Print v) = PutsOrAvoids.avoiding _ (search seeks)
puts_or_avoids names graph (command.Same a b) = PutsOrAvoids.avoiding _ (search (seeks) depth 14)
puts_or_avoids names graph (command.Alike x y) = PutsOrAvoids.avoiding _ (search (seeks) depth 14)
puts_or_avoids names graph (command.Shape x) = PutsOrAvoids.avoiding _ (search (seeks) depth 14)
puts_or_avoids names graph command.Scavenge = PutsOrAvoids.avoiding _ refl
puts_or_avoids names graph command.Mark = PutsOrAvoids.avoiding _ refl
puts_or_avoids names graph command.Finish = PutsOrAvoids.avoiding _ refl
puts_or_avoids names graph command.Gc = PutsOrAvoids.avoiding _ refl
puts_or_avoids names graph command.Census = PutsOrAvoids.avoiding _ refl

-- where the fault is `weakfull`, what a step with another one seeks is there
passes : {A : Type 0} (word : FaultWord) (sought : Option A) (next : A → Outcome) → is_other word ≡ true
    → given word sought next ≡ fault WeakFull → (found : A) × (sought ≡ Some found) × (next found ≡ fault WeakFull)
passes word None next other is = absurd (false≢true (sym (ap avoids is) ∙ other))
passes word (Some found) next other is = (found, refl, is)

-- and a test alone holds before what is done
holds : (test : Bool) (after : Graph) → unless WeakFull test (done after []) ≡ fault WeakFull → test ≡ true
holds true after is = refl
holds false after is = absurd (false≢true (sym (ap avoids is)))

-- a value in which an object's number is found refers to the object
refers : (value : Value) (number : ℕ) → object_in value ≡ Some number → value ≡ Ref number
refers (Int v) number is = cc
refers Undefined number is = cc
refers (Ref other) number is = cc

-- an object for which an operand stands can be reached
operand_reached : (graph : Graph) (k : Operand) (number : ℕ) → IsGraph graph → value_of graph k ≡ Some (Ref number)
    → is_marked (reach graph) number ≡ true
operand_reached graph (operand.Int v) number is_graph is = cc
operand_reached graph operand.Undefined number is_graph is = cc
operand_reached graph (operand.Var x) number is_graph is =
    reach_has_bound graph x number (is_graph.bound x (Ref number) is) is

-- nothing is there where there is none, and so many are as many as there may be
fresh_and_full : {A : Type 0} (there : Option A) (most count : ℕ) (test : Bool)
    → test ≡ (is_none there && nat_le most count) → test ≡ true → (there ≡ None) × (most ≤ count)
fresh_and_full None most count test is passed =
    let least : nat_le most count ≡ true = sym is ∙ passed in (refl, grind (arith, nat_tests))
fresh_and_full (Some one) most count test is passed = absurd (false≢true (sym is ∙ passed))

module _ {main : Mutator} {graph : Graph} (names : List (List ℕ)) (shows : MainShows main graph) where
  -- a `wput` with the fault `weakfull` finds its map full of pairs
  put_finds : (m : ℕ) (k v : Operand) → meaning ideal_limits names graph (command.WPut m k v) ≡ fault WeakFull
      → (entries : ℕ) × FindsPairs (heap_of main) graph (command.WPut m k v) entries
  put_finds m k v faults =
      let (target, bound, to_key) = passes Unbound (get graph.bindings m) _ refl faults in
      let (key, keyed, to_value) = passes Unbound (value_of graph k) _ refl to_key in
      let (value, given, to_map) = passes Unbound (value_of graph v) _ refl to_value in
      let (weak, found, to_number) = passes NotWeak (weak_at graph.objects target) _ refl to_map in
      let (number, named, to_test) = passes BadKey (object_in key) _ refl to_number in
      let stands = weak_at-is graph.objects target weak found in
      let within : weak.number < length graph.objects =
      slice_get_within graph.objects weak.number (Weak weak.entries) stands.1 in
      let reached = reach_has_bound graph m weak.number within (bound ∙ ap (λ v. Some v) stands.0) in
      let shown = shows.shows.reached weak.number (Weak weak.entries) stands.1 reached in
      let place = shown_place (reach graph) (Weak weak.entries) shown in
      let many = maps_have_reached_keys (heap_of main) graph shown.cell.at weak.entries shows.is_graph shows.shows
      (record { number = weak.number; place = place; stands = stands.1; reached = reached }) in
      let marked = operand_reached graph k number shows.is_graph
      (keyed ∙ ap (λ v. Some v) (refers key number named)) in
      let (fresh, full) = fresh_and_full (entry_value weak.entries number) weak_most (reached_keys graph weak.entries)
      (no_entry_for (reach graph) weak.entries number) (no_entry_for-is (reach graph) weak.entries number marked)
      (holds _ _ to_test) in (
        count_at (heap_of main) shown.cell.at,
        λ rooms has.
            let room = ap (λ (one : Room). one.entries)
            (has weak.number shown.cell.at (Weak weak.entries) stands.1 reached place) in
            record {
              m = m;
              k = k;
              v = v;
              is = refl;
              weak = weak;
              map = ap (option_and_then (weak_at graph.objects)) bound ∙ found;
              key = number;
              named = ap (option_and_then object_in) keyed ∙ named;
              value = value;
              given = given;
              full = record { fresh = fresh; full = omega (arith, room, full, many) };
              count = sym {b = count_at (heap_of main) shown.cell.at} room;
            },
      )

  -- so a command that does not find its map full has another fault
  pub faults_otherwise : (one : Command) (word : FaultWord) → FindsMapNotFull main graph one
      → meaning ideal_limits names graph one ≡ fault word → word ≢ WeakFull
  faults_otherwise one word unfull faults is =
      let full : meaning ideal_limits names graph one ≡ fault WeakFull = faults ∙ ap (λ w. fault w) is in
      by_kind one (puts_or_avoids names graph one) unfull full
    where
      by_kind : (one : Command) → PutsOrAvoids names graph one → FindsMapNotFull main graph one
          → meaning ideal_limits names graph one ≡ fault WeakFull → ⊥
      by_kind one (PutsOrAvoids.putting m k v) unfull full =
          let (entries, finds) = put_finds m k v full in unfull entries finds
      by_kind one (PutsOrAvoids.avoiding same avoided) unfull full = false≢true (sym (ap avoids full) ∙ avoided)
