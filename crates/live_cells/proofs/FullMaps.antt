-- A weak map that a command finds full in an exact heap is full in the graph.
use Rattle.std.proofs.Common.{◌≡◌, ℕ, ◌<◌, ◌≤◌, true, ◌&&◌, List, [], length, Option, Some, None, ◌∙◌, ap}
use Rattle.std.proofs.Common.{is_none, nat_le, slice_get, subst, refl, arith}
use Rattle.std.specs.Prelude.{option_and_then}
use Rattle.std.specs.FinMap.{get}
use Rattle.std.proofs.lemmas.Bool.Decides.{nat_tests}
use Rattle.std.proofs.lemmas.Option.{none-some, same_Some, slice_get_within}
use Rattle.heap_command.specs.declared.command.Command.TheVariants.{WPut}
use Rattle.heap_command.specs.declared.command.FaultWord.TheVariants.{WeakFull}
use Rattle.heap_command.specs.declared.command.Operand.TheVariants as operand
use Rattle.object_graph.specs.declared.value.Value.TheVariants.{Int, Undefined, Ref}
use Rattle.object_graph.specs.declared.object.Object.TheVariants.{Weak}
use Rattle.object_graph.specs.Objects.{with_entry, entry_value}
use Rattle.object_graph.specs.Graphs.{Graph, WeakObject, value_of, object_in, weak_at}
use Rattle.object_graph.specs.Invariants.{IsGraph}
use Rattle.object_graph.specs.Limits.{ideal_limits}
use Rattle.object_graph.specs.Meaning.{done, fault, unless, weak_most, no_entry_for, reweave, meaning}
use Rattle.object_graph.specs.Reach.{is_marked, reach}
use Rattle.object_graph.proofs.WeakMost.{no_entry_for-is}
use Rattle.graph_laws.proofs.FoundObjects.{weak_at-is}
use Rattle.graph_laws.proofs.Reaches.{reach_has_bound}
use Rattle.heap_model.specs.Types.{Value, Operand, Entry}
use Rattle.heap_model.specs.Heaps.{Heap}
use Rattle.heap_model.specs.Rooms.{Room, HasRooms, IsMapFull, weak_of, key_of}
use Rattle.live_cells.specs.Counts.{reached_keys, ExactMapsAreFull}
use Rattle.live_cells.specs.Exact.{Exact}
use Rattle.live_cells.proofs.PairCounts.{exact_maps_have_no_others}
use Rattle.live_cells.proofs.ReachedMarked.{shown_place}

-- what is found in what is there is found in something
found_in : {A B : Type 0} (there : Option A) (find : A → Option B) (found : B) → option_and_then find there ≡ Some found
    → (one : A) × (there ≡ Some one) × (find one ≡ Some found)
found_in None find found is = absurd (none-some found is)
found_in (Some one) find found is = (one, refl, is)

-- a value in which an object's number is found refers to the object
refers : (value : Value) (number : ℕ) → object_in value ≡ Some number → value ≡ Ref number
refers (Int v) number is = absurd (none-some number is)
refers Undefined number is = absurd (none-some number is)
refers (Ref other) number is = ap (λ n. Ref n) (same_Some other number is)

-- an object that an operand stands for can be reached
operand_reached : (graph : Graph) (k : Operand) (number : ℕ) → IsGraph graph → value_of graph k ≡ Some (Ref number)
    → is_marked (reach graph) number ≡ true
operand_reached graph (operand.Int v) number is_graph is = cc
operand_reached graph operand.Undefined number is_graph is = cc
operand_reached graph (operand.Var x) number is_graph is =
    reach_has_bound graph x number (is_graph.bound x (Ref number) is) is

-- there is no entry for a new key that can be reached, where as many keys of entries can be reached as may be
no_entry : (graph : Graph) (entries : List Entry) (key : ℕ) → is_marked (reach graph) key ≡ true
    → entry_value entries key ≡ None → weak_most ≤ reached_keys graph entries
    → no_entry_for (reach graph) entries key ≡ true
no_entry graph entries key marked fresh full =
    no_entry_for-is (reach graph) entries key marked
    ∙ ap (λ one. is_none one && nat_le weak_most (reached_keys graph entries)) fresh ∙ full_test
  where
    full_test : nat_le weak_most (reached_keys graph entries) ≡ true
    full_test = grind (arith, nat_tests)

module _ {heap : Heap} {graph : Graph} (is_graph : IsGraph graph) (exact : Exact heap graph) where
  -- in an exact heap a map that can be reached has as many pairs filled as keys of its entries can be reached
  room_counts : (rooms : ℕ → Room) (number : ℕ) (entries : List Entry) → HasRooms heap graph rooms
      → slice_get graph.objects number ≡ Some (Weak entries) → is_marked (reach graph) number ≡ true
      → (rooms number).entries ≡ reached_keys graph entries
  room_counts rooms number entries has there reached =
      let one = exact.keeps.shows.reached number (Weak entries) there reached in
      let place = shown_place (reach graph) (Weak entries) one in
      ap (λ (room : Room). room.entries) (has number one.cell.at (Weak entries) there reached place)
      ∙ exact_maps_have_no_others heap graph one.cell.at entries is_graph exact
      (record { number = number; place = place; stands = there; reached = reached })

  -- so a `wput` that finds its map full is a fault
  full_faults : (rooms : ℕ → Room) (names : List (List ℕ)) (m key : ℕ) (k v : Operand) (weak : WeakObject)
      (value : Value) → HasRooms heap graph rooms → weak_of graph m ≡ Some weak → key_of graph k ≡ Some key
      → value_of graph v ≡ Some value → IsMapFull (rooms weak.number) weak key
      → meaning ideal_limits names graph (WPut m k v) ≡ fault WeakFull
  full_faults rooms names m key k v weak value has map named given full =
      let target = found_in (get graph.bindings m) (weak_at graph.objects) weak map in
      let one = found_in (value_of graph k) object_in key named in
      let stands = weak_at-is graph.objects target.0 weak target.2 in
      let bound : get graph.bindings m ≡ Some target.0 = target.1 in
      let found : weak_at graph.objects target.0 ≡ Some weak = target.2 in
      let keyed : value_of graph k ≡ Some (Ref key) = one.1 ∙ ap (λ v. Some v) (refers one.0 key one.2) in
      let within : weak.number < length graph.objects =
      slice_get_within graph.objects weak.number (Weak weak.entries) stands.1 in
      let reached = reach_has_bound graph m weak.number within (bound ∙ ap (λ v. Some v) stands.0) in
      let counted = room_counts rooms weak.number weak.entries has stands.1 reached in
      let none = no_entry graph weak.entries key (operand_reached graph k key is_graph keyed) full.fresh
      (subst (λ n. weak_most ≤ n) counted full.full) in
      let known : meaning ideal_limits names graph (WPut m k v)
      ≡ unless WeakFull (no_entry_for (reach graph) weak.entries key)
      (done (reweave graph weak (with_entry weak.entries key value)) []) = rw (bound, keyed, given, found) in
      known ∙ ap (λ test. unless WeakFull test (done (reweave graph weak (with_entry weak.entries key value)) [])) none

-- A command that finds its map full in an exact heap is a fault.
pub exact_maps_are_full : ExactMapsAreFull
exact_maps_are_full heap graph rooms names command entries is_graph exact has finds =
    ap (meaning ideal_limits names graph) finds.is
    ∙ full_faults is_graph exact rooms names finds.m finds.key finds.k finds.v finds.weak finds.value has finds.map
    finds.named finds.given finds.full
