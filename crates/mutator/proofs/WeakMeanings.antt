-- What `wput`, `wget` and `wdel` mean, where their variables, their weak map and their key are known.
use Rattle.std.proofs.Common.{◌≡◌, ℕ, ◌≤◌, false, List, [], Some, None, IsTrue, ◌∙◌, ap, arith}
use Rattle.std.specs.Prelude.{unwrap_or}
use Rattle.heap_model.specs.Types.{Operand, Value, Entry}
use Rattle.heap_command.specs.declared.command.Command.TheVariants.{WPut, WGet, WDel}
use Rattle.heap_command.specs.declared.command.FaultWord.TheVariants.{WeakFull}
use Rattle.object_graph.specs.declared.value.Value.TheVariants.{Undefined, Ref}
use Rattle.object_graph.specs.Objects.{entry_value, with_entry, without_entry}
use Rattle.object_graph.specs.Graphs.{Graph, WeakObject, bind, value_of, as_weak}
use Rattle.object_graph.specs.Meaning.{done, unless, weak_most, no_entry_for, reweave, meaning}
use Rattle.object_graph.specs.Reach.{is_marked, reach}
use Rattle.object_graph.proofs.WeakMost.{no_entry_for-is}
use Rattle.object_graph.specs.Limits.{ideal_limits}
use Rattle.live_cells.specs.Counts.{reached_keys}
use Rattle.mutator.proofs.KnownObjects.{IsKnown}
use Rattle.mutator.proofs.FieldMeanings.{room_by}

-- a weak map takes an entry for a key that can be reached, where that is there or there are few pairs, which are at
-- least as many as the entries whose key can be reached
pub has_test : (graph : Graph) (pairs : ℕ) (entries : List Entry) (number : ℕ)
    → IsTrue (is_marked (reach graph) number) → reached_keys graph entries ≤ pairs
    → (entry_value entries number ≡ None → weak_most ≤ pairs → ⊥) → no_entry_for (reach graph) entries number ≡ false
has_test graph pairs entries number marked many few =
    no_entry_for-is (reach graph) entries number marked
    ∙ room_by weak_most (entry_value entries number) (reached_keys graph entries)
    (λ fresh full. few fresh (omega (arith, full, many)))

module _ {graph : Graph} {m number : ℕ} {target : Value} {weak : WeakObject} (names : List (List ℕ)) (k : Operand)
    (known : IsKnown as_weak graph m target weak) (key : value_of graph k ≡ Some (Ref number)) where
  -- an entry that is read
  pub wget_done : (y : ℕ) → meaning ideal_limits names graph (WGet y m k)
      ≡ done (bind graph y (unwrap_or (entry_value weak.entries number) Undefined)) []
  wget_done y = rw (known.bound, key, known.refers)

  -- one that is taken out
  pub wdel_done : meaning ideal_limits names graph (WDel m k)
      ≡ done (reweave graph weak (without_entry weak.entries number)) []
  wdel_done = rw (known.bound, key, known.refers)

  module _ {value : Value} (v : Operand) (is : value_of graph v ≡ Some value) where
    -- a `wput` whose variables, weak map and key are known
    wput_known : meaning ideal_limits names graph (WPut m k v)
        ≡ unless WeakFull (no_entry_for (reach graph) weak.entries number)
        (done (reweave graph weak (with_entry weak.entries number value)) [])
    wput_known = rw (known.bound, key, is, known.refers)

    -- where the map takes an entry for the key, that has the value
    pub wput_done : no_entry_for (reach graph) weak.entries number ≡ false
        → meaning ideal_limits names graph (WPut m k v)
        ≡ done (reweave graph weak (with_entry weak.entries number value)) []
    wput_done takes =
        wput_known
        ∙ ap (λ test. unless WeakFull test (done (reweave graph weak (with_entry weak.entries number value)) []))
        takes
