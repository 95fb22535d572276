-- A tree of bindings, seen as the map from each variable to its value.
use Rattle.std.proofs.Common.{◌≡◌, ℕ, Option, Some, None, Result, cond, refl, sym, ap, ◌∙◌, subst}
use Rattle.std.specs.Ordering.{nat_cmp, eq_by_cmp}
use Rattle.std.specs.Cmp.{nat_cmp_total, eq_by_cmp_equiv}
use Rattle.std.specs.Option.{ok_or}
use Rattle.std.specs.FinMap.{get, insert, remove, from_entries, get-insert, get-remove, get-from_entries}
use Rattle.std.specs.FinMap.{same_map, nat_cmp-IsAntisymmetric}
use Rattle.std.specs.BTreeMap as tree
use Rattle.std.specs.BTreeMap.{BTreeMap, Updates}
use Rattle.heap_command.specs.declared.command.FaultWord.{FaultWord}
use Rattle.object_graph.specs.declared.value.Value.{Value}
use Rattle.object_graph.proofs.BoundValues.{entries_find}
use Rattle.ideal_parts.specs.Lookups.{IsLookup}

-- a look-up answers what is sought, or the fault
pub IsLookup-ok_or : {A : Type 0} (word : FaultWord) (sought : Option A) (answer : Result A FaultWord)
    → answer ≡ ok_or sought word → IsLookup word sought answer
IsLookup-ok_or word None answer is = subst (λ r. IsLookup word None r) (sym is) (refl, refl)
IsLookup-ok_or word (Some found) answer is = subst (λ r. IsLookup word (Some found) r) (sym is) refl

-- the map of the entries answers as the tree does
pub get-entries : (m : BTreeMap ℕ Value) (x : ℕ) → get (from_entries {R = nat_cmp} m.entries) x ≡ tree.get nat_cmp m x
get-entries m x = get-from_entries nat_cmp_total m.entries x ∙ entries_find m.entries x

-- to update the tree at a variable is to insert into the map
pub insert-entries : (m n : BTreeMap ℕ Value) (x : ℕ) (value : Value) → Updates nat_cmp m n x (Some value)
    → from_entries {R = nat_cmp} n.entries ≡ insert (from_entries m.entries) x value
insert-entries m n x value updates =
    same_map nat_cmp_total nat_cmp-IsAntisymmetric _ _ (λ q.
    get-entries n q
    ∙ updates.0 q
    ∙ ap (λ b. cond b (Some value) (tree.get nat_cmp m q)) ((eq_by_cmp_equiv nat_cmp_total).symm x q)
    ∙ ap (λ rest. cond (eq_by_cmp nat_cmp q x) (Some value) rest) (sym (get-entries m q))
    ∙ sym (get-insert nat_cmp_total (from_entries m.entries) x value q))

-- to take a variable out of the tree is to remove it from the map
pub remove-entries : (m n : BTreeMap ℕ Value) (x : ℕ) → Updates nat_cmp m n x None
    → from_entries {R = nat_cmp} n.entries ≡ remove (from_entries m.entries) x
remove-entries m n x updates =
    same_map nat_cmp_total nat_cmp-IsAntisymmetric _ _ (λ q.
    get-entries n q
    ∙ updates.0 q
    ∙ ap (λ b. cond b None (tree.get nat_cmp m q)) ((eq_by_cmp_equiv nat_cmp_total).symm x q)
    ∙ ap (λ rest. cond (eq_by_cmp nat_cmp q x) None rest) (sym (get-entries m q))
    ∙ sym (get-remove nat_cmp_total (from_entries m.entries) x q))
