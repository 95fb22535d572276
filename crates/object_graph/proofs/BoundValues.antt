-- The values of a map of bindings, one by one and as a list.
use Rattle.std.proofs.Common.{◌≡◌, ℕ, Bool, true, false, cond, ◌&&◌, ◌||◌, List, [], ◌∷◌, map, Some, refl}
use Rattle.std.proofs.Common.{sym, ap, ◌∙◌, subst}
use Rattle.std.specs.Prelude.{T}
use Rattle.std.specs.List.{list_any, AllByRecursion}
use Rattle.std.specs.List.Sorted.{IsStrictlySortedBy}
use Rattle.std.specs.Ordering.{nat_cmp, is_lt, is_eq, eq_by_cmp}
use Rattle.std.specs.declared.cmp.Ordering.{Ordering}
use Rattle.std.specs.declared.cmp.Ordering.TheVariants.{Less, Equal, Greater}
use Rattle.std.specs.Cmp.{nat_cmp_total, eq_by_cmp_equiv}
use Rattle.std.specs.Map.{keys_of, values_of, lookup}
use Rattle.std.specs.FinMap.{FinMap, get, entries, values, from_entries, from_sorted, entries_sorted}
use Rattle.std.specs.FinMap.{entries-from_sorted, get-entries, get-from_sorted, get-from_entries, same_map}
use Rattle.std.specs.FinMap.{nat_cmp-IsAntisymmetric, is_sorted}
use Rattle.std.specs.FinMap.Entries.{find, below_all}
use Rattle.std.proofs.lemmas.Map.Keys.{IsDistinct-from_sorted}
use Rattle.std.proofs.lemmas.Map.Views.{lookup-from_Contains}
use Rattle.std.proofs.lemmas.List.Folds.{Any-from_list_any}
use Rattle.std.proofs.lemmas.Bool.{or_left, or_right}
use Rattle.object_graph.specs.declared.value.Value.{Value}

-- a look-up in the entries by a comparison is one by a test
pub entries_find : (es : List (ℕ × Value)) (x : ℕ) → find nat_cmp x es ≡ lookup (λ k. is_eq (nat_cmp x k)) es
entries_find [] x = refl
entries_find (e ∷ es) x = ap (λ rest. cond (is_eq (nat_cmp x e.0)) (Some e.1) rest) (entries_find es x)

-- what tests as less is less
less_if : (o : Ordering) → T (is_lt o) → o ≡ Less
less_if Less h = refl
less_if Equal h = absurd h
less_if Greater h = absurd h

-- what is less tests as less
less_then : (o : Ordering) → o ≡ Less → T (is_lt o)
less_then o e = subst (λ r. T (is_lt r)) (sym e) tt

-- of two tests that pass together the first passes
and_first : (a b : Bool) → T (a && b) → T a
and_first true b h = tt
and_first false b h = h

-- of two tests that pass together the second passes
and_second : (a b : Bool) → T (a && b) → T b
and_second true b h = h
and_second false b h = absurd h

-- two tests that pass pass together
and_both : (a b : Bool) → T a → T b → T (a && b)
and_both true b g h = h
and_both false b g h = g

-- keys above this one by the test of a map's own list are above it
below_keys : (x : ℕ) (es : List (ℕ × Value)) → T (below_all nat_cmp x es)
    → AllByRecursion (λ y. nat_cmp x y ≡ Less) (keys_of es)
below_keys x [] h = tt
below_keys x (e ∷ es) h =
    let first = and_first (is_lt (nat_cmp x e.0)) (below_all nat_cmp x es) h in
    let rest = and_second (is_lt (nat_cmp x e.0)) (below_all nat_cmp x es) h in
    (less_if (nat_cmp x e.0) first, below_keys x es rest)

-- keys that rise by the test of a map's own list rise
sorted_keys : (es : List (ℕ × Value)) → T (is_sorted nat_cmp es) → IsStrictlySortedBy nat_cmp (keys_of es)
unfolding IsStrictlySortedBy
sorted_keys [] h = tt
sorted_keys (e ∷ es) h =
    let first = and_first (below_all nat_cmp e.0 es) (is_sorted nat_cmp es) h in
    let rest = and_second (below_all nat_cmp e.0 es) (is_sorted nat_cmp es) h in
    (below_keys e.0 es first, sorted_keys es rest)

-- keys above this one are so by the test of a map's own list
keys_below : (x : ℕ) (es : List (ℕ × Value)) → AllByRecursion (λ y. nat_cmp x y ≡ Less) (keys_of es)
    → T (below_all nat_cmp x es)
keys_below x [] h = tt
keys_below x (e ∷ es) h =
    let first = less_then (nat_cmp x e.0) h.0 in
    and_both (is_lt (nat_cmp x e.0)) (below_all nat_cmp x es) first (keys_below x es h.1)

-- keys that rise do so by the test of a map's own list
keys_sorted : (es : List (ℕ × Value)) → IsStrictlySortedBy nat_cmp (keys_of es) → T (is_sorted nat_cmp es)
unfolding IsStrictlySortedBy
keys_sorted [] h = tt
keys_sorted (e ∷ es) h =
    and_both (below_all nat_cmp e.0 es) (is_sorted nat_cmp es) (keys_below e.0 es h.0) (keys_sorted es h.1)

-- the map of entries in order has their values in their order
pub values-from_entries : (es : List (ℕ × Value)) → IsStrictlySortedBy nat_cmp (keys_of es)
    → values (from_entries {R = nat_cmp} es) ≡ values_of es
values-from_entries es rising =
    let sorted : T (is_sorted nat_cmp es) = keys_sorted es rising in
    let found = λ (q : ℕ). get-from_entries nat_cmp_total es q ∙ sym (get-from_sorted nat_cmp es q sorted) in
    let same : from_entries {R = nat_cmp} es ≡ from_sorted {R = nat_cmp} es =
    same_map nat_cmp_total nat_cmp-IsAntisymmetric (from_entries es) (from_sorted es) found in
    ap (λ m. values m) same ∙ ap (λ found. map (λ (e : ℕ × Value). e.1) found) (entries-from_sorted nat_cmp es sorted)

-- a test that passes at what a look-up finds passes at some value of the entries
found_any : (p : Value → Bool) (q : ℕ) (v : Value) (es : List (ℕ × Value))
    → p v ≡ true → find nat_cmp q es ≡ Some v → list_any p (values_of es) ≡ true
found_any p q v [] passes found = absurd (cc)
found_any p q v (e ∷ es) passes found =
    elim (eq_by_cmp nat_cmp q e.0) as (λ b.
    cond b (Some e.1) (find nat_cmp q es) ≡ Some v → (p e.1 || list_any p (values_of es)) ≡ true) [
      | true ↦ λ here. let same : e.1 ≡ v = cc in or_left (p e.1) (list_any p (values_of es)) (ap p same ∙ passes)
      | false ↦ λ later. or_right (p e.1) (list_any p (values_of es)) (found_any p q v es passes later)
    ] found

-- a test that passes at a key's value passes at a value of the map
pub any_value-get : (p : Value → Bool) (m : FinMap nat_cmp Value) (q : ℕ) (v : Value)
    → p v ≡ true → get m q ≡ Some v → list_any p (values m) ≡ true
any_value-get p m q v passes found = found_any p q v (entries m) passes (sym (get-entries m q) ∙ found)

-- a test of some value of the entries is a test of some entry
any-values : (p : Value → Bool) (es : List (ℕ × Value)) → list_any p (values_of es) ≡ list_any (λ e. p e.1) es
any-values p [] = refl
any-values p (e ∷ es) = ap (λ rest. p e.1 || rest) (any-values p es)

-- a test that passes at a value of the map passes at a key's value
pub get-any_value : (p : Value → Bool) (m : FinMap nat_cmp Value) → list_any p (values m) ≡ true
    → (q : ℕ) × (v : Value) × (get m q ≡ Some v) × (p v ≡ true)
get-any_value p m passes =
    let es = entries m in
    let at = Any-from_list_any (λ (e : ℕ × Value). p e.1) es (sym (any-values p es) ∙ passes) in
    let e = at.1 in
    let distinct = IsDistinct-from_sorted nat_cmp (keys_of es) (sorted_keys es (entries_sorted m)) in
    let found = lookup-from_Contains (eq_by_cmp_equiv nat_cmp_total) e.0 e.1 es distinct (at.0, at.2, at.3) in
    (e.0, e.1, get-entries m e.0 ∙ entries_find es e.0 ∙ found, at.4)
