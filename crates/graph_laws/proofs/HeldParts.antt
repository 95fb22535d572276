-- The fields and entries of an object refer to objects of the graph, before and after one is written or taken out.
use Rattle.std.proofs.Common.{◌≡◌, ℕ, ◌<◌, Bool, cond, List, [], ◌∷◌, Some}
use Rattle.std.specs.Prelude.{All, unwrap_or, ◌==◌}
use Rattle.std.proofs.lemmas.Bool.{cond_both, eqb-true}
use Rattle.std.proofs.lemmas.List.Elements.{All-nil, All-cons, All-head, All-tail, All-weaker}
use Rattle.object_graph.specs.declared.value.Value.{Value}
use Rattle.object_graph.specs.declared.value.Value.TheVariants.{Undefined}
use Rattle.object_graph.specs.declared.object.Field.{Field}
use Rattle.object_graph.specs.declared.object.Entry.{Entry}
use Rattle.object_graph.specs.Objects.{field_value, with_field, without_field, revalued, entry_value, with_entry}
use Rattle.object_graph.specs.Objects.{without_entry}
use Rattle.object_graph.specs.Invariants.{IsValue, IsEntry, AreFields, AreEntries}
use Rattle.graph_laws.proofs.DistinctKeys.{with_key-kept, without_key-kept, names_of-with_field, names_of-without_field}
use Rattle.graph_laws.proofs.DistinctKeys.{keys_in-with_entry, keys_in-without_entry}

-- the value of a field has what all fields' values and `undefined` have
pub field_value_all : (P : Value → Type 0) (fields : List Field) (name : ℕ) → P Undefined → All (λ f. P f.value) fields
    → P (unwrap_or (field_value fields name) Undefined)
field_value_all P [] name none all = none
field_value_all P (field ∷ fields) name none all =
    cond_both (field.name == name) (Some field.value) (field_value fields name) (λ found. P (unwrap_or found Undefined))
    (λ same. All-head (λ f. P f.value) field fields all)
    (λ other. field_value_all P fields name none (All-tail (λ f. P f.value) field fields all))

-- the value of an entry has what the values of all entries of its key and `undefined` have
pub entry_value_all : (P : Value → Type 0) (entries : List Entry) (key : ℕ) → P Undefined
    → All (λ e. e.key ≡ key → P e.value) entries → P (unwrap_or (entry_value entries key) Undefined)
entry_value_all P [] key none all = none
entry_value_all P (entry ∷ entries) key none all =
    let Has = λ (e : Entry). e.key ≡ key → P e.value in
    cond_both (entry.key == key) (Some entry.value) (entry_value entries key) (λ found. P (unwrap_or found Undefined))
    (λ same. All-head Has entry entries all (eqb-true entry.key key same))
    (λ other. entry_value_all P entries key none (All-tail Has entry entries all))

-- an entry that is read is a value over the objects that entries refer to
pub entry_held : (count : ℕ) (entries : List Entry) (key : ℕ) → AreEntries count entries
    → IsValue count (unwrap_or (entry_value entries key) Undefined)
entry_held count entries key are =
    let values =
    All-weaker (IsEntry count) (λ e. e.key ≡ key → IsValue count e.value) (λ e is same. is.value) entries in
    entry_value_all (IsValue count) entries key tt (values are.keys_and_values)

-- what all things have, they have with another in the place of the first, or after a change of the later ones
put_all : {X : Type 0} (P : X → Type 0) (test : Bool) (x put : X) (xs more : List X) → P put → All P (x ∷ xs)
    → (All P xs → All P more) → All P (cond test (put ∷ xs) (x ∷ more))
put_all P test x put xs more is all later =
    let rest = All-tail P x xs all in
    cond_both test (put ∷ xs) (x ∷ more) (All P) (λ same. All-cons P put xs is rest)
    (λ other. All-cons P x more (All-head P x xs all) (later rest))

-- and they have it without the first, or after a change of the later ones
gone_all : {X : Type 0} (P : X → Type 0) (test : Bool) (x : X) (xs fewer : List X) → All P (x ∷ xs)
    → (All P xs → All P fewer) → All P (cond test xs (x ∷ fewer))
gone_all P test x xs fewer all later =
    let rest = All-tail P x xs all in
    cond_both test xs (x ∷ fewer) (All P) (λ same. rest)
    (λ other. All-cons P x fewer (All-head P x xs all) (later rest))

-- what all fields' values have and one more, they have after that one was written
pub with_field_values : (P : Value → Type 0) (fields : List Field) (name : ℕ) (value : Value) → P value
    → All (λ f. P f.value) fields → All (λ f. P f.value) (with_field fields name value)
with_field_values P [] name value is all = All-cons (λ f. P f.value) _ [] is (All-nil (λ f. P f.value))
with_field_values P (field ∷ fields) name value is all =
    put_all (λ f. P f.value) (field.name == name) field (revalued field value) fields
    (with_field fields name value) is all
    (with_field_values P fields name value is)

-- what all fields' values have, they have after one was taken out
pub without_field_values : (P : Value → Type 0) (fields : List Field) (name : ℕ)
    → All (λ f. P f.value) fields → All (λ f. P f.value) (without_field fields name)
without_field_values P [] name all = all
without_field_values P (field ∷ fields) name all =
    gone_all (λ f. P f.value) (field.name == name) field fields (without_field fields name) all
    (without_field_values P fields name)

-- fields stay fields of so many objects after one was written
pub with_field_held : (count : ℕ) (fields : List Field) (name : ℕ) (value : Value)
    → IsValue count value → AreFields count fields → AreFields count (with_field fields name value)
with_field_held count fields name value is are = record {
  values = with_field_values (IsValue count) fields name value is are.values;
  distinct = with_key-kept _ name _ (names_of-with_field fields name value) are.distinct;
}

-- fields stay so after one was taken out
pub without_field_held : (count : ℕ) (fields : List Field) (name : ℕ)
    → AreFields count fields → AreFields count (without_field fields name)
without_field_held count fields name are = record {
  values = without_field_values (IsValue count) fields name are.values;
  distinct = without_key-kept _ name _ (names_of-without_field fields name) are.distinct;
}

-- what all entries have and one more, they have after that one was written
pub with_entry_all : (P : Entry → Type 0) (entries : List Entry) (key : ℕ) (value : Value)
    → P (record { key = key; value = value }) → All P entries → All P (with_entry entries key value)
with_entry_all P [] key value is all = All-cons P _ [] is (All-nil P)
with_entry_all P (entry ∷ entries) key value is all =
    put_all P (entry.key == key) entry (record { key = key; value = value }) entries
    (with_entry entries key value) is all
    (with_entry_all P entries key value is)

-- what all entries have, they have after one was taken out
pub without_entry_all : (P : Entry → Type 0) (entries : List Entry) (key : ℕ) → All P entries
    → All P (without_entry entries key)
without_entry_all P [] key all = all
without_entry_all P (entry ∷ entries) key all =
    gone_all P (entry.key == key) entry entries (without_entry entries key) all (without_entry_all P entries key)

-- entries stay entries of so many objects after one was written
pub with_entry_held : (count : ℕ) (entries : List Entry) (key : ℕ) (value : Value)
    → key < count → IsValue count value → AreEntries count entries → AreEntries count (with_entry entries key value)
with_entry_held count entries key value below is are =
    let put : IsEntry count (record { key = key; value = value }) = record { key = below; value = is } in
    record {
      keys_and_values = with_entry_all (IsEntry count) entries key value put are.keys_and_values;
      distinct = with_key-kept _ key _ (keys_in-with_entry entries key value) are.distinct;
    }

-- entries stay so after one was taken out
pub without_entry_held : (count : ℕ) (entries : List Entry) (key : ℕ)
    → AreEntries count entries → AreEntries count (without_entry entries key)
without_entry_held count entries key are = record {
  keys_and_values = without_entry_all (IsEntry count) entries key are.keys_and_values;
  distinct = without_key-kept _ key _ (keys_in-without_entry entries key) are.distinct;
}
