-- Entries by their keys.
use Rattle.std.proofs.Common.{◌≡◌, ◌≢◌, ℕ, zero, suc, Bool, true, false, cond, List, [], ◌∷◌, Some, None, slice_get}
use Rattle.std.proofs.Common.{refl, sym, ◌∙◌, ap, ◌==◌}
use Rattle.std.proofs.lemmas.Bool.{eqb-true, eq-eqb, false≢true}
use Rattle.std.proofs.lemmas.Option.{none-some, same_Some}
use Rattle.heap_model.specs.Types.{Value, Entry}
use Rattle.object_graph.specs.Objects.{entry_value}

-- the value of an entry is that of one with its key, by whether the first has it
entry_by : (test : Bool) (entry : Entry) (entries : List Entry) (key : ℕ) (value : Value) → (entry.key == key) ≡ test
    → cond test (Some entry.value) (entry_value entries key) ≡ Some value
    → ((at : ℕ) × (slice_get entries at ≡ Some (record { key = key; value = value }))
    → (at : ℕ) × (slice_get (entry ∷ entries) at ≡ Some (record { key = key; value = value })))
    → (entry_value entries key ≡ Some value
    → (at : ℕ) × (slice_get entries at ≡ Some (record { key = key; value = value })))
    → (at : ℕ) × (slice_get (entry ∷ entries) at ≡ Some (record { key = key; value = value }))
entry_by true entry entries key value same found later rest =
    let keys : entry.key ≡ key = eqb-true entry.key key same in
    let values : entry.value ≡ value = same_Some entry.value value found in (
      0,
      ap (λ k. Some (record { key = k; value = entry.value })) keys
          ∙ ap (λ v. Some (record { key = key; value = v })) values,
    )
entry_by false entry entries key value other found later rest = later (rest found)

-- the value of a key is that of an entry
pub entry_found : (entries : List Entry) (key : ℕ) (value : Value) → entry_value entries key ≡ Some value
    → (at : ℕ) × (slice_get entries at ≡ Some (record { key = key; value = value }))
entry_found [] key value found = absurd (none-some value found)
entry_found (entry ∷ entries) key value found =
    entry_by (entry.key == key) entry entries key value refl found (λ later. (suc later.0, later.1))
    (entry_found entries key value)

-- a key that has no value is not that of the first entry
first_apart : (test : Bool) (entry : Entry) (entries : List Entry) (key : ℕ) → (entry.key == key) ≡ test
    → cond test (Some entry.value) (entry_value entries key) ≡ None
    → (entry.key ≢ key) × (entry_value entries key ≡ None)
first_apart true entry entries key same found = absurd (none-some entry.value (sym found))
first_apart false entry entries key other found =
    (λ same. false≢true (sym other ∙ eq-eqb entry.key key same), found)

-- a key that has no value is not that of any entry
pub entry_apart : (entries : List Entry) (key at : ℕ) (entry : Entry) → entry_value entries key ≡ None
    → slice_get entries at ≡ Some entry → entry.key ≢ key
entry_apart [] key at entry none there same = none-some entry there
entry_apart (first ∷ entries) key zero entry none there same =
    (first_apart (first.key == key) first entries key refl none).0
    (ap (λ (e : Entry). e.key) (same_Some first entry there) ∙ same)
entry_apart (first ∷ entries) key (suc at) entry none there same =
    entry_apart entries key at entry (first_apart (first.key == key) first entries key refl none).1 there same
