-- Lists in which each item stands under a key, and how they are read and changed by keys.
use Rattle.std.specs.Prelude.{◌≡◌, ℕ, Bool, true, false, List, [], ◌∷◌, Option, Some, None, ◌==◌}
use Rattle.std.specs.Prelude.{if◌then◌else◌, refl}
use Rattle.std.proofs.Common.{sym, ap}
use Rattle.std.proofs.lemmas.Bool.{eqb-true}
use Rattle.object_graph.specs.declared.value.Value.{Value}
use Rattle.object_graph.specs.declared.object.Field.{Field}
use Rattle.object_graph.specs.declared.object.Entry.{Entry}
use Rattle.object_graph.specs.Values.{rep_of}
use Rattle.object_graph.specs.Objects.{field_value, revalued, with_field, without_field, entry_value, with_entry}
use Rattle.object_graph.specs.Objects.{without_entry}

-- what is read of an item, how one is made and given another value; how a list of them is read, changed and cut by a
-- key
pub record Keying (Item : Type 0) : Type 0 where
  pub key : Item → ℕ
  pub value : Item → Value
  pub made : ℕ → Value → Item
  pub revalued : Item → Value → Item
  pub value_under : List Item → ℕ → Option Value
  pub with_value : List Item → ℕ → Value → List Item
  pub without_key : List Item → ℕ → List Item

-- What is read, changed and cut is the first item of the key. Where there is none, nothing is read, an item is made at
-- the end, and nothing is cut.
pub record GoesByKeys {Item : Type 0} (k : Keying Item) : Type 0 where
  pub value_under_none : (key : ℕ) → k.value_under [] key ≡ None
  pub value_under_item : (item : Item) (items : List Item) (key : ℕ)
      → k.value_under (item ∷ items) key ≡ (if k.key item == key then Some (k.value item) else k.value_under items key)
  pub with_none : (key : ℕ) (value : Value) → k.with_value [] key value ≡ k.made key value ∷ []
  pub with_item : (item : Item) (items : List Item) (key : ℕ) (value : Value)
      → k.with_value (item ∷ items) key value
      ≡ (if k.key item == key then k.revalued item value ∷ items else item ∷ k.with_value items key value)
  pub without_key_none : (key : ℕ) → k.without_key [] key ≡ []
  pub without_key_item : (item : Item) (items : List Item) (key : ℕ)
      → k.without_key (item ∷ items) key ≡ (if k.key item == key then items else item ∷ k.without_key items key)

-- the fields of a plain object, by their names
abbrev pub field_keying : Keying Field
field_keying = record {
  key = λ field. field.name;
  value = λ field. field.value;
  made = λ name value. record { name = name; rep = rep_of value; value = value };
  revalued = revalued;
  value_under = field_value;
  with_value = with_field;
  without_key = without_field;
}

-- the entries of a weak map, by their keys
abbrev pub entry_keying : Keying Entry
entry_keying = record {
  key = λ entry. entry.key;
  value = λ entry. entry.value;
  made = λ key value. record { key = key; value = value };
  revalued = λ entry value. record { key = entry.key; value = value };
  value_under = entry_value;
  with_value = with_entry;
  without_key = without_entry;
}

-- fields go by their names, and entries by their keys
pub field_keys : GoesByKeys field_keying
field_keys = record {
  value_under_none = λ key. refl;
  value_under_item = λ field fields key. refl;
  with_none = λ key value. refl;
  with_item = λ field fields key value. refl;
  without_key_none = λ key. refl;
  without_key_item = λ field fields key. refl;
}

-- an entry of the key keeps it
same_entry : (here : Bool) (entry : Entry) (key : ℕ) (value : Value) (entries rest : List Entry)
    → (entry.key == key) ≡ here → (if here then record { key = key; value = value } ∷ entries else rest)
    ≡ (if here then record { key = entry.key; value = value } ∷ entries else rest)
same_entry true entry key value entries rest is =
    ap (λ n. record { key = n; value = value } ∷ entries) (sym (eqb-true entry.key key is))
same_entry false entry key value entries rest is = refl

-- the entries of a weak map go by their keys, as the look-ups and changes of them say
pub entry_keys : GoesByKeys entry_keying
entry_keys = record {
  value_under_none = λ key. refl;
  value_under_item = λ entry entries key. refl;
  with_none = λ key value. refl;
  with_item = λ entry entries key value.
      same_entry (entry.key == key) entry key value entries (entry ∷ with_entry entries key value) refl;
  without_key_none = λ key. refl;
  without_key_item = λ entry entries key. refl;
}
