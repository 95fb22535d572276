-- Names and keys of which none stands twice, after one was written or taken out.
use Rattle.std.proofs.Common.{◌≡◌, ℕ, Bool, true, false, cond, List, [], ◌∷◌, map, refl, ap, subst}
use Rattle.std.specs.Prelude.{◌==◌}
use Rattle.std.specs.List.{IsDistinct, AllByRecursion}
use Rattle.std.proofs.lemmas.Bool.{eqb-true, cond_both}
use Rattle.object_graph.specs.declared.value.Value.{Value}
use Rattle.object_graph.specs.declared.object.Field.{Field}
use Rattle.object_graph.specs.declared.object.Entry.{Entry}
use Rattle.object_graph.specs.Objects.{with_field, without_field, with_entry, without_entry, revalued}

-- the keys with one more, which comes last where it is new
abbrev pub with_key : List ℕ → ℕ → List ℕ
with_key [] new = new ∷ []
with_key (key ∷ keys) new = cond (key == new) (key ∷ keys) (key ∷ with_key keys new)

-- the keys without one
abbrev pub without_key : List ℕ → ℕ → List ℕ
without_key [] gone = []
without_key (key ∷ keys) gone = cond (key == gone) keys (key ∷ without_key keys gone)

-- a key that differs from all of them
abbrev IsNew : ℕ → List ℕ → Type 0
IsNew key keys = AllByRecursion (λ other. (key == other) ≡ false) keys

-- a key that differs from all of them and from one more differs from all with that one
with_key-new : (key : ℕ) (keys : List ℕ) (new : ℕ) → IsNew key keys → (key == new) ≡ false
    → IsNew key (with_key keys new)
with_key-new key [] new all apart = (apart, tt)
with_key-new key (first ∷ keys) new all apart =
    cond_both (first == new) (first ∷ keys) (first ∷ with_key keys new) (IsNew key) (λ same. all)
    (λ other. (all.0, with_key-new key keys new all.1 apart))

-- with one key more none stands twice
with_key-distinct : (keys : List ℕ) (new : ℕ) → IsDistinct ◌==◌ keys → IsDistinct ◌==◌ (with_key keys new)
unfolding IsDistinct
with_key-distinct [] new distinct = (tt, tt)
with_key-distinct (first ∷ keys) new distinct =
    cond_both (first == new) (first ∷ keys) (first ∷ with_key keys new) (IsDistinct ◌==◌) (λ same. distinct)
    (λ other. (with_key-new first keys new distinct.0 other, with_key-distinct keys new distinct.1))

-- a key that differs from all of them differs from all without one
without_key-new : (key : ℕ) (keys : List ℕ) (gone : ℕ) → IsNew key keys → IsNew key (without_key keys gone)
without_key-new key [] gone all = tt
without_key-new key (first ∷ keys) gone all =
    cond_both (first == gone) keys (first ∷ without_key keys gone) (IsNew key) (λ same. all.1)
    (λ other. (all.0, without_key-new key keys gone all.1))

-- without one key none stands twice
without_key-distinct : (keys : List ℕ) (gone : ℕ) → IsDistinct ◌==◌ keys → IsDistinct ◌==◌ (without_key keys gone)
unfolding IsDistinct
without_key-distinct [] gone distinct = tt
without_key-distinct (first ∷ keys) gone distinct =
    cond_both (first == gone) keys (first ∷ without_key keys gone) (IsDistinct ◌==◌) (λ same. distinct.1)
    (λ other. (without_key-new first keys gone distinct.0, without_key-distinct keys gone distinct.1))

-- where these are the keys with one more, none of them stands twice
pub with_key-kept : (keys : List ℕ) (new : ℕ) (later : List ℕ) → with_key keys new ≡ later
    → IsDistinct ◌==◌ keys → IsDistinct ◌==◌ later
with_key-kept keys new later is distinct = subst (IsDistinct ◌==◌) is (with_key-distinct keys new distinct)

-- where these are the keys without one, none of them stands twice
pub without_key-kept : (keys : List ℕ) (gone : ℕ) (later : List ℕ) → without_key keys gone ≡ later
    → IsDistinct ◌==◌ keys → IsDistinct ◌==◌ later
without_key-kept keys gone later is distinct = subst (IsDistinct ◌==◌) is (without_key-distinct keys gone distinct)

-- a thing that is put in the place of one of its key keeps the keys
put-keys : {X : Type 0} (key_of : X → ℕ) (new : ℕ) (test : Bool) (x put : X) (xs more : List X)
    → (test ≡ true → key_of x ≡ key_of put) → with_key (map key_of xs) new ≡ map key_of more
    → cond test (map key_of (x ∷ xs)) (key_of x ∷ with_key (map key_of xs) new)
    ≡ map key_of (cond test (put ∷ xs) (x ∷ more))
put-keys key_of new true x put xs more same rest = ap (λ key. key ∷ map key_of xs) (same refl)
put-keys key_of new false x put xs more same rest = ap (λ keys. key_of x ∷ keys) rest

-- a thing that is taken out takes its key along
gone-keys : {X : Type 0} (key_of : X → ℕ) (gone : ℕ) (test : Bool) (x : X) (xs fewer : List X)
    → without_key (map key_of xs) gone ≡ map key_of fewer
    → cond test (map key_of xs) (key_of x ∷ without_key (map key_of xs) gone) ≡ map key_of (cond test xs (x ∷ fewer))
gone-keys key_of gone true x xs fewer rest = refl
gone-keys key_of gone false x xs fewer rest = ap (λ keys. key_of x ∷ keys) rest

-- the names of fields
abbrev pub names_of : List Field → List ℕ
names_of fields = map (λ field. field.name) fields

-- the keys of entries
abbrev pub keys_in : List Entry → List ℕ
keys_in entries = map (λ entry. entry.key) entries

-- writing a field adds its name, where it is new
pub names_of-with_field : (fields : List Field) (name : ℕ) (value : Value)
    → with_key (names_of fields) name ≡ names_of (with_field fields name value)
names_of-with_field [] name value = refl
names_of-with_field (field ∷ fields) name value =
    put-keys (λ f. f.name) name (field.name == name) field (revalued field value) fields (with_field fields name value)
    (λ same. refl) (names_of-with_field fields name value)

-- taking out a field takes out its name
pub names_of-without_field : (fields : List Field) (name : ℕ)
    → without_key (names_of fields) name ≡ names_of (without_field fields name)
names_of-without_field [] name = refl
names_of-without_field (field ∷ fields) name =
    gone-keys (λ f. f.name) name (field.name == name) field fields (without_field fields name)
    (names_of-without_field fields name)

-- writing an entry adds its key, where it is new
pub keys_in-with_entry : (entries : List Entry) (key : ℕ) (value : Value)
    → with_key (keys_in entries) key ≡ keys_in (with_entry entries key value)
keys_in-with_entry [] key value = refl
keys_in-with_entry (entry ∷ entries) key value =
    put-keys (λ e. e.key) key (entry.key == key) entry (record { key = key; value = value }) entries
    (with_entry entries key value) (eqb-true entry.key key) (keys_in-with_entry entries key value)

-- taking out an entry takes out its key
pub keys_in-without_entry : (entries : List Entry) (key : ℕ)
    → without_key (keys_in entries) key ≡ keys_in (without_entry entries key)
keys_in-without_entry [] key = refl
keys_in-without_entry (entry ∷ entries) key =
    gone-keys (λ e. e.key) key (entry.key == key) entry entries (without_entry entries key)
    (keys_in-without_entry entries key)
