-- The entries of a weak map where that of one key was put, or removed.
use Rattle.std.proofs.Common.{◌≡◌, ◌≢◌, ℕ, zero, suc, Bool, true, false, List, [], ◌∷◌, Option, Some, None, map}
use Rattle.std.proofs.Common.{slice_get, cond, refl, sym, ◌∙◌, ap, subst, arith}
use Rattle.std.specs.Prelude.{◌==◌}
use Rattle.std.specs.List.{IsDistinct, AllByRecursion}
use Rattle.std.proofs.lemmas.Map.Keys.{IsDistinct-head, IsDistinct-tail}
use Rattle.std.proofs.lemmas.Bool.{eqb-true, eqb-false}
use Rattle.std.proofs.lemmas.Bool.Decides.{nat_tests}
use Rattle.std.proofs.lemmas.Option.{none-some, same_Some}
use Rattle.heap_model.specs.Types.{Value, Entry}
use Rattle.object_graph.specs.Objects.{with_entry, without_entry}
use Rattle.weak_pairs.specs.Entries.{entries_with}

-- the keys of entries
abbrev keys_in : List Entry → List ℕ
keys_in entries = map (λ entry. entry.key) entries

-- an entry stands among these
pub record IsEntryOf (entries : List Entry) (entry : Entry) : Type 0 where
  pub at : ℕ
  pub stands : slice_get entries at ≡ Some entry

-- an entry stands behind one more entry too
later : (first : Entry) (entries : List Entry) (entry : Entry) → IsEntryOf entries entry
    → IsEntryOf (first ∷ entries) entry
later first entries entry is = record { at = suc is.at; stands = is.stands }

-- Once the entry of a key was put or removed, an entry is the one that was put, or one of another key that stood
-- before.
pub data EntryComes (entries : List Entry) (number : ℕ) (value : Option Value) (entry : Entry) : Type 0 where
  put : (what : Value) → value ≡ Some what → entry ≡ record { key = number; value = what }
      → EntryComes entries number value entry
  stayed : entry.key ≢ number → IsEntryOf entries entry → EntryComes entries number value entry

-- an entry comes from where it may behind one more entry too
comes_later : (first : Entry) (entries : List Entry) (number : ℕ) (value : Option Value) (entry : Entry)
    → EntryComes entries number value entry → EntryComes (first ∷ entries) number value entry
comes_later first entries number value entry (EntryComes.put what is same) = EntryComes.put what is same
comes_later first entries number value entry (EntryComes.stayed other is) =
    EntryComes.stayed other (later first entries entry is)

-- no entry has the key
abbrev pub HasNoEntry : List Entry → ℕ → Type 0
HasNoEntry entries number = (entry : Entry) → IsEntryOf entries entry → entry.key ≢ number

-- no entry has a key that differs from all of theirs
no_key_at : (key : ℕ) (entries : List Entry) (k : ℕ) (entry : Entry)
    → AllByRecursion (λ other. (key == other) ≡ false) (keys_in entries) → slice_get entries k ≡ Some entry
    → entry.key ≢ key
no_key_at key [] k entry all there same = none-some entry there
no_key_at key (first ∷ entries) zero entry all there same =
    let is : key ≡ first.key = sym (ap (λ (e : Entry). e.key) (same_Some first entry there) ∙ same) in
    let apart : (key == first.key) ≡ false = all.0 in
    absurd (grind (arith, nat_tests))
no_key_at key (first ∷ entries) (suc k) entry all there same = no_key_at key entries k entry all.1 there same

-- no entry behind the first has its key, where no key stands twice
no_second : (first : Entry) (entries : List Entry) → IsDistinct ◌==◌ (keys_in (first ∷ entries))
    → HasNoEntry entries first.key
no_second first entries distinct entry is =
    no_key_at first.key entries is.at entry (IsDistinct-head ◌==◌ first.key (keys_in entries) distinct) is.stands

-- an entry comes from where it may once that of a key was put, by whether the first has the key
with_comes_by : (test : Bool) (first : Entry) (entries more : List Entry) (number : ℕ) (what : Value) (k : ℕ)
    (entry : Entry) → (test ≡ true → HasNoEntry entries number) → (test ≡ false → first.key ≢ number)
    → ((i : ℕ) → slice_get more i ≡ Some entry → EntryComes entries number (Some what) entry)
    → slice_get (cond test (record { key = number; value = what } ∷ entries) (first ∷ more)) k ≡ Some entry
    → EntryComes (first ∷ entries) number (Some what) entry
with_comes_by true first entries more number what zero entry none other rest there =
    EntryComes.put what refl (sym (same_Some (record { key = number; value = what }) entry there))
with_comes_by true first entries more number what (suc k) entry none other rest there =
    let is : IsEntryOf entries entry = record { at = k; stands = there } in
    EntryComes.stayed (none refl entry is) (later first entries entry is)
with_comes_by false first entries more number what zero entry none other rest there =
    let same : first ≡ entry = same_Some first entry there in
    EntryComes.stayed (subst (λ (e : Entry). e.key ≢ number) same (other refl)) (record { at = 0; stands = there })
with_comes_by false first entries more number what (suc k) entry none other rest there =
    comes_later first entries number (Some what) entry (rest k there)

-- no other entry has the key that the first has, where none stands twice
none_behind : (first : Entry) (entries : List Entry) (number : ℕ) → IsDistinct ◌==◌ (keys_in (first ∷ entries))
    → (first.key == number) ≡ true → HasNoEntry entries number
none_behind first entries number distinct test =
    subst (HasNoEntry entries) (eqb-true first.key number test) (no_second first entries distinct)

-- an entry comes from where it may once that of a key was put
with_comes : (entries : List Entry) (number : ℕ) (what : Value) (k : ℕ) (entry : Entry)
    → IsDistinct ◌==◌ (keys_in entries) → slice_get (with_entry entries number what) k ≡ Some entry
    → EntryComes entries number (Some what) entry
with_comes [] number what zero entry distinct there =
    EntryComes.put what refl (sym (same_Some (record { key = number; value = what }) entry there))
with_comes [] number what (suc k) entry distinct there = absurd (none-some entry there)
with_comes (first ∷ entries) number what k entry distinct there =
    with_comes_by (first.key == number) first entries (with_entry entries number what) number what k entry
    (none_behind first entries number distinct) (eqb-false first.key number)
    (λ i. with_comes entries number what i entry (IsDistinct-tail ◌==◌ first.key (keys_in entries) distinct)) there

-- an entry comes from where it may once that of a key was removed, by whether the first has the key
without_comes_by : (test : Bool) (first : Entry) (entries fewer : List Entry) (number k : ℕ) (entry : Entry)
    → (test ≡ true → HasNoEntry entries number) → (test ≡ false → first.key ≢ number)
    → ((i : ℕ) → slice_get fewer i ≡ Some entry → EntryComes entries number None entry)
    → slice_get (cond test entries (first ∷ fewer)) k ≡ Some entry → EntryComes (first ∷ entries) number None entry
without_comes_by true first entries fewer number k entry none other rest there =
    let is : IsEntryOf entries entry = record { at = k; stands = there } in
    EntryComes.stayed (none refl entry is) (later first entries entry is)
without_comes_by false first entries fewer number zero entry none other rest there =
    let same : first ≡ entry = same_Some first entry there in
    EntryComes.stayed (subst (λ (e : Entry). e.key ≢ number) same (other refl)) (record { at = 0; stands = there })
without_comes_by false first entries fewer number (suc k) entry none other rest there =
    comes_later first entries number None entry (rest k there)

-- an entry comes from where it may once that of a key was removed
without_comes : (entries : List Entry) (number k : ℕ) (entry : Entry) → IsDistinct ◌==◌ (keys_in entries)
    → slice_get (without_entry entries number) k ≡ Some entry → EntryComes entries number None entry
without_comes [] number k entry distinct there = absurd (none-some entry there)
without_comes (first ∷ entries) number k entry distinct there =
    without_comes_by (first.key == number) first entries (without_entry entries number) number k entry
    (none_behind first entries number distinct) (eqb-false first.key number)
    (λ i. without_comes entries number i entry (IsDistinct-tail ◌==◌ first.key (keys_in entries) distinct)) there

-- an entry comes from where it may
pub entry_comes : (entries : List Entry) (number : ℕ) (value : Option Value) (k : ℕ) (entry : Entry)
    → IsDistinct ◌==◌ (keys_in entries) → slice_get (entries_with entries number value) k ≡ Some entry
    → EntryComes entries number value entry
entry_comes entries number (Some what) k entry distinct there = with_comes entries number what k entry distinct there
entry_comes entries number None k entry distinct there = without_comes entries number k entry distinct there

-- an entry of another key stays where one is put, by whether the first has the key
with_stays_by : (test : Bool) (first one : Entry) (entries more : List Entry) (k : ℕ) (entry : Entry)
    → (test ≡ true → first ≢ entry) → ((i : ℕ) → slice_get entries i ≡ Some entry → IsEntryOf more entry)
    → slice_get (first ∷ entries) k ≡ Some entry → IsEntryOf (cond test (one ∷ entries) (first ∷ more)) entry
with_stays_by true first one entries more zero entry other rest there =
    absurd (other refl (same_Some first entry there))
with_stays_by true first one entries more (suc k) entry other rest there = record { at = suc k; stands = there }
with_stays_by false first one entries more zero entry other rest there = record { at = 0; stands = there }
with_stays_by false first one entries more (suc k) entry other rest there = later first more entry (rest k there)

-- an entry of another key is not the first where this has the key
not_first : (first entry : Entry) (number : ℕ) → entry.key ≢ number → (first.key == number) ≡ true → first ≢ entry
not_first first entry number other test same =
    other (sym (ap (λ (e : Entry). e.key) same) ∙ eqb-true first.key number test)

-- an entry of another key stays where one is put
with_stays : (entries : List Entry) (number : ℕ) (what : Value) (k : ℕ) (entry : Entry) → entry.key ≢ number
    → slice_get entries k ≡ Some entry → IsEntryOf (with_entry entries number what) entry
with_stays [] number what k entry other there = absurd (none-some entry there)
with_stays (first ∷ entries) number what k entry other there =
    with_stays_by (first.key == number) first (record { key = number; value = what }) entries
    (with_entry entries number what) k entry (not_first first entry number other)
    (λ i. with_stays entries number what i entry other) there

-- an entry of another key stays where one is removed, by whether the first has the key
without_stays_by : (test : Bool) (first : Entry) (entries fewer : List Entry) (k : ℕ) (entry : Entry)
    → (test ≡ true → first ≢ entry) → ((i : ℕ) → slice_get entries i ≡ Some entry → IsEntryOf fewer entry)
    → slice_get (first ∷ entries) k ≡ Some entry → IsEntryOf (cond test entries (first ∷ fewer)) entry
without_stays_by true first entries fewer zero entry other rest there =
    absurd (other refl (same_Some first entry there))
without_stays_by true first entries fewer (suc k) entry other rest there = record { at = k; stands = there }
without_stays_by false first entries fewer zero entry other rest there = record { at = 0; stands = there }
without_stays_by false first entries fewer (suc k) entry other rest there = later first fewer entry (rest k there)

-- an entry of another key stays where one is removed
without_stays : (entries : List Entry) (number k : ℕ) (entry : Entry) → entry.key ≢ number
    → slice_get entries k ≡ Some entry → IsEntryOf (without_entry entries number) entry
without_stays [] number k entry other there = absurd (none-some entry there)
without_stays (first ∷ entries) number k entry other there =
    without_stays_by (first.key == number) first entries (without_entry entries number) k entry
    (not_first first entry number other) (λ i. without_stays entries number i entry other) there

-- an entry of another key stays
pub entry_stays : (entries : List Entry) (number : ℕ) (value : Option Value) (k : ℕ) (entry : Entry)
    → entry.key ≢ number → slice_get entries k ≡ Some entry → IsEntryOf (entries_with entries number value) entry
entry_stays entries number (Some what) k entry other there = with_stays entries number what k entry other there
entry_stays entries number None k entry other there = without_stays entries number k entry other there

-- the entry that is put is there, by whether the first has the key
put_there_by : (test : Bool) (first one : Entry) (entries more : List Entry) → IsEntryOf more one
    → IsEntryOf (cond test (one ∷ entries) (first ∷ more)) one
put_there_by true first one entries more rest = record { at = 0; stands = refl }
put_there_by false first one entries more rest = later first more one rest

-- the entry that is put is there
pub put_there : (entries : List Entry) (number : ℕ) (what : Value)
    → IsEntryOf (with_entry entries number what) (record { key = number; value = what })
put_there [] number what = record { at = 0; stands = refl }
put_there (first ∷ entries) number what =
    put_there_by (first.key == number) first (record { key = number; value = what }) entries
    (with_entry entries number what) (put_there entries number what)
