-- When a weak map has no room for a key that can be reached.
use Rattle.std.proofs.Common.{◌≡◌, ◌==◌, ◌&&◌, ◌∙◌, ap, sym, refl, ℕ, ◌+◌, Bool, true, false, cond, List, []}
use Rattle.std.proofs.Common.{◌∷◌, Option, Some, is_none, nat_le, arith, zero-add, inl, inr}
use Rattle.std.specs.Prelude.{count_by, if◌then◌else◌}
use Rattle.std.proofs.lemmas.Bool.{cases_eq, ne_eqb}
use Rattle.std.proofs.lemmas.Bool.Decides.{nat_tests}
use Rattle.std.proofs.lemmas.List.Sums.{sum_by-cons}
use Rattle.object_graph.specs.declared.value.Value.{Value}
use Rattle.object_graph.specs.declared.object.Entry.{Entry}
use Rattle.object_graph.specs.Objects.{entry_value}
use Rattle.object_graph.specs.Meaning.{no_entry_for, weak_most}
use Rattle.object_graph.specs.Reach.{is_marked}

-- whether the entry has this key, which is marked
abbrev has_key : List Bool → ℕ → Entry → Bool
has_key marks key entry = is_marked marks entry.key && (entry.key == key)

-- a test that needs a true one is the other alone
and_alone : (a b : Bool) → a ≡ true → (a && b) ≡ b
and_alone a b is = ap (λ t. t && b) is

-- and one beside a false one is false
and_false : (a b : Bool) → b ≡ false → (a && b) ≡ false
and_false true b is = is
and_false false b is = refl

-- where the key is marked, that is whether it has the key
key_alone : (marks : List Bool) (key : ℕ) (entry : Entry) → is_marked marks key ≡ true
    → has_key marks key entry ≡ (entry.key == key)
key_alone marks key entry marked =
    elim (cases_eq entry.key key) [
      | inl same ↦
          and_alone (is_marked marks entry.key) (entry.key == key) (ap (is_marked marks) same ∙ marked)
      | inr apart ↦
          and_false (is_marked marks entry.key) (entry.key == key) (ne_eqb entry.key key apart)
          ∙ sym (ne_eqb entry.key key apart)
    ]

-- one entry more is counted where it has the key
no_key-cons : (here : Bool) (n : ℕ) (value : Value) (rest : Option Value) → (n == 0) ≡ is_none rest
    → (cond here 1 0 + n == 0) ≡ is_none (if here then Some value else rest)
no_key-cons true n value rest same = grind (arith, nat_tests)
no_key-cons false n value rest same = rw zero-add same

-- no entry is counted that has the key where the key has no value
no_key : (marks : List Bool) (entries : List Entry) (key : ℕ) → is_marked marks key ≡ true
    → (count_by (has_key marks key) entries == 0) ≡ is_none (entry_value entries key)
no_key marks [] key marked = refl
no_key marks (entry ∷ entries) key marked =
    let rest = count_by (has_key marks key) entries in
    ap (λ n. n == 0) (sum_by-cons (λ e. cond (has_key marks key e) 1 0) entry entries)
    ∙ ap (λ t. cond t 1 0 + rest == 0) (key_alone marks key entry marked)
    ∙ no_key-cons (entry.key == key) rest entry.value (entry_value entries key) (no_key marks entries key marked)

-- So there is no room for a new key that can be reached where as many keys can be as a map may have.
pub no_entry_for-is : (marks : List Bool) (entries : List Entry) (key : ℕ) → is_marked marks key ≡ true
    → no_entry_for marks entries key
    ≡ (is_none (entry_value entries key)
    && nat_le weak_most (count_by (λ entry. is_marked marks entry.key) entries))
no_entry_for-is marks entries key marked =
    ap (λ new. new && nat_le weak_most (count_by (λ entry. is_marked marks entry.key) entries))
    (no_key marks entries key marked)
