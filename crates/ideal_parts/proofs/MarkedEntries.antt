-- When a weak map has no room for a key, by the marks of keys.
use Rattle.std.proofs.Common.{◌≡◌, ◌∙◌, ap, refl, ℕ, ◌+◌, Bool, true, false, not, ◌&&◌, ◌==◌, cond, List, [], ◌∷◌}
use Rattle.std.proofs.Common.{is_none, is_some, Option, Some, None, nat_le, count_by, inl, inr, zero-add}
use Rattle.std.proofs.Math.Bool.{and-false}
use Rattle.std.proofs.lemmas.Bool.{cases_eq, ne_eqb}
use Rattle.std.proofs.lemmas.List.Sums.{sum_by-cons}
use Rattle.object_graph.specs.declared.value.Value.{Value}
use Rattle.object_graph.specs.declared.object.Entry.{Entry}
use Rattle.object_graph.specs.Objects.{entry_value}
use Rattle.object_graph.specs.Meaning.{no_entry_for, weak_most}
use Rattle.object_graph.specs.Reach.{is_marked}
use Rattle.object_graph.proofs.WeakMost.{no_entry_for-is}

-- whether the entry has this key, which is marked
abbrev has_key : List Bool → ℕ → Entry → Bool
has_key marks key entry = is_marked marks entry.key && (entry.key == key)

-- how many of the entries have a marked key
abbrev marked_count : List Bool → List Entry → ℕ
marked_count marks entries = count_by (λ entry. is_marked marks entry.key) entries

-- no entry has a key that is not marked, and a mark on it
has_none : (marks : List Bool) (key : ℕ) (entry : Entry) → is_marked marks key ≡ false
    → has_key marks key entry ≡ false
has_none marks key entry unmarked =
    elim (cases_eq entry.key key) [
      | inl same ↦ ap (λ marked. marked && (entry.key == key)) (ap (is_marked marks) same ∙ unmarked)
      | inr apart ↦
          ap (λ equal. is_marked marks entry.key && equal) (ne_eqb entry.key key apart)
          ∙ and-false (is_marked marks entry.key)
    ]

-- what does not count adds nothing
adds_none : (counts : Bool) (n : ℕ) → counts ≡ false → n ≡ 0 → cond counts 1 0 + n ≡ 0
adds_none true n is none = cc
adds_none false n is none = rw zero-add none

-- so no entry is counted
count_none : (marks : List Bool) (entries : List Entry) (key : ℕ) → is_marked marks key ≡ false
    → count_by (has_key marks key) entries ≡ 0
count_none marks [] key unmarked = refl
count_none marks (entry ∷ entries) key unmarked =
    sum_by-cons (λ e. cond (has_key marks key e) 1 0) entry entries
    ∙ adds_none (has_key marks key entry) (count_by (has_key marks key) entries) (has_none marks key entry unmarked)
    (count_none marks entries key unmarked)

-- nothing is found where not something is
none-not_some : (found : Option Value) → is_none found ≡ not (is_some found)
none-not_some None = refl
none-not_some (Some value) = refl

-- whether there is no room, for a key that is marked or not
room_by : (marked : Bool) (marks : List Bool) (entries : List Entry) (key : ℕ) → is_marked marks key ≡ marked
    → no_entry_for marks entries key
    ≡ (not (marked && is_some (entry_value entries key)) && nat_le weak_most (marked_count marks entries))
room_by true marks entries key is =
    no_entry_for-is marks entries key is
    ∙ ap (λ new. new && nat_le weak_most (marked_count marks entries)) (none-not_some (entry_value entries key))
room_by false marks entries key is =
    ap (λ n. (n == 0) && nat_le weak_most (marked_count marks entries)) (count_none marks entries key is)

-- There is no room where as many entries have a marked key as a weak map may have, and the key is not both marked and
-- the key of one of them.
pub no_entry_for-by : (marks : List Bool) (entries : List Entry) (key : ℕ)
    → no_entry_for marks entries key
    ≡ (not (is_marked marks key && is_some (entry_value entries key))
    && nat_le weak_most (count_by (λ entry. is_marked marks entry.key) entries))
no_entry_for-by marks entries key = room_by (is_marked marks key) marks entries key refl
