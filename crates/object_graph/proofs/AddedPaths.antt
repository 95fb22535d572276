-- Paths to which a path and its prefixes are added.
use Rattle.std.proofs.Common.{◌≡◌, ℕ, ◌+◌, Bool, true, false, List, ◌++◌, length, Option, Some, refl, sym, ap}
use Rattle.std.proofs.Common.{◌∙◌, subst, inl, inr, append_assoc}
use Rattle.std.specs.Prelude.{All, Contains, not}
use Rattle.std.specs.List.{list_any}
use Rattle.std.proofs.lemmas.Bool.{false_from_ne_true, not-true}
use Rattle.std.proofs.lemmas.Option.{cond_some}
use Rattle.std.proofs.lemmas.List.Elements.{All-append, All-filter, All-weaker, All-contains_itself, filter_passes}
use Rattle.std.proofs.lemmas.List.Elements.{Contains-append_left, Contains-append_right, Contains-append_cases}
use Rattle.std.proofs.lemmas.List.Folds.{list_any-from_Any}
use Rattle.std.proofs.lemmas.Map.Views.{Contains-from_any}
use Rattle.tagged_word.proofs.Members.{filter_from}
use Rattle.object_graph.specs.declared.path.Path.{Path}
use Rattle.object_graph.specs.Paths.{empty_paths, same_path, prefixes, missing, may_have, with_path}
use Rattle.object_graph.specs.Invariants.{IsPath, ArePaths}
use Rattle.object_graph.proofs.DistinctLists.{IsDistinct-append, IsDistinct-filter, Contains-filter}
use Rattle.object_graph.proofs.EqualPaths.{Decides-same_path}
use Rattle.object_graph.proofs.Prefixes.{has_itself, has_prefixes_of, prefixes-distinct, prefixes_are_paths}

-- where paths are added, they come last
pub with_path-is : (most : Option ℕ) (old new : List Path) (path : Path) → with_path most old path ≡ Some new
    → old ++ missing old path ≡ new
with_path-is most old new path is =
    let more = missing old path in
    (cond_some (may_have most (length old + length more)) (old ++ more) new is).1

-- whether a path is not among these
abbrev is_missing : List Path → Path → Bool
is_missing old path = not (list_any (same_path path) old)

-- a prefix that is among the paths, or is missing, is there afterwards
has_prefix_if : (old : List Path) (path prefix : Path) (there : Bool) → list_any (same_path prefix) old ≡ there
    → Contains (prefixes path) prefix → Contains (old ++ missing old path) prefix
has_prefix_if old path prefix true is among =
    let found = Contains-from_any (λ x y. (Decides-same_path x y).0) prefix old is in
    Contains-append_left old (missing old path) prefix found
has_prefix_if old path prefix false is among =
    let added = Contains-filter (is_missing old) (prefixes path) prefix among (ap not is) in
    Contains-append_right old (missing old path) prefix added

-- each prefix is there afterwards
has_prefix : (old : List Path) (path prefix : Path) → Contains (prefixes path) prefix
    → Contains (old ++ missing old path) prefix
has_prefix old path prefix among = has_prefix_if old path prefix (list_any (same_path prefix) old) refl among

-- a path that is there differs from one that is missing
differs : (old : List Path) (a b : Path) → Contains old a → is_missing old b ≡ true → same_path a b ≡ false
differs old a b there missed =
    false_from_ne_true (same_path a b) (λ passes.
    let same : b ≡ a = sym ((Decides-same_path a b).0 passes) in
    let again : same_path b a ≡ true = (Decides-same_path b a).1 same in
    let found = list_any-from_Any (same_path b) old (there.0, a, there.1, there.2, again) in
    let lost = not-true (list_any (same_path b) old) missed in
    cc)

-- each path that is there differs from each that is missing
missing_differ : (old : List Path) (path : Path) → All (λ a. All (λ b. same_path a b ≡ false) (missing old path)) old
missing_differ old path =
    let all_missed = filter_passes (is_missing old) (prefixes path) in
    All-weaker (Contains old) (λ a. All (λ b. same_path a b ≡ false) (missing old path)) (λ a there.
    All-weaker (λ b. is_missing old b ≡ true) (λ b. same_path a b ≡ false)
    (λ b. differs old a b there) (missing old path)
    all_missed) old (All-contains_itself old)

-- the prefixes of each path are there afterwards
stays_closed : (old : List Path) (path : Path) → ArePaths old → (p : Path) → Contains (old ++ missing old path) p
    → All (Contains (old ++ missing old path)) (prefixes p)
stays_closed old path are p there =
    let new = old ++ missing old path in
    elim (Contains-append_cases old (missing old path) p there) [
      | inl before ↦
          All-weaker (Contains old) (Contains new) (Contains-append_left old (missing old path)) (prefixes p)
          (are.closed p before)
      | inr added ↦
          let prefix = filter_from (is_missing old) (prefixes path) p added in
          All-weaker (Contains (prefixes path)) (Contains new) (has_prefix old path) (prefixes p)
          (has_prefixes_of path p prefix)
    ]

-- the paths afterwards are in order, have this path, and have each path that was there
pub record Adds (old new : List Path) (path : Path) : Type 0 where
  pub are : ArePaths new
  pub has : Contains new path
  pub keeps : (p : Path) → Contains old p → Contains new p

-- a path and its prefixes are added
pub adds_missing : (old : List Path) (path : Path) → ArePaths old → IsPath path
    → Adds old (old ++ missing old path) path
adds_missing old path are is =
    let more = missing old path in
    let more_distinct = IsDistinct-filter same_path (is_missing old) (prefixes path) (prefixes-distinct path) in
    let later = are.begins.0 ++ more in
    let begins = ap (λ paths. paths ++ more) are.begins.1 ∙ append_assoc empty_paths are.begins.0 more in
    let more_are = All-filter (is_missing old) IsPath (prefixes path) (prefixes_are_paths path is) in
    record {
      are = record {
        begins = (later, begins);
        distinct = IsDistinct-append same_path old more are.distinct more_distinct (missing_differ old path);
        closed = stays_closed old path are;
        each = All-append IsPath old more are.each more_are;
      };
      has = has_prefix old path path (has_itself path);
      keeps = Contains-append_left old more;
    }

-- the same where there may be so many
pub adds : (most : Option ℕ) (old new : List Path) (path : Path) → with_path most old path ≡ Some new
    → ArePaths old → IsPath path → Adds old new path
adds most old new path is are fits =
    subst (λ paths. Adds old paths path) (with_path-is most old new path is) (adds_missing old path are fits)
