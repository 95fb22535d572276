-- Paths with more fields, their prefixes, and which of these are missing.
use Rattle.std.proofs.Common.{◌≡◌, ℕ, suc, ◌+◌, ◌≤◌, false, true, List, [], ◌∷◌, ◌++◌, length, map}
use Rattle.std.proofs.Common.{refl, sym, ap, ◌∙◌, subst}
use Rattle.std.proofs.Common.{arith, append-nil, append_assoc, length-append, get_or}
use Rattle.std.specs.Prelude.{All, Contains, not, filter, Bool, ◌||◌}
use Rattle.std.specs.List.{list_any, range_with_len}
use Rattle.std.proofs.lemmas.Bool.{false_from_ne_true}
use Rattle.std.proofs.lemmas.List.{same_lists, take-append-le, take_all}
use Rattle.std.proofs.lemmas.List.Elements.{All-nil, All-cons, All-head, All-tail, All-contains, filter-append}
use Rattle.std.proofs.lemmas.List.Elements.{Contains-append_left}
use Rattle.std.proofs.lemmas.List.Folds.{list_any-append}
use Rattle.std.proofs.lemmas.List.FromFn.{map-range_with_len_more, length-map-range_with_len, get_or-map-range_with_len}
use Rattle.object_graph.specs.declared.path.Path.{Path}
use Rattle.object_graph.specs.declared.path.PathField.{PathField}
use Rattle.object_graph.specs.Paths.{same_path, prefix_of, prefixes, missing}
use Rattle.object_graph.specs.Invariants.{IsPath, ArePaths}
use Rattle.object_graph.proofs.EqualPaths.{Decides-same_path}
use Rattle.object_graph.proofs.Prefixes.{length-prefixes, get_or-prefixes, has_itself}
use Rattle.object_graph.proofs.AddedPaths.{adds_missing}
use Rattle.shape_tree.specs.Growth.{extended, IsMissing, FirstIsMissing}
use Rattle.shape_tree.proofs.ShapePaths.{has_its_path, IsShapeOf-last}
use Rattle.shape_tree.proofs.MissingPaths.{found_if_there, missing_not_there, missing_if_not}

-- the paths that a path grows through by these fields, one field more each
abbrev pub growths : Path → List PathField → List Path
growths path [] = []
growths path (field ∷ fields) = extended path (field ∷ []) ∷ growths (extended path (field ∷ [])) fields

-- a path with no field more is itself
pub extended-nil : (path : Path) → extended path [] ≡ path
extended-nil path = ap (λ fs. record { cap = path.cap; fields = fs }) (append-nil path.fields)

-- one field more, and then the others
pub extended-extended : (path : Path) (xs ys : List PathField)
    → extended (extended path xs) ys ≡ extended path (xs ++ ys)
extended-extended path xs ys = ap (λ fs. record { cap = path.cap; fields = fs }) (append_assoc path.fields xs ys)

-- a shorter prefix of a path with a field more is one of the path
prefix_of-extended : (path : Path) (field : PathField) (n : ℕ) → n ≤ length path.fields
    → prefix_of (extended path (field ∷ [])) n ≡ prefix_of path n
prefix_of-extended path field n within =
    ap (λ fs. record { cap = path.cap; fields = fs }) (take-append-le n path.fields (field ∷ []) within)

-- the prefixes of a path with a field more are those of the path, and then the path with the field
prefixes-push : (path : Path) (field : PathField)
    → prefixes (extended path (field ∷ [])) ≡ prefixes path ++ extended path (field ∷ []) ∷ []
prefixes-push path field =
    let more = extended path (field ∷ []) in
    let n = length path.fields in
    let long : length more.fields ≡ n + 1 = omega (arith, length-append path.fields (field ∷ [])) in
    let count : length more.fields + 1 ≡ n + 1 + 1 = omega arith in
    let shorter : map (prefix_of more) (range_with_len 0 (n + 1)) ≡ prefixes path =
    same_lists (map (prefix_of more) (range_with_len 0 (n + 1))) (prefixes path)
    (length-map-range_with_len (prefix_of more) 0 (n + 1) ∙ sym (length-prefixes path))
    (λ k d below.
    let inside : k ≤ n = omega (arith, length-map-range_with_len (prefix_of more) 0 (n + 1)) in
    get_or-map-range_with_len (prefix_of more) 0 (n + 1) k k d (omega (arith, inside)) (omega arith)
    ∙ prefix_of-extended path field k inside
    ∙ sym (get_or-prefixes path k d inside)) in
    let whole : prefix_of more (n + 1) ≡ more =
    ap (λ fs. record { cap = path.cap; fields = fs }) (take_all (n + 1) more.fields (omega arith)) in
    ap (λ m. map (prefix_of more) (range_with_len 0 m)) count
    ∙ map-range_with_len_more (prefix_of more) 0 (n + 1) (n + 1) (omega arith)
    ∙ ap (λ ps. ps ++ prefix_of more (n + 1) ∷ []) shorter
    ∙ ap (λ p. prefixes path ++ p ∷ []) whole

-- the prefixes of a path with more fields are those of the path, and then what it grows through
pub prefixes-extended : (path : Path) (fields : List PathField)
    → prefixes (extended path fields) ≡ prefixes path ++ growths path fields
prefixes-extended path [] = ap prefixes (extended-nil path) ∙ sym (append-nil (prefixes path))
prefixes-extended path (field ∷ fields) =
    let more = extended path (field ∷ []) in
    ap prefixes (sym (extended-extended path (field ∷ []) fields))
    ∙ prefixes-extended more fields
    ∙ ap (λ ps. ps ++ growths more fields) (prefixes-push path field)
    ∙ append_assoc (prefixes path) (more ∷ []) (growths more fields)

-- a path is a prefix of itself with more fields
pub is_prefix : (path : Path) (fields : List PathField) → Contains (prefixes (extended path fields)) path
is_prefix path fields =
    subst (λ ps. Contains ps path) (sym (prefixes-extended path fields))
    (Contains-append_left (prefixes path) (growths path fields) path (has_itself path))

-- a path is there if it is there with more fields
pub has_prefix_of : (paths : List Path) (path : Path) (fields : List PathField) → ArePaths paths
    → Contains paths (extended path fields) → Contains paths path
has_prefix_of paths path fields are there =
    All-contains (Contains paths) (prefixes (extended path fields)) path (are.closed (extended path fields) there)
    (is_prefix path fields)

-- where a path is missing, it is missing with a field more
pub fresh_on : (paths : List Path) (path : Path) (fields : List PathField) → ArePaths paths → IsMissing paths path
    → FirstIsMissing paths path fields
fresh_on paths path [] are missed = tt
fresh_on paths path (field ∷ fields) are missed =
    missing_if_not paths (extended path (field ∷ [])) (λ there.
    missing_not_there paths path missed (has_prefix_of paths path (field ∷ []) are there))

-- where the next path is missing, so are all that follow
growths_missing : (paths : List Path) (path : Path) (fields : List PathField) → ArePaths paths
    → FirstIsMissing paths path fields → All (IsMissing paths) (growths path fields)
growths_missing paths path [] are fresh = All-nil (IsMissing paths)
growths_missing paths path (field ∷ fields) are fresh =
    let more = extended path (field ∷ []) in
    All-cons (IsMissing paths) more (growths more fields) fresh
    (growths_missing paths more fields are (fresh_on paths more fields are fresh))

-- a filter takes all that pass
filter_all : {X : Type 0} (test : X → Bool) (xs : List X) → All (λ x. test x ≡ true) xs → filter test xs ≡ xs
filter_all test [] all = refl
filter_all test (x ∷ xs) all =
    let here = All-head (λ y. test y ≡ true) x xs all in
    rw here (ap (λ l. x ∷ l) (filter_all test xs (All-tail (λ y. test y ≡ true) x xs all)))

-- and none that do not
filter_none : {X : Type 0} (test : X → Bool) (xs : List X) → All (λ x. test x ≡ false) xs → filter test xs ≡ []
filter_none test [] all = refl
filter_none test (x ∷ xs) all =
    let here = All-head (λ y. test y ≡ false) x xs all in
    rw here (filter_none test xs (All-tail (λ y. test y ≡ false) x xs all))

-- where a path is there and the next is missing, what it grows through is what is missing
pub missing-extended : (paths : List Path) (path : Path) (fields : List PathField) → ArePaths paths
    → Contains paths path → FirstIsMissing paths path fields
    → missing paths (extended path fields) ≡ growths path fields
missing-extended paths path fields are there fresh =
    let is_missing = λ (p : Path). not (list_any (same_path p) paths) in
    let before : All (λ p. is_missing p ≡ false) (prefixes path) = λ k d below.
    ap not (found_if_there paths (get_or (prefixes path) k d) (are.closed path there k d below)) in
    let after : All (λ p. is_missing p ≡ true) (growths path fields) = λ k d below.
    ap not (growths_missing paths path fields are fresh k d below) in
    ap (filter is_missing) (prefixes-extended path fields)
    ∙ filter-append is_missing (prefixes path) (growths path fields)
    ∙ ap (λ ps. ps ++ filter is_missing (growths path fields)) (filter_none is_missing (prefixes path) before)
    ∙ filter_all is_missing (growths path fields) after

-- of a path that is there nothing is missing
pub missing-there : (paths : List Path) (path : Path) → ArePaths paths → Contains paths path → missing paths path ≡ []
missing-there paths path are there =
    ap (missing paths) (sym (extended-nil path)) ∙ missing-extended paths path [] are there tt

-- a path grows through as many paths as there are fields more
pub length-growths : (path : Path) (fields : List PathField) → length (growths path fields) ≡ length fields
length-growths path [] = refl
length-growths path (field ∷ fields) =
    let rest = length-growths (extended path (field ∷ [])) fields in
    ap suc rest

-- the paths with the next one added are in order
pub are_with_next : (paths : List Path) (path : Path) (field : PathField) → ArePaths paths → Contains paths path
    → IsMissing paths (extended path (field ∷ [])) → IsPath (extended path (field ∷ []))
    → ArePaths (paths ++ extended path (field ∷ []) ∷ [])
are_with_next paths path field are there missed is =
    let more = extended path (field ∷ []) in
    let lacking : missing paths more ≡ more ∷ [] = missing-extended paths path (field ∷ []) are there missed in
    subst (λ ps. ArePaths (paths ++ ps)) lacking (adds_missing paths more are is).are

-- a path with a field more is another
longer_differs : (path : Path) (field : PathField) → same_path (extended path (field ∷ [])) path ≡ false
longer_differs path field =
    false_from_ne_true (same_path (extended path (field ∷ [])) path) (λ passes.
    let same = (Decides-same_path (extended path (field ∷ [])) path).0 passes in
    let long = ap (λ (p : Path). length p.fields) same in
    omega (arith, long, length-append path.fields (field ∷ [])))

-- once a missing path was added, the next after it is missing
pub fresh_behind : (paths : List Path) (path : Path) (fields : List PathField) → ArePaths paths → IsMissing paths path
    → FirstIsMissing (paths ++ path ∷ []) path fields
fresh_behind paths path [] are missed = tt
fresh_behind paths path (field ∷ fields) are missed =
    let more = extended path (field ∷ []) in
    let before : IsMissing paths more = fresh_on paths path (field ∷ fields) are missed in
    list_any-append (same_path more) paths (path ∷ [])
    ∙ ap (λ found. found || (same_path more path || false)) before
    ∙ ap (λ found. found || false) (longer_differs path field)

-- the next path is the first that is missing, and the others are missing once it was added
pub missing-next : (paths : List Path) (path : Path) (field : PathField) (fields : List PathField) → ArePaths paths
    → Contains paths path → IsMissing paths (extended path (field ∷ [])) → IsPath (extended path (field ∷ []))
    → missing paths (extended path (field ∷ fields))
    ≡ extended path (field ∷ [])
    ∷ missing (paths ++ extended path (field ∷ []) ∷ []) (extended path (field ∷ fields))
missing-next paths path field fields are there missed is =
    let more = extended path (field ∷ []) in
    let new = paths ++ more ∷ [] in
    let last : Contains new more = has_its_path new more _ (IsShapeOf-last paths more) in
    let later : missing new (extended more fields) ≡ growths more fields =
    missing-extended new more fields (are_with_next paths path field are there missed is) last
    (fresh_behind paths more fields are missed) in
    missing-extended paths path (field ∷ fields) are there missed
    ∙ ap (λ ps. more ∷ ps) (sym later)
    ∙ ap (λ p. more ∷ missing new p) (extended-extended path (field ∷ []) fields)
