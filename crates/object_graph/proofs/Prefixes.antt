-- The prefixes of a path.
use Rattle.std.proofs.Common.{◌≡◌, ℕ, ◌+◌, ◌<◌, ◌≤◌, false, length, get_or, map, sym, ap, ◌∙◌, subst}
use Rattle.std.proofs.Common.{arith}
use Rattle.std.specs.Prelude.{All, Contains, ◌==◌}
use Rattle.std.specs.List.{IsDistinct}
use Rattle.std.proofs.lemmas.Bool.{false_from_ne_true}
use Rattle.std.proofs.lemmas.List.{length-take, length-take-le, take-take, take-map, take_all}
use Rattle.std.proofs.lemmas.List.FromFn.{length-map-range_with_len, get_or-map-range_with_len}
use Rattle.std.proofs.lemmas.Map.Keys.{IsDistinct-from_apart}
use Rattle.object_graph.specs.declared.path.Path.{Path}
use Rattle.object_graph.specs.declared.path.PathField.{PathField}
use Rattle.object_graph.specs.Paths.{same_path, prefix_of, prefixes}
use Rattle.object_graph.specs.Invariants.{IsPath}
use Rattle.object_graph.proofs.DistinctLists.{IsDistinct-take}
use Rattle.object_graph.proofs.EqualPaths.{Decides-same_path}

-- a path has one prefix more than fields
pub length-prefixes : (path : Path) → length (prefixes path) ≡ length path.fields + 1
length-prefixes path = length-map-range_with_len (prefix_of path) 0 (length path.fields + 1)

-- the prefixes stand in the order of their lengths
pub get_or-prefixes : (path : Path) (n : ℕ) (d : Path) → n ≤ length path.fields
    → get_or (prefixes path) n d ≡ prefix_of path n
get_or-prefixes path n d within =
    get_or-map-range_with_len (prefix_of path) 0 (length path.fields + 1) n n d (omega arith) (omega arith)

-- the first fields, so many as there are, make a prefix
pub prefixes_have : (path : Path) (n : ℕ) → n ≤ length path.fields → Contains (prefixes path) (prefix_of path n)
prefixes_have path n within = (n, omega (arith, length-prefixes path), get_or-prefixes path n (prefix_of path n) within)

-- what holds of the first fields, however many, holds of each prefix
pub All-prefixes : (P : Path → Type 0) (path : Path) → ((n : ℕ) → n ≤ length path.fields → P (prefix_of path n))
    → All P (prefixes path)
All-prefixes P path each n d within =
    let inside : n ≤ length path.fields = omega (arith, length-prefixes path) in
    subst P (sym (get_or-prefixes path n d inside)) (each n inside)

-- a path is a prefix of itself
pub has_itself : (path : Path) → Contains (prefixes path) path
has_itself path =
    let whole = take_all (length path.fields) path.fields (omega arith) in
    let same : prefix_of path (length path.fields) ≡ path = ap (λ fs. record { cap = path.cap; fields = fs }) whole in
    subst (Contains (prefixes path)) same (prefixes_have path (length path.fields) (omega arith))

-- a prefix of a prefix is a prefix
pub has_prefixes_of : (path prefix : Path) → Contains (prefixes path) prefix
    → All (Contains (prefixes path)) (prefixes prefix)
has_prefixes_of path prefix (n, within, at) =
    let inside : n ≤ length path.fields = omega (arith, length-prefixes path) in
    let is : prefix_of path n ≡ prefix = sym (get_or-prefixes path n prefix inside) ∙ at in
    let Has = λ (p : Path). All (Contains (prefixes path)) (prefixes p) in
    subst Has is
    (All-prefixes (Contains (prefixes path)) (prefix_of path n) (λ k shorter.
    let first : k ≤ n = omega (arith, length-take n path.fields) in
    let same : prefix_of path k ≡ prefix_of (prefix_of path n) k =
    ap (λ fs. record { cap = path.cap; fields = fs }) (sym (take-take k n path.fields first)) in
    subst (Contains (prefixes path)) same (prefixes_have path k (omega arith))))

-- two prefixes of different lengths are not the same
pub prefixes_differ : (path : Path) (i j : ℕ) → i < j → j ≤ length path.fields
    → same_path (prefix_of path i) (prefix_of path j) ≡ false
prefixes_differ path i j below within =
    false_from_ne_true (same_path (prefix_of path i) (prefix_of path j)) (λ passes.
    let same = (Decides-same_path (prefix_of path i) (prefix_of path j)).0 passes in
    let long = ap (λ (p : Path). length p.fields) same in
    let first = length-take-le i path.fields (omega arith) in
    let second = length-take-le j path.fields within in
    omega (arith, long, first, second))

-- no prefix stands twice
pub prefixes-distinct : (path : Path) → IsDistinct same_path (prefixes path)
prefixes-distinct path =
    IsDistinct-from_apart same_path (prefixes path) (λ i j d below within.
    let inside : j ≤ length path.fields = omega (arith, length-prefixes path) in
    ap (λ a. same_path a (get_or (prefixes path) j d)) (get_or-prefixes path i d (omega arith))
    ∙ ap (λ b. same_path (prefix_of path i) b) (get_or-prefixes path j d inside)
    ∙ prefixes_differ path i j below inside)

-- the prefixes of what may be a path may be paths
pub prefixes_are_paths : (path : Path) → IsPath path → All IsPath (prefixes path)
prefixes_are_paths path is =
    let name_of = λ (f : PathField). f.name in
    All-prefixes IsPath path (λ n within.
    let first = IsDistinct-take ◌==◌ n (map name_of path.fields) is.distinct in
    record {
      cap = is.cap;
      short = omega (arith, is.short, length-take n path.fields);
      distinct = subst (IsDistinct ◌==◌) (take-map name_of n path.fields) first;
    })
