-- The nine empty paths, with which all paths begin.
use Rattle.std.proofs.Common.{◌≡◌, ℕ, ◌<◌, ◌≤◌, true, false, ◌&&◌, List, [], length, get_or, sym, ap}
use Rattle.std.proofs.Common.{◌∙◌, subst, arith, append-nil}
use Rattle.std.specs.Prelude.{All, Contains}
use Rattle.std.proofs.lemmas.Bool.{ne_eqb}
use Rattle.std.proofs.lemmas.List.Elements.{All-nil, All-cons, Contains-append_left}
use Rattle.std.proofs.lemmas.List.FromFn.{length-map-range_with_len, get_or-map-range_with_len}
use Rattle.std.proofs.lemmas.Map.Keys.{IsDistinct-from_apart}
use Rattle.object_graph.specs.declared.path.Path.{Path}
use Rattle.object_graph.specs.Paths.{empty_paths, path_of, same_path, prefixes}
use Rattle.heap_command.specs.Commands.{cap_most}
use Rattle.object_graph.specs.Invariants.{IsPath, BeginEmpty, ArePaths}
use Rattle.object_graph.proofs.DistinctLists.{nil-distinct}

-- the path of no field and this cap
abbrev empty_path : ℕ → Path
empty_path cap = record { cap = cap; fields = [] }

-- there are nine
pub length-empty_paths : length empty_paths ≡ 9
length-empty_paths = length-map-range_with_len empty_path 0 9

-- they stand in the order of their caps
pub get_or-empty_paths : (cap : ℕ) (d : Path) → cap < 9 → get_or empty_paths cap d ≡ empty_path cap
get_or-empty_paths cap d below = get_or-map-range_with_len empty_path 0 9 cap cap d below (omega arith)

-- the path of no field is among them, where its cap is at most 8
empty_paths_have : (cap : ℕ) → cap ≤ cap_most → Contains empty_paths (empty_path cap)
empty_paths_have cap within =
    (cap, omega (arith, length-empty_paths), get_or-empty_paths cap (empty_path cap) (omega arith))

-- and it is among all paths that begin with them
pub has_empty : (paths : List Path) (cap : ℕ) → BeginEmpty paths → cap ≤ cap_most → Contains paths (path_of cap [])
has_empty paths cap begins within =
    subst (λ ps. Contains ps (empty_path cap)) (sym begins.1)
    (Contains-append_left empty_paths begins.0 (empty_path cap) (empty_paths_have cap within))

-- each of them is a path
empty_is_path : (cap : ℕ) → cap < 9 → IsPath (empty_path cap)
empty_is_path cap below = record { cap = omega arith; short = omega arith; distinct = nil-distinct }

-- the only prefix of an empty path is the path itself
empty_closed : (path : Path) → Contains empty_paths path → All (Contains empty_paths) (prefixes path)
empty_closed path (cap, within, at) =
    let below : cap < 9 = omega (arith, length-empty_paths) in
    let is : empty_path cap ≡ path = sym (get_or-empty_paths cap path below) ∙ at in
    let itself = empty_paths_have cap (omega arith) in
    subst (λ p. All (Contains empty_paths) (prefixes p)) is
    (All-cons (Contains empty_paths) (empty_path cap) [] itself (All-nil (Contains empty_paths)))

-- two of different caps are not the same
empty_differ : (i j : ℕ) → i < j → same_path (empty_path i) (empty_path j) ≡ false
empty_differ i j below = ap (λ test. test && true) (ne_eqb i j (omega arith))

-- the nine paths are in order
pub empty_paths_are : ArePaths empty_paths
empty_paths_are = record {
  begins = ([], sym (append-nil empty_paths));
  distinct = IsDistinct-from_apart same_path empty_paths (λ i j d below within.
      let inside : j < 9 = omega (arith, length-empty_paths) in
      ap (λ a. same_path a (get_or empty_paths j d)) (get_or-empty_paths i d (omega arith))
      ∙ ap (λ b. same_path (empty_path i) b) (get_or-empty_paths j d inside)
      ∙ empty_differ i j below);
  closed = empty_closed;
  each = λ cap d within.
      let below : cap < 9 = omega (arith, length-empty_paths) in
      subst IsPath (sym (get_or-empty_paths cap d below)) (empty_is_path cap below);
}
