-- Lists of paths that a loop builds, one for each number.
use Rattle.std.proofs.Common.{◌≡◌, ℕ, ◌+◌, ◌∙◌, sym, ap, Bool, not, List, [], ◌∷◌, ◌++◌, map, filter}
use Rattle.std.proofs.Common.{cond, arith}
use Rattle.std.specs.List.{range_with_len, list_any}
use Rattle.std.proofs.lemmas.List.FromFn.{map-range_with_len_more, filter_of_map_range_with_len_more}
use Rattle.object_graph.specs.declared.path.Path.{Path}
use Rattle.object_graph.specs.Paths.{same_path, prefix_of}

-- one path more, the next one
pub made_more : (f : ℕ → Path) (n : ℕ) (made more : List Path) → made ≡ map f (range_with_len 0 n)
    → more ≡ made ++ f n ∷ [] → more ≡ map f (range_with_len 0 (n + 1))
made_more f n made more so_far next =
    next ∙ ap (λ paths. paths ++ f n ∷ []) so_far ∙ sym (map-range_with_len_more f 0 n n (omega arith))

-- whether the path is not among these
abbrev is_missing : List Path → Path → Bool
is_missing paths path = not (list_any (same_path path) paths)

-- of the first prefixes of a path, so many of them, those that are not among the paths
abbrev pub missing_below : List Path → Path → ℕ → List Path
missing_below paths path n = filter (is_missing paths) (map (prefix_of path) (range_with_len 0 n))

-- these paths, and the next one unless it is among others
abbrev pub and_unless : Bool → Path → List Path → List Path
and_unless among next some = some ++ cond (not among) (next ∷ []) []

-- a loop that has all that are missing before adds the next one, unless it is among the paths
pub missing_below-more : (paths : List Path) (path next : Path) (n : ℕ) (among : Bool) (some : List Path)
    → some ≡ missing_below paths path n → next ≡ prefix_of path n → among ≡ list_any (same_path next) paths
    → and_unless among next some ≡ missing_below paths path (n + 1)
missing_below-more paths path next n among some so_far is says =
    ap (and_unless among next) so_far
    ∙ ap (λ b. and_unless b next (missing_below paths path n)) says
    ∙ ap (λ prefix. missing_below paths path n ++ cond (is_missing paths prefix) (prefix ∷ []) []) is
    ∙ sym (filter_of_map_range_with_len_more (is_missing paths) (prefix_of path) 0 n n (omega arith))
