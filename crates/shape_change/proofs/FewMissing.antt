-- A path has no more missing prefixes than fields, and one.
use Rattle.std.proofs.Common.{◌≡◌, ℕ, zero, suc, ◌+◌, ◌≤◌, List, [], ◌∷◌, length, refl, ap, arith, not}
use Rattle.std.specs.List.{list_any}
use Rattle.std.proofs.lemmas.List.FromFn.{length-map-range_with_len}
use Rattle.std.proofs.lemmas.List.Filters.{length-filter_both}
use Rattle.heap_model.specs.Types.{Path, PathField, Rep}
use Rattle.object_graph.specs.Paths.{missing, prefixes, prefix_of, same_path}
use Rattle.shape_tree.specs.Shapes.{changed, changed_fields}

-- fields are as many where one has another representation
length-changed : (fields : List PathField) (at : ℕ) (rep : Rep)
    → length (changed_fields fields at rep) ≡ length fields
length-changed [] at rep = refl
length-changed (field ∷ fields) zero rep = refl
length-changed (field ∷ fields) (suc at) rep = ap suc (length-changed fields at rep)

-- no more prefixes are missing than there are
pub few_missing : (paths : List Path) (path : Path) (at : ℕ) (rep : Rep)
    → length (missing paths (changed path at rep)) ≤ length path.fields + 1
few_missing paths path at rep =
    let one : Path = changed path at rep in
    let there = λ (prefix : Path). list_any (same_path prefix) paths in
    let both = length-filter_both (λ (prefix : Path). not (there prefix)) (λ (prefix : Path). not (not (there prefix)))
    (λ prefix. refl) (prefixes one) in
    let all = length-map-range_with_len (prefix_of one) 0 (length one.fields + 1) in
    let long = length-changed path.fields at rep in
    omega (arith, both, all, long)
