-- What a take leaves: the longest run, and the words of all runs.
use Rattle.std.proofs.Common.{◌≡◌, ℕ, ◌-◌, ◌<◌, ◌≤◌, inl, inr, max, List, [], ◌∷◌, ◌++◌, length}
use Rattle.std.proofs.Common.{get_or, set, refl, arith}
use Rattle.std.proofs.lemmas.Bool.{cases_eq}
use Rattle.std.proofs.lemmas.List.{get_or-set_same, get_or-set_other, length-set}
use Rattle.std.proofs.lemmas.List.Recursion.{max_least}
use Rattle.page_space.specs.declared.run.Run.{Run}
use Rattle.free_runs.specs.FreeRuns.{TakesFrom}
use Rattle.free_runs.specs.FreeRuns.{longest_in, longest_of, row_of, left_of}
use Rattle.free_runs.specs.Laws.{LongestTells, TakesMakeNoneLonger}
use Rattle.free_runs.proofs.Bounds.{bounds_all, all_fewer, each_fewer}
use Rattle.free_runs.proofs.Cuts.{Left, left_is}

-- the longest of all is no longer than what no row's longest is
all_least : (rows : List (List Run)) (most : ℕ)
    → ((page : ℕ) → page < length rows → longest_in (row_of rows page) ≤ most)
    → longest_of rows ≤ most
all_least rows most each = max_least longest_of longest_in refl (λ _ _. refl) rows [] most each

-- the longest run has fewer than n words exactly where n words fit nowhere
pub longest_tells : LongestTells
longest_tells rows n some = (
  λ fewer page d there. each_fewer (get_or rows page d) n (omega (arith, fewer, bounds_all rows page d there)),
  λ nowhere.
      let least = all_least rows (n - 1) (λ page there.
      let one : longest_in (row_of rows page) < n = all_fewer (row_of rows page) n some (nowhere page [] there) in
      omega arith) in
      omega (arith, least),
)

-- what is left of a run is no longer than it
left_no_longer : (run : Run) (n : ℕ) (left : List Run) → Left run n left → longest_in left ≤ run.words
left_no_longer run n left (inl none) = rw none.1 (omega arith)
left_no_longer run n left (inr rest) = rw rest.1 (omega arith)

-- the longest of runs and others
longest_append : (runs others : List Run) → longest_in (runs ++ others) ≡ max (longest_in runs) (longest_in others)
longest_append [] others = omega arith
longest_append (run ∷ more) others = omega (arith, longest_append more others)

-- a take from a row makes no run longer
row_no_longer : (old new : List Run) (n : ℕ) (taken : Run) → TakesFrom old new n taken → longest_in new ≤ longest_in old
row_no_longer old new n taken takes =
    let left = left_of takes.run n in
    let short = left_no_longer takes.run n left (left_is takes.run n takes.enough) in
    let was = longest_append takes.before (takes.run ∷ takes.behind) in
    let now = longest_append takes.before (left ++ takes.behind) in
    let rest = longest_append left takes.behind in
    rw (takes.stood, takes.left) (omega (arith, short, was, now, rest))

-- a take makes no run longer
pub takes_make_none_longer : TakesMakeNoneLonger
takes_make_none_longer old new n taken takes =
    rw takes.others (all_least (set old takes.page takes.row) (longest_of old) (λ page there.
    let inside : page < length old = omega (arith, there, length-set old takes.page takes.row) in
    elim (cases_eq page takes.page) [
      | inl same ↦ rw (same, get_or-set_same old takes.page takes.row [] takes.there)
          (omega (
            arith,
            row_no_longer (row_of old takes.page) takes.row n taken takes.takes,
            bounds_all old takes.page [] takes.there,
          ))
      | inr other ↦ rw (get_or-set_other old takes.page page takes.row [] other) (bounds_all old page [] inside)
    ]))
