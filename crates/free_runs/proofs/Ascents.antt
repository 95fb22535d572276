-- What the order of the runs of a page comes to, and that it stays when words are taken.
use Rattle.std.proofs.Common.{inl, inr, ℕ, zero, suc, ◌+◌, ◌-◌, ◌*◌, ◌<◌, ◌≤◌, max, List, [], ◌∷◌, ◌++◌}
use Rattle.std.proofs.Common.{length, get_or, arith}
use Rattle.page_space.specs.declared.run.Run.{Run}
use Rattle.page_space.specs.Sizes.{page_words}
use Rattle.free_runs.specs.FreeRuns.{LiesIn, AscendIn, IsRowOf, IsBehind, left_of, runs_most}
use Rattle.free_runs.proofs.Cuts.{Left, left_is}

-- each run takes two words at least: its own, and the one behind it
two_words : (start end : ℕ) (runs : List Run) → AscendIn start end runs
    → start + 2 * length runs ≤ max start (end + 1)
two_words start end [] ascend = omega arith
two_words start end (run ∷ more) ascend =
    omega (arith, ascend.0.from, ascend.0.some, ascend.0.below, two_words (run.at + run.words + 1) end more ascend.1)

-- a page has no more runs than there is room for
pub row_is_few : (page : ℕ) (runs : List Run) → IsRowOf page runs → length runs ≤ runs_most
row_is_few page runs row = omega (arith, two_words (page_words * page) (page_words * (page + 1)) runs row)

-- each run ends at the end or before it
pub ends_within : (start end : ℕ) (runs : List Run) (place : ℕ) (d : Run) → AscendIn start end runs
    → place < length runs → (get_or runs place d).at + (get_or runs place d).words ≤ end
ends_within start end [] place d ascend below = absurd (omega (arith, below))
ends_within start end (run ∷ more) zero d ascend below = ascend.0.below
ends_within start end (run ∷ more) (suc place) d ascend below =
    ends_within (run.at + run.words + 1) end more place d ascend.1 (omega (arith, below))

-- runs that begin behind a place begin behind each one before it
pub from_before : (first start end : ℕ) (runs : List Run) → first ≤ start → AscendIn start end runs
    → AscendIn first end runs
from_before first start end [] before ascend = tt
from_before first start end (run ∷ more) before ascend =
    (record { from = omega (arith, before, ascend.0.from); some = ascend.0.some; below = ascend.0.below }, ascend.1)

-- what is left of the first run ascends with those behind it
left_ascends : (start end n : ℕ) (run : Run) (behind left : List Run) → 1 ≤ n → n ≤ run.words
    → LiesIn start end run → AscendIn (run.at + run.words + 1) end behind → Left run n left
    → AscendIn start end (left ++ behind)
left_ascends start end n run behind left some enough lies ascend (inl none) =
    rw none.1 (from_before start (run.at + run.words + 1) end behind (omega (arith, lies.from)) ascend)
left_ascends start end n run behind left some enough lies ascend (inr rest) =
    rw rest.1 (
      record {
        from = omega (arith, lies.from);
        some = omega (arith, rest.0);
        below = omega (arith, rest.0, lies.below);
      },
      from_before (run.at + n + (run.words - n) + 1) (run.at + run.words + 1) end behind (omega (arith, enough)) ascend,
    )

-- the runs of a page still ascend when the first words of one are taken
pub taken_ascends : (start end n : ℕ) (before : List Run) (run : Run) (behind : List Run) → 1 ≤ n → n ≤ run.words
    → AscendIn start end (before ++ run ∷ behind) → AscendIn start end (before ++ (left_of run n ++ behind))
taken_ascends start end n [] run behind some enough ascend =
    left_ascends start end n run behind (left_of run n) some enough ascend.0 ascend.1 (left_is run n enough)
taken_ascends start end n (first ∷ before) run behind some enough ascend =
    (ascend.0, taken_ascends (first.at + first.words + 1) end n before run behind some enough ascend.1)

-- the runs of a page still ascend with one more behind them
pub added_ascends : (first start end : ℕ) (runs : List Run) (run : Run) → AscendIn start end runs
    → LiesIn first end run → start ≤ run.at → IsBehind runs run → AscendIn start end (runs ++ run ∷ [])
added_ascends first start end [] run ascend lies from behind =
    (record { from = from; some = lies.some; below = lies.below }, tt)
added_ascends first start end (one ∷ more) run ascend lies from behind = (
  ascend.0,
  added_ascends first (one.at + one.words + 1) end more run ascend.1 lies (omega (arith, behind 0 one (omega arith)))
      (λ k d below. behind (suc k) d (omega (arith, below))),
)

-- so they are still the runs of that page
pub row_added : (page : ℕ) (runs : List Run) (run : Run) → IsRowOf page runs
    → LiesIn (page_words * page) (page_words * (page + 1)) run → IsBehind runs run → IsRowOf page (runs ++ run ∷ [])
row_added page runs run row lies behind =
    added_ascends (page_words * page) (page_words * page) (page_words * (page + 1)) runs run row lies lies.from behind
