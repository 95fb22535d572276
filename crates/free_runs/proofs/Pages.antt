-- The rows of all pages: when the page of one changes, and when no page has a run of n words.
use Rattle.std.proofs.Common.{◌≡◌, inl, inr, ℕ, ◌+◌, ◌*◌, ◌<◌, ◌≤◌, ◌^◌, List, [], ◌∷◌, ◌++◌, length, set}
use Rattle.std.proofs.Common.{All, subst, arith}
use Rattle.std.proofs.Common.{Option, Some, None, MatchOption}
use Rattle.std.proofs.lemmas.Bool.{cases_eq, cases_lt}
use Rattle.std.proofs.lemmas.List.{get_or-set_same, get_or-set_other, get_or_default, length-set}
use Rattle.std.proofs.lemmas.List.FromFn.{length-map-range_with_len, map-range_with_len_more, get_or-map-range_with_len}
use Rattle.page_space.specs.declared.run.Run.{Run}
use Rattle.page_space.specs.Sizes.{page_words, pages_most}
use Rattle.free_runs.specs.FreeRuns.{IsRowOf, AreFree, FitsNowhere, TakesFrom, row_of, whole_row, whole_rows}
use Rattle.free_runs.specs.Standing.{FitsIn, FitsInNone}
use Rattle.free_runs.proofs.Ascents.{taken_ascends, ends_within}
use Rattle.free_runs.proofs.Bounds.{all_fewer, each_fewer}

-- the rows are those of their pages when a page gets another row
pub page_put : (rows : List (List Run)) (page : ℕ) (row : List Run) → AreFree rows → page < length rows
    → IsRowOf page row → AreFree (set rows page row)
page_put rows page row free there is other below =
    elim (cases_eq other page) [
      | inl same ↦ rw (same, get_or-set_same rows page row [] there) is
      | inr differs ↦ rw (get_or-set_other rows page other row [] differs)
          (free other (omega (arith, below, length-set rows page row)))
    ]

-- the row of a page stays one when the first words of a run are taken
pub row_taken : (page n : ℕ) (old new : List Run) (taken : Run) → IsRowOf page old → 1 ≤ n → TakesFrom old new n taken
    → IsRowOf page new
row_taken page n old new taken is some takes =
    rw takes.left
    (taken_ascends (page_words * page) (page_words * (page + 1)) n takes.before takes.run takes.behind some takes.enough
    (subst (IsRowOf page) takes.stood is))

-- the addresses of a page fit 32 bits
pub ends_fit : (page : ℕ) (row : List Run) → page < pages_most → IsRowOf page row
    → All (λ run. run.at + run.words < 2 ^ 32) row
ends_fit page row below is place d there =
    omega (arith, ends_within (page_words * page) (page_words * (page + 1)) row place d is there)

-- where no page has a run of n words, n words fit nowhere
pub fits_nowhere : (rows : List (List Run)) (n : ℕ) → FitsInNone rows n 0 (length rows) → FitsNowhere rows n
fits_nowhere rows n none page d there =
    rw (get_or_default rows page d [] there) (each_fewer (row_of rows page) n (none page (omega arith) there))

-- where no page from the cursor on has a run of n words, one before it has, or there is none
pub else_before : (rows : List (List Run)) (n cursor : ℕ) (found : Option ℕ) → FitsInNone rows n cursor (length rows)
    → MatchOption found (FitsInNone rows n 0 cursor) (λ page. FitsIn rows n page)
    → MatchOption found (FitsNowhere rows n) (λ page. FitsIn rows n page)
else_before rows n cursor None behind before =
    fits_nowhere rows n
    (λ page from below. elim (cases_lt page cursor) [
      | inl sooner ↦ before page from sooner
      | inr later ↦ behind page later below
    ])
else_before rows n cursor (Some page) behind before = before

-- where n words fit nowhere, no page has a run of so many
pub fits_in_none : (rows : List (List Run)) (n page : ℕ) → 1 ≤ n → FitsNowhere rows n → FitsIn rows n page → ⊥
fits_in_none rows n page some nowhere fits =
    omega (arith, fits.enough, all_fewer (row_of rows page) n some (nowhere page [] fits.there))

-- so many pages are so many rows
pub whole_count : (pages : ℕ) → length (whole_rows pages) ≡ pages
whole_count pages = length-map-range_with_len whole_row 0 pages

-- one page more is one run
pub whole_more : (page : ℕ) → whole_rows (page + 1) ≡ whole_rows page ++ whole_row page ∷ []
whole_more page = map-range_with_len_more whole_row 0 page page (omega arith)

-- a page that is one run has a row of its own
pub whole_is : (page : ℕ) → IsRowOf page (whole_row page)
whole_is page = (record { from = omega arith; some = omega arith; below = omega arith }, tt)

-- pages that are one run each have rows of their own
pub whole_free : (pages : ℕ) → AreFree (whole_rows pages)
whole_free pages page below =
    rw (get_or-map-range_with_len whole_row 0 pages page page []
    (omega (arith, below, whole_count pages)) (omega arith)) (whole_is page)
