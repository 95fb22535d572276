-- The runs of words that no live cell has: for each page its runs, in the order of their addresses.
use Rattle.std.specs.Prelude.{◌≡◌, ℕ, ◌+◌, ◌-◌, ◌*◌, ◌<◌, ◌≤◌, max, List, [], ◌∷◌, ◌++◌, length, get_or, set, map, All}
use Rattle.std.specs.Prelude.{if◌then◌else◌, ◌==◌}
use Rattle.std.specs.List.{range_with_len}
use Rattle.page_space.specs.declared.run.Run.{Run}
use Rattle.page_space.specs.Sizes.{page_words}

-- the most runs of a page: each has a word, and a word that is not free stands between two
abbrev pub runs_most : ℕ
runs_most = 1024

-- the run begins at the start or behind it, has at least one word, and ends at the end or before it
pub record LiesIn (start end : ℕ) (run : Run) : Type 0 where
  pub from : start ≤ run.at
  pub some : 1 ≤ run.words
  pub below : run.at + run.words ≤ end

-- each run lies between start and end, and each begins behind the end of the one before with a word between them
abbrev pub AscendIn : ℕ → ℕ → List Run → Type 0
AscendIn start end [] = Unit {0}
AscendIn start end (run ∷ more) = LiesIn start end run × AscendIn (run.at + run.words + 1) end more

-- the runs lie in the page, have at least one word each, ascend, and neither overlap nor touch
abbrev pub IsRowOf : ℕ → List Run → Type 0
IsRowOf page runs = AscendIn (page_words * page) (page_words * (page + 1)) runs

-- each of these runs ends before the run begins, with a word between them
abbrev pub IsBehind : List Run → Run → Type 0
IsBehind runs run = All (λ one. one.at + one.words < run.at) runs

-- the runs of a page
abbrev pub row_of : List (List Run) → ℕ → List Run
row_of rows page = get_or rows page []

-- each page has runs of its own words
abbrev pub AreFree : List (List Run) → Type 0
AreFree rows = (page : ℕ) → page < length rows → IsRowOf page (row_of rows page)

-- the page is one run
abbrev pub whole_row : ℕ → List Run
whole_row page = record { at = page_words * page; words = page_words } ∷ []

-- so many pages, each of which is one run
abbrev pub whole_rows : ℕ → List (List Run)
whole_rows pages = map whole_row (range_with_len 0 pages)

-- the words of the longest of the runs, 0 where there is none
abbrev pub longest_in : List Run → ℕ
longest_in [] = 0
longest_in (run ∷ more) = max run.words (longest_in more)

-- the words of the longest run of all pages, 0 where there is none
abbrev pub longest_of : List (List Run) → ℕ
longest_of [] = 0
longest_of (row ∷ more) = max (longest_in row) (longest_of more)

-- each of the runs has fewer words
abbrev pub AreShort : List Run → ℕ → Type 0
AreShort runs n = All (λ run. run.words < n) runs

-- each run of all pages has fewer words
abbrev pub FitsNowhere : List (List Run) → ℕ → Type 0
FitsNowhere rows n = All (λ row. AreShort row n) rows

-- what is left of a run whose first words are taken: the words behind them, and no run where there are none
abbrev pub left_of : Run → ℕ → List Run
left_of run n = if run.words == n then [] else record { at = run.at + n; words = run.words - n } ∷ []

-- The first n words of a run are taken, which has at least so many. What is left of it stays in its place, and the
-- other runs of the row stay.
pub record TakesFrom (old new : List Run) (n : ℕ) (taken : Run) : Type 0 where
  pub before : List Run
  pub run : Run
  pub behind : List Run
  pub stood : old ≡ before ++ run ∷ behind
  pub enough : n ≤ run.words
  pub front : taken ≡ record { at = run.at; words = n }
  pub left : new ≡ before ++ (left_of run n ++ behind)

-- the first n words of a run of one page are taken, and the other pages keep their runs
pub record TakesFront (old new : List (List Run)) (n : ℕ) (taken : Run) : Type 0 where
  pub page : ℕ
  pub row : List Run
  pub there : page < length old
  pub takes : TakesFrom (row_of old page) row n taken
  pub others : new ≡ set old page row
