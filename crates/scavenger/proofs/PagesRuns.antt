-- The free runs of all pages: each lies in its page, two that share a word are one, and what a take leaves of them.
use Rattle.std.proofs.Common.{◌≡◌, ◌≢◌, ℕ, ◌+◌, ◌-◌, ◌*◌, ◌<◌, ◌≤◌, ◌⊎◌, inl, inr}
use Rattle.std.proofs.Common.{List, [], ◌∷◌, ◌++◌, length, Contains}
use Rattle.std.proofs.Common.{sym, ◌∙◌, ap, subst, arith}
use Rattle.std.proofs.lemmas.Bool.{cases_eq}
use Rattle.std.proofs.lemmas.List.{get_or-set_same, get_or-set_other, get_or_default, length-set}
use Rattle.std.proofs.lemmas.List.Elements.{Contains-append_left, Contains-append_right, Contains-append_cases}
use Rattle.tagged_word.proofs.Members.{first_in, one_in, in_cases}
use Rattle.page_space.specs.Sizes.{page_words}
use Rattle.cell_layout.proofs.OneCell.{cells_have_words}
use Rattle.free_runs.specs.FreeRuns.{AreFree, TakesFront, row_of, left_of}
use Rattle.free_runs.specs.Laws.{IsOfRun, IsFreeWord}
use Rattle.free_runs.proofs.Cuts.{left_is}
use Rattle.free_runs.proofs.PageRows.{run_lies, one_in_row, page_there}
use Rattle.free_runs.proofs.Pages.{page_put, row_taken}
use Rattle.free_runs.proofs.TakenWords.{taken_are_apart}
use Rattle.heap_model.specs.Types.{Run}
use Rattle.scav_copy.proofs.Spots.{none_in}
use Rattle.scavenger.specs.Starts.{IsFreeRun}
use Rattle.scavenger.specs.Paging.{FreeIsLeft}

-- The run is one of a page's, and lies in that page.
pub record IsRunIn (rows : List (List Run)) (run : Run) : Type 0 where
  pub page : ℕ
  pub there : page < length rows
  pub among : Contains (row_of rows page) run
  pub from : page_words * page ≤ run.at
  pub some : 1 ≤ run.words
  pub below : run.at + run.words ≤ page_words * page + page_words

-- so is each run
pub run_in : (rows : List (List Run)) (run : Run) → AreFree rows → IsFreeRun rows run → IsRunIn rows run
run_in rows run free is =
    let page : ℕ = is.of_rows.0 in
    let there : page < length rows = is.of_rows.1 in
    let same : row_of rows page ≡ is.row = get_or_default rows page [] is.row there ∙ is.of_rows.2 in
    let among : Contains (row_of rows page) run = subst (λ (row : List Run). Contains row run) (sym same) is.among in
    let lies = run_lies (page_words * page) (page_words * (page + 1)) (row_of rows page) run (free page there) among
    in
    record {
      page = page;
      there = there;
      among = among;
      from = lies.from;
      some = lies.some;
      below = omega (arith, lies.below);
    }

-- a run of the row of a page is one of all
pub run_of : (rows : List (List Run)) (page : ℕ) (run : Run) → page < length rows → Contains (row_of rows page) run
    → IsFreeRun rows run
run_of rows page run there among = record {
  row = row_of rows page;
  of_rows = (page, there, get_or_default rows page (row_of rows page) [] there);
  among = among;
}

-- each word of a run is free
pub word_of_run : (rows : List (List Run)) (run : Run) (at : ℕ) → AreFree rows → IsFreeRun rows run → IsOfRun run at
    → IsFreeWord rows at
word_of_run rows run at free is of_run =
    let one = run_in rows run free is in
    record { page = one.page; free = record { run = run; among = one.among; of_run = of_run } }

-- the first one is
pub first_of_run : (rows : List (List Run)) (run : Run) → AreFree rows → IsFreeRun rows run → IsFreeWord rows run.at
first_of_run rows run free is =
    let one = run_in rows run free is in
    word_of_run rows run run.at free is (record { from = omega arith; below = omega (arith, one.some) })

-- the run that a free word is of
pub record HasRun (rows : List (List Run)) (at : ℕ) : Type 0 where
  pub run : Run
  pub is : IsFreeRun rows run
  pub of_run : IsOfRun run at

-- each free word is one of a run
pub run_of_word : (rows : List (List Run)) (at : ℕ) → IsFreeWord rows at → HasRun rows at
run_of_word rows at is = record {
  run = is.free.run;
  is = run_of rows is.page is.free.run (page_there rows is.page is.free.run is.free.among) is.free.among;
  of_run = is.free.of_run;
}

-- two runs that share a word are one
pub one_run : (rows : List (List Run)) (run other : Run) (at : ℕ) → AreFree rows → IsFreeRun rows run
    → IsFreeRun rows other → IsOfRun run at → IsOfRun other at → run ≡ other
one_run rows run other at free is is_other of_run of_other =
    let one = run_in rows run free is in
    let two = run_in rows other free is_other in
    let pages : one.page ≡ two.page = omega (
      arith,
      one.from,
      one.below,
      two.from,
      two.below,
      of_run.from,
      of_run.below,
      of_other.from,
      of_other.below,
    ) in
    let among : Contains (row_of rows one.page) other =
    subst (λ (page : ℕ). Contains (row_of rows page) other) (sym pages) two.among in
    one_in_row (page_words * one.page) (page_words * (one.page + 1)) at (row_of rows one.page) run other
    (free one.page one.there) one.among among of_run of_other

-- so are two that begin at one address
pub one_run_at : (rows : List (List Run)) (run other : Run) → AreFree rows → IsFreeRun rows run → IsFreeRun rows other
    → run.at ≡ other.at → run ≡ other
one_run_at rows run other free is is_other same =
    let one = run_in rows run free is in
    let two = run_in rows other free is_other in
    one_run rows run other run.at free is is_other (record { from = omega arith; below = omega (arith, one.some) })
    (record { from = omega (arith, same); below = omega (arith, same, two.some) })

module _ {rows left : List (List Run)} {n : ℕ} {taken : Run} (takes : TakesFront rows left n taken) where
  -- the run whose first words are taken
  abbrev pub whole : Run
  whole = takes.takes.run

  -- the row of its page afterwards
  row_after : row_of left takes.page ≡ takes.takes.before ++ (left_of whole n ++ takes.takes.behind)
  row_after =
      ap (λ (all : List (List Run)). row_of all takes.page) takes.others
      ∙ get_or-set_same rows takes.page takes.row [] takes.there ∙ takes.takes.left

  -- and of any other
  other_after : (page : ℕ) → page ≢ takes.page → row_of left page ≡ row_of rows page
  other_after page other =
      ap (λ (all : List (List Run)). row_of all page) takes.others
      ∙ get_or-set_other rows takes.page page takes.row [] other

  -- there are as many pages
  as_many : length left ≡ length rows
  as_many = ap (λ (all : List (List Run)). length all) takes.others ∙ length-set rows takes.page takes.row

  -- it is a run, and begins where what is taken does
  pub whole_is : IsFreeRun rows whole
  whole_is =
      run_of rows takes.page whole takes.there
      (subst (λ (row : List Run). Contains row whole) (sym takes.takes.stood)
      (Contains-append_right takes.takes.before (whole ∷ takes.takes.behind) whole
      (first_in whole takes.takes.behind)))

  -- what is taken begins there
  pub taken_at : taken.at ≡ whole.at
  taken_at = ap (λ (run : Run). run.at) takes.takes.front

  -- and has so many words
  pub taken_words : taken.words ≡ n
  taken_words = ap (λ (run : Run). run.words) takes.takes.front

  -- A run of before that begins elsewhere stays.
  pub others_stay : (other : Run) → IsFreeRun rows other → AreFree rows → other.at ≢ whole.at → IsFreeRun left other
  others_stay other is free apart =
      let one = run_in rows other free is in
      let there : one.page < length left = omega (arith, one.there, as_many) in
      elim (cases_eq one.page takes.page) [
        | inr differs ↦
            run_of left one.page other there
            (subst (λ (row : List Run). Contains row other) (sym (other_after one.page differs)) one.among)
        | inl same ↦
            let stood : Contains (takes.takes.before ++ whole ∷ takes.takes.behind) other =
            subst (λ (row : List Run). Contains row other) takes.takes.stood
            (subst (λ (page : ℕ). Contains (row_of rows page) other) same one.among) in
            let stays : Contains (takes.takes.before ++ (left_of whole n ++ takes.takes.behind)) other =
            elim (Contains-append_cases takes.takes.before (whole ∷ takes.takes.behind) other stood) [
              | inl before ↦
                  Contains-append_left takes.takes.before (left_of whole n ++ takes.takes.behind) other before
              | inr rest ↦ elim (in_cases whole takes.takes.behind other rest) [
                | inl here ↦ absurd (apart (ap (λ (run : Run). run.at) (sym here)))
                | inr behind ↦
                    Contains-append_right takes.takes.before (left_of whole n ++ takes.takes.behind) other
                    (Contains-append_right (left_of whole n) takes.takes.behind other behind)
              ]
            ] in
            run_of left takes.page other (omega (arith, takes.there, as_many))
            (subst (λ (row : List Run). Contains row other) (sym row_after) stays)
      ]

  -- what is left of the run, where that is something
  abbrev pub rest_of : Run
  rest_of = record { at = whole.at + n; words = whole.words - n }

  -- it is a run then
  pub rest_stays : n < whole.words → IsFreeRun left rest_of
  rest_stays more =
      elim (left_is whole n takes.takes.enough) [
        | inl none ↦ absurd (omega (arith, more, none.0))
        | inr rest ↦
            let stays : Contains (takes.takes.before ++ (left_of whole n ++ takes.takes.behind)) rest_of =
            Contains-append_right takes.takes.before (left_of whole n ++ takes.takes.behind) rest_of
            (Contains-append_left (left_of whole n) takes.takes.behind rest_of
            (subst (λ (row : List Run). Contains row rest_of) (sym rest.1) (first_in rest_of []))) in
            run_of left takes.page rest_of (omega (arith, takes.there, as_many))
            (subst (λ (row : List Run). Contains row rest_of) (sym row_after) stays)
      ]

  -- A run of afterwards was one before, or is what is left of that one.
  pub left_from : (other : Run) → IsFreeRun left other
      → IsFreeRun rows other ⊎ ((n < whole.words) × (rest_of ≡ other))
  left_from other is =
      let page : ℕ = is.of_rows.0 in
      let there : page < length left = is.of_rows.1 in
      let same : row_of left page ≡ is.row = get_or_default left page [] is.row there ∙ is.of_rows.2 in
      let among : Contains (row_of left page) other =
      subst (λ (row : List Run). Contains row other) (sym same) is.among in
      elim (cases_eq page takes.page) [
        | inr differs ↦
            inl (run_of rows page other (omega (arith, there, as_many))
            (subst (λ (row : List Run). Contains row other) (other_after page differs) among))
        | inl here ↦
            let stands : Contains (takes.takes.before ++ (left_of whole n ++ takes.takes.behind)) other =
            subst (λ (row : List Run). Contains row other) row_after
            (subst (λ (one : ℕ). Contains (row_of left one) other) here among) in
            let was : Contains (takes.takes.before ++ whole ∷ takes.takes.behind) other → IsFreeRun rows other =
            λ stood. run_of rows takes.page other takes.there
            (subst (λ (row : List Run). Contains row other) (sym takes.takes.stood) stood) in
            elim (Contains-append_cases takes.takes.before (left_of whole n ++ takes.takes.behind) other stands) [
              | inl before ↦
                  inl (was (Contains-append_left takes.takes.before (whole ∷ takes.takes.behind) other before))
              | inr then ↦ elim (Contains-append_cases (left_of whole n) takes.takes.behind other then) [
                | inl rest ↦ elim (left_is whole n takes.takes.enough) [
                  | inl none ↦ absurd (none_in other (subst (λ (row : List Run). Contains row other) none.1 rest))
                  | inr more ↦
                      inr (more.0, one_in rest_of other (subst (λ (row : List Run). Contains row other) more.1 rest))
                ]
                | inr behind ↦
                    inl (was (Contains-append_right takes.takes.before (whole ∷ takes.takes.behind) other
                    (Contains-append_right (whole ∷ []) takes.takes.behind other behind)))
              ]
            ]
      ]

  -- the runs stay rows of their pages
  pub still_free : 1 ≤ n → AreFree rows → AreFree left
  still_free some free =
      subst AreFree (sym takes.others)
      (page_put rows takes.page takes.row free takes.there
      (row_taken takes.page n (row_of rows takes.page) takes.row taken (free takes.page takes.there) some takes.takes))

  -- no run begins where the taken words do
  pub none_begins : (other : Run) → 1 ≤ n → AreFree rows → IsFreeRun left other → other.at ≢ whole.at
  none_begins other some free is same =
      taken_are_apart rows left n taken other.at free takes
      (record { from = omega (arith, same, taken_at); below = omega (arith, same, taken_at, taken_words, some) })
      (first_of_run left other (still_free some free) is)

-- Runs stay rows of their pages where the words of a cell are taken.
pub free_is_left : FreeIsLeft
free_is_left space words rows left cell run is_cell free takes =
    still_free takes (cells_have_words space words cell is_cell).0 free
