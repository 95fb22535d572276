-- Where the runs of a page lie, and that two of them neither share a word nor touch.
use Rattle.std.proofs.Common.{◌≡◌, ℕ, ◌+◌, ◌*◌, ◌<◌, inl, inr, List, [], ◌∷◌, length, Contains, sym, ◌∙◌, ap, subst}
use Rattle.std.proofs.Common.{arith}
use Rattle.std.proofs.lemmas.Bool.{cases_lt}
use Rattle.std.proofs.lemmas.List.{get_or_past}
use Rattle.tagged_word.proofs.Members.{in_cases}
use Rattle.page_space.specs.declared.run.Run.{Run}
use Rattle.page_space.specs.Sizes.{page_words}
use Rattle.free_runs.specs.FreeRuns.{LiesIn, AscendIn, AreFree, row_of}
use Rattle.free_runs.specs.Laws.{IsOfRun}

-- each run of a row lies where the row does
pub run_lies : (start end : ℕ) (runs : List Run) (run : Run) → AscendIn start end runs → Contains runs run
    → LiesIn start end run
run_lies start end [] run ascend there = absurd (omega (arith, there.1))
run_lies start end (first ∷ more) run ascend there =
    elim (in_cases first more run there) [
      | inl same ↦ subst (LiesIn start end) same ascend.0
      | inr later ↦
          let lies = run_lies (first.at + first.words + 1) end more run ascend.1 later in
          record { from = omega (arith, ascend.0.from, lies.from); some = lies.some; below = lies.below }
    ]

-- two runs of a row that share a word are one
pub one_in_row : (start end at : ℕ) (runs : List Run) (run other : Run) → AscendIn start end runs → Contains runs run
    → Contains runs other → IsOfRun run at → IsOfRun other at → run ≡ other
one_in_row start end at [] run other ascend there there_too of_run of_other = absurd (omega (arith, there.1))
one_in_row start end at (first ∷ more) run other ascend there there_too of_run of_other =
    let behind = first.at + first.words + 1 in
    elim (in_cases first more run there) [
      | inl same ↦ elim (in_cases first more other there_too) [
        | inl same_too ↦ sym same ∙ same_too
        | inr later ↦
            let lies = run_lies behind end more other ascend.1 later in
            let of_first : IsOfRun first at = subst (λ (one : Run). IsOfRun one at) (sym same) of_run in
            absurd (omega (arith, lies.from, of_first.below, of_other.from))
      ]
      | inr later ↦ elim (in_cases first more other there_too) [
        | inl same_too ↦
            let lies = run_lies behind end more run ascend.1 later in
            let of_first : IsOfRun first at = subst (λ (one : Run). IsOfRun one at) (sym same_too) of_other in
            absurd (omega (arith, lies.from, of_first.below, of_run.from))
        | inr later_too ↦ one_in_row behind end at more run other ascend.1 later later_too of_run of_other
      ]
    ]

-- the word behind a run of a row is in no run of the row
pub none_behind : (start end : ℕ) (runs : List Run) (run other : Run) → AscendIn start end runs → Contains runs run
    → Contains runs other → IsOfRun other (run.at + run.words) → ⊥
none_behind start end [] run other ascend there there_too of_other = omega (arith, there.1)
none_behind start end (first ∷ more) run other ascend there there_too of_other =
    let behind = first.at + first.words + 1 in
    elim (in_cases first more run there) [
      | inl is ↦
          let ends : first.at + first.words ≡ run.at + run.words = ap (λ (one : Run). one.at + one.words) is in
          elim (in_cases first more other there_too) [
            | inl is_too ↦
                let ends_too : first.at + first.words ≡ other.at + other.words =
                ap (λ (one : Run). one.at + one.words) is_too in
                omega (arith, ends, ends_too, of_other.below)
            | inr later ↦
                let lies = run_lies behind end more other ascend.1 later in
                omega (arith, ends, lies.from, of_other.from)
          ]
      | inr later ↦ elim (in_cases first more other there_too) [
        | inl is_too ↦
            let ends_too : first.at + first.words ≡ other.at + other.words =
            ap (λ (one : Run). one.at + one.words) is_too in
            let lies = run_lies behind end more run ascend.1 later in
            omega (arith, ends_too, lies.from, of_other.below)
        | inr later_too ↦ none_behind behind end more run other ascend.1 later later_too of_other
      ]
    ]

-- a page that has a run is there
pub page_there : (rows : List (List Run)) (page : ℕ) (run : Run) → Contains (row_of rows page) run → page < length rows
page_there rows page run there =
    elim (cases_lt page (length rows)) [
      | inl within ↦ within
      | inr past ↦ absurd (omega (arith, there.1, ap length (get_or_past rows page [] past)))
    ]

-- the runs of the page lie in it
pub run_of_page : (rows : List (List Run)) (page : ℕ) (run : Run) → AreFree rows → Contains (row_of rows page) run
    → LiesIn (page_words * page) (page_words * (page + 1)) run
run_of_page rows page run free there =
    run_lies (page_words * page) (page_words * (page + 1)) (row_of rows page) run
    (free page (page_there rows page run there)) there
