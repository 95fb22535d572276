-- Where words that stand one behind another in a page are all free, one run has them.
use Rattle.std.proofs.Common.{◌≡◌, ℕ, ◌+◌, ◌*◌, ◌<◌, ◌≤◌, inl, inr, List, [], ◌∷◌}
use Rattle.std.proofs.Common.{Contains, sym, subst, arith}
use Rattle.std.proofs.lemmas.Bool.{cases_lt}
use Rattle.std.proofs.lemmas.List.Elements.{All-contains}
use Rattle.tagged_word.proofs.Members.{first_in, rest_in, in_cases}
use Rattle.page_space.specs.declared.run.Run.{Run}
use Rattle.page_space.specs.Sizes.{page_words}
use Rattle.free_runs.specs.FreeRuns.{AscendIn, AreFree, AreShort, FitsNowhere, row_of}
use Rattle.free_runs.specs.Laws.{IsOfRun, IsFreeIn, IsFreeWord}
use Rattle.free_runs.proofs.PageRows.{run_lies, page_there, run_of_page}

-- one of the runs has so many words
pub record HasRunOf (runs : List Run) (n : ℕ) : Type 0 where
  pub run : Run
  pub among : Contains runs run
  pub enough : n ≤ run.words

-- a word of runs that stands before the end of the first is one of the first
in_first : (start end : ℕ) (run : Run) (more : List Run) (at : ℕ) → AscendIn start end (run ∷ more)
    → IsFreeIn (run ∷ more) at → at < run.at + run.words + 1 → IsOfRun run at
in_first start end run more at ascend free below =
    elim (in_cases run more free.run free.among) [
      | inl same ↦ subst (λ (one : Run). IsOfRun one at) (sym same) free.of_run
      | inr later ↦
          let lies = run_lies (run.at + run.words + 1) end more free.run ascend.1 later in
          absurd (omega (arith, below, lies.from, free.of_run.from))
    ]

-- and one that stands behind its end is one of the others
in_more : (run : Run) (more : List Run) (at : ℕ) → IsFreeIn (run ∷ more) at → run.at + run.words ≤ at
    → IsFreeIn more at
in_more run more at free behind =
    elim (in_cases run more free.run free.among) [
      | inl same ↦
          let of_run : IsOfRun run at = subst (λ (one : Run). IsOfRun one at) (sym same) free.of_run in
          absurd (omega (arith, behind, of_run.below))
      | inr later ↦ record { run = free.run; among = later; of_run = free.of_run }
    ]

-- words that stand one behind another are of one of the runs
pub one_run : (start end : ℕ) (runs : List Run) (first n : ℕ) → AscendIn start end runs → 1 ≤ n
    → ((at : ℕ) → first ≤ at → at < first + n → IsFreeIn runs at) → HasRunOf runs n
one_run start end [] first n ascend some free =
    absurd (omega (arith, (free first (omega arith) (omega (arith, some))).among.1))
one_run start end (run ∷ more) first n ascend some free =
    elim (cases_lt first (run.at + run.words)) [
      | inl before ↦
          let begins = in_first start end run more first ascend (free first (omega arith) (omega (arith, some)))
          (omega (arith, before)) in
          elim (cases_lt (run.at + run.words) (first + n)) [
            | inl past ↦
                let end_word : ℕ = run.at + run.words in
                let of_run = in_first start end run more end_word ascend
                (free end_word (omega (arith, before)) past) (omega arith) in
                absurd (omega (arith, of_run.below))
            | inr within ↦ record {
              run = run;
              among = first_in run more;
              enough = omega (arith, within, begins.from);
            }
          ]
      | inr behind ↦
          let later = one_run (run.at + run.words + 1) end more first n ascend.1 some
          (λ at from below. in_more run more at (free at from below) (omega (arith, behind, from))) in
          record { run = later.run; among = rest_in run more later.run later.among; enough = later.enough }
    ]

-- a free word of a page is in a run of that page
pub free_in_page : (rows : List (List Run)) (page at : ℕ) → AreFree rows → page_words * page ≤ at
    → at < page_words * (page + 1) → IsFreeWord rows at → IsFreeIn (row_of rows page) at
free_in_page rows page at free from below word =
    let lies = run_of_page rows word.page word.free.run free word.free.among in
    let same : word.page ≡ page =
    omega (arith, from, below, lies.from, lies.below, word.free.of_run.from, word.free.of_run.below) in
    subst (λ one. IsFreeIn (row_of rows one) at) same word.free

-- so words that stand one behind another in a page are of one of its runs
pub page_run : (rows : List (List Run)) (page first n : ℕ) → AreFree rows → 1 ≤ n → page_words * page ≤ first
    → first + n ≤ page_words * (page + 1)
    → ((at : ℕ) → first ≤ at → at < first + n → IsFreeWord rows at) → HasRunOf (row_of rows page) n
page_run rows page first n free some from below words =
    let each : (at : ℕ) → first ≤ at → at < first + n → IsFreeIn (row_of rows page) at =
    λ at above within.
    free_in_page rows page at free (omega (arith, from, above)) (omega (arith, below, within))
    (words at above within) in
    let one = each first (omega arith) (omega (arith, some)) in
    one_run (page_words * page) (page_words * (page + 1)) (row_of rows page) first n
    (free page (page_there rows page one.run one.among)) some each

-- no run has so many words where they fit nowhere
pub none_has : (rows : List (List Run)) (page n : ℕ) → FitsNowhere rows n → HasRunOf (row_of rows page) n → ⊥
none_has rows page n nowhere has =
    let within = page_there rows page has.run has.among in
    let short : AreShort (row_of rows page) n = nowhere page [] within in
    let fewer = All-contains (λ (run : Run). run.words < n) (row_of rows page) has.run short has.among in
    omega (arith, fewer, has.enough)
