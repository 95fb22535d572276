-- The free runs of pages are the gaps that begin there: at first there are none, and a gap more is a run more.
use Rattle.std.proofs.Common.{◌≡◌, ◌≢◌, ℕ, ◌≤◌, ◌<◌, inl, inr, List, [], ◌∷◌, ◌++◌, Contains, length}
use Rattle.std.proofs.Common.{set, refl, sym, ◌∙◌, ap, subst, arith}
use Rattle.std.proofs.lemmas.Bool.{cases_eq}
use Rattle.std.proofs.lemmas.List.{get_or-set_same, get_or-set_other, length-set}
use Rattle.std.proofs.lemmas.List.Elements.{Contains-append_left, Contains-append_right, Contains-append_cases}
use Rattle.tagged_word.proofs.Members.{first_in, rest_in, one_in, in_cases}
use Rattle.free_runs.specs.FreeRuns.{row_of}
use Rattle.heap_model.specs.Types.{Run}
use Rattle.heap_model.specs.Changes.{Patch}
use Rattle.heap_model.proofs.BoundHeaps.{none_in}
use Rattle.sweeper.specs.Sweeping.{AreRunsOf, IsRunOfGap, page_of, run_between}

-- where no page has a run, there is no gap
pub no_runs : (pages : ℕ) (rows : List (List Run)) → length rows ≡ pages → ((page : ℕ) → row_of rows page ≡ [])
    → AreRunsOf [] pages rows
no_runs pages rows count none = record {
  count = count;
  of_gap = λ page run there.
      absurd (none_in run (subst (λ (row : List Run). Contains row run) (none page) there));
  each = λ gap there. absurd (none_in gap there);
}

-- the run of one of some gaps is one of more
run_of_more : {gaps : List Patch} {page : ℕ} {run : Run} (gap : Patch) → IsRunOfGap gaps page run
    → IsRunOfGap (gap ∷ gaps) page run
run_of_more {gaps} gap is = record {
  gap = is.gap;
  among = rest_in gap gaps is.gap is.among;
  is = is.is;
  in_page = is.in_page;
}

-- a gap that is not a page's is no run
pub gap_elsewhere : {gaps : List Patch} {pages : ℕ} {rows : List (List Run)} (gap : Patch) → AreRunsOf gaps pages rows
    → pages ≤ page_of gap.from → AreRunsOf (gap ∷ gaps) pages rows
gap_elsewhere {gaps} gap runs beyond = record {
  count = runs.count;
  of_gap = λ page run there. run_of_more gap (runs.of_gap page run there);
  each = λ one there below. elim (in_cases gap gaps one there) [
    | inl same ↦ absurd (omega (arith, below, beyond, ap (λ (patch : Patch). page_of patch.from) same))
    | inr later ↦ runs.each one later below
  ];
}

module _ {gaps : List Patch} {pages : ℕ} {rows : List (List Run)} (gap : Patch) (runs : AreRunsOf gaps pages rows)
    (below : page_of gap.from < pages) where
  -- its page
  abbrev its_page : ℕ
  its_page = page_of gap.from

  -- its run
  abbrev its_run : Run
  its_run = run_between gap.from gap.to

  -- the runs of its page, with its own as the last
  abbrev its_row : List Run
  its_row = row_of rows its_page ++ its_run ∷ []

  -- the runs of all pages then
  abbrev pub rows_with : List (List Run)
  rows_with = set rows its_page its_row

  -- its page has that row
  here : row_of rows_with its_page ≡ its_row
  here = get_or-set_same rows its_page its_row [] (omega (arith, below, runs.count))

  -- any other page has the row that it had
  elsewhere : (page : ℕ) → page ≢ its_page → row_of rows_with page ≡ row_of rows page
  elsewhere page other = get_or-set_other rows its_page page its_row [] other

  -- a run that was there is there
  run_stays : (page : ℕ) (run : Run) → Contains (row_of rows page) run → Contains (row_of rows_with page) run
  run_stays page run there = elim (cases_eq page its_page) [
    | inl same ↦
        let stood : Contains (row_of rows its_page) run =
        subst (λ (one : ℕ). Contains (row_of rows one) run) same there in
        subst (λ (one : ℕ). Contains (row_of rows_with one) run) (sym same)
        (subst (λ (row : List Run). Contains row run) (sym here)
        (Contains-append_left (row_of rows its_page) (its_run ∷ []) run stood))
    | inr other ↦ subst (λ (row : List Run). Contains row run) (sym (elsewhere page other)) there
  ]

  -- its own is
  run_is_there : Contains (row_of rows_with its_page) its_run
  run_is_there =
      subst (λ (row : List Run). Contains row its_run) (sym here)
      (Contains-append_right (row_of rows its_page) (its_run ∷ []) its_run (first_in its_run []))

  -- a run of its page is its own, or was there
  run_from : (run : Run) → Contains its_row run → IsRunOfGap (gap ∷ gaps) its_page run
  run_from run there = elim (Contains-append_cases (row_of rows its_page) (its_run ∷ []) run there) [
    | inl stood ↦ run_of_more gap (runs.of_gap its_page run stood)
    | inr last ↦ record {
      gap = gap;
      among = first_in gap gaps;
      is = sym (one_in its_run run last);
      in_page = refl;
    }
  ]

  -- so the runs are those of one gap more
  pub runs_with_gap : AreRunsOf (gap ∷ gaps) pages rows_with
  runs_with_gap = record {
    count = length-set rows its_page its_row ∙ runs.count;
    of_gap = λ page run there. elim (cases_eq page its_page) [
      | inl same ↦
          let in_its : Contains (row_of rows_with its_page) run =
          subst (λ (one : ℕ). Contains (row_of rows_with one) run) same there in
          subst (λ (one : ℕ). IsRunOfGap (gap ∷ gaps) one run) (sym same)
          (run_from run (subst (λ (row : List Run). Contains row run) here in_its))
      | inr other ↦
          run_of_more gap (runs.of_gap page run
          (subst (λ (row : List Run). Contains row run) (elsewhere page other) there))
    ];
    each = λ one there within. elim (in_cases gap gaps one there) [
      | inl same ↦
          subst (λ (patch : Patch). Contains (row_of rows_with (page_of patch.from)) (run_between patch.from patch.to))
          same run_is_there
      | inr later ↦ run_stays (page_of one.from) (run_between one.from one.to) (runs.each one later within)
    ];
  }
