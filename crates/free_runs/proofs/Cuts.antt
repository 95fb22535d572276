-- The front of a run is taken: of the whole run, and of more.
use Rattle.std.proofs.Common.{◌≡◌, ◌≢◌, ℕ, suc, ◌+◌, ◌-◌, ◌<◌, ◌≤◌, ◌⊎◌, inl, inr, List, [], ◌∷◌, ◌++◌, length}
use Rattle.std.proofs.Common.{get_or, take, drop, set, refl, ap, sym, ◌∙◌, subst, arith}
use Rattle.std.proofs.lemmas.Bool.{cases_eq}
use Rattle.std.proofs.lemmas.Bool.Decides.{nat_tests}
use Rattle.std.proofs.lemmas.List.{drop_more, take-append-drop, set_split}
use Rattle.page_space.specs.declared.run.Run.{Run}
use Rattle.free_runs.specs.FreeRuns.{left_of, longest_in, TakesFrom}
use Rattle.free_runs.specs.Standing.{StandsAt}
use Rattle.free_runs.proofs.Bounds.{longest_joined}

-- nothing is left of a run of n words, and the words behind them of a longer one
abbrev pub Left : Run → ℕ → List Run → Type 0
Left run n left =
    ((run.words ≡ n) × (left ≡ []))
    ⊎ ((n < run.words) × (left ≡ record { at = run.at + n; words = run.words - n } ∷ []))

-- nothing is left of a run of n words
left_whole : (run : Run) (n : ℕ) → run.words ≡ n → left_of run n ≡ []
left_whole run n whole = grind (arith, nat_tests, whole)

-- the words behind the first n are left of a longer run
left_longer : (run : Run) (n : ℕ) → run.words ≢ n
    → left_of run n ≡ record { at = run.at + n; words = run.words - n } ∷ []
left_longer run n longer = grind (arith, nat_tests, longer)

-- which of both it is
pub left_is : (run : Run) (n : ℕ) → n ≤ run.words → Left run n (left_of run n)
left_is run n enough =
    elim (cases_eq run.words n) [
      | inl whole ↦ inl (whole, left_whole run n whole)
      | inr longer ↦ inr (omega (arith, enough, longer), left_longer run n longer)
    ]

-- the runs before a place, the one there, and those behind it
split_at : (runs : List Run) (place : ℕ) (run : Run) → place < length runs → run ≡ get_or runs place run
    → runs ≡ take place runs ++ run ∷ drop (place + 1) runs
split_at runs place run below read =
    sym (take-append-drop place runs)
    ∙ ap (λ behind. take place runs ++ behind) (drop_more runs place run below)
    ∙ ap (λ here. take place runs ++ here ∷ drop (place + 1) runs) (sym read)

-- a run of n words goes where it is taken whole
pub taken_whole : (runs : List Run) (n place : ℕ) (run : Run) → StandsAt runs n place → run ≡ get_or runs place run
    → run.words ≡ n
    → TakesFrom runs (take place runs ++ drop (place + 1) runs) n (record { at = run.at; words = n })
taken_whole runs n place run stands read whole = record {
  before = take place runs;
  run = run;
  behind = drop (place + 1) runs;
  stood = split_at runs place run stands.there read;
  enough = omega (arith, whole);
  front = refl;
  left = rw (left_whole run n whole) refl;
}

-- the words behind the first n stay in the place of a longer run
pub taken_front : (runs : List Run) (n place : ℕ) (run : Run) → StandsAt runs n place → run ≡ get_or runs place run
    → run.words ≢ n
    → TakesFrom runs (set runs place (record { at = run.at + n; words = run.words - n })) n
    (record { at = run.at; words = n })
taken_front runs n place run stands read longer = record {
  before = take place runs;
  run = run;
  behind = drop (place + 1) runs;
  stood = split_at runs place run stands.there read;
  enough = subst (λ (here : Run). n ≤ here.words) (sym read) (stands.enough run);
  front = refl;
  left =
      let next : suc place ≡ place + 1 = omega arith in
      set_split runs place (record { at = run.at + n; words = run.words - n }) stands.there
      ∙ ap (λ k. take place runs ++ record { at = run.at + n; words = run.words - n } ∷ drop k runs) next
      ∙ ap (λ left. take place runs ++ (left ++ drop (place + 1) runs)) (sym (left_longer run n longer));
}

-- what is left of a run is no longer
left_shorter : (run : Run) (n : ℕ) (left : List Run) → Left run n left → longest_in left ≤ run.words
left_shorter run n left is =
    elim is [
      | inl (whole, none) ↦ rw none (omega arith)
      | inr (longer, some) ↦ rw some (omega arith)
    ]

-- where words of a shorter run are taken, the longest stays
longest_stays : {old new : List Run} {n : ℕ} {taken : Run} → (takes : TakesFrom old new n taken)
    → takes.run.words < longest_in old → longest_in new ≡ longest_in old
longest_stays {n = n} takes shorter =
    let left = left_of takes.run n in
    let was = ap longest_in takes.stood ∙ longest_joined takes.before (takes.run ∷ takes.behind) in
    let is = ap longest_in takes.left ∙ longest_joined takes.before (left ++ takes.behind) in
    let less = left_shorter takes.run n left (left_is takes.run n takes.enough) in
    omega (arith, was, is, longest_joined left takes.behind, less, shorter)

-- so it is where it is taken whole
pub whole_keeps_longest : (runs : List Run) (n place : ℕ) (run : Run) → StandsAt runs n place
    → run ≡ get_or runs place run → run.words ≡ n → run.words < longest_in runs
    → longest_in (take place runs ++ drop (place + 1) runs) ≡ longest_in runs
unfolding taken_whole
whole_keeps_longest runs n place run stands read whole shorter =
    longest_stays (taken_whole runs n place run stands read whole) shorter

-- and where the words behind it stay
pub front_keeps_longest : (runs : List Run) (n place : ℕ) (run : Run) → StandsAt runs n place
    → run ≡ get_or runs place run → run.words ≢ n → run.words < longest_in runs
    → longest_in (set runs place (record { at = run.at + n; words = run.words - n })) ≡ longest_in runs
unfolding taken_front
front_keeps_longest runs n place run stands read more shorter =
    longest_stays (taken_front runs n place run stands read more) shorter
