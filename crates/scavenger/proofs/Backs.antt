-- Free runs that are left are the backs of those that stood, also where the front of one more is taken.
use Rattle.std.proofs.Common.{◌≡◌, ℕ, ◌+◌, ◌-◌, ◌*◌, ◌<◌, ◌≤◌, inl, inr, List, Contains, refl, ap, subst, arith}
use Rattle.page_space.specs.Sizes.{page_words}
use Rattle.free_runs.specs.FreeRuns.{AreFree, TakesFront, row_of}
use Rattle.free_runs.proofs.PageRows.{run_lies, page_there}
use Rattle.heap_model.specs.Types.{Run}
use Rattle.scavenger.specs.Starts.{IsFreeRun}
use Rattle.scavenger.specs.Backs.{AreBacks}
use Rattle.scavenger.proofs.PagesRuns.{whole, whole_is, run_in, run_of, left_from, still_free}

-- each run is the back of itself
pub backs_of_all : (rows : List (List Run)) → AreBacks rows rows
backs_of_all rows page run among = record { was = run; among = among; from = omega arith; ends = refl }

-- the back of a back is one
pub backs_again : (first rows left : List (List Run)) → AreBacks first rows → AreBacks rows left → AreBacks first left
backs_again first rows left backs more page run among =
    let one = more page run among in
    let was = backs page one.was one.among in
    record {
      was = was.was;
      among = was.among;
      from = omega (arith, was.from, one.from);
      ends = omega (arith, was.ends, one.ends);
    }

-- a free run of which a word is in a page is one of that page's
run_of_page : (rows : List (List Run)) (page at : ℕ) (run : Run) → AreFree rows → IsFreeRun rows run
    → run.at ≤ at → at < run.at + run.words → page_words * page ≤ at → at < page_words * page + page_words
    → Contains (row_of rows page) run
run_of_page rows page at run free is from below above before =
    let one = run_in rows run free is in
    let same : one.page ≡ page = omega (arith, one.from, one.below, from, below, above, before) in
    subst (λ (other : ℕ). Contains (row_of rows other) run) same one.among

-- what a take leaves are backs
pub front_leaves_backs : {rows left : List (List Run)} {n : ℕ} {taken : Run} → TakesFront rows left n taken → 1 ≤ n
    → AreFree rows → AreBacks rows left
front_leaves_backs {rows} {left} {n} takes some free page run among =
    let there = page_there left page run among in
    let start : ℕ = page_words * page in
    let lies = run_lies start (page_words * (page + 1)) (row_of left page) run
    (still_free takes some free page there) among in
    let before : run.at < start + page_words = omega (arith, lies.some, lies.below) in
    elim (left_from takes run (run_of left page run there among)) [
      | inl stood ↦ record {
        was = run;
        among = run_of_page rows page run.at run free stood (omega arith) (omega (arith, lies.some)) lies.from before;
        from = omega arith;
        ends = refl;
      }
      | inr rest ↦
          let one : Run = whole takes in
          let at : one.at + n ≡ run.at = ap (λ (other : Run). other.at) rest.1 in
          let words : one.words - n ≡ run.words = ap (λ (other : Run). other.words) rest.1 in
          record {
            was = one;
            among = run_of_page rows page run.at one free (whole_is takes) (omega (arith, at))
                (omega (arith, at, rest.0)) lies.from before;
            from = omega (arith, at);
            ends = omega (arith, at, words, rest.0);
          }
    ]
