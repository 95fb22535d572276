-- The words of all runs after a take, with those taken, are those before, each once.
use Rattle.std.proofs.Common.{◌≡◌, ◌≢◌, ℕ, ◌+◌, ◌-◌, ◌*◌, ◌<◌, ◌≤◌, ◌↔◌, ◌⊎◌, inl, inr, List, [], ◌∷◌, ◌++◌, length}
use Rattle.std.proofs.Common.{Contains, sym, subst, arith}
use Rattle.std.proofs.lemmas.Bool.{cases_eq, cases_lt}
use Rattle.std.proofs.lemmas.List.{get_or-set_same, get_or-set_other, get_or_past}
use Rattle.std.proofs.lemmas.List.Elements.{Contains-append_left, Contains-append_right, Contains-append_cases}
use Rattle.tagged_word.proofs.Members.{first_in, one_in, in_cases}
use Rattle.page_space.specs.declared.run.Run.{Run}
use Rattle.page_space.specs.Sizes.{page_words}
use Rattle.free_runs.specs.FreeRuns.{LiesIn, AscendIn, AreFree, TakesFrom, TakesFront, row_of, left_of}
use Rattle.free_runs.specs.Laws.{IsOfRun, IsFreeIn, TakesKeepWords, TakenAreApart}
use Rattle.free_runs.proofs.Cuts.{Left, left_is}

-- a word of runs and others is one of these or of those
free_cases : (runs others : List Run) (at : ℕ) → IsFreeIn (runs ++ others) at → IsFreeIn runs at ⊎ IsFreeIn others at
free_cases runs others at free =
    elim (Contains-append_cases runs others free.run free.among) [
      | inl among ↦ inl record { run = free.run; among = among; of_run = free.of_run }
      | inr among ↦ inr record { run = free.run; among = among; of_run = free.of_run }
    ]

-- a word of runs is one of them and others
free_left : (runs others : List Run) (at : ℕ) → IsFreeIn runs at → IsFreeIn (runs ++ others) at
free_left runs others at free =
    record { run = free.run; among = Contains-append_left runs others free.run free.among; of_run = free.of_run }

-- and of others and them
free_right : (runs others : List Run) (at : ℕ) → IsFreeIn others at → IsFreeIn (runs ++ others) at
free_right runs others at free =
    record { run = free.run; among = Contains-append_right runs others free.run free.among; of_run = free.of_run }

-- a word of one run
free_one : (run : Run) (at : ℕ) → IsOfRun run at → IsFreeIn (run ∷ []) at
free_one run at of_run = record { run = run; among = first_in run []; of_run = of_run }

-- and back
one_free : (run : Run) (at : ℕ) → IsFreeIn (run ∷ []) at → IsOfRun run at
one_free run at free = subst (λ (one : Run). IsOfRun one at) (sym (one_in run free.run free.among)) free.of_run

-- no word is in none
none_free : (at : ℕ) → IsFreeIn [] at → ⊥
none_free at free = absurd (omega (arith, free.among.1))

-- the first n words of a run
abbrev front : Run → ℕ → Run
front run n = record { at = run.at; words = n }

-- a word of a run is one of what is left of it, or one of those taken
left_or_taken : (run : Run) (n at : ℕ) (left : List Run) → Left run n left → IsOfRun run at
    → IsFreeIn left at ⊎ IsOfRun (front run n) at
left_or_taken run n at left (inl none) of_run =
    let from : run.at ≤ at = of_run.from in
    let below : at < run.at + run.words = of_run.below in
    inr record { from = from; below = omega (arith, none.0) }
left_or_taken run n at left (inr rest) of_run =
    let from : run.at ≤ at = of_run.from in
    let below : at < run.at + run.words = of_run.below in
    elim (cases_lt at (run.at + n)) [
      | inl taken ↦ inr record { from = from; below = taken }
      | inr later ↦ inl (rw rest.1 (free_one (record { at = run.at + n; words = run.words - n }) at
          (record { from = later; below = omega (arith, rest.0) })))
    ]

-- a word of what is left is one of the run, behind those taken
left_is_behind : (run : Run) (n at : ℕ) (left : List Run) → Left run n left → IsFreeIn left at
    → (run.at + n ≤ at) × (at < run.at + run.words)
left_is_behind run n at left (inl none) free = absurd (none_free at (subst (λ all. IsFreeIn all at) none.1 free))
left_is_behind run n at left (inr rest) free =
    let one : Run = record { at = run.at + n; words = run.words - n } in
    let of_one : IsOfRun one at = one_free one at (subst (λ all. IsFreeIn all at) rest.1 free) in
    let from : run.at + n ≤ at = of_one.from in
    let below : at < run.at + n + (run.words - n) = of_one.below in
    (from, omega (arith, rest.0))

-- the words of a row after a take, with those taken, are those before
row_words : (old new : List Run) (n at : ℕ) (taken : Run) → TakesFrom old new n taken
    → IsFreeIn old at ↔ (IsFreeIn new at ⊎ IsOfRun taken at)
row_words old new n at taken takes =
    let run : Run = takes.run in
    let left : List Run = left_of run n in
    let is_left = left_is run n takes.enough in
    let enough : n ≤ run.words = takes.enough in
    rw (takes.stood, takes.left, takes.front) (
      λ was. elim (free_cases takes.before (run ∷ takes.behind) at was) [
        | inl before ↦ inl (free_left takes.before (left ++ takes.behind) at before)
        | inr then ↦ elim (free_cases (run ∷ []) takes.behind at then) [
          | inl here ↦ elim (left_or_taken run n at left is_left (one_free run at here)) [
            | inl stays ↦
                inl (free_right takes.before (left ++ takes.behind) at (free_left left takes.behind at stays))
            | inr goes ↦ inr goes
          ]
          | inr behind ↦
              inl (free_right takes.before (left ++ takes.behind) at (free_right left takes.behind at behind))
        ]
      ],
      λ now. elim now [
        | inl stays ↦ elim (free_cases takes.before (left ++ takes.behind) at stays) [
          | inl before ↦ free_left takes.before (run ∷ takes.behind) at before
          | inr then ↦ free_right takes.before (run ∷ takes.behind) at (elim (free_cases left takes.behind at then) [
            | inl here ↦
                let within = left_is_behind run n at left is_left here in
                free_left (run ∷ []) takes.behind at
                (free_one run at (record { from = omega (arith, within.0); below = within.1 }))
            | inr behind ↦ free_right (run ∷ []) takes.behind at behind
          ])
        ]
        | inr goes ↦
            let from : run.at ≤ at = goes.from in
            let below : at < run.at + n = goes.below in
            free_right takes.before (run ∷ takes.behind) at (free_left (run ∷ []) takes.behind at
            (free_one run at (record { from = from; below = omega arith })))
      ],
    )

-- the rows of pages after a take
after : {old new : List (List Run)} {n : ℕ} {taken : Run} (takes : TakesFront old new n taken) (page : ℕ)
    → ((page ≡ takes.page) × (row_of new page ≡ takes.row))
    ⊎ ((page ≢ takes.page) × (row_of new page ≡ row_of old page))
after {old} {new} takes page =
    elim (cases_eq page takes.page) [
      | inl same ↦ inl (same, rw (takes.others, same) (get_or-set_same old takes.page takes.row [] takes.there))
      | inr other ↦ inr (other, rw takes.others (get_or-set_other old takes.page page takes.row [] other))
    ]

-- the words of all runs after a take, with those taken, are those before
pub takes_keep_words : TakesKeepWords
takes_keep_words old new n taken at takes =
    let in_row = row_words (row_of old takes.page) takes.row n at taken takes.takes in
    let row_is : row_of new takes.page ≡ takes.row =
    rw takes.others (get_or-set_same old takes.page takes.row [] takes.there) in (
      λ was. elim (after takes was.page) [
        | inl here ↦
            let free = subst (λ (one : ℕ). IsFreeIn (row_of old one) at) here.0 was.free in
            elim (in_row.0 free) [
              | inl stays ↦
                  inl record { page = takes.page; free = subst (λ all. IsFreeIn all at) (sym row_is) stays }
              | inr goes ↦ inr goes
            ]
        | inr other ↦ inl record { page = was.page; free = subst (λ all. IsFreeIn all at) (sym other.1) was.free }
      ],
      λ now. elim now [
        | inl stays ↦ elim (after takes stays.page) [
          | inl here ↦ record {
            page = takes.page;
            free = in_row.1 (inl (subst (λ all. IsFreeIn all at) here.1 stays.free));
          }
          | inr other ↦ record { page = stays.page; free = subst (λ all. IsFreeIn all at) other.1 stays.free }
        ]
        | inr goes ↦ record { page = takes.page; free = in_row.1 (inr goes) }
      ],
    )

-- each run of a row lies where the row does
each_within : (start end : ℕ) (runs : List Run) (run : Run) → AscendIn start end runs → Contains runs run
    → LiesIn start end run
each_within start end [] run ascend there = absurd (omega (arith, there.1))
each_within start end (first ∷ more) run ascend there =
    elim (in_cases first more run there) [
      | inl same ↦ subst (LiesIn start end) same ascend.0
      | inr later ↦
          let lies = each_within (first.at + first.words + 1) end more run ascend.1 later in
          record { from = omega (arith, ascend.0.from, lies.from); some = lies.some; below = lies.below }
    ]

-- the runs before one end before it begins
ends_before : (start end : ℕ) (before : List Run) (run : Run) (behind : List Run) (other : Run)
    → AscendIn start end (before ++ run ∷ behind) → Contains before other → other.at + other.words ≤ run.at
ends_before start end [] run behind other ascend there = absurd (omega (arith, there.1))
ends_before start end (first ∷ more) run behind other ascend there =
    elim (in_cases first more other there) [
      | inl same ↦
          let lies = each_within (first.at + first.words + 1) end (more ++ run ∷ behind) run ascend.1
          (Contains-append_right more (run ∷ behind) run (first_in run behind)) in
          subst (λ (one : Run). one.at + one.words ≤ run.at) same (omega (arith, lies.from))
      | inr later ↦ ends_before (first.at + first.words + 1) end more run behind other ascend.1 later
    ]

-- the runs behind one begin where it has ended
begins_behind : (start end : ℕ) (before : List Run) (run : Run) (behind : List Run) (other : Run)
    → AscendIn start end (before ++ run ∷ behind) → Contains behind other → run.at + run.words ≤ other.at
begins_behind start end [] run behind other ascend there =
    omega (arith, (each_within (run.at + run.words + 1) end behind other ascend.1 there).from)
begins_behind start end (first ∷ more) run behind other ascend there =
    begins_behind (first.at + first.words + 1) end more run behind other ascend.1 there

-- no word that was taken is in the row afterwards
taken_from_row : (start end : ℕ) (old new : List Run) (n at : ℕ) (taken : Run) → AscendIn start end old
    → TakesFrom old new n taken → IsOfRun taken at → IsFreeIn new at → ⊥
taken_from_row start end old new n at taken ascend takes goes free =
    let run : Run = takes.run in
    let left : List Run = left_of run n in
    let order : AscendIn start end (takes.before ++ run ∷ takes.behind) =
    subst (AscendIn start end) takes.stood ascend in
    let gone : IsOfRun (front run n) at = subst (λ (one : Run). IsOfRun one at) takes.front goes in
    let from : run.at ≤ at = gone.from in
    let below : at < run.at + n = gone.below in
    let enough : n ≤ run.words = takes.enough in
    elim (free_cases takes.before (left ++ takes.behind) at (subst (λ all. IsFreeIn all at) takes.left free)) [
      | inl before ↦
          let ends = ends_before start end takes.before run takes.behind before.run order before.among in
          let in_it : at < before.run.at + before.run.words = before.of_run.below in
          absurd (omega arith)
      | inr then ↦ elim (free_cases left takes.behind at then) [
        | inl here ↦ let within = left_is_behind run n at left (left_is run n takes.enough) here in
            absurd (omega (arith, within.0))
        | inr behind ↦
            let begins = begins_behind start end takes.before run takes.behind behind.run order behind.among in
            let in_it : behind.run.at ≤ at = behind.of_run.from in
            absurd (omega arith)
      ]
    ]

-- a word of a run of a page is one of the page
word_of_page : (rows : List (List Run)) (page at : ℕ) → AreFree rows → IsFreeIn (row_of rows page) at
    → (page_words * page ≤ at) × (at < page_words * (page + 1))
word_of_page rows page at free is =
    elim (cases_lt page (length rows)) [
      | inl there ↦
          let lies = each_within (page_words * page) (page_words * (page + 1)) (row_of rows page) is.run
          (free page there) is.among in
          let begins : page_words * page ≤ is.run.at = lies.from in
          let ends : is.run.at + is.run.words ≤ page_words * (page + 1) = lies.below in
          let from : is.run.at ≤ at = is.of_run.from in
          let below : at < is.run.at + is.run.words = is.of_run.below in
          (omega arith, omega arith)
      | inr past ↦ absurd (none_free at (subst (λ all. IsFreeIn all at) (get_or_past rows page [] past) is))
    ]

-- no word that was taken is in a run afterwards
pub taken_are_apart : TakenAreApart
taken_are_apart old new n taken at are_free takes goes free =
    let in_old = (row_words (row_of old takes.page) takes.row n at taken takes.takes).1 (inr goes) in
    let within = word_of_page old takes.page at are_free in_old in
    let ascend = are_free takes.page takes.there in
    elim (after takes free.page) [
      | inl here ↦
          taken_from_row (page_words * takes.page) (page_words * (takes.page + 1)) (row_of old takes.page) takes.row n
          at taken ascend takes.takes goes (subst (λ all. IsFreeIn all at) here.1 free.free)
      | inr other ↦
          let stood = subst (λ all. IsFreeIn all at) other.1 free.free in
          let within_too = word_of_page old free.page at are_free stood in
          absurd (other.0 (omega (arith, within.0, within.1, within_too.0, within_too.1)))
    ]
