-- The counts of pages, as flags change.
use Rattle.std.proofs.Common.{◌≡◌, ℕ, ◌+◌, ◌-◌, ◌*◌, ◌<◌, ◌≤◌, Bool, true, false, List, length, get_or, set, replicate}
use Rattle.std.proofs.Common.{arith, inl, inr, ap, sym, ◌∙◌}
use Rattle.std.proofs.lemmas.Bool.{cases_eq}
use Rattle.std.proofs.lemmas.List.{length-set, length-replicate, get_or_default, get_or-replicate, get_or-set_same}
use Rattle.std.proofs.lemmas.List.{get_or-set_other}
use Rattle.page_space.specs.Sizes.{page_words}
use Rattle.remembered_set.specs.Flags.{AreClear, ClearsBetween, CountsCleared, CountsEachPage, set_count}
use Rattle.remembered_set.proofs.Counts.{set_count_within, set_count_agrees, set_count_clear, clear_from_count}
use Rattle.remembered_set.proofs.Counts.{set_count_raised}
use Rattle.remembered_set.proofs.Shown.{get_or-clear}

-- what was read at a place within a list is what stands there
pub read_there : {X : Type 0} (xs : List X) (i : ℕ) (x d : X) → i < length xs → x ≡ get_or xs i x → get_or xs i d ≡ x
read_there xs i x d inside is = get_or_default xs i d x inside ∙ sym is

-- where no flag is set, each page counts 0
pub counted_none : (words pages : ℕ) → CountsEachPage (replicate words false) (replicate pages 0)
counted_none words pages = λ page inside.
    let within : page < pages = simp length-replicate at inside in
    get_or-replicate pages page 0 0 within
    ∙ sym (set_count_clear (replicate words false) (page_words * page) page_words (λ place _. get_or-clear words place))

-- a page's count is no more than its words
pub count_within : (flags : List Bool) (counts : List ℕ) (page : ℕ) → CountsEachPage flags counts → page < length counts
    → get_or counts page 0 ≤ page_words
count_within flags counts page counted inside =
    let is : get_or counts page 0 ≡ set_count flags (page_words * page) page_words = counted page inside in
    let within : set_count flags (page_words * page) page_words ≤ page_words =
    set_count_within flags (page_words * page) page_words in
    omega arith

-- a page that counts 0 has clear flags
pub clear_page : (flags : List Bool) (counts : List ℕ) (page : ℕ) → CountsEachPage flags counts → page < length counts
    → get_or counts page 0 ≡ 0 → AreClear flags (page_words * page) (page_words * page + page_words)
clear_page flags counts page counted inside none =
    clear_from_count flags (page_words * page) page_words (sym (counted page inside) ∙ none)

-- where a flag is set that was clear, its page counts one more
pub counted_note : (flags : List Bool) (counts : List ℕ) (slot page : ℕ) → page_words * page ≤ slot
    → slot < page_words * page + page_words → slot < length flags → page < length counts
    → get_or flags slot false ≡ false → CountsEachPage flags counts
    → CountsEachPage (set flags slot true) (set counts page (get_or counts page 0 + 1))
counted_note flags counts slot page behind within below inside was counted = λ other other_inside.
    let other_within : other < length counts = simp length-set at other_inside in
    elim (cases_eq other page) [
      | inl at ↦
          let is : get_or counts page 0 ≡ set_count flags (page_words * page) page_words = counted page inside in
          rw at (get_or-set_same counts page (get_or counts page 0 + 1) 0 inside
          ∙ ap (λ n. n + 1) is
          ∙ set_count_raised flags (set flags slot true) (page_words * page) page_words slot behind within was
          (get_or-set_same flags slot true false below)
          (λ place beside. get_or-set_other flags slot place true false beside))
      | inr beside ↦
          get_or-set_other counts page other (get_or counts page 0 + 1) 0 beside
          ∙ counted other other_within
          ∙ sym (set_count_agrees flags (set flags slot true) (page_words * other) page_words
          (λ place begins ends.
          get_or-set_other flags slot place true false (λ same. beside (omega arith))))
    ]

-- where flags of a page are cleared, it counts so many fewer
pub counted_clear : (old new : List Bool) (counts : List ℕ) (page from to count : ℕ) → page_words * page ≤ from
    → to ≤ page_words * page + page_words → page < length counts → ClearsBetween old new from to
    → CountsCleared old new from to count → CountsEachPage old counts
    → CountsEachPage new (set counts page (get_or counts page 0 - count))
counted_clear old new counts page from to count begins ends inside clears fewer counted = λ other other_inside.
    let other_within : other < length counts = simp length-set at other_inside in
    elim (cases_eq other page) [
      | inl at ↦
          let is : get_or counts page 0 ≡ set_count old (page_words * page) page_words = counted page inside in
          let left : set_count new (page_words * page) page_words + count
          ≡ set_count old (page_words * page) page_words = fewer (page_words * page) page_words begins ends in
          let now : get_or counts page 0 - count ≡ set_count new (page_words * page) page_words = omega arith in
          rw at (get_or-set_same counts page (get_or counts page 0 - count) 0 inside ∙ now)
      | inr beside ↦
          get_or-set_other counts page other (get_or counts page 0 - count) 0 beside
          ∙ counted other other_within
          ∙ sym (set_count_agrees old new (page_words * other) page_words
          (λ place behind within. clears.others place (λ between.
          let inner_begins = between.begins in
          let inner_ends = between.ends in
          beside (omega arith))))
    ]

-- no more flags of a page are cleared than it counts
pub cleared_within : (old new : List Bool) (counts : List ℕ) (page from to count : ℕ) → page_words * page ≤ from
    → to ≤ page_words * page + page_words → page < length counts
    → CountsCleared old new from to count → CountsEachPage old counts → count ≤ get_or counts page 0
cleared_within old new counts page from to count begins ends inside fewer counted =
    let is : get_or counts page 0 ≡ set_count old (page_words * page) page_words = counted page inside in
    let left : set_count new (page_words * page) page_words + count
    ≡ set_count old (page_words * page) page_words = fewer (page_words * page) page_words begins ends in
    omega arith
