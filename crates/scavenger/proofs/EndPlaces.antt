-- Where what stood at an address stands at the end of a scavenge, and what becomes of a word that referred to it.
use Rattle.std.proofs.Common.{◌≡◌, ◌≢◌, ℕ, zero, suc, ◌<◌, ◌≤◌, ◌/◌, ◌%◌, ◌⊎◌, inl, inr, true, false, List, [], ◌∷◌}
use Rattle.std.proofs.Common.{length, Contains, Some, None, get_or, sym, ◌∙◌, ap, arith}
use Rattle.std.proofs.lemmas.Bool.{cases_lt, cases_eq, cases_Bool}
use Rattle.std.proofs.lemmas.Bool.Decides.{nat_tests}
use Rattle.std.proofs.lemmas.Option.{same_Some, none-some}
use Rattle.tagged_word.proofs.Members.{first_in, rest_in}
use Rattle.page_space.specs.Extents.{eden_start}
use Rattle.heap_model.specs.Slots.{reference_word}
use Rattle.heap_moves.specs.Moved.{IsMovedWord}
use Rattle.scav_copy.specs.declared.places.Home.{Home}
use Rattle.scav_copy.specs.Renamings.{IsRenamed, HasOneHomeEach}
use Rattle.scavenger.specs.Starts.{Start}
use Rattle.scavenger.specs.Scavenged.{home_of, begins_free, place_after}

-- what stands in a page and is no free run stays where it is
pub stays_in_page : (start : Start) (homes : List Home) (at : ℕ) → at < eden_start start.heap.space
    → begins_free start.rows at ≡ false → place_after start homes at ≡ Some at
stays_in_page start homes at below none = grind (arith, nat_tests)

-- a free run does not stay
run_goes : (start : Start) (homes : List Home) (at : ℕ) → at < eden_start start.heap.space
    → begins_free start.rows at ≡ true → place_after start homes at ≡ None
run_goes start homes at below found = grind (arith, nat_tests)

-- what is young goes home
pub goes_home : (start : Start) (homes : List Home) (at : ℕ) → eden_start start.heap.space ≤ at
    → place_after start homes at ≡ home_of homes at
goes_home start homes at young = grind (arith, nat_tests)

-- the first home is that of its cell
first_home : (home : Home) (homes : List Home) (at : ℕ) → home.from ≡ at → home_of (home ∷ homes) at ≡ Some home.to
first_home home homes at is = grind (arith, nat_tests)

-- and of no other
later_home : (home : Home) (homes : List Home) (at : ℕ) → home.from ≢ at → home_of (home ∷ homes) at ≡ home_of homes at
later_home home homes at other = grind (arith, nat_tests)

-- the home of the cell at an address, where one is found
pub record IsHomeOf (homes : List Home) (at now : ℕ) : Type 0 where
  pub home : Home
  pub among : Contains homes home
  pub from : home.from ≡ at
  pub to : home.to ≡ now

-- what is found is one of the homes
found_home : (homes : List Home) (at now : ℕ) → home_of homes at ≡ Some now → IsHomeOf homes at now
found_home [] at now found = absurd (none-some now found)
found_home (home ∷ homes) at now found =
    elim (cases_eq home.from at) [
      | inl is ↦ record {
        home = home;
        among = first_in home homes;
        from = is;
        to = same_Some home.to now (sym (first_home home homes at is) ∙ found);
      }
      | inr other ↦
          let rest = found_home homes at now (sym (later_home home homes at other) ∙ found) in
          record { home = rest.home; among = rest_in home homes rest.home rest.among; from = rest.from; to = rest.to }
    ]

-- the home at a place of the list is found
home_at : (homes : List Home) (k : ℕ) (home : Home) → HasOneHomeEach homes → k < length homes
    → get_or homes k home ≡ home → home_of homes home.from ≡ Some home.to
home_at [] k home one_each within is = absurd (omega arith)
home_at (first ∷ homes) zero home one_each within is =
    first_home first homes home.from (ap (λ (one : Home). one.from) is) ∙ ap (λ (one : Home). Some one.to) is
home_at (first ∷ homes) (suc k) home one_each within is =
    let apart = (one_each 0 (suc k) home (omega arith) within).0 in
    later_home first homes home.from (λ same. apart (same ∙ sym (ap (λ (one : Home). one.from) is)))
    ∙ home_at homes k home (λ i j d less below. one_each (suc i) (suc j) d (omega arith) (omega arith)) (omega arith) is

-- so each home is that of its cell
pub home_found : (homes : List Home) (home : Home) → HasOneHomeEach homes → Contains homes home
    → home_of homes home.from ≡ Some home.to
home_found homes home one_each there = home_at homes there.0 home one_each there.1 there.2

-- Where a cell stays: in a page, where it is no free run, or it is young and has a home.
pub data StaysAt (start : Start) (homes : List Home) (at now : ℕ) : Type 0 where
  in_page : at < eden_start start.heap.space → begins_free start.rows at ≡ false → at ≡ now
      → StaysAt start homes at now
  at_home : eden_start start.heap.space ≤ at → IsHomeOf homes at now → StaysAt start homes at now

-- so it is in a page, where it stays
page_stays_at : (start : Start) (homes : List Home) (at now : ℕ) → at < eden_start start.heap.space
    → place_after start homes at ≡ Some now → StaysAt start homes at now
page_stays_at start homes at now below stays =
    elim (cases_Bool (begins_free start.rows at)) [
      | inl found ↦ absurd (none-some now (sym (run_goes start homes at below found) ∙ stays))
      | inr none ↦
          StaysAt.in_page below none (same_Some at now (sym (stays_in_page start homes at below none) ∙ stays))
    ]

-- one of the two it is
pub stays_at : (start : Start) (homes : List Home) (at now : ℕ) → place_after start homes at ≡ Some now
    → StaysAt start homes at now
stays_at start homes at now stays =
    elim (cases_lt at (eden_start start.heap.space)) [
      | inl below ↦ page_stays_at start homes at now below stays
      | inr young ↦ StaysAt.at_home young (found_home homes at now (sym (goes_home start homes at young) ∙ stays))
    ]

-- a word refers to what is young, or to nothing young
pub young_or_not : (word eden : ℕ) → ((at : ℕ) × (word ≡ reference_word at) × (eden ≤ at))
    ⊎ ((at : ℕ) → word ≡ reference_word at → at < eden)
young_or_not word eden =
    let first : ℕ = word / 4 in
    elim (cases_eq (word % 4) 1) [
      | inl refers ↦
          let was : word ≡ reference_word first = omega arith in
          elim (cases_lt first eden) [
            | inl below ↦ inr (λ at is. omega (arith, is, was, below))
            | inr behind ↦ inl (first, was, behind)
          ]
      | inr refers_not ↦ inr (λ at is. absurd (refers_not (omega (arith, is))))
    ]

-- What a word may refer to at the start: in a page no free run, and in the young generation what has a home.
pub record RefersWell (start : Start) (homes : List Home) (word : ℕ) : Type 0 where
  pub page : (at : ℕ) → word ≡ reference_word at → at < eden_start start.heap.space
      → begins_free start.rows at ≡ false
  pub young : (at : ℕ) → word ≡ reference_word at → eden_start start.heap.space ≤ at
      → (home : Home) × Contains homes home × (home.from ≡ at)

-- A word that is renamed is moved: where it is kept and refers to what is young, that has a home, so it is not kept.
pub renamed_is_moved : (start : Start) (homes : List Home) (old new : ℕ) → HasOneHomeEach homes
    → ((home : Home) → Contains homes home → eden_start start.heap.space ≤ home.from)
    → RefersWell start homes old → IsRenamed homes old new → IsMovedWord (place_after start homes) old new
renamed_is_moved start homes old new one_each young well (IsRenamed.renamed home there was is) =
    IsMovedWord.reference home.from home.to was
    (goes_home start homes home.from (young home there) ∙ home_found homes home one_each there) is
renamed_is_moved start homes old new one_each young well (IsRenamed.kept none same) =
    let at : ℕ = old / 4 in
    elim (cases_eq (old % 4) 1) [
      | inl refers ↦
          let was : old ≡ reference_word at = omega arith in
          elim (cases_lt at (eden_start start.heap.space)) [
            | inl below ↦
                IsMovedWord.reference at at was (stays_in_page start homes at below (well.page at was below))
                (same ∙ was)
            | inr behind ↦
                let found = well.young at was behind in
                absurd (none found.0 found.1 (was ∙ ap reference_word (sym found.2)))
          ]
      | inr refers_not ↦ IsMovedWord.other (λ other refers. refers_not (omega arith)) same
    ]

-- and so is a word that is as it was and refers to nothing young
pub kept_is_moved : (start : Start) (homes : List Home) (old new : ℕ)
    → ((at : ℕ) → old ≡ reference_word at → at < eden_start start.heap.space → begins_free start.rows at ≡ false)
    → ((at : ℕ) → old ≡ reference_word at → at < eden_start start.heap.space) → new ≡ old
    → IsMovedWord (place_after start homes) old new
kept_is_moved start homes old new page low same =
    let at : ℕ = old / 4 in
    elim (cases_eq (old % 4) 1) [
      | inl refers ↦
          let was : old ≡ reference_word at = omega arith in
          let below = low at was in
          IsMovedWord.reference at at was (stays_in_page start homes at below (page at was below)) (same ∙ was)
      | inr refers_not ↦ IsMovedWord.other (λ other refers. refers_not (omega arith)) same
    ]
