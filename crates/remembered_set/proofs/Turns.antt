-- What is forgotten and found page by page.
use Rattle.std.proofs.Common.{◌≡◌, ℕ, ◌+◌, ◌*◌, ◌/◌, ◌<◌, ◌≤◌, ◌↔◌, Contains, min, max, arith, inl, inr}
use Rattle.std.proofs.lemmas.Bool.{cases_lt}
use Rattle.std.proofs.lemmas.List.Elements.{All-contains}
use Rattle.page_space.specs.Sizes.{page_words}
use Rattle.remembered_set.specs.Recorded.{Recorded, IsRecorded, IsBetween, HasNoneFrom, IsNextRecorded, HasNoneBetween}
use Rattle.remembered_set.specs.Recorded.{IsLeastBetween}

-- one more page of a range is forgotten
pub forgotten_more : (first before after : Recorded) (from to page : ℕ)
    → ((other : ℕ) → Contains before.slots other
    ↔ (Contains first.slots other × (¬ IsBetween from (min to (page_words * page)) other)))
    → ((other : ℕ) → Contains after.slots other
    ↔ (Contains before.slots other
    × (¬ IsBetween (max from (page_words * page)) (min to (page_words * page + page_words)) other)))
    → (other : ℕ) → Contains after.slots other
    ↔ (Contains first.slots other × (¬ IsBetween from (min to (page_words * (page + 1))) other))
forgotten_more first before after from to page so_far now other = (
  λ there.
      let was = (now other).0 there in
      let stood = (so_far other).0 was.0 in (
        stood.0,
        λ between.
            let begins = between.begins in
            let ends = between.ends in
            elim (cases_lt other (page_words * page)) [
              | inl below ↦ stood.1 (record { begins = begins; ends = omega arith })
              | inr behind ↦ was.1 (record { begins = omega arith; ends = omega arith })
            ],
      ),
  λ was. (now other).1 (
    (so_far other).1 (
      was.0,
      λ between.
          let begins = between.begins in
          let ends = between.ends in
          was.1 (record { begins = begins; ends = omega arith }),
    ),
    λ between.
        let begins = between.begins in
        let ends = between.ends in
        was.1 (record { begins = omega arith; ends = omega arith }),
  ),
)

-- one more page has none that is recorded
pub none_more : (recorded : Recorded) (from page : ℕ) → HasNoneBetween recorded from (page_words * page)
    → HasNoneBetween recorded (max from (page_words * page)) (page_words * page + page_words)
    → HasNoneBetween recorded from (page_words * (page + 1))
none_more recorded from page so_far now = λ slot there between.
    let begins = between.begins in
    let ends = between.ends in
    elim (cases_lt slot (page_words * page)) [
      | inl below ↦ so_far slot there (record { begins = begins; ends = below })
      | inr behind ↦ now slot there (record { begins = omega arith; ends = omega arith })
    ]

-- the first slot of a page is the first from an address on, where none of the pages before it has one
pub least_from : (recorded : Recorded) (from page slot : ℕ) → HasNoneBetween recorded from (page_words * page)
    → IsLeastBetween recorded (max from (page_words * page)) (page_words * page + page_words) slot
    → IsNextRecorded recorded from slot
least_from recorded from page slot so_far least =
    let begins = least.between.begins in
    record {
      stands = least.stands;
      not_below = omega arith;
      least = λ other there behind.
          elim (cases_lt other slot) [
            | inl below ↦ elim (cases_lt other (page_words * page)) [
              | inl before ↦ absurd (so_far other there (record { begins = behind; ends = before }))
              | inr in_page ↦ absurd (least.none_before other there (record { begins = omega arith; ends = below }))
            ]
            | inr not_below ↦ not_below
          ];
    }

-- where none is recorded from an address on below the bound, each is below the address
pub none_from : (recorded : Recorded) (from page : ℕ) → IsRecorded recorded → recorded.bound ≤ page_words * page
    → HasNoneBetween recorded from (page_words * page) → HasNoneFrom recorded from
none_from recorded from page is_recorded reached none = λ slot there.
    let below : slot < recorded.bound =
    All-contains (λ other. other < recorded.bound) recorded.slots slot is_recorded.below there in
    elim (cases_lt slot from) [
      | inl before ↦ before
      | inr behind ↦ absurd (none slot there (record { begins = behind; ends = omega arith }))
    ]

-- the whole range is forgotten once its pages are
pub forgotten_all : (first after : Recorded) (from to pages page : ℕ) → IsRecorded first
    → first.bound ≡ page_words * pages → min (to / page_words + 1) pages ≤ page
    → ((other : ℕ) → Contains after.slots other
    ↔ (Contains first.slots other × (¬ IsBetween from (min to (page_words * page)) other)))
    → (other : ℕ) → Contains after.slots other ↔ (Contains first.slots other × (¬ IsBetween from to other))
forgotten_all first after from to pages page is_recorded bound reached forgotten other = (
  λ there.
      let stood = (forgotten other).0 there in
      let below : other < first.bound =
      All-contains (λ slot. slot < first.bound) first.slots other is_recorded.below stood.0 in (
        stood.0,
        λ between.
            let begins = between.begins in
            let ends = between.ends in
            stood.1 (record { begins = begins; ends = omega arith }),
      ),
  λ was. (forgotten other).1 (
    was.0,
    λ between.
        let begins = between.begins in
        let ends = between.ends in
        was.1 (record { begins = begins; ends = omega arith }),
  ),
)
