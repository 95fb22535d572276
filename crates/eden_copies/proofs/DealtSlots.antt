-- What following the slots that are dealt leaves of what a worker has done.
use Rattle.std.proofs.Common.{◌≡◌, ◌≢◌, ◌∙◌, ℕ, ◌+◌, ◌-◌, ◌*◌, ◌%◌, ◌<◌, ◌≤◌, inl, inr, List, [], length, map, get_or}
use Rattle.std.proofs.Common.{Some, refl, sym, ap, subst, arith}
use Rattle.std.specs.List.{Contains, range_with_len, slice_get}
use Rattle.std.proofs.lemmas.Bool.{cases_lt}
use Rattle.std.proofs.lemmas.List.{length-append, get_or_append_left, get_or-append-add, get_or_default}
use Rattle.std.proofs.lemmas.List.Elements.{Contains-get_or}
use Rattle.std.proofs.lemmas.List.FromFn.{length-map-range_with_len, get_or-map-range_with_len}
use Rattle.std.proofs.lemmas.Option.{slice_get-get_or, slice_get_read, slice_get_within}
use Rattle.tagged_word.proofs.Cells.{some_same}
use Rattle.page_space.specs.Extents.{Space, root_words, roots_start, marks_start}
use Rattle.page_space.proofs.Starts.{layouts_start_is, marks_start_is}
use Rattle.remembered_set.specs.Recorded.{Recorded, IsAscending, IsNextRecorded, HasNoneFrom}
use Rattle.shared_table.specs.Owned.{Own}
use Rattle.scav_copy.proofs.Spots.{none_in}
use Rattle.claims.specs.Sides.{SeatSide}
use Rattle.eden_copies.specs.Eden.{Deal, word_at, outer_slots, IsLed, MayCopy, RefersToEden}
use Rattle.eden_copies.specs.Sides.{WorkerSide, idle, end_of}
use Rattle.eden_copies.specs.Steps.{HasFollowed, MayFollow}
use Rattle.eden_copies.specs.Copied.{GoesOn, HasCopied, HasFollowedDealt, IsCopying, IsDealing, IsFollowed}
use Rattle.eden_copies.proofs.Growing.{followed_more}
use Rattle.eden_copies.proofs.Stepping.{may_follow, steps}

-- the root slots, one for each variable
abbrev root_slots : Space → List ℕ
root_slots space = map (λ variable. roots_start space + root_words * variable) (range_with_len 0 space.variables)

-- the slot of a variable stands at the variable's number
pub root_slot : (space : Space) (recorded : List ℕ) (variable : ℕ) → variable < space.variables
    → slice_get (outer_slots space recorded) variable ≡ Some (roots_start space + root_words * variable)
root_slot space recorded variable inside =
    let slot : ℕ → ℕ = λ n. roots_start space + root_words * n in
    let long : length (root_slots space) ≡ space.variables = length-map-range_with_len slot 0 space.variables in
    slice_get_read (outer_slots space recorded) (length (outer_slots space recorded)) variable (slot variable) refl
    (omega (arith, length-append (root_slots space) recorded, long, inside))
    (sym (get_or_append_left (root_slots space) recorded (slot variable) variable (omega (arith, long, inside))
    ∙ get_or-map-range_with_len slot 0 space.variables variable variable (slot variable) inside (omega arith)))

-- it stands before the marks
pub root_there : (space : Space) (variable : ℕ) → variable < space.variables
    → roots_start space + root_words * variable < marks_start space
root_there space variable inside = omega (arith, layouts_start_is space, marks_start_is space, inside)

-- where a variable stands at the lent words, by what their regions tell
pub root_found : (own : Own) (told : Space) (variable end slot : ℕ) → told ≡ own.space → variable < end
    → end ≡ told.variables → slot ≡ roots_start told + root_words * variable
    → (variable < own.space.variables) × (slot ≡ roots_start own.space + root_words * variable)
root_found own told variable end slot same below ends at = (
  omega (arith, below, ends, ap (λ (space : Space). space.variables) same),
  at ∙ ap (λ (space : Space). roots_start space + root_words * variable) same,
)

-- a recorded slot stands behind those of the variables
pub recorded_slot : (space : Space) (recorded : List ℕ) (k slot : ℕ) → k < length recorded
    → get_or recorded k 0 ≡ slot → slice_get (outer_slots space recorded) (space.variables + k) ≡ Some slot
recorded_slot space recorded k slot inside is =
    let root : ℕ → ℕ = λ n. roots_start space + root_words * n in
    let long : length (root_slots space) ≡ space.variables = length-map-range_with_len root 0 space.variables in
    let at : get_or (outer_slots space recorded) (space.variables + k) 0 ≡ slot =
    ap (λ (n : ℕ). get_or (outer_slots space recorded) (n + k) 0) (sym long)
    ∙ (get_or-append-add (root_slots space) recorded k 0 ∙ is) in
    let there : space.variables + k < length (outer_slots space recorded) =
    omega (arith, length-append (root_slots space) recorded, long, inside) in
    slice_get-get_or (outer_slots space recorded) (space.variables + k) 0 there ∙ ap Some at

-- there are so many slots outside eden
pub outer_count : (space : Space) (recorded : List ℕ)
    → length (outer_slots space recorded) ≡ space.variables + length recorded
outer_count space recorded =
    let root : ℕ → ℕ = λ n. roots_start space + root_words * n in
    omega (
      arith,
      length-append (root_slots space) recorded,
      length-map-range_with_len root 0 space.variables,
    )

-- So many recorded slots are below the address, and the others are not. There are no more of them than addresses.
pub record AreSplit (slots : List ℕ) (from count : ℕ) : Type 0 where
  pub before : (i : ℕ) → i < count → i < length slots → get_or slots i 0 < from
  pub behind : (i : ℕ) → count ≤ i → i < length slots → from ≤ get_or slots i 0
  pub few : count ≤ from
  pub within : count ≤ length slots

-- none is below the first address
pub split_at_0 : (slots : List ℕ) → AreSplit slots 0 0
split_at_0 slots = record {
  before = λ i less inside. absurd (omega (arith, less));
  behind = λ i more inside. omega arith;
  few = omega arith;
  within = omega arith;
}

-- the next recorded slot is the one of that number
pub next_is : (recorded : Recorded) (from count slot : ℕ) → AreSplit recorded.slots from count
    → IsAscending recorded.slots → IsNextRecorded recorded from slot
    → (count < length recorded.slots) × (get_or recorded.slots count 0 ≡ slot)
next_is recorded from count slot split ascends next =
    let slots = recorded.slots in
    let (i, inside, is) = next.stands in
    let at : get_or slots i 0 ≡ slot = get_or_default slots i 0 slot inside ∙ is in
    elim (cases_lt i count) [
      | inl less ↦ absurd (omega (arith, split.before i less inside, at, next.not_below))
      | inr more ↦
          let there : count < length slots = omega (arith, more, inside) in
          let least : slot ≤ get_or slots count 0 =
          next.least (get_or slots count 0) (Contains-get_or slots count 0 there)
          (split.behind count (omega arith) there) in
          elim (cases_lt count i) [
            | inl before ↦ absurd (omega (arith, ascends count i 0 before inside, at, least))
            | inr same ↦
                let here : i ≡ count = omega (arith, same, more) in
                (there, ap (λ (n : ℕ). get_or slots n 0) (sym here) ∙ at)
          ]
    ]

-- the next recorded slot, among all slots outside eden
pub record IsNextOuter (own : Own) (recorded : Recorded) (number slot : ℕ) : Type 0 where
  pub inside : number - own.space.variables < length recorded.slots
  pub is : get_or recorded.slots (number - own.space.variables) 0 ≡ slot
  pub stands : slice_get (outer_slots own.space recorded.slots) number ≡ Some slot

-- it has its number there
pub next_outer : (own : Own) (recorded : Recorded) (from number slot : ℕ)
    → AreSplit recorded.slots from (number - own.space.variables) → IsAscending recorded.slots
    → IsNextRecorded recorded from slot → own.space.variables ≤ number → IsNextOuter own recorded number slot
next_outer own recorded from number slot split ascends next behind =
    let count : ℕ = number - own.space.variables in
    let found = next_is recorded from count slot split ascends next in
    let here : own.space.variables + count ≡ number = omega (arith, behind) in
    record {
      inside = found.0;
      is = found.1;
      stands = subst (λ (n : ℕ). slice_get (outer_slots own.space recorded.slots) n ≡ Some slot) here
          (recorded_slot own.space recorded.slots count slot found.0 found.1);
    }

-- behind it one more is below the address
pub split_behind : (slots : List ℕ) (from count slot : ℕ) → AreSplit slots from count → IsAscending slots
    → count < length slots → get_or slots count 0 ≡ slot → from ≤ slot → AreSplit slots (slot + 1) (count + 1)
split_behind slots from count slot split ascends inside is more = record {
  before = λ i less there.
      elim (cases_lt i count) [
        | inl earlier ↦ omega (arith, split.before i earlier there, more)
        | inr later ↦
            let here : i ≡ count = omega (arith, later, less) in
            omega (arith, ap (λ (n : ℕ). get_or slots n 0) here, is)
      ];
  behind = λ i later there. omega (arith, ascends count i 0 (omega (arith, later)) there, is);
  few = omega (arith, split.few, more);
  within = omega (arith, inside);
}

-- where none is left, all are below the address
pub split_over : (recorded : Recorded) (from count : ℕ) → AreSplit recorded.slots from count
    → HasNoneFrom recorded from → count ≡ length recorded.slots
split_over recorded from count split none =
    elim (cases_lt count (length recorded.slots)) [
      | inl less ↦
          absurd (omega (
            arith,
            none (get_or recorded.slots count 0) (Contains-get_or recorded.slots count 0 less),
            split.behind count (omega arith) less,
          ))
      | inr all ↦ omega (arith, all, split.within)
    ]

-- what a slot that was dealt, or passed over, leaves
pub record Dealt (own : Own) (deal : Deal) (count : ℕ) (old new : WorkerSide) (before behind : SeatSide) : Type 0 where
  pub dealing : IsDealing own deal count new behind
  pub goes : GoesOn old new before behind

module _ (own : Own) (deal : Deal) (count : ℕ) (worker : WorkerSide) (seat : SeatSide)
    (dealing : IsDealing own deal count worker seat) where
  -- a slot that is not dealt is passed over
  pub skips : count % deal.every ≢ deal.first → IsDealing own deal (count + 1) worker seat
  skips other = record {
    copying = dealing.copying;
    dealt = λ number slot less is turn.
        elim (cases_lt number count) [
          | inl before ↦ dealing.dealt number slot before is turn
          | inr more ↦
              let here : number ≡ count = omega (arith, less, more) in
              absurd (other (subst (λ (n : ℕ). n % deal.every ≡ deal.first) here turn))
        ];
  }

  module _ (may : MayCopy own deal) (counted : length own.words ≡ marks_start own.space)
      (most : worker.most ≡ own.space.sizes.young) (slot : ℕ)
      (stands : slice_get (outer_slots own.space deal.recorded) count ≡ Some slot)
      (turn : count % deal.every ≡ deal.first) where
    -- a way leads to what it refers to
    slot_leads : (cell : ℕ) → RefersToEden own (word_at own slot) cell → IsLed own deal cell
    slot_leads cell refers =
        IsLed.by_slot slot cell (record { number = count; stands = stands; in_turn = turn }) refers

    -- so it may be followed
    pub may_deal : MayFollow own worker seat (word_at own slot)
    may_deal =
        may_follow own deal worker.start worker seat may counted most dealing.copying (word_at own slot) slot_leads

    -- and the worker goes on
    pub deals : (new : WorkerSide) (behind : SeatSide) (now : ℕ)
        → HasFollowed own worker new seat behind (word_at own slot) now
        → Dealt own deal (count + 1) worker new seat behind
    deals new behind now followed =
        let step = steps own deal worker.start worker seat may counted most dealing.copying new behind (word_at own
        slot)
        now slot_leads followed in
        record {
          dealing = record {
            copying = subst (λ (n : ℕ). IsCopying own deal n new behind) (sym step.goes.start) step.copying;
            dealt = λ number other less is its_turn.
                elim (cases_lt number count) [
                  | inl before ↦
                      let was = dealing.dealt number other before is its_turn in (
                        was.0,
                        followed_more own seat.seen behind.seen (word_at own other) was.0 step.goes.seen was.1,
                      )
                  | inr more ↦
                      let here : number ≡ count = omega (arith, less, more) in
                      let same : slot ≡ other =
                      some_same stands (subst (λ (n : ℕ). slice_get (outer_slots own.space deal.recorded) n ≡ Some
                      other)
                      here is) in
                      (now, subst (λ (n : ℕ). IsFollowed own behind.seen (word_at own n) now) same step.followed)
                ];
          };
          goes = step.goes;
        }

-- a worker that has copied nothing
pub begins : (own : Own) (deal : Deal) (most start : ℕ) (seat : SeatSide) → seat.made ≡ []
    → IsDealing own deal 0 (idle most start) seat
begins own deal most start seat none = record {
  copying = record {
    claimed = none;
    known = λ claim has. absurd (none_in claim (subst (λ claims. Contains claims claim) none has));
    tiled = omega arith;
    one_each = tt;
    led = λ home has. absurd (none_in home has);
    copied = λ home offset has low no. absurd (none_in home has);
    followed = λ home offset has visited before. absurd (none_in home has);
    left = λ slot. ((λ has. absurd (none_in slot has)), (λ is. absurd (none_in is.home is.among)));
    left_few = omega arith;
    reached = omega arith;
  };
  dealt = λ number slot less is turn. absurd (omega (arith, less));
}

-- a worker that has followed what was dealt, and the slots of its room
pub ends : (own : Own) (deal : Deal) (old new : WorkerSide) (before behind : SeatSide)
    → HasFollowedDealt own deal (own.space.variables + length deal.recorded) before → GoesOn old new before behind
    → IsCopying own deal (end_of new) new behind → HasCopied own deal new behind
ends own deal old new before behind dealt goes copying = record {
  copying = copying;
  dealt = λ slot is.
      let inside : is.number < length (outer_slots own.space deal.recorded) =
      slice_get_within (outer_slots own.space deal.recorded) is.number slot is.stands in
      let was = dealt is.number slot (omega (arith, inside, outer_count own.space deal.recorded)) is.stands
      is.in_turn in
      (was.0, followed_more own before.seen behind.seen (word_at own slot) was.0 goes.seen was.1);
}
