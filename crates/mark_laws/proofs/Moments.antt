-- The world after one event more, and what holds at each moment.
use Rattle.std.proofs.Common.{ℕ, zero, suc, ◌+◌, ◌<◌, ◌≤◌, ◌≡◌, inl, inr, List, [], ◌∷◌, ◌++◌}
use Rattle.std.proofs.Common.{take, length, get_or, slice_get, Some, refl, ap, subst, ◌∙◌, arith}
use Rattle.std.proofs.lemmas.Bool.{cases_lt}
use Rattle.std.proofs.lemmas.Option.{slice_get-get_or}
use Rattle.tagged_word.proofs.Cells.{some_same}
use Rattle.mark_laws.specs.Types.{Event, World}
use Rattle.mark_world.specs.declared.event.Event.TheVariants as event
use Rattle.mark_world.specs.AfterEvents.{after, after_all, moment, Possible, WerePossible}

-- the first so many and one more
pub take_next : (events : List Event) (k : ℕ) (of : Event) → slice_get events k ≡ Some of
    → take (k + 1) events ≡ take k events ++ of ∷ []
take_next [] k of e = cc
take_next (first ∷ rest) zero of e = ap (λ o. o ∷ []) (some_same refl e)
take_next (first ∷ rest) (suc k) of e =
    let next : suc k + 1 ≡ suc (k + 1) = omega arith in
    ap (λ n. take n (first ∷ rest)) next ∙ ap (λ xs. first ∷ xs) (take_next rest k of e)

-- the last event of a list comes last
after_last : (start : World) (events : List Event) (of : Event)
    → after_all start (events ++ of ∷ []) ≡ after (after_all start events) of
after_last start [] of = refl
after_last start (first ∷ rest) of = after_last (after start first) rest of

-- the next moment is the world after the next event
pub next_moment : (start : World) (events : List Event) (k : ℕ) (of : Event) → slice_get events k ≡ Some of
    → moment start events (k + 1) ≡ after (moment start events k) of
next_moment start events k of e =
    ap (after_all start) (take_next events k of e) ∙ after_last start (take k events) of

-- where the next event is possible too, so many and one were
pub one_more_possible : (start : World) (events : List Event) (k : ℕ) (of : Event) → slice_get events k ≡ Some of
    → Possible (moment start events k) of → WerePossible start events k → WerePossible start events (k + 1)
one_more_possible start events k of e possible before j other below there = elim (cases_lt j k) [
  | inl early ↦ before j other early there
  | inr late ↦
      let same : k ≡ j = omega arith in
      let one : of ≡ other = some_same e (ap (slice_get events) same ∙ there) in
      subst (λ i. Possible (moment start events i) other) same (subst (Possible (moment start events k)) one possible)
]

-- what holds at the start, and after each event where it held before, holds at each moment
pub at_each : (events : List Event) (count : ℕ) (P : ℕ → Type 0) → count ≤ length events → P 0
    → ((k : ℕ) (of : Event) → k < count → slice_get events k ≡ Some of → P k → P (k + 1))
    → (k : ℕ) → k ≤ count → P k
at_each events count P within first step zero l = first
at_each events count P within first step (suc k) l =
    let early : k < count = omega arith in
    let of : Event = get_or events k event.Look in
    let there : slice_get events k ≡ Some of = slice_get-get_or events k event.Look (omega arith) in
    let next : k + 1 ≡ suc k = omega arith in
    subst P next (step k of early there (at_each events count P within first step k (omega arith)))

-- the same from a moment on
pub at_each_from : (events : List Event) (from count : ℕ) (P : ℕ → Type 0) → count ≤ length events → P from
    → ((k : ℕ) (of : Event) → from ≤ k → k < count → slice_get events k ≡ Some of → P k → P (k + 1))
    → (k : ℕ) → from ≤ k → k ≤ count → P k
at_each_from events from count P within first step k begun l =
    at_each events count (λ j. from ≤ j → P j) within
    (λ early. let none : from ≡ 0 = omega arith in subst P none first)
    (λ j of early there before next. elim (cases_lt j from) [
      | inl under ↦ let here : from ≡ j + 1 = omega arith in subst P here first
      | inr over ↦ step j of over early there (before over)
    ]) k l begun
