-- A turn of the removal of a number, as it is computed.
use Rattle.std.proofs.Common.{ℕ, ◌+◌, ◌<◌, ◌≤◌, ◌≡◌, List, length, get_or, slice_get, slice_set, Option}
use Rattle.std.proofs.Common.{Some, None, inl, inr, refl, sym, ap, subst, ◌∙◌, arith}
use Rattle.std.proofs.lemmas.Option.{slice_get-get_or}
use Rattle.linear_probing.specs.Tables.{place_after, steps_to, FindsAll}
use Rattle.linear_probing.specs.ShiftLaws.{next_place}
use Rattle.linear_probing.proofs.Rounds.{place_after_within}
use Rattle.linear_probing.proofs.Removals.{IsRemoval, left, left_less, removal_ends, removal_moves, removal_passes}

-- `next` is the next place behind the hole and those that were passed, and there is one
pub record IsTurn (table : List (Option ℕ)) (capacity hole passed next : ℕ) : Type 0 where
  pub as_long : length table ≡ capacity
  pub few : passed + 1 < capacity
  pub next_is : next ≡ place_after capacity hole (passed + 1)

-- it is so by the length of the table
at_next : (table : List (Option ℕ)) (capacity hole passed next : ℕ) → IsTurn table capacity hole passed next
    → next ≡ next_place table hole passed
at_next table capacity hole passed next turn =
    turn.next_is ∙ ap (λ (n : ℕ). place_after n hole (passed + 1)) (sym turn.as_long)

-- what was read there stands there
reads : (table : List (Option ℕ)) (capacity hole passed next : ℕ) → IsTurn table capacity hole passed next
    → (item : Option ℕ) → get_or table next None ≡ item → slice_get table (next_place table hole passed) ≡ Some item
reads table capacity hole passed next turn item read =
    let same : next ≡ next_place table hole passed = at_next table capacity hole passed next turn in
    let as_long : length table ≡ capacity = turn.as_long in
    let few : passed + 1 < capacity = turn.few in
    let within : next_place table hole passed < length table =
    place_after_within (length table) hole (passed + 1) (omega arith) in
    slice_get-get_or table (next_place table hole passed) None within
    ∙ ap Some (ap (λ (place : ℕ). get_or table place None) (sym same) ∙ read)

-- and probing takes as many steps there
counts : (table : List (Option ℕ)) (capacity hole passed next : ℕ) → IsTurn table capacity hole passed next
    → (number steps : ℕ) → steps ≡ steps_to capacity number next
    → steps ≡ steps_to (length table) number (next_place table hole passed)
counts table capacity hole passed next turn number steps counted =
    counted ∙ ap (steps_to capacity number) (at_next table capacity hole passed next turn)
    ∙ ap (λ (n : ℕ). steps_to n number (next_place table hole passed)) (sym turn.as_long)

-- what is no number is nothing
none_from_not_some : (item : Option ℕ) → ((number : ℕ) → item ≡ Some number → ⊥) → item ≡ None
none_from_not_some None other = refl
none_from_not_some (Some number) other = absurd (other number refl)

-- the removal ends where nothing was read
pub ends_at_none : (old new : List (Option ℕ)) (at capacity hole passed next : ℕ) → IsRemoval old at new hole passed
    → IsTurn new capacity hole passed next
    → ((number : ℕ) → ◌≡◌ {A = Option ℕ} (get_or new next None) (Some number) → ⊥) → FindsAll old
    → FindsAll (slice_set new hole None)
ends_at_none old new at capacity hole passed next removal turn other =
    removal_ends old new at hole passed removal
    (inr (reads new capacity hole passed next turn None (none_from_not_some (get_or new next None) other)))

-- and where no place is left
pub ends_at_last : (old new : List (Option ℕ)) (at capacity hole passed : ℕ) → IsRemoval old at new hole passed
    → length new ≡ capacity → capacity ≤ passed + 1 → FindsAll old → FindsAll (slice_set new hole None)
ends_at_last old new at capacity hole passed removal as_long full =
    let few : passed < length new = removal.few in
    removal_ends old new at hole passed removal (inl (omega arith))

-- a number that is not too far from its home is passed
pub turn_passes : (old new : List (Option ℕ)) (at capacity hole passed next number steps : ℕ)
    → IsRemoval old at new hole passed → IsTurn new capacity hole passed next
    → ◌≡◌ {A = Option ℕ} (get_or new next None) (Some number)
    → steps ≡ steps_to capacity number next → steps ≤ passed
    → IsRemoval old at new hole (passed + 1)
turn_passes old new at capacity hole passed next number steps removal turn read counted near =
    let as_long : length new ≡ capacity = turn.as_long in
    let few : passed + 1 < capacity = turn.few in
    let far : steps ≡ steps_to (length new) number (next_place new hole passed) =
    counts new capacity hole passed next turn number steps counted in
    removal_passes old new at hole passed number removal (omega arith)
    (reads new capacity hole passed next turn (Some number) read) (omega arith)

-- each other moves
pub turn_moves : (old new : List (Option ℕ)) (at capacity hole passed next number steps : ℕ)
    → IsRemoval old at new hole passed → IsTurn new capacity hole passed next
    → ◌≡◌ {A = Option ℕ} (get_or new next None) (Some number)
    → steps ≡ steps_to capacity number next → passed < steps
    → IsRemoval old at (slice_set new hole (Some number)) next 0
turn_moves old new at capacity hole passed next number steps removal turn read counted far =
    let as_long : length new ≡ capacity = turn.as_long in
    let few : passed + 1 < capacity = turn.few in
    let also : steps ≡ steps_to (length new) number (next_place new hole passed) =
    counts new capacity hole passed next turn number steps counted in
    subst (λ (place : ℕ). IsRemoval old at (slice_set new hole (Some number)) place 0)
    (sym (at_next new capacity hole passed next turn))
    (removal_moves old new at hole passed number removal (omega arith)
    (reads new capacity hole passed next turn (Some number) read) (omega arith))

-- and then less is left to do
pub turn_left : (old new : List (Option ℕ)) (at capacity hole passed next number steps : ℕ)
    → IsRemoval old at new hole passed → IsTurn new capacity hole passed next
    → ◌≡◌ {A = Option ℕ} (get_or new next None) (Some number)
    → steps ≡ steps_to capacity number next → passed < steps
    → left (slice_set new hole (Some number)) next 0 < left new hole passed
turn_left old new at capacity hole passed next number steps removal turn read counted far =
    let as_long : length new ≡ capacity = turn.as_long in
    let few : passed + 1 < capacity = turn.few in
    let also : steps ≡ steps_to (length new) number (next_place new hole passed) =
    counts new capacity hole passed next turn number steps counted in
    subst (λ (place : ℕ). left (slice_set new hole (Some number)) place 0 < left new hole passed)
    (sym (at_next new capacity hole passed next turn))
    (left_less new hole passed number removal.within (omega arith)
    (reads new capacity hole passed next turn (Some number) read) (omega arith))
