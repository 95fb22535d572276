-- Cells that wait in lists and on the board go on so through a give and a take.
use Rattle.std.proofs.Common.{ℕ, ◌<◌, ◌≡◌, ◌≢◌, ◌==◌, ◌^◌, ◌∙◌, ◌⊎◌, inl, inr, Bool, true}
use Rattle.std.proofs.Common.{false, List, length, slice_index, slice_set, Option, Some, None, Any, Contains, refl, sym}
use Rattle.std.proofs.Common.{ap, subst, arith, if◌then◌else◌, eqb-true, eq-eqb}
use Rattle.std.proofs.lemmas.List.{get_or_default, get_or-set_other, get_or-set_same, length-set}
use Rattle.std.proofs.lemmas.List.Elements.{All-contains}
use Rattle.tagged_word.specs.declared.word.Class.TheVariants.{Ref}
use Rattle.tagged_word.specs.Words.{bits_of}
use Rattle.tagged_word.specs.Readings.{reference_in}
use Rattle.tagged_word.proofs.Readings.{reference_to}
use Rattle.core_parts.specs.Lists.{joined, left}
use Rattle.core_parts.specs.Boards.{given_word, giver_left, joined_by, taker_joined}
use Rattle.core_parts.proofs.Joining.{decided, joined_in, joined_keeps}
use Rattle.core_parts.proofs.Leaving.{left_keeps}
use Rattle.mark_laws.specs.Types.{HelperView, World}
use Rattle.mark_world.specs.Steps.{black, grey, white}
use Rattle.mark_world.specs.Coverage.{colour_of}
use Rattle.mark_world.specs.Soundness.{HasGrey, HasLists, Reads, Waits}

-- a word of the board refers to the cell
abbrev pub OnBoard : ℕ → List ℕ → Type 0
OnBoard at board = Any (λ word. reference_in word ≡ Some at) board

-- two numbers are one or differ
pub one_or_other : (a b : ℕ) → (a ≡ b) ⊎ (a ≢ b)
one_or_other a b = elim (decided (a == b)) [
  | inl same ↦ inl (eqb-true _ _ same)
  | inr other ↦ inr (λ e. let t = eq-eqb a b e in let both : true ≡ false = sym t ∙ other in cc)
]

-- a list that a cell joins where it was white keeps what it has
pub white_keeps : (list : List ℕ) (a at : ℕ) (was_white : Bool) → Contains list at
    → Contains (if was_white then joined list a else list) at
white_keeps list a at true c = joined_keeps list a at c
white_keeps list a at false c = c

-- and has the cell, where it was white
pub white_there : (list : List ℕ) (a found : ℕ) → found ≡ 0 → Contains (if found == 0 then joined list a else list) a
white_there list a found e = subst (λ (b : Bool). Contains (if b then joined list a else list) a)
    (sym (eq-eqb found 0 e))
    (joined_in list a)

-- A word of the board that is put leaves the others. One that referred to the cell is gone.
pub board_put : (board : List ℕ) (place word at : ℕ) → OnBoard at board
    → OnBoard at (slice_set board place word) ⊎ (reference_in (slice_index board place) ≡ Some at)
board_put board place word at (k, w, l, e, refers) = elim (one_or_other k place) [
  | inl same ↦ inr (ap (λ (i : ℕ). reference_in (slice_index board i)) (sym same)
      ∙ ap reference_in (get_or_default board k 0 w l ∙ e) ∙ refers)
  | inr other ↦ inl (
    k,
    w,
    omega (arith, length-set board place word, l),
    get_or-set_other board place k word w other
        ∙ e,
    refers,
  )
]

-- what is given to a free word of the board stands there
pub given_there : (board : List ℕ) (place at found : ℕ) → place < length board → at < 2 ^ 32 → found ≡ 0
    → OnBoard at (slice_set board place (given_word found at))
given_there board place at found within fits free =
    let word : given_word found at ≡ bits_of (Ref at) =
    ap (λ (b : Bool). if b then bits_of (Ref at) else found) (eq-eqb found 0 free) in (
      place,
      given_word found at,
      omega (arith, length-set board place (given_word found at), within),
      get_or-set_same board place (given_word found at) (given_word found at) within,
      ap reference_in word ∙ reference_to (bits_of (Ref at)) at fits refl,
    )

-- A cell that waits in a list or on the board waits in either after a give: it stays in the list, or is given.
pub give_waits : (list board : List ℕ) (place a at : ℕ) → place < length board → a < 2 ^ 32 → Contains list at
    → Contains (giver_left list (slice_index board place) a) at
    ⊎ OnBoard at (slice_set board place (given_word (slice_index board place) a))
give_waits list board place a at within fits c = elim (decided (slice_index board place == 0)) [
  | inl free ↦ elim (one_or_other at a) [
    | inl same ↦ inr (subst (λ (x : ℕ). OnBoard x (slice_set board place (given_word (slice_index board place) a)))
        (sym same)
        (given_there board place a (slice_index board place) within fits (eqb-true _ _ free)))
    | inr other ↦ inl (subst (λ (b : Bool). Contains (if b then left list a else list) at) (sym free)
        (left_keeps list a at other c))
  ]
  | inr used ↦ inl (subst (λ (b : Bool). Contains (if b then left list a else list) at) (sym used) c)
]

-- a word that is in use stays when it is given to
kept_word : (found a : ℕ) → (found == 0) ≡ false → given_word found a ≡ found
kept_word found a used = ap (λ (b : Bool). if b then bits_of (Ref a) else found) used

-- a cell on the board stays there through a give: a word that refers to it is in use
pub give_keeps : (board : List ℕ) (place a at : ℕ) → place < length board → OnBoard at board
    → OnBoard at (slice_set board place (given_word (slice_index board place) a))
give_keeps board place a at within on = elim (board_put board place (given_word (slice_index board place) a) at on) [
  | inl still ↦ still
  | inr refers ↦ elim (decided (slice_index board place == 0)) [
    | inl free ↦ absurd (let none : None ≡ Some at = sym (ap reference_in (eqb-true _ _ free)) ∙ refers in cc)
    | inr used ↦ (
      place,
      slice_index board place,
      omega (arith, length-set board place (given_word (slice_index board place) a), within),
      get_or-set_same board place (given_word (slice_index board place) a) (slice_index board place) within
          ∙ kept_word (slice_index board place) a used,
      refers,
    )
  ]
]

-- a cell on the board stays there through a take, or joins the taker's list
pub take_waits : (list board : List ℕ) (place at : ℕ) → OnBoard at board
    → OnBoard at (slice_set board place 0) ⊎ Contains (taker_joined list (slice_index board place)) at
take_waits list board place at on = elim (board_put board place 0 at on) [
  | inl still ↦ inl still
  | inr refers ↦ inr (subst (λ (o : Option ℕ). Contains (joined_by list o) at) (sym refers) (joined_in list at))
]

-- a cell that turned black is not grey
pub black_not_grey : (colours : List ℕ) (a at : ℕ) → at ≡ a → a < length colours
    → slice_index (slice_set colours a black) at ≡ grey → ⊥
black_not_grey colours a at same within is_grey =
    let there : slice_index (slice_set colours a black) a ≡ black = get_or-set_same colours a black 0 within in
    let here : slice_index (slice_set colours a black) a ≡ grey =
    ap (slice_index (slice_set colours a black)) (sym same)
    ∙ is_grey in
    omega (arith, there, here)

-- nor is a white one, where another was coloured
pub grey_not_white : (colours : List ℕ) (a at word : ℕ) → at ≢ a → slice_index colours at ≡ white
    → slice_index (slice_set colours a word) at ≡ grey → ⊥
grey_not_white colours a at word other was is_grey =
    let same : slice_index (slice_set colours a word) at ≡ slice_index colours at = get_or-set_other colours a at word 0
    other in
    omega (arith, same, was, is_grey)

-- a cell waits in a view: it is in its list, or the helper reads it
abbrev pub InView : ℕ → HelperView → Type 0
InView at view = Contains view.grey at ⊎ Reads at view

-- a grey cell waits
pub grey_waits : (world : World) → HasLists world → HasGrey world → (at : ℕ) → colour_of world at ≡ grey
    → Waits world at
grey_waits world lists greys at is_grey =
    All-contains (λ (a : ℕ). colour_of world a ≡ grey → Waits world a) world.main.starts at greys
    (lists.coloured at (λ e. absurd (omega (arith, is_grey, e)))) is_grey
