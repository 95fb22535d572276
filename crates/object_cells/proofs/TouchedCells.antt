-- What was touched, where cells of a heap became others and cells were made: each address beside the run of these by
-- what its touch owes the cells that went and came.
use Rattle.std.proofs.Common.{◌≡◌, ◌≢◌, ℕ, ◌+◌, ◌≤◌, ◌<◌, ◌⊎◌, ◌↔◌, inl, inr, List, [], ◌∷◌, refl, sym, ◌∙◌, ap}
use Rattle.std.proofs.Common.{subst, arith}
use Rattle.std.proofs.lemmas.Bool.{cases_lt}
use Rattle.tagged_word.specs.declared.layout.Kind.TheVariants as kind
use Rattle.page_space.specs.Extents.{eden_start}
use Rattle.heap_model.specs.Types.{Cell}
use Rattle.heap_model.specs.Heaps.{Heap, HasCell}
use Rattle.heap_model.specs.Remembered.{IsSlotOf, IsSlotOfOne, IsInOneOf, Touch, TouchesBeside, TouchesMade}
use Rattle.heap_model.proofs.BoundHeaps.{none_in}
use Rattle.heap_model.proofs.CellsApart.{one_at}
use Rattle.write_barrier.specs.MutatorState.{Mutator, heap_of}
use Rattle.write_barrier.specs.Recording.{Touches, touched, touched_one, touched_again, touched_then, Remembers}
use Rattle.write_barrier.proofs.TouchedRanges.{touched_inside, touched_outside}
use Rattle.write_barrier.proofs.Recording.{touch_alike}
use Rattle.object_cells.proofs.SlotsOfCells.{one_changes}

-- What an address that was touched so owes the cells that went and those that came: it is one of those that went, and a
-- slot of those that came exactly if a slot's word was put there.
abbrev pub FitsTouch : List Cell → List Cell → ℕ → Touch → Type 0
FitsTouch gone came at Touch.Kept = Unit {0}
FitsTouch gone came at Touch.Stored = IsInOneOf gone at × IsSlotOfOne came at
FitsTouch gone came at Touch.Wiped = IsInOneOf gone at × (IsSlotOfOne came at → ⊥)

-- it is kept, or one of those that went
fits_within : (gone came : List Cell) (at : ℕ) (how : Touch) → FitsTouch gone came at how
    → (how ≡ Touch.Kept) ⊎ IsInOneOf gone at
fits_within gone came at Touch.Kept fits = inl refl
fits_within gone came at Touch.Stored fits = inr fits.0
fits_within gone came at Touch.Wiped fits = inr fits.0

-- the address is none of those from one up to another
abbrev pub IsBeside : (from to at : ℕ) → Type 0
IsBeside from to at = from ≤ at → at < to → ⊥

-- Where each address of pages beside the run fits, and what was kept is a slot of those that came exactly where it was
-- one of those that went, only these cells were touched there.
pub cells_touched : (eden from to : ℕ) (gone came : List Cell) (touch : ℕ → Touch)
    → ((at : ℕ) → at < eden → IsBeside from to at → FitsTouch gone came at (touch at))
    → ((at : ℕ) → at < eden → IsBeside from to at → touch at ≡ Touch.Kept → IsSlotOfOne gone at ↔ IsSlotOfOne came at)
    → TouchesBeside eden from to gone came touch
cells_touched eden from to gone came touch fits kept = record {
  within = λ at below beside. fits_within gone came at (touch at) (fits at below beside);
  stored = λ at below beside is. (subst (FitsTouch gone came at) is (fits at below beside)).1;
  wiped = λ at below beside is. (subst (FitsTouch gone came at) is (fits at below beside)).1;
  kept = kept;
}

-- where the same cells went and came, their slots are the same
pub same_cells_touched : (eden from to : ℕ) (cells : List Cell) (touch : ℕ → Touch)
    → ((at : ℕ) → at < eden → IsBeside from to at → FitsTouch cells cells at (touch at))
    → TouchesBeside eden from to cells cells touch
same_cells_touched eden from to cells touch fits =
    cells_touched eden from to cells cells touch fits (λ at below beside is. (λ slot. slot, λ slot. slot))

-- where one cell became another, what was kept is to be a slot of the one exactly where it is one of the other
pub one_cell_touched : (eden from to : ℕ) (cell came : Cell) (others : List Cell) (touch : ℕ → Touch)
    → ((at : ℕ) → at < eden → IsBeside from to at → FitsTouch (cell ∷ others) (came ∷ others) at (touch at))
    → ((at : ℕ) → at < eden → IsBeside from to at → touch at ≡ Touch.Kept → IsSlotOf cell at ↔ IsSlotOf came at)
    → TouchesBeside eden from to (cell ∷ others) (came ∷ others) touch
one_cell_touched eden from to cell came others touch fits kept =
    cells_touched eden from to (cell ∷ others) (came ∷ others) touch fits (λ at below beside is.
    let same = kept at below beside is in
    (one_changes cell came others same.0, one_changes came cell others same.1))

-- an address in a range is touched so, and others are kept
pub touched_cases : (how : Touch) (from to at : ℕ)
    → ((from ≤ at) × (at < to) × (touched how from to at ≡ how))
    ⊎ (((at < from) ⊎ (to ≤ at)) × (touched how from to at ≡ Touch.Kept))
touched_cases how from to at =
    elim (cases_lt at from) [
      | inl before ↦ inr (inl before, touched_outside how from to at (inl before))
      | inr begins ↦ elim (cases_lt at to) [
        | inl ends ↦ inl (begins, ends, touched_inside how from to at begins ends)
        | inr past ↦ inr (inr past, touched_outside how from to at (inr past))
      ]
    ]

-- a range of the run touches nothing beside it
pub kept_beside : (how : Touch) (from to a b at : ℕ) → from ≤ a → b ≤ to → IsBeside from to at
    → touched how a b at ≡ Touch.Kept
kept_beside how from to a b at begins ends beside = elim (touched_cases how a b at) [
  | inl inside ↦ absurd (beside (omega (arith, begins, inside.0)) (omega (arith, ends, inside.1)))
  | inr out ↦ out.1
]

-- and a range beside it nothing of the run
pub kept_within : (how : Touch) (from to a b at : ℕ) → ((one : ℕ) → a ≤ one → one < b → IsBeside from to one)
    → from ≤ at → at < to → touched how a b at ≡ Touch.Kept
kept_within how from to a b at beside begins ends = elim (touched_cases how a b at) [
  | inl inside ↦ absurd (beside at inside.0 inside.1 begins ends)
  | inr out ↦ out.1
]

-- what was touched twice was kept where both kept it
again_kept : (first next : Touch) → touched_again first next ≡ Touch.Kept
    → (first ≡ Touch.Kept) × (next ≡ Touch.Kept)
again_kept first Touch.Kept is = (is, refl)
again_kept first Touch.Stored is = absurd (cc)
again_kept first Touch.Wiped is = absurd (cc)

-- an address that was kept after all was kept both times
pub then_kept : (first next : ℕ → Touch) (at : ℕ) → touched_then first next at ≡ Touch.Kept
    → (first at ≡ Touch.Kept) × (next at ≡ Touch.Kept)
then_kept first next at is = again_kept (first at) (next at) is

-- what was touched twice is as the last touch left it that did not keep it
again_cases : (first next : Touch)
    → (touched_again first next ≡ next) ⊎ ((next ≡ Touch.Kept) × (touched_again first next ≡ first))
again_cases first Touch.Kept = inr (refl, refl)
again_cases first Touch.Stored = inl refl
again_cases first Touch.Wiped = inl refl

-- an address is as the later touch left it, or, where that kept it, as the earlier one did
pub then_cases : (first next : ℕ → Touch) (at : ℕ)
    → (touched_then first next at ≡ next at)
    ⊎ ((next at ≡ Touch.Kept) × (touched_then first next at ≡ first at))
then_cases first next at = again_cases (first at) (next at)

-- where the later touches keep the address, the earlier ones say what became of it
pub then_first : (first next : ℕ → Touch) (at : ℕ) → next at ≡ Touch.Kept → touched_then first next at ≡ first at
then_first first next at kept = ap (touched_again (first at)) kept

-- a touch of what was kept is that touch
pub again_behind : (next : Touch) → touched_again Touch.Kept next ≡ next
again_behind Touch.Kept = refl
again_behind Touch.Stored = refl
again_behind Touch.Wiped = refl

-- and where the earlier ones keep it, the later ones do
pub then_next : (first next : ℕ → Touch) (at : ℕ) → first at ≡ Touch.Kept → touched_then first next at ≡ next at
then_next first next at kept = ap (λ (one : Touch). touched_again one (next at)) kept ∙ again_behind (next at)

-- so the earlier ones can be left out where they touch nothing of pages
pub touches_next : {old new : Mutator} (first next : ℕ → Touch)
    → ((at : ℕ) → at < old.recorded.bound → first at ≡ Touch.Kept) → Touches old new (touched_then first next)
    → Touches old new next
touches_next {old} first next kept touches =
    touch_alike (λ at below. then_next first next at (kept at below)) touches

-- what was kept fits
pub kept_fits : (gone came : List Cell) (at : ℕ) (how : Touch) → how ≡ Touch.Kept → FitsTouch gone came at how
kept_fits gone came at how kept = subst (FitsTouch gone came at) (sym kept) tt

-- where an address fits two touches, it fits the one after the other
fits_again : (gone came : List Cell) (at : ℕ) (first next : Touch) → FitsTouch gone came at first
    → FitsTouch gone came at next → FitsTouch gone came at (touched_again first next)
fits_again gone came at first Touch.Kept one two = one
fits_again gone came at first Touch.Stored one two = two
fits_again gone came at first Touch.Wiped one two = two

-- so it does touch by touch
pub fits_then : (gone came : List Cell) (first next : ℕ → Touch) (at : ℕ) → FitsTouch gone came at (first at)
    → FitsTouch gone came at (next at) → FitsTouch gone came at (touched_then first next at)
fits_then gone came first next at one two = fits_again gone came at (first at) (next at) one two

-- an address fits a range if, where it is in the range, it fits its touch
pub fits_range : (gone came : List Cell) (how : Touch) (from to at : ℕ)
    → (from ≤ at → at < to → FitsTouch gone came at how) → FitsTouch gone came at (touched how from to at)
fits_range gone came how from to at fits =
    elim (touched_cases how from to at) [
      | inl inside ↦ subst (FitsTouch gone came at) (sym inside.2) (fits inside.0 inside.1)
      | inr outside ↦ subst (FitsTouch gone came at) (sym outside.1) tt
    ]

-- all addresses fit the touch of one which fits it
pub fits_one : (gone came : List Cell) (how : Touch) (one at : ℕ) → FitsTouch gone came one how
    → FitsTouch gone came at (touched_one how one at)
fits_one gone came how one at fits =
    fits_range gone came how one (one + 1) at (λ from below.
    let same : one ≡ at = omega (arith, from, below) in subst (λ k. FitsTouch gone came k how) same fits)

-- addresses beside the run fit a range of it
pub fits_made : (gone came : List Cell) (how : Touch) (from to a b at : ℕ) → from ≤ a → b ≤ to → IsBeside from to at
    → FitsTouch gone came at (touched how a b at)
fits_made gone came how from to a b at begins ends beside =
    kept_fits gone came at (touched how a b at) (kept_beside how from to a b at begins ends beside)

-- and those of the run one that is beside it
pub fits_apart : (gone came : List Cell) (how : Touch) (from to a b at : ℕ)
    → ((one : ℕ) → a ≤ one → one < b → IsBeside from to one) → from ≤ at → at < to
    → FitsTouch gone came at (touched how a b at)
fits_apart gone came how from to a b at beside begins ends =
    kept_fits gone came at (touched how a b at) (kept_within how from to a b at beside begins ends)

-- so they fit one address beside it
pub fits_one_apart : (gone came : List Cell) (how : Touch) (from to one at : ℕ) → IsBeside from to one → from ≤ at
    → at < to → FitsTouch gone came at (touched_one how one at)
fits_one_apart gone came how from to one at beside begins ends =
    fits_apart gone came how from to one (one + 1) at (λ a above below.
    let same : one ≡ a = omega (arith, above, below) in subst (IsBeside from to) same beside) begins ends

-- where no cell was made, no word of one was touched
pub none_made : (old : Heap) (touch : ℕ → Touch) → TouchesMade old 0 0 [] touch
none_made old touch = record {
  fillers = λ at below above ends. absurd (omega (arith, ends));
  covers = λ at above ends. absurd (omega (arith, ends));
  within = λ at slot. absurd (none_in slot.cell slot.among);
  stored = λ at below above ends is. absurd (omega (arith, ends));
  slots = λ at below slot. absurd (none_in slot.cell slot.among);
}

-- a slot that was put stays so by a later touch that fits
again_slot : (made : List Cell) (at : ℕ) (first next : Touch) → FitsTouch made made at next → IsSlotOfOne made at
    → first ≡ Touch.Stored → touched_again first next ≡ Touch.Stored
again_slot made at first Touch.Kept fits slot is = is
again_slot made at first Touch.Stored fits slot is = refl
again_slot made at first Touch.Wiped fits slot is = absurd (fits.1 slot)

-- where the run was touched as it has to be, and then so that each of its addresses fits, it is as it has to be
pub made_then : {old : Heap} {from to : ℕ} {made : List Cell} (touch next : ℕ → Touch)
    → TouchesMade old from to made touch
    → ((at : ℕ) → at < eden_start old.space → from ≤ at → at < to → FitsTouch made made at (next at))
    → TouchesMade old from to made (touched_then touch next)
made_then {made = made} touch next of_made fits = record {
  fillers = of_made.fillers;
  covers = of_made.covers;
  within = of_made.within;
  stored = λ at below begins ends is. elim (then_cases touch next at) [
    | inl later ↦ (subst (FitsTouch made made at) (sym later ∙ is) (fits at below begins ends)).1
    | inr earlier ↦ of_made.stored at below begins ends (sym earlier.1 ∙ is)
  ];
  slots = λ at below slot.
      let within = of_made.within at slot in
      again_slot made at (touch at) (next at) (fits at below within.0 within.1) slot (of_made.slots at below slot);
}

-- a cell that is no filler does not begin in the run
pub begins_beside : {old : Heap} {from to : ℕ} {made : List Cell} {touch : ℕ → Touch} {cell : Cell} {words : List ℕ}
    → TouchesMade old from to made touch → HasCell old cell words → cell.layout.kind ≢ kind.Filler
    → cell.at < eden_start old.space → IsBeside from to cell.at
begins_beside {cell = cell} of_made has no_filler below begins ends =
    let one = of_made.fillers cell.at below begins ends in
    let same : one.cell ≡ cell = one_at one.has has one.stands in
    no_filler (ap (λ (c : Cell). c.layout.kind) (sym same) ∙ one.filler)

-- so a change of cells is remembered
pub remembers : {old new : Mutator} {gone came made : List Cell} {from to : ℕ} (touch : ℕ → Touch)
    → Touches old new touch → TouchesBeside (eden_start old.seat.space) from to gone came touch
    → TouchesMade (heap_of old) from to made touch → Remembers old new gone came made
remembers {from = from} {to} touch touches beside of_made = record {
  touch = touch;
  touches = touches;
  cells = record { from = from; to = to; beside = beside; of_made = of_made };
}
