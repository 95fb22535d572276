-- What stores of the mutator leave of a free start's cell and its tagged slots.
use Rattle.std.proofs.Common.{ℕ, ◌+◌, ◌<◌, ◌≤◌, ◌≡◌, ◌≢◌, ◌&&◌, ◌||◌, ◌∙◌, ◌⊎◌}
use Rattle.std.proofs.Common.{inl, inr, Bool, true, false, not, IsTrue, List, length, min, slice_index, slice_set}
use Rattle.std.proofs.Common.{Option, Some, Contains, refl, sym, ap, subst, arith}
use Rattle.std.proofs.lemmas.Bool.Decides.{nat_tests}
use Rattle.std.proofs.lemmas.List.Elements.{All-contains}
use Rattle.tagged_word.specs.declared.layout.Kind.TheVariants as kind
use Rattle.mark_laws.specs.Types.{Reading, Laid, MainView, World}
use Rattle.tagged_word.proofs.Cells.{size_bounds, some_same}
use Rattle.tagged_word.proofs.CellReadings.{cell_from}
use Rattle.core_parts.specs.Lists.{is_in}
use Rattle.core_parts.proofs.Joining.{found_in, in_found, not_found, out_not_found}
use Rattle.mark_world.specs.Pages.{EachFree, OfTarget, cell_at, is_free, is_head, is_inside, leaves_alone}
use Rattle.mark_world.specs.Pages.{offset_in, page_end, slots_of}
use Rattle.mark_world.specs.Safety.{IsSafe, laid_in, slots_by}
use Rattle.mark_world.specs.Conditions.{AreSureAfter, MayStoreHeader}
use Rattle.mark_world.specs.Coverage.{cell_of}
use Rattle.mark_world.specs.Soundness.{HasCells}
use Rattle.mark_laws.proofs.Laid.{cell_laid, laid_of, plain_any, safe_from}
use Rattle.mark_laws.proofs.Slots.{put_there, slot_inside}
use Rattle.mark_laws.proofs.Colours.{put_or_stays}

-- the world after the mutator has stored a word, and what it owes then
abbrev pub stored : World → ℕ → ℕ → List ℕ → World
stored world at word owed =
    record world { words = slice_set world.words at word; main = record world.main { owed = owed } }

-- two tests that hold
both_hold : (a b : Bool) → IsTrue (a && not b) → (a ≡ true) × (b ≡ false)
both_hold true true t = cc
both_hold true false t = (refl, refl)
both_hold false b t = cc

-- and together
hold_both : (a b : Bool) → a ≡ true → b ≡ false → IsTrue (a && not b)
hold_both true false s t = refl
hold_both true true s t = cc
hold_both false b s t = cc

-- a free start is published, and the mutator has not made it black
pub free_is : (main : MainView) (at : ℕ) → IsTrue (is_free main at)
    → Contains main.starts at × (Contains main.mine at → ⊥)
free_is main at free =
    let b = both_hold (is_in main.starts at) (is_in main.mine at) free in
    (in_found main.starts at b.0, out_not_found main.mine at b.1)

-- and such a cell is one
pub free_made : (main : MainView) (at : ℕ) → Contains main.starts at → (Contains main.mine at → ⊥)
    → IsTrue (is_free main at)
free_made main at start out =
    hold_both (is_in main.starts at) (is_in main.mine at) (found_in main.starts at start) (not_found main.mine at out)

-- a word in a cell lies inside
pub in_cell : (start : ℕ) (cell : Reading) (at : ℕ) → start ≤ at → at < start + cell.size
    → is_inside start (Some cell) at ≡ true
in_cell start cell at from to = grind (arith, nat_tests)

-- a tagged slot lies inside its cell
slot_in : (world : World) (start : ℕ) (cell : Reading) (offset at : ℕ) → cell_of world start ≡ Some cell
    → Contains (slots_of cell) offset → start + offset ≡ at → is_inside start (Some cell) at ≡ true
slot_in world start cell offset at e there same =
    let inside = slot_inside world start cell offset e there in
    in_cell start cell at (omega (arith, same)) (omega (arith, same, inside.1))

-- a word outside a cell is none of its tagged slots
pub outside_no_slot : (world : World) (start : ℕ) (cell : Reading) (offset at : ℕ) → cell_of world start ≡ Some cell
    → Contains (slots_of cell) offset → start + offset ≡ at → is_inside start (Some cell) at ≡ false → ⊥
outside_no_slot world start cell offset at e there same outside =
    let inside = slot_in world start cell offset at e there same in
    let both : true ≡ false = sym inside ∙ outside in cc

-- a tagged slot inside is not quiet
quiet_no_slot : (inside head slot : Bool) → (not inside || (not head && not slot)) ≡ true → inside ≡ true
    → slot ≡ true → ⊥
quiet_no_slot true true slot e i s = cc
quiet_no_slot true false true e i s = cc
quiet_no_slot true false false e i s = cc
quiet_no_slot false head slot e i s = cc

-- a word that leaves a cell alone is none of its tagged slots
pub alone_no_slot : (world : World) (start : ℕ) (cell : Reading) (offset at : ℕ) → cell_of world start ≡ Some cell
    → Contains (slots_of cell) offset → start + offset ≡ at → leaves_alone start (Some cell) at ≡ true → ⊥
alone_no_slot world start cell offset at e there same alone =
    let is : offset ≡ offset_in start at = omega (arith, same) in
    quiet_no_slot (is_inside start (Some cell) at) (is_head cell (offset_in start at))
    (is_in (slots_of cell) (offset_in start at)) alone (slot_in world start cell offset at e there same)
    (ap (is_in (slots_of cell)) (sym is) ∙ found_in (slots_of cell) offset there)

-- a word that goes where no helper visits goes to no tagged slot of a free start
pub owned_no_slot : (world : World) (start : ℕ) (cell : Reading) (offset at : ℕ) → IsTrue (is_free world.main start)
    → cell_of world start ≡ Some cell
    → (world.old ≤ at) ⊎ EachFree world.main
    (λ s. leaves_alone s (cell_at world.old world.words world.layouts s) at ≡ true)
    → Contains (slots_of cell) offset → start + offset ≡ at → ⊥
owned_no_slot world start cell offset at free e (inl young) there same =
    let ends : start + cell.size ≤ min world.old (page_end start) =
    (cell_from world.words world.layouts start (min world.old (page_end start)) cell e).ends in
    let inside = slot_inside world start cell offset e there in
    omega (arith, ends, young, same, inside.1)
owned_no_slot world start cell offset at free e (inr alone) there same =
    alone_no_slot world start cell offset at e there same
    (subst (λ (c : Option Reading). leaves_alone start c at ≡ true) e (alone start free))

-- a header that changes elsewhere lies outside the cell of a free start
pub header_outside : (world : World) (at word start : ℕ) (cell : Reading) → HasCells world
    → MayStoreHeader world.old world.words world.layouts world.main at word
    → IsTrue (is_free world.main start) → cell_of world start ≡ Some cell
    → start ≢ at → is_inside start (Some cell) at ≡ false
header_outside world at word start cell cells may free e other =
    subst (λ (c : Option Reading). is_inside start c at ≡ false) e (elim may.place [
      | inl is_free_at ↦ cells.apart start free at is_free_at other
      | inr outside ↦ outside start free
    ])

-- a header is among the words of its cell
header_within : (world : World) (at : ℕ) (cell : Reading) → cell_of world at ≡ Some cell → at < length world.words
header_within world at cell e =
    let reads = cell_from world.words world.layouts at (min world.old (page_end at)) cell e in
    let size = size_bounds cell.layout cell.length cell.size reads.sized in
    omega (arith, size.0, reads.there)

-- a cell whose header was changed stands for what the new header does
pub header_laid : (world : World) (at word : ℕ) (owed : List ℕ) (cell new : Reading) → cell_of world at ≡ Some cell
    → cell_of (stored world at word owed) at ≡ Some new → laid_in world.layouts word ≡ Some (laid_of new)
header_laid world at word owed cell new e f =
    subst (λ (w : ℕ). laid_in world.layouts w ≡ Some (laid_of new))
    (put_there world.words at word at refl (header_within world at cell e))
    (cell_laid (stored world at word owed) at new f)

-- what stands at a header that was stored
pub header_there : (world : World) (at word : ℕ) (cell : Reading) → cell_of world at ≡ Some cell
    → slice_index (slice_set world.words at word) at ≡ word
header_there world at word cell e = put_there world.words at word at refl (header_within world at cell e)

-- the words of the tagged slots stay when a header changes
pub header_slot_word : (world : World) (at word : ℕ) (owed : List ℕ) (new : Reading) (offset : ℕ)
    → cell_of (stored world at word owed) at ≡ Some new → Contains (slots_of new) offset
    → slice_index (slice_set world.words at word) (at + offset) ≡ slice_index world.words (at + offset)
header_slot_word world at word owed new offset f there =
    let inside = slot_inside (stored world at word owed) at new offset f there in
    elim (put_or_stays world.words at word (at + offset)) [
      | inl same ↦ absurd (omega (arith, same, inside.0))
      | inr stays ↦ stays
    ]

-- what was tagged before a header changed, or has a target that the mutator is sure of
abbrev pub WasTaggedOrSure : World → ℕ → Reading → ℕ → Type 0
WasTaggedOrSure world at cell offset =
    Contains (slots_of cell) offset
    ⊎ OfTarget world.old (slice_index world.words (at + offset)) (λ to. Contains world.main.sure to)

-- so is each tagged slot after a safe change of a header under which new ones have sure targets
pub changed_header_slot : (world : World) (at word : ℕ) (owed : List ℕ) (cell new : Reading) (offset : ℕ)
    → IsSafe world.layouts (slice_index world.words at) word
    → AreSureAfter world.old world.words world.layouts world.main at word
    → cell_of world at ≡ Some cell → cell_of (stored world at word owed) at ≡ Some new → Contains (slots_of new) offset
    → WasTaggedOrSure world at cell offset
changed_header_slot world at word owed cell new offset is_safe are_sure e f there =
    let safe = safe_from world.layouts (slice_index world.words at) word is_safe in
    let is = header_laid world at word owed cell new e f in
    let was = cell_laid world at cell e in
    let new_plain : new.layout.kind ≡ kind.Plain =
    subst (λ (l : Laid). l.layout.kind ≡ kind.Plain) (some_same safe.is is) safe.change.new_plain in
    let old_plain : cell.layout.kind ≡ kind.Plain =
    subst (λ (l : Laid). l.layout.kind ≡ kind.Plain) (some_same safe.was was) safe.change.old_plain in
    let tagged : Contains (slots_by (laid_in world.layouts word) 0) offset =
    subst (λ (o : Option Laid). Contains (slots_by o 0) offset) (sym is)
    (subst (λ (xs : List ℕ). Contains xs offset) (plain_any new.layout new.length 0 new_plain) there) in
    elim (All-contains (λ (o : ℕ). Contains (slots_by (laid_in world.layouts (slice_index world.words at)) 0) o
    ⊎ OfTarget world.old (slice_index world.words (at + o)) (λ to. Contains world.main.sure to))
    (slots_by (laid_in world.layouts word) 0) offset are_sure tagged) [
      | inl before ↦ inl (subst (λ (xs : List ℕ). Contains xs offset) (plain_any cell.layout 0 cell.length old_plain)
          (subst (λ (o : Option Laid). Contains (slots_by o 0) offset) was before))
      | inr sure ↦ inr sure
    ]

-- so is each tagged slot after the change of a free start's header
pub header_slot : (world : World) (at word : ℕ) (owed : List ℕ) (cell new : Reading) (offset : ℕ)
    → MayStoreHeader world.old world.words world.layouts world.main at word → IsTrue (is_free world.main at)
    → cell_of world at ≡ Some cell → cell_of (stored world at word owed) at ≡ Some new → Contains (slots_of new) offset
    → WasTaggedOrSure world at cell offset
header_slot world at word owed cell new offset may free =
    changed_header_slot world at word owed cell new offset may.safe (may.sure free)
