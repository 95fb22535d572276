-- Which slots are to do where a cell was copied: those of its copy, and none beside those before.
use Rattle.std.proofs.Common.{ℕ, ◌+◌, ◌<◌, ◌≤◌, ◌≡◌, ◌≢◌, ◌⊎◌, inl, inr, List, ◌∷◌, get_or, Some}
use Rattle.std.proofs.Common.{arith, sym, subst, ◌∙◌}
use Rattle.tagged_word.specs.declared.word.Class.TheVariants.{Ref}
use Rattle.tagged_word.specs.Words.{bits_of}
use Rattle.tagged_word.specs.Readings.{reference_in}
use Rattle.tagged_word.proofs.Members.{first_in, rest_in}
use Rattle.word_store.specs.Copies.{copied}
use Rattle.heap_model.specs.Types.{Cell}
use Rattle.scav_copy.specs.declared.places.Home.{Home}
use Rattle.scav_copy.specs.Places.{Fixed, size_of, IsLaidOut, IsOfCell, StoodAt}
use Rattle.scav_copy.specs.Copies.{with_home}
use Rattle.scav_copy.proofs.Ascending.{new_in, old_in, joined_is}
use Rattle.scav_copy.proofs.Spots.{cell_itself, elsewhere, live_in_no_cell, slot_in_cell}
use Rattle.scavenger.specs.Starts.{Start}
use Rattle.scavenger.specs.Filling.{Front, IsToDo, OthersAreDone}
use Rattle.scavenger.specs.Following.{moved_words}
use Rattle.scavenger.proofs.FollowCopies.{Fills, fills_live, FitsCopy, all_copied, home_at}

-- a slot that is live with one home more was so before, or is one of the new copy
pub live_or_new : {fixed : Fixed} (homes : List Home) (new : Home) (slot place : ℕ)
    → StoodAt fixed (with_home homes new) slot place
    → StoodAt fixed homes slot place ⊎ ((new.to ≤ slot) × (slot < new.to + size_of fixed new.from))
live_or_new homes new slot place (StoodAt.itself there same) = inl (StoodAt.itself there same)
live_or_new {fixed} homes new slot place (StoodAt.in_cell home offset there is e f) =
    let less : offset < size_of fixed home.from = (slot_in_cell fixed home.from offset is).1 in
    elim (joined_is homes new home there) [
      | inl same ↦
          inr (subst (λ (one : Home). (one.to ≤ slot) × (slot < one.to + size_of fixed one.from)) (sym same)
          (omega (arith, e), omega (arith, e, less)))
      | inr among ↦ inl (StoodAt.in_cell home offset among is e f)
    ]

-- a live slot keeps its word where a cell is copied and its header becomes the reference
live_word : {fixed : Fixed} {words : List ℕ} {homes : List Home} {cell : Cell} {to : ℕ} (slot place : ℕ)
    → FitsCopy fixed words homes cell to → StoodAt fixed homes slot place
    → get_or (moved_words words cell to) slot 0 ≡ get_or words slot 0
live_word {fixed} {words} {cell = cell} {to} slot place fits stood =
    let apart : slot ≢ cell.at = λ same.
    live_in_no_cell slot place fits.laid fits.copying stood
    (cell.at, fits.is, subst (IsOfCell fixed cell.at) (sym same) (cell_itself cell.at fits.laid fits.is)) in
    elsewhere (copied words cell.at to cell.size) cell.at (bits_of (Ref to)) slot apart
    ∙ fills_live slot place fits.laid stood (all_copied fits)

-- what is to do stays so with one home more, which is on the list
pub to_do_more : {start : Start} {fixed : Fixed} {homes : List Home} {todo : List ℕ} {front : Front} (slot : ℕ)
    (new : Home) → IsToDo start fixed homes todo front slot
    → IsToDo start fixed (with_home homes new) (new.to ∷ todo) front slot
to_do_more slot new (IsToDo.root from) = IsToDo.root from
to_do_more slot new (IsToDo.recorded from below there) = IsToDo.recorded from below there
to_do_more slot new (IsToDo.at_hand from below) = IsToDo.at_hand from below
to_do_more slot new (IsToDo.left there) = IsToDo.left there
to_do_more {homes = homes} {todo} slot new (IsToDo.listed home there listed inside) =
    IsToDo.listed home (old_in homes new home there) (rest_in new.to todo home.to listed) inside

-- what was to do is so where words are put in rooms
pub others_filled : {start : Start} {fixed : Fixed} {words now : List ℕ} {homes : List Home} {todo : List ℕ}
    {front : Front} → IsLaidOut fixed → Fills fixed homes words now
    → OthersAreDone start fixed words homes todo front → OthersAreDone start fixed now homes todo front
others_filled laid fills others slot place cell stood refers is =
    others slot place cell stood
    (subst (λ (word : ℕ). reference_in word ≡ Some cell) (fills_live slot place laid stood fills) refers) is

-- and where a cell is copied, with the slots of the copy
pub others_copied : {start : Start} {fixed : Fixed} {words : List ℕ} {homes : List Home} {todo : List ℕ}
    {front : Front} {cell : Cell} {to : ℕ} → FitsCopy fixed words homes cell to
    → OthersAreDone start fixed words homes todo front
    → OthersAreDone start fixed (moved_words words cell to) (with_home homes (home_at cell to)) (to ∷ todo) front
others_copied {homes = homes} {todo} {cell = cell} {to} fits others slot place one stood refers is =
    let new : Home = home_at cell to in
    elim (live_or_new homes new slot place stood) [
      | inl stays ↦
          to_do_more slot new (others slot place one stays
          (subst (λ (word : ℕ). reference_in word ≡ Some one) (live_word slot place fits stays) refers) is)
      | inr inside ↦
          IsToDo.listed new (new_in homes new) (first_in to todo) (record { from = inside.0; below = inside.1 })
    ]
