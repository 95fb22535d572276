-- Snaps of grey cells stay true through stores, and where words stay.
use Rattle.std.proofs.Common.{ℕ, ◌+◌, ◌≡◌, ◌∙◌, ◌⊎◌, inl, inr, true, IsTrue, List}
use Rattle.std.proofs.Common.{slice_index, slice_get, Some, IfSome, Contains, subst}
use Rattle.mark_laws.specs.Types.{Reading, Laid, Snap, HelperView, MainView, World}
use Rattle.tagged_word.specs.Cells.{length_offset, marks_by_length}
use Rattle.tagged_word.proofs.Cells.{some_same}
use Rattle.mark_world.specs.Pages.{slots_of, target}
use Rattle.mark_world.specs.Safety.{laid_in}
use Rattle.mark_world.specs.Steps.{grey}
use Rattle.mark_world.specs.Coverage.{EachSlot, HasCovered, IsCovered, cell_of, colour_of}
use Rattle.mark_world.specs.Soundness.{IsFreshSlot, IsTrueSnap, header_slots}
use Rattle.mark_laws.proofs.Joins.{of_slot}
use Rattle.mark_laws.proofs.Laid.{laid_of}
use Rattle.mark_laws.proofs.Listing.{some_weaker}
use Rattle.mark_laws.proofs.Names.{safe_unmarked, was_header}
use Rattle.mark_laws.proofs.Slots.{each_slot, some_at, some_from}

-- what is covered is covered later
abbrev pub Covers : World → World → Type 0
Covers world later = (at : ℕ) → IsCovered world at → IsCovered later at

-- the snap is true, if its cell is grey
abbrev pub GreyTrue : World → Snap → Type 0
GreyTrue world snap = colour_of world snap.cell ≡ grey → IsTrueSnap world snap

-- so is the snap of a view, if it has one
abbrev pub ViewTrue : World → HelperView → Type 0
ViewTrue world view = IfSome view.snap (GreyTrue world)

-- what a snap is to tell of a tagged slot of its cell: it is covered, or one of the header read, and not misread
abbrev pub IsTrueSlot : World → Snap → ℕ → ℕ → ℕ → Type 0
IsTrueSlot world snap long offset word =
    HasCovered world word ⊎ (Contains (header_slots world snap long) offset × IsFreshSlot snap offset word)

-- a true snap tells it of each tagged slot
pub true_slot : (world : World) (snap : Snap) (cell : Reading) (offset : ℕ) → IsTrueSnap world snap
    → cell_of world snap.cell ≡ Some cell
    → Contains (slots_of cell) offset
    → IsTrueSlot world snap cell.length offset (slice_index world.words (snap.cell + offset))
true_slot world snap cell offset is_true e there =
    of_slot world snap.cell offset cell (IsTrueSlot world snap cell.length) e there
    (some_at (λ (c : Reading). EachSlot world snap.cell (IsTrueSlot world snap c.length)) (cell_of world snap.cell) cell
    e
    is_true.slots)

-- a snap that tells it of each tagged slot tells it of all
pub true_slots : (world : World) (snap : Snap)
    → ((cell : Reading) → cell_of world snap.cell ≡ Some cell → (offset : ℕ) → Contains (slots_of cell) offset
    → IsTrueSlot world snap cell.length offset (slice_index world.words (snap.cell + offset)))
    → IfSome (cell_of world snap.cell) (λ cell. EachSlot world snap.cell (IsTrueSlot world snap cell.length))
true_slots world snap each =
    some_from (λ (cell : Reading). EachSlot world snap.cell (IsTrueSlot world snap cell.length))
    (cell_of world snap.cell)
    (λ cell e. each_slot world snap.cell (IsTrueSlot world snap cell.length) (λ next f offset there.
    let same : next ≡ cell = some_same f e in
    subst (λ (c : Reading). IsTrueSlot world snap c.length offset (slice_index world.words (snap.cell + offset))) same
    (each next f offset there)))

-- what a snap tells of a slot it tells later, if the slots of the header that was read are the same
pub slot_stays : (world later : World) (snap : Snap) (long other offset word : ℕ)
    → (HasCovered world word → HasCovered later word)
    → (Contains (header_slots world snap long) offset → Contains (header_slots later snap other) offset)
    → IsTrueSlot world snap long offset word → IsTrueSlot later snap other offset word
slot_stays world later snap long other offset word covers slots (inl covered) = inl (covers covered)
slot_stays world later snap long other offset word covers slots (inr fresh) = inr (slots fresh.0, fresh.1)

-- a snap stays true where words and layouts stay
pub kept_true : (world : World) (colours board : List ℕ) (main : MainView) (helpers : List HelperView) (snap : Snap)
    → Covers world (record world { colours = colours; board = board; main = main; helpers = helpers })
    → IsTrueSnap world snap
    → IsTrueSnap (record world { colours = colours; board = board; main = main; helpers = helpers }) snap
kept_true world colours board main helpers snap covers is_true =
    let later : World = record world { colours = colours; board = board; main = main; helpers = helpers } in
    record {
      header = is_true.header;
      layout = is_true.layout;
      length = is_true.length;
      slots = true_slots later snap (λ cell e offset there.
          let word : ℕ = slice_index world.words (snap.cell + offset) in
          slot_stays world later snap cell.length cell.length offset word
          (some_weaker (IsCovered world) (IsCovered later) (target world.old word) covers) (λ c. c)
          (true_slot world snap cell offset is_true e there));
    }

-- the length that was read stands where the second word of a cell with a length does
pub length_stays : (world : World) (words : List ℕ) (snap : Snap) (cell : Reading) → IsTrueSnap world snap
    → cell_of world snap.cell ≡ Some cell
    → (marks_by_length cell.layout.kind ≡ true
    → slice_get words (snap.cell + length_offset) ≡ slice_get world.words (snap.cell + length_offset))
    → IfSome snap.length (λ long. IfSome (laid_in world.layouts snap.header) (λ laid.
    IsTrue (marks_by_length laid.layout.kind) → slice_get words (snap.cell + length_offset) ≡ Some long))
length_stays world words snap cell is_true e stays =
    let was = was_header world snap cell is_true e in
    let P : List ℕ → ℕ → Laid → Type 0 = λ ws n l.
    IsTrue (marks_by_length l.layout.kind) → slice_get ws (snap.cell + length_offset) ≡ Some n in
    some_from (λ (n : ℕ). IfSome (laid_in world.layouts snap.header) (P words n)) snap.length (λ n e1.
    some_from (P words n) (laid_in world.layouts snap.header) (λ laid e2 marks.
    let stood = some_at (P world.words n) (laid_in world.layouts snap.header) laid e2
    (some_at (λ (m : ℕ). IfSome (laid_in world.layouts snap.header) (P world.words m)) snap.length n e1 is_true.length)
    marks in
    let is : laid ≡ was.laid = some_same e2 was.is in
    elim was.still [
      | inl same ↦ stays (subst (λ (l : Laid). marks_by_length l.layout.kind ≡ true) (is ∙ same) marks) ∙ stood
      | inr change ↦ absurd (safe_unmarked was.laid (laid_of cell) change
          (subst (λ (l : Laid). marks_by_length l.layout.kind ≡ true) is marks))
    ]))
