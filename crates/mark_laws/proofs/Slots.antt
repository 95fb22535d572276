-- The tagged slots of cells, one by one, and words that are put in a list.
use Rattle.std.proofs.Common.{ℕ, ◌+◌, ◌<◌, ◌≤◌, ◌≡◌, ◌&&◌, inl, inr, Bool, true, false}
use Rattle.std.proofs.Common.{IsTrue, List, slice_index, slice_set, Option, Some, None, IfSome, IsSomeAnd, All}
use Rattle.std.proofs.Common.{Contains, ◌≢◌, length, min, refl, subst, arith}
use Rattle.std.proofs.lemmas.List.{get_or-set_same}
use Rattle.std.proofs.lemmas.List.Elements.{All-contains}
use Rattle.mark_laws.specs.Types.{Reading, World}
use Rattle.tagged_word.proofs.Cells.{slot_within, tagged_is_scavenged}
use Rattle.tagged_word.proofs.CellReadings.{cell_from}
use Rattle.mark_world.specs.Pages.{is_free, is_head, is_head_of, is_inside, offset_in, page_end, slots_of}
use Rattle.mark_world.specs.Steps.{black, grey, white}
use Rattle.mark_world.specs.AfterEvents.{IsMarked}
use Rattle.mark_world.specs.Coverage.{EachSlot, cell_of, colour_of}
use Rattle.mark_world.specs.Soundness.{HasCells}
use Rattle.mark_laws.proofs.Starts.{free_or_mine, value_of}
use Rattle.mark_laws.proofs.Joins.{all_from}

-- what holds of each value that an option may have holds of what there may be
pub some_from : {X : Type 0} (P : X → Type 0) (o : Option X) → ((x : X) → o ≡ Some x → P x) → IfSome o P
some_from P None each = tt
some_from P (Some x) each = each x refl

-- what holds of what there may be holds of the value that there is
pub some_at : {X : Type 0} (P : X → Type 0) (o : Option X) (x : X) → o ≡ Some x → IfSome o P → P x
some_at {X} P o x e h = subst (λ (some : Option X). IfSome some P) e h

-- what holds of the value that there is is known of one
pub and_some : {X : Type 0} (P : X → Type 0) (o : Option X) (x : X) → o ≡ Some x → P x → IsSomeAnd o P
and_some P None x e h = cc
and_some {X} P (Some y) x e h = let same : x ≡ y = cc in subst P same h

-- what holds of each tagged slot of the cell that is read, by its offset, holds of each slot
pub each_slot : (world : World) (at : ℕ) (P : ℕ → ℕ → Type 0)
    → ((cell : Reading) → cell_of world at ≡ Some cell → (offset : ℕ) → Contains (slots_of cell) offset
    → P offset (slice_index world.words (at + offset)))
    → EachSlot world at P
each_slot world at P each =
    some_from (λ (cell : Reading). All (λ offset. P offset (slice_index world.words (at + offset))) (slots_of cell))
    (cell_of world at)
    (λ cell e. all_from (λ offset. P offset (slice_index world.words (at + offset))) (slots_of cell) (each cell e))

-- a tagged slot lies behind the header, and in the cell
pub slot_inside : (world : World) (at : ℕ) (cell : Reading) (offset : ℕ) → cell_of world at ≡ Some cell
    → Contains (slots_of cell) offset → (1 ≤ offset) × (offset < cell.size)
slot_inside world at cell offset e there =
    let reads = cell_from world.words world.layouts at (min world.old (page_end at)) cell e in
    slot_within cell.layout cell.length cell.size offset reads.is_layout reads.sized
    (tagged_is_scavenged cell.layout cell.length offset there)

-- a tagged slot is among the words
pub slot_there : (world : World) (at : ℕ) (cell : Reading) (offset : ℕ) → cell_of world at ≡ Some cell
    → Contains (slots_of cell) offset → at + offset < length world.words
slot_there world at cell offset e there =
    let reads = cell_from world.words world.layouts at (min world.old (page_end at)) cell e in
    let inside = slot_inside world at cell offset e there in
    omega (arith, inside.1, reads.there)

-- the number that was put stands there
pub put_there : (list : List ℕ) (at word k : ℕ) → k ≡ at → at < length list
    → slice_index (slice_set list at word) k ≡ word
put_there list at word k same within =
    subst (λ (i : ℕ). slice_index (slice_set list at word) i ≡ word) (let e : at ≡ k = omega (arith, same) in e)
    (get_or-set_same list at word 0 within)

-- nothing holds beside what is false
false_and : (test other : Bool) → test ≡ false → (test && other) ≡ false
false_and true other e = cc
false_and false other e = refl

-- a word that lies outside a cell is no head of it
pub outside_no_head : (start : ℕ) (cell : Reading) (at : ℕ) → is_inside start (Some cell) at ≡ false
    → is_head_of start (Some cell) at ≡ false
outside_no_head start cell at outside =
    false_and (is_inside start (Some cell) at) (is_head cell (offset_in start at)) outside

-- a published grey cell is a free start, since what the mutator made black is black
pub grey_free : (world : World) → HasCells world → (at : ℕ) → Contains world.main.starts at
    → colour_of world at ≡ grey → IsTrue (is_free world.main at)
grey_free world cells at start is_grey = elim (free_or_mine world at start) [
  | inl free ↦ free
  | inr mine ↦
      let is_black : colour_of world at ≡ black = All-contains (λ (a : ℕ). colour_of world a ≡ black) world.main.mine at
      cells.mine_black mine in
      absurd (omega (arith, is_grey, is_black))
]

-- the cell that a free start reads
pub free_cell : (world : World) → HasCells world → (start : ℕ) → IsTrue (is_free world.main start)
    → (cell : Reading) × (cell_of world start ≡ Some cell)
free_cell world cells start free = value_of (cell_of world start) (cells.read start free)

-- a cell that is reached and grey later was grey
abbrev pub WereGrey : World → World → Type 0
WereGrey world later = (at : ℕ) → IsMarked world at → colour_of later at ≡ grey → colour_of world at ≡ grey

-- a reached cell was grey if it is after a step that makes no colour lighter
pub grey_before : (was is : ℕ) → was ≢ white → was ≤ is → is ≡ grey → was ≡ grey
grey_before was is coloured rise later = grind arith
