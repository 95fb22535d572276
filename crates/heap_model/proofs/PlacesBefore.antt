-- The places of objects in the new heap: those of objects that were there stood before.
use Rattle.std.proofs.Common.{ℕ, List, Contains, ◌∙◌, ap, arith, ◌<◌, ◌≤◌}
use Rattle.std.proofs.Common.{IsTrue, inl, inr}
use Rattle.std.proofs.lemmas.List.Elements.{Contains-append_cases}
use Rattle.heap_model.specs.Types.{Cell}
use Rattle.heap_model.specs.Heaps.{Heap, words_of_cell}
use Rattle.tagged_word.specs.Cells.{is_object_kind}
use Rattle.heap_model.specs.Slots.{IsPlace, RefersToPlace}
use Rattle.heap_model.proofs.Moves.{Moves}

-- the objects that were made have numbers from this one on
abbrev pub AreNumberedFrom : ℕ → List Cell → Type 0
AreNumberedFrom count made =
    (cell : Cell) → Contains made cell → IsTrue (is_object_kind cell.layout.kind) → count ≤ cell.header.object

-- a place of an object of a lower number was its place before
pub place_before : {old new : Heap} {gone came made : List Cell} {number at : ℕ} (count : ℕ)
    → Moves old new gone came made
    → AreNumberedFrom count made → number < count → IsPlace new number at → IsPlace old number at
place_before {old} {new} {gone} {came} {made} {number} {at} count moves numbered below place =
    elim (moves.cells.back place.cell place.words place.has) [
      | inl comes ↦ elim (Contains-append_cases came made place.cell comes) [
        | inl in_came ↦
            let still = moves.own.objects_stood place.cell in_came place.object in
            record {
              cell = still.other;
              words = words_of_cell old still.other;
              has = moves.cells.went still.other still.among;
              stands = still.place ∙ place.stands;
              object = ap is_object_kind still.of_kind ∙ place.object;
              carries = still.number ∙ place.carries;
            }
        | inr in_made ↦ absurd (omega (arith, numbered place.cell in_made place.object, place.carries, below))
      ]
      | inr stays ↦ record {
        cell = place.cell;
        words = place.words;
        has = stays.0;
        stands = place.stands;
        object = place.object;
        carries = place.carries;
      }
    ]

-- so it is of what refers to it
pub refers_to_place_before : {old new : Heap} {gone came made : List Cell} {word number : ℕ} (count : ℕ)
    → Moves old new gone came made → AreNumberedFrom count made → number < count → RefersToPlace new word number
    → RefersToPlace old word number
refers_to_place_before count moves numbered below refers =
    record { at = refers.at; refers = refers.refers; place = place_before count moves numbered below refers.place }
