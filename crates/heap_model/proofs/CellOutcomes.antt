-- What a change of cells does to each cell that is no filler: it went, or it stands as before. Places of objects stay,
-- and boxes that did not go.
use Rattle.std.proofs.Common.{◌≡◌, ◌≢◌, ℕ, ◌⊎◌, inl, inr, List, [], ◌∷◌, ◌++◌, Contains}
use Rattle.std.proofs.Common.{IsTrue, ℤ}
use Rattle.std.proofs.Common.{refl, sym, ◌∙◌, ap, subst, arith}
use Rattle.std.proofs.lemmas.Bool.{cases_eq, false≢true}
use Rattle.std.proofs.lemmas.List.Elements.{Contains-append_left}
use Rattle.tagged_word.specs.declared.layout.Kind.TheVariants as kind
use Rattle.tagged_word.proofs.Members.{first_in, rest_in, in_cases}
use Rattle.heap_model.specs.Types.{Kind, Path, Cell}
use Rattle.heap_model.specs.Heaps.{Heap, HasCell, words_of_cell}
use Rattle.tagged_word.specs.Cells.{is_object_kind}
use Rattle.heap_model.specs.Slots.{reference_word, RefersToBox}
use Rattle.heap_model.specs.Kinds.{IsProtoWord}
use Rattle.heap_model.specs.Wholeness.{IsOwnedKind}
use Rattle.heap_model.specs.Changes.{CellsChange, IsFilledIn, IsStill}
use Rattle.heap_model.proofs.CellsApart.{one_at}
use Rattle.heap_model.proofs.WordsStay.{PlacesStay, BoxStays}

-- what a change of cells says of the cells and the paths, not of the roots
pub record CellsMove (old new : Heap) (gone came made : List Cell) : Type 0 where
  pub more : List Path
  pub paths : new.paths ≡ old.paths ++ more
  pub went : (cell : Cell) → Contains gone cell → HasCell old cell (words_of_cell old cell)
  pub comes : (cell : Cell) → Contains (came ++ made) cell → HasCell new cell (words_of_cell new cell)
  pub kept : (cell : Cell) (words : List ℕ) → HasCell old cell words → (Contains gone cell → ⊥)
      → (IsFilledIn made cell → ⊥) → HasCell new cell words
  pub back : (cell : Cell) (words : List ℕ) → HasCell new cell words
      → Contains (came ++ made) cell ⊎ (HasCell old cell words × (Contains gone cell → ⊥))

-- a change of cells says that
pub cells_move : {old new : Heap} {gone came made : List Cell} → CellsChange old new gone came made
    → CellsMove old new gone came made
cells_move change = record {
  more = change.more;
  paths = change.paths;
  went = change.went;
  comes = change.comes;
  kept = change.kept;
  back = change.back;
}

-- an object's cell is no filler
pub object_is_no_filler : (k : Kind) → IsTrue (is_object_kind k) → k ≢ kind.Filler
object_is_no_filler k object filler = false≢true (sym (ap is_object_kind filler) ∙ object)

-- nor is one that belongs to an object
pub owned_is_no_filler : (k : Kind) → IsOwnedKind k → k ≢ kind.Filler
owned_is_no_filler k owned filler = subst IsOwnedKind filler owned

-- nor is a box
pub box_is_no_filler : (k : Kind) → k ≡ kind.Boxed → k ≢ kind.Filler
box_is_no_filler k box = owned_is_no_filler k (subst IsOwnedKind (sym box) tt)

-- a cell that is no filler and did not go stands as before
pub stays_standing : {old new : Heap} {gone came made : List Cell} {cell : Cell} {words : List ℕ}
    → CellsMove old new gone came made → HasCell old cell words → cell.layout.kind ≢ kind.Filler
    → (Contains gone cell → ⊥) → HasCell new cell words
stays_standing {cell = cell} {words} cells has no_filler not_gone =
    cells.kept cell words has not_gone (λ filled. no_filler filled.filler)

-- Among these cells one stands at the address, or none does.
data IsAmong (cells : List Cell) (at : ℕ) : Type 0 where
  found : (cell : Cell) → Contains cells cell → cell.at ≡ at → IsAmong cells at
  missing : ((cell : Cell) → Contains cells cell → cell.at ≡ at → ⊥) → IsAmong cells at

-- so it is with a cell more that stands elsewhere
among_later : (first : Cell) (cells : List Cell) (at : ℕ) → (first.at ≡ at → ⊥) → IsAmong cells at
    → IsAmong (first ∷ cells) at
among_later first cells at apart (IsAmong.found cell among same) =
    IsAmong.found cell (rest_in first cells cell among) same
among_later first cells at apart (IsAmong.missing none) =
    IsAmong.missing (λ cell among same. elim (in_cases first cells cell among) [
      | inl is ↦ apart (ap (λ (one : Cell). one.at) is ∙ same)
      | inr later ↦ none cell later same
    ])

-- a cell stands at the address, or none does
among : (cells : List Cell) (at : ℕ) → IsAmong cells at
among [] at = IsAmong.missing (λ cell there same. absurd (omega (arith, there.1)))
among (first ∷ cells) at =
    elim (cases_eq first.at at) [
      | inl same ↦ IsAmong.found first (first_in first cells) same
      | inr apart ↦ among_later first cells at apart (among cells at)
    ]

-- A cell of the old heap went, or it stands in the new one as it was.
pub data Fate (new : Heap) (gone : List Cell) (cell : Cell) (words : List ℕ) : Type 0 where
  has_gone : Contains gone cell → Fate new gone cell words
  stands : HasCell new cell words → (Contains gone cell → ⊥) → Fate new gone cell words

-- what stands among the cells that went at the address of a cell is that cell
fate_of : {old new : Heap} {gone came made : List Cell} {cell : Cell} {words : List ℕ}
    → CellsMove old new gone came made → HasCell old cell words → cell.layout.kind ≢ kind.Filler
    → IsAmong gone cell.at → Fate new gone cell words
fate_of {gone = gone} cells has no_filler (IsAmong.found other among same) =
    Fate.has_gone (subst (Contains gone) (one_at (cells.went other among) has same) among)
fate_of {gone = gone} {cell = cell} cells has no_filler (IsAmong.missing none) =
    let stays = λ (there : Contains gone cell). none cell there refl in
    Fate.stands (stays_standing cells has no_filler stays) stays

-- each cell of the old heap that is no filler went or stands
pub fate : {old new : Heap} {gone came made : List Cell} {cell : Cell} {words : List ℕ}
    → CellsMove old new gone came made → HasCell old cell words → cell.layout.kind ≢ kind.Filler
    → Fate new gone cell words
fate {gone = gone} {cell = cell} cells has no_filler = fate_of cells has no_filler (among gone cell.at)

-- each object that went stands where it stood
abbrev pub ObjectsStay : List Cell → List Cell → Type 0
ObjectsStay gone came =
    (cell : Cell) → Contains gone cell → IsTrue (is_object_kind cell.layout.kind) → IsStill came cell

-- the place of an object stays
pub places_stay : {old new : Heap} {gone came made : List Cell} → CellsMove old new gone came made
    → ObjectsStay gone came → PlacesStay old new
places_stay {old} {new} {gone} {came} {made} cells stay number at place =
    elim (fate cells place.has (object_is_no_filler place.cell.layout.kind place.object)) [
      | Fate.has_gone there ↦
          let still = stay place.cell there place.object in
          record {
            cell = still.other;
            words = words_of_cell new still.other;
            has = cells.comes still.other (Contains-append_left came made still.other still.among);
            stands = still.place ∙ place.stands;
            object = ap is_object_kind still.of_kind ∙ place.object;
            carries = still.number ∙ place.carries;
          }
      | Fate.stands has not_gone ↦ record {
        cell = place.cell;
        words = place.words;
        has = has;
        stands = place.stands;
        object = place.object;
        carries = place.carries;
      }
    ]

-- the word of a prototype slot stays one
pub proto_stays : {old new : Heap} {gone came made : List Cell} (word : ℕ) → CellsMove old new gone came made
    → ObjectsStay gone came → IsProtoWord old word → IsProtoWord new word
proto_stays word cells stay IsProtoWord.none = IsProtoWord.none
proto_stays {new = new} {came = came} {made} word cells stay (IsProtoWord.plain to cell words refers is) =
    let object : IsTrue (is_object_kind cell.layout.kind) = ap is_object_kind is in
    elim (fate cells refers.has (object_is_no_filler cell.layout.kind object)) [
      | Fate.has_gone there ↦
          let still = stay cell there object in
          IsProtoWord.plain word still.other (words_of_cell new still.other)
          (record {
            refers = refers.refers ∙ ap reference_word (sym still.place);
            has = cells.comes still.other (Contains-append_left came made still.other still.among);
          }) (still.of_kind ∙ is)
      | Fate.stands has not_gone ↦
          IsProtoWord.plain word cell words (record { refers = refers.refers; has = has }) is
    ]

-- a box that did not go stays
pub box_not_gone : {old new : Heap} {gone came made : List Cell} {word : ℕ} {v : ℤ} → CellsMove old new gone came made
    → (box : RefersToBox old word v) → (Contains gone box.cell → ⊥) → RefersToBox new word v
box_not_gone cells box not_gone = record {
  cell = box.cell;
  words = box.words;
  target = record {
    refers = box.target.refers;
    has = stays_standing cells box.target.has (box_is_no_filler box.cell.layout.kind box.box) not_gone;
  };
  box = box.box;
  holds = box.holds;
  fits = box.fits;
}

-- each box stays where none went
pub boxes_stay : {old new : Heap} {gone came made : List Cell} (word : ℕ) → CellsMove old new gone came made
    → ((cell : Cell) → Contains gone cell → cell.layout.kind ≢ kind.Boxed) → BoxStays old new word
boxes_stay word cells none v box = box_not_gone cells box (λ there. none box.cell there box.box)
