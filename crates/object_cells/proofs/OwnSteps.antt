-- The cell of one object became another of it, and of the cells that went beside it, came or were made none is an
-- object's: objects keep their places, and all that went is the object's own.
use Rattle.std.proofs.Common.{◌≡◌, ℕ, ◌⊎◌, false, List, ◌∷◌, ◌++◌, Contains, IsTrue, inl, inr, refl, sym, ◌∙◌, ap}
use Rattle.std.proofs.lemmas.Bool.{false≢true}
use Rattle.std.proofs.lemmas.List.Elements.{Contains-append_left, Contains-append_cases}
use Rattle.heap_model.specs.Types.{Kind, Cell}
use Rattle.tagged_word.specs.declared.layout.Kind.TheVariants as kind
use Rattle.tagged_word.proofs.Members.{first_in, rest_in, in_cases}
use Rattle.heap_model.specs.Heaps.{Heap, HasCell, words_of_cell}
use Rattle.tagged_word.specs.Cells.{is_object_kind}
use Rattle.heap_model.specs.Kinds.{IsProtoWord}
use Rattle.heap_model.specs.Wholeness.{Whole, NamesFrom, IsOwnedKind}
use Rattle.heap_model.specs.Changes.{CellsChange, IsOwnOf, IsStill, IsStillBox}
use Rattle.heap_model.proofs.CellOutcomes.{cells_move, ObjectsStay, places_stay, proto_stays, box_not_gone}
use Rattle.heap_model.proofs.WordsStay.{PlacesStay, BoxStays}
use Rattle.object_cells.specs.CellWrites.{Owns, WritesOwnCells}
use Rattle.object_cells.specs.OwnSlots.{IsNoBoxOf}
use Rattle.object_cells.proofs.ObjectWrites.{WritesObject}
use Rattle.object_cells.proofs.OwnerWrites.{writes_own, written_own_keeps_cells}

-- a cell that belongs to an object is none
pub owned_is_no_object : (k : Kind) → IsOwnedKind k → is_object_kind k ≡ false
owned_is_no_object kind.Store owned = refl
owned_is_no_object kind.Table owned = refl
owned_is_no_object kind.Boxed owned = refl
owned_is_no_object _ owned = absurd owned

-- The object's cell became the other, of the same kind, those beside it these, and others were made.
pub record OwnStep (old new : Heap) (cell came : Cell) (others beside made : List Cell) : Type 0 where
  pub whole : Whole old
  pub cells : CellsChange old new (cell ∷ others) (came ∷ beside) made
  pub object : IsTrue (is_object_kind cell.layout.kind)
  pub same_kind : came.layout.kind ≡ cell.layout.kind
  pub place : came.at ≡ cell.at
  pub number : came.header.object ≡ cell.header.object
  pub went_none : (other : Cell) → Contains others other → is_object_kind other.layout.kind ≡ false
  pub boxes : (other : Cell) → Contains others other → other.layout.kind ≡ kind.Boxed → Contains beside other

module _ {old new : Heap} {cell came : Cell} {others beside made : List Cell}
    (step : OwnStep old new cell came others beside made) where
  -- the object's cell stood
  pub stood : HasCell old cell (words_of_cell old cell)
  stood = step.cells.went cell (first_in cell others)

  -- and what it became stands
  pub stands : HasCell new came (words_of_cell new came)
  stands = step.cells.comes came (first_in came (beside ++ made))

  -- it is an object's
  pub still_object : IsTrue (is_object_kind came.layout.kind)
  still_object = ap is_object_kind step.same_kind ∙ step.object

  -- of the cells that went, only the object's own is an object's
  pub went_object : (one : Cell) → Contains (cell ∷ others) one → IsTrue (is_object_kind one.layout.kind) → cell ≡ one
  went_object one there object = elim (in_cases cell others one there) [
    | inl same ↦ same
    | inr among ↦ absurd (false≢true (sym (step.went_none one among) ∙ object))
  ]

  -- so each object that went stands where it stood
  pub objects_stay : ObjectsStay (cell ∷ others) (came ∷ beside)
  objects_stay one there object =
      let same : cell ≡ one = went_object one there object in
      record {
        other = came;
        among = first_in came beside;
        place = step.place ∙ ap (λ (c : Cell). c.at) same;
        of_kind = step.same_kind ∙ ap (λ (c : Cell). c.layout.kind) same;
        number = step.number ∙ ap (λ (c : Cell). c.header.object) same;
      }

  -- and the places of objects stay
  pub own_places_stay : PlacesStay old new
  own_places_stay = places_stay (cells_move step.cells) objects_stay

  -- what the slot of a prototype may hold it may hold then
  pub own_proto_stays : (word : ℕ) → IsProtoWord old word → IsProtoWord new word
  own_proto_stays word is = proto_stays word (cells_move step.cells) objects_stay is

  -- the object's cell is no box
  own_is_no_box : (one : Cell) → cell ≡ one → one.layout.kind ≡ kind.Boxed → ⊥
  own_is_no_box one same box =
      let object = ap (λ (c : Cell). is_object_kind c.layout.kind) (sym same) ∙ step.object in
      false≢true (sym (ap is_object_kind box) ∙ object)

  -- each box that went came again
  pub boxes_came : (one : Cell) → Contains (cell ∷ others) one → one.layout.kind ≡ kind.Boxed
      → IsStillBox (came ∷ beside) one
  boxes_came one there box = elim (in_cases cell others one there) [
    | inl same ↦ absurd (own_is_no_box one same box)
    | inr among ↦ record {
      other = one;
      among = rest_in came beside one (step.boxes one among box);
      place = refl;
      box = box;
    }
  ]

  -- the box to which a word refers stays where it is none of those that went
  pub own_box_stays : (word : ℕ) → IsNoBoxOf others word → BoxStays old new word
  own_box_stays word no_box v box = box_not_gone (cells_move step.cells) box (λ went.
      elim (in_cases cell others box.cell went) [
        | inl same ↦ own_is_no_box box.cell same box.box
        | inr among ↦ no_box box.cell among box.box box.target.refers
      ])

-- The cells that went beside the object's are its own, and of those that came or were made none is an object's.
pub record OwnWriting (old new : Heap) (cell came : Cell) (others beside made : List Cell) : Type 0 where
  pub step : OwnStep old new cell came others beside made
  pub belong : (other : Cell) → Contains others other → (slot : ℕ) × NamesFrom old cell slot other.at
  pub came_none : (other : Cell) → Contains (beside ++ made) other → is_object_kind other.layout.kind ≡ false

module _ {old new : Heap} {cell came : Cell} {others beside made : List Cell}
    (writing : OwnWriting old new cell came others beside made) where
  -- of those that came or were made, only what the object's became is an object's
  pub came_object : (one : Cell) → Contains (came ∷ (beside ++ made)) one → IsTrue (is_object_kind one.layout.kind)
      → came ≡ one
  came_object one there object = elim (in_cases came (beside ++ made) one there) [
    | inl same ↦ same
    | inr among ↦ absurd (false≢true (sym (writing.came_none one among) ∙ object))
  ]

  -- which stood where it stands
  pub came_stood : (one : Cell) → Contains (came ∷ beside) one → IsTrue (is_object_kind one.layout.kind)
      → IsStill (cell ∷ others) one
  came_stood one there object =
      let same = came_object one (Contains-append_left (came ∷ beside) made one there) object in
      record {
        other = cell;
        among = first_in cell others;
        place = sym writing.step.place ∙ ap (λ (c : Cell). c.at) same;
        of_kind = sym writing.step.same_kind ∙ ap (λ (c : Cell). c.layout.kind) same;
        number = sym writing.step.number ∙ ap (λ (c : Cell). c.header.object) same;
      }

  -- all that went is the object's own
  pub went_own : (one : Cell) → Contains (cell ∷ others) one → IsOwnOf old (cell ∷ others) one
  went_own one there = record {
    owner = cell;
    among = first_in cell others;
    object = writing.step.object;
    own = elim (in_cases cell others one there) [
      | inl same ↦ inl (sym same)
      | inr among ↦ inr (writing.belong one among)
    ];
  }

module _ {owner owned : Kind} {old new : Heap} {cell came : Cell} {others made : List Cell} (owns : Owns owner owned)
    (whole : Whole old) (writes : WritesOwnCells owner owned old new cell came others made) where
  -- so it is where words of an object's own cells were written
  pub own_step : OwnStep old new cell came others others made
  own_step =
      let all : WritesObject old new cell came others made = writes_own owns whole writes in
      record {
        whole = whole;
        cells = (written_own_keeps_cells owns whole writes).1;
        object = all.object;
        same_kind = all.same_kind;
        place = all.place;
        number = all.number;
        went_none = λ other among. owned_is_no_object other.layout.kind (all.beside other among).owned;
        boxes = λ other among box. among;
      }

  -- the places of objects stay
  pub written_places_stay : PlacesStay old new
  written_places_stay = own_places_stay own_step

  -- and each box that is not written goes on holding its integer
  pub written_box_stays : (word : ℕ) → IsNoBoxOf others word → BoxStays old new word
  written_box_stays word no_box = own_box_stays own_step word no_box

  -- a box, or what an object of the kind owns, is no object
  pub of_kind_is_no_object : (other : Cell) → (other.layout.kind ≡ owned) ⊎ (other.layout.kind ≡ kind.Boxed)
      → is_object_kind other.layout.kind ≡ false
  of_kind_is_no_object other (inl is) = ap is_object_kind is ∙ owned_is_no_object owned owns.belongs
  of_kind_is_no_object other (inr is) = ap is_object_kind is

  -- where the cells belong to the object and stores, tables and boxes were made, they are its own
  pub own_writing : ((other : Cell) → Contains others other → (slot : ℕ) × NamesFrom old cell slot other.at)
      → ((other : Cell) → Contains made other → (other.layout.kind ≡ owned) ⊎ (other.layout.kind ≡ kind.Boxed))
      → OwnWriting old new cell came others others made
  own_writing belong kinds = record {
    step = own_step;
    belong = belong;
    came_none = λ other among. elim (Contains-append_cases others made other among) [
      | inl there ↦ of_kind_is_no_object other (writes.beside other there).of_kind
      | inr there ↦ of_kind_is_no_object other (kinds other there)
    ];
  }
