-- A cell's slots name something exactly where it is an object's or flagged.
use Rattle.std.proofs.Common.{◌≡◌, ◌<◌, Bool, true, false, List, Some, length, get_or, refl, sym, ◌∙◌, ap, arith}
use Rattle.std.proofs.lemmas.Bool.{false≢true}
use Rattle.std.proofs.lemmas.Option.{slice_get-get_or, get_or_from_slice_get}
use Rattle.cell_layout.proofs.OneCell.{cells_have_words}
use Rattle.heap_model.specs.Types.{Cell}
use Rattle.heap_model.specs.Heaps.{Heap}
use Rattle.heap_model.specs.Slots.{is_object_kind}
use Rattle.heap_model.specs.Images.{image_heap}
use Rattle.heap_model.proofs.CellsApart.{has_is_cell}
use Rattle.heap_check.specs.Names.{IsNamer, MarksBeside}
use Rattle.heap_check.proofs.owners.is_namer.Goals as goal

-- a cell that is no object's and whose slots name something is flagged
flagged : {heap : Heap} {cell : Cell} {flags : List Bool} → IsNamer heap cell
    → is_object_kind cell.layout.kind ≡ false → MarksBeside heap flags → get_or flags cell.at false ≡ true
flagged (IsNamer.object is) none marks = absurd (false≢true (sym none ∙ is))
flagged {cell = cell} {flags} (IsNamer.beside is) none marks =
    get_or_from_slice_get flags cell.at true false (marks.each cell.at is)

pub returns-then-is_object : goal.returns-then-is_object
returns-then-is_object c =
    (λ is. IsNamer.object (sym c.is_object.ensures ∙ c.if-is_object.true), λ namer. refl)

pub bounds-beside-cell : goal.bounds-beside-cell
bounds-beside-cell c =
    let heap = image_heap c.args.image.now in
    let is = has_is_cell c.requires.stands in
    omega (
      arith,
      is.reads.there,
      (cells_have_words heap.space heap.words c.args.cell is).0,
      c.requires.beside.as_many,
    )

pub returns : goal.returns
returns c =
    let heap = image_heap c.args.image.now in
    let flags : List Bool = c.args.beside.now in
    let is = has_is_cell c.requires.stands in
    let within : c.args.cell.at < length flags =
    omega (
      arith,
      is.reads.there,
      (cells_have_words heap.space heap.words c.args.cell is).0,
      c.requires.beside.as_many,
    ) in (
      λ set. IsNamer.beside
          (c.requires.beside.only c.args.cell.at
          (slice_get-get_or flags c.args.cell.at false within ∙ ap (λ (flag : Bool). Some flag) set)),
      λ namer. flagged namer (sym c.is_object.ensures ∙ c.if-is_object.false) c.requires.beside,
    )
