-- Where objects change inside their own cells, no cell comes to a half that is empty; and an object's own are not free.
use Rattle.std.proofs.Common.{◌≡◌, ℕ, ◌≤◌, ◌<◌, inl, inr, List, Contains, IsTrue}
use Rattle.std.proofs.Common.{◌∙◌, ap, subst, arith}
use Rattle.std.proofs.lemmas.Bool.{false≢true}
use Rattle.std.proofs.lemmas.List.Elements.{Contains-append_cases}
use Rattle.tagged_word.specs.declared.layout.Kind.TheVariants as kind
use Rattle.tagged_word.specs.Cells.{is_free_kind, is_object_kind}
use Rattle.page_space.specs.declared.region.Region.TheVariants.{Segment}
use Rattle.page_space.specs.Extents.{Space, Extent, segments_start}
use Rattle.page_space.proofs.Covering.{disjoint}
use Rattle.page_space.proofs.Standing.{start_of}
use Rattle.page_space.proofs.Placed.{placed}
use Rattle.heap_model.specs.Types.{Kind, Cell, Held}
use Rattle.heap_model.specs.Heaps.{Heap, HasCell, words_of_cell}
use Rattle.heap_model.specs.Wholeness.{HasRows, Whole, IsOwnedKind}
use Rattle.heap_model.specs.Changes.{IsNewlyUsed, CellsChange, IsOwnOf}
use Rattle.heap_model.specs.Laws.{bound}
use Rattle.heap_model.specs.Collectable.{IsInHalf, IsCollectable, OwnChangesStayCollectable}
use Rattle.heap_model.proofs.CellsApart.{IsOfCell, cell_extent_stands, first_of_cell, one_at}
use Rattle.heap_model.proofs.Patches.{row_holds}
use Rattle.heap_model.proofs.BoundHeaps.{none_in, bound_moves}

-- a segment begins behind eden
segment_behind : (space : Space) (half worker : ℕ) → segments_start space ≤ start_of space (Segment half worker)
segment_behind space half worker = omega arith

-- what is in a half is behind eden
pub half_behind : (space : Space) (half at : ℕ) → IsInHalf space half at → segments_start space ≤ at
half_behind space half at inside =
    let extent : Extent = inside.extent in
    let place = (placed space extent (cell_extent_stands space extent inside.among)).place in
    let starts : extent.start ≡ start_of space extent.region = ap (λ (e : Extent). e.start) place in
    let begins : extent.start ≡ start_of space (Segment half inside.worker) =
    starts ∙ ap (start_of space) inside.segment in
    omega (arith, begins, segment_behind space half inside.worker, inside.holds.from)

-- a cell is in the half in which one of its addresses is
begins_in_half : {heap : Heap} {cell : Cell} {words : List ℕ} (half at : ℕ) → HasRows heap
    → HasCell heap cell words → IsOfCell cell at → IsInHalf heap.space half at → IsInHalf heap.space half cell.at
begins_in_half {heap} half at rows has of_cell inside =
    let row = has.row in
    let same : row.extent ≡ inside.extent =
    disjoint heap.space row.extent inside.extent at (cell_extent_stands heap.space row.extent has.in_region)
    (cell_extent_stands heap.space inside.extent inside.among)
    (row_holds rows has.in_region has.used has.in_row of_cell) inside.holds in
    record {
      extent = row.extent;
      among = has.in_region;
      worker = inside.worker;
      segment = ap (λ (e : Extent). e.region) same ∙ inside.segment;
      holds = row_holds rows has.in_region has.used has.in_row (first_of_cell has);
    }

-- an object's cell is not free
pub object_not_free : (one : Kind) → IsTrue (is_object_kind one) → IsTrue (is_free_kind one) → ⊥
object_not_free kind.Filler object free = false≢true object
object_not_free kind.Gap object free = false≢true object
object_not_free _ object free = false≢true free

-- nor is one that belongs to an object
pub owned_not_free : (one : Kind) → IsOwnedKind one → IsTrue (is_free_kind one) → ⊥
owned_not_free kind.Filler owned free = owned
owned_not_free kind.Gap owned free = owned
owned_not_free _ owned free = false≢true free

-- so what is an object's own is not free
pub own_not_free : {heap : Heap} {owners : List Cell} {cell : Cell} → HasCell heap cell (words_of_cell heap cell)
    → IsOwnOf heap owners cell → IsTrue (is_free_kind cell.layout.kind) → ⊥
own_not_free {cell = cell} has own free =
    elim own.own [
      | inl same ↦ object_not_free own.owner.layout.kind own.object
          (subst (λ (c : Cell). IsTrue (is_free_kind c.layout.kind)) same free)
      | inr named ↦
          let from = named.1 in
          let same : from.cell ≡ cell = one_at from.refers.has has from.at in
          owned_not_free cell.layout.kind (subst (λ (c : Cell). IsOwnedKind c.layout.kind) same from.owned) free
    ]

-- what came begins in a cell that went, which is not in the half
came_beside : {old new : Heap} {gone came made : List Cell} {half : ℕ} (cell : Cell) → Whole old
    → CellsChange old new gone came made → IsCollectable old half → Contains came cell
    → IsInHalf old.space half cell.at → ⊥
came_beside {old} {half = half} cell whole change collectable came inside =
    let place = change.in_place cell came in
    let other : Cell = place.other in
    let has = change.went other place.among in
    let of_other : IsOfCell other cell.at = record { from = place.from; below = place.below } in
    collectable.empty other (words_of_cell old other) has
    (begins_in_half half cell.at whole.rows has of_other inside)

-- what was made stands in eden or in a page
made_beside : {old new : Heap} (half at : ℕ) → HasRows new → new.space ≡ old.space → IsNewlyUsed old new at
    → IsInHalf old.space half at → ⊥
made_beside {old} {new} half at rows same (IsNewlyUsed.of_eden from below) inside =
    let young : new.space.sizes.young ≡ old.space.sizes.young = ap (λ (s : Space). s.sizes.young) same in
    omega (arith, half_behind old.space half at inside, below, rows.few, young)
made_beside {old} half at rows same (IsNewlyUsed.of_page filler below) inside =
    omega (arith, half_behind old.space half at inside, below)

-- a heap whose objects change inside their own cells stays so
pub own_changes_stay_collectable : OwnChangesStayCollectable
own_changes_stay_collectable old new gone came made half whole rows change own collectable = record {
  empty = λ cell words has inside.
      let inside_old = subst (λ (s : Space). IsInHalf s half cell.at) change.same_space inside in
      elim (change.back cell words has) [
        | inl there ↦ elim (Contains-append_cases came made cell there) [
          | inl first ↦ came_beside cell whole change collectable first inside_old
          | inr later ↦ made_beside half cell.at rows change.same_space (change.newly cell later) inside_old
        ]
        | inr stood ↦ collectable.empty cell words stood.0 inside_old
      ];
}

-- and so does one in which a variable is bound anew
pub bound_stays_collectable : (heap : Heap) (variable : ℕ) (one : Held) (half : ℕ) → variable < heap.space.variables
    → Whole heap → IsCollectable heap half → IsCollectable (bound heap variable one) half
bound_stays_collectable heap variable one half below whole collectable =
    let new : Heap = bound heap variable one in
    let stood : (cell : Cell) (words : List ℕ) → HasCell new cell words → HasCell heap cell words =
    λ cell words has. elim ((bound_moves heap variable one below whole).cells.back cell words has) [
      | inl there ↦ absurd (none_in cell there)
      | inr was ↦ was.0
    ] in
    record { empty = λ cell words has. collectable.empty cell words (stood cell words has) }
