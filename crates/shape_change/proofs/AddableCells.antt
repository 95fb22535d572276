-- The cell of a plain object to which a field may come, once the field's path was added where a cycle of marking is
-- open.
use Rattle.std.proofs.Common.{◌≡◌, ℕ, ◌+◌, ◌≤◌, List, ◌++◌, Some, slice_get, sym, ◌∙◌, ap}
use Rattle.std.proofs.Common.{subst, arith}
use Rattle.tagged_word.specs.declared.layout.Kind.TheVariants as kind
use Rattle.tagged_word.specs.Cells.{plain_head}
use Rattle.tagged_word.specs.Headers.{IsHeader, header_bits}
use Rattle.page_space.specs.Extents.{layouts_start}
use Rattle.object_graph.specs.Paths.{missing}
use Rattle.shape_tree.specs.Shapes.{IsPathShape, shape_path}
use Rattle.shape_tree.proofs.ShapePaths.{IsPathShape-append, shape_path-append}
use Rattle.heap_model.specs.Types.{Kind, Header, Path, Cell, Held}
use Rattle.heap_model.proofs.CellsApart.{has_is_cell}
use Rattle.write_barrier.specs.MutatorState.{Mutator, reserved}
use Rattle.write_barrier.specs.Seats.{heap_words}
use Rattle.write_barrier.specs.Storing.{MayChange, StoresOn}
use Rattle.write_barrier.proofs.SlotStores.{reserved_stores_on}
use Rattle.write_barrier.proofs.StoresOn.{cell_may_change, may_change_stays, stores_on_again}
use Rattle.object_cells.proofs.CellsRead.{cell_before_layouts}
use Rattle.object_cells.proofs.PlainFields.{plain_sound}
use Rattle.object_cells.proofs.SlotsNow.{plain_cell_size}
use Rattle.shape_change.specs.Additions.{AddsPath, CanAdd, added_path}
use Rattle.shape_change.proofs.FullStores.{cap_is}
use Rattle.shape_change.proofs.SetOutcomes.{added_behind}

module _ {old : Mutator} {object : ℕ} {header : Header} {name : ℕ} {value : Held}
    (can : CanAdd old object header name value) where
  -- its cell
  abbrev pub cell : Cell
  cell = can.there.cell

  -- it may be changed
  pub object_may_change : MayChange old object cell.size kind.Plain
  object_may_change =
      subst (λ (a : ℕ). MayChange old a cell.size kind.Plain) can.there.stands
      (subst (λ (k : Kind). MayChange old cell.at cell.size k) can.there.plain
      (cell_may_change can.shown.shows can.there.has))

  -- it has this header
  pub header_fits : IsHeader header
  header_fits = subst IsHeader can.headed (has_is_cell can.there.has).reads.is_header

  header_stands : slice_get (heap_words old.seat) object ≡ Some (header_bits header)
  header_stands =
      ap (slice_get (heap_words old.seat)) (sym can.there.stands) ∙ (has_is_cell can.there.has).reads.first
      ∙ ap (λ (h : Header). Some (header_bits h)) can.headed

  -- and as many slots as the path says
  pub size_is : cell.size ≡ plain_head + (shape_path old.paths header.shape).cap
  size_is =
      let sound = plain_sound can.whole can.there.has can.there.plain in
      omega (
        arith,
        plain_cell_size can.there.has can.there.plain,
        cap_is can.whole.sized can.there.has sound.shape,
        ap (λ (h : Header). (shape_path old.paths h.shape).cap) can.headed,
      )

  -- it ends before the layout words
  pub object_before : object + cell.size ≤ layouts_start old.seat.space
  object_before = omega (arith, cell_before_layouts can.whole can.there.has, can.there.stands)

  module _ (need : ℕ) {mid : Mutator} {next : ℕ}
      (adds : AddsPath (reserved old need) mid (added_path old.paths header.shape name value) next) where
    -- words were stored before
    pub path_on : StoresOn old mid
    path_on = stores_on_again (reserved_stores_on old need) adds.stores

    -- it may be changed then
    pub object_changes : MayChange mid object cell.size kind.Plain
    object_changes = may_change_stays path_on object_may_change

    -- its header is there
    pub header_there : slice_get (heap_words mid.seat) object ≡ Some (header_bits header)
    header_there =
        adds.stay object (omega (arith, object_before, size_is)) ∙ header_stands

    -- paths were added behind the others
    more : mid.paths ≡ old.paths ++ missing old.paths (added_path old.paths header.shape name value)
    more = added_behind old.paths mid.paths (added_path old.paths header.shape name value) adds.leads.added

    -- and the shape has the path that it had
    pub shape_there : IsPathShape mid.paths header.shape
    shape_there =
        subst (λ (all : List Path). IsPathShape all header.shape) (sym more)
        (IsPathShape-append old.paths (missing old.paths (added_path old.paths header.shape name value)) header.shape
        can.shape)

    pub path_there : shape_path mid.paths header.shape ≡ shape_path old.paths header.shape
    path_there =
        ap (λ (all : List Path). shape_path all header.shape) more
        ∙ shape_path-append old.paths (missing old.paths (added_path old.paths header.shape name value)) header.shape
        can.shape
