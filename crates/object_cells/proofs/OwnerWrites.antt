-- Where words of an object's own cells have changed, its cell, or what a plain object's becomes with the header of
-- another shape, stands in its words. So cells stand in rows.
use Rattle.std.proofs.Common.{◌≡◌, ℕ, ◌+◌, ◌<◌, ◌≤◌, ◌∷◌, List}
use Rattle.std.proofs.lemmas.Bool.{false≢true}
use Rattle.std.proofs.Common.{Option, Some, slice_get}
use Rattle.std.proofs.Common.{refl, sym, ◌∙◌, ap, subst, arith}
use Rattle.heap_model.specs.Types.{Kind, LayoutWord, Path, Cell}
use Rattle.tagged_word.specs.declared.layout.Kind.TheVariants as kind
use Rattle.tagged_word.specs.Headers.{header_bits}
use Rattle.tagged_word.specs.Layouts.{IsLayoutOfKind, in_object_most}
use Rattle.tagged_word.specs.Shapes.{shapes_most}
use Rattle.tagged_word.specs.Cells.{has_length, length_by, cell_size, size_within, words_least, words_of}
use Rattle.tagged_word.specs.Cells.{is_object_kind}
use Rattle.page_space.specs.Extents.{Space, CellsEndAt}
use Rattle.shape_tree.specs.Shapes.{IsPathShape, shape_path}
use Rattle.shape_tree.specs.ShapeLayouts.{layout_of}
use Rattle.shape_tree.proofs.PathLayouts.{IsLayout-path, layout_word-path}
use Rattle.cell_layout.specs.Cells.{IsCell}
use Rattle.cell_layout.proofs.CellsThere.{slice_get-layouts_in}
use Rattle.heap_model.specs.Heaps.{Heap}
use Rattle.heap_model.specs.Wholeness.{Whole, HasRows}
use Rattle.heap_model.specs.Changes.{CellsChange}
use Rattle.heap_model.proofs.CellsApart.{has_is_cell}
use Rattle.object_cells.specs.CellWrites.{reshaped, Owns, IsReshaped, Becomes, WritesOwnCells, WritesKeepCells}
use Rattle.object_cells.proofs.ObjectWrites.{WritesObject, same_count, owned_of_kind, headed_stays, object_keeps_cells}

-- a plain cell has the size that another plain layout of the same cap gives
plain_size : (layout other : LayoutWord) (long size : ℕ) → layout.kind ≡ other.kind → other.cap ≡ layout.cap
    → cell_size layout long ≡ Some size → cell_size other long ≡ Some size
plain_size layout other long size same cap is =
    ap (λ k. size_within (words_least k) (words_of k other.cap long)) (sym same)
    ∙ ap (λ n. size_within (words_least layout.kind) (words_of layout.kind n long)) cap ∙ is

-- a plain cell has no length, whatever its second word is
plain_length : (k : Kind) (second other : Option ℕ) (long : ℕ) → k ≡ kind.Plain
    → length_by (has_length k) second ≡ Some long → length_by (has_length kind.Plain) other ≡ Some long
plain_length k second other long plain is = ap (λ one. length_by (has_length one) second) (sym plain) ∙ is

-- objects of these kinds own cells of that one: plain objects and lists stores, and weak maps tables
pub plain_owns : Owns kind.Plain kind.Store
plain_owns = record { object = refl; short = refl; belongs = tt; long = refl }

-- a list owns a store
pub list_owns : Owns kind.List kind.Store
list_owns = record { object = refl; short = refl; belongs = tt; long = refl }

-- a weak map owns a table
pub weak_owns : Owns kind.Weak kind.Table
weak_owns = record { object = refl; short = refl; belongs = tt; long = refl }

-- what an object owns is no box
pub owned_is_no_box : {owner owned k : Kind} → Owns owner owned → k ≡ owned → k ≡ kind.Boxed → ⊥
owned_is_no_box owns is box = false≢true (sym (ap has_length box) ∙ ap has_length is ∙ owns.long)

-- what an object's cell becomes has as many in-object slots
pub becomes_cap : {old new : Heap} {cell came : Cell} → Becomes old new cell came → came.layout.cap ≡ cell.layout.cap
becomes_cap (Becomes.itself same header) = ap (λ (c : Cell). c.layout.cap) same
becomes_cap (Becomes.other_shape is) = ap (λ (c : Cell). c.layout.cap) is.is ∙ is.cap

-- of a plain object it has the shape of a path
pub becomes_shape : {old new : Heap} {cell came : Cell} → Becomes old new cell came
    → (came ≡ cell → IsPathShape new.paths cell.header.shape) → IsPathShape new.paths came.header.shape
becomes_shape {new = new} (Becomes.itself same header) was =
    subst (λ (c : Cell). IsPathShape new.paths c.header.shape) (sym same) (was same)
becomes_shape (Becomes.other_shape is) was = is.is_shape

-- a cell of the same object, of the same kind and size
record IsOfSame (new : Heap) (cell came : Cell) : Type 0 where
  same_kind : came.layout.kind ≡ cell.layout.kind
  place : came.at ≡ cell.at
  size : came.size ≡ cell.size
  number : came.header.object ≡ cell.header.object
  is_cell : IsCell new.space new.words came

module _ {owner owned : Kind} {old new : Heap} {cell came : Cell} {others made : List Cell} (owns : Owns owner owned)
    (whole : Whole old) (writes : WritesOwnCells owner owned old new cell came others made) where
  -- a cell of the new shape stands where a plain object's stood
  reshaped_is_cell : IsReshaped new cell came → IsCell new.space new.words (reshaped new.paths cell came.header.shape)
  reshaped_is_cell is =
      let is_cell = has_is_cell writes.stood in
      let reads = is_cell.reads in
      let shape : ℕ = came.header.shape in
      let path : Path = shape_path new.paths shape in
      let few : path.cap ≤ in_object_most =
      omega (arith, is.cap, (subst (λ k. IsLayoutOfKind k cell.layout) is.plain reads.is_layout).cap) in
      let below : shape < shapes_most = omega (arith, is.is_shape.below, writes.sized.shapes.few) in
      record {
        end = is_cell.end;
        stands = subst (λ (space : Space). CellsEndAt space cell.at is_cell.end) (sym writes.same_space)
            is_cell.stands;
        reads = record {
          is_header = record { shape = omega (arith, below); object = reads.is_header.object };
          first = is.header ∙ ap (λ (c : Cell). Some (header_bits c.header)) is.is;
          known = below;
          is_layout = IsLayout-path path few;
          of_shape = slice_get-layouts_in new.space new.words shape below ∙ writes.sized.layouts shape below
              ∙ ap (λ word. Some word) (layout_word-path new.paths shape is.is_shape);
          second = plain_length cell.layout.kind (slice_get old.words (cell.at + 1)) (slice_get new.words (cell.at + 1))
              cell.length is.plain reads.second;
          sized = plain_size cell.layout (layout_of path) cell.length cell.size is.plain is.cap reads.sized;
          ends = reads.ends;
          there = omega (arith, reads.there, same_count whole.sized writes.sized writes.same_space);
        };
      }

  -- what the object's cell becomes is one
  is_of_same : Becomes old new cell came → IsOfSame new cell came
  is_of_same (Becomes.itself same header) = subst (IsOfSame new cell) (sym same) (record {
    same_kind = refl;
    place = refl;
    size = refl;
    number = refl;
    is_cell = headed_stays writes.more whole.sized writes.sized writes.same_space writes.paths writes.stood header
        (λ long. false≢true (sym (ap has_length writes.of_kind ∙ owns.short) ∙ long));
  })
  is_of_same (Becomes.other_shape is) = subst (IsOfSame new cell) (sym is.is) (record {
    same_kind = sym is.plain;
    place = refl;
    size = refl;
    number = refl;
    is_cell = reshaped_is_cell is;
  })

  -- so a cell of the object stands in the words of its cell
  pub writes_own : WritesObject old new cell came others made
  writes_own =
      let is = is_of_same writes.becomes in
      record {
        same_space = writes.same_space;
        same_survivors = writes.same_survivors;
        room = writes.room;
        more = writes.more;
        paths = writes.paths;
        sized = writes.sized;
        stood = writes.stood;
        object = ap is_object_kind writes.of_kind ∙ owns.object;
        same_kind = is.same_kind;
        place = is.place;
        size = is.size;
        number = is.number;
        is_cell = is.is_cell;
        beside = λ other among. owned_of_kind (writes.beside other among) owns.belongs;
        from = writes.from;
        to = writes.to;
        run = writes.run;
        made_stand = writes.made_stand;
        stay = writes.stay;
      }

  -- cells stand in rows again: what the object's became, the others as they were, and those that were made
  pub written_own_keeps_cells : HasRows new × CellsChange old new (cell ∷ others) (came ∷ others) made
  written_own_keeps_cells = object_keeps_cells whole writes_own

-- so it is of any object
pub writes_keep_cells : WritesKeepCells
writes_keep_cells owner owned old new cell came others made owns whole writes =
    written_own_keeps_cells owns whole writes
