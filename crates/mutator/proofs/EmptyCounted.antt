-- The cell of a list without elements, or of a weak map without entries, that was just made: its words, and what it is.
use Rattle.std.proofs.Common.{◌≡◌, ℕ, ◌-◌, ◌<◌, Bool, false, List, [], Some, refl, subst, arith}
use Rattle.std.specs.List.{range_with_len}
use Rattle.std.proofs.lemmas.Option.{none-some}
use Rattle.heap_model.specs.Types.{Header, Kind, Object, Path}
use Rattle.tagged_word.specs.declared.layout.Kind.TheVariants as kind
use Rattle.tagged_word.specs.Headers.{IsHeader}
use Rattle.tagged_word.specs.Layouts.{IsLayout, layout_bits}
use Rattle.tagged_word.specs.Shapes.{shapes_most, list_shape, weak_shape}
use Rattle.tagged_word.specs.Cells.{cell_size, has_length, scavenge_offsets, store_slot}
use Rattle.object_graph.specs.declared.object.Object.TheVariants.{Weak, List as ListOf}
use Rattle.shape_tree.specs.ShapeLayouts.{layout_word}
use Rattle.heap_model.specs.Heaps.{Heap}
use Rattle.heap_model.specs.Slots.{undefined_word, HoldsStore}
use Rattle.heap_model.specs.Kinds.{HasWord, HasTable, IsSoundOf, count_offset}
use Rattle.heap_model.specs.Showing.{ShowsObject}
use Rattle.object_cells.proofs.RunCells.{bare_layout}
use Rattle.mutator.specs.Making.{CountedCell, empty_counted, shape_of_counted}
use Rattle.mutator.proofs.NewCells.{NewCell, cell_of, RefersNowhere, CountsNone}

-- what such a cell is made of
abbrev pub counted_cell : Kind → Header → NewCell
counted_cell k header =
    record { header = header; layout = bare_layout k; head = count_offset; size = 3; words = empty_counted header }

-- Cells of the kind and the shape have three words, of which one may refer to a cell, and no length; where no store or
-- table is there, they are sound and show this object.
pub record IsCountedKind (k : Kind) (shape : ℕ) (what : Object) : Type 0 where
  pub is_layout : IsLayout (bare_layout k)
  pub no_length : has_length k ≡ false
  pub sized : cell_size (bare_layout k) 0 ≡ Some 3
  pub offsets : scavenge_offsets (bare_layout k) 0 ≡ range_with_len store_slot (count_offset - store_slot)
  pub known : shape < shapes_most
  pub laid : (paths : List Path) → layout_word paths shape ≡ layout_bits (bare_layout k)
  pub sound : (heap : Heap) (at : ℕ) (header : Header)
      → IsSoundOf k heap (cell_of at (counted_cell k header)) (empty_counted header)
  pub shows : (heap : Heap) (marks : List Bool) (at : ℕ) (header : Header)
      → ShowsObject heap marks (cell_of at (counted_cell k header)) (empty_counted header) what
  pub counts : (header : Header) → CountsNone (empty_counted header) what

-- so it is with lists without elements
list_is_counted : IsCountedKind kind.List list_shape (ListOf [])
list_is_counted = record {
  is_layout = record { cap = refl; used = refl; raw = refl };
  no_length = refl;
  sized = refl;
  offsets = refl;
  known = omega arith;
  laid = λ paths. refl;
  sound = λ heap at header. record {
    store = undefined_word;
    slot = refl;
    beside = [];
    stands = HoldsStore.none;
    count = 0;
    counted = refl;
    few = omega arith;
    hold = record {
      room = omega arith;
      each = λ place word below there. absurd (none-some word there);
      rest = λ place word from there. absurd (none-some word there);
    };
  };
  shows = λ heap marks at header. record {
    of_kind = refl;
    counted = refl;
    store = undefined_word;
    slot = refl;
    slots = [];
    has = HoldsStore.none;
    each = λ place value word there stands. absurd (none-some value there);
  };
  counts = λ header. tt;
}

-- and with weak maps without entries
weak_is_counted : IsCountedKind kind.Weak weak_shape (Weak [])
weak_is_counted = record {
  is_layout = record { cap = refl; used = refl; raw = refl };
  no_length = refl;
  sized = refl;
  offsets = refl;
  known = omega arith;
  laid = λ paths. refl;
  sound = λ heap at header. record {
    store = undefined_word;
    slot = refl;
    pairs = [];
    table = HasTable.none;
    each = λ place pair there. absurd (none-some pair there);
    counted = refl;
  };
  shows = λ heap marks at header. record {
    of_kind = refl;
    store = undefined_word;
    slot = refl;
    pairs = [];
    table = HasTable.none;
    each = λ place entry there marked. absurd (none-some entry there);
    others = λ place pair there filled. absurd (none-some pair there);
  };
  counts = λ header. refl;
}

-- the kind of the own cell of such an object
abbrev pub kind_of_counted : CountedCell → Kind
kind_of_counted CountedCell.list = kind.List
kind_of_counted CountedCell.weak = kind.Weak

-- the object, without elements or entries
abbrev pub object_of_counted : CountedCell → Object
object_of_counted CountedCell.list = ListOf []
object_of_counted CountedCell.weak = Weak []

-- its cell is one of these
pub is_counted : (counted : CountedCell) → IsCountedKind (kind_of_counted counted) (shape_of_counted counted)
    (object_of_counted counted)
is_counted CountedCell.list = list_is_counted
is_counted CountedCell.weak = weak_is_counted

-- then it is the cell of an object without a store or a table
pub counted_fresh : {k : Kind} {shape : ℕ} {what : Object} (header : Header) → IsCountedKind k shape what
    → IsHeader header → RefersNowhere (counted_cell k header)
counted_fresh header is is_header = record {
  long = refl;
  is_header = is_header;
  first = refl;
  is_layout = is.is_layout;
  no_length = is.no_length;
  sized = is.sized;
  some = omega arith;
  within = omega arith;
  offsets = is.offsets;
  slots = λ offset from below.
      let same : store_slot ≡ offset = omega (arith, from, below) in
      subst (λ n. HasWord (empty_counted header) n undefined_word) same refl;
}
