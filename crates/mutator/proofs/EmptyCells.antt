-- The cell of a plain object that was just made: its words, and what it is.
use Rattle.std.proofs.Common.{◌≡◌, ℕ, zero, suc, ◌+◌, List, [], length, replicate}
use Rattle.std.proofs.Common.{◌≤◌, ◌<◌, Some, slice_get, refl, sym, ◌∙◌, ap, subst, arith, inl, inr}
use Rattle.std.proofs.lemmas.Bool.{cases_eq}
use Rattle.std.proofs.Math.Seq.{take-nil}
use Rattle.std.proofs.lemmas.List.{append-nil, length-replicate}
use Rattle.std.proofs.lemmas.Option.{none-some, same_Some}
use Rattle.std.proofs.lemmas.Bool.Decides.{nat_tests}
use Rattle.heap_model.specs.Types.{Header, LayoutWord, Path, PathField}
use Rattle.tagged_word.specs.declared.layout.Kind.TheVariants as kind
use Rattle.tagged_word.specs.Headers.{IsHeader}
use Rattle.tagged_word.specs.Layouts.{layout_bits}
use Rattle.tagged_word.specs.Cells.{cell_size, store_slot, proto_slot, plain_head}
use Rattle.shape_tree.specs.Shapes.{IsShapeOf}
use Rattle.heap_command.specs.Commands.{cap_most}
use Rattle.shape_tree.specs.ShapeLayouts.{raw_mask, layout_of, layout_word}
use Rattle.shape_tree.proofs.PathLayouts.{layout_word-path}
use Rattle.heap_model.specs.Heaps.{Heap, words_of_cell}
use Rattle.heap_model.specs.Slots.{undefined_word, hole_word, HoldsStore}
use Rattle.heap_model.specs.Kinds.{HasWord, HasSlots, HoldFields, IsProtoWord, IsPlainCell}
use Rattle.heap_model.specs.Showing.{ShowsPlain}
use Rattle.mutator.specs.Making.{empty_plain}
use Rattle.mutator.proofs.NewCells.{NewCell, cell_of, RefersNowhere}

-- the path of no field
abbrev pub no_fields : ℕ → Path
no_fields cap = record { cap = cap; fields = [] }

-- the layout of a plain object with so many slots of its own and no field
abbrev pub empty_layout : ℕ → LayoutWord
empty_layout cap = record { kind = kind.Plain; cap = cap; used = 0; raw = 0 }

-- it is that of the path of no field
layout_of-no_fields : (cap : ℕ) → layout_of (no_fields cap) ≡ empty_layout cap
layout_of-no_fields cap =
    ap (λ (fields : List PathField). record {
      kind = kind.Plain;
      cap = cap;
      used = length fields;
      raw = raw_mask
          fields;
    })
    (take-nil cap)

-- what the cell of such an object is made of
abbrev pub plain_cell : Header → ℕ → NewCell
plain_cell header cap =
    record {
      header = header;
      layout = empty_layout cap;
      head = plain_head;
      size = plain_head + cap;
      words = empty_plain header cap;
    }

-- it has so many words
pub length-empty_plain : (header : Header) (cap : ℕ) → length (empty_plain header cap) ≡ plain_head + cap
length-empty_plain header cap = omega (arith, length-replicate cap hole_word)

-- an element of a list of the same ones is this one
slice_get-replicate : (count word k found : ℕ) → slice_get (replicate count word) k ≡ Some found → found ≡ word
slice_get-replicate zero word k found there = absurd (none-some found there)
slice_get-replicate (suc count) word zero found there = sym (same_Some word found there)
slice_get-replicate (suc count) word (suc k) found there = slice_get-replicate count word k found there

-- where a cell of a plain object without fields stands in a heap
pub record IsEmptyCell (heap : Heap) (at : ℕ) (header : Header) (cap : ℕ) : Type 0 where
  pub shaped : IsShapeOf heap.paths (no_fields cap) header.shape
  pub words : words_of_cell heap (cell_of at (plain_cell header cap)) ≡ empty_plain header cap

-- its slots are holes
empty_slots : {heap : Heap} {at : ℕ} {header : Header} {cap : ℕ} → IsEmptyCell heap at header cap
    → HasSlots heap (words_of_cell heap (cell_of at (plain_cell header cap))) (replicate cap hole_word)
empty_slots {heap} {cap = cap} is =
    subst (λ words. HasSlots heap words (replicate cap hole_word)) (sym is.words) (record {
      store = undefined_word;
      slot = refl;
      beside = [];
      stands = HoldsStore.none;
      are = sym (append-nil (replicate cap hole_word));
    })

-- it has no prototype
pub empty_is_bare : {heap : Heap} {at : ℕ} {header : Header} {cap : ℕ} → IsEmptyCell heap at header cap
    → HasWord (words_of_cell heap (cell_of at (plain_cell header cap))) proto_slot undefined_word
empty_is_bare is = ap (λ words. slice_get words proto_slot) is.words

-- so it is sound
pub empty_is_sound : {heap : Heap} {at : ℕ} {header : Header} {cap : ℕ} → IsEmptyCell heap at header cap
    → IsPlainCell heap (cell_of at (plain_cell header cap)) (words_of_cell heap (cell_of at (plain_cell header cap)))
empty_is_sound {heap} {at} {header} {cap} is =
    let hold : HoldFields heap (no_fields cap) (replicate cap hole_word) = record {
      room = omega arith;
      each = λ k field word there stands. absurd (none-some field there);
      rest = λ k word from stands. slice_get-replicate cap hole_word k word stands;
    } in
    record {
      shape = is.shaped.is_shape;
      slots = replicate cap hole_word;
      has = empty_slots is;
      proto = undefined_word;
      proto_has = empty_is_bare is;
      proto_is = IsProtoWord.none;
      hold = subst (λ path. HoldFields heap path (replicate cap hole_word)) (sym is.shaped.of_path) hold;
    }

-- it shows a plain object without fields
pub empty_shows : {heap : Heap} {at : ℕ} {header : Header} {cap : ℕ} → IsEmptyCell heap at header cap
    → ShowsPlain heap (cell_of at (plain_cell header cap))
    (words_of_cell heap (cell_of at (plain_cell header cap))) cap []
empty_shows {cap = cap} is = record {
  of_kind = refl;
  path = is.shaped.of_path;
  slots = replicate cap hole_word;
  has = empty_slots is;
  each = λ k field word there stands. absurd (none-some field there);
}

-- the size of the cell is that of its layout
size_is : (cap : ℕ) → cap ≤ cap_most → cell_size (empty_layout cap) 0 ≡ Some (plain_head + cap)
size_is cap few = grind (arith, nat_tests)

-- the words behind its header are `undefined` up to the slots of fields
head_word : (header : Header) (cap offset : ℕ) → store_slot ≤ offset → offset < plain_head
    → HasWord (empty_plain header cap) offset undefined_word
head_word header cap offset from below = elim (cases_eq offset store_slot) [
  | inl same ↦ subst (λ n. HasWord (empty_plain header cap) n undefined_word) (sym same) refl
  | inr apart ↦
      let same : proto_slot ≡ offset = omega (arith, from, below, apart) in
      subst (λ n. HasWord (empty_plain header cap) n undefined_word) same refl
]

-- it is that of an object without a store
pub plain_fresh : (header : Header) (cap : ℕ) → IsHeader header → cap ≤ cap_most → RefersNowhere (plain_cell header cap)
plain_fresh header cap is_header few = record {
  long = length-empty_plain header cap;
  is_header = is_header;
  first = refl;
  is_layout = record { cap = few; used = omega arith; raw = omega arith };
  no_length = refl;
  sized = size_is cap few;
  some = omega arith;
  within = omega arith;
  offsets = refl;
  slots = λ offset from below. head_word header cap offset from below;
}

-- the layout word of its shape is that of its layout
pub plain_laid : {paths : List Path} {shape : ℕ} (cap : ℕ) → IsShapeOf paths (no_fields cap) shape
    → layout_word paths shape ≡ layout_bits (empty_layout cap)
plain_laid {paths} {shape} cap shaped =
    layout_word-path paths shape shaped.is_shape
    ∙ ap (λ (path : Path). layout_bits (layout_of path)) shaped.of_path ∙ ap layout_bits (layout_of-no_fields cap)
