-- What the slots of a plain object hold, slot by slot, and what is asked for in their places.
use Rattle.std.proofs.Common.{◌≡◌, ℕ, ◌+◌, ◌≤◌, ◌<◌, Bool, true, false, List, ◌++◌, length, drop, slice_get, Some}
use Rattle.std.proofs.Common.{nat_lt, sym, ◌∙◌, ap, subst, arith}
use Rattle.std.specs.Prelude.{if◌then◌else◌}
use Rattle.std.proofs.lemmas.Bool.Decides.{nat_tests}
use Rattle.std.proofs.lemmas.Option.{same_Some, slice_get_within}
use Rattle.tagged_word.specs.declared.layout.Kind.TheVariants as kind
use Rattle.tagged_word.specs.Cells.{store_slot, plain_head}
use Rattle.heap_model.specs.Types.{Path, PathField, Cell}
use Rattle.shape_tree.specs.Shapes.{IsPathShape, shape_path}
use Rattle.heap_model.specs.Heaps.{Heap}
use Rattle.heap_model.specs.Slots.{IsFieldWord, hole_word}
use Rattle.heap_model.specs.Kinds.{HasWord, HoldFields, IsPlainCell}
use Rattle.image_walk.specs.declared.spans.Span.{Span}
use Rattle.image_walk.specs.Spans.{EachWord, span_words, SpansStore}
use Rattle.heap_check.specs.PathSlots.{FitsSlot, HasProto}
use Rattle.heap_check.specs.Firsts.{asked_of}
use Rattle.heap_check.specs.Cells.{asked_at}

-- where each slot holds what it may, the slots hold the fields
pub hold_fields_from : (heap : Heap) (path : Path) (slots : List ℕ) → length path.fields ≤ length slots
    → EachWord slots (FitsSlot heap path) → HoldFields heap path slots
hold_fields_from heap path slots room each = record {
  room = room;
  each = λ at field word has there. (each at word there).field field has;
  rest = λ at word past there. (each at word there).rest past;
}

-- where they hold the fields, each holds what it may
pub hold_fields_to : (heap : Heap) (path : Path) (slots : List ℕ) → HoldFields heap path slots
    → EachWord slots (FitsSlot heap path)
hold_fields_to heap path slots hold at word there =
    record { field = λ field has. hold.each at field word has there; rest = λ past. hold.rest at word past there }

-- a plain object is one by its shape, its own slots and those beside them, and its prototype slot
pub plain_from : (heap : Heap) (cell : Cell) (words : List ℕ) (store : ℕ) (own beside : Span)
    → IsPathShape heap.paths cell.header.shape → HasWord words store_slot store
    → span_words heap own ≡ drop plain_head words → SpansStore heap kind.Store store beside
    → HoldFields heap (shape_path heap.paths cell.header.shape) (span_words heap own ++ span_words heap beside)
    → HasProto heap words → IsPlainCell heap cell words
plain_from heap cell words store own beside shape slot own_are stands hold proto = record {
  shape = shape;
  slots = span_words heap own ++ span_words heap beside;
  has = record {
    store = store;
    slot = slot;
    beside = span_words heap beside;
    stands = stands.beside;
    are = ap (λ slots. slots ++ span_words heap beside) own_are;
  };
  hold = hold;
  proto = proto.proto;
  proto_has = proto.slot;
  proto_is = proto.is;
}

-- behind the fields the hole is asked for
pub asked_behind : (path : Path) (place found : ℕ) → length path.fields ≤ place
    → hole_word ≡ asked_at path place found
asked_behind path place found past =
    let test : nat_lt place (length path.fields) ≡ false = grind (arith, nat_tests) in
    ap (λ b. if b then asked_of found else hole_word) (sym test)

-- in the place of a field a field's word is
pub asked_within : (path : Path) (place found : ℕ) → place < length path.fields
    → asked_of found ≡ asked_at path place found
asked_within path place found within =
    let test : nat_lt place (length path.fields) ≡ true = grind (arith, nat_tests) in
    ap (λ b. if b then asked_of found else hole_word) (sym test)

-- a slot in the place of a field holds what the path has there, where its word is one of the field
pub field_fits : (heap : Heap) (path : Path) (place word : ℕ) (own : Bool) (field : PathField)
    → slice_get path.fields place ≡ Some field → own ≡ nat_lt place path.cap → IsFieldWord heap own field.rep word
    → FitsSlot heap path place word
field_fits heap path place word own field there is_own is = record {
  field = λ other here.
      subst (λ (one : PathField). IsFieldWord heap (nat_lt place path.cap) one.rep word)
      (same_Some _ _ (sym there ∙ here))
      (subst (λ b. IsFieldWord heap b field.rep word) is_own is);
  rest = λ past. absurd (omega (arith, past, slice_get_within path.fields place field there));
}

-- and only there
pub fits_field : (heap : Heap) (path : Path) (place word : ℕ) (own : Bool) (field : PathField)
    → slice_get path.fields place ≡ Some field → own ≡ nat_lt place path.cap → FitsSlot heap path place word
    → IsFieldWord heap own field.rep word
fits_field heap path place word own field there is_own fits =
    subst (λ b. IsFieldWord heap b field.rep word) (sym is_own) (fits.field field there)

-- what each slot of a span is asked to hold, from a place of the path on
abbrev pub FieldFits : Heap → Path → ℕ → ℕ → ℕ → Type 0
FieldFits heap path first at word = FitsSlot heap path (first + at) word

-- and the word that is asked for in its place
abbrev pub field_asked : Path → ℕ → ℕ → ℕ → ℕ
field_asked path first at word = asked_at path (first + at) word
