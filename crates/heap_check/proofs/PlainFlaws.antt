-- What is found of a plain object, by its shape and its slots.
use Rattle.std.proofs.Common.{◌≡◌, ℕ, Option, ◌+◌, ◌≤◌, ◌<◌, ◌⊎◌, inl, inr, List, ◌++◌, drop, length, slice_get, refl}
use Rattle.std.proofs.Common.{sym, ◌∙◌, ap, subst, arith, length-append}
use Rattle.std.proofs.lemmas.Option.{same_Some}
use Rattle.tagged_word.specs.Cells.{store_slot, store_head, plain_head}
use Rattle.tagged_word.specs.Headers.{header_bits}
use Rattle.tagged_word.specs.declared.layout.Kind.TheVariants as kind
use Rattle.shape_tree.specs.Shapes.{IsPathShape, shape_path}
use Rattle.heap_model.specs.Types.{Cell, Path}
use Rattle.heap_model.specs.Heaps.{Heap}
use Rattle.heap_model.specs.Slots.{RefersTo, HoldsStore}
use Rattle.heap_model.specs.Kinds.{HasWord, HoldFields, IsPlainCell}
use Rattle.heap_model.proofs.OneBeside.{one_beside}
use Rattle.image_walk.specs.declared.spans.Span.{Span}
use Rattle.image_walk.specs.Spans.{EachWord, span_words, HoldsNoStore}
use Rattle.heap_check.specs.PathSlots.{FitsSlot, HasProto}
use Rattle.image_walk.proofs.EachSlot.{each_of_both}
use Rattle.heap_check.proofs.FieldSlots.{hold_fields_from, plain_from, FieldFits, field_asked}
use Rattle.heap_check.specs.declared.flaw.Flaw.{Flaw}
use Rattle.heap_check.specs.Firsts.{IsFirst, IsVerdict, earlier_of, asked_of}
use Rattle.heap_check.specs.Frames.{filler_word}
use Rattle.heap_check.specs.Cells.{BreaksStore, BreaksProto, BreaksFields, BreaksPlain, asked_at}
use Rattle.image_walk.specs.Spans.{IsBeside}
use Rattle.heap_check.specs.SpanFlaws.{BreaksSpan}
use Rattle.heap_check.proofs.JoinedFinds.{Includes, NoneBelow, first_is, joined_finds, span_excludes}
use Rattle.heap_check.proofs.BesideSpans.{IsSpanBeside, span_beside, beside_spans, span_of_target, store_at}
use Rattle.heap_check.proofs.BesideSpans.{store_excludes}
use Rattle.heap_check.proofs.ProtoFlaws.{proto_at, proto_excludes}
use Rattle.heap_check.proofs.CellLaws.{fields_exclude}

-- where the shape is no path's, the header is the only breach
lacks_shape : (heap : Heap) (cell : Cell) (words : List ℕ) → (IsPathShape heap.paths cell.header.shape → ⊥)
    → NoneBelow (BreaksPlain heap cell words) cell.at
lacks_shape heap cell words wrong _ _ _ (BreaksPlain.shape none_such) = omega arith
lacks_shape heap cell words wrong _ _ _ (BreaksPlain.store at found wanted shape breaks) = absurd (wrong shape)
lacks_shape heap cell words wrong _ _ _ (BreaksPlain.proto at found wanted shape breaks) = absurd (wrong shape)
lacks_shape heap cell words wrong _ _ _ (BreaksPlain.field word at found wanted beside shape slot holds breaks) =
    absurd (wrong shape)

-- so it is the first
pub first_lacks_shape : (heap : Heap) (cell : Cell) (words : List ℕ) (flaw : Flaw)
    → (IsPathShape heap.paths cell.header.shape → ⊥)
    → flaw ≡ record { at = cell.at; found = header_bits cell.header; wanted = filler_word }
    → IsFirst (BreaksPlain heap cell words) flaw
first_lacks_shape heap cell words flaw wrong is =
    first_is (BreaksPlain heap cell words) flaw cell.at (header_bits cell.header) filler_word is
    (BreaksPlain.shape wrong) (lacks_shape heap cell words wrong)

-- where slot 1 of an object of a path's shape tells of no store, a breach is there
lacks_store : (heap : Heap) (cell : Cell) (words : List ℕ) (word : ℕ) → IsPathShape heap.paths cell.header.shape
    → HasWord words store_slot word → HoldsNoStore heap kind.Store word
    → NoneBelow (BreaksPlain heap cell words) (cell.at + store_slot)
lacks_store heap cell words word shape there lacks _ _ _ (BreaksPlain.shape none_such) = absurd (none_such shape)
lacks_store heap cell words word shape there lacks _ _ _ (BreaksPlain.store at found wanted is breaks) =
    omega (arith, store_at heap cell words kind.Store at found wanted breaks)
lacks_store heap cell words word shape there lacks _ _ _ (BreaksPlain.proto at found wanted is breaks) =
    omega (arith, proto_at heap cell words at found wanted breaks)
lacks_store heap cell words word shape there lacks _ _ _
    (BreaksPlain.field other at found wanted beside is here holds breaks) =
    absurd (lacks beside (subst (λ w. HoldsStore heap kind.Store w beside) (same_Some _ _ (sym here ∙ there)) holds))

-- and that is the first
pub first_lacks_store : (heap : Heap) (cell : Cell) (words : List ℕ) (word : ℕ) (flaw : Flaw)
    → IsPathShape heap.paths cell.header.shape → HasWord words store_slot word → HoldsNoStore heap kind.Store word
    → flaw ≡ record { at = cell.at + store_slot; found = word; wanted = asked_of word }
    → IsFirst (BreaksPlain heap cell words) flaw
first_lacks_store heap cell words word flaw shape there lacks is =
    first_is (BreaksPlain heap cell words) flaw (cell.at + store_slot) word (asked_of word) is
    (BreaksPlain.store _ _ _ shape (BreaksStore.store word there lacks))
    (lacks_store heap cell words word shape there lacks)

-- a plain object of a path's shape has its slots in two spans: its own and those beside it
pub record HasSpans (heap : Heap) (cell : Cell) (words : List ℕ) (own beside : Span) : Type 0 where
  pub shape : IsPathShape heap.paths cell.header.shape
  pub begins : own.from ≡ cell.at + plain_head
  pub own_are : span_words heap own ≡ drop plain_head words
  pub word : ℕ
  pub slot : HasWord words store_slot word
  pub is : IsBeside heap kind.Store word beside

-- the path of the object
abbrev pub path_of : Heap → Cell → Path
path_of heap cell = shape_path heap.paths cell.header.shape

-- the slots that slot 1 tells of are the words of the span
one_span : {heap : Heap} {cell : Cell} {words : List ℕ} {own beside : Span} (other : ℕ) (slots : List ℕ)
    → HasSpans heap cell words own beside → HasWord words store_slot other → HoldsStore heap kind.Store other slots
    → slots ≡ span_words heap beside
one_span {heap} {beside = beside} other slots has here holds =
    one_beside other has.word slots (span_words heap beside) (same_Some _ _ (sym here ∙ has.slot)) holds
    (beside_spans heap kind.Store has.word beside (inl refl) has.is).beside

-- what breaks the object breaks its prototype slot or its fields
proto_or_fields : {heap : Heap} {cell : Cell} {words : List ℕ} {own beside : Span}
    → HasSpans heap cell words own beside → (at found wanted : ℕ) → BreaksPlain heap cell words at found wanted
    → BreaksProto heap cell words at found wanted
    ⊎ BreaksFields heap cell words (path_of heap cell) (span_words heap beside) at found wanted
proto_or_fields {heap} {cell} {words} {own} {beside} has _ _ _ (BreaksPlain.shape none_such) =
    absurd (none_such has.shape)
proto_or_fields {heap} {cell} {words} {own} {beside} has _ _ _ (BreaksPlain.proto at found wanted shape breaks) =
    inl breaks
proto_or_fields {heap} {cell} {words} {own} {beside} has _ _ _ (BreaksPlain.store at found wanted shape breaks) =
    absurd (store_excludes heap cell words kind.Store has.word (span_words heap beside) at found wanted has.slot
    (beside_spans heap kind.Store has.word beside (inl refl) has.is).beside breaks)
proto_or_fields {heap} {cell} {words} {own} {beside} has _ _ _
    (BreaksPlain.field other at found wanted slots shape here holds breaks) =
    inr (subst (λ all. BreaksFields heap cell words (path_of heap cell) all at found wanted)
    (one_span other slots has here holds) breaks)

-- and the other way round
fields_break : {heap : Heap} {cell : Cell} {words : List ℕ} {own beside : Span} → HasSpans heap cell words own beside
    → Includes (BreaksFields heap cell words (path_of heap cell) (span_words heap beside)) (BreaksPlain heap cell words)
fields_break {heap} {cell} {words} {own} {beside} has at found wanted breaks =
    BreaksPlain.field has.word at found wanted (span_words heap beside) has.shape has.slot
    (beside_spans heap kind.Store has.word beside (inl refl) has.is).beside breaks

-- where the slots are too few, no breach of the fields is elsewhere
too_few : (heap : Heap) (cell : Cell) (words : List ℕ) (path : Path) (beside : List ℕ)
    → length (drop plain_head words ++ beside) < length path.fields
    → NoneBelow (BreaksFields heap cell words path beside) (cell.at + store_slot)
too_few heap cell words path beside few _ _ _ (BreaksFields.short found slot short) = omega arith
too_few heap cell words path beside few _ _ _ (BreaksFields.own place found room there wrong) =
    absurd (omega (arith, room, few))
too_few heap cell words path beside few _ _ _
    (BreaksFields.in_store word place found store others room slot refers is there wrong) =
    absurd (omega (arith, room, few))

-- as many slots are there as both spans have words
slots_many : {heap : Heap} {cell : Cell} {words : List ℕ} {own beside : Span} → HasSpans heap cell words own beside
    → length (drop plain_head words ++ span_words heap beside)
    ≡ length (span_words heap own) + length (span_words heap beside)
slots_many {heap} {cell} {words} {own} {beside} has =
    length-append (drop plain_head words) (span_words heap beside)
    ∙ ap (λ all. length all + length (span_words heap beside)) (sym has.own_are)

-- so slot 1 is the first breach of the object
pub first_too_few : {heap : Heap} {cell : Cell} {words : List ℕ} {own beside : Span} (word : ℕ) (flaw : Flaw)
    → HasSpans heap cell words own beside → HasWord words store_slot word
    → length (span_words heap own) + length (span_words heap beside) < length (path_of heap cell).fields
    → flaw ≡ record { at = cell.at + store_slot; found = word; wanted = asked_of word }
    → IsFirst (BreaksPlain heap cell words) flaw
first_too_few {heap} {cell} {words} {own} {beside} word flaw has slot few is =
    let slots : List ℕ = span_words heap beside in
    let path : Path = path_of heap cell in
    let short : length (drop plain_head words ++ slots) < length path.fields = omega (arith, slots_many has, few) in
    first_is (BreaksPlain heap cell words) flaw (cell.at + store_slot) word (asked_of word) is
    (fields_break has _ _ _ (BreaksFields.short word slot short))
    (λ at found wanted breaks. elim (proto_or_fields has at found wanted breaks) [
      | inl breach ↦ omega (arith, proto_at heap cell words at found wanted breach)
      | inr field ↦ too_few heap cell words path slots short at found wanted field
    ])

-- a breach of the own slots is one of the fields
own_to : {heap : Heap} {cell : Cell} {words : List ℕ} {own beside : Span} → HasSpans heap cell words own beside
    → length (path_of heap cell).fields ≤ length (span_words heap own) + length (span_words heap beside)
    → Includes (BreaksSpan heap own (FieldFits heap (path_of heap cell) 0) (field_asked (path_of heap cell) 0))
    (BreaksFields heap cell words (path_of heap cell) (span_words heap beside))
own_to {heap} {cell} {words} {own} {beside} has room _ _ _ (BreaksSpan.word place found there wrong) =
    let path : Path = path_of heap cell in
    let slots : List ℕ = span_words heap beside in
    let same : place ≡ 0 + place = omega arith in
    subst (λ a. BreaksFields heap cell words path slots (a + place) found (asked_at path (0 + place) found))
    (sym has.begins)
    (subst (λ n. BreaksFields heap cell words path slots (cell.at + plain_head + place) found (asked_at path n found))
    same
    (BreaksFields.own place found (omega (arith, slots_many has, room))
    (ap (λ all. slice_get all place) (sym has.own_are) ∙ there)
    (λ fits. wrong (subst (λ n. FitsSlot heap path n found) same fits))))

-- so is one of the slots beside them
beside_to : {heap : Heap} {cell : Cell} {words : List ℕ} {own beside : Span} (first : ℕ)
    → HasSpans heap cell words own beside → first ≡ length (span_words heap own)
    → length (path_of heap cell).fields ≤ length (span_words heap own) + length (span_words heap beside)
    → Includes
    (BreaksSpan heap beside (FieldFits heap (path_of heap cell) first) (field_asked (path_of heap cell) first))
    (BreaksFields heap cell words (path_of heap cell) (span_words heap beside))
beside_to {heap} {cell} {words} {own} {beside} first has long room _ _ _ (BreaksSpan.word place found there wrong) =
    let path : Path = path_of heap cell in
    let slots : List ℕ = span_words heap beside in
    let same : length (drop plain_head words) ≡ first = ap length (sym has.own_are) ∙ sym long in
    elim (span_beside heap kind.Store has.word beside (inl refl) has.is) [
      | IsSpanBeside.none undefined empty ↦ absurd (empty place found there)
      | IsSpanBeside.store store to is from end are ↦
          subst (λ a. BreaksFields heap cell words path slots (a + place) found (asked_at path (first + place) found))
          (sym from)
          (subst (λ n. BreaksFields heap cell words path slots (store.at + store_head + place) found
          (asked_at path (n + place) found)) same
          (BreaksFields.in_store has.word place found store _ (omega (arith, slots_many has, room)) has.slot to is
          (ap (λ all. slice_get all place) (sym are) ∙ there)
          (λ fits. wrong (subst (λ n. FitsSlot heap path (n + place) found) same fits))))
    ]

-- and each breach of the fields is one of these
fields_from : {heap : Heap} {cell : Cell} {words : List ℕ} {own beside : Span} (first : ℕ)
    → HasSpans heap cell words own beside → first ≡ length (span_words heap own)
    → length (path_of heap cell).fields ≤ length (span_words heap own) + length (span_words heap beside)
    → (at found wanted : ℕ) → BreaksFields heap cell words (path_of heap cell) (span_words heap beside) at found wanted
    → BreaksSpan heap own (FieldFits heap (path_of heap cell) 0) (field_asked (path_of heap cell) 0) at found wanted
    ⊎ BreaksSpan heap beside (FieldFits heap (path_of heap cell) first) (field_asked (path_of heap cell) first) at found
    wanted
fields_from {heap} {cell} {words} {own} {beside} first has long room _ _ _ (BreaksFields.short found slot short) =
    absurd (omega (arith, slots_many has, room, short))
fields_from {heap} {cell} {words} {own} {beside} first has long room _ _ _
    (BreaksFields.own place found enough there wrong) =
    let path : Path = path_of heap cell in
    let Fits : ℕ → ℕ → Type 0 = FieldFits heap path 0 in
    let asked : ℕ → ℕ → ℕ = field_asked path 0 in
    let same : 0 + place ≡ place = omega arith in
    let here : BreaksSpan heap own Fits asked (own.from + place) found (asked_at path (0 + place) found) =
    BreaksSpan.word place found (ap (λ all. slice_get all place) has.own_are ∙ there)
    (λ fits. wrong (subst (λ n. FitsSlot heap path n found) same fits)) in
    inl (subst (λ a. BreaksSpan heap own Fits asked (a + place) found (asked_at path place found)) has.begins
    (subst (λ n. BreaksSpan heap own Fits asked (own.from + place) found (asked_at path n found)) same here))
fields_from {heap} {cell} {words} {own} {beside} first has long room _ _ _
    (BreaksFields.in_store word place found store others enough slot refers is there wrong) =
    let path : Path = path_of heap cell in
    let Fits : ℕ → ℕ → Type 0 = FieldFits heap path first in
    let asked : ℕ → ℕ → ℕ = field_asked path first in
    let same : first ≡ length (drop plain_head words) = long ∙ ap length has.own_are in
    let to = subst (λ w. RefersTo heap w store others) (same_Some _ _ (sym slot ∙ has.slot)) refers in
    let target = span_of_target heap kind.Store has.word beside store others (inl refl) has.is to in
    let here : BreaksSpan heap beside Fits asked (beside.from + place) found (asked_at path (first + place) found) =
    BreaksSpan.word place found (ap (λ all. slice_get all place) target.1 ∙ there)
    (λ fits. wrong (subst (λ n. FitsSlot heap path (n + place) found) same fits)) in
    inr (subst (λ a. BreaksSpan heap beside Fits asked (a + place) found
    (asked_at path (length (drop plain_head words) + place) found)) target.0
    (subst (λ n. BreaksSpan heap beside Fits asked (beside.from + place) found (asked_at path (n + place) found)) same
    here))

-- what is found along both spans is found of the fields
pub fields_by_spans : {heap : Heap} {cell : Cell} {words : List ℕ} {own beside : Span} (first : ℕ)
    (one other : Option Flaw)
    → HasSpans heap cell words own beside → first ≡ length (span_words heap own)
    → length (path_of heap cell).fields ≤ length (span_words heap own) + length (span_words heap beside)
    → IsVerdict (EachWord (span_words heap own) (FieldFits heap (path_of heap cell) 0))
    (BreaksSpan heap own (FieldFits heap (path_of heap cell) 0) (field_asked (path_of heap cell) 0)) one
    → IsVerdict (EachWord (span_words heap beside) (FieldFits heap (path_of heap cell) first))
    (BreaksSpan heap beside (FieldFits heap (path_of heap cell) first) (field_asked (path_of heap cell) first)) other
    → IsVerdict (HoldFields heap (path_of heap cell) (span_words heap own ++ span_words heap beside))
    (BreaksFields heap cell words (path_of heap cell) (span_words heap beside)) (earlier_of one other)
fields_by_spans {heap} {cell} {words} {own} {beside} first one other has long room is also =
    let path : Path = path_of heap cell in
    let slots : List ℕ = span_words heap own ++ span_words heap beside in
    let Own : Type 0 = EachWord (span_words heap own) (FieldFits heap path 0) in
    let Beside : Type 0 = EachWord (span_words heap beside) (FieldFits heap path first) in
    let BreaksOwn : ℕ → ℕ → ℕ → Type 0 = BreaksSpan heap own (FieldFits heap path 0) (field_asked path 0) in
    let BreaksBeside : ℕ → ℕ → ℕ → Type 0 =
    BreaksSpan heap beside (FieldFits heap path first) (field_asked path first) in
    joined_finds Own Beside (HoldFields heap path slots) BreaksOwn BreaksBeside
    (BreaksFields heap cell words path (span_words heap beside)) one other
    (record {
      both = λ left right. hold_fields_from heap path slots
          (omega (arith, length-append (span_words heap own) (span_words heap beside), room))
          (each_of_both (span_words heap own) (span_words heap beside) first (FitsSlot heap path) long left right);
      of_one = own_to has room;
      of_other = beside_to first has long room;
      only = fields_from first has long room;
      not_one = span_excludes heap own (FieldFits heap path 0) (field_asked path 0);
      not_other = span_excludes heap beside (FieldFits heap path first) (field_asked path first);
    })
    is also

-- what is found of the prototype slot and of the fields is found of the object
pub plain_by_parts : {heap : Heap} {cell : Cell} {words : List ℕ} {own beside : Span} (proto fields : Option Flaw)
    → HasSpans heap cell words own beside → IsVerdict (HasProto heap words) (BreaksProto heap cell words) proto
    → IsVerdict (HoldFields heap (path_of heap cell) (span_words heap own ++ span_words heap beside))
    (BreaksFields heap cell words (path_of heap cell) (span_words heap beside)) fields
    → IsVerdict (IsPlainCell heap cell words) (BreaksPlain heap cell words) (earlier_of proto fields)
plain_by_parts {heap} {cell} {words} {own} {beside} proto fields has is also =
    let path : Path = path_of heap cell in
    let slots : List ℕ = span_words heap beside in
    let spans = beside_spans heap kind.Store has.word beside (inl refl) has.is in
    joined_finds (HasProto heap words) (HoldFields heap path (span_words heap own ++ slots))
    (IsPlainCell heap cell words) (BreaksProto heap cell words) (BreaksFields heap cell words path slots)
    (BreaksPlain heap cell words) proto fields
    (record {
      both = λ proto_is hold. plain_from heap cell words has.word own beside has.shape has.slot has.own_are spans hold
          proto_is;
      of_one = λ at found wanted breaks. BreaksPlain.proto at found wanted has.shape breaks;
      of_other = fields_break has;
      only = proto_or_fields has;
      not_one = proto_excludes heap cell words;
      not_other = λ at found wanted breaks hold.
          fields_exclude heap cell words path has.word slots has.slot spans.beside at found wanted breaks
          (subst (λ all. HoldFields heap path (all ++ slots)) has.own_are hold);
    })
    is also
