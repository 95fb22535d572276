-- Which in-object slots of a plain object a scavenge visits: those that are used and not raw, by the path of its shape
-- those of its fields that are not wide.
use Rattle.std.proofs.Common.{◌≡◌, ℕ, ◌+◌, ◌-◌, ◌≤◌, ◌<◌, ◌⊎◌, ◌↔◌, inl, inr, false, Some, length}
use Rattle.std.proofs.Common.{slice_get, get_or, refl, sym, ◌∙◌, ap, subst, arith, length-take, ◌==◌}
use Rattle.std.proofs.lemmas.Bool.{true≢false}
use Rattle.std.proofs.lemmas.Option.{slice_get-get_or, same_Some, slice_get_within}
use Rattle.tagged_word.specs.declared.layout.Kind.TheVariants as kind
use Rattle.tagged_word.specs.Layouts.{is_raw}
use Rattle.tagged_word.specs.Cells.{plain_head, store_slot, proto_slot}
use Rattle.tagged_word.proofs.Offsets.{IsInObject, in_object_in, IsPlainSlot, plain_slot_is, plain_has_store}
use Rattle.tagged_word.proofs.Offsets.{plain_has_proto, plain_has_own}
use Rattle.heap_model.specs.Types.{LayoutWord, Path, PathField, Rep, Cell}
use Rattle.object_graph.specs.declared.value.Rep.TheVariants as rep
use Rattle.shape_tree.specs.ShapeLayouts.{layout_of, raw_bit}
use Rattle.heap_model.specs.Remembered.{IsSlotOf}
use Rattle.heap_model.proofs.PathLayouts.{in_object_used, in_object_raw}
use Rattle.object_cells.proofs.TouchedOffsets.{slot_by_kind, offset_by_kind}

-- the address is that of an in-object slot which is used and not raw
pub record IsOwnSlot (cell : Cell) (at : ℕ) : Type 0 where
  pub number : ℕ
  pub stands : cell.at + (plain_head + number) ≡ at
  pub used : number < cell.layout.used
  pub tagged : is_raw cell.layout number ≡ false

-- such a one of a plain object is a slot
pub own_slot : {cell : Cell} {at : ℕ} → cell.layout.kind ≡ kind.Plain → IsOwnSlot cell at → IsSlotOf cell at
own_slot {cell} of_kind own =
    let offset : ℕ = plain_head + own.number in
    let number : own.number ≡ offset - plain_head = omega arith in
    let place : IsInObject cell.layout offset = record {
      behind = omega arith;
      used = omega (arith, own.used);
      tagged = subst (λ k. is_raw cell.layout k ≡ false) number own.tagged;
    } in
    slot_by_kind kind.Plain offset of_kind own.stands
    (plain_has_own cell.layout offset (in_object_in cell.layout offset place))

-- the address is that of a word of the head of a plain object which is a slot: that of its store, or of its prototype
pub data IsHeadSlot (cell : Cell) (at : ℕ) : Type 0 where
  store : cell.at + store_slot ≡ at → IsHeadSlot cell at
  proto : cell.at + proto_slot ≡ at → IsHeadSlot cell at

-- it is no in-object slot
head_is_not_own : (cell : Cell) (number : ℕ) → IsHeadSlot cell (cell.at + (plain_head + number)) → ⊥
head_is_not_own cell number (IsHeadSlot.store same) = omega (arith, same)
head_is_not_own cell number (IsHeadSlot.proto same) = omega (arith, same)

-- such a one is a slot of each plain object's cell at the address
head_slot : {cell came : Cell} {at : ℕ} → came.layout.kind ≡ kind.Plain → cell.at ≡ came.at → IsHeadSlot cell at
    → IsSlotOf came at
head_slot {came = came} of_kind place (IsHeadSlot.store same) =
    slot_by_kind kind.Plain store_slot of_kind (omega (arith, same, place)) (plain_has_store came.layout)
head_slot {came = came} of_kind place (IsHeadSlot.proto same) =
    slot_by_kind kind.Plain proto_slot of_kind (omega (arith, same, place)) (plain_has_proto came.layout)

-- and each slot of a plain object is one of its head or such a one
pub plain_slot_cases : {cell : Cell} {at : ℕ} → cell.layout.kind ≡ kind.Plain → IsSlotOf cell at
    → IsHeadSlot cell at ⊎ IsOwnSlot cell at
plain_slot_cases {cell} of_kind slot =
    elim (plain_slot_is cell.layout slot.offset (offset_by_kind kind.Plain of_kind slot)) [
      | IsPlainSlot.store same ↦ inl (IsHeadSlot.store (omega (arith, same, slot.stands)))
      | IsPlainSlot.proto same ↦ inl (IsHeadSlot.proto (omega (arith, same, slot.stands)))
      | IsPlainSlot.own place ↦
          inr (record {
            number = slot.offset - plain_head;
            stands = omega (arith, place.behind, slot.stands);
            used = place.used;
            tagged = place.tagged;
          })
    ]

-- the address is that of an in-object slot of a field of the path which is not wide
pub record IsOwnField (cell : Cell) (path : Path) (at : ℕ) : Type 0 where
  pub number : ℕ
  pub stands : cell.at + (plain_head + number) ≡ at
  pub below : number < path.cap
  pub field : PathField
  pub there : slice_get path.fields number ≡ Some field
  pub tagged : raw_bit field.rep ≡ 0

-- the layout of a path is a plain object's
pub plain_by_path : (cell : Cell) (path : Path) → cell.layout ≡ layout_of path → cell.layout.kind ≡ kind.Plain
plain_by_path cell path laid = ap (λ (layout : LayoutWord). layout.kind) laid

-- such a one is a slot of a cell that has the layout of the path
pub own_field_slot : {cell : Cell} {at : ℕ} (path : Path) → cell.layout ≡ layout_of path → IsOwnField cell path at
    → IsSlotOf cell at
own_field_slot {cell} path laid own =
    let used = in_object_used path own.number own.field own.there own.below in
    let tagged : is_raw (layout_of path) own.number ≡ false =
    in_object_raw path own.number own.field own.there own.below ∙ ap (λ n. n == 1) own.tagged in
    own_slot (plain_by_path cell path laid) (record {
      number = own.number;
      stands = own.stands;
      used = subst (λ (layout : LayoutWord). own.number < layout.used) (sym laid) used;
      tagged = subst (λ (layout : LayoutWord). is_raw layout own.number ≡ false) (sym laid) tagged;
    })

-- a bit that does not stand is 0
no_bit : (one : Rep) → (raw_bit one == 1) ≡ false → raw_bit one ≡ 0
no_bit rep.Small is = refl
no_bit rep.Wide is = absurd (true≢false is)
no_bit rep.Tagged is = refl

-- a field that is put where none is sought
no_field : PathField
no_field = record { name = 0; rep = rep.Small }

-- and each slot of such a cell is one of its head or such a one
pub own_field_cases : {cell : Cell} {at : ℕ} (path : Path) → cell.layout ≡ layout_of path → IsSlotOf cell at
    → IsHeadSlot cell at ⊎ IsOwnField cell path at
own_field_cases {cell} path laid slot =
    elim (plain_slot_cases (plain_by_path cell path laid) slot) [
      | inl head ↦ inl head
      | inr own ↦
          let k : ℕ = own.number in
          let used : k < (layout_of path).used = subst (λ (layout : LayoutWord). k < layout.used) laid own.used in
          let below : k < path.cap = omega (arith, used, length-take path.cap path.fields) in
          let within : k < length path.fields = omega (arith, used, length-take path.cap path.fields) in
          let field : PathField = get_or path.fields k no_field in
          let there : slice_get path.fields k ≡ Some field = slice_get-get_or path.fields k no_field within in
          let raw : is_raw (layout_of path) k ≡ false =
          subst (λ (layout : LayoutWord). is_raw layout k ≡ false) laid own.tagged in
          inr (record {
            number = k;
            stands = own.stands;
            below = below;
            field = field;
            there = there;
            tagged = no_bit field.rep (sym (in_object_raw path k field there below) ∙ raw);
          })
    ]

-- the in-object slot of a number is a slot where its field is not wide
pub field_has_slot : (cell : Cell) (path : Path) (number : ℕ) (field : PathField) → cell.layout ≡ layout_of path
    → number < path.cap → slice_get path.fields number ≡ Some field → raw_bit field.rep ≡ 0
    → IsSlotOf cell (cell.at + (plain_head + number))
field_has_slot cell path number field laid below there tagged =
    own_field_slot path laid
    (record { number = number; stands = refl; below = below; field = field; there = there; tagged = tagged })

-- the field of an in-object slot that is one
pub slot_has_field : (cell : Cell) (path : Path) (number : ℕ) → cell.layout ≡ layout_of path
    → IsSlotOf cell (cell.at + (plain_head + number))
    → (field : PathField) × ((number < path.cap) × (slice_get path.fields number ≡ Some field)
    × (raw_bit field.rep ≡ 0))
slot_has_field cell path number laid slot =
    elim (own_field_cases path laid slot) [
      | inl head ↦ absurd (head_is_not_own cell number head)
      | inr own ↦
          let one : own.number ≡ number = omega (arith, own.stands) in (
            own.field,
            (
              subst (λ k. k < path.cap) one own.below,
              subst (λ k. slice_get path.fields k ≡ Some own.field) one own.there,
              own.tagged,
            ),
          )
    ]

-- so that of a wide field is none
pub wide_is_no_slot : (cell : Cell) (path : Path) (number : ℕ) (field : PathField) → cell.layout ≡ layout_of path
    → slice_get path.fields number ≡ Some field → field.rep ≡ rep.Wide
    → IsSlotOf cell (cell.at + (plain_head + number)) → ⊥
wide_is_no_slot cell path number field laid there wide slot =
    let has = slot_has_field cell path number laid slot in
    let same : field ≡ has.0 = same_Some field has.0 (sym there ∙ has.1.1) in
    let bit : raw_bit field.rep ≡ 0 = ap (λ (one : PathField). raw_bit one.rep) same ∙ has.1.2 in
    let bits : raw_bit field.rep ≡ 1 = ap raw_bit wide in
    omega (arith, bit, bits)

-- and that of no field is none
pub unused_is_no_slot : (cell : Cell) (path : Path) (number : ℕ) → cell.layout ≡ layout_of path
    → length path.fields ≤ number → IsSlotOf cell (cell.at + (plain_head + number)) → ⊥
unused_is_no_slot cell path number laid past slot =
    let has = slot_has_field cell path number laid slot in
    let within = slice_get_within path.fields number has.0 has.1.1 in omega (arith, within, past)

-- Two paths are alike at a number: they have the same field there, or none, or both have one that is not wide.
pub data AreAlike (path next : Path) (number : ℕ) : Type 0 where
  same_field : slice_get path.fields number ≡ slice_get next.fields number → AreAlike path next number
  not_wide : (was is : PathField) → slice_get path.fields number ≡ Some was → raw_bit was.rep ≡ 0
      → slice_get next.fields number ≡ Some is → raw_bit is.rep ≡ 0 → AreAlike path next number

-- so they are the other way round
alike_back : {path next : Path} {number : ℕ} → AreAlike path next number → AreAlike next path number
alike_back (AreAlike.same_field same) = AreAlike.same_field (sym same)
alike_back (AreAlike.not_wide was is there not_raw there_then not_raw_then) =
    AreAlike.not_wide is was there_then not_raw_then there not_raw

-- a field that is not wide is one in a path that is alike
alike_field : {path next : Path} {number : ℕ} (field : PathField) → AreAlike path next number
    → slice_get path.fields number ≡ Some field → raw_bit field.rep ≡ 0
    → (one : PathField) × ((slice_get next.fields number ≡ Some one) × (raw_bit one.rep ≡ 0))
alike_field field (AreAlike.same_field same) there not_raw = (field, (sym same ∙ there, not_raw))
alike_field field (AreAlike.not_wide was is there not_raw there_then not_raw_then) there_too not_raw_too =
    (is, (there_then, not_raw_then))

-- Two cells at one address whose paths have one cap have the same slots but for in-object ones of fields that differ.
pub slot_alike : {cell came : Cell} {at : ℕ} (path next : Path) → cell.layout ≡ layout_of path
    → came.layout ≡ layout_of next → cell.at ≡ came.at → path.cap ≡ next.cap
    → ((number : ℕ) → number < path.cap → cell.at + (plain_head + number) ≡ at → AreAlike path next number)
    → IsSlotOf cell at → IsSlotOf came at
slot_alike {cell} {came} {at} path next laid laid_next place cap alike slot =
    elim (own_field_cases path laid slot) [
      | inl head ↦ head_slot (plain_by_path came next laid_next) place head
      | inr own ↦
          let one = alike_field own.field (alike own.number own.below own.stands) own.there own.tagged in
          own_field_slot next laid_next (record {
            number = own.number;
            stands = omega (arith, own.stands, place);
            below = omega (arith, own.below, cap);
            field = one.0;
            there = one.1.0;
            tagged = one.1.1;
          })
    ]

-- so each has where the other has
pub slots_alike : {cell came : Cell} {at : ℕ} (path next : Path) → cell.layout ≡ layout_of path
    → came.layout ≡ layout_of next → cell.at ≡ came.at → path.cap ≡ next.cap
    → ((number : ℕ) → number < path.cap → cell.at + (plain_head + number) ≡ at → AreAlike path next number)
    → IsSlotOf cell at ↔ IsSlotOf came at
slots_alike {cell} {came} {at} path next laid laid_next place cap alike = (
  slot_alike path next laid laid_next place cap alike,
  slot_alike next path laid_next laid (sym place) (sym cap) (λ number below stands.
      alike_back (alike number (omega (arith, below, cap)) (omega (arith, stands, place)))),
)
