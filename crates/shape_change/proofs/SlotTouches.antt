-- How the addresses of slots that move down are touched.
use Rattle.std.proofs.Common.{◌≡◌, ◌≢◌, ℕ, zero, suc, ◌+◌, ◌-◌, ◌<◌, ◌≤◌, ◌⊎◌, inl, inr, Bool, true, false, List}
use Rattle.std.proofs.Common.{length, Some, None, slice_get, get_or, sym, ◌∙◌, ap, subst, arith}
use Rattle.std.specs.Prelude.{Option}
use Rattle.std.proofs.lemmas.Bool.{cases_lt, cases_eq}
use Rattle.std.proofs.lemmas.Option.{none-some, slice_get-get_or, slice_get_past}
use Rattle.tagged_word.specs.Cells.{plain_head}
use Rattle.page_space.specs.Extents.{marks_start}
use Rattle.heap_model.specs.Types.{Path, PathField, Rep}
use Rattle.object_graph.specs.declared.value.Rep.TheVariants as rep
use Rattle.shape_tree.specs.Shapes.{shape_path}
use Rattle.write_barrier.specs.Seats.{heap_words}
use Rattle.heap_model.specs.Remembered.{Touch}
use Rattle.write_barrier.specs.MutatorState.{Mutator, with_word, with_slot}
use Rattle.write_barrier.specs.Storing.{StoresOn}
use Rattle.write_barrier.specs.SureStores.{StoresSurely}
use Rattle.write_barrier.proofs.SureStores.{kept_surely, surely_alike, surely_then, wiped_surely}
use Rattle.write_barrier.specs.Recording.{Touches, touched_one, touched_again, touched_then}
use Rattle.write_barrier.proofs.TouchedRanges.{touched_inside, touched_outside, touched_here, touched_other}
use Rattle.write_barrier.proofs.Recording.{no_touch, touch_alike, then_touch, word_touch, slot_touch}
use Rattle.object_cells.proofs.TouchedCells.{again_behind}
use Rattle.shape_change.specs.Shifts.{rep_touch, field_touch, own_touch, touched_by}

-- an address of the range is touched as it should be
pub by_inside : (how : ℕ → Touch) (from to at : ℕ) → from ≤ at → at < to → touched_by how from to at ≡ how at
by_inside how from to at begins ends = touched_inside (how at) from to at begins ends

-- an address beside it is kept
pub by_outside : (how : ℕ → Touch) (from to at : ℕ) → (at < from) ⊎ (to ≤ at)
    → touched_by how from to at ≡ Touch.Kept
by_outside how from to at out = touched_outside (how at) from to at out

-- no address is of a range that ends where it begins
pub none_by : (main : Mutator) (how : ℕ → Touch) (from : ℕ) → Touches main main (touched_by how from from)
none_by main how from =
    let out : (at : ℕ) → (at < from) ⊎ (from ≤ at) = λ at. cases_lt at from in
    touch_alike (λ at below. sym (by_outside how from from at (out at))) (no_touch main)

-- an address of a range that has one more is that one, or is touched as by the range before
more_alike : (how : ℕ → Touch) (from to at : ℕ) → from ≤ to
    → touched_then (touched_by how from to) (touched_one (how to) to) at ≡ touched_by how from (to + 1) at
more_alike how from to at order = elim (cases_eq at to) [
  | inl same ↦
      ap (λ (first : Touch). touched_again first (touched_one (how to) to at))
      (by_outside how from to at (inr (omega (arith, same))))
      ∙ again_behind (touched_one (how to) to at) ∙ ap (touched_one (how to) to) same ∙ touched_here (how to) to
      ∙ ap how (sym same)
      ∙ sym (by_inside how from (to + 1) at (omega (arith, same, order)) (omega (arith, same)))
  | inr apart ↦
      ap (touched_again (touched_by how from to at)) (touched_other (how to) to at apart)
      ∙ elim (cases_lt at from) [
        | inl before ↦
            by_outside how from to at (inl before) ∙ sym (by_outside how from (to + 1) at (inl before))
        | inr begins ↦ elim (cases_lt at to) [
          | inl ends ↦
              by_inside how from to at begins ends ∙ sym (by_inside how from (to + 1) at begins (omega (arith, ends)))
          | inr past ↦
              by_outside how from to at (inr past)
              ∙ sym (by_outside how from (to + 1) at (inr (omega (arith, past, apart))))
        ]
      ]
]

-- one address more was touched
pub more_by : {old mid new : Mutator} {from to : ℕ} (how : ℕ → Touch) → from ≤ to
    → Touches old mid (touched_by how from to) → Touches mid new (touched_one (how to) to)
    → Touches old new (touched_by how from (to + 1))
more_by {from = from} {to} how order first next =
    touch_alike (λ at below. more_alike how from to at order) (then_touch first next)

-- so one word more was put surely
pub more_surely : {mid new : Mutator} {from to : ℕ} (how : ℕ → Touch) → from ≤ to
    → StoresSurely mid (touched_by how from to) → Touches mid new (touched_one (how to) to) → StoresOn mid new
    → StoresSurely new (touched_one (how to) to) → StoresSurely new (touched_by how from (to + 1))
more_surely {from = from} {to} how order first touches stores next =
    surely_alike (λ at below. more_alike how from to at order) (surely_then first touches stores next)

-- none of no words was put
pub none_surely : (main : Mutator) (how : ℕ → Touch) (from : ℕ) → StoresSurely main (touched_by how from from)
none_surely main how from =
    surely_alike (λ at below. sym (by_outside how from from at (cases_lt at from))) (kept_surely main)

-- an address was put surely as it was touched
pub how_surely : {new : Mutator} {how other : Touch} (at : ℕ) → how ≡ other → StoresSurely new (touched_one how at)
    → StoresSurely new (touched_one other at)
how_surely {new} at same surely = subst (λ (h : Touch). StoresSurely new (touched_one h at)) same surely

-- the in-object slot of a number is touched as its field says
pub own_touch_at : (path : Path) (object slot : ℕ)
    → own_touch path object (object + (plain_head + slot)) ≡ field_touch true (slice_get path.fields slot)
own_touch_at path object slot =
    let number : object + (plain_head + slot) - (object + plain_head) ≡ slot = omega arith in
    ap (λ n. field_touch true (slice_get path.fields n)) number

-- the slot of a field in the object was touched as its representation says
pub field_put : {old new : Mutator} {paths all : List Path} {field : PathField} {how : Touch} (at shape slot : ℕ)
    → all ≡ paths → slice_get (shape_path all shape).fields slot ≡ Some field → rep_touch field.rep ≡ how
    → Touches old new (touched_one how at)
    → Touches old new (touched_one (field_touch true (slice_get (shape_path paths shape).fields slot)) at)
field_put {old} {new} {field = field} at shape slot same found is touches =
    let there = subst (λ ps. slice_get (shape_path ps shape).fields slot ≡ Some field) same found in
    subst (λ (h : Touch). Touches old new (touched_one h at)) (sym (ap (field_touch true) there ∙ is)) touches

-- so is a slot of the object by the paths that there were before
pub own_put : {mid new : Mutator} {paths : List Path} (shape object slot : ℕ) → mid.paths ≡ paths
    → Touches mid new (touched_one (field_touch true (slice_get (shape_path mid.paths shape).fields slot))
    (object + (plain_head + slot)))
    → Touches mid new (touched_one (own_touch (shape_path paths shape) object (object + (plain_head + slot)))
    (object + (plain_head + slot)))
own_put {mid} {new} {paths} shape object slot same touches =
    let how = ap (λ ps. field_touch true (slice_get (shape_path ps shape).fields slot)) same
    ∙ sym (own_touch_at (shape_path paths shape) object slot) in
    subst (λ (h : Touch). Touches mid new (touched_one h (object + (plain_head + slot)))) how touches

-- how the slot of a field is touched is told by its representation
pub field_how : {paths all : List Path} {field : PathField} {how : Touch} (shape slot : ℕ) → all ≡ paths
    → slice_get (shape_path all shape).fields slot ≡ Some field → rep_touch field.rep ≡ how
    → field_touch true (slice_get (shape_path paths shape).fields slot) ≡ how
field_how {field = field} shape slot same found is =
    ap (field_touch true) (subst (λ ps. slice_get (shape_path ps shape).fields slot ≡ Some field) same found) ∙ is

-- it was put surely
pub own_surely : {new : Mutator} {mids paths : List Path} (shape object slot : ℕ) → mids ≡ paths
    → StoresSurely new (touched_one (field_touch true (slice_get (shape_path mids shape).fields slot))
    (object + (plain_head + slot)))
    → StoresSurely new (touched_one (own_touch (shape_path paths shape) object (object + (plain_head + slot)))
    (object + (plain_head + slot)))
own_surely {paths = paths} shape object slot same surely =
    how_surely (object + (plain_head + slot))
    (ap (λ ps. field_touch true (slice_get (shape_path ps shape).fields slot)) same
    ∙ sym (own_touch_at (shape_path paths shape) object slot)) surely

-- the slot behind the fields is none
pub past_put : {old new : Mutator} (path : Path) (object slot : ℕ) → length path.fields ≤ slot
    → Touches old new (touched_one Touch.Wiped (object + (plain_head + slot)))
    → Touches old new (touched_one (own_touch path object (object + (plain_head + slot)))
    (object + (plain_head + slot)))
past_put {old} {new} path object slot behind touches =
    let how = own_touch_at path object slot
    ∙ ap (field_touch true) (slice_get_past path.fields slot behind) in
    subst (λ (h : Touch). Touches old new (touched_one h (object + (plain_head + slot)))) (sym how) touches

-- and was put surely
pub past_surely : (path : Path) (object slot : ℕ) → length path.fields ≤ slot → (new : Mutator)
    → StoresSurely new (touched_one (own_touch path object (object + (plain_head + slot)))
    (object + (plain_head + slot)))
past_surely path object slot behind new =
    how_surely (object + (plain_head + slot))
    (sym (own_touch_at path object slot ∙ ap (field_touch true) (slice_get_past path.fields slot behind)))
    (wiped_surely new (object + (plain_head + slot)))

-- a word was put that is no slot's
pub word_put : {old new : Mutator} (at word : ℕ) → new ≡ with_word old at word → at < marks_start old.seat.space
    → Touches old new (touched_one Touch.Wiped at)
word_put {old} at word is before =
    subst (λ (main : Mutator). Touches old main (touched_one Touch.Wiped at)) (sym is) (word_touch old at word before)

-- and one that is
pub slot_put : {old new : Mutator} (at word : ℕ) → new ≡ with_slot old at word
    → length (heap_words old.seat) ≡ marks_start old.seat.space → at < marks_start old.seat.space
    → Touches old new (touched_one Touch.Stored at)
slot_put {old} at word is counted before =
    subst (λ (main : Mutator). Touches old main (touched_one Touch.Stored at)) (sym is)
    (slot_touch old at word counted before)

-- one of the numbers from one up to another, whose place this is
pub record IsPlaceOfOne (place : ℕ → ℕ) (from to at : ℕ) : Type 0 where
  pub one : ℕ
  pub low : from ≤ one
  pub high : one < to
  pub stands : place one ≡ at

-- an address is the place of one of so many numbers, or of none of them
pub found_or_not : (place : ℕ → ℕ) (from many at : ℕ)
    → IsPlaceOfOne place from (from + many) at ⊎ ((one : ℕ) → from ≤ one → one < from + many → place one ≢ at)
found_or_not place from zero at = inr (λ one low high. absurd (omega (arith, low, high)))
found_or_not place from (suc many) at = elim (found_or_not place from many at) [
  | inl found ↦ inl (record {
    one = found.one;
    low = found.low;
    high = let high = found.high in omega (arith, high);
    stands = found.stands;
  })
  | inr none ↦ elim (cases_eq (place (from + many)) at) [
    | inl same ↦ inl (record { one = from + many; low = omega arith; high = omega arith; stands = same })
    | inr apart ↦ inr (λ one low high same. elim (cases_lt one (from + many)) [
      | inl before ↦ none one low before same
      | inr last ↦
          let is : from + many ≡ one = omega (arith, last, high) in
          apart (ap place is ∙ same)
    ])
  ]
]

-- a slot that is touched as the representation of its field says is not kept
rep_is_touched : (one : Rep) → rep_touch one ≡ Touch.Kept → ⊥
rep_is_touched rep.Small is = cc
rep_is_touched rep.Wide is = cc
rep_is_touched rep.Tagged is = cc

-- nor is one in the store, or one in the object of no field
pub field_is_touched : (own : Bool) (found : Option PathField) → field_touch own found ≡ Touch.Kept → ⊥
field_is_touched false found is = cc
field_is_touched true None is = cc
field_is_touched true (Some field) is = rep_is_touched field.rep is

-- a field for want of another
abbrev no_field : PathField
no_field = record { name = 0; rep = rep.Small }

-- where there is no field of a number, the fields end before it
pub none_from : (fields : List PathField) (k : ℕ) → slice_get fields k ≡ None → length fields ≤ k
none_from fields k none = elim (cases_lt k (length fields)) [
  | inl within ↦
      absurd (none-some (get_or fields k no_field) (sym none ∙ slice_get-get_or fields k no_field within))
  | inr past ↦ past
]
