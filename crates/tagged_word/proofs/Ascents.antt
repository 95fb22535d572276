-- The lists of offsets ascend.
use Rattle.std.proofs.Common.{ℕ, ◌<◌, ◌+◌, Bool, not, List, [], ◌∷◌, map, filter, length, get_or, arith}
use Rattle.std.specs.List.{All, AllPairs, range_with_len}
use Rattle.std.specs.List.Sorted.{IsStrictlyIncreasing}
use Rattle.std.proofs.lemmas.List.{length-map, get_or-map}
use Rattle.std.proofs.lemmas.List.Elements.{All-cons, Contains-get_or}
use Rattle.std.proofs.lemmas.List.FromFn.{length-range_with_len, get_or-range_with_len}
use Rattle.std.proofs.lemmas.List.Kept.{AllPairs-cons, AllPairs-filter}
use Rattle.tagged_word.specs.declared.layout.Kind.{Kind}
use Rattle.tagged_word.specs.declared.layout.Kind.TheVariants as kind
use Rattle.tagged_word.specs.declared.layout.LayoutWord.{LayoutWord}
use Rattle.tagged_word.specs.Layouts.{is_raw}
use Rattle.tagged_word.specs.Cells.{in_object_offsets, plain_head, store_head, store_slot, proto_slot}
use Rattle.tagged_word.specs.Cells.{tagged_offsets, tagged_offsets_of}
use Rattle.tagged_word.proofs.Offsets.{in_object_is}

-- each number is below all that follow
abbrev Rises : List ℕ → Type 0
Rises xs = AllPairs (λ x y. x < y) xs

-- a run of numbers does
rises_run : (from many : ℕ) → Rises (range_with_len from many)
rises_run from many i j d less within =
    let high : j < many = omega (arith, length-range_with_len from many) in
    let low : i < many = omega arith in
    omega (arith, get_or-range_with_len from many i d low, get_or-range_with_len from many j d high)

-- so does a list that does, moved by a number
rises_behind : (from : ℕ) (xs : List ℕ) → Rises xs → Rises (map (λ x. from + x) xs)
rises_behind from xs h i j d less within =
    let f : ℕ → ℕ = λ x. from + x in
    let high : j < length xs = omega (arith, length-map xs f) in
    let low : i < length xs = omega arith in
    omega (arith, get_or-map f xs i d d low, get_or-map f xs j d d high, h i j d less high)

-- the in-object slots ascend
rises_in_object : (layout : LayoutWord) → Rises (in_object_offsets layout)
rises_in_object layout =
    let test : ℕ → Bool = λ s. not (is_raw layout s) in
    rises_behind plain_head (filter test (range_with_len 0 layout.used))
    (AllPairs-filter (λ x y. x < y) test (range_with_len 0 layout.used) (rises_run 0 layout.used))

-- and stand after the words of the head
in_object_later : (layout : LayoutWord) (before : ℕ) → before < plain_head →
    All (λ x. before < x) (in_object_offsets layout)
in_object_later layout before head k d l =
    let slot = in_object_is layout (get_or (in_object_offsets layout) k d)
    (Contains-get_or (in_object_offsets layout) k d l) in
    omega (arith, slot.behind, head)

-- the slot of the prototype and the in-object slots ascend
rises_from_proto : (layout : LayoutWord) → Rises (proto_slot ∷ in_object_offsets layout)
rises_from_proto layout =
    AllPairs-cons (λ x y. x < y) proto_slot (in_object_offsets layout) (in_object_later layout proto_slot (omega arith))
    (rises_in_object layout)

-- and stand after the store's slot
later_than_store : (layout : LayoutWord) → All (λ x. store_slot < x) (proto_slot ∷ in_object_offsets layout)
later_than_store layout =
    All-cons (λ x. store_slot < x) proto_slot (in_object_offsets layout) (omega arith)
    (in_object_later layout store_slot (omega arith))

-- no offsets ascend
rises_none : Rises []
rises_none i j d less within = absurd (omega arith)

-- a single offset does
rises_one : (x : ℕ) → Rises (x ∷ [])
rises_one x i j d less within = absurd (omega arith)

-- the offsets that marking visits, kind by kind
rises_tagged : (k : Kind) (layout : LayoutWord) (long : ℕ) → Rises (tagged_offsets_of k layout long)
rises_tagged kind.Plain layout long =
    AllPairs-cons (λ x y. x < y) store_slot (proto_slot ∷ in_object_offsets layout) (later_than_store layout)
    (rises_from_proto layout)
rises_tagged kind.List layout long = rises_one store_slot
rises_tagged kind.Weak layout long = rises_one store_slot
rises_tagged kind.Store layout long = rises_run store_head long
rises_tagged kind.Table layout long = rises_none
rises_tagged kind.Boxed layout long = rises_none
rises_tagged kind.Filler layout long = rises_none
rises_tagged kind.Gap layout long = rises_none

-- where each number is below all that follow, it is below the next
increasing : (xs : List ℕ) → Rises xs → IsStrictlyIncreasing xs
increasing xs h k within = h k (k + 1) 0 (omega arith) within

-- the offsets that marking visits ascend
pub tagged_ascend : (layout : LayoutWord) (long : ℕ) → IsStrictlyIncreasing (tagged_offsets layout long)
tagged_ascend layout long = increasing (tagged_offsets layout long) (rises_tagged layout.kind layout long)
