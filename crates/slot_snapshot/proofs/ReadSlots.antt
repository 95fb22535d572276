-- The loop over the slots of a cell, and what it leaves.
use Rattle.std.proofs.Common.{◌≡◌, ◌≤◌, inl, inr, ℕ, ◌+◌, ◌<◌, ◌&&◌, Bool, false, not, List, [], ◌∷◌, ◌++◌}
use Rattle.std.proofs.Common.{All, Contains, Option, Some, None, get_or, map, refl, sym, ap, subst, ◌∙◌, arith}
use Rattle.std.proofs.Common.{if◌then◌else◌}
use Rattle.std.specs.Option.{option_map}
use Rattle.std.proofs.lemmas.List.{map-append}
use Rattle.std.proofs.lemmas.List.Elements.{Contains-append_cases, Contains-append_left, Contains-append_right}
use Rattle.std.proofs.lemmas.List.Elements.{Contains-get_or}
use Rattle.std.proofs.lemmas.Bool.{cases_eq}
use Rattle.tagged_word.proofs.Members.{one_in}
use Rattle.tagged_word.specs.declared.layout.Kind.TheVariants as kind
use Rattle.tagged_word.specs.Cells.{cell_size, has_length, marks_by_length, tagged_offsets, tagged_offsets_of}
use Rattle.tagged_word.proofs.Cells.{slot_within, tagged_is_scavenged}
use Rattle.mark_laws.specs.Types.{Kind, LayoutWord, Snap, SnapSlot}
use Rattle.mark_world.specs.declared.event.Event.TheVariants as event
use Rattle.mark_world.specs.Naming.{IsReadOut, IsToRead, Named, named, read_offsets}
use Rattle.mark_world.specs.Conditions.{MayHelper}
use Rattle.mark_laws.proofs.Slots.{and_some}
use Rattle.shared_table.specs.declared.overview.Lent.{Lent}
use Rattle.shared_table.specs.HelperTold.{IsReading, learned}
use Rattle.slot_snapshot.specs.declared.naming.Slots.{Slots}
use Rattle.slot_snapshot.specs.Loads.{offset_of, with_slots, AreSlots, HasReadBelow, IsAwaiting}

-- the snap with these slots
abbrev put_slots : List SnapSlot → Snap → Snap
put_slots items snap = record snap { slots = items }

-- one slot more is put behind them
puts_more : (items : List SnapSlot) (offset word : ℕ) (o : Option Snap)
    → option_map (λ (snap : Snap). record snap { slots = snap.slots ++ record { offset = offset; word = word } ∷ [] })
    (option_map (put_slots items) o)
    ≡ option_map (put_slots (items ++ record { offset = offset; word = word } ∷ [])) o
puts_more items offset word None = refl
puts_more items offset word (Some snap) = refl

-- where no length is asked for, a kind with tagged slots has none
known_slots : (k : Kind) (layout : LayoutWord) (long offset : ℕ) → Contains (tagged_offsets_of k layout long) offset
    → (has_length k && not (marks_by_length k)) ≡ false
known_slots kind.Plain layout long offset c = refl
known_slots kind.List layout long offset c = refl
known_slots kind.Weak layout long offset c = refl
known_slots kind.Store layout long offset c = refl
known_slots kind.Table layout long offset (k, l, e) = absurd (omega (arith, l))
known_slots kind.Boxed layout long offset c = refl
known_slots kind.Filler layout long offset c = refl
known_slots kind.Gap layout long offset (k, l, e) = absurd (omega (arith, l))

-- the slots lie after the header, and within the size
pub within : (slots : Slots) → AreSlots slots → (offset : ℕ) → Contains (tagged_offsets slots.layout slots.length)
    offset
    → (1 ≤ offset) × (offset < slots.size)
within slots are offset c =
    let sized : cell_size slots.layout slots.length ≡ Some slots.size =
    sym (ap (λ (b : Bool). if b then Some 0 else cell_size slots.layout slots.length)
    (known_slots slots.layout.kind slots.layout slots.length offset c)) ∙ are.known in
    slot_within slots.layout slots.length slots.size offset are.layout sized
    (tagged_is_scavenged slots.layout slots.length offset c)

module _ (lent : Lent) (cell : ℕ) (slots : Slots) (a : IsAwaiting lent.view cell slots) where
  -- at first no slot is read
  pub starts : lent ≡ with_slots lent []
  starts =
      ap (λ (o : Option Snap). record lent { view = record lent.view { snap = o } })
      (a.has ∙ (ap (λ (xs : List SnapSlot). Some (put_slots xs a.snap)) a.none_read
      ∙ sym (ap (option_map (put_slots [])) a.has)))

  pub begins : AreSlots slots → HasReadBelow (tagged_offsets slots.layout slots.length) 1 []
  begins are = record {
    each = λ offset (k, l, e). absurd (omega (arith, l));
    all = λ offset c low. absurd (omega (arith, (within slots are offset c).0, low));
  }

  module _ (items : List SnapSlot) where
    pub has_slots : (with_slots lent items).view.snap ≡ Some (put_slots items a.snap)
    has_slots = ap (option_map (put_slots items)) a.has

    pub reads_cell : IsReading (with_slots lent items).view cell
    reads_cell =
        and_some (λ (snap : Snap). snap.cell ≡ cell) (with_slots lent items).view.snap (put_slots items a.snap)
        has_slots
        a.of

    -- a tagged slot at which the loop stands may be loaded
    pub may_read : (offset : ℕ) → Contains (tagged_offsets slots.layout slots.length) offset
        → HasReadBelow (tagged_offsets slots.layout slots.length) offset (map offset_of items)
        → MayHelper (with_slots lent items).view (event.LoadSlot 0 offset)
    may_read offset tagged read =
        and_some (λ (snap : Snap). IsToRead (named snap) (read_offsets snap) offset) (with_slots lent items).view.snap
        (put_slots items a.snap) has_slots
        (subst (λ (name : Named). IsToRead name (map offset_of items) offset) (sym a.names)
        (tagged, λ has. omega (arith, (read.each offset has).1)))

    -- what the seat knows then
    pub reads_slot : (offset word : ℕ)
        → learned (with_slots lent items) (event.LoadSlot 0 offset) word
        ≡ with_slots lent (items ++ record { offset = offset; word = word } ∷ [])
    reads_slot offset word =
        ap (λ (o : Option Snap). record lent { view = record lent.view { snap = o } })
        (puts_more items offset word lent.view.snap)

    -- and once each slot is read nothing is left
    pub read_out : All (λ offset. Contains (map offset_of items) offset) (tagged_offsets slots.layout slots.length)
        → IsReadOut (named (put_slots items a.snap)) (read_offsets (put_slots items a.snap))
    read_out all = subst (λ (name : Named). IsReadOut name (map offset_of items)) (sym a.names) all

-- one slot more
pub reads_more : (offsets : List ℕ) (offset word : ℕ) (items : List SnapSlot) → Contains offsets offset
    → HasReadBelow offsets offset (map offset_of items)
    → HasReadBelow offsets (offset + 1) (map offset_of (items ++ record { offset = offset; word = word } ∷ []))
reads_more offsets offset word items tagged read =
    subst (HasReadBelow offsets (offset + 1))
    (sym (map-append offset_of items (record { offset = offset; word = word } ∷ []))) (record {
      each = λ other c. elim (Contains-append_cases (map offset_of items) (offset ∷ []) other c) [
        | inl before ↦ let r = read.each other before in (r.0, omega (arith, r.1))
        | inr here ↦ let is : offset ≡ other = one_in offset other here in
            (subst (Contains offsets) is tagged, omega (arith, is))
      ];
      all = λ other c low. elim (cases_eq other offset) [
        | inl is ↦ Contains-append_right (map offset_of items) (offset ∷ []) other
            (subst (λ (o : ℕ). Contains (offset ∷ []) o) (sym is) (0, omega arith, refl))
        | inr apart ↦ Contains-append_left (map offset_of items) (offset ∷ []) other
            (read.all other c (omega (arith, low, apart)))
      ];
    })

-- an offset that is passed over
pub passes : (offsets : List ℕ) (offset : ℕ) (read : List ℕ) → (Contains offsets offset → ⊥)
    → HasReadBelow offsets offset read → HasReadBelow offsets (offset + 1) read
passes offsets offset read other is = record {
  each = λ one c. let r = is.each one c in (r.0, omega (arith, r.1));
  all = λ one c low. elim (cases_eq one offset) [
    | inl same ↦ absurd (other (subst (Contains offsets) same c))
    | inr apart ↦ is.all one c (omega (arith, low, apart))
  ];
}

-- at the end each slot is read
pub all_read : (slots : Slots) → AreSlots slots → (end : ℕ) (read : List ℕ) → slots.size ≤ end
    → HasReadBelow (tagged_offsets slots.layout slots.length) end read
    → All (λ offset. Contains read offset) (tagged_offsets slots.layout slots.length)
all_read slots are end read past is =
    λ k d l.
    let offsets : List ℕ = tagged_offsets slots.layout slots.length in
    let offset : ℕ = get_or offsets k d in
    let c : Contains offsets offset = Contains-get_or offsets k d l in
    is.all offset c (omega (arith, (within slots are offset c).1, past))
