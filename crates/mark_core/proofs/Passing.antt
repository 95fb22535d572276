-- What holds of each offset of a list, from a walk over numbers that passes each of the list.
use Rattle.std.proofs.Common.{ℕ, ◌<◌, ◌+◌, ◌≡◌, ◌==◌, ◌↔◌, inl, inr, Bool, true, IsTrue, List, length}
use Rattle.std.proofs.Common.{get_or, map, All, Some, None, refl, sym, ap, subst, ◌∙◌, arith, [], ◌∷◌, ◌||◌}
use Rattle.std.proofs.Common.{◌&&◌, ◌⊎◌, not, if◌then◌else◌, Option}
use Rattle.std.proofs.lemmas.Bool.{cases_lt}
use Rattle.std.proofs.lemmas.List.Elements.{Contains-get_or}
use Rattle.std.specs.List.{Contains, list_any}
use Rattle.mark_laws.specs.Types.{Kind, LayoutWord, SnapSlot}
use Rattle.tagged_word.specs.declared.layout.Kind.TheVariants as kind
use Rattle.tagged_word.specs.Layouts.{IsLayout, IsLayoutOfKind, HasInObjectSlots, in_object_most}
use Rattle.tagged_word.proofs.Offsets.{IsPlainSlot, plain_slot_is}
use Rattle.mark_world.specs.Naming.{is_in_page, known_size}
use Rattle.tagged_word.specs.Cells.{cell_size, cell_words_most, has_length, marks_by_length, plain_head}
use Rattle.tagged_word.specs.Cells.{tagged_offsets, tagged_offsets_of}
use Rattle.tagged_word.proofs.Cells.{size_bounds, slot_within, tagged_is_scavenged}
use Rattle.core_parts.specs.Lists.{is_in}
use Rattle.core_parts.proofs.Joining.{in_found, found_in}

-- this holds of each of the first numbers that is in a list
abbrev pub PassBelow : List ℕ → (ℕ → Type 0) → ℕ → Type 0
PassBelow list P count = (k : ℕ) → k < count → Contains list k → P k

-- the next number passes too
pub pass_more : (list : List ℕ) (P : ℕ → Type 0) (count : ℕ) → PassBelow list P count
    → (Contains list count → P count) → PassBelow list P (count + 1)
pass_more list P count before here k l c = elim (cases_lt k count) [
  | inl early ↦ before k early c
  | inr late ↦ let same : count ≡ k = omega arith in
      subst P same (here (subst (Contains list) (sym same) c))
]

-- where the walk passes all of the list, it holds of each
pub all_pass : (list : List ℕ) (P : ℕ → Type 0) (count : ℕ)
    → All (λ x. x < count) list → PassBelow list P count → All P list
all_pass list P count short each k d l = each (get_or list k d) (short k d l) (Contains-get_or list k d l)

-- what holds of each holds of a number of the list
pub passes_each : (list : List ℕ) (P : ℕ → Type 0) (k : ℕ) → All P list → Contains list k → P k
passes_each list P k each (i, l, e) = subst P e (each i k l)

-- a test of the offsets of slots is one of the list of offsets
offsets_test : (slots : List SnapSlot) (offset : ℕ)
    → list_any (λ slot. slot.offset == offset) slots ≡ is_in (map (λ slot. slot.offset) slots) offset
offsets_test [] offset = refl
offsets_test (slot ∷ rest) offset = ap (λ b. (slot.offset == offset) || b) (offsets_test rest offset)

-- so it tells whether the list of offsets has one
pub test_tells : (slots : List SnapSlot) (offset : ℕ) (b : Bool) → b ≡ list_any (λ slot. slot.offset == offset) slots
    → IsTrue b ↔ Contains (map (λ slot. slot.offset) slots) offset
test_tells slots offset b is =
    let same = is ∙ offsets_test slots offset in (
      λ t. in_found (map (λ slot. slot.offset) slots) offset (sym same ∙ t),
      λ c. same ∙ found_in (map (λ slot. slot.offset) slots) offset c,
    )

-- the tagged slots of a cell of a size lie within a page's words
pub sized_short : (layout : LayoutWord) (long size : ℕ) → IsLayout layout → cell_size layout long ≡ Some size
    → All (λ offset. offset < cell_words_most) (tagged_offsets layout long)
sized_short layout long size is e k d l =
    let offset : ℕ = get_or (tagged_offsets layout long) k d in
    let tagged = tagged_is_scavenged layout long offset (Contains-get_or (tagged_offsets layout long) k d l) in
    let within = slot_within layout long size offset is e tagged in
    omega (arith, within.1, size_bounds layout long size e)

-- a cell in its page has a size
size_there : (start : ℕ) (size : Option ℕ) → is_in_page start size ≡ true → (s : ℕ) × (size ≡ Some s)
size_there start None e = cc
size_there start (Some s) e = (s, refl)

-- where marking asks for the size, it is the cell's
short_if_asked : (start : ℕ) (layout : LayoutWord) (long : ℕ)
    → IsLayout layout → known_size layout long ≡ cell_size layout long
    → is_in_page start (known_size layout long) ≡ true
    → All (λ offset. offset < cell_words_most) (tagged_offsets layout long)
short_if_asked start layout long is asked there =
    let s = size_there start (known_size layout long) there in
    sized_short layout long s.0 is (sym asked ∙ s.1)

-- the size that marking asks for, by the kind
abbrev asked_of : LayoutWord → ℕ → Kind → Option ℕ
asked_of layout long k = if has_length k && not (marks_by_length k) then Some 0 else cell_size layout long

-- a kind asks for the size, or has no tagged slots
asked_or_none : (k : Kind) (layout : LayoutWord) (long : ℕ) → layout.kind ≡ k
    → (known_size layout long ≡ cell_size layout long) ⊎ (tagged_offsets layout long ≡ [])
asked_or_none kind.Plain layout long e = inl (ap (asked_of layout long) e)
asked_or_none kind.List layout long e = inl (ap (asked_of layout long) e)
asked_or_none kind.Weak layout long e = inl (ap (asked_of layout long) e)
asked_or_none kind.Store layout long e = inl (ap (asked_of layout long) e)
asked_or_none kind.Table layout long e = inr (ap (λ k. tagged_offsets_of k layout long) e)
asked_or_none kind.Boxed layout long e = inl (ap (asked_of layout long) e)
asked_or_none kind.Filler layout long e = inl (ap (asked_of layout long) e)
asked_or_none kind.Gap layout long e = inr (ap (λ k. tagged_offsets_of k layout long) e)

-- no offsets pass any test
none_pass : (xs : List ℕ) (count : ℕ) → xs ≡ [] → All (λ x. x < count) xs
none_pass xs count e k d l = absurd (omega (arith, l, ap length e))

-- the tagged slots of a cell that is named lie within a page's words
pub named_short : (start : ℕ) (layout : LayoutWord) (long : ℕ) → IsLayout layout
    → is_in_page start (known_size layout long) ≡ true
    → All (λ offset. offset < cell_words_most) (tagged_offsets layout long)
named_short start layout long is there = elim (asked_or_none layout.kind layout long refl) [
  | inl asked ↦ short_if_asked start layout long is asked there
  | inr none ↦ none_pass (tagged_offsets layout long) cell_words_most none
]

-- the tagged slots of a plain cell lie within as many words as the longest has
pub plain_short : (layout : LayoutWord) → IsLayout layout → layout.kind ≡ kind.Plain
    → All (λ offset. offset < plain_head + in_object_most) (tagged_offsets layout 0)
plain_short layout is plain k d l =
    let offset : ℕ = get_or (tagged_offsets layout 0) k d in
    let in_list = Contains-get_or (tagged_offsets layout 0) k d l in
    let slots : HasInObjectSlots layout = subst (λ k. IsLayoutOfKind k layout) plain is in
    elim (plain_slot_is layout offset (subst (λ k. Contains (tagged_offsets_of k layout 0) offset) plain in_list)) [
      | IsPlainSlot.store first ↦ omega (arith, first)
      | IsPlainSlot.proto next ↦ omega (arith, next)
      | IsPlainSlot.own place ↦ omega (arith, place.used, place.behind, slots.used, slots.cap)
    ]
