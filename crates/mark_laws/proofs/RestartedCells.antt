-- Free starts read as before after a scavenge, and each tagged slot of theirs holds what it did, or refers to a
-- promoted cell.
use Rattle.std.proofs.Common.{ℕ, ◌+◌, ◌<◌, ◌≤◌, ◌≡◌, ◌≢◌, ◌∙◌, ◌⊎◌, inl, inr, true, false, IsTrue, List}
use Rattle.std.proofs.Common.{Contains, length, min, slice_get, slice_index, Option, Some, sym, ap, subst, arith}
use Rattle.std.proofs.lemmas.Bool.{cases_lt}
use Rattle.std.proofs.lemmas.Option.{slice_get-get_or}
use Rattle.mark_laws.specs.Types.{Kind, LayoutWord, Reading, World}
use Rattle.tagged_word.specs.declared.layout.Kind.TheVariants as kind
use Rattle.tagged_word.specs.Cells.{has_length, length_offset, store_head, tagged_offsets_of}
use Rattle.tagged_word.proofs.Cells.{some_same}
use Rattle.tagged_word.proofs.CellReadings.{cell_from}
use Rattle.tagged_word.proofs.Members.{range_bounds}
use Rattle.mark_world.specs.Pages.{OfTarget, is_free, is_inside, leaves_alone, page_end, slots_of}
use Rattle.mark_world.specs.Coverage.{cell_of}
use Rattle.mark_world.specs.Soundness.{HasCells}
use Rattle.mark_laws.specs.Restarts.{IsLeftAlone, IsMovedSlot}
use Rattle.mark_laws.proofs.Alike.{read_alike}
use Rattle.mark_laws.proofs.Cells.{alone_no_head}
use Rattle.mark_laws.proofs.Reading.{IsApart, not_head_apart, size_one, size_two}
use Rattle.mark_laws.proofs.Slots.{slot_inside}
use Rattle.mark_laws.proofs.Stores.{alone_no_slot, in_cell}
use Rattle.mark_laws.proofs.Waiting.{one_or_other}

-- a length is no tagged slot, kind by kind
length_none : (k : Kind) (layout : LayoutWord) (long : ℕ) → has_length k ≡ true
    → Contains (tagged_offsets_of k layout long) length_offset → ⊥
length_none kind.Plain layout long has c = cc
length_none kind.List layout long has c = cc
length_none kind.Weak layout long has c = cc
length_none kind.Store layout long has c =
    let b = range_bounds store_head long length_offset c in absurd (omega (arith, b.0))
length_none kind.Table layout long has (k, l, e) = absurd (omega (arith, l))
length_none kind.Boxed layout long has c = cc
length_none kind.Filler layout long has c = cc
length_none kind.Gap layout long has (k, l, e) = absurd (omega (arith, l))

-- words that a scavenge leaves: each of the pages is as before, or is minded by no helper, or is a slot that was moved
abbrev pub AreMoved : World → List ℕ → List ℕ → Type 0
AreMoved world promoted words =
    (at : ℕ) → at < world.old → (slice_index words at ≡ slice_index world.words at)
    ⊎ IsLeftAlone world at ⊎ IsMovedSlot world promoted at (slice_index words at)

-- a free start lies outside the cell of another
start_outside : (world : World) → HasCells world → (start other : ℕ) (cell : Reading)
    → IsTrue (is_free world.main start) → IsTrue (is_free world.main other) → start ≢ other
    → cell_of world start ≡ Some cell
    → start ≤ other → other < start + cell.size → ⊥
start_outside world cells start other cell free other_free differ e from to =
    let inside = in_cell start cell other from to in
    let outside : is_inside start (Some cell) other ≡ false =
    subst (λ (c : Option Reading). is_inside start c other ≡ false) e
    (cells.apart start free other other_free differ) in
    let both : true ≡ false = sym inside ∙ outside in
    cc

-- two free starts in whose cells a word lies are the same
one_start : (world : World) → HasCells world → (start other : ℕ) (cell other_cell : Reading)
    → IsTrue (is_free world.main start) → IsTrue (is_free world.main other) → cell_of world start ≡ Some cell
    → cell_of world other ≡ Some other_cell → (at : ℕ) → start ≤ at → at < start + cell.size → other ≤ at
    → at < other + other_cell.size → start ≡ other
one_start world cells start other cell other_cell free other_free e f at from to other_from other_to =
    elim (one_or_other start other) [
      | inl same ↦ same
      | inr differ ↦ elim (cases_lt start other) [
        | inl before ↦ absurd (start_outside world cells start other cell free other_free differ e
            (omega (arith, before)) (omega (arith, other_from, to)))
        | inr behind ↦ absurd (start_outside world cells other start other_cell other_free free
            (λ same. differ (sym same)) f (omega (arith, behind)) (omega (arith, from, other_to)))
      ]
    ]

-- a word by which a free start is read, and which is no slot of it, is as before
head_word : (world : World) (promoted words : List ℕ) → HasCells world → AreMoved world promoted words → (start : ℕ)
    (cell : Reading) → IsTrue (is_free world.main start) → cell_of world start ≡ Some cell → (at : ℕ) → start ≤ at
    → at < start + cell.size → (IsApart start cell at → ⊥)
    → ((offset : ℕ) → at ≡ start + offset → Contains (slots_of cell) offset → ⊥)
    → slice_index words at ≡ slice_index world.words at
head_word world promoted words cells moved start cell free e at from to read none =
    let bound : ℕ = min world.old (page_end start) in
    let ends : start + cell.size ≤ min world.old (page_end start) =
    (cell_from world.words world.layouts start bound cell e).ends in
    elim (moved at (omega (arith, ends, to))) [
      | inl same ↦ same
      | inr (inl alone) ↦ absurd (read (not_head_apart world.words world.layouts start bound at cell e
          (alone_no_head start cell at (subst (λ (c : Option Reading). leaves_alone start c at ≡ true) e
          (alone start free)))))
      | inr (inr slot) ↦
          let inside = slot_inside world slot.start slot.cell slot.offset slot.reads slot.slot in
          let one : start ≡ slot.start = one_start world cells start slot.start cell slot.cell free slot.free e
          slot.reads at from to (omega (arith, slot.place)) (omega (arith, slot.place, inside.1)) in
          let same : slot.cell ≡ cell = some_same slot.reads (ap (cell_of world) (sym one) ∙ e) in
          absurd (none slot.offset (omega (arith, slot.place, one))
          (subst (λ (r : Reading). Contains (slots_of r) slot.offset) same slot.slot))
    ]

-- a word that is as before is there as before
pub there_as : (words others : List ℕ) (at : ℕ) → at < length words → length others ≡ length words
    → slice_index others at ≡ slice_index words at → slice_get others at ≡ slice_get words at
there_as words others at within count same =
    slice_get-get_or others at 0 (omega (arith, within, count)) ∙ ap (λ (w : ℕ). Some w) same
    ∙ sym (slice_get-get_or words at 0 within)

-- a free start reads as before
pub restarted_cell : (world : World) (promoted words : List ℕ) → HasCells world → AreMoved world promoted words
    → length words ≡ length world.words → (start : ℕ) (cell : Reading) → IsTrue (is_free world.main start)
    → cell_of world start ≡ Some cell → cell_of (record world { words = words }) start ≡ Some cell
restarted_cell world promoted words cells moved count start cell free e =
    let bound : ℕ = min world.old (page_end start) in
    let there : start + cell.size ≤ length world.words =
    (cell_from world.words world.layouts start bound cell e).there in
    let one = size_one world.words world.layouts start bound cell e in
    read_alike world.words words world.layouts start bound cell e
    (there_as world.words words start (omega (arith, there, one)) count
    (head_word world promoted words cells moved start cell free e start (omega arith) (omega (arith, one))
    (λ apart. apart.header (omega arith))
    (λ offset is slot. let inside = slot_inside world start cell offset e slot in omega (arith, is, inside.0))))
    (λ long.
    let two = size_two world.words world.layouts start bound cell e long in
    there_as world.words words (start + length_offset) (omega (arith, there, two)) count
    (head_word world promoted words cells moved start cell free e (start + length_offset) (omega arith)
    (omega (arith, two)) (λ apart. apart.length long (omega arith))
    (λ offset is slot.
    let same : offset ≡ length_offset = omega (arith, is) in
    length_none cell.layout.kind cell.layout cell.length long (subst (Contains (slots_of cell)) same slot))))
    (omega (arith, there, count))

-- a tagged slot of a free start holds what it did, or refers to a promoted cell, or to no old one
pub restarted_slot : (world : World) (promoted words : List ℕ) → AreMoved world promoted words → (start : ℕ)
    (cell : Reading) → IsTrue (is_free world.main start) → cell_of world start ≡ Some cell → (offset : ℕ)
    → Contains (slots_of cell) offset
    → (slice_index words (start + offset) ≡ slice_index world.words (start + offset))
    ⊎ OfTarget world.old (slice_index words (start + offset)) (Contains promoted)
restarted_slot world promoted words moved start cell free e offset slot =
    let ends : start + cell.size ≤ min world.old (page_end start) =
    (cell_from world.words world.layouts start (min world.old (page_end start)) cell e).ends in
    let inside = slot_inside world start cell offset e slot in
    elim (moved (start + offset) (omega (arith, ends, inside.1))) [
      | inl same ↦ inl same
      | inr (inl alone) ↦ absurd (alone_no_slot world start cell offset (start + offset) e slot (omega arith)
          (subst (λ (c : Option Reading). leaves_alone start c (start + offset) ≡ true) e (alone start free)))
      | inr (inr into) ↦ inr into.target
    ]
