-- Snaps of grey cells stay true through stores, changes of headers and new layouts.
use Rattle.std.proofs.Common.{ℕ, ◌+◌, ◌≡◌, ◌≢◌, ◌∙◌, ◌⊎◌, inl, inr, false, IsTrue, List, min}
use Rattle.std.proofs.Common.{slice_index, slice_set, slice_get, Option, Some, IfSome, Contains, refl, sym, ap, subst}
use Rattle.std.proofs.Common.{arith}
use Rattle.std.proofs.lemmas.List.Elements.{All-contains}
use Rattle.mark_laws.specs.Types.{Header, Reading, Laid, Snap, World}
use Rattle.tagged_word.specs.declared.layout.Kind.TheVariants as kind
use Rattle.tagged_word.specs.Cells.{length_offset, marks_by_length}
use Rattle.tagged_word.specs.Readings.{header_in}
use Rattle.tagged_word.proofs.Cells.{some_same}
use Rattle.mark_world.specs.declared.event.Event.TheVariants as event
use Rattle.mark_world.specs.Pages.{is_free, is_head_of, page_end, slots_of, target}
use Rattle.mark_world.specs.Safety.{IsSafe, laid_in, slots_by}
use Rattle.mark_world.specs.Conditions.{MayAddLayout, MayStoreHeader}
use Rattle.mark_world.specs.AfterEvents.{after_main}
use Rattle.mark_world.specs.Coverage.{HasCovered, IsCovered, cell_of}
use Rattle.mark_world.specs.Soundness.{HasSure, IsTrueSnap, header_slots}
use Rattle.mark_laws.proofs.Cells.{layout_keeps}
use Rattle.mark_laws.proofs.Laid.{cell_laid, laid_from, laid_stays, plain_any, safe_again, safe_from}
use Rattle.mark_laws.proofs.Laid.{safe_stays, unused_none}
use Rattle.mark_laws.proofs.Listing.{some_weaker}
use Rattle.mark_laws.proofs.Names.{WasHeader, marks_long, was_header}
use Rattle.mark_laws.proofs.Reading.{not_head_apart, slice_get_other, store_keeps}
use Rattle.mark_laws.proofs.Slots.{put_there, slot_there, some_at, some_from}
use Rattle.mark_laws.proofs.Stores.{header_slot, header_slot_word, header_there, stored}
use Rattle.mark_laws.proofs.TrueSnaps.{Covers, IsTrueSlot, length_stays, slot_stays, true_slot, true_slots}
use Rattle.mark_laws.proofs.Colours.{put_or_stays}

-- what is covered in a word's target is so later
word_covered : (world later : World) (word : ℕ) → later.old ≡ world.old → Covers world later → HasCovered world word
    → HasCovered later word
word_covered world later word same covers covered =
    subst (λ (old : ℕ). IfSome (target old word) (IsCovered later)) (sym same)
    (some_weaker (IsCovered world) (IsCovered later) (target world.old word) covers covered)

-- the header that stands stays where a store goes to no head of the cell
header_stays : (world : World) (at word : ℕ) (snap : Snap) → at ≢ snap.cell → IsTrueSnap world snap
    → (slice_index (slice_set world.words at word) snap.cell ≡ snap.header)
    ⊎ IsSafe world.layouts snap.header (slice_index (slice_set world.words at word) snap.cell)
header_stays world at word snap other is_true = elim (put_or_stays world.words at word snap.cell) [
  | inl same ↦ absurd (other (sym same))
  | inr stays ↦ subst (λ (w : ℕ). (w ≡ snap.header) ⊎ IsSafe world.layouts snap.header w) (sym stays) is_true.header
]

-- what a snap tells of a slot after a store that leaves the cell, if the word is covered where it goes into one
stored_slot : (world : World) (at word : ℕ) (owed : List ℕ) (snap : Snap) (cell : Reading) (offset : ℕ)
    → cell_of world snap.cell ≡ Some cell → Covers world (stored world at word owed)
    → (snap.cell + offset ≡ at → HasCovered (stored world at word owed) word) → IsTrueSnap world snap
    → Contains (slots_of cell) offset
    → IsTrueSlot (stored world at word owed) snap cell.length offset
    (slice_index (slice_set world.words at word) (snap.cell + offset))
stored_slot world at word owed snap cell offset e covers new is_true there =
    let later : World = stored world at word owed in
    elim (put_or_stays world.words at word (snap.cell + offset)) [
      | inl is ↦ inl (subst (HasCovered later) (sym (put_there world.words at word (snap.cell + offset) is
          (omega (arith, is, slot_there world snap.cell cell offset e there)))) (new is))
      | inr stays ↦ subst (IsTrueSlot later snap cell.length offset) (sym stays)
          (slot_stays world later snap cell.length cell.length offset (slice_index world.words (snap.cell + offset))
          (word_covered world later (slice_index world.words (snap.cell + offset)) refl covers) (λ c. c)
          (true_slot world snap cell offset is_true e there))
    ]

-- a snap stays true where a store leaves its cell, if the word is covered where it goes into a slot
pub stored_true : (world : World) (at word : ℕ) (owed : List ℕ) (snap : Snap) (cell : Reading)
    → cell_of world snap.cell ≡ Some cell → is_head_of snap.cell (Some cell) at ≡ false
    → Covers world (stored world at word owed)
    → ((offset : ℕ) → Contains (slots_of cell) offset → snap.cell + offset ≡ at
    → HasCovered (stored world at word owed) word)
    → IsTrueSnap world snap → IsTrueSnap (stored world at word owed) snap
stored_true world at word owed snap cell e no_head covers new is_true =
    let later : World = stored world at word owed in
    let bound : ℕ = min world.old (page_end snap.cell) in
    let apart = not_head_apart world.words world.layouts snap.cell bound at cell e no_head in
    record {
      header = header_stays world at word snap apart.header is_true;
      layout = is_true.layout;
      length = length_stays world (slice_set world.words at word) snap cell is_true e (λ marks.
          slice_get_other world.words at (snap.cell + length_offset) word
          (λ same. apart.length (marks_long cell.layout.kind marks) (sym same)));
      slots = true_slots later snap (λ next f offset there.
          let same : next ≡ cell = some_same f (store_keeps world.words world.layouts snap.cell bound at word cell e
          no_head) in
          let slot : Contains (slots_of cell) offset = subst (λ (r : Reading). Contains (slots_of r) offset) same
          there in
          subst (λ (r : Reading). IsTrueSlot later snap r.length offset (slice_index later.words (snap.cell + offset)))
          (sym same)
          (stored_slot world at word owed snap cell offset e covers (new offset slot) is_true slot));
    }

-- the header that was read is plain where a safe change is made of the one that stands
read_plain : (world : World) (snap : Snap) (cell : Reading) (word : ℕ) → (was : WasHeader world snap cell)
    → cell_of world snap.cell ≡ Some cell
    → IsSafe world.layouts (slice_index world.words snap.cell) word → was.laid.layout.kind ≡ kind.Plain
read_plain world snap cell word was e safe =
    let s = safe_from world.layouts (slice_index world.words snap.cell) word safe in
    let plain : cell.layout.kind ≡ kind.Plain =
    subst (λ (l : Laid). l.layout.kind ≡ kind.Plain) (some_same s.was (cell_laid world snap.cell cell e))
    s.change.old_plain in
    elim was.still [
      | inl same ↦ ap (λ (l : Laid). l.layout.kind) same ∙ plain
      | inr change ↦ change.old_plain
    ]

-- the header that was read, or a safe change of it, stands after a safe change
header_changed : (world : World) (snap : Snap) (cell : Reading) (word : ℕ) → cell_of world snap.cell ≡ Some cell
    → IsSafe world.layouts (slice_index world.words snap.cell) word → IsTrueSnap world snap
    → IsSafe world.layouts snap.header (slice_index (slice_set world.words snap.cell word) snap.cell)
header_changed world snap cell word e safe is_true =
    subst (IsSafe world.layouts snap.header) (sym (header_there world snap.cell word cell e)) (elim is_true.header [
      | inl stands ↦ subst (λ (w : ℕ). IsSafe world.layouts w word) stands safe
      | inr early ↦ safe_again world.layouts snap.header (slice_index world.words snap.cell) word early safe
    ])

-- the slots of a header of a plain cell are the same by any length
header_slots_any : (world : World) (snap : Snap) (cell : Reading) (was : WasHeader world snap cell)
    (long other offset : ℕ)
    → was.laid.layout.kind ≡ kind.Plain → Contains (header_slots world snap long) offset
    → Contains (header_slots world snap other) offset
header_slots_any world snap cell was long other offset plain there =
    subst (λ (o : Option Laid). Contains (slots_by o other) offset) (sym was.is)
    (subst (λ (xs : List ℕ). Contains xs offset) (plain_any was.laid.layout long other plain)
    (subst (λ (o : Option Laid). Contains (slots_by o long) offset) was.is there))

-- what a snap tells of a slot after a change of its cell's header
changed_slot : (world : World) (snap : Snap) (word : ℕ) (cell new : Reading) (offset : ℕ) → HasSure world
    → MayStoreHeader world.old world.words world.layouts world.main snap.cell word
    → IsTrue (is_free world.main snap.cell)
    → Covers world (stored world snap.cell word world.main.owed) → cell_of world snap.cell ≡ Some cell
    → cell_of (stored world snap.cell word world.main.owed) snap.cell ≡ Some new → IsTrueSnap world snap
    → Contains (slots_of new) offset
    → IsTrueSlot (stored world snap.cell word world.main.owed) snap new.length offset
    (slice_index world.words (snap.cell + offset))
changed_slot world snap word cell new offset sure may free covers e f is_true there =
    let later : World = stored world snap.cell word world.main.owed in
    let stands : ℕ = slice_index world.words (snap.cell + offset) in
    let was = was_header world snap cell is_true e in
    let plain = read_plain world snap cell word was e may.safe in
    elim (header_slot world snap.cell word world.main.owed cell new offset may free e f there) [
      | inl tagged ↦ slot_stays world later snap cell.length new.length offset stands
          (word_covered world later stands refl covers)
          (header_slots_any world snap cell was cell.length new.length offset plain)
          (true_slot world snap cell offset is_true e tagged)
      | inr is_sure ↦ inl (some_weaker (Contains world.main.sure) (IsCovered later) (target world.old stands)
          (λ to c. covers to (All-contains (IsCovered world) world.main.sure to sure.covered c)) is_sure)
    ]

-- a snap stays true where its cell's header changes
pub changed_true : (world : World) (snap : Snap) (word : ℕ) (cell : Reading) → HasSure world
    → MayStoreHeader world.old world.words world.layouts world.main snap.cell word
    → IsTrue (is_free world.main snap.cell)
    → Covers world (stored world snap.cell word world.main.owed) → cell_of world snap.cell ≡ Some cell
    → IsTrueSnap world snap → IsTrueSnap (stored world snap.cell word world.main.owed) snap
changed_true world snap word cell sure may free covers e is_true =
    let later : World = stored world snap.cell word world.main.owed in
    record {
      header = inr (header_changed world snap cell word e may.safe is_true);
      layout = is_true.layout;
      length = length_stays world (slice_set world.words snap.cell word) snap cell is_true e (λ marks.
          slice_get_other world.words snap.cell (snap.cell + length_offset) word
          (λ same. absurd (omega (arith, same))));
      slots = true_slots later snap (λ new f offset there.
          subst (IsTrueSlot later snap new.length offset)
          (sym (header_slot_word world snap.cell word world.main.owed new offset f there))
          (changed_slot world snap word cell new offset sure may free covers e f is_true there));
    }

-- the layout word that was read stands when another shape gets its layout
layout_stays : (world : World) (shape word : ℕ) (snap : Snap) (cell : Reading) → MayAddLayout world.layouts shape word
    → cell_of world snap.cell ≡ Some cell → IsTrueSnap world snap
    → IfSome snap.layout (λ w. IfSome (header_in snap.header) (λ header.
    slice_get (slice_set world.layouts shape word) header.shape ≡ Some w))
layout_stays world shape word snap cell may e is_true =
    let was = was_header world snap cell is_true e in
    let from = laid_from world.layouts snap.header was.laid was.is in
    let P : List ℕ → ℕ → Header → Type 0 = λ layouts w h. slice_get layouts h.shape ≡ Some w in
    let later : List ℕ = slice_set world.layouts shape word in
    some_from (λ (w : ℕ). IfSome (header_in snap.header) (P later w)) snap.layout (λ w e1.
    some_from (P later w) (header_in snap.header) (λ header e2.
    let stood = some_at (P world.layouts w) (header_in snap.header) header e2
    (some_at (λ (v : ℕ). IfSome (header_in snap.header) (P world.layouts v)) snap.layout w e1 is_true.layout) in
    let is : was.laid.header ≡ header = some_same from.0 e2 in
    let other : header.shape ≢ shape = λ same. unused_none world.layouts was.laid.header.shape was.laid.layout
    (ap (λ (h : Header). slice_get world.layouts h.shape) is ∙ ap (slice_get world.layouts) same ∙ may.unused) from.1 in
    slice_get_other world.layouts shape header.shape word other ∙ stood))

-- a snap stays true when a shape gets its layout
pub layout_true : (world : World) (shape word : ℕ) (snap : Snap) (cell : Reading)
    → MayAddLayout world.layouts shape word
    → IsTrue (is_free world.main snap.cell) → cell_of world snap.cell ≡ Some cell
    → Covers world (after_main world (event.AddLayout shape word)) → IsTrueSnap world snap
    → IsTrueSnap (after_main world (event.AddLayout shape word)) snap
layout_true world shape word snap cell may free e covers is_true =
    let later : World = after_main world (event.AddLayout shape word) in
    let was = was_header world snap cell is_true e in
    let is = laid_stays world.layouts shape word snap.header was.laid may.unused was.is in
    let P : ℕ → Laid → Type 0 = λ n l.
    IsTrue (marks_by_length l.layout.kind) → slice_get world.words (snap.cell + length_offset) ≡ Some n in
    record {
      header = elim is_true.header [
        | inl stands ↦ inl stands
        | inr safe ↦ inr (safe_stays world.layouts shape word snap.header (slice_index world.words snap.cell) may.unused
            safe)
      ];
      layout = layout_stays world shape word snap cell may e is_true;
      length = some_weaker (λ (n : ℕ). IfSome (laid_in world.layouts snap.header) (P n))
          (λ (n : ℕ). IfSome (laid_in later.layouts snap.header) (P n)) snap.length
          (λ n. subst (λ (o : Option Laid). IfSome o (P n)) (was.is ∙ sym is)) is_true.length;
      slots = true_slots later snap (λ next f offset there.
          let same : next ≡ cell = some_same f (layout_keeps world.words world.layouts snap.cell
          (min world.old (page_end snap.cell)) shape word cell may.unused e) in
          let stands : ℕ = slice_index world.words (snap.cell + offset) in
          subst (λ (r : Reading). IsTrueSlot later snap r.length offset stands) (sym same)
          (slot_stays world later snap cell.length cell.length offset stands
          (word_covered world later stands refl covers)
          (subst (λ (o : Option Laid). Contains (slots_by o cell.length) offset) (was.is ∙ sym is))
          (true_slot world snap cell offset is_true e (subst (λ (r : Reading). Contains (slots_of r) offset) same
          there))));
    }
