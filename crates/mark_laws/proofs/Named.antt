-- What a true snap that is read out names: the tagged slots of the header that was read, and all of them were read.
use Rattle.std.proofs.Common.{ℕ, ◌+◌, ◌≤◌, ◌≡◌, ◌≢◌, ◌&&◌, ◌∙◌, inl, inr, Bool, true, false}
use Rattle.std.proofs.Common.{not, IsTrue, List, Option, Some, None, IfSome, Contains, slice_get, min, nat_le, nat_lt}
use Rattle.std.proofs.Common.{if◌then◌else◌, refl, sym, ap, subst, arith}
use Rattle.std.specs.Option.{option_and_then}
use Rattle.std.proofs.lemmas.Bool.Decides.{nat_tests}
use Rattle.std.proofs.lemmas.List.Elements.{All-contains}
use Rattle.mark_laws.specs.Types.{Header, Kind, LayoutWord, Reading, Laid, Snap, World}
use Rattle.tagged_word.specs.declared.layout.Kind.TheVariants as kind
use Rattle.tagged_word.specs.Cells.{cell_size, has_length, length_by, length_offset, marks_by_length, size_within}
use Rattle.tagged_word.specs.Cells.{tagged_offsets, words_least, words_of}
use Rattle.tagged_word.specs.Readings.{header_in, layout_in, shape_layout}
use Rattle.tagged_word.specs.Shapes.{shapes_most}
use Rattle.tagged_word.proofs.Cells.{size_is, some_same}
use Rattle.tagged_word.proofs.CellReadings.{cell_from}
use Rattle.mark_world.specs.Pages.{page_end}
use Rattle.mark_world.specs.Safety.{laid_in, slots_by}
use Rattle.mark_world.specs.Naming.{IsReadOut, Named, is_in_page, known_size, named, named_headed, named_laid}
use Rattle.mark_world.specs.Naming.{named_long, named_shaped, named_slots, read_offsets}
use Rattle.mark_world.specs.Coverage.{cell_of}
use Rattle.mark_world.specs.Soundness.{IsTrueSnap, header_slots}
use Rattle.mark_laws.proofs.Laid.{laid_from, unmarked_slots}
use Rattle.mark_laws.proofs.Listing.{some_weaker}
use Rattle.mark_laws.proofs.Names.{WasHeader, marks_long, was_header}
use Rattle.mark_laws.proofs.SafeChanges.{same_size}
use Rattle.mark_laws.proofs.Slots.{some_at}

-- the size of a cell as far as marking asks for it, by its kind
abbrev pub known_of : Kind → ℕ → ℕ → Option ℕ
known_of k cap long =
    if has_length k && not (marks_by_length k) then Some 0 else size_within (words_least k) (words_of k cap long)

-- an address behind which a cell ends in the page
ends_test : (start size : ℕ) → start + size ≤ page_end start → is_in_page start (Some size) ≡ true
ends_test start size ends = let test : nat_le (start + size) (page_end start) ≡ true =
    grind (arith, nat_tests, ends) in test

-- a cell that ends in the page is in it, as far as it is known, where its slots are not counted by its length
short_page : (k : Kind) (cap long size start : ℕ) → marks_by_length k ≡ false
    → size_within (words_least k) (words_of k cap long) ≡ Some size → start + size ≤ page_end start
    → is_in_page start (known_of k cap 0) ≡ true
short_page kind.Plain cap long size start short e ends = ap (is_in_page start) e ∙ ends_test start size ends
short_page kind.List cap long size start short e ends = ap (is_in_page start) e ∙ ends_test start size ends
short_page kind.Weak cap long size start short e ends = ap (is_in_page start) e ∙ ends_test start size ends
short_page kind.Store cap long size start short e ends = cc
short_page kind.Table cap long size start short e ends = ends_test start 0 (omega arith)
short_page kind.Boxed cap long size start short e ends = ap (is_in_page start) e ∙ ends_test start size ends
short_page kind.Filler cap long size start short e ends = ap (is_in_page start) e ∙ ends_test start size ends
short_page kind.Gap cap long size start short e ends = ends_test start 0 (omega arith)

-- where the slots are counted by the length, the size is known by it
long_page : (k : Kind) (cap long size start : ℕ) → marks_by_length k ≡ true
    → size_within (words_least k) (words_of k cap long) ≡ Some size → start + size ≤ page_end start
    → is_in_page start (known_of k cap long) ≡ true
long_page kind.Plain cap long size start counts e ends = cc
long_page kind.List cap long size start counts e ends = cc
long_page kind.Weak cap long size start counts e ends = cc
long_page kind.Store cap long size start counts e ends = ap (is_in_page start) e ∙ ends_test start size ends
long_page kind.Table cap long size start counts e ends = cc
long_page kind.Boxed cap long size start counts e ends = cc
long_page kind.Filler cap long size start counts e ends = cc
long_page kind.Gap cap long size start counts e ends = cc

-- the shortest such cell is in the page too
least_page : (k : Kind) (cap long size start : ℕ) → marks_by_length k ≡ true
    → size_within (words_least k) (words_of k cap long) ≡ Some size → start + size ≤ page_end start
    → is_in_page start (known_of k cap 0) ≡ true
least_page kind.Plain cap long size start counts e ends = cc
least_page kind.List cap long size start counts e ends = cc
least_page kind.Weak cap long size start counts e ends = cc
least_page kind.Store cap long size start counts e ends =
    let s = size_is 1 (2 + long) size e in
    ends_test start 2 (omega (arith, s.0, ends))
least_page kind.Table cap long size start counts e ends = cc
least_page kind.Boxed cap long size start counts e ends = cc
least_page kind.Filler cap long size start counts e ends = cc
least_page kind.Gap cap long size start counts e ends = cc

-- a layout with the length and the size of a cell that stands at an address
pub record Stands (words : List ℕ) (start : ℕ) (layout : LayoutWord) (long size : ℕ) : Type 0 where
  pub sized : cell_size layout long ≡ Some size
  pub second : length_by (has_length layout.kind) (slice_get words (start + length_offset)) ≡ Some long
  pub ends : start + size ≤ page_end start

-- what is named in a page
in_page_named : (start : ℕ) (layout : LayoutWord) (long : ℕ) → is_in_page start (known_size layout long) ≡ true
    → named_slots start layout long ≡ Named.slots (tagged_offsets layout long)
in_page_named start layout long test =
    ap (λ (b : Bool). if b then Named.slots (tagged_offsets layout long) else Named.no_cell) test

-- by the length that was read, where it is not unread
long_named : (words : List ℕ) (start : ℕ) (layout : LayoutWord) (long size : ℕ) (length : Option ℕ)
    → Stands words start layout long size → marks_by_length layout.kind ≡ true
    → IfSome length (λ n. slice_get words (start + length_offset) ≡ Some n)
    → named_long start layout length ≢ Named.unread
    → named_long start layout length ≡ Named.slots (tagged_offsets layout long)
long_named words start layout long size None stands counts known told =
    absurd (told (ap (λ (b : Bool). if b then Named.unread else Named.no_cell)
    (least_page layout.kind layout.cap long size start counts stands.sized stands.ends)))
long_named words start layout long size (Some n) stands counts known told =
    let second : slice_get words (start + length_offset) ≡ Some long =
    sym (ap (λ (b : Bool). length_by b (slice_get words (start + length_offset))) (marks_long layout.kind counts))
    ∙ stands.second in
    ap (named_slots start layout) (some_same known second)
    ∙ in_page_named start layout long
    (long_page layout.kind layout.cap long size start counts stands.sized stands.ends)

-- by the layout
laid_named : (words : List ℕ) (start : ℕ) (layout : LayoutWord) (long size : ℕ) (length : Option ℕ)
    → Stands words start layout long size → (counts : Bool) → marks_by_length layout.kind ≡ counts
    → IfSome length (λ n. counts ≡ true → slice_get words (start + length_offset) ≡ Some n)
    → (if counts then named_long start layout length else named_slots start layout 0) ≢ Named.unread
    → (if counts then named_long start layout length else named_slots start layout 0)
    ≡ Named.slots (tagged_offsets layout long)
laid_named words start layout long size None stands true counts known told =
    long_named words start layout long size None stands counts tt told
laid_named words start layout long size (Some n) stands true counts known told =
    long_named words start layout long size (Some n) stands counts (known refl) told
laid_named words start layout long size length stands false counts known told =
    in_page_named start layout 0 (short_page layout.kind layout.cap long size start counts stands.sized stands.ends)
    ∙ ap (λ (xs : List ℕ). Named.slots xs) (unmarked_slots layout 0 long counts)

-- by the layout word that was read, where it is not unread
shaped_named : (words : List ℕ) (start : ℕ) (layout : LayoutWord) (long size : ℕ) (length word : Option ℕ)
    → Stands words start layout long size
    → IfSome length (λ n. marks_by_length layout.kind ≡ true → slice_get words (start + length_offset) ≡ Some n)
    → IfSome word (λ w. layout_in w ≡ Some layout) → named_shaped start length word ≢ Named.unread
    → named_shaped start length word ≡ Named.slots (tagged_offsets layout long)
shaped_named words start layout long size length None stands known parses told = absurd (told refl)
shaped_named words start layout long size length (Some w) stands known parses told =
    let is = ap (named_laid start length) parses in
    is ∙ laid_named words start layout long size length stands (marks_by_length layout.kind) refl known
    (λ e. told (is ∙ e))

-- a shape that has a layout may be, and its layout word is one's
pub record IsShaped (layouts : List ℕ) (shape : ℕ) (layout : LayoutWord) : Type 0 where
  pub test : nat_lt shape shapes_most ≡ true
  pub parses : option_and_then layout_in (slice_get layouts shape) ≡ Some layout

-- where a test decides what there is
test_passed : (layouts : List ℕ) (shape : ℕ) (layout : LayoutWord) (test : Bool) → nat_lt shape shapes_most ≡ test
    → (if test then option_and_then layout_in (slice_get layouts shape) else None) ≡ Some layout
    → IsShaped layouts shape layout
test_passed layouts shape layout true t e = record { test = t; parses = e }
test_passed layouts shape layout false t e = cc

-- so is one that has a layout in place
shaped_from : (layouts : List ℕ) (shape : ℕ) (layout : LayoutWord) → shape_layout layouts shape ≡ Some layout
    → IsShaped layouts shape layout
shaped_from layouts shape layout e = test_passed layouts shape layout (nat_lt shape shapes_most) refl e

-- the layout word in place is read as the layout
word_parses : (layouts : List ℕ) (shape word : ℕ) (layout : LayoutWord) → IsShaped layouts shape layout
    → slice_get layouts shape ≡ Some word → layout_in word ≡ Some layout
word_parses layouts shape word layout shaped there = sym (ap (option_and_then layout_in) there) ∙ shaped.parses

-- The cell that stands is one of the header that was read: its size and its length are those by that header's layout.
read_stands : (world : World) (snap : Snap) (cell : Reading) → (was : WasHeader world snap cell)
    → cell_of world snap.cell ≡ Some cell
    → Stands world.words snap.cell was.laid.layout cell.length cell.size
read_stands world snap cell was e =
    let bound : ℕ = min world.old (page_end snap.cell) in
    let reads = cell_from world.words world.layouts snap.cell bound cell e in
    let ends : snap.cell + cell.size ≤ bound = reads.ends in
    elim was.still [
      | inl same ↦ subst (λ (l : Laid). Stands world.words snap.cell l.layout cell.length cell.size) (sym same) record {
        sized = reads.sized;
        second = reads.second;
        ends = omega (arith, ends);
      }
      | inr change ↦
          let one_kind : cell.layout.kind ≡ was.laid.layout.kind = change.new_plain ∙ sym change.old_plain in
          record {
            sized = same_size cell.layout was.laid.layout cell.length cell.length cell.size one_kind
                (sym change.one_cap) refl
                reads.sized;
            second = subst (λ (k : Kind). length_by (has_length k) (slice_get world.words (snap.cell + length_offset))
                ≡ Some cell.length) one_kind reads.second;
            ends = omega (arith, ends);
          }
    ]

-- a true snap that is not unread names each tagged slot of the header that was read
pub laid_out : (world : World) (snap : Snap) (cell : Reading) (was : WasHeader world snap cell)
    → cell_of world snap.cell ≡ Some cell → IsTrueSnap world snap → named snap ≢ Named.unread
    → named snap ≡ Named.slots (tagged_offsets was.laid.layout cell.length)
laid_out world snap cell was e true_snap told =
    let laid : Laid = was.laid in
    let has = laid_from world.layouts snap.header laid was.is in
    let shaped = shaped_from world.layouts laid.header.shape laid.layout has.1 in
    let is : named snap ≡ named_shaped snap.cell snap.length snap.layout =
    ap (named_headed snap.cell snap.layout snap.length) has.0
    ∙ ap (λ (b : Bool). if b then named_shaped snap.cell snap.length snap.layout else Named.no_cell) shaped.test in
    is ∙ shaped_named world.words snap.cell laid.layout cell.length cell.size snap.length snap.layout
    (read_stands world snap cell was e)
    (some_weaker (λ (n : ℕ). IfSome (laid_in world.layouts snap.header) (λ l.
    IsTrue (marks_by_length l.layout.kind) → slice_get world.words (snap.cell + length_offset) ≡ Some n))
    (λ (n : ℕ). IsTrue (marks_by_length laid.layout.kind)
    → slice_get world.words (snap.cell + length_offset) ≡ Some n) snap.length
    (λ n. some_at (λ (l : Laid). IsTrue (marks_by_length l.layout.kind)
    → slice_get world.words (snap.cell + length_offset) ≡ Some n) (laid_in world.layouts snap.header) laid was.is)
    true_snap.length)
    (some_weaker (λ (w : ℕ). IfSome (header_in snap.header) (λ h. slice_get world.layouts h.shape ≡ Some w))
    (λ (w : ℕ). layout_in w ≡ Some laid.layout) snap.layout
    (λ w there. word_parses world.layouts laid.header.shape w laid.layout shaped
    (some_at (λ (h : Header). slice_get world.layouts h.shape ≡ Some w) (header_in snap.header) laid.header has.0
    there))
    true_snap.layout) (λ unread. told (is ∙ unread))

-- what is read out is not unread
out_told : (name : Named) (read : List ℕ) → IsReadOut name read → name ≢ Named.unread
out_told name read out unread = absurd (subst (λ (n : Named). IsReadOut n read) unread out)

-- so a true snap that is read out names the tagged slots of the header that was read
pub header_named : (world : World) (snap : Snap) (cell : Reading) → cell_of world snap.cell ≡ Some cell
    → IsTrueSnap world snap → IsReadOut (named snap) (read_offsets snap)
    → named snap ≡ Named.slots (header_slots world snap cell.length)
header_named world snap cell e true_snap out =
    let was = was_header world snap cell true_snap e in
    laid_out world snap cell was e true_snap (out_told (named snap) (read_offsets snap) out)
    ∙ ap (λ (o : Option Laid). Named.slots (slots_by o cell.length)) (sym was.is)

-- and each of them was read
pub header_read : (world : World) (snap : Snap) (cell : Reading) (offset : ℕ) → cell_of world snap.cell ≡ Some cell
    → IsTrueSnap world snap → IsReadOut (named snap) (read_offsets snap)
    → Contains (header_slots world snap cell.length) offset → Contains (read_offsets snap) offset
header_read world snap cell offset e true_snap out c =
    All-contains (λ (o : ℕ). Contains (read_offsets snap) o) (header_slots world snap cell.length) offset
    (subst (λ (name : Named). IsReadOut name (read_offsets snap)) (header_named world snap cell e true_snap out) out) c
