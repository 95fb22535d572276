-- The slots that a snap names lie in the page of its cell, and so does the length that it is to read.
use Rattle.std.proofs.Common.{ℕ, ◌+◌, ◌<◌, ◌≤◌, ◌≡◌, ◌&&◌, Bool, true, false, not, List, Contains, Option}
use Rattle.std.proofs.Common.{Some, None, nat_le, if◌then◌else◌, refl, sym, ap, subst, ◌∙◌, arith}
use Rattle.std.proofs.lemmas.Bool.Decides.{nat_tests}
use Rattle.mark_laws.specs.Types.{Header, Kind, LayoutWord, Snap}
use Rattle.tagged_word.specs.declared.layout.Kind.TheVariants as kind
use Rattle.tagged_word.specs.Cells.{cell_size, has_length, length_offset, marks_by_length, tagged_offsets}
use Rattle.tagged_word.specs.Cells.{tagged_offsets_of}
use Rattle.tagged_word.specs.Layouts.{IsLayout}
use Rattle.tagged_word.specs.Readings.{header_in, layout_in}
use Rattle.tagged_word.proofs.Cells.{slot_within, tagged_is_scavenged}
use Rattle.tagged_word.proofs.Readings.{layout_from}
use Rattle.mark_world.specs.Pages.{page_end}
use Rattle.mark_world.specs.Naming.{Named, is_in_page, is_shape, known_size, named, named_headed, named_laid}
use Rattle.mark_world.specs.Naming.{named_long, named_shaped, named_slots, named_unread}
use Rattle.mark_world.specs.Conditions.{AwaitsLength}
use Rattle.mark_laws.specs.OwnViews.{IsNamed}
use Rattle.mark_laws.proofs.Named.{known_of}
use Rattle.mark_laws.proofs.Names.{by_header, slots_in_page, unread_none}
use Rattle.mark_laws.proofs.Starts.{value_of}

-- a cell of which a page has all words as far as they are known has a size
page_size : (start : ℕ) (o : Option ℕ) → is_in_page start o ≡ true
    → (size : ℕ) × (o ≡ Some size) × (start + size ≤ page_end start)
page_size start None test = cc
page_size start (Some size) test = (
  size,
  refl,
  (let ends : nat_le (start + size) (page_end start) ≡ true = test in
      grind (arith, nat_tests)),
)

-- the size of a cell with tagged slots is known, kind by kind
known_slots : (k : Kind) (layout : LayoutWord) (long offset : ℕ) → Contains (tagged_offsets_of k layout long) offset
    → (has_length k && not (marks_by_length k)) ≡ false
known_slots kind.Plain layout long offset c = refl
known_slots kind.List layout long offset c = refl
known_slots kind.Weak layout long offset c = refl
known_slots kind.Store layout long offset c = refl
known_slots kind.Table layout long offset (k, l, e) = absurd (omega (arith, l))
known_slots kind.Boxed layout long offset c = refl
known_slots kind.Filler layout long offset c = refl
known_slots kind.Gap layout long offset (k, l, e) = absurd (omega (arith, l))

-- the tagged slots of a cell in its page lie there
slot_in_page : (start : ℕ) (layout : LayoutWord) (long offset : ℕ) → IsLayout layout
    → is_in_page start (known_size layout long) ≡ true → Contains (tagged_offsets layout long) offset
    → start + offset < page_end start
slot_in_page start layout long offset is test c =
    let known : is_in_page start (cell_size layout long) ≡ true =
    sym (ap (λ (b : Bool). is_in_page start (if b then Some 0 else cell_size layout long))
    (known_slots layout.kind layout long offset c)) ∙ test in
    let size = page_size start (cell_size layout long) known in
    let within = slot_within layout long size.0 offset is size.1 (tagged_is_scavenged layout long offset c) in
    omega (arith, within.1, size.2)

-- a test is passed where slots are named
passed : (inside : Bool) (xs ys : List ℕ) → (if inside then Named.slots xs else Named.no_cell) ≡ Named.slots ys
    → inside ≡ true
passed true xs ys e = refl
passed false xs ys e = cc

-- the slots that are named by a layout and a length
slots_page : (start : ℕ) (layout : LayoutWord) (long offset : ℕ) (ys : List ℕ) → IsLayout layout
    → named_slots start layout long ≡ Named.slots ys → Contains ys offset → start + offset < page_end start
slots_page start layout long offset ys is e c =
    let test : Bool = is_in_page start (known_size layout long) in
    slot_in_page start layout long offset is (passed test (tagged_offsets layout long) ys e)
    (subst (λ (xs : List ℕ). Contains xs offset) (slots_in_page test (tagged_offsets layout long) ys e) c)

-- by a layout and the length that was read
long_page : (start : ℕ) (layout : LayoutWord) (offset : ℕ) (long : Option ℕ) (ys : List ℕ) → IsLayout layout
    → named_long start layout long ≡ Named.slots ys → Contains ys offset → start + offset < page_end start
long_page start layout offset None ys is e c =
    absurd (unread_none (is_in_page start (known_size layout 0)) ys e)
long_page start layout offset (Some n) ys is e c = slots_page start layout n offset ys is e c

-- by the test that marking asks for a length
kind_page : (marks : Bool) (start : ℕ) (layout : LayoutWord) (offset : ℕ) (long : Option ℕ) (ys : List ℕ)
    → IsLayout layout
    → (if marks then named_long start layout long else named_slots start layout 0) ≡ Named.slots ys → Contains ys offset
    → start + offset < page_end start
kind_page true start layout offset long ys is e c = long_page start layout offset long ys is e c
kind_page false start layout offset long ys is e c = slots_page start layout 0 offset ys is e c

-- by the layout, if the word is one's
laid_page : (start word offset : ℕ) (long : Option ℕ) (o : Option LayoutWord) (ys : List ℕ) → layout_in word ≡ o
    → named_laid start long o ≡ Named.slots ys → Contains ys offset → start + offset < page_end start
laid_page start word offset long None ys is e c = cc
laid_page start word offset long (Some layout) ys is e c =
    kind_page (marks_by_length layout.kind) start layout offset long ys (layout_from word layout is).0 e c

-- by the layout word that was read
word_page : (start offset : ℕ) (long word : Option ℕ) (ys : List ℕ) → named_shaped start long word ≡ Named.slots ys
    → Contains ys offset → start + offset < page_end start
word_page start offset long None ys e c = cc
word_page start offset long (Some word) ys e c =
    laid_page start word offset long (layout_in word) ys refl e c

-- a slot that is named lies in the page, by what the snap names
name_page : (snap : Snap) (offset : ℕ) (name : Named) → named snap ≡ name → IsNamed name offset
    → snap.cell + offset < page_end snap.cell
name_page snap offset Named.unread e c = absurd c
name_page snap offset Named.no_cell e c = absurd c
name_page snap offset (Named.slots offsets) e c =
    let h = by_header snap.cell snap.layout snap.length (header_in snap.header) offsets e in
    word_page snap.cell offset snap.length snap.layout offsets h.3 c

-- a slot that a snap names lies in the page of its cell
pub named_page : (snap : Snap) (offset : ℕ) → IsNamed (named snap) offset → snap.cell + offset < page_end snap.cell
named_page snap offset c = name_page snap offset (named snap) refl c

-- a cell whose length marking asks for has a second word in its page, kind by kind
second_page : (k : Kind) (cap start : ℕ) → marks_by_length k ≡ true → is_in_page start (known_of k cap 0) ≡ true
    → start + length_offset < page_end start
second_page kind.Plain cap start marks test = cc
second_page kind.List cap start marks test = cc
second_page kind.Weak cap start marks test = cc
second_page kind.Store cap start marks test = let size = page_size start (Some 2) test in
    let two : 2 ≡ size.0 = cc in omega (arith, size.2, two)
second_page kind.Table cap start marks test = cc
second_page kind.Boxed cap start marks test = cc
second_page kind.Filler cap start marks test = cc
second_page kind.Gap cap start marks test = cc

-- what is still unread is no name of slots
unread_passed : (inside : Bool) → (if inside then Named.unread else Named.no_cell) ≡ Named.unread → inside ≡ true
unread_passed true e = refl
unread_passed false e = cc

-- nor are slots that are named unread
named_told : (inside : Bool) (xs : List ℕ) → (if inside then Named.slots xs else Named.no_cell) ≡ Named.unread → ⊥
named_told true xs e = cc
named_told false xs e = cc

-- the length that is unread by a layout lies in the page
unread_kind : (marks : Bool) (start : ℕ) (layout : LayoutWord) → marks_by_length layout.kind ≡ marks
    → (if marks then named_unread start layout else named_slots start layout 0) ≡ Named.unread
    → start + length_offset < page_end start
unread_kind true start layout asks e =
    second_page layout.kind layout.cap start asks (unread_passed (is_in_page start (known_size layout 0)) e)
unread_kind false start layout asks e =
    absurd (named_told (is_in_page start (known_size layout 0)) (tagged_offsets layout 0) e)

-- by the layout, if the word is one's
unread_laid : (start : ℕ) (o : Option LayoutWord) → named_laid start None o ≡ Named.unread
    → start + length_offset < page_end start
unread_laid start None e = cc
unread_laid start (Some layout) e = unread_kind (marks_by_length layout.kind) start layout refl e

-- a test that is passed where a word is unread
unread_test : (test : Bool) (name : Named) → (if test then name else Named.no_cell) ≡ Named.unread
    → name ≡ Named.unread
unread_test true name e = e
unread_test false name e = cc

-- by the header, if the word is one's
unread_headed : (start word : ℕ) (o : Option Header) → named_headed start (Some word) None o ≡ Named.unread
    → start + length_offset < page_end start
unread_headed start word None e = cc
unread_headed start word (Some header) e =
    unread_laid start (layout_in word) (unread_test (is_shape header) (named_shaped start None (Some word)) e)

-- the length that a snap is to read lies in the page of its cell
pub length_page : (snap : Snap) → AwaitsLength snap → snap.cell + length_offset < page_end snap.cell
length_page snap awaits =
    let word = value_of snap.layout awaits.layout in
    unread_headed snap.cell word.0 (header_in snap.header)
    (sym (ap (λ (o : Option ℕ). named_headed snap.cell o snap.length (header_in snap.header)) word.1
    ∙ ap (λ (o : Option ℕ). named_headed snap.cell (Some word.0) o (header_in snap.header)) awaits.unread)
    ∙ awaits.asked)
