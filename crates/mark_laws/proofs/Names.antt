-- What a true snap names: the tagged slots of its cell by the header that was read, which the cell still has.
use Rattle.std.proofs.Common.{ℕ, ◌+◌, ◌<◌, ◌≡◌, ◌∙◌, ◌⊎◌, inl, inr, Bool, true, false, IsTrue, List}
use Rattle.std.proofs.Common.{min, slice_index, slice_get, Option, Some, None, IfSome, Contains, nat_lt, if◌then◌else◌}
use Rattle.std.proofs.Common.{refl, sym, ap, subst, arith}
use Rattle.std.proofs.lemmas.Bool.Decides.{nat_tests}
use Rattle.std.proofs.lemmas.List.Elements.{All-contains}
use Rattle.mark_laws.specs.Types.{Header, Kind, LayoutWord, Reading, Laid, Snap, World}
use Rattle.tagged_word.specs.declared.layout.Kind.TheVariants as kind
use Rattle.tagged_word.specs.Cells.{has_length, length_by, length_offset, marks_by_length, tagged_offsets}
use Rattle.tagged_word.specs.Readings.{header_in, layout_in}
use Rattle.tagged_word.specs.Shapes.{shapes_most}
use Rattle.tagged_word.proofs.Cells.{some_same}
use Rattle.tagged_word.proofs.CellReadings.{cell_from}
use Rattle.mark_world.specs.Pages.{page_end, slots_of}
use Rattle.mark_world.specs.Safety.{IsSafeChange, laid_in, plain_slots, slots_by}
use Rattle.mark_world.specs.Naming.{Named, is_in_page, is_shape, known_size, named, named_headed, named_laid}
use Rattle.mark_world.specs.Naming.{named_long}
use Rattle.mark_world.specs.Naming.{named_shaped, named_slots}
use Rattle.mark_world.specs.Coverage.{cell_of}
use Rattle.mark_world.specs.Soundness.{IsTrueSnap, header_slots}
use Rattle.mark_laws.proofs.Laid.{cell_laid, laid_is, laid_of, plain_any, safe_from, shape_is, unmarked_slots}
use Rattle.mark_laws.proofs.Slots.{some_at}

-- the slots of a layout are these: by a length that was read, if marking asks for one, and else by none
abbrev pub AreOf : LayoutWord → Option ℕ → List ℕ → Type 0
AreOf layout long offsets =
    (IsTrue (marks_by_length layout.kind) × ((n : ℕ) × (long ≡ Some n) × (offsets ≡ tagged_offsets layout n)))
    ⊎ ((marks_by_length layout.kind ≡ false) × (offsets ≡ tagged_offsets layout 0))

-- what was read of a snap that names slots
pub record WasRead (snap : Snap) (offsets : List ℕ) : Type 0 where
  pub header : Header
  pub is_header : header_in snap.header ≡ Some header
  pub known : header.shape < shapes_most
  pub word : ℕ
  pub read : snap.layout ≡ Some word
  pub layout : LayoutWord
  pub is_layout : layout_in word ≡ Some layout
  pub are : AreOf layout snap.length offsets

-- the slots of two names are the same
same_named : (xs ys : List ℕ) → Named.slots xs ≡ Named.slots ys → xs ≡ ys
same_named xs ys e = cc

-- a cell in its page names its slots
pub slots_in_page : (inside : Bool) (xs ys : List ℕ)
    → (if inside then Named.slots xs else Named.no_cell) ≡ Named.slots ys → ys ≡ xs
slots_in_page true xs ys e = sym (same_named xs ys e)
slots_in_page false xs ys e = cc

-- a cell of which a length is still to be read names none
pub unread_none : (inside : Bool) (ys : List ℕ) → (if inside then Named.unread else Named.no_cell) ≡ Named.slots ys → ⊥
unread_none true ys e = cc
unread_none false ys e = cc

-- the slots of a cell by the length that was read
by_length : (start : ℕ) (layout : LayoutWord) (long : Option ℕ) (ys : List ℕ)
    → named_long start layout long ≡ Named.slots ys
    → (n : ℕ) × (long ≡ Some n) × (ys ≡ tagged_offsets layout n)
by_length start layout None ys e = absurd (unread_none (is_in_page start (known_size layout 0)) ys e)
by_length start layout (Some n) ys e =
    (n, refl, slots_in_page (is_in_page start (known_size layout n)) (tagged_offsets layout n) ys e)

-- the slots of a cell, by the test that marking asks for a length
by_kind : (marks : Bool) (start : ℕ) (layout : LayoutWord) (long : Option ℕ) (ys : List ℕ)
    → marks_by_length layout.kind ≡ marks
    → (if marks then named_long start layout long else named_slots start layout 0) ≡ Named.slots ys
    → AreOf layout long ys
by_kind true start layout long ys t e = inl (t, by_length start layout long ys e)
by_kind false start layout long ys t e =
    inr (t, slots_in_page (is_in_page start (known_size layout 0)) (tagged_offsets layout 0) ys e)

-- the layout that is read where slots are named
by_layout : (start : ℕ) (long : Option ℕ) (o : Option LayoutWord) (ys : List ℕ)
    → named_laid start long o ≡ Named.slots ys → (layout : LayoutWord) × (o ≡ Some layout) × AreOf layout long ys
by_layout start long None ys e = cc
by_layout start long (Some layout) ys e =
    (layout, refl, by_kind (marks_by_length layout.kind) start layout long ys refl e)

-- the layout word that was read where slots are named
by_word : (start : ℕ) (long word : Option ℕ) (ys : List ℕ) → named_shaped start long word ≡ Named.slots ys
    → (w : ℕ) × (word ≡ Some w) × (layout : LayoutWord) × (layout_in w ≡ Some layout) × AreOf layout long ys
by_word start long None ys e = cc
by_word start long (Some w) ys e =
    let l = by_layout start long (layout_in w) ys e in (w, refl, l.0, l.1, l.2)

-- a test that is passed where slots are named
by_shape : (test : Bool) (o : Named) (ys : List ℕ) → (if test then o else Named.no_cell) ≡ Named.slots ys
    → IsTrue test × (o ≡ Named.slots ys)
by_shape true o ys e = (refl, e)
by_shape false o ys e = cc

-- the header that is read where slots are named
pub by_header : (start : ℕ) (word long : Option ℕ) (o : Option Header) (ys : List ℕ)
    → named_headed start word long o ≡ Named.slots ys
    → (header : Header) × (o ≡ Some header) × (header.shape < shapes_most)
    × (named_shaped start long word ≡ Named.slots ys)
by_header start word long None ys e = cc
by_header start word long (Some header) ys e =
    let t = by_shape (is_shape header) (named_shaped start long word) ys e in
    (header, refl, (let known : IsTrue (nat_lt header.shape shapes_most) = t.0 in grind (arith, nat_tests)), t.1)

-- what was read of a snap that names slots
pub was_read : (snap : Snap) (offsets : List ℕ) → named snap ≡ Named.slots offsets → WasRead snap offsets
was_read snap offsets e =
    let h = by_header snap.cell snap.layout snap.length (header_in snap.header) offsets e in
    let w = by_word snap.cell snap.length snap.layout offsets h.3 in
    record {
      header = h.0;
      is_header = h.1;
      known = h.2;
      word = w.0;
      read = w.1;
      layout = w.2;
      is_layout = w.3;
      are = w.4;
    }

-- The header that was read stands for what a cell is, or for what a safe change made of it.
pub record WasHeader (world : World) (snap : Snap) (cell : Reading) : Type 0 where
  pub laid : Laid
  pub is : laid_in world.layouts snap.header ≡ Some laid
  pub still : (laid ≡ laid_of cell) ⊎ IsSafeChange laid (laid_of cell)

-- it does, in a true snap
pub was_header : (world : World) (snap : Snap) (cell : Reading) → IsTrueSnap world snap
    → cell_of world snap.cell ≡ Some cell → WasHeader world snap cell
was_header world snap cell is_true e = elim is_true.header [
  | inl stands ↦ record {
    laid = laid_of cell;
    is = ap (laid_in world.layouts) (sym stands) ∙ cell_laid world snap.cell cell e;
    still = inl refl;
  }
  | inr safe ↦
      let s = safe_from world.layouts snap.header (slice_index world.words snap.cell) safe in
      let same : s.new ≡ laid_of cell = some_same s.is (cell_laid world snap.cell cell e) in
      record { laid = s.old; is = s.was; still = inr (subst (IsSafeChange s.old) same s.change) }
]

-- a kind whose length marking asks for has a length
pub marks_long : (k : Kind) → marks_by_length k ≡ true → has_length k ≡ true
marks_long kind.Plain t = cc
marks_long kind.List t = cc
marks_long kind.Weak t = cc
marks_long kind.Store t = refl
marks_long kind.Table t = cc
marks_long kind.Boxed t = cc
marks_long kind.Filler t = cc
marks_long kind.Gap t = cc

-- the second word of a cell whose length marking asks for is its length
pub second_is : (world : World) (at : ℕ) (cell : Reading) → cell_of world at ≡ Some cell
    → marks_by_length cell.layout.kind ≡ true → slice_get world.words (at + length_offset) ≡ Some cell.length
second_is world at cell e marks =
    let reads = cell_from world.words world.layouts at (min world.old (page_end at)) cell e in
    subst (λ (b : Bool). length_by b (slice_get world.words (at + length_offset)) ≡ Some cell.length)
    (marks_long cell.layout.kind marks) reads.second

-- marking asks for no length of a cell after a safe change, nor before it
pub safe_unmarked : (old new : Laid) → IsSafeChange old new → marks_by_length old.layout.kind ≡ true → ⊥
safe_unmarked old new change marks =
    let plain : marks_by_length old.layout.kind ≡ false = ap marks_by_length change.old_plain in
    let both : true ≡ false = sym marks ∙ plain in cc

-- the layout that was read is that of the header read
read_layout : (world : World) (snap : Snap) (cell : Reading) (offsets : List ℕ) → IsTrueSnap world snap
    → (read : WasRead snap offsets) → (was : WasHeader world snap cell) → read.layout ≡ was.laid.layout
read_layout world snap cell offsets is_true read was =
    let stands : slice_get world.layouts read.header.shape ≡ Some read.word =
    some_at (λ (h : Header). slice_get world.layouts h.shape ≡ Some read.word) (header_in snap.header) read.header
    read.is_header
    (some_at (λ (w : ℕ). IfSome (header_in snap.header) (λ h. slice_get world.layouts h.shape ≡ Some w))
    snap.layout read.word
    read.read is_true.layout) in
    let shape = shape_is world.layouts read.header.shape read.word read.layout read.known stands read.is_layout in
    ap (λ (l : Laid). l.layout)
    (some_same (laid_is world.layouts snap.header read.header read.layout read.is_header shape) was.is)

-- the length that was read is that of the cell
read_length : (world : World) (snap : Snap) (cell : Reading) → IsTrueSnap world snap
    → cell_of world snap.cell ≡ Some cell
    → (was : WasHeader world snap cell) → (n : ℕ) → snap.length ≡ Some n
    → marks_by_length was.laid.layout.kind ≡ true
    → n ≡ cell.length
read_length world snap cell is_true e was n long marks =
    let stands : slice_get world.words (snap.cell + length_offset) ≡ Some n =
    some_at (λ (l : Laid). IsTrue (marks_by_length l.layout.kind)
    → slice_get world.words (snap.cell + length_offset) ≡ Some n)
    (laid_in world.layouts snap.header) was.laid was.is
    (some_at (λ (m : ℕ). IfSome (laid_in world.layouts snap.header) (λ l.
    IsTrue (marks_by_length l.layout.kind) → slice_get world.words (snap.cell + length_offset) ≡ Some m))
    snap.length n long
    is_true.length) marks in
    elim was.still [
      | inl same ↦ some_same stands (second_is world snap.cell cell e
          (subst (λ (l : Laid). marks_by_length l.layout.kind ≡ true) same marks))
      | inr change ↦ absurd (safe_unmarked was.laid (laid_of cell) change marks)
    ]

-- the slots that a true snap names are those of its cell by the header that was read
pub named_is : (world : World) (snap : Snap) (cell : Reading) (offsets : List ℕ) → IsTrueSnap world snap
    → cell_of world snap.cell ≡ Some cell
    → named snap ≡ Named.slots offsets → offsets ≡ header_slots world snap cell.length
named_is world snap cell offsets is_true e names =
    let read = was_read snap offsets names in
    let was = was_header world snap cell is_true e in
    let same : read.layout ≡ was.laid.layout = read_layout world snap cell offsets is_true read was in
    let all : tagged_offsets read.layout cell.length ≡ header_slots world snap cell.length =
    ap (λ (l : LayoutWord). tagged_offsets l cell.length) same ∙ sym (ap (λ o. slots_by o cell.length) was.is) in
    elim read.are [
      | inl long ↦ long.1.2 ∙ ap (tagged_offsets read.layout)
          (read_length world snap cell is_true e was long.1.0 long.1.1
          (subst (λ (l : LayoutWord). marks_by_length l.kind ≡ true) same long.0)) ∙ all
      | inr short ↦ short.1 ∙ unmarked_slots read.layout 0 cell.length short.0 ∙ all
    ]

-- a slot that was tagged before a safe change is tagged after it
pub safe_slot : (old : Laid) (cell : Reading) → IsSafeChange old (laid_of cell) → (long offset : ℕ)
    → Contains (tagged_offsets old.layout long) offset → Contains (slots_of cell) offset
safe_slot old cell change long offset c =
    subst (λ (xs : List ℕ). Contains xs offset) (plain_any cell.layout 0 cell.length change.new_plain)
    (All-contains (Contains (plain_slots (laid_of cell))) (plain_slots old) offset change.tagged
    (subst (λ (xs : List ℕ). Contains xs offset) (plain_any old.layout long 0 change.old_plain) c))

-- a tagged slot by the header that was read is one of the cell
pub header_in_cell : (world : World) (snap : Snap) (cell : Reading) → IsTrueSnap world snap
    → cell_of world snap.cell ≡ Some cell → (offset : ℕ) → Contains (header_slots world snap cell.length) offset
    → Contains (slots_of cell) offset
header_in_cell world snap cell is_true e offset c =
    let was = was_header world snap cell is_true e in
    let there : Contains (tagged_offsets was.laid.layout cell.length) offset =
    subst (λ (o : Option Laid). Contains (slots_by o cell.length) offset) was.is c in
    elim was.still [
      | inl same ↦ subst (λ (l : Laid). Contains (tagged_offsets l.layout cell.length) offset) same there
      | inr change ↦ safe_slot was.laid cell change cell.length offset there
    ]

-- a slot that a true snap names is one of its cell
pub named_in_cell : (world : World) (snap : Snap) (cell : Reading) (offsets : List ℕ) → IsTrueSnap world snap
    → cell_of world snap.cell ≡ Some cell
    → named snap ≡ Named.slots offsets → (offset : ℕ) → Contains offsets offset → Contains (slots_of cell) offset
named_in_cell world snap cell offsets is_true e names offset c =
    header_in_cell world snap cell is_true e offset
    (subst (λ (xs : List ℕ). Contains xs offset) (named_is world snap cell offsets is_true e names) c)
