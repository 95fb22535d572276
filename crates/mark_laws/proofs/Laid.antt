-- The header and the layout that a word stands for, as the header of a cell; and safe changes of it.
use Rattle.std.proofs.Common.{ℕ, ◌<◌, ◌≡◌, ◌≢◌, ◌∙◌, Bool, true, false, IsTrue, List, min}
use Rattle.std.proofs.Common.{slice_index, slice_set, slice_get, Option, Some, None, IsSomeAnd, Contains}
use Rattle.std.proofs.Common.{nat_lt, if◌then◌else◌, refl, sym, ap, subst, arith, get_or}
use Rattle.std.proofs.lemmas.Bool.Decides.{nat_tests}
use Rattle.std.proofs.lemmas.List.Elements.{All-contains}
use Rattle.std.proofs.lemmas.Option.{option_and_then_some, get_or_from_slice_get}
use Rattle.std.specs.Option.{option_and_then}
use Rattle.mark_laws.specs.Types.{Header, Kind, LayoutWord, Reading, Laid, World}
use Rattle.tagged_word.specs.declared.layout.Kind.TheVariants as kind
use Rattle.tagged_word.specs.Cells.{marks_by_length, tagged_offsets, tagged_offsets_of}
use Rattle.tagged_word.specs.Headers.{header_bits}
use Rattle.tagged_word.specs.Layouts.{layout_bits}
use Rattle.tagged_word.specs.Readings.{header_in, layout_in, read_cell, shape_layout}
use Rattle.tagged_word.specs.Shapes.{shapes_most}
use Rattle.tagged_word.proofs.Cells.{some_same}
use Rattle.tagged_word.proofs.CellReadings.{cell_from}
use Rattle.tagged_word.proofs.Readings.{header_to, layout_to}
use Rattle.mark_world.specs.Pages.{page_end}
use Rattle.mark_world.specs.Safety.{IsSafe, IsSafeChange, laid_by, laid_in, plain_slots}
use Rattle.mark_world.specs.Coverage.{cell_of}
use Rattle.mark_laws.proofs.Reading.{slice_get_other}
use Rattle.mark_laws.proofs.Slots.{and_some}
use Rattle.mark_laws.proofs.Joins.{some_and}

-- the header and the layout of a cell
abbrev pub laid_of : Reading → Laid
laid_of cell = record { header = cell.header; layout = cell.layout }

-- what passes a test that holds
passes : {X : Type 0} (test : Bool) (o : Option X) → IsTrue test → (if test then o else None) ≡ o
passes true o t = refl
passes false o t = cc

-- a shape that may be has the layout of its layout word
pub shape_is : (layouts : List ℕ) (shape word : ℕ) (layout : LayoutWord) → shape < shapes_most
    → slice_get layouts shape ≡ Some word
    → layout_in word ≡ Some layout → shape_layout layouts shape ≡ Some layout
shape_is layouts shape word layout known stands is =
    passes (nat_lt shape shapes_most) (option_and_then layout_in (slice_get layouts shape)) (grind (arith, nat_tests))
    ∙ ap (option_and_then layout_in) stands ∙ is

-- a word whose header has a layout stands for both
pub laid_is : (layouts : List ℕ) (word : ℕ) (header : Header) (layout : LayoutWord) → header_in word ≡ Some header
    → shape_layout layouts header.shape ≡ Some layout
    → laid_in layouts word ≡ Some (record { header = header; layout = layout })
laid_is layouts word header layout e f =
    ap (option_and_then (λ h. laid_by h (shape_layout layouts h.shape))) e ∙ ap (laid_by header) f

-- the first word of what is read stands for its header and its layout
pub read_laid : (words layouts : List ℕ) (at bound : ℕ) (cell : Reading) → read_cell words layouts at bound ≡ Some cell
    → laid_in layouts (slice_index words at) ≡ Some (laid_of cell)
read_laid words layouts at bound cell e =
    let reads = cell_from words layouts at bound cell e in
    let first : slice_index words at ≡ header_bits cell.header =
    get_or_from_slice_get words at (header_bits cell.header) 0 reads.first in
    laid_is layouts (slice_index words at) cell.header cell.layout
    (header_to (slice_index words at) cell.header reads.is_header first)
    (shape_is layouts cell.header.shape (layout_bits cell.layout) cell.layout reads.known reads.of_shape
    (layout_to (layout_bits cell.layout) cell.layout reads.is_layout refl))

-- so does that of a cell
pub cell_laid : (world : World) (at : ℕ) (cell : Reading) → cell_of world at ≡ Some cell
    → laid_in world.layouts (slice_index world.words at) ≡ Some (laid_of cell)
cell_laid world at = read_laid world.words world.layouts at (min world.old (page_end at))

-- a header with its layout, taken apart
laid_parts : (header : Header) (o : Option LayoutWord) (laid : Laid) → laid_by header o ≡ Some laid
    → (header ≡ laid.header) × (o ≡ Some laid.layout)
laid_parts header None laid e = cc
laid_parts header (Some layout) laid e =
    let is : record { header = header; layout = layout } ≡ laid = some_same refl e in
    (ap (λ (l : Laid). l.header) is, ap (λ (l : Laid). Some l.layout) is)

-- what a word stands for, if it does: its header, and the layout of its shape
pub laid_from : (layouts : List ℕ) (word : ℕ) (laid : Laid) → laid_in layouts word ≡ Some laid
    → (header_in word ≡ Some laid.header) × (shape_layout layouts laid.header.shape ≡ Some laid.layout)
laid_from layouts word laid e =
    option_and_then_some (λ h. laid_by h (shape_layout layouts h.shape)) (header_in word) laid e
    (λ header is by.
    let parts = laid_parts header (shape_layout layouts header.shape) laid by in
    (is ∙ ap (λ h. Some h) parts.0, ap (λ h. shape_layout layouts h.shape) (sym parts.0) ∙ parts.1))

-- a shape has the same layout where its layout word is the same
pub shape_same : (layouts later : List ℕ) (shape : ℕ) → slice_get later shape ≡ slice_get layouts shape
    → shape_layout later shape ≡ shape_layout layouts shape
shape_same layouts later shape e = ap (λ o. if nat_lt shape shapes_most then option_and_then layout_in o else None) e

-- 0 is no layout word
no_layout : (test : Bool) (o : Option ℕ) (layout : LayoutWord) → o ≡ Some 0
    → (if test then option_and_then layout_in o else None) ≡ Some layout → ⊥
no_layout true o layout unused e =
    let nothing : None ≡ Some layout = sym (ap (option_and_then layout_in) unused) ∙ e in cc
no_layout false o layout unused e = cc

-- a shape that is not in use has no layout
pub unused_none : (layouts : List ℕ) (shape : ℕ) (layout : LayoutWord) → slice_get layouts shape ≡ Some 0
    → shape_layout layouts shape ≡ Some layout → ⊥
unused_none layouts shape layout unused e =
    no_layout (nat_lt shape shapes_most) (slice_get layouts shape) layout unused e

-- what a word stands for it does when a shape gets its layout
pub laid_stays : (layouts : List ℕ) (shape word at : ℕ) (laid : Laid) → slice_get layouts shape ≡ Some 0
    → laid_in layouts at ≡ Some laid → laid_in (slice_set layouts shape word) at ≡ Some laid
laid_stays layouts shape word at laid unused e =
    let from = laid_from layouts at laid e in
    let other : laid.header.shape ≢ shape = λ same.
    unused_none layouts laid.header.shape laid.layout (ap (slice_get layouts) same ∙ unused) from.1 in
    laid_is (slice_set layouts shape word) at laid.header laid.layout from.0
    (shape_same layouts (slice_set layouts shape word) laid.header.shape
    (slice_get_other layouts shape laid.header.shape word other) ∙ from.1)

-- a safe change of a safe change is one
safe_changes : (first second third : Laid) → IsSafeChange first second → IsSafeChange second third
    → IsSafeChange first third
safe_changes first second third early late = record {
  old_plain = early.old_plain;
  new_plain = late.new_plain;
  one_object = early.one_object ∙ late.one_object;
  one_cap = early.one_cap ∙ late.one_cap;
  tagged = λ k d l. All-contains (Contains (plain_slots third)) (plain_slots second) (get_or (plain_slots first) k d)
      late.tagged
      (early.tagged k d l);
}

-- a safe change of a header, with what both words stand for
pub record SafeWords (layouts : List ℕ) (before after : ℕ) : Type 0 where
  pub old : Laid
  pub new : Laid
  pub was : laid_in layouts before ≡ Some old
  pub is : laid_in layouts after ≡ Some new
  pub change : IsSafeChange old new

-- what two words stand for where the second is a safe change of the first
pub safe_from : (layouts : List ℕ) (before after : ℕ) → IsSafe layouts before after → SafeWords layouts before after
safe_from layouts before after safe =
    let old = some_and (λ (o : Laid). IsSomeAnd (laid_in layouts after) (IsSafeChange o)) (laid_in layouts before)
    safe in
    let new = some_and (IsSafeChange old.0) (laid_in layouts after) old.2 in
    record { old = old.0; new = new.0; was = old.1; is = new.1; change = new.2 }

-- the second word is a safe change of the first where what both stand for tells so
pub safe_to : (layouts : List ℕ) (before after : ℕ) (old new : Laid) → laid_in layouts before ≡ Some old
    → laid_in layouts after ≡ Some new
    → IsSafeChange old new → IsSafe layouts before after
safe_to layouts before after old new was is change =
    and_some (λ (o : Laid). IsSomeAnd (laid_in layouts after) (IsSafeChange o)) (laid_in layouts before) old was
    (and_some (IsSafeChange old) (laid_in layouts after) new is change)

-- a safe change of a safe change of a header is one
pub safe_again : (layouts : List ℕ) (first second third : ℕ) → IsSafe layouts first second → IsSafe layouts second third
    → IsSafe layouts first third
safe_again layouts first second third early late =
    let a = safe_from layouts first second early in
    let b = safe_from layouts second third late in
    let same : b.old ≡ a.new = some_same b.was a.is in
    safe_to layouts first third a.old b.new a.was b.is
    (safe_changes a.old a.new b.new a.change (subst (λ (l : Laid). IsSafeChange l b.new) same b.change))

-- a safe change is one when a shape gets its layout
pub safe_stays : (layouts : List ℕ) (shape word before after : ℕ) → slice_get layouts shape ≡ Some 0
    → IsSafe layouts before after → IsSafe (slice_set layouts shape word) before after
safe_stays layouts shape word before after unused safe =
    let s = safe_from layouts before after safe in
    safe_to (slice_set layouts shape word) before after s.old s.new
    (laid_stays layouts shape word before s.old unused s.was)
    (laid_stays layouts shape word after s.new unused s.is) s.change

-- the tagged slots of a kind whose length marking does not ask for are the same with any length
unmarked : (k : Kind) (layout : LayoutWord) (long other : ℕ) → marks_by_length k ≡ false
    → tagged_offsets_of k layout long ≡ tagged_offsets_of k layout other
unmarked kind.Store layout long other t = cc
unmarked kind.Plain layout long other t = refl
unmarked kind.List layout long other t = refl
unmarked kind.Weak layout long other t = refl
unmarked kind.Table layout long other t = refl
unmarked kind.Boxed layout long other t = refl
unmarked kind.Filler layout long other t = refl
unmarked kind.Gap layout long other t = refl

-- so are those of a cell with such a layout
pub unmarked_slots : (layout : LayoutWord) (long other : ℕ) → marks_by_length layout.kind ≡ false
    → tagged_offsets layout long ≡ tagged_offsets layout other
unmarked_slots layout = unmarked layout.kind layout

-- those of a plain cell
pub plain_any : (layout : LayoutWord) (long other : ℕ) → layout.kind ≡ kind.Plain
    → tagged_offsets layout long ≡ tagged_offsets layout other
plain_any layout long other plain = unmarked_slots layout long other (ap marks_by_length plain)
