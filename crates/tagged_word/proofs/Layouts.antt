-- Layout words: a layout may be read from its bits.
use Rattle.std.proofs.Common.{ℕ, ◌<◌, ◌+◌, ◌*◌, ◌/◌, ◌%◌, ◌≤◌, ◌≡◌, ◌∷◌, slice_get}
use Rattle.std.proofs.Common.{unwrap_or, arith, refl, sym, ap, ◌∙◌}
use Rattle.tagged_word.specs.declared.layout.Kind.{Kind}
use Rattle.tagged_word.specs.declared.layout.Kind.TheVariants as kind
use Rattle.tagged_word.specs.declared.layout.LayoutWord.{LayoutWord}
use Rattle.tagged_word.specs.Layouts.{HasInObjectSlots, HasNoInObjectSlots, IsLayout, IsLayoutOfKind, layout_bits}
use Rattle.tagged_word.specs.Layouts.{kind_number}
use Rattle.tagged_word.specs.Shapes.{fixed_kinds}
use Rattle.tagged_word.proofs.Masks.{eight_bits}

-- the number of a kind has 4 bits
pub kind_number-lt : (k : Kind) → kind_number k < 16
kind_number-lt kind.Plain = omega arith
kind_number-lt kind.List = omega arith
kind_number-lt kind.Weak = omega arith
kind_number-lt kind.Store = omega arith
kind_number-lt kind.Table = omega arith
kind_number-lt kind.Boxed = omega arith
kind_number-lt kind.Filler = omega arith
kind_number-lt kind.Gap = omega arith

-- and is not 0
pub kind_number-some : (k : Kind) → 1 ≤ kind_number k
kind_number-some kind.Plain = omega arith
kind_number-some kind.List = omega arith
kind_number-some kind.Weak = omega arith
kind_number-some kind.Store = omega arith
kind_number-some kind.Table = omega arith
kind_number-some kind.Boxed = omega arith
kind_number-some kind.Filler = omega arith
kind_number-some kind.Gap = omega arith

-- the parts of a layout fit their bits of the word
pub record FitsBits (layout : LayoutWord) : Type 0 where
  pub cap : layout.cap ≤ 8
  pub used : layout.used ≤ 8
  pub raw : layout.raw < 256

-- those of a layout with in-object slots do
fits_in_object : (layout : LayoutWord) → HasInObjectSlots layout → FitsBits layout
fits_in_object layout slots = record {
  cap = omega (arith, slots.cap);
  used = omega (arith, slots.cap, slots.used);
  raw =
      let few : layout.used ≤ 8 = omega (arith, slots.cap, slots.used) in
      eight_bits layout.raw layout.used few slots.raw;
}

-- those of a layout with no in-object slots do
fits_none : (layout : LayoutWord) → HasNoInObjectSlots layout → FitsBits layout
fits_none layout none = record {
  cap = omega (arith, none.cap);
  used = omega (arith, none.used);
  raw = omega (arith, none.raw);
}

-- those of any layout do, kind by kind
fits_of : (k : Kind) (layout : LayoutWord) → IsLayoutOfKind k layout → FitsBits layout
fits_of kind.Plain layout is = fits_in_object layout is
fits_of kind.List layout is = fits_none layout is
fits_of kind.Weak layout is = fits_none layout is
fits_of kind.Store layout is = fits_none layout is
fits_of kind.Table layout is = fits_none layout is
fits_of kind.Boxed layout is = fits_none layout is
fits_of kind.Filler layout is = fits_none layout is
fits_of kind.Gap layout is = fits_none layout is

-- the parts of a layout fit, so that it has a word
pub fits : (layout : LayoutWord) → IsLayout layout → FitsBits layout
fits layout is = fits_of layout.kind layout is

-- the parts of a layout, read from a word that has its bits
pub record Parts (word : ℕ) (layout : LayoutWord) : Type 0 where
  pub number : word % 16 ≡ kind_number layout.kind
  pub cap : word / 16 % 16 ≡ layout.cap
  pub used : word / 256 % 16 ≡ layout.used
  pub raw : word / 4096 ≡ layout.raw

-- a word of such parts gives them back
parts_of : (word number cap used raw : ℕ) → number < 16 → cap ≤ 8 → used ≤ 8 → raw < 256 →
    word ≡ 4096 * raw + (256 * used + (16 * cap + number)) →
    (word % 16 ≡ number) × (word / 16 % 16 ≡ cap) × (word / 256 % 16 ≡ used) × (word / 4096 ≡ raw)
parts_of word number cap used raw n c u r e = (omega arith, omega arith, omega arith, omega arith)

-- a word that has the bits of a layout gives its parts back
pub parts : (word : ℕ) (layout : LayoutWord) → IsLayout layout → word ≡ layout_bits layout → Parts word layout
parts word layout is e =
    let f = fits layout is in
    let p = parts_of word (kind_number layout.kind) layout.cap layout.used layout.raw
    (kind_number-lt layout.kind) f.cap f.used f.raw e in
    record { number = p.0; cap = p.1; used = p.2; raw = p.3 }

-- the kind of a number, and a plain one where there is none
abbrev kind_of : ℕ → Kind
kind_of n = unwrap_or (slice_get (kind.Plain ∷ kind.Plain ∷ fixed_kinds) n) kind.Plain

-- a kind is that of its number
kind_back : (k : Kind) → kind_of (kind_number k) ≡ k
kind_back kind.Plain = refl
kind_back kind.List = refl
kind_back kind.Weak = refl
kind_back kind.Store = refl
kind_back kind.Table = refl
kind_back kind.Boxed = refl
kind_back kind.Filler = refl
kind_back kind.Gap = refl

-- kinds with one number are one kind
pub same_kind : (a b : Kind) → kind_number a ≡ kind_number b → a ≡ b
same_kind a b e = sym (kind_back a) ∙ ap kind_of e ∙ kind_back b

-- a layout by its parts
abbrev pub made : Kind → ℕ → ℕ → ℕ → LayoutWord
made k c u r = record { kind = k; cap = c; used = u; raw = r }

-- equal parts make one layout
pub same_made : (k l : Kind) (c d u v r s : ℕ) → k ≡ l → c ≡ d → u ≡ v → r ≡ s → made k c u r ≡ made l d v s
same_made k l c d u v r s e f g h =
    ap (λ x. made x c u r) e ∙ ap (λ x. made l x u r) f ∙ ap (λ x. made l d x r) g ∙ ap (λ x. made l d v x) h

-- layouts with the same bits are one layout
pub same_layout : (a b : LayoutWord) → IsLayout a → IsLayout b → layout_bits a ≡ layout_bits b → a ≡ b
same_layout a b is-a is-b e =
    let p = parts (layout_bits a) a is-a refl in
    let q = parts (layout_bits a) b is-b e in
    same_made a.kind b.kind a.cap b.cap a.used b.used a.raw b.raw (same_kind a.kind b.kind (sym p.number ∙ q.number))
    (sym p.cap ∙ q.cap) (sym p.used ∙ q.used) (sym p.raw ∙ q.raw)
