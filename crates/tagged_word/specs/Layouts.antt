-- Layouts: what the words of a cell are for, and the word that says it.
use Rattle.std.specs.Prelude.{◌≡◌, ℕ, ◌+◌, ◌*◌, ◌<◌, ◌≤◌, ◌^◌, ◌/◌, ◌%◌, Bool, ◌==◌}
use Rattle.tagged_word.specs.declared.layout.Kind.{Kind}
use Rattle.tagged_word.specs.declared.layout.Kind.TheVariants as kind
use Rattle.tagged_word.specs.declared.layout.LayoutWord.{LayoutWord}

-- the most in-object slots that a cell may have
abbrev pub in_object_most : ℕ
in_object_most = 8

-- the number of a kind in its layout word
abbrev pub kind_number : Kind → ℕ
kind_number kind.Plain = 1
kind_number kind.List = 2
kind_number kind.Weak = 3
kind_number kind.Store = 4
kind_number kind.Table = 5
kind_number kind.Boxed = 6
kind_number kind.Filler = 7
kind_number kind.Gap = 8

-- at most 8 in-object slots, the first so many of them used, and a bit of the mask for used slots alone
pub record HasInObjectSlots (layout : LayoutWord) : Type 0 where
  pub cap : layout.cap ≤ in_object_most
  pub used : layout.used ≤ layout.cap
  pub raw : layout.raw < 2 ^ layout.used

-- no in-object slots
pub record HasNoInObjectSlots (layout : LayoutWord) : Type 0 where
  pub cap : layout.cap ≡ 0
  pub used : layout.used ≡ 0
  pub raw : layout.raw ≡ 0

-- what a layout of a kind may be, by the in-object slots that it has or has not
abbrev pub IsLayoutOfKind : Kind → LayoutWord → Type 0
IsLayoutOfKind kind.Plain layout = HasInObjectSlots layout
IsLayoutOfKind kind.List layout = HasNoInObjectSlots layout
IsLayoutOfKind kind.Weak layout = HasNoInObjectSlots layout
IsLayoutOfKind kind.Store layout = HasNoInObjectSlots layout
IsLayoutOfKind kind.Table layout = HasNoInObjectSlots layout
IsLayoutOfKind kind.Boxed layout = HasNoInObjectSlots layout
IsLayoutOfKind kind.Filler layout = HasNoInObjectSlots layout
IsLayoutOfKind kind.Gap layout = HasNoInObjectSlots layout

-- what a layout may be: only a plain one has in-object slots
abbrev pub IsLayout : LayoutWord → Type 0
IsLayout layout = IsLayoutOfKind layout.kind layout

-- bits 0 to 3 are the kind's number, bits 4 to 7 the cap, bits 8 to 11 the used in-object slots, bits 12 to 19 the raw
-- mask
abbrev pub layout_bits : LayoutWord → ℕ
layout_bits layout = 4096 * layout.raw + (256 * layout.used + (16 * layout.cap + kind_number layout.kind))

-- whether an in-object slot is raw: its bit of the mask stands
abbrev pub is_raw : LayoutWord → ℕ → Bool
is_raw layout slot = layout.raw / 2 ^ slot % 2 == 1
