-- Which words stores may leave: in a tagged slot, and as the header of a cell that a helper may be reading.
use Rattle.std.specs.Prelude.{◌≡◌, ℕ, ◌==◌, ◌||◌, Bool, true, IsTrue, List, [], All, Contains}
use Rattle.std.specs.Prelude.{Option, Some, None, IsSomeAnd}
use Rattle.std.specs.Option.{option_and_then}
use Rattle.tagged_word.specs.declared.header.Header.{Header}
use Rattle.tagged_word.specs.declared.layout.Kind.TheVariants as kind
use Rattle.tagged_word.specs.declared.layout.LayoutWord.{LayoutWord}
use Rattle.tagged_word.specs.declared.word.Class.{Class}
use Rattle.tagged_word.specs.declared.word.Class.TheVariants.{Small, Ref, Odd}
use Rattle.mark_world.specs.declared.laid.Laid.{Laid}
use Rattle.tagged_word.specs.Words.{IsClass, bits_of}
use Rattle.tagged_word.specs.Odds.{undefined_code, hole_code}
use Rattle.tagged_word.specs.Cells.{tagged_offsets}
use Rattle.tagged_word.specs.Readings.{header_in, shape_layout}

-- whether a tagged slot may hold a word of the class: a small integer, a reference, undefined or the hole
abbrev pub is_slot_class : Class → Bool
is_slot_class (Small v) = true
is_slot_class (Ref address) = true
is_slot_class (Odd code) = code == undefined_code || code == hole_code

-- a tagged slot may hold the word
pub record FitsTaggedSlot (word : ℕ) : Type 0 where
  pub class : Class
  pub fits : IsClass class
  pub bits : word ≡ bits_of class
  pub allowed : IsTrue (is_slot_class class)

-- the header with a layout, if it has one
abbrev pub laid_by : Header → Option LayoutWord → Option Laid
laid_by header None = None
laid_by header (Some layout) = Some (record { header = header; layout = layout })

-- the header of a word with the layout of its shape, if both are in place
abbrev pub laid_in : List ℕ → ℕ → Option Laid
laid_in layouts word =
    option_and_then (λ header. laid_by header (shape_layout layouts header.shape)) (header_in word)

-- the tagged slots of a cell with a header, by its length; none where its layout is not in place
abbrev pub slots_by : Option Laid → ℕ → List ℕ
slots_by None long = []
slots_by (Some laid) long = tagged_offsets laid.layout long

-- the tagged slots of a plain cell with a header
abbrev pub plain_slots : Laid → List ℕ
plain_slots laid = tagged_offsets laid.layout 0

-- each offset of a list is in the other
abbrev pub Includes : List ℕ → List ℕ → Type 0
Includes other list = All (λ offset. Contains other offset) list

-- Both headers are those of plain cells, with one object's number and one cap, and each slot tagged under the first is
-- tagged under the second.
pub record IsSafeChange (old new : Laid) : Type 0 where
  pub old_plain : old.layout.kind ≡ kind.Plain
  pub new_plain : new.layout.kind ≡ kind.Plain
  pub one_object : old.header.object ≡ new.header.object
  pub one_cap : old.layout.cap ≡ new.layout.cap
  pub tagged : Includes (plain_slots new) (plain_slots old)

-- The second word is a safe change of the first, as the header of a cell: both have layouts in place, and the change is
-- safe.
abbrev pub IsSafe : List ℕ → ℕ → ℕ → Type 0
IsSafe layouts before after =
    IsSomeAnd (laid_in layouts before) (λ old. IsSomeAnd (laid_in layouts after) (IsSafeChange old))
