-- The mutator's part stays under way but for some cells, through each event that spares the others.
use Rattle.std.proofs.Common.{ℕ, ◌+◌, ◌<◌, ◌≡◌, ◌∙◌, ◌⊎◌, inl, inr, false, List}
use Rattle.std.proofs.Common.{min, length, slice_index, slice_set, Option, Some, None, IsSome, All}
use Rattle.std.proofs.Common.{Contains, refl, sym, ap, subst, arith}
use Rattle.std.proofs.lemmas.Bool.Decides.{nat_tests}
use Rattle.std.proofs.lemmas.List.{get_or-set_other, get_or-set_same}
use Rattle.std.proofs.lemmas.List.Elements.{All-contains}
use Rattle.mark_laws.specs.Types.{Header, Reading, World}
use Rattle.tagged_word.specs.Readings.{header_in}
use Rattle.tagged_word.proofs.Cells.{some_same}
use Rattle.mark_world.specs.Pages.{OfTarget, cell_at, is_head_of, page_end, slots_of, target}
use Rattle.mark_world.specs.Coverage.{cell_of}
use Rattle.mark_world.specs.Unfinished.{HasSureOrOwed, IsSureOrOwed, ReadsSlots, SettlingBut}
use Rattle.mark_laws.proofs.Joins.{all_from, of_slot}
use Rattle.mark_laws.proofs.Listing.{some_weaker}
use Rattle.mark_laws.proofs.Reading.{store_keeps}
use Rattle.mark_laws.proofs.SamePages.{SamePages, same_cells}
use Rattle.mark_laws.proofs.Slots.{each_slot, slot_there}
use Rattle.mark_laws.proofs.Starts.{value_of}
use Rattle.mark_laws.proofs.Waiting.{one_or_other}

-- what the mutator is sure of or owes, it is sure of or owes later
abbrev pub KeepsPromises : World → World → Type 0
KeepsPromises world later = (to : ℕ) → IsSureOrOwed world to → IsSureOrOwed later to

-- a word with a sure or owed target has one later
pub word_keeps : (world later : World) (word : ℕ) → later.old ≡ world.old → KeepsPromises world later
    → HasSureOrOwed world word → HasSureOrOwed later word
word_keeps world later word same keeps has =
    subst (λ (old : ℕ). OfTarget old word (IsSureOrOwed later)) (sym same)
    (some_weaker (IsSureOrOwed world) (IsSureOrOwed later) (target world.old word) keeps has)

-- the same of a word that is one of before
pub same_keeps : (world later : World) (word before : ℕ) → word ≡ before → later.old ≡ world.old
    → KeepsPromises world later → HasSureOrOwed world before → HasSureOrOwed later word
same_keeps world later word before is same keeps has =
    subst (HasSureOrOwed later) (sym is) (word_keeps world later before same keeps has)

-- a cell that is read with these words of its slots
pub reads_slots : (world : World) (P : ℕ → Type 0) (at : ℕ) (cell : Reading) → cell_of world at ≡ Some cell
    → ((offset : ℕ) → Contains (slots_of cell) offset → P (slice_index world.words (at + offset)))
    → ReadsSlots world P at
reads_slots world P at cell e each = record {
  reads = subst (λ (o : Option Reading). IsSome o) (sym e) refl;
  slots = each_slot world at (λ offset. P) (λ now f offset c.
      each offset (subst (λ (r : Reading). Contains (slots_of r) offset) (some_same f e) c));
}

-- a cell that is done is read as before, and its slots hold such words later
pub carry : (world later : World) (at : ℕ)
    → ((cell : Reading) → cell_of world at ≡ Some cell → cell_of later at ≡ Some cell)
    → ((cell : Reading) → cell_of world at ≡ Some cell → (offset : ℕ) → Contains (slots_of cell) offset
    → HasSureOrOwed world (slice_index world.words (at + offset))
    → HasSureOrOwed later (slice_index later.words (at + offset)))
    → ReadsSlots world (HasSureOrOwed world) at → ReadsSlots later (HasSureOrOwed later) at
carry world later at reads slots has =
    let v = value_of (cell_of world at) has.reads in
    reads_slots later (HasSureOrOwed later) at v.0 (reads v.0 v.1)
    (λ offset c. slots v.0 v.1 offset c
    (of_slot world at offset v.0 (λ o. HasSureOrOwed world) v.1 c has.slots))

-- of each cell of a list, one that is being made, or one of which this holds
abbrev pub EachBut : List ℕ → (ℕ → Type 0) → List ℕ → Type 0
EachBut made P list = All (λ at. Contains made at ⊎ P at) list

-- where this and a condition hold of each, something else does
pub each_but : (made list : List ℕ) (P C Q : ℕ → Type 0) → ((at : ℕ) → P at → C at → Q at) → EachBut made P list
    → EachBut made C list → EachBut made Q list
each_but made list P C Q step has asked = all_from (λ at. Contains made at ⊎ Q at) list (λ at c.
    elim (All-contains (λ (a : ℕ). Contains made a ⊎ P a) list at has c) [
      | inl is_made ↦ inl is_made
      | inr done ↦ elim (All-contains (λ (a : ℕ). Contains made a ⊎ C a) list at asked c) [
        | inl is_made ↦ inl is_made
        | inr met ↦ inr (step at done met)
      ]
    ])

-- without a condition
pub each_but_more : (made list : List ℕ) (P Q : ℕ → Type 0) → ((at : ℕ) → P at → Q at) → EachBut made P list
    → EachBut made Q list
each_but_more made list P Q step has = all_from (λ at. Contains made at ⊎ Q at) list (λ at c.
    elim (All-contains (λ (a : ℕ). Contains made a ⊎ P a) list at has c) [
      | inl is_made ↦ inl is_made
      | inr done ↦ inr (step at done)
    ])

-- where pages and what the mutator made black stay, and what it is sure of or owes it is sure of or owes later
pub pages_settle : (world later : World) (made : List ℕ) → SamePages world later → later.main.mine ≡ world.main.mine
    → KeepsPromises world later → SettlingBut world made → SettlingBut later made
pages_settle world later made pages mine keeps has =
    subst (EachBut made (ReadsSlots later (HasSureOrOwed later))) (sym mine)
    (each_but_more made world.main.mine (ReadsSlots world (HasSureOrOwed world))
    (ReadsSlots later (HasSureOrOwed later))
    (λ at. carry world later at (λ cell e. same_cells world later pages at ∙ e)
    (λ cell e offset c. same_keeps world later (slice_index later.words (at + offset))
    (slice_index world.words (at + offset)) (ap (λ (ws : List ℕ). slice_index ws (at + offset)) pages.words) pages.old
    keeps))
    has)

-- a store elsewhere leaves a cell
pub store_cell : (world : World) (at word a : ℕ) (cell : Reading) → is_head_of a (cell_of world a) at ≡ false
    → cell_of world a ≡ Some cell
    → cell_at world.old (slice_set world.words at word) world.layouts a ≡ Some cell
store_cell world at word a cell apart e =
    store_keeps world.words world.layouts a (min world.old (page_end a)) at word cell e
    (subst (λ (c : Option Reading). is_head_of a c at ≡ false) e apart)

-- a slot after a store, by whether the store goes there
slot_after : (world later : World) (at word slot : ℕ) → later.words ≡ slice_set world.words at word
    → later.old ≡ world.old
    → KeepsPromises world later
    → (slot ≡ at → slot < length world.words → HasSureOrOwed later word)
    → slot < length world.words
    → HasSureOrOwed world (slice_index world.words slot) → HasSureOrOwed later (slice_index later.words slot)
slot_after world later at word slot words same keeps put within has = elim (one_or_other slot at) [
  | inl is ↦
      let there : slice_index later.words slot ≡ word =
      ap (λ (ws : List ℕ). slice_index ws slot) words ∙ ap (slice_index (slice_set world.words at word)) is
      ∙ get_or-set_same world.words at word 0 (omega (arith, is, within)) in
      subst (HasSureOrOwed later) (sym there) (put is within)
  | inr other ↦ same_keeps world later (slice_index later.words slot) (slice_index world.words slot)
      (ap (λ (ws : List ℕ). slice_index ws slot) words ∙ get_or-set_other world.words at slot word 0 other) same keeps
      has
]

-- a store into no head of a cell that is done, where the word may stand in its slots
pub store_carries : (world later : World) (at word a : ℕ) → later.words ≡ slice_set world.words at word
    → later.old ≡ world.old → later.layouts ≡ world.layouts → KeepsPromises world later
    → ((cell : Reading) → cell_of world a ≡ Some cell → (offset : ℕ) → Contains (slots_of cell) offset
    → a + offset ≡ at → HasSureOrOwed later word)
    → is_head_of a (cell_of world a) at ≡ false
    → ReadsSlots world (HasSureOrOwed world) a → ReadsSlots later (HasSureOrOwed later) a
store_carries world later at word a words old layouts keeps put apart =
    carry world later a
    (λ cell e. ap (λ o. cell_at o later.words later.layouts a) old
    ∙ ap (λ (ws : List ℕ). cell_at world.old ws later.layouts a) words
    ∙ ap (λ (ls : List ℕ). cell_at world.old (slice_set world.words at word) ls a) layouts
    ∙ store_cell world at word a cell apart e)
    (λ cell e offset c. slot_after world later at word (a + offset) words old keeps
    (λ is within. put cell e offset c is) (slot_there world a cell offset e c))

-- a word that is a header refers to nothing
pub header_no_target : (old word : ℕ) (header : Header) → header_in word ≡ Some header → target old word ≡ None
header_no_target old word header e = grind (arith, nat_tests)
