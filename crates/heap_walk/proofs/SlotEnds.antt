-- Offsets that are tried one after another, and where the slots of a cell end.
use Rattle.std.proofs.Common.{◌≡◌, ℕ, ◌+◌, ◌<◌, ◌≤◌, ◌∷◌, inl, inr, List, Some, sym, ap, subst, arith}
use Rattle.std.specs.List.{All, Contains, range_with_len}
use Rattle.std.proofs.lemmas.Bool.{cases_lt}
use Rattle.tagged_word.specs.declared.layout.Kind.{Kind}
use Rattle.tagged_word.specs.declared.layout.Kind.TheVariants as kind
use Rattle.tagged_word.specs.declared.layout.LayoutWord.{LayoutWord}
use Rattle.tagged_word.specs.Cells.{in_object_offsets, plain_head, store_head, store_slot, proto_slot}
use Rattle.tagged_word.specs.Cells.{scavenge_offsets}
use Rattle.tagged_word.specs.Cells.{scavenge_offsets_of, cell_size, cell_words_most, words_least, words_of}
use Rattle.tagged_word.proofs.Cells.{size_is}
use Rattle.tagged_word.proofs.Members.{range_bounds}
use Rattle.tagged_word.proofs.Offsets.{IsPlainSlot, plain_slot_is}
use Rattle.cell_layout.specs.Slots.{IsLeastFrom}
use Rattle.cell_layout.proofs.NextSlots.{all_below}

-- a slot of a plain cell is its store's, its prototype's, or one of the used ones
plain_end : (layout : LayoutWord) (offset : ℕ)
    → Contains (store_slot ∷ proto_slot ∷ in_object_offsets layout) offset → offset < plain_head + layout.used
plain_end layout offset there =
    elim (plain_slot_is layout offset there) [
      | IsPlainSlot.store same ↦ omega (arith, same)
      | IsPlainSlot.proto same ↦ omega (arith, same)
      | IsPlainSlot.own is ↦ omega (arith, is.behind, is.used)
    ]

-- so they end behind the used ones
pub plain_ends : (layout : LayoutWord) (long : ℕ) → layout.kind ≡ kind.Plain
    → All (λ offset. offset < plain_head + layout.used) (scavenge_offsets layout long)
plain_ends layout long plain =
    subst (λ (one : Kind). All (λ offset. offset < plain_head + layout.used) (scavenge_offsets_of one layout long))
    (sym plain)
    (all_below (store_slot ∷ proto_slot ∷ in_object_offsets layout) (plain_head + layout.used) (plain_end layout))

-- those of a store end behind as many as its length
pub store_ends : (layout : LayoutWord) (long : ℕ) → layout.kind ≡ kind.Store
    → All (λ offset. offset < store_head + long) (scavenge_offsets layout long)
store_ends layout long store =
    subst (λ (one : Kind). All (λ offset. offset < store_head + long) (scavenge_offsets_of one layout long)) (sym store)
    (all_below (range_with_len store_head long) (store_head + long)
    (λ offset there. (range_bounds store_head long offset there).1))

-- which are words of the store
pub store_words : (layout : LayoutWord) (long size : ℕ) → layout.kind ≡ kind.Store → cell_size layout long ≡ Some size
    → store_head + long ≤ cell_words_most
store_words layout long size store sized =
    let within = size_is (words_least layout.kind) (words_of layout.kind layout.cap long) size sized in
    let words : words_of layout.kind layout.cap long ≡ store_head + long =
    ap (λ (one : Kind). words_of one layout.cap long) store in
    omega (arith, words, within.2)

-- an offset on a list is the first from itself on
pub least_itself : (offsets : List ℕ) (offset : ℕ) → Contains offsets offset → IsLeastFrom offsets offset offset
least_itself offsets offset there = record { among = there; reached = omega arith; least = λ other found from. from }

-- where an offset is none of a list, those from it on are behind it
pub reaches_next : (offsets : List ℕ) (offset : ℕ) → (Contains offsets offset → ⊥) → (other : ℕ)
    → Contains offsets other → offset ≤ other → offset + 1 ≤ other
reaches_next offsets offset none other there from =
    elim (cases_lt offset other) [
      | inl behind ↦ omega (arith, behind)
      | inr not ↦
          let same : other ≡ offset = omega (arith, not, from) in
          absurd (none (subst (λ (one : ℕ). Contains offsets one) same there))
    ]
