-- When the cells that came or were made where an object's own cells were written are sound.
use Rattle.std.proofs.Common.{◌≡◌, ◌⊎◌, ℕ, List, ◌∷◌, ◌++◌, drop, Contains, get_or, IsTrue}
use Rattle.std.proofs.Common.{inl, inr, sym, subst}
use Rattle.std.proofs.lemmas.Bool.{false≢true}
use Rattle.std.proofs.lemmas.List.Elements.{Contains-append_cases, All-from_get_or}
use Rattle.std.proofs.lemmas.Option.{slice_get-get_or}
use Rattle.heap_model.specs.Types.{Kind, Cell}
use Rattle.tagged_word.specs.declared.layout.Kind.TheVariants as kind
use Rattle.tagged_word.specs.Cells.{store_head, has_length}
use Rattle.tagged_word.proofs.Members.{in_cases}
use Rattle.heap_model.specs.Heaps.{Heap, words_of_cell}
use Rattle.heap_model.specs.Slots.{IsSlotWord}
use Rattle.heap_model.specs.Kinds.{HasWord, HasNoNumber, IsStoreCell, IsBoxCell, IsSoundOf, IsSoundCell}
use Rattle.heap_model.specs.Wholeness.{IsOwnedKind}
use Rattle.object_cells.specs.CellWrites.{IsWrittenOfKind, Owns}

-- a store of which each slot holds a slot word is sound
pub store_is_sound : {heap : Heap} {cell : Cell} (words : List ℕ) → HasNoNumber cell
    → ((k word : ℕ) → HasWord (drop store_head words) k word → IsSlotWord heap word) → IsStoreCell heap cell words
store_is_sound {heap} words no_number each = record {
  no_number = no_number;
  slots = All-from_get_or (IsSlotWord heap) (drop store_head words) 0 (λ k below.
      each k (get_or (drop store_head words) k 0) (slice_get-get_or (drop store_head words) k 0 below));
}

-- what a store or a table is makes it sound
owned_sound : (heap : Heap) (cell : Cell) (words : List ℕ) (owned : Kind) → IsOwnedKind owned
    → IsTrue (has_length owned) → IsStoreCell heap cell words → IsSoundOf owned heap cell words
owned_sound heap cell words kind.Store owned long sound = sound
owned_sound heap cell words kind.Table owned long sound = sound
owned_sound heap cell words kind.Boxed owned long sound = absurd (false≢true long)
owned_sound heap cell words _ owned long sound = absurd owned

-- each store or table and each box that came or was made is sound where stores are and boxes are
pub beside_sound : {owner owned : Kind} {old new : Heap} (others made : List Cell) → Owns owner owned
    → ((other : Cell) → Contains others other → IsWrittenOfKind owned old new other)
    → ((other : Cell) → Contains made other → (other.layout.kind ≡ owned) ⊎ (other.layout.kind ≡ kind.Boxed))
    → ((other : Cell) → Contains (others ++ made) other → other.layout.kind ≡ owned
    → IsStoreCell new other (words_of_cell new other))
    → ((other : Cell) → Contains (others ++ made) other → other.layout.kind ≡ kind.Boxed
    → IsBoxCell other (words_of_cell new other))
    → (one : Cell) → Contains (others ++ made) one → IsSoundCell new one (words_of_cell new one)
beside_sound {owned = owned} {new = new} others made owns beside kinds stores boxes one there =
    let words : List ℕ = words_of_cell new one in
    let is : (one.layout.kind ≡ owned) ⊎ (one.layout.kind ≡ kind.Boxed) =
    elim (Contains-append_cases others made one there) [
      | inl among ↦ (beside one among).of_kind
      | inr in_made ↦ kinds one in_made
    ] in
    elim is [
      | inl store ↦ subst (λ k. IsSoundOf k new one words) (sym store)
          (owned_sound new one words owned owns.belongs owns.long (stores one there store))
      | inr box ↦ subst (λ k. IsSoundOf k new one words) (sym box) (boxes one there box)
    ]

-- each cell that came or was made is sound, where what the object's became is, and each beside it
pub came_sound : {new : Heap} {came : Cell} (others made : List Cell) → IsSoundCell new came (words_of_cell new came)
    → ((other : Cell) → Contains (others ++ made) other → IsSoundCell new other (words_of_cell new other))
    → (one : Cell) → Contains (came ∷ (others ++ made)) one → IsSoundCell new one (words_of_cell new one)
came_sound {new} {came} others made own sound one there =
    elim (in_cases came (others ++ made) one there) [
      | inl same ↦ subst (λ (c : Cell). IsSoundCell new c (words_of_cell new c)) same own
      | inr beside ↦ sound one beside
    ]
