-- An object that was just made is the key of no pair that was there before.
use Rattle.std.proofs.Common.{◌≡◌, ℕ, ◌≤◌, ◌⊎◌, inl, inr, List, [], Some, length, drop, slice_get, refl}
use Rattle.std.proofs.Common.{sym, ◌∙◌, ap, subst, arith}
use Rattle.tagged_word.specs.declared.layout.Kind.TheVariants as kind
use Rattle.tagged_word.specs.Cells.{store_head, is_object_kind}
use Rattle.std.proofs.lemmas.Option.{same_Some}
use Rattle.object_graph.specs.Graphs.{Graph}
use Rattle.heap_model.specs.Types.{Cell}
use Rattle.heap_model.specs.Heaps.{Heap, HasCell}
use Rattle.heap_model.specs.Slots.{undefined_word, RefersTo, RefersToPlace}
use Rattle.heap_model.specs.Kinds.{Pair, pairs_in, HasTable, IsWeakCell, IsSoundOf}
use Rattle.heap_model.specs.Showing.{HasPair, Shows}
use Rattle.heap_model.specs.Laws.{NewObjectsAreNoKeys}
use Rattle.heap_model.proofs.WordClasses.{same_reference, undefined_refers_not, hole_refers_not}
use Rattle.heap_model.proofs.CellsApart.{one_at, one_words}
use Rattle.heap_model.proofs.SlotWords.{same_target}
use Rattle.heap_model.proofs.WordsStay.{refers_to_place_stays}
use Rattle.heap_model.proofs.CellOutcomes.{cells_move}
use Rattle.heap_model.proofs.Moves.{Moves, place_stays}
use Rattle.heap_model.proofs.KeptObjects.{Keeps, kept_table}

-- the word refers to this table
record IsTableAt (heap : Heap) (word : ℕ) (pairs : List Pair) : Type 0 where
  cell : Cell
  words : List ℕ
  refers : RefersTo heap word cell words
  are : pairs ≡ pairs_in (drop store_head words)

-- there is no table, or the word refers to one
table_cases : (heap : Heap) (word : ℕ) (pairs : List Pair) → HasTable heap word pairs
    → ((word ≡ undefined_word) × (pairs ≡ [])) ⊎ IsTableAt heap word pairs
table_cases heap word pairs HasTable.none = inl (refl, refl)
table_cases heap word pairs (HasTable.table to cell words refers is power) =
    inr record { cell = cell; words = words; refers = refers; are = refl }

-- a word that refers to a table stands for that one
one_table_at : (heap : Heap) (word : ℕ) (pairs others : List Pair) → IsTableAt heap word pairs
    → IsTableAt heap word others → pairs ≡ others
one_table_at heap word pairs others one other =
    let same : one.cell ≡ other.cell = same_target one.refers other.refers in
    let has = subst (λ cell. HasCell heap cell one.words) same one.refers.has in
    one.are ∙ ap (λ words. pairs_in (drop store_head words)) (one_words has other.refers.has) ∙ sym other.are

-- a word stands for one table
pub one_table : (heap : Heap) (word : ℕ) (pairs others : List Pair) → HasTable heap word pairs
    → HasTable heap word others → pairs ≡ others
one_table heap word pairs others one other =
    elim (table_cases heap word pairs one) [
      | inl none ↦ elim (table_cases heap word others other) [
        | inl none_too ↦ none.1 ∙ sym none_too.1
        | inr at_too ↦ absurd (undefined_refers_not at_too.cell.at (sym none.0 ∙ at_too.refers.refers))
      ]
      | inr at ↦ elim (table_cases heap word others other) [
        | inl none_too ↦ absurd (undefined_refers_not at.cell.at (sym none_too.0 ∙ at.refers.refers))
        | inr at_too ↦ one_table_at heap word pairs others at at_too
      ]
    ]

-- what refers to the place of one object refers to no other's
pub one_number : (heap : Heap) (word number other : ℕ) → RefersToPlace heap word number → RefersToPlace heap word other
    → number ≡ other
one_number heap word number other refers refers_other =
    let at : refers.at ≡ refers_other.at =
    same_reference refers.at refers_other.at (sym refers.refers ∙ refers_other.refers) in
    let same : refers.place.cell ≡ refers_other.place.cell =
    one_at refers.place.has refers_other.place.has (refers.place.stands ∙ at ∙ sym refers_other.place.stands) in
    sym refers.place.carries ∙ ap (λ (one : Cell). one.header.object) same ∙ refers_other.place.carries

-- a pair of a weak map that did not go has no new object as its key
kept_no_key : {old new : Heap} {gone came made : List Cell} (before : Graph) (number : ℕ) (cell : Cell) (words : List ℕ)
    (pair : Pair) → Moves old new gone came made → Shows old before → length before.objects ≤ number
    → Keeps old new gone cell words → cell.layout.kind ≡ kind.Weak → HasPair new words pair
    → RefersToPlace new pair.key number → ⊥
kept_no_key {old} {new} before number cell words pair moves shows above keeps is has refers =
    let sound : IsWeakCell old words =
    subst (λ k. IsSoundOf k old cell words) is (moves.whole.sound cell words keeps.had) in
    let table = kept_table sound.store moves keeps sound.slot sound.table in
    let store : sound.store ≡ has.store = same_Some sound.store has.store (sym sound.slot ∙ has.slot) in
    let table_too = subst (λ word. HasTable new word sound.pairs) store table in
    let pairs : has.pairs ≡ sound.pairs = one_table new has.store has.pairs sound.pairs has.table table_too in
    let there = subst (λ all. slice_get all has.at ≡ Some pair) pairs has.stands in
    elim (sound.each has.at pair there) [
      | inl free ↦ hole_refers_not refers.at (sym (ap (λ (one : Pair). one.key) free) ∙ refers.refers)
      | inr found ↦
          let key = found.filled.key in
          let same = one_number new pair.key number found.number refers
          (refers_to_place_stays (place_stays moves) key) in
          omega (arith, shows.made found.number key.at key.place, same, above)
    ]

-- an object that was just made is no key, where no weak map that came or was made has it as one
pub new_objects_are_no_keys : NewObjectsAreNoKeys
new_objects_are_no_keys old new before gone came made number shows change own above fresh cell words has
    is pair has_pair refers =
    let moves : Moves old new gone came made = record { whole = shows.whole; cells = cells_move change; own = own } in
    elim (change.back cell words has) [
      | inl comes ↦ fresh cell comes is pair (subst (λ all. HasPair new all pair) (sym has.words_are) has_pair) refers
      | inr stays ↦
          let keeps : Keeps old new gone cell words =
          record { had = stays.0; has = has; not_gone = stays.1; object = ap is_object_kind is } in
          kept_no_key before number cell words pair moves shows above keeps is has_pair refers
    ]
