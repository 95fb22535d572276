-- The pairs of one weak map of a whole heap become others: each that holds something is an entry, and each cell that
-- came or was made is sound.
use Rattle.std.proofs.Common.{◌≡◌, ◌≢◌, ℕ, ◌⊎◌, inl, inr, List, ◌∷◌, ◌++◌, drop, Contains, Some, slice_get, sym, ◌∙◌}
use Rattle.std.proofs.Common.{ap, subst}
use Rattle.std.proofs.lemmas.Bool.{cases_eq}
use Rattle.std.proofs.lemmas.Option.{same_Some}
use Rattle.tagged_word.specs.declared.layout.Kind.TheVariants as kind
use Rattle.tagged_word.specs.Cells.{store_head}
use Rattle.tagged_word.proofs.Members.{rest_in}
use Rattle.heap_model.specs.Types.{Cell}
use Rattle.heap_model.specs.Heaps.{Heap, HasCell, words_of_cell}
use Rattle.heap_model.specs.Slots.{hole_word, RefersTo, IsSlotWord}
use Rattle.heap_model.specs.Kinds.{Pair, free_pair, IsFilledPair, IsFoundPair, IsWeakCell, IsStoreCell, IsSoundOf}
use Rattle.heap_model.specs.Kinds.{IsSoundCell}
use Rattle.heap_model.proofs.SlotWords.{value_is_slot}
use Rattle.heap_model.proofs.WordsStay.{refers_to_place_stays, value_stays}
use Rattle.object_cells.specs.OwnSlots.{IsNoBoxOf}
use Rattle.object_cells.proofs.BesideSound.{store_is_sound, beside_sound, came_sound}
use Rattle.object_cells.proofs.OwnSteps.{OwnStep, own_step, own_places_stay, own_box_stays}
use Rattle.object_cells.proofs.OwnerWrites.{weak_owns}
use Rattle.weak_pairs.specs.Pairs.{IsFilledAt}
use Rattle.ephemeron_table.specs.PairWrites.{ShowsPair}
use Rattle.ephemeron_table.specs.PairLaws.{RefillsWeak}
use Rattle.weak_pairs.proofs.PairWords.{IsPairWord, is_table_of, one_pairs, pair_word, table_words}

-- a pair holds nothing, or something
free_or_filled : (pair : Pair) → (pair ≡ free_pair) ⊎ (pair ≢ free_pair)
free_or_filled pair = elim (cases_eq pair.key hole_word) [
  | inl key ↦ elim (cases_eq pair.value hole_word) [
    | inl value ↦ inl (let P : ℕ → ℕ → Pair = λ a b. record { key = a; value = b } in
        ap (λ a. P a pair.value) key ∙ ap (P hole_word) value)
    | inr other ↦ inr (λ same. other (ap (λ (one : Pair). one.value) same))
  ]
  | inr other ↦ inr (λ same. other (ap (λ (one : Pair). one.key) same))
]

module _ {old new : Heap} {cell : Cell} {others made : List Cell} (refills : RefillsWeak old new cell others made) where
  -- the cells of the map change, and no others
  pub weak_step : OwnStep old new cell cell others others made
  weak_step = own_step weak_owns refills.whole refills.writes

  -- the map was sound
  pub was_sound : IsWeakCell old (words_of_cell old cell)
  was_sound =
      subst (λ k. IsSoundOf k old cell (words_of_cell old cell)) refills.writes.of_kind
      (refills.whole.sound cell (words_of_cell old cell) refills.writes.stood)

  -- and had these pairs
  before_are : refills.pairs.before ≡ was_sound.pairs
  before_are =
      one_pairs refills.pairs.were (record { store = was_sound.store; slot = was_sound.slot; table = was_sound.table })

  -- a pair that held something held an entry
  pub before_found : (at : ℕ) (pair : Pair) → IsFilledAt refills.pairs.before at pair
      → IsFoundPair old was_sound.pairs at pair
  before_found at pair stood =
      elim (was_sound.each at pair (ap (λ all. slice_get all at) (sym before_are) ∙ stood.stands)) [
        | inl free ↦ absurd (stood.filled free)
        | inr found ↦ found
      ]

  -- it does so where it is kept
  kept_filled : (at : ℕ) (pair : Pair) → IsFilledAt refills.pairs.before at pair → IsNoBoxOf others pair.value
      → (number : ℕ) × IsFilledPair new pair number
  kept_filled at pair stood no_box =
      let found = before_found at pair stood in (
        found.number,
        record {
          key = refers_to_place_stays (own_places_stay weak_step) found.filled.key;
          value = value_stays pair.value (own_places_stay weak_step)
              (own_box_stays weak_step pair.value no_box) found.filled.value;
        },
      )

  -- each pair that holds something holds an entry
  pub filled_now : (at : ℕ) (pair : Pair) → IsFilledAt refills.pairs.now at pair
      → (number : ℕ) × IsFilledPair new pair number
  filled_now at pair filled = elim (refills.pairs.each_pair at pair filled) [
    | ShowsPair.kept stood no_box ↦ kept_filled (refills.pairs.refills.origin at) pair stood no_box
    | ShowsPair.put number is_one is ↦ (number, is)
  ]

  -- so the map's cell is sound
  weak_is_sound : IsWeakCell new (words_of_cell new cell)
  weak_is_sound =
      let are = refills.pairs.are in
      record {
        store = are.store;
        slot = are.slot;
        pairs = refills.pairs.now;
        table = are.table;
        each = λ at pair there. elim (free_or_filled pair) [
          | inl free ↦ inl free
          | inr filled ↦
              let is : IsFilledAt refills.pairs.now at pair = record { stands = there; filled = filled } in
              let entry = filled_now at pair is in
              inr (record {
                number = entry.0;
                filled = entry.1;
                probed = refills.pairs.probed at entry.0 pair is entry.1.key;
              })
        ];
        counted = refills.pairs.counted;
      }

  -- the key and the value of each pair are slot words
  pair_slots : (at : ℕ) (pair : Pair) → slice_get refills.pairs.now at ≡ Some pair
      → IsSlotWord new pair.key × IsSlotWord new pair.value
  pair_slots at pair there = elim (free_or_filled pair) [
    | inl free ↦
        let hole : IsSlotWord new hole_word = IsSlotWord.hole in (
          subst (IsSlotWord new) (sym (ap (λ (one : Pair). one.key) free)) hole,
          subst (IsSlotWord new) (sym (ap (λ (one : Pair). one.value) free)) hole,
        )
    | inr filled ↦
        let entry = filled_now at pair (record { stands = there; filled = filled }) in
        (IsSlotWord.object pair.key (entry.0, entry.1.key), value_is_slot pair.value entry.1.value)
  ]

  -- so is each word of the table
  table_slot : (k word : ℕ) → IsPairWord refills.pairs.now k word → IsSlotWord new word
  table_slot k word (IsPairWord.as_key at pair there is) = subst (IsSlotWord new) is (pair_slots at pair there).0
  table_slot k word (IsPairWord.as_value at pair there is place) =
      subst (IsSlotWord new) is (pair_slots at pair there).1

  -- the table that the slot refers to is the one of the pairs
  pub one_table : refills.pairs.are.store ≡ refills.pairs.refills.store
  one_table =
      same_Some refills.pairs.are.store refills.pairs.refills.store
      (sym refills.pairs.are.slot ∙ refills.pairs.refills.has_store)

  -- each table that came or was made is sound
  table_sound : (other : Cell) → Contains (others ++ made) other → other.layout.kind ≡ kind.Table
      → IsStoreCell new other (words_of_cell new other)
  table_sound other there is =
      let told = refills.pairs.refills.stores other there is in
      let words : List ℕ = words_of_cell new other in
      let has : HasCell new other words = weak_step.cells.comes other (rest_in cell (others ++ made) other there) in
      let refers : RefersTo new refills.pairs.are.store other words =
      record { refers = one_table ∙ told.1; has = has } in
      let are = is_table_of refills.pairs.are.store refills.pairs.now refills.pairs.are.table refers in
      store_is_sound words told.0
      (λ k word stands. table_slot k word
      (subst (λ all. IsPairWord all k word) (sym are.are)
      (pair_word (drop store_head words) other.length k word (table_words has is) stands)))

  -- each cell that came or was made is sound
  pub pairs_sound : (one : Cell) → Contains (cell ∷ (others ++ made)) one → IsSoundCell new one (words_of_cell new one)
  pairs_sound =
      let sound : IsSoundOf cell.layout.kind new cell (words_of_cell new cell) =
      subst (λ k. IsSoundOf k new cell (words_of_cell new cell)) (sym refills.writes.of_kind) weak_is_sound in
      came_sound others made sound (beside_sound others made weak_owns refills.writes.beside
      refills.pairs.refills.kinds table_sound refills.pairs.refills.boxes)
