-- The table of a weak map, as it is found by the word of the map's slot.
use Rattle.std.proofs.Common.{◌≡◌, ℕ, suc, ◌+◌, ◌*◌, ◌<◌, ◌⊎◌, inl, inr, List, [], length, drop, Some, None}
use Rattle.std.proofs.Common.{slice_get, unwrap_or, refl, sym, ◌∙◌, ap, subst, arith, length-drop}
use Rattle.std.proofs.lemmas.Option.{same_Some, none-some}
use Rattle.tagged_word.specs.declared.layout.Kind.TheVariants as kind
use Rattle.tagged_word.specs.Cells.{store_head}
use Rattle.tagged_word.specs.Readings.{reference_in}
use Rattle.tagged_word.proofs.Readings.{reference_from, reference_to}
use Rattle.page_space.specs.Sizes.{AreWithin}
use Rattle.page_space.specs.Extents.{marks_start}
use Rattle.page_space.proofs.Starts.{marks_start_is}
use Rattle.heap_model.specs.Types.{Cell}
use Rattle.cell_layout.proofs.OneCell.{cells_have_words}
use Rattle.heap_model.specs.Heaps.{Heap, HasCell}
use Rattle.heap_model.specs.Slots.{reference_word, undefined_word, RefersTo, IsWeakCellAt}
use Rattle.heap_model.specs.Kinds.{HasWord, Pair, pairs_in, HasTable, IsFoundPair, IsPowerOfTwo, IsSoundOf, IsWeakCell}
use Rattle.heap_model.specs.Kinds.{count_offset}
use Rattle.heap_model.specs.Wholeness.{Whole}
use Rattle.heap_model.specs.Needs.{capacity_by, count_at}
use Rattle.heap_model.proofs.CellsApart.{has_is_cell, one_at, one_words}
use Rattle.heap_model.proofs.CellWords.{words_by_kind, words_are_size, behind_head}
use Rattle.heap_model.proofs.ObjectSlots.{pair_words}
use Rattle.heap_model.proofs.WordClasses.{same_reference, undefined_refers_not}
use Rattle.object_cells.proofs.CellsRead.{word_before_marks, cell_before_marks, word_is, word_stands}
use Rattle.object_cells.proofs.WordsTold.{cell_fits}
use Rattle.object_cells.proofs.KeptCapacities.{capacity_read, length_stands}
use Rattle.weak_pairs.specs.Pairs.{HasPairs, HasPairsAt, IsFilledAt}
use Rattle.weak_pairs.proofs.CountedPairs.{count_filled}
use Rattle.weak_pairs.proofs.PairWords.{one_pairs}
use Rattle.ephemeron_table.specs.Probes.{IsTableAt}
use Rattle.weak_pairs.specs.Tables.{ArePairsIn, key_offset, value_offset}
use Rattle.heap_model.proofs.PairLists.{length-pairs_in}

-- a table stands at the address, to which the word refers, and these are its pairs
pub record IsFoundTable (heap : Heap) (word : ℕ) (pairs : List Pair) (at : ℕ) : Type 0 where
  pub cell : Cell
  pub words : List ℕ
  pub refers : RefersTo heap word cell words
  pub stands : cell.at ≡ at
  pub of_kind : cell.layout.kind ≡ kind.Table
  pub power : IsPowerOfTwo cell.length
  pub are : pairs ≡ pairs_in (drop store_head words)
  pub long : length words ≡ store_head + 2 * cell.length
  pub size : cell.size ≡ store_head + 2 * cell.length
  pub counted : slice_get heap.words (at + 1) ≡ Some cell.length

-- a table to which the word refers is found
pub found_table : {heap : Heap} (word : ℕ) (pairs : List Pair) (at : ℕ) → HasTable heap word pairs
    → word ≡ reference_word at → IsFoundTable heap word pairs at
found_table word pairs at HasTable.none is = absurd (undefined_refers_not at is)
found_table {heap} word pairs at (HasTable.table to cell words refers of_kind power) is =
    let same : cell.at ≡ at = same_reference cell.at at (sym refers.refers ∙ is) in
    let long = words_by_kind kind.Table refers.has of_kind in
    record {
      cell = cell;
      words = words;
      refers = refers;
      stands = same;
      of_kind = of_kind;
      power = power;
      are = refl;
      long = long;
      size = sym (words_are_size refers.has) ∙ long;
      counted = ap (λ n. slice_get heap.words (n + 1)) (sym same) ∙ length_stands refers.has (inr of_kind);
    }

-- there is no table, or the word refers to one
pub table_cases : {heap : Heap} (word : ℕ) (pairs : List Pair) → HasTable heap word pairs
    → ((word ≡ undefined_word) × (pairs ≡ [])) ⊎ ((at : ℕ) × (word ≡ reference_word at))
table_cases word pairs HasTable.none = inl (refl, refl)
table_cases word pairs (HasTable.table to cell words refers of_kind power) = inr (cell.at, refers.refers)

-- the words of its pairs stand behind its head
pub pairs_stand : {heap : Heap} (word : ℕ) (pairs : List Pair) (at capacity : ℕ)
    → (found : IsFoundTable heap word pairs at) → found.cell.length ≡ capacity
    → ArePairsIn heap.words (record { at = at; capacity = capacity }) pairs
pairs_stand {heap} word pairs at capacity found long =
    let behind : List ℕ = drop store_head found.words in
    let many : length behind ≡ 2 * capacity =
    omega (arith, length-drop store_head found.words, found.long, long) in
    let parts = λ (place : ℕ) (pair : Pair) (there : slice_get pairs place ≡ Some pair).
    pair_words behind place (2 * place) pair refl (ap (λ all. slice_get all place) (sym found.are) ∙ there) in
    record {
      long = ap length found.are ∙ omega (arith, length-pairs_in behind, many);
      keys = λ place pair there.
          ap (λ n. slice_get heap.words (n + key_offset place)) (sym found.stands)
          ∙ word_stands (store_head + 2 * place) pair.key found.refers.has
          (behind_head found.words (2 * place) pair.key (parts place pair there).0);
      values = λ place pair there.
          let next : suc (2 * place) ≡ 2 * place + 1 = omega arith in
          ap (λ n. slice_get heap.words (n + value_offset place)) (sym found.stands)
          ∙ word_stands (store_head + (2 * place + 1)) pair.value found.refers.has
          (behind_head found.words (2 * place + 1) pair.value
          (subst (λ n. HasWord behind n pair.value) next (parts place pair there).1));
    }

-- a weak map's cell is sound
pub weak_sound : {heap : Heap} {at : ℕ} → Whole heap → (there : IsWeakCellAt heap at) → IsWeakCell heap there.words
weak_sound {heap} whole there =
    subst (λ k. IsSoundOf k heap there.cell there.words) there.of_kind (whole.sound there.cell there.words there.has)

-- so it has pairs
abbrev pub weak_pairs : {heap : Heap} {at : ℕ} (there : IsWeakCellAt heap at) → (sound : IsWeakCell heap there.words)
    → HasPairsAt heap at sound.pairs
weak_pairs there sound = record {
  cell = there.cell;
  words = there.words;
  has = there.has;
  stands = there.stands;
  of_kind = there.of_kind;
  are = record { store = sound.store; slot = sound.slot; table = sound.table };
}

-- a weak map has one list of pairs
pub one_map : {heap : Heap} {map : ℕ} {pairs others : List Pair} → HasPairsAt heap map pairs
    → HasPairsAt heap map others → pairs ≡ others
one_map {heap} {others = others} a b =
    let same = one_at b.has a.has (b.stands ∙ sym a.stands) in
    let words = one_words (subst (λ cell. HasCell heap cell b.words) same b.has) a.has in
    one_pairs a.are (subst (λ all. HasPairs heap all others) words b.are)

-- what is sound of its cell is so of its pairs
pairs_sound : {heap : Heap} {map : ℕ} {pairs : List Pair} → Whole heap → (has : HasPairsAt heap map pairs)
    → (sound : IsWeakCell heap has.words) × (sound.pairs ≡ pairs)
pairs_sound {heap} whole has =
    let sound : IsWeakCell heap has.words =
    subst (λ k. IsSoundOf k heap has.cell has.words) has.of_kind (whole.sound has.cell has.words has.has) in
    (sound, one_pairs (record { store = sound.store; slot = sound.slot; table = sound.table }) has.are)

-- each of them that holds something holds an entry, where probing finds it
pub pair_found : {heap : Heap} {map : ℕ} {pairs : List Pair} (at : ℕ) (pair : Pair) → Whole heap
    → HasPairsAt heap map pairs
    → IsFilledAt pairs at pair → IsFoundPair heap pairs at pair
pair_found {heap} at pair whole has filled =
    let sound = pairs_sound whole has in
    elim (sound.0.each at pair (ap (λ all. slice_get all at) sound.1 ∙ filled.stands)) [
      | inl free ↦ absurd (filled.filled free)
      | inr found ↦ subst (λ all. IsFoundPair heap all at pair) sound.1 found
    ]

-- and the map counts these
pub pairs_counted : {heap : Heap} {map : ℕ} {pairs : List Pair} → Whole heap → HasPairsAt heap map pairs
    → count_at heap map ≡ count_filled pairs
pairs_counted {heap} whole has =
    let sound = pairs_sound whole has in
    ap (count_at heap) (sym has.stands)
    ∙ ap (λ found. unwrap_or found 0) (word_stands count_offset (count_filled sound.0.pairs) has.has sound.0.counted)
    ∙ ap count_filled sound.1

-- the slot of the map's cell for a table is before the marks
pub slot_within : {heap : Heap} {at : ℕ} → Whole heap → IsWeakCellAt heap at → at + 1 < marks_start heap.space
slot_within whole there =
    let sound = weak_sound whole there in
    word_before_marks 1 sound.store whole.sized there.has there.stands sound.slot

-- and its count
pub count_within : {heap : Heap} {at : ℕ} → Whole heap → IsWeakCellAt heap at → at + 2 < marks_start heap.space
count_within whole there =
    word_before_marks 2 _ whole.sized there.has there.stands (weak_sound whole there).counted

-- the table to which the word that was read refers
pub read_table : {heap : Heap} (map word at : ℕ) (pairs : List Pair) → HasPairsAt heap map pairs
    → slice_get heap.words (map + 1) ≡ Some word → reference_in word ≡ Some at
    → (store : ℕ) × IsFoundTable heap store pairs at
read_table map word at pairs has stands refers =
    let read = word_is 1 has.are.store word map has.has has.stands has.are.slot stands in (
      has.are.store,
      found_table has.are.store pairs at has.are.table (sym read ∙ (reference_from word at refers).1),
    )

-- what is read of a table is that of the map
pub table_is : {heap : Heap} (map word at capacity : ℕ) → Whole heap → IsWeakCellAt heap map
    → slice_get heap.words (map + 1) ≡ Some word → reference_in word ≡ Some at
    → slice_get heap.words (at + 1) ≡ Some capacity → IsTableAt heap map (record { at = at; capacity = capacity })
table_is {heap} map word at capacity whole there stands refers counted =
    let sound = weak_sound whole there in
    let found = (read_table map word at sound.pairs (weak_pairs there sound) stands refers).1 in
    let long : found.cell.length ≡ capacity = same_Some _ _ (sym found.counted ∙ counted) in
    let bounds = cells_have_words heap.space heap.words found.cell (has_is_cell found.refers.has) in
    record {
      capacity = capacity_read heap map word stands ∙ ap (capacity_by heap) refers ∙ ap (λ o. unwrap_or o 0) counted;
      small = omega (arith, bounds.1, found.size, long);
      within = omega (arith, cell_before_marks whole.sized found.refers.has, found.size, long, found.stands);
      pairs = λ pairs has.
          let one = (read_table map word at pairs has stands refers).1 in
          pairs_stand _ pairs at capacity one (same_Some _ _ (sym one.counted ∙ counted));
      refers = λ pairs has some.
          sym (word_is 1 has.are.store word map has.has has.stands has.are.slot stands)
          ∙ (reference_from word at refers).1;
    }

-- where nothing is read, there are no pairs
no_pairs : {heap : Heap} (map word : ℕ) (pairs : List Pair) → Whole heap
    → AreWithin heap.space.sizes heap.space.variables
    → HasPairsAt heap map pairs
    → slice_get heap.words (map + 1) ≡ Some word → reference_in word ≡ None → pairs ≡ []
no_pairs {heap} map word pairs whole within has stands none =
    let read = word_is 1 has.are.store word map has.has has.stands has.are.slot stands in
    elim (table_cases has.are.store pairs has.are.table) [
      | inl empty ↦ empty.1
      | inr to ↦
          let one = found_table has.are.store pairs to.0 has.are.table to.1 in
          absurd (none-some one.cell.at (sym none
          ∙ reference_to word one.cell.at (cell_fits whole.sized within one.refers.has) (read ∙ one.refers.refers)))
    ]

-- so the map has none
pub table_is_none : {heap : Heap} (map word : ℕ) → Whole heap
    → AreWithin heap.space.sizes heap.space.variables → IsWeakCellAt heap map
    → slice_get heap.words (map + 1) ≡ Some word
    → reference_in word ≡ None → IsTableAt heap map (record { at = 0; capacity = 0 })
table_is_none {heap} map word whole within there stands none = record {
  capacity = capacity_read heap map word stands ∙ ap (capacity_by heap) none;
  small = omega arith;
  within = omega (arith, marks_start_is heap.space, within.some_page);
  pairs = λ pairs has.
      let empty : pairs ≡ [] = no_pairs map word pairs whole within has stands none in
      subst (ArePairsIn heap.words (record { at = 0; capacity = 0 })) (sym empty)
      (record {
        long = refl;
        keys = λ place pair there. absurd (none-some pair there);
        values = λ place pair there. absurd (none-some pair there);
      });
  refers = λ pairs has some. absurd (omega (arith, some));
}
