-- The pairs of weak tables, by their words, and the table to which a word refers.
use Rattle.std.proofs.Common.{◌≡◌, ℕ, zero, suc, ◌-◌, ◌*◌, ◌/◌, ◌⊎◌, inl, inr, List, [], ◌∷◌}
use Rattle.std.proofs.Common.{length, drop, Some, slice_get, refl, sym, ◌∙◌, ap, subst, arith, length-drop}
use Rattle.std.proofs.lemmas.Option.{none-some, same_Some}
use Rattle.tagged_word.specs.declared.layout.Kind.TheVariants as kind
use Rattle.tagged_word.specs.Cells.{store_head}
use Rattle.heap_model.specs.Types.{Cell}
use Rattle.heap_model.specs.Heaps.{Heap, words_of_cell}
use Rattle.heap_model.specs.Slots.{undefined_word, RefersTo}
use Rattle.heap_model.specs.Kinds.{Pair, pairs_in, IsPowerOfTwo, HasTable, HasWord}
use Rattle.heap_model.proofs.CellWords.{words_by_kind}
use Rattle.heap_model.proofs.WordClasses.{undefined_refers_not}
use Rattle.heap_model.proofs.NewKeys.{one_table}
use Rattle.heap_model.proofs.PairLists.{length-pairs_in}
use Rattle.image_walk.specs.declared.spans.Span.{Span}
use Rattle.image_walk.specs.Spans.{span_words, IsSpan, SpansStore}
use Rattle.image_walk.specs.TablePairs.{table_pairs, IsTableAs}
use Rattle.image_walk.proofs.SpanWords.{length-span}
use Rattle.image_walk.proofs.StoreSlots.{HasStoreSlots, beside_is, target_stands}

-- so it is of a table
pub length-table_pairs : (heap : Heap) (table : Span) → IsSpan heap table
    → length (table_pairs heap table) ≡ (table.end - table.from) / 2
length-table_pairs heap table is =
    omega (arith, length-pairs_in (span_words heap table), length-span heap table is)

-- two words one behind the other make a pair
pub pair_of_words : (words : List ℕ) (at place key value : ℕ) → place ≡ 2 * at → slice_get words place ≡ Some key
    → slice_get words (suc place) ≡ Some value
    → slice_get (pairs_in words) at ≡ Some (record { key = key; value = value })
pair_of_words [] at place key value is first second = absurd (none-some key first)
pair_of_words (one ∷ []) at zero key value is first second = absurd (none-some value second)
pair_of_words (one ∷ []) at (suc place) key value is first second = absurd (none-some key first)
pair_of_words (one ∷ two ∷ words) zero zero key value is first second =
    let same_key : one ≡ key = same_Some one key first in
    let same_value : two ≡ value = same_Some two value second in
    ap (λ k. Some (record { key = k; value = two })) same_key
    ∙ ap (λ v. Some (record { key = key; value = v })) same_value
pair_of_words (one ∷ two ∷ words) zero (suc place) key value is first second = absurd (omega arith)
pair_of_words (one ∷ two ∷ words) (suc at) zero key value is first second = absurd (omega arith)
pair_of_words (one ∷ two ∷ words) (suc at) (suc zero) key value is first second = absurd (omega arith)
pair_of_words (one ∷ two ∷ words) (suc at) (suc (suc place)) key value is first second =
    pair_of_words words at place key value (omega arith) first second

-- What a word says of a weak table: there is none, or its pairs are those of a table of a power of two.
pub data HasTablePairs (heap : Heap) (word : ℕ) (pairs : List Pair) : Type 0 where
  no_table : word ≡ undefined_word → pairs ≡ [] → HasTablePairs heap word pairs
  to_table : (cell : Cell) → RefersTo heap word cell (words_of_cell heap cell) → cell.layout.kind ≡ kind.Table
      → IsPowerOfTwo cell.length → pairs ≡ pairs_in (drop store_head (words_of_cell heap cell))
      → HasTablePairs heap word pairs

-- the table of a weak map is such
pub table_is : {heap : Heap} {word : ℕ} {pairs : List Pair} → HasTable heap word pairs → HasTablePairs heap word pairs
table_is HasTable.none = HasTablePairs.no_table refl refl
table_is (HasTable.table to cell words refers is power) =
    HasTablePairs.to_table cell (target_stands refers) is power
    (ap (λ all. pairs_in (drop store_head all)) (sym refers.has.words_are))

-- a table of a span has half as many pairs as the span has words
pub table_capacity : (heap : Heap) (word : ℕ) (cell : Cell) (table : Span)
    → RefersTo heap word cell (words_of_cell heap cell)
    → cell.layout.kind ≡ kind.Table → IsSpan heap table
    → span_words heap table ≡ drop store_head (words_of_cell heap cell) → cell.length ≡ (table.end - table.from) / 2
table_capacity heap word cell table refers is there are =
    omega (
      arith,
      length-span heap table there,
      ap length are,
      length-drop store_head (words_of_cell heap cell),
      words_by_kind kind.Table refers.has is,
    )

-- the pairs of a span of slots are those of a table, if there is none or its capacity is a power of two
pub table_from : (heap : Heap) (word : ℕ) (table : Span) → SpansStore heap kind.Table word table
    → (word ≡ undefined_word) ⊎ IsPowerOfTwo ((table.end - table.from) / 2)
    → HasTable heap word (table_pairs heap table)
table_from heap word table beside power = elim (beside_is beside.beside) [
  | HasStoreSlots.none undefined are ↦
      let pairs : table_pairs heap table ≡ [] = ap pairs_in are in
      subst (λ w. HasTable heap w (table_pairs heap table)) (sym undefined)
      (subst (HasTable heap undefined_word) (sym pairs) HasTable.none)
  | HasStoreSlots.store cell refers is are ↦ elim power [
    | inl undefined ↦ absurd (undefined_refers_not cell.at (sym undefined ∙ refers.refers))
    | inr some ↦
        let same = table_capacity heap word cell table refers is beside.is are in
        subst (HasTable heap word) (sym (ap pairs_in are))
        (HasTable.table word cell (words_of_cell heap cell) refers is (subst IsPowerOfTwo (sym same) some))
  ]
]

-- the pairs of the table that a slot of words names are those of the span that was found for it
pub table_is_span : {heap : Heap} {pairs : List Pair} (words : List ℕ) (offset store other : ℕ) (table : Span)
    → HasWord words offset store → HasWord words offset other → IsTableAs heap store table → HasTable heap other pairs
    → pairs ≡ table_pairs heap table
table_is_span {heap} {pairs} words offset store other table slot slot_too has stands =
    let same : other ≡ store = same_Some _ _ (sym slot_too ∙ slot) in
    one_table heap store pairs (table_pairs heap table) (subst (λ w. HasTable heap w pairs) same stands) has.has
