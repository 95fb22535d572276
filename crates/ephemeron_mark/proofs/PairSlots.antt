-- The pairs of a table by the addresses of their words.
use Rattle.std.proofs.Common.{◌≡◌, ℕ, suc, ◌+◌, ◌*◌, ◌<◌, ◌≤◌, ◌^◌, List, Some, Contains, slice_get, length}
use Rattle.std.proofs.Common.{drop, get_or, refl, sym, ◌∙◌, ap, subst, arith, length-drop}
use Rattle.std.proofs.lemmas.Option.{same_Some, slice_get-get_or}
use Rattle.tagged_word.specs.declared.layout.Kind.TheVariants as kind
use Rattle.tagged_word.specs.Cells.{store_head}
use Rattle.page_space.specs.Extents.{roots_start, marks_start}
use Rattle.page_space.proofs.LawsHold.{kinds_by_number}
use Rattle.heap_model.specs.Types.{Cell}
use Rattle.heap_model.specs.Heaps.{Heap, HasCell}
use Rattle.heap_model.specs.Slots.{reference_word}
use Rattle.heap_model.specs.Kinds.{Pair, pairs_in, free_pair}
use Rattle.heap_model.specs.Wholeness.{Whole}
use Rattle.heap_model.proofs.CellsApart.{one_at, used_few}
use Rattle.heap_model.proofs.CellWords.{words_are_size, words_by_kind, behind_head, behind_head_few}
use Rattle.heap_model.proofs.ObjectSlots.{pair_words}
use Rattle.heap_model.proofs.WordsAlike.{cell_below_roots}
use Rattle.heap_model.proofs.PairLists.{length-pairs_in}
use Rattle.live_cells.specs.Live.{HasEntry}
use Rattle.heap_walk.proofs.SlotTargets.{word_found}
use Rattle.cell_list.specs.Listing.{Listing}
use Rattle.ephemeron_mark.specs.Progress.{HoldsReference, IsMarkedPair}
use Rattle.ephemeron_mark.proofs.CellSlots.{word_read}

-- where the key of a pair stands, by the place of the pair
abbrev pub key_at : Cell → ℕ → ℕ
key_at cell place = cell.at + (store_head + 2 * place)

-- where its value stands
abbrev pub value_at : Cell → ℕ → ℕ
value_at cell place = cell.at + (store_head + (2 * place + 1))

-- the key and the value of a pair of the table at a place refer to these
pub record IsPairAt (heap : Heap) (cell : Cell) (place key value : ℕ) : Type 0 where
  pub below : place < cell.length
  pub refers : HoldsReference heap (key_at cell place) key
  pub value_refers : HoldsReference heap (value_at cell place) value

module _ {heap : Heap} {cell : Cell} {words : List ℕ} (has : HasCell heap cell words)
    (of_kind : cell.layout.kind ≡ kind.Table) where
  -- a table has two words for each pair
  table_long : length words ≡ store_head + 2 * cell.length
  table_long = words_by_kind kind.Table has of_kind

  -- so the words of a pair are in the table
  value_within : (place : ℕ) → place < cell.length → store_head + (2 * place + 1) < cell.size
  value_within place below = omega (arith, below, table_long, words_are_size has)

  -- and all words of pairs stand before the roots
  pairs_below : Whole heap → cell.at + (store_head + 2 * cell.length) ≤ roots_start heap.space
  pairs_below whole =
      omega (arith, table_long, words_are_size has, cell_below_roots (used_few whole.rows) has)

  -- so their addresses have 32 bits, where those before the marks have
  pub pairs_fit : Whole heap → marks_start heap.space < 2 ^ 32
      → cell.at + (store_head + 2 * cell.length) < 2 ^ 32
  pairs_fit whole fit =
      let kinds = kinds_by_number heap.space in
      omega (arith, pairs_below whole, fit, kinds.layouts, kinds.marks)

  -- the words of a pair make an entry, where both refer to cells
  entry_of_words : (place key value : ℕ) → IsPairAt heap cell place key value → HasEntry heap cell.at key value
  entry_of_words place key value at =
      let behind = drop store_head words in
      let pairs = pairs_in behind in
      let few : place < length pairs =
      omega (arith, at.below, table_long, length-drop store_head words, length-pairs_in behind) in
      let pair : Pair = get_or pairs place free_pair in
      let among = slice_get-get_or pairs place free_pair few in
      let there = pair_words behind place (2 * place) pair refl among in
      let within = value_within place at.below in
      let of_key = word_read has (store_head + 2 * place) (reference_word key) (omega (arith, within)) at.refers in
      let of_value = word_read has (store_head + (2 * place + 1)) (reference_word value) within at.value_refers in
      let next : store_head + suc (2 * place) ≡ store_head + (2 * place + 1) = omega arith in
      record {
        cell = cell;
        words = words;
        has = has;
        stands = refl;
        of_kind = of_kind;
        place = place;
        pair = pair;
        among = among;
        key_is = same_Some _ _ (sym (behind_head words (2 * place) pair.key there.0) ∙ of_key);
        value_is = same_Some _ _
            (sym (behind_head words (suc (2 * place)) pair.value there.1) ∙ ap (slice_get words) next ∙ of_value);
      }

  -- so a pair of a marked table is one
  pub pair_of_table : (cells : Listing) (place of_key : ℕ) → Whole heap → Contains cells.addresses cell.at
      → place < cell.length → of_key ≡ key_at cell place → IsMarkedPair heap cells of_key (of_key + 1)
  pair_of_table cells place of_key whole marked below is =
      let next : of_key + 1 ≡ value_at cell place = omega (arith, is) in
      record {
        table = cell.at;
        marked = marked;
        within = omega (arith, is, below, pairs_below whole);
        next = refl;
        entry = λ key value refers value_refers.
            entry_of_words place key value
            (record {
              below = below;
              refers = subst (λ (one : ℕ). HoldsReference heap one key) is refers;
              value_refers = subst (λ (one : ℕ). HoldsReference heap one value) next value_refers;
            });
      }

  -- and each entry of the table stands at a place
  pub entry_at : (key value : ℕ) (entry : HasEntry heap cell.at key value) → IsPairAt heap cell entry.place key value
  entry_at key value entry =
      let same : entry.cell ≡ cell = one_at entry.has has entry.stands in
      let own : HasCell heap cell entry.words = subst (λ (one : Cell). HasCell heap one entry.words) same entry.has in
      let behind = drop store_head entry.words in
      let place : ℕ = entry.place in
      let there = pair_words behind place (2 * place) entry.pair refl entry.among in
      let long = words_by_kind kind.Table own of_kind in
      let few = behind_head_few entry.words (2 * place) (2 * cell.length) entry.pair.key long there.0 in
      let below : place < cell.length = omega (arith, few) in
      let within = value_within place below in
      let next : store_head + suc (2 * place) ≡ store_head + (2 * place + 1) = omega arith in
      record {
        below = below;
        refers = word_found (store_head + 2 * place) (reference_word key) own (omega (arith, within))
            (behind_head entry.words (2 * place) entry.pair.key there.0
            ∙ ap (λ (one : ℕ). Some one) entry.key_is);
        value_refers = word_found (store_head + (2 * place + 1)) (reference_word value) own within
            (ap (slice_get entry.words) (sym next)
            ∙ behind_head entry.words (suc (2 * place)) entry.pair.value there.1
            ∙ ap (λ (one : ℕ). Some one) entry.value_is);
      }
