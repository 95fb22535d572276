-- The pairs of a weak map's table by their words: where the value of each stands, and what each slot of the map is.
use Rattle.std.proofs.Common.{◌≡◌, ℕ, zero, suc, ◌+◌, ◌-◌, ◌*◌, ◌<◌, List, [], ◌∷◌, length, drop, Some, slice_get}
use Rattle.std.proofs.Common.{refl, sym, ◌∙◌, ap, subst, arith, length-drop}
use Rattle.std.proofs.lemmas.Option.{none-some, same_Some}
use Rattle.tagged_word.specs.declared.layout.Kind.TheVariants as kind
use Rattle.tagged_word.specs.Cells.{store_head, store_slot}
use Rattle.tagged_word.proofs.Members.{one_in, in_range, range_bounds}
use Rattle.heap_model.specs.Types.{Cell}
use Rattle.heap_model.specs.Heaps.{Heap, HasCell}
use Rattle.heap_model.specs.Slots.{RefersTo}
use Rattle.heap_model.specs.Kinds.{HasWord, Pair, pairs_in, HasTable}
use Rattle.heap_model.specs.Wholeness.{HasSlotAt}
use Rattle.heap_model.proofs.WordClasses.{undefined_refers_not}
use Rattle.heap_model.proofs.CellsApart.{IsOfCell, one_words}
use Rattle.heap_model.proofs.NewKeys.{one_table}
use Rattle.heap_model.proofs.CellWords.{slice_get-drop, words_are_size, words_by_kind, slots_by_kind}
use Rattle.heap_model.proofs.CellWords.{slots_of_kind, behind_head, behind_head_few}
use Rattle.heap_model.proofs.ObjectSlots.{pair_words}
use Rattle.heap_model.proofs.SlotWords.{same_target}
use Rattle.weak_pairs.specs.Pairs.{HasPairs}

-- the pairs are those of the table
pub record IsTableOf (pairs : List Pair) (other : Cell) (others : List ℕ) : Type 0 where
  pub of_kind : other.layout.kind ≡ kind.Table
  pub are : pairs ≡ pairs_in (drop store_head others)

-- the pairs of a table are those of the cell to which its word refers
pub is_table_of : {heap : Heap} {other : Cell} {others : List ℕ} (word : ℕ) (pairs : List Pair)
    → HasTable heap word pairs → RefersTo heap word other others → IsTableOf pairs other others
is_table_of {other = other} word pairs HasTable.none refers = absurd (undefined_refers_not other.at refers.refers)
is_table_of {heap} {other} {others} word pairs (HasTable.table to cell words target of_kind power) refers =
    let same : cell ≡ other = same_target target refers in
    let has : HasCell heap other words = subst (λ (one : Cell). HasCell heap one words) same target.has in
    record {
      of_kind = subst (λ (one : Cell). one.layout.kind ≡ kind.Table) same of_kind;
      are = ap (λ all. pairs_in (drop store_head all)) (one_words has refers.has);
    }

-- the words of a weak map have one list of pairs
pub one_pairs : {heap : Heap} {words : List ℕ} {pairs others : List Pair} → HasPairs heap words pairs
    → HasPairs heap words others → pairs ≡ others
one_pairs {heap} {pairs = pairs} {others} a b =
    let store : b.store ≡ a.store = same_Some b.store a.store (sym b.slot ∙ a.slot) in
    one_table heap a.store pairs others a.table (subst (λ w. HasTable heap w others) store b.table)

-- A word among the words of pairs is the key of a pair or its value.
pub data IsPairWord (pairs : List Pair) (k word : ℕ) : Type 0 where
  as_key : (at : ℕ) (pair : Pair) → slice_get pairs at ≡ Some pair → pair.key ≡ word → IsPairWord pairs k word
  as_value : (at : ℕ) (pair : Pair) → slice_get pairs at ≡ Some pair → pair.value ≡ word → k ≡ suc (2 * at)
      → IsPairWord pairs k word

-- a word of pairs is one behind one pair more too
pair_word_later : (first : Pair) (pairs : List Pair) (k word : ℕ) → IsPairWord pairs k word
    → IsPairWord (first ∷ pairs) (suc (suc k)) word
pair_word_later first pairs k word (IsPairWord.as_key at pair there is) = IsPairWord.as_key (suc at) pair there is
pair_word_later first pairs k word (IsPairWord.as_value at pair there is place) =
    IsPairWord.as_value (suc at) pair there is (omega (arith, place))

-- each word of an even number of them is one of a pair
pub pair_word : (words : List ℕ) (many k word : ℕ) → length words ≡ 2 * many → HasWord words k word
    → IsPairWord (pairs_in words) k word
pair_word [] many k word long there = absurd (none-some word there)
pair_word (first ∷ []) many k word long there = absurd (omega (arith, long))
pair_word (first ∷ second ∷ words) many zero word long there =
    IsPairWord.as_key 0 (record { key = first; value = second }) refl (same_Some first word there)
pair_word (first ∷ second ∷ words) many (suc zero) word long there =
    IsPairWord.as_value 0 (record { key = first; value = second }) refl (same_Some second word there) (omega arith)
pair_word (first ∷ second ∷ words) zero (suc (suc k)) word long there = absurd (omega (arith, long))
pair_word (first ∷ second ∷ words) (suc many) (suc (suc k)) word long there =
    pair_word_later (record { key = first; value = second }) (pairs_in words) k word
    (pair_word words many k word (omega (arith, long)) there)

-- a table has as many words behind its head as twice its pairs
pub table_words : {heap : Heap} {other : Cell} {others : List ℕ} → HasCell heap other others
    → other.layout.kind ≡ kind.Table → length (drop store_head others) ≡ 2 * other.length
table_words {others = others} has table =
    omega (arith, length-drop store_head others, words_by_kind kind.Table has table)

-- the value of the pair with this number stands at the address
pub record IsValueAt (heap : Heap) (words : List ℕ) (at place : ℕ) : Type 0 where
  pub store : ℕ
  pub slot : HasWord words store_slot store
  pub other : Cell
  pub others : List ℕ
  pub refers : RefersTo heap store other others
  pub is : place ≡ other.at + (store_head + suc (2 * at))

-- both are of one table
one_table_at : {heap : Heap} {words : List ℕ} {at other place another : ℕ} (a : IsValueAt heap words at place)
    (b : IsValueAt heap words other another) → a.other ≡ b.other
one_table_at {heap} a b =
    let one : a.store ≡ b.store = same_Some a.store b.store (sym a.slot ∙ b.slot) in
    same_target (subst (λ w. RefersTo heap w a.other a.others) one a.refers) b.refers

-- one value stands at one address
pub one_place : {heap : Heap} {words : List ℕ} (at place other : ℕ) → IsValueAt heap words at place
    → IsValueAt heap words at other → place ≡ other
one_place at place other a b = omega (arith, a.is, b.is, ap (λ (c : Cell). c.at) (one_table_at a b))

-- at one address stands one value
pub one_value : {heap : Heap} {words : List ℕ} (at other place : ℕ) → IsValueAt heap words at place
    → IsValueAt heap words other place → at ≡ other
one_value at other place a b = omega (arith, a.is, b.is, ap (λ (c : Cell). c.at) (one_table_at a b))

-- the slot of a pair's value
pub record ValueSlot (heap : Heap) (cell : Cell) (words : List ℕ) (at word : ℕ) : Type 0 where
  pub place : ℕ
  pub stands : IsValueAt heap words at place
  pub slot : HasSlotAt heap cell words place word
  pub of_kind : stands.other.layout.kind ≡ kind.Table
  pub of_table : IsOfCell stands.other place

-- each pair of a table has one
value_in : {heap : Heap} {cell : Cell} {words : List ℕ} {pairs : List Pair} (store at : ℕ) (pair : Pair)
    → HasWord words store_slot store → HasTable heap store pairs → slice_get pairs at ≡ Some pair
    → ValueSlot heap cell words at pair.value
value_in store at pair slot HasTable.none there = absurd (none-some pair there)
value_in store at pair slot (HasTable.table to other others refers of_kind power) there =
    let k : ℕ = suc (2 * at) in
    let many : ℕ = 2 * other.length in
    let value = (pair_words (drop store_head others) at (2 * at) pair refl there).1 in
    let few : k < many = behind_head_few others k many pair.value (words_by_kind kind.Table refers.has of_kind) value in
    let among = in_range store_head many (store_head + k) (omega arith) (omega (arith, few)) in
    record {
      place = other.at + (store_head + k);
      stands = record { store = store; slot = slot; other = other; others = others; refers = refers; is = refl };
      slot = HasSlotAt.beside store other others (store_head + k) pair.value slot refers
          (slots_by_kind other kind.Table (store_head + k) of_kind among) (behind_head others k pair.value value);
      of_kind = of_kind;
      of_table = record {
        from = omega arith;
        below = omega (arith, few, words_by_kind kind.Table refers.has of_kind, words_are_size refers.has);
      };
    }

-- each pair of a weak map has one
pub value_slot_at : {heap : Heap} {cell : Cell} {words : List ℕ} {pairs : List Pair} (at : ℕ) (pair : Pair)
    → HasPairs heap words pairs → slice_get pairs at ≡ Some pair → ValueSlot heap cell words at pair.value
value_slot_at at pair are there = value_in are.store at pair are.slot are.table there

-- A slot of a weak map is that of its table, or the key or the value of a pair.
pub data WeakSlot (heap : Heap) (cell : Cell) (words : List ℕ) (pairs : List Pair) (slot word : ℕ) : Type 0 where
  of_table : slot ≡ cell.at + store_slot → HasWord words store_slot word → WeakSlot heap cell words pairs slot word
  of_key : (at : ℕ) (pair : Pair) → slice_get pairs at ≡ Some pair → pair.key ≡ word
      → WeakSlot heap cell words pairs slot word
  of_value : (at : ℕ) (pair : Pair) → slice_get pairs at ≡ Some pair → pair.value ≡ word
      → IsValueAt heap words at slot
      → WeakSlot heap cell words pairs slot word

-- a word of a table is one of a pair, at its address
in_table : {heap : Heap} {cell other : Cell} {words others : List ℕ} {pairs : List Pair} (store k word slot : ℕ)
    → HasWord words store_slot store → RefersTo heap store other others → slot ≡ other.at + (store_head + k)
    → IsPairWord pairs k word → WeakSlot heap cell words pairs slot word
in_table store k word slot at_store refers is (IsPairWord.as_key at pair there same) =
    WeakSlot.of_key at pair there same
in_table {other = other} {others = others} store k word slot at_store refers is
    (IsPairWord.as_value at pair there same place) =
    WeakSlot.of_value at pair there same
    (record {
      store = store;
      slot = at_store;
      other = other;
      others = others;
      refers = refers;
      is = is ∙ ap (λ n. other.at + (store_head + n)) place;
    })

-- each slot of a weak map is one of these
pub weak_slot : {heap : Heap} {cell : Cell} {words : List ℕ} {pairs : List Pair} {slot word : ℕ}
    → HasCell heap cell words → cell.layout.kind ≡ kind.Weak → HasPairs heap words pairs
    → HasSlotAt heap cell words slot word
    → WeakSlot heap cell words pairs slot word
weak_slot {cell = cell} {words} has weak are (HasSlotAt.own offset word there stands) =
    let same : store_slot ≡ offset = one_in store_slot offset (slots_of_kind cell kind.Weak offset weak there) in
    WeakSlot.of_table (ap (λ n. cell.at + n) (sym same)) (subst (λ n. HasWord words n word) (sym same) stands)
weak_slot {heap} {cell} {words} {pairs} has weak are
    (HasSlotAt.beside store other others offset word at_store refers there stands) =
    let same : are.store ≡ store = same_Some are.store store (sym are.slot ∙ at_store) in
    let is = is_table_of store pairs (subst (λ w. HasTable heap w pairs) same are.table) refers in
    let bounds =
    range_bounds store_head (2 * other.length) offset (slots_of_kind other kind.Table offset is.of_kind there) in
    let k : ℕ = offset - store_head in
    let here : store_head + k ≡ offset = omega (arith, bounds.0) in
    let in_words : HasWord (drop store_head others) k word = slice_get-drop store_head others k offset here ∙ stands in
    let found = pair_word (drop store_head others) other.length k word (table_words refers.has is.of_kind) in_words in
    in_table store k word (other.at + offset) at_store refers (ap (λ n. other.at + n) (sym here))
    (subst (λ all. IsPairWord all k word) (sym is.are) found)
