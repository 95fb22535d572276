-- What a word refers to, moved: boxes, stores and tables.
use Rattle.std.proofs.Common.{◌≡◌, ℕ, suc, ◌+◌, ◌*◌, ◌<◌, List, [], length, drop, Option, Some, Contains, slice_get, ℤ}
use Rattle.std.proofs.Common.{refl, sym, ◌∙◌, subst, arith, length-drop}
use Rattle.std.specs.List.{range_with_len}
use Rattle.std.proofs.lemmas.Option.{none-some}
use Rattle.heap_model.specs.Types.{Kind, Cell}
use Rattle.tagged_word.specs.declared.layout.Kind.TheVariants as kind
use Rattle.tagged_word.specs.Cells.{words_of, scavenge_offsets_of, store_head}
use Rattle.tagged_word.proofs.Members.{in_range}
use Rattle.heap_model.specs.Heaps.{Heap, HasCell}
use Rattle.heap_model.specs.Slots.{undefined_word, RefersTo, RefersToBox, HoldsStore}
use Rattle.heap_model.specs.Kinds.{HasWord, Pair, pairs_in, HasTable}
use Rattle.heap_model.proofs.WordClasses.{undefined_refers_not}
use Rattle.heap_model.proofs.CellWords.{words_by_kind, slots_by_kind, slots_of_kind, behind_head, behind_head_few}
use Rattle.heap_model.proofs.ObjectSlots.{pair_words}
use Rattle.heap_model.proofs.PairLists.{length-pairs_in}
use Rattle.heap_moves.specs.Moved.{IsMovedWord, AreMoved, moved_to, IsMoved}
use Rattle.heap_moves.proofs.MovedWords.{referred, not_referred}

-- as many words, each of which is moved
pub record AreAllMoved (to : ℕ → Option ℕ) (words others : List ℕ) : Type 0 where
  pub long : length others ≡ length words
  pub each : (k word now : ℕ) → HasWord words k word → HasWord others k now → IsMovedWord to word now

-- as many pairs, of each of which both words are moved
pub record ArePairsMoved (to : ℕ → Option ℕ) (pairs others : List Pair) : Type 0 where
  pub long : length others ≡ length pairs
  pub each : (k : ℕ) (pair now : Pair) → slice_get pairs k ≡ Some pair → slice_get others k ≡ Some now
      → IsMovedWord to pair.key now.key × IsMovedWord to pair.value now.value

-- no words are moved
no_words : {to : ℕ → Option ℕ} → AreAllMoved to [] []
no_words = record { long = refl; each = λ k word now there. absurd (none-some word there) }

-- pairs of words that are moved are moved
pub pairs_moved : {to : ℕ → Option ℕ} (words others : List ℕ) → AreAllMoved to words others
    → ArePairsMoved to (pairs_in words) (pairs_in others)
pairs_moved words others moved = record {
  long = omega (arith, length-pairs_in words, length-pairs_in others, moved.long);
  each = λ k pair now there there_too.
      let was = pair_words words k (2 * k) pair refl there in
      let is = pair_words others k (2 * k) now refl there_too in (
        moved.each (2 * k) pair.key now.key was.0 is.0,
        moved.each (suc (2 * k)) pair.value now.value was.1 is.1,
      );
}

-- the slots of a store or a table are moved
pub slots_moved : {heap : Heap} {to : ℕ → Option ℕ} {cell : Cell} {words others : List ℕ} (of : Kind) (many : ℕ)
    → HasCell heap cell words → cell.layout.kind ≡ of
    → words_of of cell.layout.cap cell.length ≡ store_head + many
    → scavenge_offsets_of of cell.layout cell.length ≡ range_with_len store_head many
    → AreMoved to cell words others → AreAllMoved to (drop store_head words) (drop store_head others)
slots_moved {cell = cell} {words} {others} of many has of_kind sized run are = record {
  long = omega (arith, length-drop store_head words, length-drop store_head others, are.long);
  each = λ k word now there there_too.
      let few : k < many = behind_head_few words k many word (words_by_kind of has of_kind ∙ sized) there in
      let offset : ℕ = store_head + k in
      let within : Contains (range_with_len store_head many) offset =
      in_range store_head many offset (omega arith) (omega arith) in
      let slot = slots_by_kind cell of offset of_kind (subst (λ offsets. Contains offsets offset) (sym run) within) in
      are.slots offset word now slot (behind_head words k word there) (behind_head others k now there_too);
}

-- where what a word referred to stands, and where it refers to now
pub record IsTarget (new : Heap) (to : ℕ → Option ℕ) (cell : Cell) (words : List ℕ) (word : ℕ) : Type 0 where
  pub now : ℕ
  pub others : List ℕ
  pub refers : RefersTo new word (moved_to cell now) others
  pub are : AreMoved to cell words others
  pub stays : to cell.at ≡ Some now

-- the slots of a store after they were moved
pub record MovedBeside (new : Heap) (to : ℕ → Option ℕ) (word : ℕ) (slots : List ℕ) : Type 0 where
  pub others : List ℕ
  pub stands : HoldsStore new kind.Store word others
  pub are : AreAllMoved to slots others

-- the pairs of a table after they were moved
pub record MovedTable (new : Heap) (to : ℕ → Option ℕ) (word : ℕ) (pairs : List Pair) : Type 0 where
  pub others : List Pair
  pub stands : HasTable new word others
  pub are : ArePairsMoved to pairs others

module _ {old new : Heap} {to : ℕ → Option ℕ} (moved : IsMoved old new to) where
  -- a cell to which a word that is moved refers stays, and the word refers to where it stands
  pub target : {word now : ℕ} {cell : Cell} {words : List ℕ} → IsMovedWord to word now → RefersTo old word cell words
      → IsTarget new to cell words now
  target {cell = cell} {words} moved_word refers =
      let there = referred cell.at moved_word refers.refers in
      let stood = moved.stands cell words there.now refers.has there.stays in
      record {
        now = there.now;
        others = stood.others;
        refers = record { refers = there.refers; has = stood.has };
        are = stood.are;
        stays = there.stays;
      }

  -- a box is moved with its integer
  pub box_moved : {word now : ℕ} {v : ℤ} → IsMovedWord to word now → RefersToBox old word v → RefersToBox new now v
  box_moved moved_word box =
      let there = target moved_word box.target in
      record {
        cell = moved_to box.cell there.now;
        words = there.others;
        target = there.refers;
        box = box.box;
        holds = there.are.raw 1 (λ slot.
            let none = slots_of_kind box.cell kind.Boxed 1 box.box slot in omega (arith, none.1)) ∙ box.holds;
        fits = box.fits;
      }

  -- `undefined` is as it was
  undefined_stays : {now : ℕ} → IsMovedWord to undefined_word now → now ≡ undefined_word
  undefined_stays moved_word = not_referred moved_word undefined_refers_not

  -- what stands beside an object is moved
  pub beside_moved : {word now : ℕ} {slots : List ℕ} → IsMovedWord to word now → HoldsStore old kind.Store word slots
      → MovedBeside new to now slots
  beside_moved moved_word HoldsStore.none = record {
    others = [];
    stands = subst (λ n. HoldsStore new kind.Store n []) (sym (undefined_stays moved_word)) HoldsStore.none;
    are = no_words;
  }
  beside_moved {now = now} moved_word (HoldsStore.store word cell words refers is) =
      let there = target moved_word refers in
      record {
        others = drop store_head there.others;
        stands = HoldsStore.store now (moved_to cell there.now) there.others there.refers is;
        are = slots_moved kind.Store cell.length refers.has is refl refl there.are;
      }

  -- the table of a weak map is moved
  pub table_moved : {word now : ℕ} {pairs : List Pair} → IsMovedWord to word now → HasTable old word pairs
      → MovedTable new to now pairs
  table_moved moved_word HasTable.none = record {
    others = [];
    stands = subst (λ n. HasTable new n []) (sym (undefined_stays moved_word)) HasTable.none;
    are = pairs_moved [] [] no_words;
  }
  table_moved {now = now} moved_word (HasTable.table word cell words refers is power) =
      let there = target moved_word refers in
      record {
        others = pairs_in (drop store_head there.others);
        stands = HasTable.table now (moved_to cell there.now) there.others there.refers is power;
        are = pairs_moved (drop store_head words) (drop store_head there.others)
            (slots_moved kind.Table (2 * cell.length) refers.has is refl refl there.are);
      }
