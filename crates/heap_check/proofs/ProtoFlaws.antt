-- What is found of the prototype slot of a plain object.
use Rattle.std.proofs.Common.{◌≡◌, ℕ, ◌+◌, ◌<◌, ◌^◌, List, None, refl, sym, ◌∙◌, ap, subst, arith}
use Rattle.std.proofs.lemmas.Option.{none-some, same_Some}
use Rattle.tagged_word.specs.Cells.{proto_slot}
use Rattle.tagged_word.specs.Readings.{reference_in}
use Rattle.tagged_word.specs.declared.layout.Kind.TheVariants as kind
use Rattle.tagged_word.proofs.Readings.{reference_to}
use Rattle.page_space.specs.Extents.{words_count}
use Rattle.heap_model.specs.Types.{Cell}
use Rattle.heap_model.specs.Heaps.{Heap, HasCell, words_of_cell}
use Rattle.heap_model.specs.Slots.{reference_word, undefined_word}
use Rattle.heap_model.specs.Kinds.{HasWord, IsProtoWord}
use Rattle.heap_model.proofs.WordClasses.{same_reference, undefined_refers_not}
use Rattle.image_walk.specs.Words.{HasWords}
use Rattle.image_walk.proofs.SpanWords.{address_few}
use Rattle.heap_check.specs.declared.flaw.Flaw.{Flaw}
use Rattle.heap_check.specs.Firsts.{IsFirst}
use Rattle.heap_check.specs.Cells.{BreaksProto}
use Rattle.heap_check.specs.PathSlots.{HasProto}
use Rattle.heap_check.proofs.JoinedFinds.{Excludes, first_is}

-- a breach of the prototype slot is at that slot
pub proto_at : (heap : Heap) (cell : Cell) (words : List ℕ) (at found wanted : ℕ)
    → BreaksProto heap cell words at found wanted → at ≡ cell.at + proto_slot
proto_at heap cell words _ _ _ (BreaksProto.proto found there wrong) = refl

-- and there is none where the word there is one of a prototype
pub proto_excludes : (heap : Heap) (cell : Cell) (words : List ℕ)
    → Excludes (BreaksProto heap cell words) (HasProto heap words)
proto_excludes heap cell words _ _ _ (BreaksProto.proto found there wrong) has =
    wrong (subst (IsProtoWord heap) (same_Some has.proto found (sym has.slot ∙ there)) has.is)

-- where the word there is none, it is the first breach
pub first_proto : (heap : Heap) (cell : Cell) (words : List ℕ) (word : ℕ) (flaw : Flaw) → HasWord words proto_slot word
    → (IsProtoWord heap word → ⊥)
    → flaw ≡ record { at = cell.at + proto_slot; found = word; wanted = undefined_word }
    → IsFirst (BreaksProto heap cell words) flaw
first_proto heap cell words word flaw there wrong is =
    first_is (BreaksProto heap cell words) flaw (cell.at + proto_slot) word undefined_word is
    (BreaksProto.proto word there wrong)
    (λ at found wanted breaks. omega (arith, proto_at heap cell words at found wanted breaks))

-- the cell of a plain object at an address
pub record IsPlainAt (heap : Heap) (at : ℕ) : Type 0 where
  pub cell : Cell
  pub words : List ℕ
  pub has : HasCell heap cell words
  pub stands : cell.at ≡ at
  pub of_kind : cell.layout.kind ≡ kind.Plain

-- a prototype's word that refers to an address refers to the cell of a plain object there
pub plain_at : {heap : Heap} (word at : ℕ) → IsProtoWord heap word → word ≡ reference_word at → IsPlainAt heap at
plain_at word at IsProtoWord.none same = absurd (undefined_refers_not at same)
plain_at word at (IsProtoWord.plain to cell words refers is) same = record {
  cell = cell;
  words = words;
  has = refers.has;
  stands = same_reference cell.at at (sym refers.refers ∙ same);
  of_kind = is;
}

-- a reference to the cell of a plain object is a prototype's word
pub proto_from : (heap : Heap) (cell : Cell) (at : ℕ) → HasCell heap cell (words_of_cell heap cell) → cell.at ≡ at
    → cell.layout.kind ≡ kind.Plain → IsProtoWord heap (reference_word at)
proto_from heap cell at has stands is =
    IsProtoWord.plain (reference_word at) cell (words_of_cell heap cell)
    (record { refers = ap reference_word (sym stands); has = has }) is

-- a prototype's word that is no reference is `undefined`
pub proto_undefined : (heap : Heap) (word : ℕ) → HasWords heap → words_count heap.space < 2 ^ 32
    → reference_in word ≡ None → IsProtoWord heap word → word ≡ undefined_word
proto_undefined heap word sized few none IsProtoWord.none = refl
proto_undefined heap word sized few none (IsProtoWord.plain to cell words refers is) =
    absurd (none-some cell.at
    (sym none ∙ reference_to word cell.at (address_few heap cell words sized refers.has few) refers.refers))
