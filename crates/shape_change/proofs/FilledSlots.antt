-- A slot of a plain object was filled: a word was put in it, or the integer in the box to which it refers.
use Rattle.std.proofs.Common.{◌≡◌, ℕ, ◌+◌, inl, inr, List, [], ◌∷◌, Contains, slice_get, nat_lt}
use Rattle.std.proofs.Common.{sym, ◌∙◌, ap, subst, arith}
use Rattle.std.specs.Prelude.{ℤ, FitsSigned}
use Rattle.std.specs.Int.{w64}
use Rattle.std.proofs.lemmas.Option.{same_Some}
use Rattle.std.proofs.lemmas.List.Elements.{Contains-append_cases, Contains-append_left}
use Rattle.heap_model.specs.Types.{Kind, Field, Cell}
use Rattle.tagged_word.specs.declared.layout.Kind.TheVariants as kind
use Rattle.tagged_word.proofs.Members.{one_in, first_in, rest_in}
use Rattle.heap_model.specs.Heaps.{Heap, HasCell, words_of_cell}
use Rattle.heap_model.specs.Slots.{raw_word, RefersTo, RefersToBox}
use Rattle.heap_model.specs.Kinds.{HasWord, HasNoNumber, IsBoxCell, IsSoundOf}
use Rattle.heap_model.specs.Wholeness.{NamesFrom}
use Rattle.heap_model.specs.Showing.{ShowsField}
use Rattle.heap_model.proofs.BoundHeaps.{none_in}
use Rattle.object_cells.specs.CellWrites.{reshaped}
use Rattle.object_cells.specs.OwnSlots.{ComesFrom}
use Rattle.object_cells.specs.SlotChanges.{IsTaggedSlot, HasTagged}
use Rattle.object_cells.proofs.NumberedSlots.{IsNumbered, one_address, one_number}
use Rattle.object_cells.proofs.SlotsNow.{PutsOwn, slot_now, word_at_offset}
use Rattle.object_cells.proofs.OwnPlaces.{IsSlotPlace, plain_is_object, box_size, names_box, no_other_names_box}
use Rattle.object_cells.proofs.OwnPlaces.{slot_not_in_box}
use Rattle.object_cells.proofs.OneField.{SetsOne, FillsOne}

-- these are boxes
abbrev pub AreBoxes : Heap → List Cell → Type 0
AreBoxes heap cells =
    (cell : Cell) → Contains cells cell → (cell.layout.kind ≡ kind.Boxed) × IsBoxCell cell (words_of_cell heap cell)

-- no store is a box
store_is_no_box : {k : Kind} → k ≡ kind.Store → k ≡ kind.Boxed → ⊥
store_is_no_box store box =
    let apart : kind.Store ≡ kind.Boxed = sym store ∙ box in
    cc

-- the slot holds the word that was put at its address
holds_put : {old new : Heap} {cell : Cell} {shape at word slot : ℕ} {others made : List Cell} {before : List Field}
    {field : Field} (holds : ℕ) (sets : SetsOne old new cell shape at word slot others made before field)
    → IsNumbered old cell (words_of_cell old cell) slot at → HasWord sets.after.now slot holds → word ≡ holds
holds_put {new = new} {at = at} {word} {slot} holds sets numbered there =
    let now = slot_now slot holds sets.puts sets.shown.has sets.after.are there in
    let same : now.a ≡ at = one_address slot now.a at now.numbered numbered in
    same_Some word holds (sym sets.puts.one.put ∙ ap (slice_get new.words) (sym same) ∙ now.stands)

-- where a word was put in the slot, all is there that is owed
pub fills_slot : {old new : Heap} {cell : Cell} {shape at word slot : ℕ} {others made : List Cell} {before : List Field}
    {field : Field} (sets : SetsOne old new cell shape at word slot others made before field)
    → IsNumbered old cell (words_of_cell old cell) slot at → IsSlotPlace old cell sets.shown.has.store at others
    → AreBoxes new made
    → (IsTaggedSlot (reshaped new.paths cell shape) slot
    → ComesFrom new (HasTagged cell sets.shown.slots) made slot slot slot word)
    → ShowsField new (nat_lt slot cell.layout.cap) word field.rep field.value → FillsOne sets
fills_slot {old} {new} {cell} {shape} {at} {word} {slot} {others} {made} {field = field} sets numbered place boxes
    comes shows =
    record {
      apart = λ k a is apart same. apart (one_number k slot at sets.puts.whole.rows sets.puts.has
          (plain_is_object sets.puts.plain)
          (subst (IsNumbered old cell (words_of_cell old cell) k) same is) numbered);
      no_box = λ k holds apart there tagged other among box.
          absurd (store_is_no_box (place.stores other among).of_kind box);
      comes = λ holds there tagged. subst (ComesFrom new (HasTagged cell sets.shown.slots) made slot slot slot)
          (holds_put holds sets numbered there) (comes tagged);
      shows = λ holds there. subst (λ w. ShowsField new (nat_lt slot cell.layout.cap) w field.rep field.value)
          (holds_put holds sets numbered there) shows;
      belong = λ other among. (cell.at + 1, (place.stores other among).named);
      kinds = λ other among. inr (boxes other among).0;
      stores = λ other among store. elim (Contains-append_cases others made other among) [
        | inl beside ↦ ((place.stores other beside).no_number, (place.stores other beside).refers)
        | inr is_made ↦ absurd (store_is_no_box store (boxes other is_made).0)
      ];
      boxes = λ other among box. elim (Contains-append_cases others made other among) [
        | inl beside ↦ absurd (store_is_no_box (place.stores other beside).of_kind box)
        | inr is_made ↦ (boxes other is_made).1
      ];
    }

-- The slot referred to the box before, and still does.
pub record RefersToOld (old : Heap) (cell : Cell) (slots : List ℕ) (slot : ℕ) (box : Cell) : Type 0 where
  pub word : ℕ
  pub holds : HasWord slots slot word
  pub tagged : IsTaggedSlot cell slot
  pub words : List ℕ
  pub refers : RefersTo old word box words
  pub of_kind : box.layout.kind ≡ kind.Boxed

-- a box that was written stands in the new heap, and holds the integer
box_now : {old new : Heap} {cell box : Cell} {shape : ℕ} (v : ℤ)
    → PutsOwn old new cell shape (box.at + 1) (raw_word v) (box ∷ []) []
    → box.layout.kind ≡ kind.Boxed → HasCell new box (words_of_cell new box)
    × HasWord (words_of_cell new box) 1 (raw_word v)
box_now {new = new} {cell} {box} {shape} v puts of_kind =
    let one : Cell = reshaped new.paths cell shape in
    let has = puts.cells.comes box (Contains-append_left (one ∷ box ∷ []) [] box
    (rest_in one (box ∷ []) box (first_in box []))) in
    (has, word_at_offset 1 has (omega (arith, box_size has of_kind)) ∙ puts.one.put)

-- where the integer was put into the box to which the slot refers, all is there that is owed
pub fills_box : {old new : Heap} {cell box : Cell} {shape slot : ℕ} {before : List Field} {field : Field} (v : ℤ)
    (sets : SetsOne old new cell shape (box.at + 1) (raw_word v) slot (box ∷ []) [] before field)
    → RefersToOld old cell sets.shown.slots slot box → FitsSigned w64 v
    → ((word : ℕ) → RefersToBox new word v → ShowsField new (nat_lt slot cell.layout.cap) word field.rep field.value)
    → FillsOne sets
fills_box {old} {new} {cell} {box} {shape} {slot} {field = field} v sets to_box fits shows =
    let puts = sets.puts in
    let has_box = to_box.refers.has in
    let now = box_now v puts to_box.of_kind in
    let kept = λ (holds : ℕ) (there : HasWord sets.after.now slot holds).
    let slot_is = slot_now slot holds puts sets.shown.has sets.after.are there in
    slot_is.kept (slot_not_in_box slot slot_is.a puts.whole puts.has (plain_is_object puts.plain) has_box
    to_box.of_kind slot_is.numbered) in
    record {
      apart = λ k a is apart. slot_not_in_box k a puts.whole puts.has (plain_is_object puts.plain) has_box
          to_box.of_kind is;
      no_box = λ k holds apart there tagged. no_other_names_box slot to_box.word k holds puts.whole puts.has puts.plain
          sets.shown.has to_box.holds to_box.tagged to_box.refers to_box.of_kind apart there tagged;
      comes = λ holds there tagged. ComesFrom.moved (kept holds there, to_box.tagged);
      shows = λ holds there.
          let same : to_box.word ≡ holds = same_Some to_box.word holds (sym to_box.holds ∙ kept holds there) in
          let refers : RefersToBox new holds v = record {
            cell = box;
            words = words_of_cell new box;
            target = record { refers = sym same ∙ to_box.refers.refers; has = now.0 };
            box = to_box.of_kind;
            holds = now.1;
            fits = fits;
          } in
          shows holds refers;
      belong = λ other among.
          let named = names_box slot to_box.word puts.has puts.plain sets.shown.has to_box.holds to_box.tagged
          to_box.refers
          to_box.of_kind in
          (named.0, subst (λ (one : Cell). NamesFrom old cell named.0 one.at) (one_in box other among) named.1.1);
      kinds = λ other among. absurd (none_in other among);
      stores = λ other among store.
          let same : box ≡ other = one_in box other among in
          absurd (store_is_no_box store (ap (λ (one : Cell). one.layout.kind) (sym same) ∙ to_box.of_kind));
      boxes = λ other among is.
          let number : HasNoNumber box =
          (subst (λ k. IsSoundOf k old box to_box.words) to_box.of_kind
          (puts.whole.sound box to_box.words has_box)).no_number in
          let sound : IsBoxCell box (words_of_cell new box) =
          record { no_number = number; integer = v; fits = fits; holds = now.1 } in
          subst (λ (one : Cell). IsBoxCell one (words_of_cell new one)) (one_in box other among) sound;
    }
