-- What an object's cell names is named where it came, if both stay.
use Rattle.std.proofs.Common.{◌≡◌, ℕ, ◌+◌, List, Option, Some, IsTrue, refl, sym, ◌∙◌, ap, subst}
use Rattle.std.proofs.lemmas.Option.{same_Some}
use Rattle.heap_model.specs.Types.{Cell}
use Rattle.heap_model.specs.Heaps.{Heap}
use Rattle.tagged_word.specs.Cells.{is_object_kind}
use Rattle.heap_model.specs.Wholeness.{HasSlotAt, NamesFrom}
use Rattle.heap_model.proofs.ObjectSlots.{store_slot_in}
use Rattle.heap_moves.specs.Moved.{IsMovedWord, AreMoved, moved_to, IsMoved}
use Rattle.heap_moves.specs.Standing.{Stays}
use Rattle.heap_moves.proofs.MovedSlots.{other_word, store_slot_moved}
use Rattle.heap_moves.proofs.MovedTargets.{target}
use Rattle.live_cells.specs.Exact.{IsNamedByObject}

-- a slot of an object where it came, with its word there
record HasSlotMoved (new : Heap) (to : ℕ → Option ℕ) (owner : Cell) (others : List ℕ) (word : ℕ) : Type 0 where
  slot : ℕ
  now : ℕ
  is_moved : IsMovedWord to word now
  of_owner : HasSlotAt new owner others slot now

-- what stood at the address stays, and an object's cell names it where it came
pub record IsNamedThere (new : Heap) (to : ℕ → Option ℕ) (at : ℕ) : Type 0 where
  pub now : ℕ
  pub stays : to at ≡ Some now
  pub named : IsNamedByObject new now

module _ {old new : Heap} {to : ℕ → Option ℕ} (moved : IsMoved old new to) where
  -- a slot of an object that stays stands where that came, or where its store came
  slot_moved : {owner : Cell} {words others : List ℕ} {slot word : ℕ} (comes : ℕ)
      → IsTrue (is_object_kind owner.layout.kind) → AreMoved to owner words others → HasSlotAt old owner words slot word
      → HasSlotMoved new to (moved_to owner comes) others word
  slot_moved {words = words} {others} comes object are (HasSlotAt.own offset word there stands) =
      let next = other_word others words offset word (sym are.long) stands in
      record {
        slot = comes + offset;
        now = next.0;
        is_moved = are.slots offset word next.0 there stands next.1;
        of_owner = HasSlotAt.own offset next.0 there next.1;
      }
  slot_moved {owner} {words} {others} comes object are
      (HasSlotAt.beside store other in_store offset word slot refers there stands) =
      let beside = store_slot_moved store (store_slot_in owner.layout.kind owner.layout owner.length object) are slot in
      let came = target moved beside.2 refers in
      let next = other_word came.others in_store offset word (sym came.are.long) stands in
      record {
        slot = came.now + offset;
        now = next.0;
        is_moved = came.are.slots offset word next.0 there stands next.1;
        of_owner = HasSlotAt.beside beside.0 (moved_to other came.now) came.others offset next.0 beside.1 came.refers
            there next.1;
      }

  -- so what an object that stays names stays, and is named where it came
  pub names_stay : {owner : Cell} {slot at : ℕ} → NamesFrom old owner slot at → Stays to owner.at
      → IsNamedThere new to at
  names_stay {owner} names stays =
      let stood = moved.stands owner names.words stays.0 names.has stays.1 in
      let from = slot_moved stays.0 names.object stood.are names.of_owner in
      let came = target moved from.is_moved names.refers in
      record {
        now = came.now;
        stays = ap to (sym names.at) ∙ came.stays;
        named = record {
          owner = moved_to owner stays.0;
          slot = from.slot;
          names = record {
            words = stood.others;
            has = stood.has;
            object = names.object;
            word = from.now;
            of_owner = from.of_owner;
            cell = moved_to names.cell came.now;
            others = came.others;
            refers = came.refers;
            owned = names.owned;
            at = refl;
          };
        };
      }

  -- so it is named where it is known to have come
  pub names_moved : {owner : Cell} {slot at : ℕ} (now : ℕ) → NamesFrom old owner slot at → Stays to owner.at
      → to at ≡ Some now → IsNamedByObject new now
  names_moved now names stays comes =
      let there = names_stay names stays in
      subst (IsNamedByObject new) (same_Some _ _ (sym there.stays ∙ comes)) there.named
