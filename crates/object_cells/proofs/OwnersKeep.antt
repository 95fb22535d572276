-- A command that writes cells of one plain object or list keeps an open cycle: what slots refer to then, slots of the
-- object referred to before, or it was made.
use Rattle.std.proofs.Common.{◌≡◌, ℕ, ◌+◌, ◌⊎◌, inl, inr, List, ◌∷◌, ◌++◌, Contains, Some, IsTrue}
use Rattle.std.proofs.Common.{refl, sym, ◌∙◌, ap, subst}
use Rattle.std.proofs.lemmas.Bool.{false≢true}
use Rattle.std.proofs.lemmas.Option.{same_Some}
use Rattle.tagged_word.specs.declared.layout.Kind.TheVariants as kind
use Rattle.tagged_word.specs.Cells.{scavenge_offsets_of, tagged_offsets_of, store_slot, is_object_kind}
use Rattle.tagged_word.proofs.Members.{first_in, in_cases}
use Rattle.object_graph.specs.Graphs.{Graph}
use Rattle.object_graph.specs.Reach.{is_marked, reach}
use Rattle.heap_model.specs.Types.{Kind, Cell}
use Rattle.heap_model.specs.Heaps.{Heap, HasCell, words_of_cell}
use Rattle.heap_model.specs.Slots.{reference_word, HoldsStore, RefersTo}
use Rattle.heap_model.specs.Kinds.{HasWord, IsListCell, IsPlainCell, IsSoundOf}
use Rattle.heap_model.specs.Wholeness.{HasSlotAt, IsOwnedKind, NamesFrom, Whole}
use Rattle.heap_model.specs.Changes.{IsNewPlace, IsOwnChange}
use Rattle.heap_model.proofs.ObjectSlots.{store_slot_at}
use Rattle.live_cells.specs.Live.{HasSlotTo, HasEntry}
use Rattle.live_cells.proofs.Slots.{holds_kind, marking_slots, object_slots}
use Rattle.live_cells.proofs.SlotsReached.{store_slots}
use Rattle.cycle_laws.specs.Changes.{IsOwnedAt, IsReachedPlace, WasEntry, WasTargetOf}
use Rattle.write_barrier.specs.MutatorState.{Mutator, heap_of, MainShows}
use Rattle.object_cells.specs.CellWrites.{Owns, WritesOwnCells}
use Rattle.object_cells.specs.CycleChanges.{KeepsCellsOpen, KeepsOpenCycle}
use Rattle.object_cells.specs.OwnSlots.{Refills}
use Rattle.object_cells.specs.Uses.{TakesRun}
use Rattle.object_cells.proofs.OwnSteps.{OwnStep, own_step, went_object}
use Rattle.object_cells.proofs.OwnCellsKeep.{beside_kind, own_cells_keep}

-- objects that own stores: plain ones and lists
abbrev pub OwnsStore : Kind → Type 0
OwnsStore k = (k ≡ kind.Plain) ⊎ (k ≡ kind.List)

-- the slot of such an object refers to a store alone
pub store_beside : {heap : Heap} {cell other : Cell} {words others : List ℕ} (store : ℕ) → Whole heap
    → HasCell heap cell words → OwnsStore cell.layout.kind → HasWord words store_slot store
    → RefersTo heap store other others → other.layout.kind ≡ kind.Store
store_beside {heap} {cell} {words = words} store whole has (inl plain) slot refers =
    let sound : IsPlainCell heap cell words =
    subst (λ k. IsSoundOf k heap cell words) plain (whole.sound cell words has) in
    let same = same_Some sound.has.store store (sym sound.has.slot ∙ slot) in
    holds_kind (subst (λ word. HoldsStore heap kind.Store word sound.has.beside) same sound.has.stands) refers
store_beside {heap} {cell} {words = words} store whole has (inr list) slot refers =
    let sound : IsListCell heap words =
    subst (λ k. IsSoundOf k heap cell words) list (whole.sound cell words has) in
    let same = same_Some sound.store store (sym sound.slot ∙ slot) in
    holds_kind (subst (λ word. HoldsStore heap kind.Store word sound.beside) same sound.stands) refers

-- they are objects
pub store_owner_is_object : {k : Kind} → OwnsStore k → IsTrue (is_object_kind k)
store_owner_is_object (inl plain) = ap is_object_kind plain
store_owner_is_object (inr list) = ap is_object_kind list

-- what a slot of such an object, or of its store, refers to, was a target
target_of : {heap : Heap} {gone : List Cell} {owner : Cell} {words : List ℕ} {slot word : ℕ} (at : ℕ) → Whole heap
    → Contains gone owner → OwnsStore owner.layout.kind → HasCell heap owner words
    → HasSlotAt heap owner words slot word
    → word ≡ reference_word at → WasTargetOf heap gone at
target_of {owner = owner} {words} at whole among owns has (HasSlotAt.own offset word visited holds) refers =
    let object = store_owner_is_object owns in
    record {
      from = owner.at;
      slot = record {
        cell = owner;
        words = words;
        has = has;
        stands = refl;
        offset = offset;
        visited = object_slots owner.layout.kind owner.layout owner.length offset object visited;
        holds = holds ∙ ap (λ one. Some one) refers;
      };
      own = record { owner = owner; among = among; object = object; own = inl refl };
    }
target_of {owner = owner} {words} at whole among owns has
    (HasSlotAt.beside store other others offset word slot target visited holds) refers =
    let object = store_owner_is_object owns in
    let is = store_beside store whole has owns slot target in
    let of_store = subst (λ k. Contains (scavenge_offsets_of k other.layout other.length) offset) is visited in
    record {
      from = other.at;
      slot = record {
        cell = other;
        words = others;
        has = target.has;
        stands = refl;
        offset = offset;
        visited = subst (λ k. Contains (tagged_offsets_of k other.layout other.length) offset) (sym is) of_store;
        holds = holds ∙ ap (λ one. Some one) refers;
      };
      own = record {
        owner = owner;
        among = among;
        object = object;
        own = inr (
          owner.at + store_slot,
          record {
            words = words;
            has = has;
            object = object;
            word = store;
            of_owner = store_slot_at store object slot;
            cell = other;
            others = others;
            refers = target;
            owned = subst IsOwnedKind (sym is) tt;
            at = refl;
          },
        );
      };
    }

module _ {owner : Kind} {old new : Mutator} {before : Graph} {cell came : Cell} {others made : List Cell}
    {was is : ℕ → ℕ → Type 0} (after : Graph) (of : OwnsStore owner) (owns : Owns owner kind.Store)
    (shows : MainShows old before)
    (writes : WritesOwnCells owner kind.Store (heap_of old) (heap_of new) cell came others made)
    (refills : Refills kind.Store (heap_of old) (heap_of new) cell came others made was is)
    (own : IsOwnChange (heap_of old) (heap_of new) (cell ∷ others) (came ∷ others) made)
    (takes : TakesRun old new made) (reached : IsTrue (is_marked (reach after) cell.header.object)) where
  -- the object's cell became the other
  abbrev step : OwnStep (heap_of old) (heap_of new) cell came others others made
  step = own_step owns shows.shows.whole writes

  -- what an object of these names was a target, or stands at a new place
  named_target : (one : Cell) (slot at : ℕ) → Contains (came ∷ (others ++ made)) one
      → NamesFrom (heap_of new) one slot at
      → WasTargetOf (heap_of old) (cell ∷ others) at ⊎ IsNewPlace (heap_of old) at
  named_target one slot at there names = elim (own.named one slot at there names) [
    | inr fresh ↦ inr fresh
    | inl named ↦
        let same : cell ≡ named.0 = went_object step named.0 named.1.1 named.1.2.object in
        let kinds = subst (λ (c : Cell). OwnsStore c.layout.kind) same (subst OwnsStore (sym writes.of_kind) of) in
        inl (target_of at shows.shows.whole named.1.1 kinds named.1.2.has named.1.2.of_owner
        (named.1.2.refers.refers ∙ ap reference_word named.1.2.at))
  ]

  -- a slot of the object's cell names what it refers to, where that belongs to an object
  own_slot_names : (from at : ℕ) (slot : HasSlotTo (heap_of new) from at) → came ≡ slot.cell
      → IsOwnedAt (heap_of new) at → NamesFrom (heap_of new) slot.cell (slot.cell.at + slot.offset) at
  own_slot_names from at slot same there = record {
    words = slot.words;
    has = slot.has;
    object = subst (λ (c : Cell). IsTrue (is_object_kind c.layout.kind)) same
        (ap is_object_kind step.same_kind ∙ step.object);
    word = reference_word at;
    of_owner = HasSlotAt.own slot.offset (reference_word at)
        (marking_slots slot.cell.layout.kind slot.cell.layout slot.cell.length slot.offset slot.visited) slot.holds;
    cell = there.cell;
    others = there.words;
    refers = record { refers = ap reference_word (sym there.stands); has = there.has };
    owned = there.owned;
    at = there.stands;
  }

  -- of the cells beside it marking visits slots of stores alone
  beside_store : (one : Cell) (offset : ℕ) → Contains (others ++ made) one
      → Contains (tagged_offsets_of one.layout.kind one.layout one.length) offset → one.layout.kind ≡ kind.Store
  beside_store one offset there visited = elim (beside_kind writes refills one there) [
    | inl same ↦ same
    | inr boxed ↦ store_slots one.layout.kind one offset (subst IsOwnedKind (sym boxed) tt) visited
  ]

  -- and so the object names what a slot of its store refers to
  store_slot_names : (from at : ℕ) (slot : HasSlotTo (heap_of new) from at) → Contains (others ++ made) slot.cell
      → IsOwnedAt (heap_of new) at → NamesFrom (heap_of new) came (slot.cell.at + slot.offset) at
  store_slot_names from at slot among there = record {
    words = words_of_cell (heap_of new) came;
    has = step.cells.comes came (first_in came (others ++ made));
    object = ap is_object_kind step.same_kind ∙ step.object;
    word = reference_word at;
    of_owner = HasSlotAt.beside refills.store slot.cell slot.words slot.offset (reference_word at) refills.has_store
        (record {
          refers = (refills.stores slot.cell among (beside_store slot.cell slot.offset among slot.visited)).1;
          has = slot.has;
        })
        (marking_slots slot.cell.layout.kind slot.cell.layout slot.cell.length slot.offset slot.visited) slot.holds;
    cell = there.cell;
    others = there.words;
    refers = record { refers = ap reference_word (sym there.stands); has = there.has };
    owned = there.owned;
    at = there.stands;
  }

  -- so what slots refer to that belongs to an object was a target, or stands at a new place
  slots_lead : (from at : ℕ) (slot : HasSlotTo (heap_of new) from at) → Contains (came ∷ (others ++ made)) slot.cell
      → IsOwnedAt (heap_of new) at
      → WasTargetOf (heap_of old) (cell ∷ others) at ⊎ IsNewPlace (heap_of old) at
  slots_lead from at slot among there = elim (in_cases came (others ++ made) slot.cell among) [
    | inl same ↦
        named_target slot.cell (slot.cell.at + slot.offset) at among (own_slot_names from at slot same there)
    | inr beside ↦
        named_target came (slot.cell.at + slot.offset) at (first_in came (others ++ made))
        (store_slot_names from at slot beside there)
  ]

  -- none of the cells is a table
  no_entry : (table key at : ℕ) (entry : HasEntry (heap_of new) table key at)
      → Contains (came ∷ (others ++ made)) entry.cell → WasEntry (heap_of old) old.cycle.born key at
      ⊎ (IsReachedPlace (heap_of new) after at ⊎ IsNewPlace (heap_of old) at)
  no_entry table key at entry there = elim (in_cases came (others ++ made) entry.cell there) [
    | inl same ↦
        let object = subst (λ (c : Cell). IsTrue (is_object_kind c.layout.kind)) same
        (ap is_object_kind step.same_kind ∙ step.object) in
        absurd (false≢true (sym (ap is_object_kind entry.of_kind) ∙ object))
    | inr among ↦ elim (beside_kind writes refills entry.cell among) [
      | inl store ↦ (let both : kind.Store ≡ kind.Table = sym store ∙ entry.of_kind in absurd (cc))
      | inr boxed ↦ (let both : kind.Boxed ≡ kind.Table = sym boxed ∙ entry.of_kind in absurd (cc))
    ]
  ]

  -- so an open cycle is kept
  pub own_cells_keep_cycle : KeepsCellsOpen old new came others
      → KeepsOpenCycle old new after (cell ∷ others) (came ∷ others) made
  own_cells_keep_cycle keeps mark =
      own_cells_keep after owns shows mark writes refills takes reached (keeps mark) slots_lead no_entry
