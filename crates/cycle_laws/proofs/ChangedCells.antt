-- What is kept stays closed where a command changes cells.
use Rattle.std.proofs.Common.{◌≡◌, ℕ, ◌≤◌, inl, inr, List, ◌++◌, length, Some, Contains, IsTrue}
use Rattle.std.proofs.Common.{refl, sym, ◌∙◌, ap, subst, arith}
use Rattle.std.proofs.lemmas.List.Elements.{Contains-append_cases}
use Rattle.tagged_word.specs.declared.layout.Kind.TheVariants as kind
use Rattle.tagged_word.specs.Cells.{is_object_kind, store_slot}
use Rattle.object_graph.specs.Graphs.{Graph}
use Rattle.object_graph.specs.Reach.{is_marked, reach}
use Rattle.heap_model.specs.Types.{Cell}
use Rattle.heap_model.specs.Heaps.{Heap, words_of_cell}
use Rattle.heap_model.specs.Slots.{reference_word, IsPlace}
use Rattle.heap_model.specs.Kinds.{HasWord}
use Rattle.heap_model.specs.Wholeness.{IsOwnedKind, NamesFrom, Whole}
use Rattle.heap_model.specs.Showing.{Shows}
use Rattle.heap_model.specs.Changes.{CellsChange, IsOwnChange, IsGraphChange, IsStill}
use Rattle.heap_model.proofs.CellsApart.{one_at}
use Rattle.heap_model.proofs.ObjectSlots.{store_slot_in}
use Rattle.live_cells.specs.Laws.{BelongsToReached}
use Rattle.live_cells.specs.Live.{HasSlotTo, HasEntry, IsRootTarget}
use Rattle.live_cells.proofs.LiveReached.{place_reached}
use Rattle.live_cells.proofs.ReachedClosed.{told_by_cell, reached_slots_lead_on}
use Rattle.live_cells.proofs.RootTargets.{target_reached}
use Rattle.live_cells.proofs.Slots.{marking_slots, object_slots}
use Rattle.live_cells.proofs.SlotsReached.{store_slots}
use Rattle.live_cells.proofs.StoreSlots.{store_named}
use Rattle.mark_world.specs.BetweenCommands.{IsBornObject}
use Rattle.mark_world.specs.Cycles.{Cycle}
use Rattle.cycle_state.specs.Keeping.{IsKept, KeepsClosed}
use Rattle.cycle_laws.specs.Changes.{JoinsNewCells, ReferToKept, WasTargetOf, ChangesKeepClosed}
use Rattle.cycle_laws.proofs.CarriedCells.{kept_stays, kept_before, made_is_kept, new_place_kept, closed_then}
use Rattle.cycle_laws.proofs.ReachedKept.{reached_is_kept}
use Rattle.cycle_laws.proofs.Targets.{StandsAt, HasCellAt, cell_there, slot_target, key_target, value_target}

-- the place of an object has a cell that is not free
place_there : {heap : Heap} {number at : ℕ} → IsPlace heap number at → HasCellAt heap at
place_there {number = number} place = cell_there (StandsAt.an_object number place)

-- what an object names that has a slot which marking visits, its slot for the store refers to
store_slot_to : {heap : Heap} {owner : Cell} {slot at : ℕ} (to : ℕ) → Whole heap → NamesFrom heap owner slot at
    → (leads : HasSlotTo heap at to) → HasSlotTo heap owner.at at
store_slot_to {heap} {owner} {slot} {at} to whole names leads =
    let same : leads.cell ≡ names.cell = one_at leads.has names.refers.has (leads.stands ∙ sym names.at) in
    let owned = subst (λ (one : Cell). IsOwnedKind one.layout.kind) (sym same) names.owned in
    let is : leads.cell.layout.kind ≡ kind.Store =
    store_slots leads.cell.layout.kind leads.cell leads.offset owned leads.visited in
    let of_kind : names.cell.layout.kind ≡ kind.Store = ap (λ (one : Cell). one.layout.kind) (sym same) ∙ is in
    let at_store = store_named whole names (inl of_kind) in
    record {
      cell = owner;
      words = names.words;
      has = names.has;
      stands = refl;
      offset = store_slot;
      visited = object_slots owner.layout.kind owner.layout owner.length store_slot names.object
          (store_slot_in owner.layout.kind owner.layout owner.length names.object);
      holds = at_store ∙ ap (λ word. Some word) (names.refers.refers ∙ ap reference_word names.at);
    }

module _ {old new : Heap} {before after : Graph} {cycle later : Cycle} {gone came made : List Cell}
    (shows : Shows old before) (shows_new : Shows new after) (cells : CellsChange old new gone came made)
    (own : IsOwnChange old new gone came made) (graphs : IsGraphChange old new before after gone came made)
    (few : cycle.made ≤ length before.objects) (joins : JoinsNewCells old new cycle later came made)
    (refer : ReferToKept old new after cycle gone came made) (keeps : KeepsClosed old cycle) where
  -- an object's cell that came stood there before
  still_place : (number at : ℕ) (place : IsPlace new number at) → Contains came place.cell → IsPlace old number at
  still_place number at place there =
      let still : IsStill gone place.cell = own.objects_stood place.cell there place.object in record {
        cell = still.other;
        words = words_of_cell old still.other;
        has = cells.went still.other still.among;
        stands = still.place ∙ place.stands;
        object = ap is_object_kind still.of_kind ∙ place.object;
        carries = still.number ∙ place.carries;
      }

  -- an object that can be reached, where it stood, is kept
  old_place_kept : (number at : ℕ) → IsTrue (is_marked (reach after) number) → IsPlace old number at
      → IsKept old cycle.born at
  old_place_kept number at reached place =
      reached_is_kept old before cycle number at shows keeps (graphs.reached number reached) place

  -- and so it is where it stands
  place_kept : (number at : ℕ) → IsTrue (is_marked (reach after) number) → IsPlace new number at
      → IsKept new later.born at
  place_kept number at reached place = elim (cells.back place.cell place.words place.has) [
    | inl comes ↦ elim (Contains-append_cases came made place.cell comes) [
      | inl there ↦
          kept_stays shows.whole cells joins at
          (old_place_kept number at reached (still_place number at place there))
      | inr there ↦
          subst (IsKept new later.born) place.stands (made_is_kept shows.whole cells joins place.cell there)
    ]
    | inr stood ↦
        kept_stays shows.whole cells joins at (old_place_kept number at reached (record {
          cell = place.cell;
          words = place.words;
          has = stood.0;
          stands = place.stands;
          object = place.object;
          carries = place.carries;
        }))
  ]

  -- an object whose cell went was kept
  owner_kept : (owner : Cell) → Contains gone owner → IsTrue (is_object_kind owner.layout.kind)
      → IsKept old cycle.born owner.at
  owner_kept owner there object =
      let still : IsStill came owner = own.objects_stay owner there object in
      let reached = refer.objects still.other still.among (ap is_object_kind still.of_kind ∙ object) in
      old_place_kept owner.header.object owner.at
      (subst (λ n. IsTrue (is_marked (reach after) n)) still.number reached) (record {
        cell = owner;
        words = words_of_cell old owner;
        has = cells.went owner there;
        stands = refl;
        object = object;
        carries = refl;
      })

  -- so what a slot of it, or of what it owned, referred to was kept
  referred_kept : (at : ℕ) → WasTargetOf old gone at → IsKept old cycle.born at
  referred_kept at was =
      let slot = was.slot in
      let of = was.own in
      let kept : IsKept old cycle.born of.owner.at = owner_kept of.owner of.among of.object in
      let from : IsKept old cycle.born was.from = elim of.own [
        | inl same ↦
            subst (IsKept old cycle.born) (ap (λ (one : Cell). one.at) (sym same) ∙ slot.stands) kept
        | inr names ↦
            let here = subst (NamesFrom old of.owner names.0) slot.stands names.1 in
            keeps.closed.slots of.owner.at was.from kept (store_slot_to at shows.whole here slot)
      ] in
      keeps.closed.slots was.from at from slot

  -- what a slot of a cell that came or was made refers to is kept
  new_slots : (from at : ℕ) (slot : HasSlotTo new from at) → Contains (came ++ made) slot.cell
      → IsKept new later.born at
  new_slots from at slot comes = elim (slot_target from at shows_new.whole slot) [
    | StandsAt.an_object number place ↦ elim (refer.belong slot.cell comes) [
      | inl nothing ↦
          let cell : Cell = slot.cell in
          let visited = marking_slots cell.layout.kind cell.layout cell.length slot.offset slot.visited in
          let holds = subst (λ all. HasWord all slot.offset (reference_word at)) (sym slot.has.words_are) slot.holds in
          absurd (nothing slot.offset (reference_word at) at visited holds refl)
      | inr belongs ↦
          let here = subst (BelongsToReached new after) slot.stands belongs in
          let there = reached_slots_lead_on new after from at shows_new here slot in
          place_kept number at (place_reached shows_new (told_by_cell shows_new there) place) place
    ]
    | StandsAt.an_owned owned ↦ elim (refer.slots from at slot comes owned) [
      | inl was ↦ kept_stays shows.whole cells joins at (referred_kept at was)
      | inr new_place ↦ new_place_kept shows.whole cells joins at (StandsAt.an_owned owned) new_place
    ]
  ]

  -- and so is the value of a pair of theirs, where its key is
  new_pairs : (table key at : ℕ) (entry : HasEntry new table key at) → Contains (came ++ made) entry.cell
      → IsKept new later.born key → IsKept new later.born at
  new_pairs table key at entry comes key_kept = elim (refer.pairs table key at entry comes) [
    | inl was ↦
        let key_before = kept_before shows.whole cells joins key
        (cell_there (key_target shows.whole was.entry)) key_kept in
        kept_stays shows.whole cells joins at
        (keeps.closed.entries was.table key at was.kept key_before was.entry)
    | inr other ↦ elim other [
      | inl object ↦ place_kept object.number at object.reached object.place
      | inr new_place ↦ new_place_kept shows.whole cells joins at (value_target shows_new.whole entry) new_place
    ]
  ]

  -- what root words refer to is kept
  roots_kept : (at : ℕ) → IsRootTarget new at → IsKept new later.born at
  roots_kept at target =
      let one = target_reached at shows_new target in place_kept one.0 at one.2 one.1

  -- the entries of the opening are the same
  born_object : (number : ℕ) → IsBornObject cycle.reached cycle.made number
      → IsBornObject later.reached later.made number
  born_object number is =
      subst (λ all. IsBornObject all later.made number) (sym joins.reached)
      (subst (λ n. IsBornObject cycle.reached n number) (sym joins.counted) is)

  -- so an object that stood and is kept has a born number
  old_number : (number at : ℕ) → IsPlace old number at → IsKept new later.born at
      → IsBornObject later.reached later.made number
  old_number number at place kept =
      born_object number
      (keeps.numbers number at place (kept_before shows.whole cells joins at (place_there place) kept))

  -- and each object does that is kept
  numbers_kept : (number at : ℕ) → IsPlace new number at → IsKept new later.born at
      → IsBornObject later.reached later.made number
  numbers_kept number at place kept = elim (cells.back place.cell place.words place.has) [
    | inl comes ↦ elim (Contains-append_cases came made place.cell comes) [
      | inl there ↦ old_number number at (still_place number at place there) kept
      | inr there ↦
          let past = (graphs.numbered place.cell there place.object).0 in
          born_object number (inr (omega (arith, few, past, place.carries)))
    ]
    | inr stood ↦
        old_number number at (record {
          cell = place.cell;
          words = place.words;
          has = stood.0;
          stands = place.stands;
          object = place.object;
          carries = place.carries;
        }) kept
  ]

-- so it stays closed
pub changes_keep_closed : ChangesKeepClosed
changes_keep_closed old new before after cycle later gone came made shows shows_new cells own graphs few joins refer
    keeps =
    record {
      roots = roots_kept shows shows_new cells own graphs few joins refer keeps;
      closed = closed_then shows.whole cells joins keeps.closed
          (new_slots shows shows_new cells own graphs few joins refer keeps)
          (new_pairs shows shows_new cells own graphs few joins refer keeps);
      numbers = numbers_kept shows shows_new cells own graphs few joins refer keeps;
    }
