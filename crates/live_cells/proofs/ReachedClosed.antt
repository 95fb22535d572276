-- What is reached is closed: along each slot that marking visits, and each pair of a weak table.
use Rattle.std.proofs.Common.{◌≡◌, ℕ, inl, inr, IsTrue, refl, subst}
use Rattle.tagged_word.specs.declared.layout.Kind.TheVariants as kind
use Rattle.tagged_word.specs.Cells.{store_slot}
use Rattle.object_graph.specs.Graphs.{Graph}
use Rattle.object_graph.specs.Reach.{is_marked, reach}
use Rattle.heap_model.specs.Types.{Kind, Cell}
use Rattle.heap_model.specs.Heaps.{Heap}
use Rattle.heap_model.specs.Kinds.{HasWord}
use Rattle.heap_model.specs.Wholeness.{IsOwnedKind, NamesFrom}
use Rattle.heap_model.specs.Showing.{Shows}
use Rattle.heap_model.proofs.CellsApart.{one_at, one_words}
use Rattle.heap_model.proofs.SlotWords.{IsStoreKind}
use Rattle.live_cells.specs.Laws.{BelongsToReached, ReachedSlotsLeadOn, ReachedEntriesLeadOn}
use Rattle.live_cells.proofs.LiveReached.{entry_belongs, of_reached}
use Rattle.live_cells.proofs.SlotsReached.{IsReachedCell, Belongs, reached_cell, slot_belongs}
use Rattle.live_cells.proofs.StoreSlots.{store_named}

-- what an object owns is a store or a table, or a box
data OwnedIs (k : Kind) : Type 0 where
  a_store : IsStoreKind k → OwnedIs k
  a_box : k ≡ kind.Boxed → OwnedIs k

-- which it is
owned_is : (k : Kind) → IsOwnedKind k → OwnedIs k
owned_is kind.Store owned = OwnedIs.a_store (inl refl)
owned_is kind.Table owned = OwnedIs.a_store (inr refl)
owned_is kind.Boxed owned = OwnedIs.a_box refl
owned_is _ owned = absurd owned

module _ {heap : Heap} {graph : Graph} (shows : Shows heap graph) where
  -- what an object that can be reached names belongs
  named_belongs : {owner : Cell} {slot at : ℕ} → IsTrue (is_marked (reach graph) owner.header.object)
      → (names : NamesFrom heap owner slot at) → Belongs heap graph at
  named_belongs {owner} {slot} reached names =
      let one = reached_cell shows owner.header.object owner.at (record {
        cell = owner;
        words = names.words;
        has = names.has;
        stands = refl;
        object = names.object;
        carries = refl;
      }) reached in
      let same : one.0 ≡ owner = one_at one.2.has names.has one.3 in
      let is : IsReachedCell heap graph owner one.1 =
      subst (λ (cell : Cell). IsReachedCell heap graph cell one.1) same one.2 in
      elim (owned_is names.cell.layout.kind names.owned) [
        | OwnedIs.a_store store ↦
            Belongs.its_store owner one.1 names.word names.cell names.others is
            (subst (λ all. HasWord all store_slot names.word) (one_words names.has is.has)
            (store_named shows.whole names store)) names.refers store names.at
        | OwnedIs.a_box box ↦ Belongs.in_box owner one.1 slot is names (record {
          cell = names.cell;
          words = names.others;
          has = names.refers.has;
          stands = names.at;
          box = box;
        })
      ]

  -- what belongs to an object that can be reached, told by its cell
  pub told_by_cell : {at : ℕ} → BelongsToReached heap graph at → Belongs heap graph at
  told_by_cell {at} (BelongsToReached.place number place reached) =
      let one = reached_cell shows number at place reached in Belongs.itself one.0 one.1 one.2 one.3
  told_by_cell (BelongsToReached.named owner slot names reached) = named_belongs reached names

-- along slots
pub reached_slots_lead_on : ReachedSlotsLeadOn
reached_slots_lead_on heap graph from at shows belongs slot =
    of_reached shows at (slot_belongs shows from at (told_by_cell shows belongs) slot)

-- and entries
pub reached_entries_lead_on : ReachedEntriesLeadOn
reached_entries_lead_on heap graph table key at shows of_table of_key entry =
    of_reached shows at
    (entry_belongs shows table key at (told_by_cell shows of_table) (told_by_cell shows of_key) entry)
