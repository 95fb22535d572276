-- What is live is kept for objects that can be reached: a live object's cell names each live store, table and box.
use Rattle.std.proofs.Common.{◌≡◌, ℕ, Bool, true, List, Contains, IsTrue, refl}
use Rattle.std.specs.Prelude.{nat_eq}
use Rattle.std.specs.List.{list_any}
use Rattle.std.proofs.lemmas.Bool.{eqb-true}
use Rattle.std.proofs.lemmas.Cmp.{nat_eq_equiv}
use Rattle.std.proofs.lemmas.Map.Views.{list_any-from_Contains, Contains-from_any}
use Rattle.object_graph.specs.Graphs.{Graph}
use Rattle.object_graph.specs.Reach.{is_marked, reach}
use Rattle.heap_model.specs.Types.{Cell}
use Rattle.heap_model.specs.Heaps.{Heap, HasCell}
use Rattle.heap_model.specs.Slots.{IsPlace}
use Rattle.heap_model.specs.Wholeness.{IsOwnedKind}
use Rattle.heap_model.specs.Showing.{Shows}
use Rattle.live_cells.specs.Live.{IsLive}
use Rattle.live_cells.specs.Laws.{BelongsToReached, ReachedIsLive}
use Rattle.live_cells.specs.Keeping.{IsNamedAmong, LiveIsForReached}
use Rattle.live_cells.specs.Live.{AreLive}
use Rattle.live_cells.proofs.LiveReached.{place_reached, live_belongs, live_is_reached}
use Rattle.live_cells.proofs.ReachedMarked.{places_marked}
use Rattle.live_cells.proofs.ShownTargets.{place_not_owned}

-- whether the address is one of these
is_among : List ℕ → ℕ → Bool
is_among marked at = list_any (nat_eq at) marked

-- one of them passes
among_passes : (marked : List ℕ) (at : ℕ) → Contains marked at → is_among marked at ≡ true
unfolding is_among
among_passes marked at there = list_any-from_Contains nat_eq_equiv at marked there

-- and nothing else does
passes_among : (marked : List ℕ) (at : ℕ) → is_among marked at ≡ true → Contains marked at
unfolding is_among
passes_among marked at is = Contains-from_any eqb-true at marked is

module _ {heap : Heap} {graph : Graph} (marked : List ℕ) (shows : Shows heap graph) (are : AreLive heap marked) where
  -- each place of an object that can be reached is live
  pub place_live : (number at : ℕ) → IsTrue (is_marked (reach graph) number) → IsPlace heap number at
      → Contains marked at
  place_live number at reached place =
      passes_among marked at (places_marked (is_among marked) shows
      (λ there target. among_passes marked there ((are there).1 (IsLive.start there target)))
      (record {
        slots = λ from there is slot.
            let live = (are from).0 (passes_among marked from is) in
            among_passes marked there ((are there).1 (IsLive.slot from there live slot));
        entries = λ table key there of_table of_key entry.
            let table_live = (are table).0 (passes_among marked table of_table) in
            let key_live = (are key).0 (passes_among marked key of_key) in
            among_passes marked there ((are there).1 (IsLive.entry table key there table_live key_live entry));
      }) number at reached place)

  -- so what belongs to such an object is named by one that is live
  named_live : {cell : Cell} {words : List ℕ} → HasCell heap cell words → IsOwnedKind cell.layout.kind
      → BelongsToReached heap graph cell.at → IsNamedAmong heap (Contains marked) cell.at
  named_live has owned (BelongsToReached.place number place reached) =
      absurd (place_not_owned place has refl owned)
  named_live has owned (BelongsToReached.named owner slot names reached) = record {
    owner = owner;
    slot = slot;
    names = names;
    among = place_live owner.header.object owner.at reached (record {
      cell = owner;
      words = names.words;
      has = names.has;
      stands = refl;
      object = names.object;
      carries = refl;
    });
  }

-- what can be reached is live
pub reached_is_live : ReachedIsLive
reached_is_live heap graph marked number at shows are reached place =
    place_live marked shows are number at reached place

-- what is live is for what can be reached
pub live_is_for_reached : LiveIsForReached
live_is_for_reached heap graph marked shows are = record {
  reached = λ number at place is. place_reached shows (live_belongs shows at ((are at).0 is)) place;
  named = λ cell words has is owned.
      named_live marked shows are has owned (live_is_reached heap graph cell.at shows ((are cell.at).0 is));
}
