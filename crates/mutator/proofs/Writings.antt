-- A command that writes a text and leaves the heap as it is.
use Rattle.std.proofs.Common.{◌≡◌, refl, ℕ, List, Ok, sym, ◌∙◌, ap, subst}
use Rattle.heap_model.specs.Types.{Command}
use Rattle.object_graph.specs.Graphs.{Graph}
use Rattle.object_graph.specs.Meaning.{done, meaning}
use Rattle.object_graph.specs.Limits.{ideal_limits}
use Rattle.nursery.specs.Young.{HasRoom}
use Rattle.write_barrier.specs.MutatorState.{Mutator, MainShows}
use Rattle.object_cells.specs.Uses.{UsesMore}
use Rattle.object_cells.proofs.TakenRuns.{bumped_none}
use Rattle.object_cells.proofs.RestOfWords.{same_rest}
use Rattle.mutator.specs.CarriesOut.{Carries}
use Rattle.mutator.proofs.ChangedWords.{still_keeps}
use Rattle.mutator.proofs.KeptStores.{keeps_still}
use Rattle.mutator.proofs.Rebinding.{NeedsNone, room_for_none}
use Rattle.mutator.proofs.StandingCells.{still_stands}
use Rattle.mutator.proofs.StillShown.{shows_still}

-- a heap that is the same uses no word more
pub uses_none_still : {old new : Mutator} → new ≡ old → UsesMore old new 0
uses_none_still {old} same = record {
  beside = same_rest same;
  young = ap (λ (main : Mutator). main.young) same
      ∙ sym (bumped_none old.young);
  free = ap (λ (main : Mutator). main.free) same;
}

-- so it is carried out, if it needs no words
pub writing_carried : {old new : Mutator} {graph : Graph} (names : List (List ℕ)) (command : Command) (text : List ℕ)
    → new ≡ old → MainShows old graph → meaning ideal_limits names graph command ≡ done graph text
    → NeedsNone graph command → Carries names old new graph command text (Ok tt)
writing_carried {old} {new} {graph} names command text same shows carried no_need = record {
  after = graph;
  means = carried;
  shows = shows_still same shows;
  cells = still_stands graph same;
  takes = λ rooms has. record {
    room = subst (HasRoom old.young) (sym (no_need rooms).0) (room_for_none shows);
    uses = subst (UsesMore old new) (sym (no_need rooms).0) (uses_none_still same);
    words = still_keeps graph command same;
    stores = keeps_still command same shows (shows_still same shows) has (λ number marked. marked) refl
        (no_need rooms).1;
  };
}
