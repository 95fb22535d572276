-- What is known of the object that a command names, and that a command is carried out that changes one.
use Rattle.std.proofs.Common.{◌≡◌, ℕ, ◌+◌, List, [], Option, Some, None, Ok, ◌∙◌, ap, subst}
use Rattle.std.specs.Prelude.{option_and_then}
use Rattle.std.specs.FinMap.{get}
use Rattle.graph_laws.specs.Laws.{MayChange}
use Rattle.graph_laws.specs.ReachAfter.{made_for}
use Rattle.heap_model.specs.Types.{Command, Value, Object}
use Rattle.heap_model.specs.Laws.{ReachesNoMore}
use Rattle.heap_model.specs.Rooms.{Room, HasRooms, need_of}
use Rattle.heap_model.specs.Slots.{IsPlace}
use Rattle.nursery.specs.Young.{HasRoom}
use Rattle.object_cells.specs.Capacities.{ChangesObjectUsing}
use Rattle.object_cells.specs.Contents.{next_at}
use Rattle.object_cells.specs.Uses.{UsesMore}
use Rattle.object_graph.specs.Graphs.{Graph, found_at}
use Rattle.object_graph.specs.Limits.{ideal_limits}
use Rattle.object_graph.specs.Meaning.{done, meaning}
use Rattle.write_barrier.specs.MutatorState.{Mutator, heap_of, MainShows}
use Rattle.mutator.specs.Capacities.{KeepsStores}
use Rattle.mutator.specs.Changing.{KeepsOtherWords}
use Rattle.mutator.specs.CarriesOut.{Carries}
use Rattle.mutator.proofs.ChangedWords.{object_keeps}
use Rattle.mutator.proofs.KeptStores.{IsAfter}
use Rattle.mutator.proofs.Rebinding.{reaches_no_more}
use Rattle.mutator.proofs.StandingCells.{changed_is_reached, own_stands}

-- the value of a command's variable, and the object of a kind to which it refers
pub record IsKnown {Kind : Type 0} (as_kind : ℕ → Object → Option Kind) (graph : Graph) (x : ℕ) (target : Value)
    (one : Kind) : Type 0 where
  pub bound : get graph.bindings x ≡ Some target
  pub refers : found_at as_kind graph.objects target ≡ Some one

-- the object is known where the value was found
pub known_found : {Kind : Type 0} {as_kind : ℕ → Object → Option Kind} {graph : Graph} {x : ℕ} {value target : Value}
    {one : Kind} → get graph.bindings x ≡ Some value → value ≡ target → found_at as_kind graph.objects value ≡ Some one
    → IsKnown as_kind graph x target one
known_found {as_kind = as_kind} {graph} {x} {one = one} bound is refers =
    subst (λ v. IsKnown as_kind graph x v one) is (record { bound = bound; refers = refers })

-- it is the one that the variable leads to
pub known_is : {Kind : Type 0} {as_kind : ℕ → Object → Option Kind} {graph : Graph} {x : ℕ} {target : Value}
    {one : Kind} → IsKnown as_kind graph x target one
    → option_and_then (found_at as_kind graph.objects) (get graph.bindings x) ≡ Some one
known_is {as_kind = as_kind} {graph} known =
    ap (option_and_then (found_at as_kind graph.objects)) known.bound ∙ known.refers

-- A command that makes nothing is carried out where its call changes the object that it names so that the heap shows
-- what the command means, and takes the words that the command needs.
pub change_carried : {old main new : Mutator} {graph after : Graph} {command : Command} {number at capacity need : ℕ}
    (names : List (List ℕ)) → main ≡ old → MainShows main graph → MainShows new after
    → meaning ideal_limits names graph command ≡ done after [] → made_for command ≡ None
    → after.bindings ≡ graph.bindings → MayChange graph command number → IsPlace (heap_of main) number at
    → ChangesObjectUsing main new need at capacity → HasRoom main.young need → UsesMore main new need
    → ((rooms : ℕ → Room) → HasRooms (heap_of main) graph rooms → need ≡ need_of graph rooms command)
    → ((rooms : ℕ → Room) → IsAfter main new graph after rooms → ReachesNoMore graph after
    → KeepsStores (heap_of main) (heap_of new) graph after command rooms)
    → Carries names old new graph command [] (Ok tt)
change_carried {main = main} {new} {graph} {after} {command} {number} {at} names same shown shows means none bindings
    may place changes room uses needs keeps =
    subst (λ main. Carries names main new graph command [] (Ok tt)) same
    (record {
      after = after;
      means = means;
      shows = shows;
      cells =
          let there : IsPlace (heap_of new) number at = changes.stays number at place in
          own_stands there
          (changed_is_reached graph after command number may bindings (shows.shows.made number at there)) changes.cells;
      takes = λ rooms has. record {
        room = subst (HasRoom main.young) (needs rooms has) room;
        uses = subst (UsesMore main new) (needs rooms has) uses;
        words = subst
            (λ n. KeepsOtherWords (heap_of main) (heap_of new) (next_at main) (next_at main + n) graph command)
            (needs rooms has) (object_keeps (heap_of new) may place changes.words);
        stores = keeps rooms (record { shows = shown; shown = shows; has = has; stays = changes.stays })
            (reaches_no_more names command [] shown means none);
      };
    })
