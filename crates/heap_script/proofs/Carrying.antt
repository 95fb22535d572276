-- What is known of a command that was tried and stopped.
use Rattle.std.proofs.Common.{◌≡◌, ◌∙◌, ℕ, zero, suc, ◌≤◌, Bool, true, false, List, [], Option, Some, None, Result, Ok}
use Rattle.std.proofs.Common.{Err, IsErrAnd, ap, arith, sym, subst, refl}
use Rattle.std.specs.Prelude.{option_and_then}
use Rattle.std.specs.FinMap.{get}
use Rattle.std.proofs.lemmas.Option.{none-some}
use Rattle.tagged_word.specs.Cells.{cell_words_most}
use Rattle.heap_model.specs.Types.{Command, FaultWord}
use Rattle.heap_command.specs.declared.command.Command.TheVariants.{WPut}
use Rattle.heap_command.specs.declared.command.FaultWord.TheVariants.{WeakFull}
use Rattle.heap_command.specs.Commands.{IsWithin}
use Rattle.object_graph.specs.Graphs.{Graph, value_of, object_in, weak_at}
use Rattle.object_graph.specs.Limits.{ideal_limits}
use Rattle.object_graph.specs.Meaning.{done, fault, unless, no_entry_for, reweave, meaning}
use Rattle.object_graph.specs.Objects.{with_entry}
use Rattle.object_graph.specs.Reach.{reach}
use Rattle.nursery.specs.Young.{HasRoom}
use Rattle.mutator.specs.declared.stop.Stop.{Stop}
use Rattle.mutator.specs.declared.stop.Stop.TheVariants.{NoRoom}
use Rattle.mutator.specs.CarriesOut.{Carries, FindsMapNotFull}
use Rattle.scavenger.specs.Laws.{KeepsGraphs}
use Rattle.write_barrier.specs.MutatorState.{Mutator, heap_of, MainShows}
use Rattle.heap_model.specs.Heaps.{Heap}
use Rattle.heap_model.specs.Rooms.{Room, FindsMapFull}
use Rattle.heap_model.specs.Showing.{Shows}
use Rattle.heap_model.proofs.ShownRooms.{shown_objects_have_rooms}
use Rattle.object_cells.proofs.NothingUsed.{room_for_none}
use Rattle.heap_script.specs.Collecting.{IsSound, FindsPairs}
use Rattle.heap_script.proofs.FewWords.{need_few}

-- where there is no room, some words were wanted
pub wants_some : (main : Mutator) (graph : Graph) (need : ℕ) → MainShows main graph → (HasRoom main.young need → ⊥)
    → 1 ≤ need
wants_some main graph zero shows lacks = absurd (lacks (room_for_none main shows.tied shows.shows.whole))
wants_some main graph (suc need) shows lacks = omega arith

-- a command that stops for want of room wants some words, and no more than a cell may have
pub refused : (names : List (List ℕ)) (old new : Mutator) (graph : Graph) (variables fields : ℕ) (command : Command)
    (text : List ℕ) (need : ℕ) → MainShows old graph → IsWithin variables fields command
    → Carries names old new graph command text (Err (NoRoom need)) → (1 ≤ need) × (need ≤ cell_words_most)
refused names old new graph variables fields command text need shows within
    (after, written, does-is, needs, lacks, same) =
    let (rooms, has) = shown_objects_have_rooms (heap_of old) graph shows.shows in (
      wants_some old graph need shows lacks,
      subst (λ (n : ℕ). n ≤ cell_words_most) (sym (needs rooms has))
          (need_few graph rooms variables fields command shows.is_graph within),
    )

-- a command that does not find its map full does not where the same graphs are kept, with the same rooms
pub unfull_behind : {old mid : Mutator} {graph : Graph} {command : Command} → KeepsGraphs old mid
    → MainShows old graph → FindsMapNotFull old graph command → FindsMapNotFull mid graph command
unfull_behind {graph = graph} keeps shows unfull =
    λ entries finds. unfull entries (λ rooms has. finds rooms ((keeps.rooms graph rooms shows).0 has))

-- a command that is no fault does not fault
pub never_faults : {A : Type 0} {names : List (List ℕ)} {graph : Graph} {command : Command} {word : FaultWord}
    → IsSound names graph command → meaning ideal_limits names graph command ≡ fault word → A
never_faults {names = names} {graph} {command} {word} sound faults =
    let both : done sound.after sound.written ≡ fault word = sym sound.is ∙ faults in
    absurd (cc)

-- what is found in what is there is found in something
found_in : {A B : Type 0} (there : Option A) (find : A → Option B) (found : B) → option_and_then find there ≡ Some found
    → (one : A) × (there ≡ Some one) × (find one ≡ Some found)
found_in None find found is = absurd (none-some found is)
found_in (Some one) find found is = (one, refl, is)

-- a test that alone comes before what is done has its fault
unless_faults : (test : Bool) (after : Graph) (word : FaultWord) → unless WeakFull test (done after []) ≡ fault word
    → word ≡ WeakFull
unless_faults true after word is = cc
unless_faults false after word is = absurd (cc)

-- a command that finds its map full of pairs has no other fault than `weakfull`
full_faults : (names : List (List ℕ)) (graph : Graph) (rooms : ℕ → Room) (command : Command) (entries : ℕ)
    (word : FaultWord) → FindsMapFull graph rooms command entries
    → meaning ideal_limits names graph command ≡ fault word → word ≡ WeakFull
full_faults names graph rooms command entries word finds faults =
    let target = found_in (get graph.bindings finds.m) (weak_at graph.objects) finds.weak finds.map in
    let key = found_in (value_of graph finds.k) object_in finds.key finds.named in
    let bound : get graph.bindings finds.m ≡ Some target.0 = target.1 in
    let found : weak_at graph.objects target.0 ≡ Some finds.weak = target.2 in
    let keyed : value_of graph finds.k ≡ Some key.0 = key.1 in
    let named : object_in key.0 ≡ Some finds.key = key.2 in
    let given : value_of graph finds.v ≡ Some finds.value = finds.given in
    let test = no_entry_for (reach graph) finds.weak.entries finds.key in
    let after = reweave graph finds.weak (with_entry finds.weak.entries finds.key finds.value) in
    let known : meaning ideal_limits names graph (WPut finds.m finds.k finds.v)
    ≡ unless WeakFull test (done after []) = rw (bound, keyed, given, found, named) in
    unless_faults test after word (sym known ∙ sym (ap (meaning ideal_limits names graph) finds.is) ∙ faults)

-- so it is where a heap that shows the graph tells it
pub pairs_fault : (names : List (List ℕ)) {heap : Heap} {graph : Graph} {command : Command} {entries : ℕ}
    {word : FaultWord} → FindsPairs heap graph command entries → Shows heap graph
    → meaning ideal_limits names graph command ≡ fault word → word ≡ WeakFull
pairs_fault names {heap} {graph} {command} {entries} {word} finds shows faults =
    let (rooms, has) = shown_objects_have_rooms heap graph shows in
    full_faults names graph rooms command entries word (finds rooms has) faults

-- an answer that hands this stop on is this stop
pub handed_on : {A : Type 0} (answer : Result A Stop) (stop : Stop) → IsErrAnd answer (λ one. one ≡ stop)
    → answer ≡ Err stop
handed_on (Ok one) stop is = absurd is
handed_on (Err one) stop is = ap (λ (e : Stop). Err e) is
