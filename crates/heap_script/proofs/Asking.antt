-- Commands of the collector: what they leave of a heap, and of a cycle.
use Rattle.std.proofs.Common.{◌≡◌, ◌∙◌, ◌||◌, ℕ, Bool, true, false, List, [], refl, sym, ap, inl, inr}
use Rattle.std.proofs.lemmas.Bool.{false≢true}
use Rattle.heap_model.specs.Types.{Command}
use Rattle.heap_command.specs.declared.command.Command.TheVariants as command
use Rattle.object_graph.specs.Graphs.{Graph}
use Rattle.object_graph.specs.Reach.{reached_objects, reached_entries}
use Rattle.object_graph.specs.Texts.{line, census_text}
use Rattle.write_barrier.specs.MutatorState.{MainShows}
use Rattle.scavenger.specs.Scavenged.{Scavenges}
use Rattle.scavenger.specs.Laws.{KeepsGraphs}
use Rattle.collector.specs.Born.{BeginsCycle, begins_fully}
use Rattle.collector.specs.Collected.{CollectsAll}
use Rattle.collector.specs.States.{Rest, HeapState, with_cycle}
use Rattle.mutator.proofs.Writings.{writing_carried}
use Rattle.heap_script.specs.Cycles.{asks_collector, cycle_after_command}
use Rattle.heap_script.specs.Collecting.{CarriesAsked, IsApart}
use Rattle.heap_script.specs.Noting.{NotesAsked}
use Rattle.heap_script.specs.Progress.{objects_made}

module _ {names : List (List ℕ)} {old new : HeapState} {graph : Graph} where
  -- the command `scavenge` leaves its graph, writes nothing and uses nothing of what the scavenge left
  pub asked_scavenge : Scavenges old.main new.main false → KeepsGraphs old.main new.main → MainShows old.main graph
      → new.collected ≡ old.collected → NotesAsked names old new graph command.Scavenge []
  asked_scavenge scavenges keeps shows noted = record {
    carries = CarriesAsked.scavenges refl scavenges keeps
        (writing_carried names command.Scavenge [] refl (keeps.shows graph shows) refl
        (λ rooms. (refl, λ number. refl)));
    noted = noted;
  }

  -- nor does the command `mark`, of what it left where it opens a cycle
  asked_mark : old.rest.in_cycle ≡ false → (begins : BeginsCycle old.main new.main graph)
      → new.collected ≡ (begins_fully begins || old.collected) → MainShows new.main graph
      → NotesAsked names old new graph command.Mark []
  asked_mark none begins noted shows = record {
    carries = CarriesAsked.begins refl none begins
        (writing_carried names command.Mark [] refl shows refl (λ rooms. (refl, λ number. refl)));
    noted = noted;
  }

  -- nor of a heap that it leaves as it is, where one is open
  asked_mark_open : old.rest.in_cycle ≡ true → new ≡ old → MainShows new.main graph
      → NotesAsked names old new graph command.Mark []
  asked_mark_open is same shows = record {
    carries = CarriesAsked.collects_nothing (inl (refl, is)) (ap (λ (heap : HeapState). heap.main) same)
        (writing_carried names command.Mark [] refl shows refl (λ rooms. (refl, λ number. refl)));
    noted = ap (λ (heap : HeapState). heap.collected) same;
  }

  -- nor does the command `finish`, where no cycle is open
  asked_finish_none : old.rest.in_cycle ≡ false → new.main ≡ old.main → new.collected ≡ old.collected
      → MainShows new.main graph → NotesAsked names old new graph command.Finish []
  asked_finish_none none same noted shows = record {
    carries = CarriesAsked.collects_nothing (inr (refl, none)) same
        (writing_carried names command.Finish [] refl shows refl (λ rooms. (refl, λ number. refl)));
    noted = noted;
  }

  -- nor of what a full collection left, where one is open
  asked_finish : old.rest.in_cycle ≡ true → CollectsAll old.main new.main graph → new.collected ≡ true
      → NotesAsked names old new graph command.Finish []
  asked_finish is collects noted = record {
    carries = CarriesAsked.finishes refl is collects
        (writing_carried names command.Finish [] refl collects.shows refl (λ rooms. (refl, λ number. refl)));
    noted = noted;
  }

  -- nor does the command `gc`
  pub asked_gc : CollectsAll old.main new.main graph → new.collected ≡ true
      → NotesAsked names old new graph command.Gc []
  asked_gc collects noted = record {
    carries = CarriesAsked.collects_all (inl refl) collects
        (writing_carried names command.Gc [] refl collects.shows refl (λ rooms. (refl, λ number. refl)));
    noted = noted;
  }

  -- nor the command `census`, which writes how much can be reached
  pub asked_census : CollectsAll old.main new.main graph → new.collected ≡ true
      → NotesAsked names old new graph command.Census
      (line (census_text (reached_objects graph) (reached_entries graph)))
  asked_census collects noted = record {
    carries = CarriesAsked.collects_all (inr refl) collects
        (writing_carried names command.Census (line (census_text (reached_objects graph) (reached_entries graph)))
        refl collects.shows refl (λ rooms. (refl, λ number. refl)));
    noted = noted;
  }

  -- the command `mark`, whether a cycle is open or not
  pub asked_mark_by : (in_cycle : Bool) → old.rest.in_cycle ≡ in_cycle
      → (old.rest.in_cycle ≡ false → (begins : BeginsCycle old.main new.main graph)
      × (new.collected ≡ (begins_fully begins || old.collected)))
      → (old.rest.in_cycle ≡ true → new ≡ old) → MainShows new.main graph
      → NotesAsked names old new graph command.Mark []
  asked_mark_by false is begun same shows = let (begins, noted) = begun is in asked_mark is begins noted shows
  asked_mark_by true is begun same shows = asked_mark_open is (same is) shows

  -- the command `finish`
  pub asked_finish_by : (in_cycle : Bool) → old.rest.in_cycle ≡ in_cycle
      → (old.rest.in_cycle ≡ false → new.main ≡ old.main)
      → (old.rest.in_cycle ≡ true → CollectsAll old.main new.main graph)
      → (old.rest.in_cycle ≡ false → MainShows new.main graph)
      → new.collected ≡ (old.rest.in_cycle || old.collected) → NotesAsked names old new graph command.Finish []
  asked_finish_by false is same collects shows noted =
      asked_finish_none is (same is) (noted ∙ ap (λ (open_now : Bool). open_now || old.collected) is) (shows is)
  asked_finish_by true is same collects shows noted =
      asked_finish is (collects is) (noted ∙ ap (λ (open_now : Bool). open_now || old.collected) is)

-- commands of the collector make no object
pub asked_make_none : (one : Command) → asks_collector one ≡ true → objects_made one ≡ 0
asked_make_none (command.New x slots) asks = absurd (false≢true asks)
asked_make_none (command.List x) asks = absurd (false≢true asks)
asked_make_none (command.Weak x) asks = absurd (false≢true asks)
asked_make_none _ asks = refl

-- a command that is none of the collector's leaves a cycle as it is
pub cycle_stays : (in_cycle : Bool) (one : Command) → IsApart one → cycle_after_command in_cycle one ≡ in_cycle
cycle_stays in_cycle command.Mark apart = absurd (false≢true (sym apart))
cycle_stays in_cycle command.Finish apart = absurd (false≢true (sym apart))
cycle_stays in_cycle command.Gc apart = absurd (false≢true (sym apart))
cycle_stays in_cycle command.Census apart = absurd (false≢true (sym apart))
cycle_stays in_cycle _ apart = refl

-- so it leaves all beside the mutator's side
pub rest_stays : (rest : Rest) (one : Command) → IsApart one
    → with_cycle rest (cycle_after_command rest.in_cycle one) ≡ rest
rest_stays rest one apart = ap (with_cycle rest) (cycle_stays rest.in_cycle one apart)

-- where a cycle is as it was, so is all beside the mutator's side
pub rest_without : (rest : Rest) (cycle : Bool) → rest.in_cycle ≡ cycle → rest ≡ with_cycle rest cycle
rest_without rest cycle is = ap (with_cycle rest) is
