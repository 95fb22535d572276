use Rattle.std.proofs.Common.{[], append-nil, refl, sym, subst}
use Rattle.object_graph.specs.Reach.{reached_objects, reached_entries}
use Rattle.object_graph.specs.Texts.{line, census_text}
use Rattle.write_barrier.specs.MutatorState.{Mutator, MainShows}
use Rattle.heap_script.proofs.Asking.{asked_scavenge, asked_mark_by, asked_finish_by, asked_gc, asked_census}
use Rattle.heap_script.proofs.collecting.collect_as_asked.Goals as goal

pub returns-in-Scavenge-clause-carried : goal.returns-in-Scavenge-clause-carried
returns-in-Scavenge-clause-carried c = λ names graph shown.
    let did = c.scavenge.ensures in (
      [],
      rw c.in-Scavenge.is (asked_scavenge did.scavenged did.rooms shown.main did.noted),
      sym (append-nil c.args.out.now),
    )

pub returns-in-Mark-clause-carried : goal.returns-in-Mark-clause-carried
returns-in-Mark-clause-carried c = λ names graph shown.
    let begun = c.begin_cycle.ensures in (
      [],
      rw c.in-Mark.is
          (asked_mark_by c.args.heap.now.rest.in_cycle refl (λ none. begun.begun none graph shown) begun.stays
          (begun.shows graph shown).main),
      sym (append-nil c.args.out.now),
    )

pub returns-in-Finish-clause-carried : goal.returns-in-Finish-clause-carried
returns-in-Finish-clause-carried c = λ names graph shown.
    let ended = c.finish.ensures in (
      [],
      rw c.in-Finish.is
          (asked_finish_by c.args.heap.now.rest.in_cycle refl ended.closed (λ is. ended.collected is graph shown)
          (λ none. subst (λ (main : Mutator). MainShows main graph) (sym (ended.closed none)) shown.main)
          ended.noted),
      sym (append-nil c.args.out.now),
    )

pub returns-in-Gc-clause-carried : goal.returns-in-Gc-clause-carried
returns-in-Gc-clause-carried c = λ names graph shown.
    let ended = c.end_cycle.ensures in (
      [],
      rw c.in-Gc.is (asked_gc (ended.collected graph shown) ended.noted),
      sym (append-nil c.args.out.now),
    )

pub returns-in-Census-clause-carried : goal.returns-in-Census-clause-carried
returns-in-Census-clause-carried c = λ names graph shown.
    let told = c.tell_census.ensures in (
      line (census_text (reached_objects graph) (reached_entries graph)),
      rw c.in-Census.is (asked_census (told.collected graph shown) told.noted),
      told.told graph shown,
    )
