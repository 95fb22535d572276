-- A scavenge leaves the free starts of a cycle, and the cells that the mutator made black, where they stand.
use Rattle.std.proofs.Common.{◌≡◌, ℕ, ◌<◌, Bool, List, Contains, Some, IsTrue, sym, ◌∙◌, subst}
use Rattle.std.proofs.lemmas.List.Elements.{All-contains}
use Rattle.tagged_word.specs.Cells.{is_free_kind}
use Rattle.free_runs.specs.FreeRuns.{AreFree}
use Rattle.free_runs.specs.Laws.{IsFreeWord}
use Rattle.object_graph.specs.Graphs.{Graph}
use Rattle.heap_model.specs.Types.{Cell}
use Rattle.heap_model.proofs.CellsApart.{one_at}
use Rattle.mark_laws.proofs.Joins.{all_from}
use Rattle.cycle_state.specs.Resting.{IsUsedPageCell, IsPageCell}
use Rattle.cycle_laws.specs.DeadWords.{NoRunHas}
use Rattle.write_barrier.specs.MutatorState.{Mutator, heap_of, MainShows}
use Rattle.scavenger.specs.Starts.{start_of}
use Rattle.scavenger.specs.Scavenged.{Scavenges, place_after}
use Rattle.scavenger.proofs.PagesRuns.{first_of_run}
use Rattle.scavenger.proofs.TakenWords.{keeps_places}
use Rattle.collector.specs.Promoting.{ScavengesKeepStarts}

module _ {old new : Mutator} {graph : Graph} {all : Bool} (shows : MainShows old graph) (apart : AreFree old.free)
    (scavenged : Scavenges old new all) where
  -- a used cell of a page stays
  used_stays : (at : ℕ) → IsUsedPageCell (heap_of old) at
      → place_after (start_of old) scavenged.homes at ≡ Some at
  used_stays at is =
      subst (λ n. place_after (start_of old) scavenged.homes n ≡ Some n) is.stands
      (keeps_places scavenged is.cell is.words is.has (subst (λ n. n < _) (sym is.stands) is.of_page)
      (λ row run there among stands.
      let free = shows.free row run there among in
      let same : free.cell ≡ is.cell = one_at free.has is.has (free.stands ∙ stands) in
      is.used (subst (λ (it : Cell). IsTrue (is_free_kind it.layout.kind)) same free.free)))

  -- and so does a cell of a page at whose address no free run begins
  own_stays : (mine : List ℕ) (at : ℕ) → NoRunHas old.free mine → Contains mine at → IsPageCell (heap_of old) at
      → place_after (start_of old) scavenged.homes at ≡ Some at
  own_stays mine at none there is =
      subst (λ n. place_after (start_of old) scavenged.homes n ≡ Some n) is.stands
      (keeps_places scavenged is.cell is.words is.has (subst (λ n. n < _) (sym is.stands) is.of_page)
      (λ row run of_rows among stands.
      let first = first_of_run old.free run apart (record { row = row; of_rows = of_rows; among = among }) in
      none at (subst (IsFreeWord old.free) (stands ∙ is.stands) first) there))

-- so starts stay
pub scavenges_keep_starts : ScavengesKeepStarts
scavenges_keep_starts old new graph all cycle shows apart rests none scavenged = (
  (λ at free. used_stays shows apart scavenged at (rests.free at free)),
  all_from _ cycle.mine (λ at there.
      own_stays shows apart scavenged cycle.mine at none there
      (All-contains (IsPageCell (heap_of old)) cycle.mine at rests.mine there)),
)
