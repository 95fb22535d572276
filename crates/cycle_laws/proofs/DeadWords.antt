-- No cell that a cycle keeps gets a word that was dead when it opened, and no free run has one.
use Rattle.std.proofs.Common.{◌≡◌, ℕ, Option, ◌<◌, inl, inr, List, [], Contains, IsTrue, refl, sym, ap, subst}
use Rattle.std.proofs.Common.{arith}
use Rattle.std.proofs.lemmas.Bool.{cases_lt}
use Rattle.std.proofs.lemmas.List.Elements.{Contains-append_cases, Contains-get_or}
use Rattle.tagged_word.specs.Cells.{is_free_kind}
use Rattle.page_space.specs.Extents.{Space, eden_start}
use Rattle.free_runs.specs.FreeRuns.{row_of}
use Rattle.free_runs.specs.Laws.{IsFreeWord}
use Rattle.free_runs.proofs.PageRows.{page_there}
use Rattle.heap_model.specs.Types.{Cell, Run}
use Rattle.heap_model.specs.Heaps.{Heap, HasCell, words_of_cell}
use Rattle.heap_model.specs.Wholeness.{HasRows, Whole}
use Rattle.heap_model.specs.Changes.{CellsChange}
use Rattle.heap_model.specs.Collectable.{AreFreeRuns}
use Rattle.heap_model.proofs.BoundHeaps.{none_in}
use Rattle.heap_model.proofs.CellsApart.{cells_apart}
use Rattle.heap_moves.proofs.MovedCells.{origin}
use Rattle.live_cells.specs.Exact.{IsWordOf}
use Rattle.live_cells.specs.Laws.{BelongsToReached}
use Rattle.mark_world.specs.Cycles.{Cycle}
use Rattle.cycle_laws.specs.Changes.{JoinsNewCells}
use Rattle.cycle_laws.specs.Scavenges.{PromotesTo, JoinsPromoted}
use Rattle.cycle_laws.specs.DeadWords.{KeepsNoDeadWord, NoRunHas, GrowsNoRun, WasKeptWord, OpensAvoidingDead}
use Rattle.cycle_laws.specs.DeadWords.{ChangesAvoidDead, BindingsAvoidDead, NewObjectsAvoidDead, ScavengesAvoidDead}
use Rattle.cycle_laws.specs.DeadWords.{LiveHasNoDeadWord}
use Rattle.cycle_laws.proofs.BoundKept.{bound_back, new_joins}
use Rattle.cycle_laws.proofs.CarriedCells.{kept_before}
use Rattle.cycle_laws.proofs.KeptTargets.{kept_may_be_blackened}
use Rattle.cycle_laws.proofs.ReachedKept.{live_is_kept}
use Rattle.cycle_laws.proofs.Scavenged.{kept_back}

-- two cells with a word in common are one
pub one_of_word : {heap : Heap} {cell other : Cell} {words others : List ℕ} {at : ℕ} → HasRows heap
    → HasCell heap cell words → HasCell heap other others → IsWordOf cell at → IsWordOf other at → cell ≡ other
one_of_word {at = at} rows has has_other word other_word =
    cells_apart at rows has has_other (record { from = word.from; below = word.below })
    (record { from = other_word.from; below = other_word.below })

-- the word is one of a free cell
pub record IsOfFreeCell (heap : Heap) (at : ℕ) : Type 0 where
  pub cell : Cell
  pub words : List ℕ
  pub has : HasCell heap cell words
  pub of_cell : IsWordOf cell at
  pub free : IsTrue (is_free_kind cell.layout.kind)

-- a word of a free run is
pub free_cell_of : {heap : Heap} {rows : List (List Run)} {at : ℕ} → AreFreeRuns heap rows → IsFreeWord rows at
    → IsOfFreeCell heap at
free_cell_of {rows = rows} are word =
    let run = word.free.run in
    let there = page_there rows word.page run word.free.among in
    let one = are (row_of rows word.page) run (Contains-get_or rows word.page [] there) word.free.among in
    record {
      cell = one.cell;
      words = one.words;
      has = one.has;
      of_cell = record {
        from = omega (arith, one.stands, word.free.of_run.from);
        below = omega (arith, one.stands, one.size, word.free.of_run.below);
      };
      free = one.free;
    }

-- a cycle opens so
pub opens_avoiding_dead : OpensAvoidingDead
opens_avoiding_dead heap rows graph cycle shows are opens = record {
  cells = λ cell words at has used of_page kept word among.
      let one = opens.dead.each at among in
      let same : cell ≡ one.cell = one_of_word shows.whole.rows has one.has word one.of_cell in
      let belongs = (opens.born cell.at).0 (kept_may_be_blackened heap cycle cell.at kept of_page) in
      one.lost (subst (λ (it : Cell). BelongsToReached heap graph it.at) same belongs);
  runs = λ at word among.
      let one = opens.dead.each at among in
      let free = free_cell_of are word in
      let same : free.cell ≡ one.cell = one_of_word shows.whole.rows free.has one.has free.of_cell one.of_cell in
      one.used (subst (λ (it : Cell). IsTrue (is_free_kind it.layout.kind)) same free.free);
}

-- runs that got no word have no dead one
still_none : (before after : List (List Run)) (dead now : List ℕ) → now ≡ dead → GrowsNoRun before after
    → NoRunHas before dead → NoRunHas after now
still_none before after dead now same grows none at word among =
    none at (grows at word) (subst (λ (all : List ℕ). Contains all at) same among)

-- kept cells get none while commands change cells
cells_keep_none : {old new : Heap} {cycle later : Cycle} {gone came made : List Cell} → Whole old
    → CellsChange old new gone came made → JoinsNewCells old new cycle later came made
    → ((cell : Cell) (at : ℕ) → Contains came cell → (IsTrue (is_free_kind cell.layout.kind) → ⊥)
    → cell.at < eden_start new.space → IsWordOf cell at → WasKeptWord old cycle.born gone at)
    → KeepsNoDeadWord old cycle → KeepsNoDeadWord new later
cells_keep_none {old} {new} {cycle} {came = came} {made = made} whole cells joins came_in none cell words at has used
    of_page kept word among =
    let was_dead = subst (λ (all : List ℕ). Contains all at) joins.dead among in
    elim (cells.back cell words has) [
      | inl comes ↦ elim (Contains-append_cases came made cell comes) [
        | inl came_there ↦
            let was = came_in cell at came_there used of_page word in
            none was.cell (words_of_cell old was.cell) at (cells.went was.cell was.among) was.used was.of_page was.kept
            was.of_cell was_dead
        | inr made_there ↦ (let young = joins.young cell made_there in omega (arith, young, of_page))
      ]
      | inr stood ↦
          let below = subst (λ (space : Space). cell.at < eden_start space) cells.same_space of_page in
          let was = kept_before whole cells joins cell.at (record {
            cell = cell;
            words = words;
            has = stood.0;
            stands = refl;
            used = used;
          }) kept in
          none cell words at stood.0 used below was word was_dead
    ]

-- it goes on so then
pub changes_avoid_dead : ChangesAvoidDead
changes_avoid_dead old new before after cycle later gone came made whole cells joins came_in grows avoids = record {
  cells = cells_keep_none whole cells joins came_in avoids.cells;
  runs = still_none before after cycle.dead later.dead joins.dead grows avoids.runs;
}

-- a variable that is bound anew
pub bindings_avoid_dead : BindingsAvoidDead
bindings_avoid_dead heap rows variable one cycle below whole avoids = record {
  cells = λ cell words at has.
      avoids.cells cell words at (bound_back variable one below whole has);
  runs = avoids.runs;
}

-- a young cell that is made
pub new_objects_avoid_dead : NewObjectsAvoidDead
new_objects_avoid_dead old new rows variable cell one cycle below whole whole_new cells young avoids =
    let joins = new_joins old new cycle cell young in
    bindings_avoid_dead new rows variable one cycle below whole_new (record {
      cells = cells_keep_none whole cells joins (λ other at there. absurd (none_in other there)) avoids.cells;
      runs = avoids.runs;
    })

-- kept cells get none over a scavenge that promotes into other words
scavenges_keep_none : {old new : Heap} {to : ℕ → Option ℕ} {promoted : List ℕ} {cycle later : Cycle}
    → PromotesTo old new to promoted → JoinsPromoted cycle later promoted
    → ((cell : Cell) (words : List ℕ) (at : ℕ) → HasCell new cell words → Contains promoted cell.at → IsWordOf cell at
    → Contains cycle.dead at → ⊥)
    → KeepsNoDeadWord old cycle → KeepsNoDeadWord new later
scavenges_keep_none {old} {new} promotes joins avoid none cell words at has used of_page kept word among =
    let was_dead = subst (λ (all : List ℕ). Contains all at) joins.dead among in
    let from = origin promotes.moved has used in
    let was : Cell = from.was in
    let below = subst (λ (space : Space). cell.at < eden_start space) promotes.moved.space of_page in
    elim (cases_lt was.at (eden_start old.space)) [
      | inr young ↦ elim (promotes.young was.at cell.at young from.stays) [
        | inl still ↦ omega (arith, still, below)
        | inr came ↦ avoid cell words at has came word was_dead
      ]
      | inl old_page ↦
          let here : cell.at ≡ was.at = promotes.in_place was.at cell.at old_page from.stays in
          let size : was.size ≡ cell.size = ap (λ (one : Cell). one.size) from.same in
          let was_used = subst (λ (one : Cell). IsTrue (is_free_kind one.layout.kind) → ⊥) (sym from.same) used in
          let was_word : IsWordOf was at =
          record { from = omega (arith, word.from, here); below = omega (arith, word.below, here, size) } in
          none was from.words at from.had was_used old_page (kept_back promotes joins cell.at from.had from.stays kept)
          was_word was_dead
    ]

-- so it goes on over each
pub scavenges_avoid_dead : ScavengesAvoidDead
scavenges_avoid_dead old new to promoted before after cycle later promotes into joins avoids = record {
  cells = scavenges_keep_none promotes joins
      (λ cell words at has came word. avoids.runs at (into.taken cell words at has came word)) avoids.cells;
  runs = still_none before after cycle.dead later.dead joins.dead into.left avoids.runs;
}

-- what is live in the end has none
pub live_has_no_dead_word : LiveHasNoDeadWord
live_has_no_dead_word heap cycle given cell words at keeps starts none has used of_page live =
    none cell words at has used of_page (live_is_kept heap cycle given cell.at keeps starts live)
