-- A scavenge takes words of free runs for cells that it promotes, and throws none away.
use Rattle.std.proofs.Common.{◌≡◌, ℕ, ◌+◌, ◌<◌, ◌≤◌, inl, inr, Bool, Contains, Some, slice_get}
use Rattle.std.proofs.Common.{sym, ◌∙◌, ap, subst, arith}
use Rattle.std.proofs.lemmas.Bool.{cases_Bool}
use Rattle.std.proofs.lemmas.Option.{slice_get-get_or}
use Rattle.page_space.specs.Extents.{Space, eden_start, marks_start}
use Rattle.page_space.proofs.Starts.{layouts_start_is, marks_start_is}
use Rattle.cell_layout.proofs.OneCell.{slots_lie_within}
use Rattle.handle_roots.specs.Roots.{root_at}
use Rattle.heap_model.specs.Slots.{reference_word}
use Rattle.heap_model.specs.Wholeness.{HasSizes}
use Rattle.heap_model.specs.Remembered.{AreRemembered}
use Rattle.heap_model.specs.Reaching.{IsReached}
use Rattle.heap_model.proofs.CellsApart.{has_is_cell}
use Rattle.heap_model.proofs.CellWords.{word_there}
use Rattle.write_barrier.specs.MutatorState.{Mutator, heap_of, MainShows}
use Rattle.object_graph.specs.Graphs.{Graph}
use Rattle.scav_copy.specs.Places.{Fixed, offsets_of}
use Rattle.scav_copy.specs.Renamings.{IsReachable, RefersToAddress}
use Rattle.scav_copy.proofs.Spots.{reached_is}
use Rattle.scavenger.specs.Starts.{Start, Begins, IsYoungCell, IsRootAt, start_of}
use Rattle.scavenger.specs.Filling.{IsInPromoted}
use Rattle.scavenger.specs.Walking.{IsToPromote}
use Rattle.scavenger.specs.Scavenged.{Scavenges, begins_free, place_after}
use Rattle.scavenger.specs.Laws.{IsOfPromoted, KeepsPlaces, ScavengesTakeWords}
use Rattle.scavenger.proofs.EndPlaces.{stays_in_page}
use Rattle.scavenger.proofs.EndRuns.{found_run}
use Rattle.heap_walk.proofs.SlotTargets.{word_found}
use Rattle.scavenger.proofs.PromotedCells.{copy_at, promotes_what_fits, promotes_no_other}
use Rattle.scavenger.proofs.Tight.{own_slot, refers_by, word_refers}

module _ {start : Start} {fixed : Fixed} (sized : HasSizes start.heap)
    (remembered : AreRemembered start.heap start.recorded) (begins : Begins start fixed) where
  -- what a variable referred to was reached
  variable_reached : (slot at : ℕ) → IsRootAt start.heap.space slot → RefersToAddress fixed.before slot at
      → IsReached start.heap at
  variable_reached slot at root refers =
      let space : Space = start.heap.space in
      let place : ℕ = root_at space root.variable in
      let there : place < marks_start space = omega (arith, root.known, layouts_start_is space, marks_start_is space) in
      let holds = slice_get-get_or start.heap.words place 0 (omega (arith, sized.words, there)) in
      let is = subst (λ n. RefersToAddress fixed.before n at) root.stands refers in
      IsReached.by_variable root.variable at root.known (holds ∙ ap (λ n. Some n) (refers_by begins place at is))

  -- so was what a recorded slot referred to
  recorded_reached : (slot at : ℕ) → Contains start.recorded slot → RefersToAddress fixed.before slot at
      → IsReached start.heap at
  recorded_reached slot at recorded refers =
      let found = ((remembered slot).0 recorded).0 in
      let within =
      (slots_lie_within start.heap.space start.heap.words found.cell found.slot.offset (has_is_cell found.has)
      found.slot.visited).within in
      let there = word_there found.slot.offset found.has within in
      let is = word_refers begins found.slot.offset at there.0 found.has there.1
      (subst (λ n. RefersToAddress fixed.before n at) (sym found.slot.stands) refers) in
      IsReached.by_page slot at found
      (subst (λ n. slice_get start.heap.words n ≡ Some (reference_word at)) found.slot.stands
      (word_found found.slot.offset (reference_word at) found.has within (there.1 ∙ ap (λ n. Some n) is)))

  -- what a scavenge reached was reached in the heap that it began with
  was_reached : (at : ℕ) → IsReachable fixed at → IsReached start.heap at
  was_reached _ (IsReachable.by_slot slot cell among refers is) =
      elim ((begins.slots slot).0 among) [
        | inl root ↦ variable_reached slot cell root refers
        | inr recorded ↦ recorded_reached slot cell recorded refers
      ]
  was_reached _ (IsReachable.by_cell host offset cell from slot refers is) =
      let young : IsYoungCell start.heap host = (begins.cells host).0 (reached_is fixed host from) in
      let own = own_slot begins offset young.has
      (subst (λ n. Contains (offsets_of fixed n) offset) (sym young.stands) slot) in
      let within =
      (slots_lie_within start.heap.space start.heap.words young.cell offset (has_is_cell young.has) own).within in
      let there = word_there offset young.has within in
      let refers_to = word_refers begins offset cell there.0 young.has there.1
      (subst (λ n. RefersToAddress fixed.before (n + offset) cell) (sym young.stands) refers) in
      IsReached.by_slot young.cell young.words offset cell
      (subst (IsReached start.heap) (sym young.stands) (was_reached host from)) young.has own
      (there.1 ∙ ap (λ n. Some n) refers_to)

-- a word of a home copy in a page is one of a cell that was promoted
pub of_promoted : (old new : Mutator) (graph : Graph) (all : Bool) (at : ℕ) → MainShows old graph
    → (scavenged : Scavenges old new all) → IsInPromoted (start_of old) scavenged.fixed scavenged.homes at
    → IsOfPromoted (heap_of old) (heap_of new) all (place_after (start_of old) scavenged.homes) at
of_promoted old new graph all at shows scavenged (home, among, in_page, in_copy) =
    let copy = copy_at scavenged home among in
    let is = copy.is in
    record {
      cell = is.cell;
      words = is.words;
      had = is.has;
      young = subst (λ n. eden_start old.seat.space ≤ n) (sym is.stands) is.young;
      reached =
          subst (IsReached (heap_of old)) (sym is.stands)
          (was_reached shows.shows.whole.sized shows.remembered scavenged.begins home.from copy.reached);
      to_promote = subst (λ n. IsToPromote old.seat.space all n) (sym is.stands) (scavenged.stays home among in_page);
      now = home.to;
      came = copy.came;
      others = copy.stands.others;
      has = copy.stands.has;
      of_page = subst (λ space. home.to < eden_start space) (sym scavenged.moved.space) in_page;
      from = in_copy.from;
      below = omega (arith, in_copy.below, copy.size);
    }

-- each cell of a page stays where it stands, unless a free run begins there
pub keeps_places : {old new : Mutator} {all : Bool} (scavenged : Scavenges old new all)
    → KeepsPlaces (heap_of old) old.free (place_after (start_of old) scavenged.homes)
keeps_places {old} scavenged cell words has below none =
    elim (cases_Bool (begins_free old.free cell.at)) [
      | inl found ↦
          let one = found_run old.free cell.at found in
          absurd (none one.is.row one.run one.is.of_rows one.is.among one.stands)
      | inr free ↦ stays_in_page (start_of old) scavenged.homes cell.at below free
    ]

-- a scavenge takes words of free runs for cells that it promotes alone, promotes just what fits, and leaves cells of
-- pages in their places
pub scavenges_take_words : ScavengesTakeWords
scavenges_take_words old new graph all shows scavenged = (
  record {
    to = place_after (start_of old) scavenged.homes;
    moved = scavenged.moved;
    taken = λ at was.
        elim ((scavenged.left at).0 was) [
          | inl is_free ↦ inl is_free
          | inr inside ↦ inr (of_promoted old new graph all at shows scavenged inside)
        ];
    no_other = λ at is_free. (scavenged.left at).1 (inl is_free);
  },
  promotes_what_fits scavenged,
  promotes_no_other scavenged,
  keeps_places scavenged,
)
