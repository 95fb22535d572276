-- A heap that keeps nothing but what can be reached has the census of its graph.
use Rattle.std.proofs.Common.{◌≡◌, ◌≢◌, ℕ, ◌<◌, Bool, true, false, List, [], length, map, get_or, Option, Some, None}
use Rattle.std.proofs.Common.{Contains, slice_get, unwrap_or, IsTrue, refl, sym, ◌∙◌, ap, subst, arith}
use Rattle.std.specs.List.{AllPairs}
use Rattle.std.specs.List.Sorted.{IsPermutation}
use Rattle.std.proofs.lemmas.List.{length-map}
use Rattle.std.proofs.lemmas.List.Elements.{Contains-get_or}
use Rattle.std.proofs.lemmas.List.Kept.{AllPairs-filter}
use Rattle.std.proofs.lemmas.List.Sorted.{length_permutation, sum_by-IsPermutation}
use Rattle.std.proofs.lemmas.Option.{get_or_from_slice_get}
use Rattle.tagged_word.proofs.Members.{filter_from, filter_true, in_filter, in_map, map_from}
use Rattle.heap_model.specs.Types.{Object, Cell}
use Rattle.object_graph.specs.declared.object.Object.TheVariants as graph_object
use Rattle.object_graph.specs.Graphs.{Graph}
use Rattle.object_graph.specs.Invariants.{IsGraph}
use Rattle.object_graph.specs.Reach.{is_marked, reach, marked_entries}
use Rattle.object_graph.proofs.Rounds.{length-rounds}
use Rattle.heap_model.specs.Heaps.{Heap, Row, AreRows, HasCell, words_of_cell}
use Rattle.tagged_word.specs.Cells.{is_object_kind}
use Rattle.heap_model.specs.Slots.{IsPlace}
use Rattle.heap_model.specs.Showing.{ShowsObject, ShowsReached}
use Rattle.heap_model.proofs.CellsApart.{one_at, used_few}
use Rattle.heap_model.proofs.ShownObjects.{object_of_shown}
use Rattle.live_cells.specs.Exact.{KeepsNoOther}
use Rattle.live_cells.specs.Census.{objects_in, pairs_counted, KeepsTheCensus}
use Rattle.live_cells.proofs.CellLists.{IsBefore, cells_in, cells_ascend, cell_among, among_has}
use Rattle.live_cells.proofs.PairCounts.{kept_maps_have_no_others}
use Rattle.live_cells.proofs.ReachedMarked.{shown}
use Rattle.live_cells.proofs.ReachedNumbers.{numbers_from, numbers_long, number_among, marked_among, numbers_differ}
use Rattle.live_cells.proofs.ReachedNumbers.{numbers_sum}
use Rattle.live_cells.proofs.SameNumbers.{map_apart, sum_by_number, same_numbers}

-- a mark that is true stands there
true_there : (mark : Option Bool) → unwrap_or mark false ≡ true → mark ≡ Some true
true_there None is = absurd (cc)
true_there (Some mark) is = ap (λ one. Some one) is

-- the number that a cell carries
abbrev number_of : Cell → ℕ
number_of cell = cell.header.object

-- an object without fields
abbrev no_object : Object
no_object = graph_object.List []

-- how many entries with a key that can be reached the object has
abbrev entries_of : Graph → ℕ → ℕ
entries_of graph number = marked_entries (reach graph) (get_or graph.objects number no_object)

module _ {heap : Heap} {graph : Graph} {rows : List Row} (is_graph : IsGraph graph) (keeps : KeepsNoOther heap graph)
    (are : AreRows heap rows) where
  -- a cell of the list is one of the heap
  cell_of : (cell : Cell) → Contains (objects_in rows) cell → HasCell heap cell (words_of_cell heap cell)
  cell_of cell there =
      among_has are cell (filter_from (λ (one : Cell). is_object_kind one.layout.kind) (cells_in rows) cell there)

  -- it is the place of an object
  place_of : (cell : Cell) → Contains (objects_in rows) cell → IsPlace heap (number_of cell) cell.at
  place_of cell there = record {
    cell = cell;
    words = words_of_cell heap cell;
    has = cell_of cell there;
    stands = refl;
    object = filter_true (λ (one : Cell). is_object_kind one.layout.kind) (cells_in rows) cell there;
    carries = refl;
  }

  -- an object that can be reached, as a cell of the list shows it
  record IsShownBy (cell : Cell) : Type 0 where
    what : Object
    words : List ℕ
    stands : slice_get graph.objects (number_of cell) ≡ Some what
    reached : IsTrue (is_marked (reach graph) (number_of cell))
    shows : ShowsObject heap (reach graph) cell words what
    once : (at : ℕ) → IsPlace heap (number_of cell) at → at ≡ cell.at

  -- it is shown by each cell of the list
  shown_by : (cell : Cell) → Contains (objects_in rows) cell → IsShownBy cell
  shown_by cell there =
      let place = place_of cell there in
      let reached = keeps.reached (number_of cell) cell.at place in
      let is = shown (number_of cell) keeps.shows reached in
      let one : ShowsReached heap (reach graph) (number_of cell) is.0 = is.2 in
      let same : one.cell ≡ cell = one_at one.has (cell_of cell there) (sym (one.once cell.at place)) in
      record {
        what = is.0;
        words = one.words;
        stands = is.1;
        reached = reached;
        shows = subst (λ (c : Cell). ShowsObject heap (reach graph) c one.words is.0) same one.shows;
        once = λ at is_place. one.once at is_place ∙ ap (λ (c : Cell). c.at) same;
      }

  -- no two cells of the list carry one number
  carry_apart : AllPairs (λ one other. number_of one ≢ number_of other) (objects_in rows)
  carry_apart =
      let some : Cell → Bool = λ one. is_object_kind one.layout.kind in
      let ascend = AllPairs-filter IsBefore some (cells_in rows) (cells_ascend are (used_few keeps.shows.whole.rows)) in
      λ i k d less within same.
      let first : Cell = get_or (objects_in rows) i d in
      let second : Cell = get_or (objects_in rows) k d in
      let there = Contains-get_or (objects_in rows) i d (omega (arith, less, within)) in
      let there_too = Contains-get_or (objects_in rows) k d within in
      let at = (shown_by second there_too).once first.at
      (subst (λ n. IsPlace heap n first.at) same (place_of first there)) in
      let before : first.at < second.at = ascend i k d less within in
      omega (arith, at, before)

  -- the numbers that they carry are those of what can be reached
  same_as_reached : IsPermutation (map number_of (objects_in rows)) (numbers_from 0 (reach graph))
  same_as_reached =
      same_numbers (map number_of (objects_in rows)) (numbers_from 0 (reach graph))
      (map_apart number_of (objects_in rows) carry_apart) (numbers_differ 0 (reach graph))
      (λ x there.
      let from = map_from number_of (objects_in rows) x there in
      let is = shown_by from.0 from.1 in
      number_among 0 (number_of from.0) x (reach graph)
      (true_there (slice_get (reach graph) (number_of from.0)) is.reached) (omega (arith, from.2)))
      (λ x there.
      let one = marked_among 0 x (reach graph) there in
      let same : one.place ≡ x = omega (arith, one.is) in
      let reached : is_marked (reach graph) x ≡ true =
      subst (λ n. is_marked (reach graph) n ≡ true) same
      (ap (λ (mark : Option Bool). unwrap_or mark false) one.marked) in
      let is = shown x keeps.shows reached in
      let by : ShowsReached heap (reach graph) x is.0 = is.2 in
      let object = object_of_shown heap (reach graph) by.cell by.words is.0 by.shows in
      let among = in_filter (λ (one : Cell). is_object_kind one.layout.kind) (cells_in rows) by.cell object
      (cell_among are by.has) in
      subst (Contains (map number_of (objects_in rows))) by.carries (in_map number_of (objects_in rows) by.cell among))

  -- what a cell of the list counts, by what it shows
  counted_by : (cell : Cell) (words : List ℕ) (what : Object) → IsPlace heap (number_of cell) cell.at
      → slice_get graph.objects (number_of cell) ≡ Some what → IsTrue (is_marked (reach graph) (number_of cell))
      → ShowsObject heap (reach graph) cell words what
      → pairs_counted heap cell.layout.kind cell.at ≡ marked_entries (reach graph) what
  counted_by cell words (graph_object.Plain cap proto fields) place there reached shows =
      ap (λ k. pairs_counted heap k cell.at) shows.0.of_kind
  counted_by cell words (graph_object.List elements) place there reached shows =
      ap (λ k. pairs_counted heap k cell.at) shows.of_kind
  counted_by cell words (graph_object.Weak entries) place there reached shows =
      ap (λ k. pairs_counted heap k cell.at) shows.of_kind ∙ kept_maps_have_no_others is_graph keeps (record {
        number = number_of cell;
        place = place;
        stands = there;
        reached = reached;
      })

  -- it counts the entries of its object
  counts_entries : (cell : Cell) → Contains (objects_in rows) cell
      → pairs_counted heap cell.layout.kind cell.at ≡ entries_of graph (number_of cell)
  counts_entries cell there =
      let is = shown_by cell there in
      counted_by cell is.words is.what (place_of cell there) is.stands is.reached is.shows
      ∙ sym (ap (marked_entries (reach graph))
      (get_or_from_slice_get graph.objects (number_of cell) is.what no_object is.stands))

-- it has the census
pub keeps_the_census : KeepsTheCensus
keeps_the_census heap graph rows is_graph keeps are =
    let order = same_as_reached is_graph keeps are in
    let carried : List ℕ = map number_of (objects_in rows) in
    let reached : List ℕ = numbers_from 0 (reach graph) in
    record {
      objects = sym (length-map (objects_in rows) number_of) ∙ sym (length_permutation carried reached order)
          ∙ numbers_long 0 (reach graph);
      entries = sum_by_number (entries_of graph) number_of
          (λ (cell : Cell). pairs_counted heap cell.layout.kind cell.at) (objects_in rows)
          (counts_entries is_graph keeps are) ∙ sym (sum_by-IsPermutation (entries_of graph) carried reached order)
          ∙ numbers_sum (reach graph) (entries_of graph) 0 (reach graph) graph.objects
          (length-rounds graph (length graph.objects))
          (λ k x what there is.
          let same : k ≡ x = omega (arith, is) in
          ap (marked_entries (reach graph)) (get_or_from_slice_get graph.objects x what no_object
          (subst (λ n. slice_get graph.objects n ≡ Some what) same there)));
    }
