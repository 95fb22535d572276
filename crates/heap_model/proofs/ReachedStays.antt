-- Each object that can be reached has one place, whose cell shows it, after a change too.
use Rattle.std.proofs.Common.{◌≡◌, ◌≢◌, ℕ, ◌<◌, ◌≤◌, Bool, List, length, Contains, IsTrue, inl, inr}
use Rattle.std.proofs.Common.{refl, sym, ◌∙◌, ap, arith}
use Rattle.std.proofs.lemmas.List.Elements.{Contains-append_left, Contains-append_cases}
use Rattle.heap_model.specs.Types.{Object, Cell}
use Rattle.object_graph.specs.declared.object.Object.TheVariants as graph_object
use Rattle.object_graph.specs.Graphs.{Graph}
use Rattle.object_graph.specs.Reach.{is_marked, reach}
use Rattle.object_graph.proofs.Rounds.{marked_within, length-rounds}
use Rattle.heap_model.specs.Heaps.{Heap, words_of_cell}
use Rattle.tagged_word.specs.Cells.{is_object_kind}
use Rattle.heap_model.specs.Slots.{IsPlace}
use Rattle.heap_model.specs.Showing.{ShowsReached}
use Rattle.heap_model.specs.Changes.{IsShown}
use Rattle.heap_model.proofs.CellOutcomes.{object_is_no_filler, stays_standing}
use Rattle.heap_model.proofs.Moves.{Moves}
use Rattle.heap_model.proofs.KeptObjects.{Keeps}
use Rattle.heap_model.proofs.PlacesBefore.{AreNumberedFrom, place_before}
use Rattle.heap_model.proofs.ShownObjects.{ObjectKeysStay, AreMarkedBelow, object_shown, object_of_shown}

-- what can be reached is an object of the graph
pub reach_below : (graph : Graph) → AreMarkedBelow (reach graph) (length graph.objects)
reach_below graph number marked =
    omega (arith, marked_within (reach graph) number marked, length-rounds graph (length graph.objects))

-- where nothing more can be reached, the keys of an object stay
pub keys_stay : (old : Heap) (before after : List Bool) (words : List ℕ) (what : Object)
    → ((number : ℕ) → IsTrue (is_marked after number) → IsTrue (is_marked before number))
    → ObjectKeysStay old before after words what
keys_stay old before after words (graph_object.Plain cap proto fields) reached = tt
keys_stay old before after words (graph_object.List elements) reached = tt
keys_stay old before after words (graph_object.Weak entries) reached = record {
  of_entries = λ at entry there marked. reached entry.key marked;
  of_pairs = λ pair number has refers marked. reached number marked;
}

-- an object no cell of which went is shown as before
pub reached_stays : {old new : Heap} {gone came made : List Cell} (count : ℕ) (before after : List Bool) (number : ℕ)
    (what : Object) → Moves old new gone came made → AreNumberedFrom count made → AreMarkedBelow before count
    → number < count → (shown : ShowsReached old before number what)
    → ((cell : Cell) → Contains gone cell → IsTrue (is_object_kind cell.layout.kind) → cell.header.object ≢ number)
    → ObjectKeysStay old before after shown.words what → ShowsReached new after number what
reached_stays {old} {new} {gone} count before after number what moves numbered marked below shown stood keys =
    let object = object_of_shown old before shown.cell shown.words what shown.shows in
    let not_gone = λ (there : Contains gone shown.cell). stood shown.cell there object shown.carries in
    let no_filler = object_is_no_filler shown.cell.layout.kind object in
    let has = stays_standing moves.cells shown.has no_filler not_gone in
    let keeps : Keeps old new gone shown.cell shown.words =
    record { had = shown.has; has = has; not_gone = not_gone; object = object } in
    record {
      cell = shown.cell;
      words = shown.words;
      has = has;
      carries = shown.carries;
      shows = object_shown count before after what moves keeps numbered marked keys shown.shows;
      once = λ at place. shown.once at (place_before count moves numbered below place);
    }

-- an object that a cell shows that came is shown by it alone
pub reached_came : {old new : Heap} {gone came made : List Cell} (count : ℕ) (before after : List Bool) (number : ℕ)
    (what was : Object) → Moves old new gone came made → AreNumberedFrom count made → number < count
    → ShowsReached old before number was → IsShown new after came number what → ShowsReached new after number what
reached_came {old} {new} {gone} {came} {made} count before after number what was moves numbered below had shown =
    let cell : Cell = shown.cell in
    let object = object_of_shown new after cell (words_of_cell new cell) what shown.shows in
    let has = moves.cells.comes cell (Contains-append_left came made cell shown.among) in
    let here : IsPlace new number cell.at = record {
      cell = cell;
      words = words_of_cell new cell;
      has = has;
      stands = refl;
      object = object;
      carries = shown.carries;
    } in
    let stood : cell.at ≡ had.cell.at = had.once cell.at (place_before count moves numbered below here) in
    record {
      cell = cell;
      words = words_of_cell new cell;
      has = has;
      carries = shown.carries;
      shows = shown.shows;
      once = λ at place. had.once at (place_before count moves numbered below place) ∙ sym stood;
    }

-- each place is that of an object that was made
pub made_below : {old new : Heap} {gone came made : List Cell} (count more : ℕ) → Moves old new gone came made
    → count ≤ more → ((number at : ℕ) → IsPlace old number at → number < count)
    → ((cell : Cell) → Contains made cell → IsTrue (is_object_kind cell.layout.kind) → cell.header.object < more)
    → (number at : ℕ) → IsPlace new number at → number < more
made_below {old} {gone = gone} {came} {made} count more moves few old_below numbered number at place =
    elim (moves.cells.back place.cell place.words place.has) [
      | inl comes ↦ elim (Contains-append_cases came made place.cell comes) [
        | inl in_came ↦
            let still = moves.own.objects_stood place.cell in_came place.object in
            let before : IsPlace old number at = record {
              cell = still.other;
              words = words_of_cell old still.other;
              has = moves.cells.went still.other still.among;
              stands = still.place ∙ place.stands;
              object = ap is_object_kind still.of_kind ∙ place.object;
              carries = still.number ∙ place.carries;
            } in
            omega (arith, old_below number at before, few)
        | inr in_made ↦ omega (arith, numbered place.cell in_made place.object, place.carries)
      ]
      | inr stays ↦
          let before : IsPlace old number at = record {
            cell = place.cell;
            words = place.words;
            has = stays.0;
            stands = place.stands;
            object = place.object;
            carries = place.carries;
          } in
          omega (arith, old_below number at before, few)
    ]
