-- A pair was removed whose key cannot be reached: the heap shows what it showed.
use Rattle.std.proofs.Common.{◌≡◌, ◌≢◌, ℕ, ◌<◌, inl, inr, Bool, List, [], ◌∷◌, Some, slice_get, refl, sym, ◌∙◌, ap}
use Rattle.std.proofs.Common.{subst, arith}
use Rattle.std.specs.Prelude.{IsFalse, IsTrue}
use Rattle.std.proofs.lemmas.Bool.{cases_eq, false≢true}
use Rattle.tagged_word.specs.declared.layout.Kind.TheVariants as kind
use Rattle.tagged_word.proofs.Members.{first_in}
use Rattle.write_barrier.specs.Seats.{heap_words}
use Rattle.object_graph.specs.declared.object.Object.TheVariants as graph_object
use Rattle.object_graph.specs.Graphs.{Graph}
use Rattle.object_graph.specs.Reach.{is_marked, reach}
use Rattle.heap_model.specs.Types.{Cell, Entry, Object}
use Rattle.heap_model.specs.Heaps.{words_of_cell}
use Rattle.heap_model.specs.Slots.{RefersToPlace}
use Rattle.heap_model.specs.Kinds.{Pair}
use Rattle.heap_model.specs.Wholeness.{Whole}
use Rattle.heap_model.specs.Changes.{CellsChange, IsOwnChange, IsShown, Stays}
use Rattle.heap_model.specs.Showing.{IsKnownKey, ShowsEntry, ShowsObject, ShowsOnce, ShowsReached, ShowsWeak}
use Rattle.heap_model.proofs.BoundHeaps.{none_in}
use Rattle.heap_model.proofs.CellsApart.{one_at}
use Rattle.heap_model.proofs.NewKeys.{one_number}
use Rattle.heap_model.proofs.ShownGraphs.{own_changes_show}
use Rattle.heap_model.proofs.WordsStay.{PlacesStay, refers_to_place_stays, shown_value}
use Rattle.write_barrier.specs.MutatorState.{Mutator, heap_of}
use Rattle.object_cells.proofs.OwnSteps.{OwnStep, own_box_stays, own_places_stay, went_object}
use Rattle.weak_pairs.specs.Pairs.{IsFilledAt}
use Rattle.weak_pairs.specs.Tables.{pairs_of}
use Rattle.weak_pairs.specs.declared.table.Table.{Table}
use Rattle.weak_pairs.proofs.FilledPairs.{same_filled}
use Rattle.weak_pairs.proofs.PairWords.{one_pairs}
use Rattle.ephemeron_table.specs.Pairs.{StaysShown}
use Rattle.ephemeron_table.specs.Removals.{RemovesAt}
use Rattle.ephemeron_table.proofs.KnownTables.{KnownMap, are_before, cell, cell_has, other}
use Rattle.ephemeron_table.proofs.MapsWithout.{are_after, no_box, refers_back, refills_weak}
use Rattle.ephemeron_table.proofs.ReplacedPairs.{weak_step}
use Rattle.ephemeron_table.proofs.ShownEntries.{key_filled}

module _ {old new : Mutator} {map place : ℕ} {table : Table} (known : KnownMap old map table)
    (some : 0 < table.capacity) (removes : RemovesAt old new map table place) (taken : Pair)
    (filled : IsFilledAt (pairs_of (heap_words old.seat) table) place taken) (marks : List Bool) (number : ℕ)
    (key : RefersToPlace (heap_of old) taken.key number) (unmarked : IsFalse (is_marked marks number)) where
  -- the pairs before and after
  abbrev before : List Pair
  before = pairs_of (heap_words old.seat) table

  abbrev after : List Pair
  after = pairs_of (heap_words new.seat) table

  -- the cells of the map and of its table changed
  abbrev both : List Cell
  both = cell known ∷ other known some ∷ []

  step : OwnStep (heap_of old) (heap_of new) (cell known) (cell known) (other known some ∷ [])
      (other known some ∷ []) []
  step = weak_step (refills_weak known some removes taken filled)

  places : PlacesStay (heap_of old) (heap_of new)
  places = own_places_stay step

  -- a pair shows the entry that it showed
  entry_stays : (pair : Pair) (entry : Entry) → ShowsEntry (heap_of old) pair entry
      → ShowsEntry (heap_of new) pair entry
  entry_stays pair entry shows = record {
    key = refers_to_place_stays places shows.key;
    value = shown_value pair.value places
        (own_box_stays step pair.value (λ one among box same. no_box known some removes taken filled one among box))
        shows.value;
  }

  -- the key of a pair is known as before
  key_stays : (entries : List Entry) (pair : Pair) → IsKnownKey (heap_of old) marks entries pair
      → IsKnownKey (heap_of new) marks entries pair
  key_stays entries pair (IsKnownKey.of_entry entry at there marked refers) =
      IsKnownKey.of_entry entry at there marked (refers_to_place_stays places refers)
  key_stays entries pair (IsKnownKey.unreached one refers none) =
      IsKnownKey.unreached one (refers_to_place_stays places refers) none

  -- a pair of a key that can be reached is another one
  is_another : (entry : Entry) (at : ℕ) (pair : Pair) → IsFilledAt before at pair
      → RefersToPlace (heap_of old) pair.key entry.key → IsTrue (is_marked marks entry.key) → at ≢ place
  is_another entry at pair stood refers marked same =
      let one : pair ≡ taken = same_filled before at place pair taken same stood filled in
      let number_is : entry.key ≡ number =
      one_number (heap_of old) taken.key entry.key number
      (subst (λ (p : Pair). RefersToPlace (heap_of old) p.key entry.key) one refers) key in
      false≢true (sym unmarked ∙ subst (λ n. IsTrue (is_marked marks n)) number_is marked)

  module _ {entries : List Entry} (shown : ShowsWeak (heap_of old) marks (cell known)
      (words_of_cell (heap_of old) (cell known)) entries) where
    -- the pairs before are those that showed the entries
    were : before ≡ shown.pairs
    were = one_pairs (are_before known) (record { store = shown.store; slot = shown.slot; table = shown.table })

    -- an entry whose key can be reached is shown once
    once_stays : (entry : Entry) → IsTrue (is_marked marks entry.key) → ShowsOnce (heap_of old) shown.pairs entry
        → ShowsOnce (heap_of new) after entry
    once_stays entry marked once =
        let stood : IsFilledAt before once.at once.pair =
        key_filled once.at once.pair (ap (λ all. slice_get all once.at) were ∙ once.stands) once.shows.key in
        let kept = removes.removed.kept once.at once.pair stood
        (is_another entry once.at once.pair stood once.shows.key marked) in
        record {
          at = kept.0;
          pair = once.pair;
          stands = kept.1.stands;
          shows = entry_stays once.pair entry once.shows;
          once = λ at another there refers.
              let is : IsFilledAt after at another = key_filled at another there refers in
              let from = removes.removed.from at another is in
              let came = once.once (removes.removed.origin at) another
              (ap (λ all. slice_get all (removes.removed.origin at)) (sym were) ∙ from.0.stands)
              (refers_back known some removes taken filled another.key entry.key refers) in
              removes.removed.apart at kept.0 another once.pair is kept.1 (came ∙ sym kept.2);
        }

    -- so the map's cell shows the entries
    weak_stays : ShowsWeak (heap_of new) marks (cell known) (words_of_cell (heap_of new) (cell known)) entries
    weak_stays =
        let are = are_after known some removes taken filled in
        record {
          of_kind = shown.of_kind;
          store = are.store;
          slot = are.slot;
          pairs = after;
          table = are.table;
          each = λ at entry there marked. once_stays entry marked (shown.each at entry there marked);
          others = λ at pair there is_filled.
              let from = removes.removed.from at pair (record { stands = there; filled = is_filled }) in
              key_stays entries pair (shown.others (removes.removed.origin at) pair
              (ap (λ all. slice_get all (removes.removed.origin at)) (sym were) ∙ from.0.stands) is_filled);
        }

  -- what the map's cell showed it shows
  object_stays : (what : Object)
      → ShowsObject (heap_of old) marks (cell known) (words_of_cell (heap_of old) (cell known)) what
      → ShowsObject (heap_of new) marks (cell known) (words_of_cell (heap_of new) (cell known)) what
  object_stays (graph_object.Plain cap proto fields) shown =
      let apart : kind.Weak ≡ kind.Plain = sym known.there.of_kind ∙ shown.0.of_kind in
      cc
  object_stays (graph_object.List elements) shown =
      let apart : kind.Weak ≡ kind.List = sym known.there.of_kind ∙ shown.of_kind in
      cc
  object_stays (graph_object.Weak entries) shown = weak_stays shown

  -- so the map is shown
  map_stays : (one : ℕ) (what : Object) → (cell known).header.object ≡ one
      → ShowsReached (heap_of old) marks one what → IsShown (heap_of new) marks both one what
  map_stays one what carries shown =
      let at_once = shown.once (cell known).at (record {
        cell = cell known;
        words = words_of_cell (heap_of old) (cell known);
        has = cell_has known;
        stands = refl;
        object = step.object;
        carries = carries;
      }) in
      let same : shown.cell ≡ cell known = one_at shown.has (cell_has known) (sym at_once) in
      let words_are : shown.words ≡ words_of_cell (heap_of old) shown.cell = sym shown.has.words_are in
      let shows = subst (λ words. ShowsObject (heap_of old) marks shown.cell words what) words_are shown.shows in
      record {
        cell = cell known;
        among = first_in (cell known) (other known some ∷ []);
        carries = carries;
        shows = object_stays what (subst (λ (c : Cell).
            ShowsObject (heap_of old) marks c (words_of_cell (heap_of old) c) what) same shows);
      }

  -- and any other object stays
  other_stays : (graph : Graph) (one : ℕ) (what : Object) → slice_get graph.objects one ≡ Some what
      → (cell known).header.object ≢ one → Stays graph both one what
  other_stays graph one what there apart = record {
    same = there;
    stood = λ each among object carries.
        apart (ap (λ (c : Cell). c.header.object) (went_object step each among object) ∙ carries);
  }

module _ {old new : Mutator} {map place : ℕ} {table : Table} (known : KnownMap old map table)
    (some : 0 < table.capacity) (removes : RemovesAt old new map table place) (taken : Pair)
    (filled : IsFilledAt (pairs_of (heap_words old.seat) table) place taken) where
  -- the heap shows each graph in which the key cannot be reached
  pub stays_shown : Whole (heap_of new)
      → CellsChange (heap_of old) (heap_of new) (cell known ∷ other known some ∷ [])
      (cell known ∷ other known some ∷ []) []
      → IsOwnChange (heap_of old) (heap_of new) (cell known ∷ other known some ∷ [])
      (cell known ∷ other known some ∷ []) []
      → StaysShown (heap_of old) (heap_of new) taken
  stays_shown whole change own graph number shows key unmarked =
      let all : List Cell = cell known ∷ other known some ∷ [] in
      own_changes_show (heap_of old) (heap_of new) graph graph all all [] shows whole change own (record {
        paths = removes.paths ∙ shows.paths;
        bindings = refl;
        few = omega arith;
        reached = λ one marked. marked;
        each = λ one what there marked. elim (cases_eq (cell known).header.object one) [
          | inl same ↦ inr (map_stays known some removes taken filled (reach graph) number key unmarked one what same
              (shows.reached one what there marked))
          | inr apart ↦ inl (other_stays known some removes taken filled (reach graph) number key unmarked graph one
              what there apart)
        ];
        numbered = λ one among object. absurd (none_in one among);
      })
