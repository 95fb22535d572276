-- A key that no entry of a weak map has: no pair of the map's table has it.
use Rattle.std.proofs.Common.{◌≡◌, ℕ, ◌<◌, ◌≤◌, Option, None, Some, slice_get, sym, ◌∙◌, ap, arith}
use Rattle.object_graph.specs.Objects.{entry_value}
use Rattle.object_graph.specs.Graphs.{Graph, WeakObject}
use Rattle.object_graph.specs.Meaning.{weak_most}
use Rattle.page_space.specs.Sizes.{AreWithin}
use Rattle.write_barrier.specs.Seats.{heap_words}
use Rattle.heap_model.specs.Slots.{reference_word, RefersToPlace}
use Rattle.heap_model.specs.Kinds.{Pair}
use Rattle.heap_model.specs.Needs.{count_at}
use Rattle.heap_model.specs.Rooms.{IsMapFull}
use Rattle.write_barrier.specs.MutatorState.{Mutator, heap_of, MainShows}
use Rattle.ephemeron_table.specs.EntryChanges.{map_room}
use Rattle.ephemeron_table.specs.WeakObjects.{IsKeyAt, IsWeakAt}
use Rattle.weak_pairs.specs.Pairs.{IsFilledAt}
use Rattle.ephemeron_table.specs.Probes.{IsTableAt, ProbingEnds, EndsNew}
use Rattle.weak_pairs.specs.Tables.{ArePairsIn, pairs_of}
use Rattle.weak_pairs.specs.Probes.{PassesBefore}
use Rattle.ephemeron_table.specs.declared.probing.End.TheVariants as probe_end
use Rattle.weak_pairs.specs.declared.table.Table.{Table}
use Rattle.ephemeron_table.proofs.NoPair.{no_pair}
use Rattle.ephemeron_table.proofs.KeysFound.{WeakShown, weak_shown, shown_pairs}
use Rattle.ephemeron_table.proofs.KeysProbed.{none_nowhere, none_where_free}
use Rattle.ephemeron_table.proofs.KnownTables.{shown_known, KnownMap, within_words}
use Rattle.weak_pairs.proofs.PairLists.{pairs_are}

-- The map is shown, and no entry of it has the key.
pub record LacksKey (old : Mutator) (graph : Graph) (map key : ℕ) (weak : WeakObject) (number : ℕ) (table : Table)
    : Type 0 where
  pub shows : MainShows old graph
  pub is : IsWeakAt old graph map weak
  pub is_key : IsKeyAt old graph key number
  pub sizes : AreWithin old.seat.space.sizes old.seat.space.variables
  pub is_table : IsTableAt (heap_of old) map table
  pub fresh : entry_value weak.entries number ≡ None

-- so it is where probing passes all pairs
pub lacks_nowhere : {old : Mutator} {graph : Graph} {map key : ℕ} {weak : WeakObject} {number : ℕ} {table : Table}
    → MainShows old graph → IsWeakAt old graph map weak → IsKeyAt old graph key number
    → AreWithin old.seat.space.sizes old.seat.space.variables → IsTableAt (heap_of old) map table
    → PassesBefore (heap_of old) table number (reference_word key) table.capacity
    → LacksKey old graph map key weak number table
lacks_nowhere {table = table} shows is is_key sizes is_table passes = record {
  shows = shows;
  is = is;
  is_key = is_key;
  sizes = sizes;
  is_table = is_table;
  fresh = none_nowhere table shows (weak_shown shows is) is_key is_table passes;
}

-- and where it ends at a pair that holds nothing
pub lacks_where_free : {old : Mutator} {graph : Graph} {map key : ℕ} {weak : WeakObject} {number place : ℕ}
    {table : Table} → MainShows old graph → IsWeakAt old graph map weak → IsKeyAt old graph key number
    → AreWithin old.seat.space.sizes old.seat.space.variables → IsTableAt (heap_of old) map table
    → ProbingEnds (heap_of old) table number (reference_word key) (probe_end.Free place)
    → LacksKey old graph map key weak number table
lacks_where_free {place = place} {table} shows is is_key sizes is_table ends = record {
  shows = shows;
  is = is;
  is_key = is_key;
  sizes = sizes;
  is_table = is_table;
  fresh = none_where_free table place shows (weak_shown shows is) is_key is_table ends.0 ends.1;
}

-- so it is where probing for a new key ends
pub lacks_new : {old : Mutator} {graph : Graph} {map key : ℕ} {weak : WeakObject} {number : ℕ} {table : Table}
    (place : Option ℕ) → MainShows old graph → IsWeakAt old graph map weak → IsKeyAt old graph key number
    → AreWithin old.seat.space.sizes old.seat.space.variables → IsTableAt (heap_of old) map table
    → EndsNew (heap_of old) table number (reference_word key) place → LacksKey old graph map key weak number table
lacks_new (Some place) shows is is_key sizes is_table ends = lacks_where_free shows is is_key sizes is_table ends
lacks_new None shows is is_key sizes is_table passes = lacks_nowhere shows is is_key sizes is_table passes

module _ {old : Mutator} {graph : Graph} {map key : ℕ} {weak : WeakObject} {number : ℕ} {table : Table}
    (lacks : LacksKey old graph map key weak number table) where
  abbrev pub shown : WeakShown old graph map weak
  shown = weak_shown lacks.shows lacks.is

  -- the map and its table
  abbrev pub known : KnownMap old map table
  known = shown_known lacks.shows lacks.is lacks.sizes lacks.is_table

  -- the words of its pairs stand in the table
  abbrev stand : ArePairsIn (heap_words old.seat) table shown.shows.pairs
  stand = lacks.is_table.pairs shown.shows.pairs (shown_pairs shown)

  -- the pairs that are shown are those that are read
  pairs_same : pairs_of (heap_words old.seat) table ≡ shown.shows.pairs
  pairs_same = pairs_are (heap_words old.seat) table shown.shows.pairs (within_words known) stand

  -- no key of a pair refers to the object
  pub no_pair_refers : (at : ℕ) (pair : Pair) → IsFilledAt (pairs_of (heap_words old.seat) table) at pair
      → RefersToPlace (heap_of old) pair.key number → ⊥
  no_pair_refers at pair filled refers =
      no_pair shown lacks.is_key lacks.fresh at pair (ap (λ all. slice_get all at) (sym pairs_same) ∙ filled.stands)
      filled.filled refers

  -- the key is new, and where as many pairs are filled as the map may have entries, it can have none more
  pub is_full_for : weak_most ≤ count_at (heap_of old) map → IsMapFull (map_room old map weak) weak number
  is_full_for many = record { fresh = lacks.fresh; full = many }

  -- where fewer are, it can
  pub not_full_for : count_at (heap_of old) map < weak_most → IsMapFull (map_room old map weak) weak number → ⊥
  not_full_for few all =
      let full : weak_most ≤ count_at (heap_of old) map = all.full in
      omega (arith, few, full)
