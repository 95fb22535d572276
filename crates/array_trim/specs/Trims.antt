-- What the calls that trim lists do.
use Rattle.std.specs.Prelude.{◌≡◌, ℕ, suc, ◌-◌, ◌≤◌, ◌<◌}
use Rattle.std.specs.Prelude.{List, length, take, drop, ℤ, Some, None}
use Rattle.std.specs.Prelude.{Result, Ok, Err}
use Rattle.heap_model.specs.Types.{Value}
use Rattle.object_graph.specs.Graphs.{Graph, ListObject}
use Rattle.object_graph.specs.Meaning.{below, relist}
use Rattle.heap_model.specs.Needs.{capacity_at}
use Rattle.heap_model.specs.Rooms.{truncated_capacity}
use Rattle.write_barrier.specs.MutatorState.{Mutator, heap_of, MainShows}
use Rattle.object_cells.specs.Uses.{UsesMore}
use Rattle.object_cells.specs.Capacities.{ChangesObjectUsing}
use Rattle.object_cells.specs.declared.lists.Range.{Range}
use Rattle.array_trim.specs.TrimWords.{PutsShifted, PutsTruncated}

-- The heap shows the graph in which the list at the address has these elements. Only words of the list change, its
-- store has so many slots, each other object's as many as before, and no word more is used.
pub record HasTrimmed (old new : Mutator) (graph : Graph) (at : ℕ) (list : ListObject) (elements : List Value)
    (capacity : ℕ) : Type 0 where
  pub uses : UsesMore old new 0
  pub changes : ChangesObjectUsing old new 0 at capacity
  pub shows : MainShows new (relist graph list elements)

-- the number of elements that an integer is: none where it is below 0, or over the length of the list
abbrev pub IsCountIn : ListObject → ℤ → ℕ → Type 0
IsCountIn list n count = below (suc (length list.elements)) n ≡ Some count

abbrev pub IsNoCountIn : ListObject → ℤ → Type 0
IsNoCountIn list n = below (suc (length list.elements)) n ≡ None

-- The first `gone` elements of the list at the address go. By 0 nothing changes; by more only the words of this trim
-- are put.
pub record HasShifted (old new : Mutator) (graph : Graph) (at : ℕ) (list : ListObject) (gone : ℕ) : Type 0 where
  pub trims : HasTrimmed old new graph at list (drop gone list.elements) (capacity_at (heap_of old) at - gone)
  pub unchanged : gone ≡ 0 → new ≡ old
  pub puts : 1 ≤ gone → PutsShifted old new at (length list.elements) gone

-- `shift`: the first elements of the list go, as many as the integer is; or it is below 0 or over the length, and
-- nothing changes.
abbrev pub ShiftsElements : Mutator → Mutator → Graph → ℕ → ListObject → ℤ → Result Unit Range → Type 0
ShiftsElements old new graph at list n (Ok _) =
    (gone : ℕ) × IsCountIn list n gone × HasShifted old new graph at list gone
ShiftsElements old new graph at list n (Err range) = IsNoCountIn list n × (new ≡ old)

-- The first `kept` elements of the list at the address stay alone. Where these are all, nothing changes; where they are
-- fewer, only the words of this trim are put.
pub record HasTruncated (old new : Mutator) (graph : Graph) (at : ℕ) (list : ListObject) (kept : ℕ) : Type 0 where
  pub trims : HasTrimmed old new graph at list (take kept list.elements)
      (truncated_capacity (capacity_at (heap_of old) at) (length list.elements) kept)
  pub unchanged : kept ≡ length list.elements → new ≡ old
  pub puts : kept < length list.elements → PutsTruncated old new at kept

-- `truncate`: the first elements of the list stay alone, as many as the integer is; or it is below 0 or over the
-- length, and nothing changes.
abbrev pub TruncatesElements : Mutator → Mutator → Graph → ℕ → ListObject → ℤ → Result Unit Range → Type 0
TruncatesElements old new graph at list n (Ok _) =
    (kept : ℕ) × IsCountIn list n kept × HasTruncated old new graph at list kept
TruncatesElements old new graph at list n (Err range) = IsNoCountIn list n × (new ≡ old)
