-- Cells do not hang on paths: what stands in the same words is the same in heaps that differ in their paths alone.
use Rattle.std.proofs.Common.{ℕ, List, IsTrue}
use Rattle.page_space.specs.declared.region.Region.TheVariants.{Page, Eden, Segment, Root, Layout, Mark, Board, Outside}
use Rattle.page_space.specs.Extents.{Extent}
use Rattle.object_graph.specs.Graphs.{Graph}
use Rattle.object_graph.specs.Reach.{is_marked, reach}
use Rattle.heap_model.specs.Types.{Path, Region, Cell}
use Rattle.heap_model.specs.Heaps.{EndsUsed, HasCell}
use Rattle.heap_model.specs.Slots.{RefersTo, IsPlace}
use Rattle.heap_model.specs.Wholeness.{HasSlotAt, NamesFrom}
use Rattle.live_cells.specs.Laws.{BelongsToReached}
use Rattle.live_cells.specs.Live.{HasSlotTo, HasEntry, IsRootTarget}
use Rattle.shared_table.specs.Owned.{Own}
use Rattle.cycle_opening.specs.Opened.{heap_with}

-- a region is used as far
ends_alike : (own : Own) (paths others : List Path) (extent : Extent) (end : ℕ) (region : Region)
    → EndsUsed (heap_with own paths) extent end region → EndsUsed (heap_with own others) extent end region
ends_alike own paths others extent end (Page page) ends = ends
ends_alike own paths others extent end Eden ends = ends
ends_alike own paths others extent end (Segment half worker) ends = ends
ends_alike own paths others extent end (Root n) ends = ends
ends_alike own paths others extent end (Layout n) ends = ends
ends_alike own paths others extent end (Mark n) ends = ends
ends_alike own paths others extent end (Board n) ends = ends
ends_alike own paths others extent end Outside ends = ends

module _ {own : Own} {paths : List Path} (others : List Path) where
  -- the same cells stand there
  pub cell_alike : {cell : Cell} {words : List ℕ} → HasCell (heap_with own paths) cell words
      → HasCell (heap_with own others) cell words
  cell_alike has = record {
    row = has.row;
    in_region = has.in_region;
    used = record {
      ends = ends_alike own paths others has.row.extent has.row.end has.row.extent.region has.used.ends;
      stands = has.used.stands;
    };
    in_row = has.in_row;
    words_are = has.words_are;
  }

  -- words refer to the same cells
  refers_alike : {word : ℕ} {cell : Cell} {words : List ℕ} → RefersTo (heap_with own paths) word cell words
      → RefersTo (heap_with own others) word cell words
  refers_alike refers = record { refers = refers.refers; has = cell_alike refers.has }

  -- objects stand at the same places
  pub place_alike : {number at : ℕ} → IsPlace (heap_with own paths) number at → IsPlace (heap_with own others) number at
  place_alike place = record {
    cell = place.cell;
    words = place.words;
    has = cell_alike place.has;
    stands = place.stands;
    object = place.object;
    carries = place.carries;
  }

  -- slots that marking visits refer to the same addresses
  pub slot_alike : {from at : ℕ} → HasSlotTo (heap_with own paths) from at → HasSlotTo (heap_with own others) from at
  slot_alike slot = record {
    cell = slot.cell;
    words = slot.words;
    has = cell_alike slot.has;
    stands = slot.stands;
    offset = slot.offset;
    visited = slot.visited;
    holds = slot.holds;
  }

  -- weak tables have the same pairs
  pub entry_alike : {table key value : ℕ} → HasEntry (heap_with own paths) table key value
      → HasEntry (heap_with own others) table key value
  entry_alike entry = record {
    cell = entry.cell;
    words = entry.words;
    has = cell_alike entry.has;
    stands = entry.stands;
    of_kind = entry.of_kind;
    place = entry.place;
    pair = entry.pair;
    among = entry.among;
    key_is = entry.key_is;
    value_is = entry.value_is;
  }

  -- root words refer to the same addresses
  pub root_alike : {at : ℕ} → IsRootTarget (heap_with own paths) at → IsRootTarget (heap_with own others) at
  root_alike target = record { variable = target.variable; within = target.within; refers = target.refers }

  -- an object's cell has the same slots
  object_slot_alike : {cell : Cell} {words : List ℕ} {slot word : ℕ}
      → HasSlotAt (heap_with own paths) cell words slot word → HasSlotAt (heap_with own others) cell words slot word
  object_slot_alike (HasSlotAt.own offset word among holds) = HasSlotAt.own offset word among holds
  object_slot_alike (HasSlotAt.beside store other words offset word slot refers among holds) =
      HasSlotAt.beside store other words offset word slot (refers_alike refers) among holds

  -- and names the same stores, tables and boxes
  names_alike : {owner : Cell} {slot named : ℕ} → NamesFrom (heap_with own paths) owner slot named
      → NamesFrom (heap_with own others) owner slot named
  names_alike names = record {
    words = names.words;
    has = cell_alike names.has;
    object = names.object;
    word = names.word;
    of_owner = object_slot_alike names.of_owner;
    cell = names.cell;
    others = names.others;
    refers = refers_alike names.refers;
    owned = names.owned;
    at = names.at;
  }

  -- What belongs to what can be reached in one graph does in another, where the same objects can be reached there.
  pub belongs_alike : {graph another : Graph}
      → ((number : ℕ) → IsTrue (is_marked (reach graph) number) → IsTrue (is_marked (reach another) number)) → {at : ℕ}
      → BelongsToReached (heap_with own paths) graph at → BelongsToReached (heap_with own others) another at
  belongs_alike reached (BelongsToReached.place number place there) =
      BelongsToReached.place number (place_alike place) (reached number there)
  belongs_alike reached (BelongsToReached.named owner slot names there) =
      BelongsToReached.named owner slot (names_alike names) (reached owner.header.object there)
