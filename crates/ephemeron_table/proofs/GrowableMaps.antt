-- A table may be made in the place of a weak map's that would be too full.
use Rattle.std.proofs.Common.{◌≢◌, ℕ, ◌+◌, ◌*◌, ◌≤◌, ◌<◌, List, refl, subst, arith}
use Rattle.tagged_word.specs.declared.layout.Kind.TheVariants as kind
use Rattle.tagged_word.specs.Cells.{store_head}
use Rattle.tagged_word.proofs.Readings.{reference_to}
use Rattle.page_space.specs.Extents.{marks_start}
use Rattle.heap_model.specs.Types.{Cell}
use Rattle.heap_model.specs.Heaps.{HasCell}
use Rattle.heap_model.specs.Slots.{IsPlace}
use Rattle.heap_model.proofs.CellOutcomes.{object_is_no_filler}
use Rattle.heap_model.proofs.CellsApart.{IsOfCell, first_of_cell}
use Rattle.write_barrier.specs.MutatorState.{Mutator, heap_of}
use Rattle.write_barrier.specs.Storing.{IsMadeYoung}
use Rattle.object_cells.specs.Contents.{next_at}
use Rattle.object_cells.proofs.CellsRead.{place_before_marks}
use Rattle.object_cells.proofs.WordsTold.{cell_fits}
use Rattle.ephemeron_table.specs.MapClaims.{MayPutMap}
use Rattle.ephemeron_table.specs.Rehashing.{CanGrow, IsUsed, KeysUsed}
use Rattle.weak_pairs.specs.declared.table.Table.{Table}
use Rattle.ephemeron_table.proofs.KnownTables.{KnownMap, each_found, found, other_has, other_long, table_no_filler}
use Rattle.ephemeron_table.proofs.TablesRead.{count_within}

module _ {old : Mutator} {map : ℕ} {table : Table} (known : KnownMap old map table) where
  -- a word of a cell that is no filler is used
  word_used : {one : Cell} {words : List ℕ} (a : ℕ) → HasCell (heap_of old) one words → one.layout.kind ≢ kind.Filler
      → IsOfCell one a → IsUsed old a
  word_used {one} {words} a has no_filler of_one = record {
    from = one.at;
    to = one.at + one.size;
    used = record { cell = one; words = words; has = has; starts = refl; ends = refl; no_filler = no_filler };
    begins = of_one.from;
    ends = of_one.below;
  }

  -- so the place of an object is
  pub place_used : {number at : ℕ} → IsPlace (heap_of old) number at → IsUsed old at
  place_used place =
      subst (IsUsed old) place.stands (word_used place.cell.at place.has
      (object_is_no_filler place.cell.layout.kind place.object) (first_of_cell place.has))

  pub place_within : {number at : ℕ} → IsPlace (heap_of old) number at → at < marks_start old.seat.space
  place_within place = place_before_marks known.whole.sized place

  -- and each word of the table's pairs
  pairs_used : (a : ℕ) → table.at + store_head ≤ a → a < table.at + (store_head + 2 * table.capacity) → IsUsed old a
  pairs_used a from below =
      let some : 0 < table.capacity = omega (arith, from, below) in
      let one = found known some in
      word_used a (other_has known some) (table_no_filler known some) (record {
        from = omega (arith, from, one.stands);
        below = omega (arith, below, one.stands, one.size, other_long known some);
      })

  -- each key is that of an object
  keys_used : KeysUsed old table
  keys_used place pair filled =
      let key = (each_found known place pair filled.stands filled.filled).filled.key in
      let fits = subst (λ n. n < 4294967296) key.place.stands (cell_fits known.whole.sized known.sizes key.place.has) in
      (key.at, reference_to pair.key key.at fits key.refers, place_within key.place, place_used key.place)

  -- so it may grow
  pub can_grow : {number : ℕ} (key count : ℕ) → IsPlace (heap_of old) number key
      → IsMadeYoung old (next_at old) → MayPutMap old map
      → count < 256
      → table.capacity < 2 * (count + 1) → CanGrow old map table key count
  can_grow key count key_place young may few over = record {
    tied = known.tied;
    young = young;
    may = may;
    whole = known.whole;
    within = known.is.within;
    few = few;
    over = over;
    map_within = count_within known.whole known.there;
    pairs = pairs_used;
    keys = keys_used;
    key_within = place_within key_place;
    key_used = place_used key_place;
  }
