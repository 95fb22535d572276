-- Where the homes of cells are behind a scavenge: those that were to be promoted are in pages, if free runs had their
-- words.
use Rattle.std.proofs.Common.{◌≡◌, ℕ, ◌<◌, ◌≤◌, inl, inr, Bool, List, Contains, Option, Some, None}
use Rattle.std.proofs.Common.{refl, sym, ◌∙◌, ap, subst, arith}
use Rattle.tagged_word.specs.declared.reading.Reading.{Reading}
use Rattle.tagged_word.specs.Cells.{ReadsAs}
use Rattle.tagged_word.specs.Readings.{read_cell}
use Rattle.tagged_word.proofs.Cells.{same_reading}
use Rattle.tagged_word.proofs.CellReadings.{cell_from}
use Rattle.page_space.specs.Extents.{eden_start}
use Rattle.cell_layout.specs.Cells.{reading_of}
use Rattle.heap_model.specs.Types.{Cell}
use Rattle.heap_model.specs.Heaps.{HasCell}
use Rattle.heap_model.proofs.CellsApart.{has_is_cell, one_at}
use Rattle.heap_moves.specs.Moved.{moved_to, StandsMoved}
use Rattle.write_barrier.specs.MutatorState.{Mutator, heap_of}
use Rattle.scav_copy.specs.declared.places.Home.{Home}
use Rattle.scav_copy.specs.Places.{Fixed, last_address, cell_before, words_in, size_of}
use Rattle.scav_copy.specs.Renamings.{IsReachable}
use Rattle.scav_copy.proofs.Spots.{reached_is}
use Rattle.scavenger.specs.Starts.{Start, Begins, IsYoungCell, start_of}
use Rattle.scavenger.specs.Walking.{IsToPromote}
use Rattle.scavenger.specs.Scavenged.{Scavenges, place_after}
use Rattle.scavenger.specs.Laws.{PromotesWhatFits, PromotesNoOther, ScavengesOfAllLeaveStuck}
use Rattle.scavenger.proofs.EndPlaces.{goes_home, home_found, StaysAt, stays_at}

-- the size of a cell that is read is no more than that of the only reading
size_by_reading : (words layouts : List ℕ) (at bound : ℕ) (cell : Option Reading) (reading : Reading)
    → read_cell words layouts at last_address ≡ cell → ReadsAs words layouts at bound reading
    → words_in cell ≤ reading.size
size_by_reading words layouts at bound None reading is reads = omega arith
size_by_reading words layouts at bound (Some other) reading is reads =
    let same : other ≡ reading = same_reading (cell_from words layouts at last_address other is) reads in
    subst (λ (one : Reading). words_in (Some other) ≤ one.size) same (omega arith)

-- the cell that was read at an address has no more words than the cell there
own_size : {start : Start} {fixed : Fixed} {cell : Cell} {body : List ℕ} → Begins start fixed
    → HasCell start.heap cell body → size_of fixed cell.at ≤ cell.size
unfolding cell_before
own_size {start} {fixed} {cell} begins has =
    let is_cell = has_is_cell has in
    let Reads : List ℕ → List ℕ → Type 0 = λ words layouts.
    ReadsAs words layouts cell.at is_cell.end (reading_of cell) in
    let reads : Reads fixed.before fixed.layouts =
    subst (λ words. Reads words fixed.layouts) (sym begins.before)
    (subst (λ layouts. Reads start.heap.words layouts) (sym begins.layouts) is_cell.reads) in
    size_by_reading fixed.before fixed.layouts cell.at is_cell.end _ (reading_of cell) refl reads

-- A young cell that was reached, and the copy of it at its home.
pub record HasCopy (old new : Mutator) (fixed : Fixed) (homes : List Home) (home : Home) : Type 0 where
  pub reached : IsReachable fixed home.from
  pub is : IsYoungCell (heap_of old) home.from
  pub came : place_after (start_of old) homes is.cell.at ≡ Some home.to
  pub stands : StandsMoved (heap_of new) (place_after (start_of old) homes) is.cell is.words home.to
  pub size : size_of fixed home.from ≤ is.cell.size

module _ {old new : Mutator} {all : Bool} (scavenged : Scavenges old new all) where
  -- each home has one
  pub copy_at : (home : Home) → Contains scavenged.homes home
      → HasCopy old new scavenged.fixed scavenged.homes home
  copy_at home among =
      let start : Start = start_of old in
      let fixed : Fixed = scavenged.fixed in
      let begins = scavenged.begins in
      let reached = (scavenged.renaming.survivors home.from).0 (home, among, refl) in
      let is : IsYoungCell start.heap home.from = (begins.cells home.from).0 (reached_is fixed home.from reached) in
      let came : place_after start scavenged.homes is.cell.at ≡ Some home.to =
      ap (place_after start scavenged.homes) is.stands
      ∙ goes_home start scavenged.homes home.from is.young
      ∙ home_found scavenged.homes home scavenged.renaming.one_each among in
      record {
        reached = reached;
        is = is;
        came = came;
        stands = scavenged.moved.stands is.cell is.words home.to is.has came;
        size = subst (λ n. size_of fixed n ≤ is.cell.size) is.stands (own_size begins is.has);
      }

  -- a cell that was to be promoted is in a page, or longer than each free run
  pub promotes_what_fits : PromotesWhatFits (heap_of old) all new.free (place_after (start_of old) scavenged.homes)
  promotes_what_fits cell words now has young to_promote stays =
      elim (stays_at (start_of old) scavenged.homes cell.at now stays) [
        | StaysAt.in_page below none same ↦ absurd (omega (arith, below, young))
        | StaysAt.at_home above is ↦
            let to_be : IsToPromote old.seat.space all is.home.from =
            subst (IsToPromote old.seat.space all) (sym is.from) to_promote in
            let size : size_of scavenged.fixed is.home.from ≤ cell.size =
            subst (λ n. size_of scavenged.fixed n ≤ cell.size) (sym is.from) (own_size scavenged.begins has) in
            elim (scavenged.promotes is.home is.among to_be) [
              | inl in_page ↦ inl (subst (λ n. n < eden_start old.seat.space) is.to in_page)
              | inr longer ↦ inr (omega (arith, longer, size))
            ]
      ]

  -- and no other is in one
  pub promotes_no_other : PromotesNoOther (heap_of old) all (place_after (start_of old) scavenged.homes)
  promotes_no_other cell words now has young stays in_page =
      elim (stays_at (start_of old) scavenged.homes cell.at now stays) [
        | StaysAt.in_page below none same ↦ absurd (omega (arith, below, young))
        | StaysAt.at_home above is ↦
            subst (IsToPromote old.seat.space all) is.from
            (scavenged.stays is.home is.among (subst (λ n. n < eden_start old.seat.space) (sym is.to) in_page))
      ]

-- so where all was to be promoted, what is young is longer than each free run
pub scavenges_of_all_leave_stuck : ScavengesOfAllLeaveStuck
scavenges_of_all_leave_stuck old new graph shows scavenged cell words has above =
    let same = ap eden_start scavenged.moved.space in
    let (home, among, to) = scavenged.alone cell words has (omega (arith, same, above)) in
    let copy = copy_at scavenged home among in
    let here : HasCell (heap_of new) (moved_to copy.is.cell cell.at) copy.stands.others =
    subst (λ at. HasCell (heap_of new) (moved_to copy.is.cell at) copy.stands.others) to copy.stands.has in
    let size : copy.is.cell.size ≡ cell.size = ap (λ (one : Cell). one.size) (one_at here has refl) in
    elim (scavenged.promotes home among (inl refl)) [
      | inl in_page ↦ absurd (omega (arith, in_page, to, same, above))
      | inr longer ↦ omega (arith, longer, copy.size, size)
    ]
