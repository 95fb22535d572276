-- After a scavenge the heap is tight, and what came to pages is reached: what was reached in the old heap is reached in
-- the new one, where it came, from variables and from slots of cells of pages that stood there before.
use Rattle.std.proofs.Common.{◌≡◌, ℕ, ◌+◌, ◌<◌, ◌≤◌, inl, inr, List, Contains, Option, Some, None, IsTrue}
use Rattle.std.proofs.Common.{slice_get, get_or, refl, sym, ◌∙◌, ap, subst, arith}
use Rattle.std.proofs.lemmas.Option.{same_Some, slice_get-get_or}
use Rattle.tagged_word.specs.declared.reading.Reading.{Reading}
use Rattle.tagged_word.specs.Cells.{ReadsAs, scavenge_offsets, is_free_kind}
use Rattle.tagged_word.specs.Readings.{read_cell}
use Rattle.tagged_word.proofs.Cells.{same_reading}
use Rattle.tagged_word.proofs.CellReadings.{cell_from}
use Rattle.tagged_word.proofs.Readings.{reference_from}
use Rattle.page_space.specs.Extents.{Space, eden_start, marks_start}
use Rattle.page_space.proofs.Starts.{layouts_start_is, marks_start_is}
use Rattle.cell_layout.specs.Cells.{reading_of}
use Rattle.cell_layout.proofs.OneCell.{slots_lie_within}
use Rattle.handle_roots.specs.Roots.{root_at}
use Rattle.heap_model.specs.Types.{Cell}
use Rattle.heap_model.specs.Heaps.{Heap, HasCell}
use Rattle.heap_model.specs.Slots.{reference_word}
use Rattle.heap_model.specs.Kinds.{HasWord}
use Rattle.heap_model.specs.Wholeness.{HasSizes}
use Rattle.heap_model.specs.Collectable.{AreFreeRuns}
use Rattle.heap_model.specs.Remembered.{AreRemembered}
use Rattle.heap_model.specs.Reaching.{IsReachedFrom, IsTight, IsOldOrReached, FillsPages}
use Rattle.heap_model.proofs.BoundHeaps.{none_in}
use Rattle.heap_model.proofs.CellsApart.{has_is_cell, one_at}
use Rattle.heap_model.proofs.CellWords.{word_there}
use Rattle.heap_model.proofs.ReachedFrom.{still_reached}
use Rattle.heap_moves.specs.Moved.{IsMovedWord, moved_to, IsMoved, IsFrom}
use Rattle.heap_moves.proofs.MovedWords.{referred}
use Rattle.scav_copy.specs.declared.places.Home.{Home}
use Rattle.scav_copy.specs.Places.{Fixed, last_address, cell_before, offsets_in, offsets_of}
use Rattle.scav_copy.specs.Renamings.{IsReachable, RefersToAddress, Renaming}
use Rattle.scav_copy.proofs.Spots.{reached_is}
use Rattle.scavenger.specs.Starts.{Start, Begins, IsYoungCell, IsRootAt}
use Rattle.scavenger.specs.Scavenged.{home_of, place_after}
use Rattle.scavenger.specs.Laws.{ScavengesAreTight, ScavengesFillPages}
use Rattle.scavenger.proofs.PagesSlots.{free_slots}
use Rattle.scavenger.proofs.EndRuns.{no_run_begins}
use Rattle.scavenger.proofs.EndPlaces.{stays_in_page, goes_home, home_found, StaysAt, stays_at}
use Rattle.heap_walk.proofs.SlotTargets.{word_reads, word_found}

-- the slots of a cell that is read are those of the only reading
slot_by_reading : (words layouts : List ℕ) (at bound : ℕ) (cell : Option Reading) (reading : Reading) (offset : ℕ)
    → read_cell words layouts at last_address ≡ cell → ReadsAs words layouts at bound reading
    → Contains (offsets_in cell) offset → Contains (scavenge_offsets reading.layout reading.length) offset
slot_by_reading words layouts at bound None reading offset is reads slot = absurd (none_in offset slot)
slot_by_reading words layouts at bound (Some other) reading offset is reads slot =
    let same : other ≡ reading = same_reading (cell_from words layouts at last_address other is) reads in
    subst (λ (one : Reading). Contains (scavenge_offsets one.layout one.length) offset) same slot

-- a reference that is moved is the one to where that came to which it led
leads_on : {to : ℕ → Option ℕ} {word other : ℕ} (at now : ℕ) → IsMovedWord to word other → word ≡ reference_word at
    → to at ≡ Some now → other ≡ reference_word now
leads_on at now moved is stays =
    let leads = referred at moved is in
    leads.refers ∙ ap reference_word (same_Some leads.now now (sym leads.stays ∙ stays))

module _ {start : Start} {fixed : Fixed} (begins : Begins start fixed) where
  -- a slot that was read of a cell is one of the cell's
  pub own_slot : {cell : Cell} {body : List ℕ} (offset : ℕ) → HasCell start.heap cell body
      → Contains (offsets_of fixed cell.at) offset → Contains (scavenge_offsets cell.layout cell.length) offset
  unfolding cell_before
  own_slot {cell} offset has slot =
      let is_cell = has_is_cell has in
      let Reads : List ℕ → List ℕ → Type 0 = λ words layouts.
      ReadsAs words layouts cell.at is_cell.end (reading_of cell) in
      let reads : Reads fixed.before fixed.layouts =
      subst (λ words. Reads words fixed.layouts) (sym begins.before)
      (subst (λ layouts. Reads start.heap.words layouts) (sym begins.layouts) is_cell.reads) in
      slot_by_reading fixed.before fixed.layouts cell.at is_cell.end _ (reading_of cell) offset refl reads slot

  -- a word that refers to an address is the reference to it
  pub refers_by : (place at : ℕ) → RefersToAddress fixed.before place at
      → get_or start.heap.words place 0 ≡ reference_word at
  refers_by place at refers =
      ap (λ words. get_or words place 0) (sym begins.before)
      ∙ (reference_from (get_or fixed.before place 0) at refers).1

  -- so is a word of a cell
  pub word_refers : {cell : Cell} {body : List ℕ} (offset at word : ℕ) → HasCell start.heap cell body
      → HasWord body offset word → RefersToAddress fixed.before (cell.at + offset) at → word ≡ reference_word at
  word_refers {cell} offset at word has there refers =
      sym (word_reads offset word has there) ∙ refers_by (cell.at + offset) at refers

module _ {start : Start} {new : Heap} {fixed : Fixed} {homes : List Home} {words : List ℕ}
    (sized : HasSizes start.heap) (free : AreFreeRuns start.heap start.rows)
    (remembered : AreRemembered start.heap start.recorded) (begins : Begins start fixed)
    (renaming : Renaming fixed words homes) (moved : IsMoved start.heap new (place_after start homes)) where
  -- where a cell that was reached came
  record Comes (at : ℕ) : Type 0 where
    is : IsYoungCell start.heap at
    now : ℕ
    stays : place_after start homes at ≡ Some now

  -- each cell that was reached came somewhere
  reached_comes : (at : ℕ) → IsReachable fixed at → Comes at
  reached_comes at reached =
      let found = (renaming.survivors at).1 reached in
      let is : IsYoungCell start.heap at = (begins.cells at).0 (reached_is fixed at reached) in
      let home : Home = found.0 in
      let of_home = home_found homes home renaming.one_each found.1 in
      record {
        is = is;
        now = home.to;
        stays = goes_home start homes at is.young
            ∙ subst (λ one. home_of homes one ≡ Some home.to) found.2 of_home;
      }

  -- a variable that held the reference to a cell holds the one to where that came
  variable_reaches : (slot at now : ℕ) → Contains fixed.slots slot → IsRootAt start.heap.space slot
      → RefersToAddress fixed.before slot at → place_after start homes at ≡ Some now → IsReachedFrom start.heap new now
  variable_reaches slot at now among root refers stays =
      let place : ℕ = root_at start.heap.space root.variable in
      let few : place < marks_start start.heap.space =
      omega (arith, root.known, layouts_start_is start.heap.space, marks_start_is start.heap.space) in
      let few_too : place < marks_start new.space =
      subst (λ space. place < marks_start space) (sym moved.space) few in
      let there = slice_get-get_or start.heap.words place 0 (omega (arith, sized.words, few)) in
      let there_too = slice_get-get_or new.words place 0 (omega (arith, moved.sized.words, few_too)) in
      let was : get_or start.heap.words place 0 ≡ reference_word at =
      subst (λ n. get_or start.heap.words n 0 ≡ reference_word at) root.stands (refers_by begins slot at refers) in
      let refers_now = leads_on at now ((moved.roots root.variable root.known).first _ _ there there_too) was stays in
      let holds : slice_get new.words place ≡ Some (reference_word now) =
      there_too ∙ ap (λ n. Some n) refers_now in
      IsReachedFrom.by_variable root.variable now
      (subst (λ (space : Space). root.variable < space.variables) (sym moved.space) root.known)
      (subst (λ space. slice_get new.words (root_at space root.variable) ≡ Some (reference_word now)) (sym moved.space)
      holds)

  -- the cell came to an address, and its slot refers to another
  record Leads (cell : Cell) (to offset now : ℕ) : Type 0 where
    others : List ℕ
    has : HasCell new (moved_to cell to) others
    holds : HasWord others offset (reference_word now)

  -- a slot of a cell that came refers to where that came to which it referred
  slot_leads : {cell : Cell} {body : List ℕ} (to offset at now : ℕ) → HasCell start.heap cell body
      → place_after start homes cell.at ≡ Some to → Contains (scavenge_offsets cell.layout cell.length) offset
      → RefersToAddress fixed.before (cell.at + offset) at → place_after start homes at ≡ Some now
      → Leads cell to offset now
  slot_leads {cell} {body} to offset at now has comes slot refers stays =
      let within = (slots_lie_within start.heap.space start.heap.words cell offset (has_is_cell has) slot).within in
      let stood = moved.stands cell body to has comes in
      let word = word_there offset has within in
      let other = word_there offset stood.has within in
      let was = word_refers begins offset at word.0 has word.1 refers in
      let refers_now = leads_on at now (stood.are.slots offset word.0 other.0 slot word.1 other.1) was stays in
      record { others = stood.others; has = stood.has; holds = other.1 ∙ ap (λ n. Some n) refers_now }

  -- a cell of a page with a slot is no free run, so it stays where it is
  slotted_stays : {cell : Cell} {body : List ℕ} (offset : ℕ) → HasCell start.heap cell body
      → cell.at < eden_start start.heap.space → Contains (scavenge_offsets cell.layout cell.length) offset
      → place_after start homes cell.at ≡ Some cell.at
  slotted_stays {cell} offset has below slot =
      stays_in_page start homes cell.at below
      (no_run_begins start.rows cell.at (λ run is stands.
      let one = free is.row run is.of_rows is.among in
      let same : one.cell ≡ cell = one_at one.has has (one.stands ∙ stands) in
      let is_free = subst (λ (any : Cell). IsTrue (is_free_kind any.layout.kind)) same one.free in
      none_in offset (subst (λ (offsets : List ℕ). Contains offsets offset)
      (free_slots cell.layout.kind cell.layout cell.length is_free) slot)))

  -- a recorded slot refers to where that came to which it referred
  recorded_reaches : (slot at now : ℕ) → Contains start.recorded slot → RefersToAddress fixed.before slot at
      → place_after start homes at ≡ Some now → IsReachedFrom start.heap new now
  recorded_reaches slot at now recorded refers stays =
      let found = ((remembered slot).0 recorded).0 in
      let cell : Cell = found.cell in
      let offset : ℕ = found.slot.offset in
      let own = found.slot.visited in
      let is_cell = has_is_cell found.has in
      let within = (slots_lie_within start.heap.space start.heap.words cell offset is_cell own).within in
      let leads = slot_leads cell.at offset at now found.has (slotted_stays offset found.has found.of_page own) own
      (subst (λ n. RefersToAddress fixed.before n at) (sym found.slot.stands) refers) stays in
      IsReachedFrom.by_page slot now record {
        cell = moved_to cell cell.at;
        words = found.words;
        had = found.has;
        others = leads.others;
        has = leads.has;
        of_page = subst (λ space. cell.at < eden_start space) (sym moved.space) found.of_page;
        slot = record { offset = offset; visited = own; stands = found.slot.stands };
      } (subst (λ n. slice_get new.words n ≡ Some (reference_word now)) found.slot.stands
      (word_found offset (reference_word now) leads.has within leads.holds))

  -- so does each slot outside
  outside_reaches : (slot at now : ℕ) → Contains fixed.slots slot → RefersToAddress fixed.before slot at
      → place_after start homes at ≡ Some now → IsReachedFrom start.heap new now
  outside_reaches slot at now among refers stays =
      elim ((begins.slots slot).0 among) [
        | inl root ↦ variable_reaches slot at now among root refers stays
        | inr recorded ↦ recorded_reaches slot at now recorded refers stays
      ]

  -- so what a slot of a cell refers to is reached where it came
  slot_reaches : (host offset at now : ℕ) (comes : Comes host) → IsReachedFrom start.heap new comes.now
      → Contains (offsets_of fixed host) offset → RefersToAddress fixed.before (host + offset) at
      → place_after start homes at ≡ Some now → IsReachedFrom start.heap new now
  slot_reaches host offset at now comes reached slot refers stays =
      let is = comes.is in
      let own = own_slot begins offset is.has
      (subst (λ n. Contains (offsets_of fixed n) offset) (sym is.stands) slot) in
      let leads = slot_leads comes.now offset at now is.has (ap (place_after start homes) is.stands ∙ comes.stays) own
      (subst (λ n. RefersToAddress fixed.before (n + offset) at) (sym is.stands) refers) stays in
      IsReachedFrom.by_slot (moved_to is.cell comes.now) leads.others offset now reached leads.has own leads.holds

  -- what was reached is reached where it came
  reaches : (at now : ℕ) → IsReachable fixed at → place_after start homes at ≡ Some now
      → IsReachedFrom start.heap new now
  reaches _ now (IsReachable.by_slot slot cell among refers is) stays =
      outside_reaches slot cell now among refers stays
  reaches _ now (IsReachable.by_cell host offset cell from slot refers is) stays =
      let comes = reached_comes host from in
      slot_reaches host offset cell now comes (reaches host comes.now from comes.stays) slot refers stays

  -- a home copy is reached
  home_reached : (home : Home) → Contains homes home → IsReachedFrom start.heap new home.to
  home_reached home there =
      let reached = (renaming.survivors home.from).0 (home, there, refl) in
      let is : IsYoungCell start.heap home.from = (begins.cells home.from).0 (reached_is fixed home.from reached) in
      reaches home.from home.to reached
      (goes_home start homes home.from is.young ∙ home_found homes home renaming.one_each there)

  -- the new heap is tight, where its young cells are home copies
  new_is_tight : ((cell : Cell) (others : List ℕ) → HasCell new cell others → eden_start start.heap.space ≤ cell.at
      → (home : Home) × Contains homes home × (home.to ≡ cell.at)) → IsTight new
  new_is_tight alone cell others has above =
      let same = ap eden_start moved.space in
      let found = alone cell others has (omega (arith, same, above)) in
      still_reached cell.at (subst (IsReachedFrom start.heap new) found.2 (home_reached found.0 found.1))

  -- a cell that stayed at its address stood there as it stands
  stood_there : {was cell : Cell} {body others : List ℕ} → HasCell start.heap was body → HasCell new cell others
      → place_after start homes was.at ≡ Some cell.at → was.at ≡ cell.at → IsOldOrReached start.heap new cell
  stood_there {was} {cell} {body} had has stays same =
      let stands = moved.stands was body cell.at had stays in
      let is : was ≡ cell = ap (moved_to was) same ∙ one_at stands.has has refl in
      IsOldOrReached.stood body (subst (λ (one : Cell). HasCell start.heap one body) is had)

  -- so a cell that was in a page stood there, and one that was young is reached
  old_or_reached : {was cell : Cell} {body others : List ℕ} → HasCell start.heap was body → HasCell new cell others
      → place_after start homes was.at ≡ Some cell.at → StaysAt start homes was.at cell.at
      → IsOldOrReached start.heap new cell
  old_or_reached had has stays (StaysAt.in_page below none same) = stood_there had has stays same
  old_or_reached had has stays (StaysAt.at_home young is) =
      IsOldOrReached.reached (subst (IsReachedFrom start.heap new) is.to (home_reached is.home is.among))

  -- and any other is free
  filled_from : {cell : Cell} {others : List ℕ} → HasCell new cell others
      → IsFrom start.heap (place_after start homes) cell → IsOldOrReached start.heap new cell
  filled_from {cell} has (IsFrom.stood was body had stays) =
      old_or_reached had has stays (stays_at start homes was.at cell.at stays)
  filled_from has (IsFrom.free is_free no_number) = IsOldOrReached.free is_free

  -- nothing came to pages but free cells and what is reached
  fills_pages : FillsPages start.heap new
  fills_pages cell others has below = filled_from has (moved.back cell others has)

-- a scavenge leaves a tight heap
pub scavenges_are_tight : ScavengesAreTight
scavenges_are_tight old new graph all shows scavenged =
    new_is_tight shows.shows.whole.sized shows.free shows.remembered scavenged.begins scavenged.renaming scavenged.moved
    scavenged.alone

-- and brings nothing to pages but free cells and what is reached so
pub scavenges_fill_pages : ScavengesFillPages
scavenges_fill_pages old new graph all shows scavenged =
    fills_pages shows.shows.whole.sized shows.free shows.remembered scavenged.begins scavenged.renaming scavenged.moved
