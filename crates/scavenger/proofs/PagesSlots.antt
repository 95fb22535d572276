-- What stands in pages stays where the word of a live slot becomes another.
use Rattle.std.proofs.Common.{◌≡◌, ◌≢◌, ℕ, ◌+◌, ◌*◌, ◌/◌, ◌<◌, ◌≤◌, ◌⊎◌, inl, inr, List, [], set, Contains, IsTrue}
use Rattle.std.proofs.Common.{refl, sym, ◌∙◌, subst, arith, length-set}
use Rattle.std.proofs.lemmas.Bool.{cases_lt, cases_eq, false≢true}
use Rattle.tagged_word.specs.declared.layout.Kind.TheVariants as kind
use Rattle.tagged_word.specs.Cells.{is_free_kind, scavenge_offsets, scavenge_offsets_of}
use Rattle.page_space.specs.Sizes.{page_words}
use Rattle.page_space.specs.Extents.{Space, eden_start, layouts_start}
use Rattle.page_space.proofs.LawsHold.{kinds_by_number}
use Rattle.object_graph.proofs.Lists.{slice_get-set_other}
use Rattle.cell_layout.specs.Cells.{IsCell, IsRow}
use Rattle.cell_layout.proofs.OneCell.{one_cell, slots_lie_within}
use Rattle.cell_layout.proofs.Puts.{slots_change}
use Rattle.heap_model.specs.Types.{Kind, LayoutWord, Cell, Run}
use Rattle.heap_model.specs.Remembered.{IsPageSlot}
use Rattle.heap_model.proofs.CellsApart.{one_at}
use Rattle.scav_copy.specs.declared.places.Home.{Home}
use Rattle.scav_copy.specs.Places.{Fixed, size_of, offsets_of, StoodAt}
use Rattle.scav_copy.proofs.Spots.{none_in, copy_in_room, slot_in_cell, within_by}
use Rattle.scavenger.specs.Starts.{Start, IsBegun, IsRootAt, IsFreeRun}
use Rattle.scavenger.specs.Filling.{CopiesFillRooms, IsInPage, PageStands, StandsIn}
use Rattle.scavenger.specs.Paging.{PagesStayForSlots}
use Rattle.scavenger.proofs.TargetCells.{in_half_or_page}
use Rattle.scavenger.proofs.TargetNumbers.{half_below_roots}
use Rattle.scavenger.proofs.PagesWords.{StaysIn, row_stays, page_of, ends_in}
use Rattle.scavenger.proofs.PagesCells.{copy_offsets}
use Rattle.scavenger.proofs.PagesFree.{row_has}

-- a page stands where its words stay
pub page_stays : {start : Start} {words now : List ℕ} {rows : List (List Run)} {homes : List Home} (page : ℕ)
    → PageStands start words rows homes page
    → StaysIn start.heap.space words now (page_words * page) (page_words * page + page_words)
    → PageStands start now rows homes page
page_stays page stands stays =
    let from : ℕ = page_words * page in
    let to : ℕ = page_words * page + page_words in
    record {
      cells = stands.cells;
      row = row_stays from to stands.cells stays stands.row (omega arith) (omega arith);
      each = stands.each;
      stay = stands.stay;
      copies = stands.copies;
      runs = stands.runs;
    }

-- and where another row of its cells stands
with_row : {start : Start} {words now : List ℕ} {rows : List (List Run)} {homes : List Home} (page : ℕ)
    → (stands : PageStands start words rows homes page)
    → IsRow start.heap.space now (page_words * page) (page_words * page + page_words) stands.cells
    → PageStands start now rows homes page
with_row page stands row = record {
  cells = stands.cells;
  row = row;
  each = stands.each;
  stay = stands.stay;
  copies = stands.copies;
  runs = stands.runs;
}

-- words where one was put outside a page, and not in a layout word, are as they were in it
put_outside : (space : Space) (words : List ℕ) (slot word from to : ℕ) → (slot < from) ⊎ (to ≤ slot)
    → slot < layouts_start space → StaysIn space words (set words slot word) from to
put_outside space words slot word from to out below = record {
  long = length-set words slot word;
  within = λ at low high. slice_get-set_other words slot at word (λ same. elim out [
    | inl before ↦ omega (arith, before, low, same)
    | inr behind ↦ omega (arith, behind, high, same)
  ]);
  layouts = λ shape known. slice_get-set_other words slot (layouts_start space + shape) word
      (λ same. omega (arith, same, below));
}

-- a free cell has no slots, kind by kind
pub free_slots : (k : Kind) (layout : LayoutWord) (long : ℕ) → IsTrue (is_free_kind k)
    → scavenge_offsets_of k layout long ≡ []
free_slots kind.Filler layout long free = refl
free_slots kind.Gap layout long free = refl
free_slots _ layout long free = absurd (false≢true free)

-- an address of a page is outside each other one
pub outside_page : (own page at : ℕ) → own ≢ page → page_words * own ≤ at → at < page_words * own + page_words
    → (at < page_words * page) ⊎ (page_words * page + page_words ≤ at)
outside_page own page at other from below = elim (cases_lt at (page_words * page)) [
  | inl before ↦ inl before
  | inr behind ↦ elim (cases_lt at (page_words * page + page_words)) [
    | inl inside ↦ absurd (other (omega (arith, from, below, behind, inside)))
    | inr past ↦ inr past
  ]
]

module _ {start : Start} {fixed : Fixed} {words : List ℕ} {rows : List (List Run)} {homes : List Home} {fill : ℕ}
    (begun : IsBegun start fixed) (filled : CopiesFillRooms start fixed words rows homes fill) where
  -- A slot of a cell of the page, or of one of another page, becomes another word.
  put_in_cell : (cell : Cell) (offset word page : ℕ) → page < start.heap.space.sizes.pages
      → IsCell start.heap.space words cell → cell.at < eden_start start.heap.space
      → Contains (scavenge_offsets cell.layout cell.length) offset
      → ((stands : PageStands start words rows homes page) → IsInPage page cell.at → Contains stands.cells cell)
      → PageStands start (set words (cell.at + offset) word) rows homes page
  put_in_cell cell offset word page known is_cell below slot among =
      let space = start.heap.space in
      let stands = filled.pages page known in
      let own : ℕ = cell.at / page_words in
      let own_is = page_of cell.at in
      let ends = ends_in space words cell own is_cell below own_is in
      let within = (slots_lie_within space words cell offset is_cell slot).within in
      let layouts = (kinds_by_number space).layouts in
      let roots = (kinds_by_number space).roots in
      elim (cases_eq own page) [
        | inl same ↦
            let here : IsInPage page cell.at = subst (λ (one : ℕ). IsInPage one cell.at) same own_is in
            with_row page stands
            (slots_change space words (page_words * page) (page_words * page + page_words) offset word stands.cells cell
            stands.row (among stands here) slot)
        | inr other ↦
            page_stays page stands
            (put_outside space words (cell.at + offset) word (page_words * page) (page_words * page + page_words)
            (outside_page own page (cell.at + offset) other (omega (arith, own_is.from)) (omega (arith, ends, within)))
            (omega (arith, below, own_is.from, ends, within, layouts, roots)))
      ]

  -- A slot from eden on becomes another word.
  put_behind : (slot word page : ℕ) → page < start.heap.space.sizes.pages → eden_start start.heap.space ≤ slot
      → slot < layouts_start start.heap.space → PageStands start (set words slot word) rows homes page
  put_behind slot word page known behind below =
      page_stays page (filled.pages page known)
      (put_outside start.heap.space words slot word (page_words * page) (page_words * page + page_words)
      (inr (omega (arith, known, behind))) below)

  -- a slot of a cell of a page of before
  put_recorded : (slot word page : ℕ) → page < start.heap.space.sizes.pages → IsPageSlot start.heap slot
      → PageStands start (set words slot word) rows homes page
  put_recorded slot word page known is =
      let own : ℕ = is.cell.at / page_words in
      let own_known : own < start.heap.space.sizes.pages = omega (arith, is.of_page) in
      let not_free : (run : Run) → IsFreeRun start.rows run → run.at ≡ is.cell.at → ⊥ = λ run of_rows same.
      let free = begun.free of_rows.row run of_rows.of_rows of_rows.among in
      let one : free.cell ≡ is.cell = one_at free.has is.has (omega (arith, free.stands, same)) in
      let slots = free_slots free.cell.layout.kind free.cell.layout free.cell.length free.free in
      let offsets : scavenge_offsets is.cell.layout is.cell.length ≡ [] =
      subst (λ (cell : Cell). scavenge_offsets cell.layout cell.length ≡ []) one slots in
      none_in is.slot.offset (subst (λ (all : List ℕ). Contains all is.slot.offset) offsets is.slot.visited) in
      let among : (at : ℕ) → (stands : PageStands start words rows homes at) → IsInPage at is.cell.at
      → Contains stands.cells is.cell = λ at stands here. stands.stay is.cell is.words is.has here not_free in
      let stands = filled.pages own own_known in
      let is_cell = row_has stands (among own stands (page_of is.cell.at)) in
      subst (λ (at : ℕ). PageStands start (set words at word) rows homes page) is.slot.stands
      (put_in_cell is.cell is.slot.offset word page known is_cell is.of_page is.slot.visited (among page))

  -- a slot outside: the root of a variable, or a recorded one
  put_outer : (slot word page : ℕ) → page < start.heap.space.sizes.pages
      → IsRootAt start.heap.space slot ⊎ Contains start.recorded slot
      → PageStands start (set words slot word) rows homes page
  put_outer slot word page known (inl root) =
      let layouts = (kinds_by_number start.heap.space).layouts in
      let roots = (kinds_by_number start.heap.space).roots in
      put_behind slot word page known (omega (arith, root.stands, roots))
      (omega (arith, root.stands, root.known, layouts))
  put_outer slot word page known (inr recorded) =
      put_recorded slot word page known ((begun.remembered slot).0 recorded).0

  -- a slot of a home copy in a page
  put_in_copy : (home : Home) (offset word page : ℕ) → page < start.heap.space.sizes.pages → Contains homes home
      → home.to < eden_start start.heap.space → Contains (offsets_of fixed home.from) offset
      → PageStands start (set words (home.to + offset) word) rows homes page
  put_in_copy home offset word page known there below slot =
      let space = start.heap.space in
      let own : ℕ = home.to / page_words in
      let own_known : own < space.sizes.pages = omega (arith, below) in
      let stands = filled.pages own own_known in
      let one : StandsIn stands.cells home.to = stands.copies home there (page_of home.to) in
      let is_cell = row_has stands one.among in
      let offsets = copy_offsets home one.cell begun filled.copying there is_cell one.stands in
      let among : (here : PageStands start words rows homes page) → IsInPage page one.cell.at
      → Contains here.cells one.cell = λ here in_page.
      let other : StandsIn here.cells home.to =
      here.copies home there (subst (IsInPage page) one.stands in_page) in
      let same : other.cell ≡ one.cell =
      one_cell space words other.cell one.cell (row_has here other.among) is_cell (other.stands ∙ sym one.stands) in
      subst (Contains here.cells) same other.among in
      subst (λ (at : ℕ). PageStands start (set words (at + offset) word) rows homes page) one.stands
      (put_in_cell one.cell offset word page known is_cell (omega (arith, one.stands, below))
      (subst (λ (all : List ℕ). Contains all offset) offsets slot) among)

  -- a slot of any home copy
  put_in_home : (home : Home) (offset word page : ℕ) → page < start.heap.space.sizes.pages → Contains homes home
      → Contains (offsets_of fixed home.from) offset
      → PageStands start (set words (home.to + offset) word) rows homes page
  put_in_home home offset word page known there slot =
      let space = start.heap.space in
      elim (cases_lt home.to (eden_start space)) [
        | inl below ↦ put_in_copy home offset word page known there below slot
        | inr young ↦
            let at : ℕ = home.to + offset in
            let within = (slot_in_cell fixed home.from offset slot).1 in
            let room = copy_in_room home at filled.copying there
            (within_by home.to (size_of fixed home.from) offset at within refl) in
            let layouts = (kinds_by_number space).layouts in
            let ends = half_below_roots space start.half begun.is_half in
            elim (in_half_or_page at begun room) [
              | inl in_half ↦
                  put_behind at word page known (omega (arith, young)) (omega (arith, in_half.below, ends, layouts))
              | inr in_page ↦ absurd (omega (arith, in_page, young))
            ]
      ]

  -- any live slot
  pub put_live : (slot place word page : ℕ) → page < start.heap.space.sizes.pages → StoodAt fixed homes slot place
      → PageStands start (set words slot word) rows homes page
  put_live slot place word page known (StoodAt.itself there same) =
      put_outer slot word page known ((begun.begins.slots slot).0 there)
  put_live slot place word page known (StoodAt.in_cell home offset there is to from) =
      subst (λ (at : ℕ). PageStands start (set words at word) rows homes page) to
      (put_in_home home offset word page known there is)

-- a live slot may become any word
pub pages_stay_for_slots : PagesStayForSlots
pages_stay_for_slots start fixed words rows homes fill slot place word begun filled stood page known =
    put_live begun filled slot place word page known stood
