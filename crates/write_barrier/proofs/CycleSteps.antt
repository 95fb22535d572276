-- What the seat asks of a step in an open cycle, by what is told of it.
use Rattle.std.proofs.Common.{◌≡◌, ℕ, ◌+◌, ◌<◌, List, length, drop, Option, Some, None, slice_get, IfSome, IsTrue}
use Rattle.std.proofs.Common.{◌⊎◌, inl, inr, sym, ◌∙◌, ap, subst, arith}
use Rattle.std.specs.Prelude.{is_some}
use Rattle.std.proofs.lemmas.List.{ext_get_or, length-take, length-drop}
use Rattle.std.proofs.lemmas.Bool.{false≢true}
use Rattle.std.proofs.lemmas.Option.{get_or_from_slice_get}
use Rattle.tagged_word.specs.Shapes.{shapes_most}
use Rattle.page_space.specs.Extents.{Space, eden_start, layouts_start, marks_start}
use Rattle.page_space.proofs.Starts.{marks_start_is}
use Rattle.heap_model.specs.Types.{Path}
use Rattle.cell_layout.specs.Cells.{layouts_in}
use Rattle.cell_layout.proofs.CellsThere.{slice_get-layouts_in}
use Rattle.shape_tree.specs.ShapeLayouts.{layout_word}
use Rattle.mark_world.specs.declared.event.Event.{Event}
use Rattle.mark_world.specs.declared.event.Event.TheVariants as event
use Rattle.mark_world.specs.declared.views.MainView.{MainView}
use Rattle.mark_world.specs.Conditions.{MayMain}
use Rattle.mark_world.specs.Cycles.{Cycle, cycle_of}
use Rattle.cycle_state.specs.Cycles.{main_of}
use Rattle.heap_table.specs.Phases.{Mark}
use Rattle.heap_table.specs.Seats.{Seat as TableSeat, Beside}
use Rattle.heap_table.specs.Overviews.{MayStep, cycle_in, known, overview}
use Rattle.mark_barrier.specs.CycleSteps.{made_black}
use Rattle.mark_barrier.specs.Paid.{StepsTo}
use Rattle.mark_barrier.specs.Waiting.{Waiting}
use Rattle.write_barrier.specs.declared.main_side.Main.TheInside.{Inside}
use Rattle.write_barrier.specs.Layouts.{AreLayouts, HasLayouts}
use Rattle.write_barrier.specs.Marking.{MayPut, MayPutHeader, MayStepInCycle, blackened}
use Rattle.write_barrier.specs.Model.{mutator_of, IsTold}
use Rattle.write_barrier.specs.MutatorState.{Mutator, while_open}
use Rattle.write_barrier.proofs.SeatSteps.{mutator_steps}
use Rattle.write_barrier.proofs.SlotCycles.{open_mark}

-- there are as many layout words as shapes
pub layouts_count : (space : Space) (words : List ℕ) → length words ≡ marks_start space
    → length (layouts_in space words) ≡ shapes_most
unfolding layouts_in
layouts_count space words counted =
    let rest : List ℕ = drop (layouts_start space) words in
    omega (arith, length-take shapes_most rest, length-drop (layouts_start space) words, counted, marks_start_is space)

-- layout words that are those of the same shapes are the same words
layouts_alike : (space : Space) (words read : List ℕ) (paths : List Path) → length words ≡ marks_start space
    → length read ≡ shapes_most → AreLayouts words (layouts_start space) paths → AreLayouts read 0 paths
    → layouts_in space words ≡ read
layouts_alike space words read paths counted long own others =
    let count : length (layouts_in space words) ≡ shapes_most = layouts_count space words counted in
    ext_get_or 0 (layouts_in space words) read (count ∙ sym long) (λ shape below.
    let few : shape < shapes_most = omega (arith, below, count) in
    let from_none : 0 + shape ≡ shape = omega arith in
    get_or_from_slice_get (layouts_in space words) shape (layout_word paths shape) 0
    (slice_get-layouts_in space words shape few ∙ own shape few)
    ∙ sym (get_or_from_slice_get read shape (layout_word paths shape) 0
    (sym (ap (slice_get read) from_none) ∙ others shape few)))

-- so the layout words of the heap are those that helpers read, where there is a shared table
pub layouts_by : (space : Space) (words : List ℕ) (paths : List Path) (shared : Option Beside)
    → length words ≡ marks_start space → AreLayouts words (layouts_start space) paths → IsTrue (is_some shared)
    → IfSome shared (λ beside. length beside.layouts ≡ shapes_most)
    → IfSome shared (λ beside. AreLayouts beside.layouts 0 paths)
    → layouts_in space words ≡ (known shared).layouts
layouts_by space words paths (Some beside) counted own some long others =
    layouts_alike space words beside.layouts paths counted long own others
layouts_by space words paths None counted own some long others = absurd (false≢true some)

-- what is known of layouts in an open cycle
pub record KnowsLayouts (seat : TableSeat) : Type 0 where
  pub counted : length seat.table ≡ marks_start seat.space
  pub shared : IsTrue (is_some seat.shared)
  pub long : IfSome seat.shared (λ beside. length beside.layouts ≡ shapes_most)

-- what the mutator owes, which grey cells wait with it, and its log, play no part in what a step that stores asks
module _ (old : ℕ) (words : List ℕ) (view : MainView) (reached : List ℕ) (made : ℕ) (dead : List ℕ) where
  pub owned_by : (layouts read : List ℕ) (at word : ℕ) → layouts ≡ read
      → MayMain old words layouts (main_of (cycle_of view reached made dead)) (event.StoreOwned at word)
      → MayMain old words read view (event.StoreOwned at word)
  owned_by layouts read at word same may =
      subst (λ (all : List ℕ). MayMain old words all view (event.StoreOwned at word)) same
      (record { place = may.place; alone = may.alone })

  pub header_by : (layouts read : List ℕ) (at word : ℕ) → layouts ≡ read
      → MayMain old words layouts (main_of (cycle_of view reached made dead)) (event.StoreHeader at word)
      → MayMain old words read view (event.StoreHeader at word)
  header_by layouts read at word same may =
      subst (λ (all : List ℕ). MayMain old words all view (event.StoreHeader at word)) same
      (record { place = may.place; safe = may.safe; sure = may.sure })

  pub slot_by : (layouts read : List ℕ) (at word : ℕ) → layouts ≡ read
      → MayMain old words layouts (main_of (cycle_of view reached made dead)) (event.StoreSlot at word)
      → MayMain old words read view (event.StoreSlot at word)
  slot_by layouts read at word same may =
      subst (λ (all : List ℕ). MayMain old words all view (event.StoreSlot at word)) same
      (record { place = may.place; no_head = may.no_head; slot_word = may.slot_word; born = may.born })

  pub new_by : (layouts read : List ℕ) (at : ℕ) → layouts ≡ read
      → MayMain old words layouts (main_of (cycle_of view reached made dead)) (event.NewBlack at)
      → MayMain old words read view (event.NewBlack at)
  new_by layouts read at same may =
      subst (λ (all : List ℕ). MayMain old words all view (event.NewBlack at)) same
      (record { page = may.page; outside = may.outside })

-- an address below the bound of what is recorded is one of a page
pub of_page : (main : Inside) (now : Mutator) (at : ℕ) → mutator_of main ≡ now → IsTold main → at < now.recorded.bound
    → at < eden_start main.seat.space
of_page main now at is told page =
    subst (λ (end : ℕ). at < end) told.bound (subst (λ (one : Mutator). at < one.recorded.bound) (sym is) page)

-- so the seat may make the step
module _ (main : Inside) (now : Mutator) (is : mutator_of main ≡ now) (told : IsTold main)
    (knows : KnowsLayouts main.seat) (mark : main.seat.phase ≡ Mark) where
  pub same_layouts : HasLayouts (mutator_of main)
      → layouts_in main.seat.space main.seat.table ≡ (overview main.seat).layouts
  same_layouts own =
      layouts_by main.seat.space main.seat.table main.shapes main.seat.shared knows.counted own knows.shared knows.long
      told.layouts

  may_here : (at : ℕ) (of : Event) → MayPut now at of → at < now.recorded.bound → MayStepInCycle (mutator_of main) of
  may_here at of may page =
      subst (λ (one : Mutator). MayPut one at of) (sym is) may (of_page main now at is told page) mark

  pub may_black : (at : ℕ) → MayPut now at (event.Blacken at) → at < now.recorded.bound
      → MayStepInCycle (mutator_of main) (event.Blacken at)
  may_black at may page = may_here at (event.Blacken at) may page

  -- the seat may put a word as one that no helper visits by
  owned_here : (at word : ℕ) → MayStepInCycle (mutator_of main) (event.StoreOwned at word)
      → MayStep main.seat (event.StoreOwned at word)
  owned_here at word here =
      owned_by _ _ (overview main.seat).view (overview main.seat).reached (overview main.seat).made
      (overview main.seat).dead _ _ at word
      (same_layouts here.layouts) here.may

  -- or as a header that changes safely
  header_here : (at word : ℕ) → MayStepInCycle (mutator_of main) (event.StoreHeader at word)
      → MayStep main.seat (event.StoreHeader at word)
  header_here at word here =
      header_by _ _ (overview main.seat).view (overview main.seat).reached (overview main.seat).made
      (overview main.seat).dead _ _ at word
      (same_layouts here.layouts) here.may

  pub owned_step : (at word : ℕ) → MayPut now at (event.StoreOwned at word) → at < now.recorded.bound
      → MayStep main.seat (event.StoreOwned at word)
  owned_step at word may page = owned_here at word (may_here at (event.StoreOwned at word) may page)

  pub header_step : (at word : ℕ) → MayPutHeader now at word → at < now.recorded.bound
      → MayStep main.seat (event.StoreHeader at word) ⊎ MayStep main.seat (event.StoreOwned at word)
  header_step at word may page =
      elim (subst (λ (one : Mutator). MayPutHeader one at word) (sym is) may (of_page main now at is told page) mark) [
        | inl header ↦ inl (header_here at word header)
        | inr owned ↦ inr (owned_here at word owned)
      ]

  pub slot_step : (at word : ℕ) → MayPut now at (event.StoreSlot at word) → at < now.recorded.bound
      → MayStep main.seat (event.StoreSlot at word)
  slot_step at word may page =
      let here = may_here at (event.StoreSlot at word) may page in
      slot_by _ _ (overview main.seat).view (overview main.seat).reached (overview main.seat).made
      (overview main.seat).dead _ _ at word
      (same_layouts here.layouts) here.may

  pub new_step : (at : ℕ) → MayPut now at (event.NewBlack at) → at < now.recorded.bound
      → MayStep main.seat (event.NewBlack at)
  new_step at may page =
      let here = may_here at (event.NewBlack at) may page in
      new_by _ _ (overview main.seat).view (overview main.seat).reached (overview main.seat).made
      (overview main.seat).dead _ _ at
      (same_layouts here.layouts) here.may

-- what is known of the cycle once a cell was made black, by the layout words that helpers read, is so by the heap's
pub black_steps : (main : Inside) (now : Mutator) (seat : TableSeat) (grey : Waiting) (at : ℕ) → mutator_of main ≡ now
    → IsTrue (is_some main.seat.shared) → main.seat.phase ≡ Mark
    → layouts_in main.seat.space main.seat.table ≡ (overview main.seat).layouts
    → StepsTo main.seat seat main.seat.table (made_black (overview main.seat).old (overview main.seat).words
    (overview main.seat).layouts (cycle_in main.seat) at)
    → mutator_of (record main { seat = seat; grey = Some grey })
    ≡ record now { cycle = while_open now.seat.phase now.cycle (blackened now at) }
black_steps main now seat grey at is shared mark same steps =
    let old : Mutator = mutator_of main in
    let by : List ℕ → Cycle = λ layouts. made_black (overview main.seat).old (overview main.seat).words layouts
    (cycle_in main.seat) at in
    subst (λ (one : Mutator). mutator_of (record main { seat = seat; grey = Some grey })
    ≡ record one { cycle = while_open one.seat.phase one.cycle (blackened one at) }) is (
    mutator_steps main seat grey main.seat.table (by (overview main.seat).layouts) shared steps mark
    ∙ ap (λ (layouts : List ℕ). record old { cycle = by layouts }) (sym same)
    ∙ ap (λ (one : Cycle). record old { cycle = one })
    (sym (open_mark main.seat.phase old.cycle (blackened old at) mark)))
