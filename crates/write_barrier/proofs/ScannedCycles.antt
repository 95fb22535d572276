-- What the heap's pages are as a world of marking, and what a scan leaves of it.
use Rattle.std.proofs.Common.{◌≡◌, ℕ, List, [], All, IsTrue, Some, false, refl, sym, ap, subst, ◌∙◌}
use Rattle.std.specs.Prelude.{is_some}
use Rattle.std.proofs.lemmas.List.Elements.{All-replicate}
use Rattle.page_space.specs.Extents.{Space}
use Rattle.cell_layout.specs.Cells.{layouts_in}
use Rattle.mark_laws.specs.PageWords.{MainSound}
use Rattle.mark_laws.specs.Runs.{IsSoundAndBorn}
use Rattle.mark_laws.specs.Types.{HelperView, MainView, World}
use Rattle.mark_world.specs.BetweenCommands.{HasSureTarget, Settled}
use Rattle.mark_world.specs.Coverage.{EachSlot}
use Rattle.mark_world.specs.Cycles.{Cycle}
use Rattle.mark_world.specs.Steps.{returned}
use Rattle.mark_barrier.specs.Paid.{IsPaid, Scans}
use Rattle.mark_barrier.specs.Waiting.{Waiting}
use Rattle.shared_table.specs.Worlds.{world_at_home}
use Rattle.cycle_state.specs.Cycles.{world_in}
use Rattle.heap_table.specs.Overviews.{cycle_in, known, overview}
use Rattle.heap_table.specs.Phases.{Mark}
use Rattle.heap_table.specs.Seats.{Seat as TableSeat}
use Rattle.write_barrier.specs.declared.main_side.Main.TheInside.{Inside}
use Rattle.write_barrier.specs.Cycles.{HasSoundView, HasWholeWorld, IsWholeWorld, ScansOn}
use Rattle.write_barrier.specs.Model.{mutator_of}
use Rattle.write_barrier.specs.Pauses.{world_with}
use Rattle.write_barrier.specs.Seats.{marks_by}
use Rattle.write_barrier.specs.MutatorState.{Mutator, heap_of}
use Rattle.write_barrier.proofs.SeatSteps.{mutator_steps}

-- a world with these layout words
abbrev laid : World → List ℕ → World
laid world layouts = record world { layouts = layouts }

module _ (main : Inside) (same : layouts_in main.seat.space main.seat.table ≡ (overview main.seat).layouts)
    (owed : (overview main.seat).view.owed ≡ []) where
  abbrev view : MainView
  view = (overview main.seat).view

  abbrev home : World
  home = world_at_home (overview main.seat)

  -- what is done by the heap's words is done by those that helpers read
  pub to_home : Settled (world_in (heap_of (mutator_of main)) (cycle_in main.seat)) → Settled home
  to_home settled = record {
    owed = owed;
    sure = subst (λ (ls : List ℕ). All (λ at. EachSlot (laid home ls) at (λ offset. HasSureTarget (laid home ls)))
        view.mine) same settled.sure;
  }

  -- and the other way round
  pub from_home : Settled home → Settled (world_in (heap_of (mutator_of main)) (cycle_in main.seat))
  from_home settled = record {
    owed = refl;
    sure = subst (λ (ls : List ℕ). All (λ at. EachSlot (laid home ls) at (λ offset. HasSureTarget (laid home ls)))
        view.mine) (sym same) settled.sure;
  }

  -- the view that commands know: nothing is owed
  view_paid : view ≡ record view { owed = [] }
  view_paid = ap (λ (debts : List ℕ). record view { owed = debts }) owed

  -- the mutator's view is as in a sound world
  pub sound_view : MainSound (overview main.seat).old (overview main.seat).words (overview main.seat).layouts view
      → HasSoundView (mutator_of main)
  sound_view sound =
      let here : MainSound (overview main.seat).old (overview main.seat).words
      (layouts_in main.seat.space main.seat.table) (record view { owed = [] }) =
      subst (λ (ls : List ℕ). MainSound (overview main.seat).old (overview main.seat).words ls
      (record view { owed = [] })) (sym same)
      (subst (MainSound (overview main.seat).old (overview main.seat).words (overview main.seat).layouts) view_paid
      sound) in
      record {
        pages = here.pages;
        addresses = here.addresses;
        within = here.within;
        shapes = here.shapes;
        read = here.read;
        apart = here.apart;
        born = here.born;
        mine = here.mine;
        mine_born = here.mine_born;
        mine_old = here.mine_old;
        sure_born = here.sure_born;
        owed_born = here.owed_born;
        slots = here.slots;
      }

  -- the world, by the heap's layout words: nothing is owed
  abbrev pub here : World
  here = world_with (mutator_of main) (marks_by (known main.seat.shared))

  -- and where no seat is out it is whole
  pub whole_here : IsSoundAndBorn home → IsWholeWorld here
  whole_here whole =
      let paid : World = record home { main = record view { owed = [] } } in
      let is : home ≡ here =
      ap (λ (v : MainView). record home { main = v }) view_paid ∙ ap (laid paid) (sym same) in
      let both : IsSoundAndBorn here = subst IsSoundAndBorn is whole in
      record {
        sound = both.0;
        born = both.1;
        none_out = All-replicate (λ (v : HelperView). v.out ≡ false) (overview main.seat).lent returned refl;
        owed = refl;
      }

  -- so the heap's pages are a whole world
  pub whole_world : IsSoundAndBorn home → HasWholeWorld (mutator_of main)
  whole_world whole = record { world = here; is = record { is = refl }; holds = whole_here whole }

-- what a scan leaves
pub scanned : (main : Inside) (now : Mutator) (seat : TableSeat) (grey : Waiting) → mutator_of main ≡ now
    → main.seat.phase ≡ Mark → IsTrue (is_some main.seat.shared)
    → layouts_in main.seat.space main.seat.table ≡ (overview main.seat).layouts
    → (overview main.seat).view.owed ≡ [] → IsPaid seat grey → Scans main.seat seat
    → ScansOn now (mutator_of (record main { seat = seat; grey = Some grey }))
scanned main now seat grey is mark shared same owed paid scans =
    let new : Inside = record main { seat = seat; grey = Some grey } in
    let still : layouts_in seat.space seat.table ≡ (overview seat).layouts =
    ap (λ (s : Space). layouts_in s seat.table) scans.steps.moves.space
    ∙ ap (layouts_in main.seat.space) scans.steps.moves.table ∙ same ∙ sym scans.steps.moves.layouts in
    subst (λ (one : Mutator). ScansOn one (mutator_of new)) is (record {
      is = mutator_steps main seat grey main.seat.table (cycle_in seat) shared scans.steps mark
          ∙ ap (λ (one : Cycle). record (mutator_of main) { cycle = one }) scans.cycle;
      mine = scans.grows.mine;
      sure = scans.grows.sure;
      settled = λ settled. from_home new still paid.owed (scans.settled (to_home main same owed settled));
    })
