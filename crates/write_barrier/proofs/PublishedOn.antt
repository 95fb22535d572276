-- What stays where a new cell is published.
use Rattle.std.proofs.Common.{◌≡◌, ℕ, ◌<◌, ◌⊎◌, inl, inr, Contains, List, refl, sym, subst}
use Rattle.std.proofs.lemmas.Bool.{cases_eq, cases_lt}
use Rattle.std.proofs.lemmas.List.Elements.{All-contains_itself}
use Rattle.cell_layout.specs.Cells.{layouts_in}
use Rattle.core_parts.specs.Lists.{joined}
use Rattle.core_parts.proofs.Joining.{joined_from, joined_in, joined_keeps}
use Rattle.cycle_state.specs.Cycles.{words_of_pages}
use Rattle.heap_table.specs.Phases.{Mark}
use Rattle.mark_barrier.specs.CycleSteps.{published}
use Rattle.mark_laws.proofs.Joins.{all_from}
use Rattle.mark_laws.specs.Types.{Kind}
use Rattle.mark_world.specs.Cycles.{Cycle}
use Rattle.mark_world.specs.Soundness.{AreIn}
use Rattle.mark_world.specs.declared.event.Event.TheVariants as event
use Rattle.page_space.specs.Extents.{eden_start}
use Rattle.write_barrier.specs.Marking.{MayPut, with_published}
use Rattle.write_barrier.specs.MutatorState.{Mutator, heap_of}
use Rattle.write_barrier.specs.Storing.{IsReadable, MayChange, MayHold}
use Rattle.write_barrier.proofs.MarksOn.{MarksOn, marked_readable, may_change_marked, may_hold_marked, step_marks}
use Rattle.write_barrier.proofs.PutWords.{after_behind, after_cases, after_open}
use Rattle.write_barrier.proofs.SeenWorlds.{new_sees}

-- a list that an address joins has what it had
joined_more : (list : List ℕ) (at : ℕ) → AreIn (joined list at) list
joined_more list at = all_from (Contains (joined list at)) list (joined_keeps list at)

-- the world goes on
published_marks : (main : Mutator) (at : ℕ) → MayPut main at (event.NewBlack at)
    → MarksOn main (with_published main at).cycle
published_marks main at may =
    step_marks main at (published main.cycle at) (λ inside mark readable.
    new_sees (eden_start main.seat.space) (words_of_pages (heap_of main))
    (layouts_in main.seat.space main.seat.table) main.cycle readable.view at (may inside mark).may)

module _ (main : Mutator) (at : ℕ) where
  -- only published, born and black cells are more
  pub published_cycle : (with_published main at).cycle
      ≡ record main.cycle {
        starts = (with_published main at).cycle.starts;
        born = (with_published main at).cycle.born;
        mine = (with_published main at).cycle.mine;
      }
  published_cycle =
      after_cases (λ (c : Cycle). c ≡ record main.cycle { starts = c.starts; born = c.born; mine = c.mine }) main at
      (published main.cycle at) refl refl

  -- no cell is published no more
  pub published_starts_grow : AreIn (with_published main at).cycle.starts main.cycle.starts
  published_starts_grow =
      after_cases (λ (c : Cycle). AreIn c.starts main.cycle.starts) main at (published main.cycle at)
      (All-contains_itself main.cycle.starts) (joined_more main.cycle.starts at)

  -- none is born no more
  pub published_born_grows : AreIn (with_published main at).cycle.born main.cycle.born
  published_born_grows =
      after_cases (λ (c : Cycle). AreIn c.born main.cycle.born) main at (published main.cycle at)
      (All-contains_itself main.cycle.born) (joined_more main.cycle.born at)

  -- and the mutator has made no fewer black
  pub published_mine_grows : AreIn (with_published main at).cycle.mine main.cycle.mine
  published_mine_grows =
      after_cases (λ (c : Cycle). AreIn c.mine main.cycle.mine) main at (published main.cycle at)
      (All-contains_itself main.cycle.mine) (joined_more main.cycle.mine at)

module _ {main : Mutator} (at : ℕ) where
  -- cells may be read
  pub published_readable : MayPut main at (event.NewBlack at) → main.seat.phase ≡ Mark → IsReadable main
      → IsReadable (with_published main at)
  published_readable may mark readable = marked_readable (published_marks main at may) mark readable

  -- cells may be changed that might
  pub may_change_published : {one size : ℕ} {kind : Kind} → MayPut main at (event.NewBlack at)
      → MayChange main one size kind → MayChange (with_published main at) one size kind
  may_change_published may change = may_change_marked (published_marks main at may) change

  -- and a slot may hold the words that it might
  pub may_hold_published : {word : ℕ} → MayHold main word → MayHold (with_published main at) word
  may_hold_published holds = may_hold_marked (published_born_grows main at) holds

  -- in an open cycle the cell is one of those that the mutator made black
  pub published_is_mine : IsReadable main → at < eden_start main.seat.space → main.seat.phase ≡ Mark
      → Contains (with_published main at).cycle.mine at
  published_is_mine readable inside mark =
      subst (λ (c : Cycle). Contains c.mine at)
      (sym (after_open main at (published main.cycle at) readable inside mark)) (joined_in main.cycle.mine at)

  -- it is born
  pub published_is_born : IsReadable main → at < eden_start main.seat.space → main.seat.phase ≡ Mark
      → Contains (with_published main at).cycle.born at
  published_is_born readable inside mark =
      subst (λ (c : Cycle). Contains c.born at)
      (sym (after_open main at (published main.cycle at) readable inside mark)) (joined_in main.cycle.born at)

  -- and published
  pub published_is_start : IsReadable main → at < eden_start main.seat.space → main.seat.phase ≡ Mark
      → Contains (with_published main at).cycle.starts at
  published_is_start readable inside mark =
      subst (λ (c : Cycle). Contains c.starts at)
      (sym (after_open main at (published main.cycle at) readable inside mark)) (joined_in main.cycle.starts at)

  -- the lists that have more cells have no other one more
  published_from : (list : Cycle → List ℕ) (one : ℕ) → IsReadable main
      → list (published main.cycle at) ≡ joined (list main.cycle) at
      → Contains (list (with_published main at).cycle) one
      → Contains (list main.cycle) one ⊎ ((one ≡ at) × (at < eden_start main.seat.space))
  published_from list one readable is there = elim (cases_lt at (eden_start main.seat.space)) [
    | inl inside ↦
        after_cases (λ (c : Cycle). Contains (list c) one
        → Contains (list main.cycle) one ⊎ ((one ≡ at) × (at < eden_start main.seat.space))) main at
        (published main.cycle at) (λ had. inl had) (λ has. elim (cases_eq one at) [
          | inl same ↦ inr (same, inside)
          | inr other ↦ inl (joined_from (list main.cycle) at one other (subst (λ (l : List ℕ). Contains l one) is has))
        ]) there
    | inr beyond ↦
        inl (subst (λ (c : Cycle). Contains (list c) one)
        (after_behind main at (published main.cycle at) readable beyond) there)
  ]

  -- no other cell is black
  pub published_mine_from : (one : ℕ) → IsReadable main → Contains (with_published main at).cycle.mine one
      → Contains main.cycle.mine one ⊎ ((one ≡ at) × (at < eden_start main.seat.space))
  published_mine_from one readable there = published_from (λ (c : Cycle). c.mine) one readable refl there

  -- no other cell is born
  pub published_born_from : (one : ℕ) → IsReadable main → Contains (with_published main at).cycle.born one
      → Contains main.cycle.born one ⊎ ((one ≡ at) × (at < eden_start main.seat.space))
  published_born_from one readable there = published_from (λ (c : Cycle). c.born) one readable refl there

  -- and no other is published
  pub published_starts_from : (one : ℕ) → IsReadable main → Contains (with_published main at).cycle.starts one
      → Contains main.cycle.starts one ⊎ ((one ≡ at) × (at < eden_start main.seat.space))
  published_starts_from one readable there = published_from (λ (c : Cycle). c.starts) one readable refl there
