-- What a lent seat keeps in its fields is kept by its steps, and what they touch is in the table.
use Rattle.std.proofs.Common.{◌≡◌, ◌⊎◌, inl, inr, Contains, ℕ, ◌+◌, ◌%◌, ◌<◌, ◌≤◌, List, [], All, IsTrue, sym, ap}
use Rattle.std.proofs.Common.{subst, ◌∙◌, arith}
use Rattle.std.proofs.lemmas.List.Elements.{All-contains}
use Rattle.tagged_word.specs.Shapes.{shapes_most}
use Rattle.page_space.specs.Extents.{board_words}
use Rattle.page_space.specs.Sizes.{page_words}
use Rattle.atomic_table.specs.Seated.{TableId}
use Rattle.core_parts.specs.Lists.{is_in, joined}
use Rattle.core_parts.proofs.Joining.{decided, in_found, out_not_found}
use Rattle.mark_laws.specs.OwnAddresses.{FindsOld, HasOldCells, IsThere}
use Rattle.mark_laws.specs.OwnViews.{IsOwnView}
use Rattle.mark_laws.specs.Types.{Event, Spot}
use Rattle.mark_world.specs.declared.event.Event.TheVariants as event
use Rattle.mark_world.specs.Steps.{helper_learns, helper_spot}
use Rattle.mark_laws.proofs.Joins.{all_from, joins}
use Rattle.mark_laws.proofs.OwnCells.{old_cells_stay}
use Rattle.mark_laws.proofs.OwnReading.{own_stays}
use Rattle.mark_laws.proofs.OwnSpots.{spots_there}
use Rattle.mark_laws.proofs.Slots.{some_at}
use Rattle.shared_table.specs.declared.overview.Counts.{Counts}
use Rattle.shared_table.specs.declared.overview.Lent.{Lent}
use Rattle.shared_table.specs.declared.overview.View.TheVariants.{Helper}
use Rattle.shared_table.specs.declared.helper.HelperSeat.TheInside.{Inside}
use Rattle.shared_table.specs.Worlds.{lent_of}
use Rattle.shared_table.specs.Helped.{IsHelping}
use Rattle.shared_table.specs.HelperTold.{HasPlace, shaded}
use Rattle.shared_table.specs.Spots.{place_of, HasSpot}
use Rattle.shared_table.proofs.HelperEvents.{IsStep, learned_seen}
use Rattle.shared_table.proofs.HelperSpots.{shade_step}
use Rattle.shared_table.proofs.HelperSteps.{shaded_again, shaded_event}

-- what the seat knows
abbrev pub known : Inside → Lent
known s = lent_of s.seat.me.0

-- a place that the seat knows of is in the table
pub in_table : (s : Inside) (table : TableId) (place : ℕ) → IsHelping s → s.seat.table_id ≡ table
    → HasPlace (known s).counts place → place < table.words
in_table s table place is same within =
    let there : HasPlace s.counts place = subst (λ (x : Counts). HasPlace x place) is.counts within in
    omega (arith, there, is.counted, ap (λ (t : TableId). t.words) same)

-- a spot of the table is there, by the sizes that it has
has_spot : (counts : Counts) (spot : Spot) → shapes_most ≤ counts.shapes → IsThere counts.old spot
    → HasSpot counts spot
has_spot counts (Spot.Heap at) all there = there
has_spot counts (Spot.Layout shape) all there = omega (arith, all, there)
has_spot counts (Spot.Colour at) all there = there
has_spot counts (Spot.Board place) all there = there

-- a spot has a place
has_place : (counts : Counts) (spot : Spot) → HasSpot counts spot → HasPlace counts (place_of counts spot)
has_place counts (Spot.Heap at) inside = omega (arith, inside)
has_place counts (Spot.Layout shape) inside = omega (arith, inside)
has_place counts (Spot.Colour at) inside = omega (arith, inside)
has_place counts (Spot.Board place) inside = omega (arith, inside)

module _ (s : Inside) (of : ℕ → Event) (spot : Spot) (is : IsHelping s) (step : IsStep (known s).view of spot) where
  -- what a step of a lent seat touches is there
  pub step_spot : HasSpot (known s).counts spot
  step_spot =
      let old : s.counts.old ≡ (known s).counts.old = ap (λ (x : Counts). x.old) (sym is.counts) in
      subst (λ (x : Counts). HasSpot x spot) (sym is.counts)
      (has_spot s.counts spot is.shapes
      (some_at (IsThere s.counts.old) (helper_spot (known s).view (of 0)) spot (step.touches 0)
      (spots_there s.counts.old (known s).view (of 0) is.pages (step.may 0) (step.asks 0) is.cells)))

  -- so its word is in the table
  pub step_place : (table : TableId) (place : ℕ) → s.seat.table_id ≡ table → place ≡ place_of (known s).counts spot
      → place < table.words
  step_place table place same is_place =
      in_table s table place is same
      (subst (HasPlace (known s).counts) (sym is_place) (has_place (known s).counts spot step_spot))

  -- what it keeps holds afterwards
  pub step_keeps : (t : Inside) (found : ℕ) (seen : ℕ → List ℕ) → t.seat.table_id ≡ s.seat.table_id
      → t.counts ≡ s.counts → t.seat.me ≡ (Helper (learned_seen (known s) (of 0) seen found), [])
      → All (λ at. at < s.counts.old) (seen found) → FindsOld s.counts.old (of 0) found → IsHelping t
  step_keeps t found seen table counts me old_seen finds =
      let next : Lent = learned_seen (known s) (of 0) seen found in
      let now : known t ≡ next = ap (λ x. lent_of x.0) me in
      let old : (known s).counts.old ≡ s.counts.old = ap (λ (x : Counts). x.old) is.counts in
      let cells : HasOldCells s.counts.old next.view =
      subst (λ (o : ℕ). HasOldCells s.counts.old (helper_learns o (known s).view (of 0) found)) (sym old)
      (old_cells_stay s.counts.old (known s).view (of 0) found (step.may 0) (step.asks 0) finds is.cells) in
      record {
        me = me ∙ ap (λ (x : Lent). (Helper x, [])) (sym now);
        counts = ap (λ (x : Lent). x.counts) now ∙ (is.counts ∙ sym counts);
        counted = subst (λ (x : Counts). t.seat.table_id.words ≡ x.old + (x.shapes + (x.old + board_words))) (sym
            counts)
            (ap (λ (x : TableId). x.words) table ∙ is.counted);
        pages = subst (λ (x : Counts). x.old % page_words ≡ 0) (sym counts) is.pages;
        shapes = subst (λ (x : Counts). shapes_most ≤ x.shapes) (sym counts) is.shapes;
        out = subst (λ (x : Lent). IsTrue x.view.out) (sym now) (step.out (known s).counts.old found);
        own = subst (λ (x : Lent). IsOwnView x.view) (sym now)
            (own_stays (known s).counts.old (known s).view (of 0) found (step.may 0) is.own);
        seen = subst (λ (x : Counts). All (λ at. at < x.old) (known t).seen) (sym counts)
            (subst (λ (x : Lent). All (λ at. at < s.counts.old) x.seen) (sym now) old_seen);
        cells = subst (λ (x : Counts). HasOldCells x.old (known t).view) (sym counts)
            (subst (λ (x : Lent). HasOldCells s.counts.old x.view) (sym now) cells);
      }

-- what a seat keeps holds where it knows what it knew
pub look_keeps : (s t : Inside) → IsHelping s → t.seat.table_id ≡ s.seat.table_id → t.counts ≡ s.counts
    → t.seat.me ≡ s.seat.me → IsHelping t
look_keeps s t is table counts me =
    let now : known t ≡ known s = ap (λ x. lent_of x.0) me in
    record {
      me = me ∙ (is.me ∙ ap (λ (x : Lent). (Helper x, [])) (sym now));
      counts = ap (λ (x : Lent). x.counts) now ∙ (is.counts ∙ sym counts);
      counted = subst (λ (x : Counts). t.seat.table_id.words ≡ x.old + (x.shapes + (x.old + board_words))) (sym counts)
          (ap (λ (x : TableId). x.words) table ∙ is.counted);
      pages = subst (λ (x : Counts). x.old % page_words ≡ 0) (sym counts) is.pages;
      shapes = subst (λ (x : Counts). shapes_most ≤ x.shapes) (sym counts) is.shapes;
      out = subst (λ (x : Lent). IsTrue x.view.out) (sym now) is.out;
      own = subst (λ (x : Lent). IsOwnView x.view) (sym now) is.own;
      seen = subst (λ (x : Counts). All (λ at. at < x.old) (known t).seen) (sym counts)
          (subst (λ (x : Lent). All (λ at. at < s.counts.old) x.seen) (sym now) is.seen);
      cells = subst (λ (x : Counts). HasOldCells x.old (known t).view) (sym counts)
          (subst (λ (x : Lent). HasOldCells s.counts.old x.view) (sym now) is.cells);
    }

-- a cell that a seat may shade is old
pub target_old : (s : Inside) (at : ℕ) → IsHelping s → Contains (known s).view.visit at ⊎ Contains (known s).seen at
    → at < s.counts.old
target_old s at is (inl visit) = All-contains (λ (a : ℕ). a < s.counts.old) (known s).view.visit at is.cells.visit visit
target_old s at is (inr seen) = All-contains (λ (a : ℕ). a < s.counts.old) (known s).seen at is.seen seen

-- what it keeps holds once it has shaded one
pub shaded_keeps : (s t : Inside) (at found : ℕ) → IsHelping s
    → Contains (known s).view.visit at ⊎ Contains (known s).seen at → t.seat.table_id ≡ s.seat.table_id
    → t.counts ≡ s.counts → t.seat.me ≡ (Helper (shaded (known s) at found), []) → IsHelping t
shaded_keeps s t at found is may table counts me =
    elim (decided (is_in (known s).view.visit at)) [
      | inl visits ↦
          let visit : Contains (known s).view.visit at = in_found (known s).view.visit at visits in
          step_keeps s (λ j. event.ShadeHelper j at) (Spot.Colour at) is (shade_step (known s).view is.out at visit) t
          found
          (λ n. joined (known s).seen at) table counts
          (me ∙ ap (λ (x : Lent). (Helper x, [])) (sym (shaded_event (known s) at found visit)))
          (all_from (λ (a : ℕ). a < s.counts.old) (joined (known s).seen at)
          (joins (λ (a : ℕ). a < s.counts.old) (known s).seen at is.seen (target_old s at is may))) tt
      | inr passes ↦
          let seen : Contains (known s).seen at = elim may [
            | inl visit ↦ absurd (out_not_found (known s).view.visit at passes visit)
            | inr was ↦ was
          ] in
          look_keeps s t is table counts
          (me ∙ (ap (λ (x : Lent). (Helper x, [])) (shaded_again (known s) at found passes seen) ∙ sym is.me))
    ]
