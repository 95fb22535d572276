-- The steps of a lent seat, each with what it tells.
use Rattle.std.proofs.Common.{◌≡◌, ◌≢◌, ◌≤◌, ◌⊎◌, inl, inr, ℕ, zero, suc, ◌+◌, ◌-◌, ◌^◌, ◌==◌, ◌<◌, Bool, true, false}
use Rattle.std.proofs.Common.{List, [], IsTrue}
use Rattle.std.proofs.Common.{Contains, length, slice_index, slice_get, get_or, Option, Some, IfSome, IsSomeAnd, refl}
use Rattle.std.proofs.Common.{sym, ap, subst, ◌∙◌}
use Rattle.std.proofs.Common.{get_or-set_same, ◌∷◌, ◌++◌, eq-eqb, arith, set}
use Rattle.std.specs.Prelude.{if◌then◌else◌}
use Rattle.std.proofs.lemmas.Bool.{cases_eq}
use Rattle.std.proofs.lemmas.List.Elements.{All-get_or}
use Rattle.std.proofs.lemmas.Option.{slice_get_within, get_or_from_slice_get}
use mathlib.Core.Option.{none, some as core_some}
use lib.ListN.{get_elem?}
use prog.Atomic.{either}
use Rattle.atomic_table.specs.Table.{State, Me, Step, stepped, step, Allows, carried_after}
use Rattle.tagged_word.specs.declared.word.Class.TheVariants.{Ref}
use Rattle.tagged_word.specs.Readings.{reference_in}
use Rattle.tagged_word.specs.Words.{bits_of}
use Rattle.tagged_word.proofs.Readings.{reference_to}
use Rattle.page_space.specs.Extents.{board_words}
use Rattle.core_parts.specs.Lists.{is_in, joined}
use Rattle.core_parts.proofs.Joining.{decided, found_in, in_found, out_not_found}
use Rattle.core_parts.proofs.Tested.{not_equal}
use Rattle.mark_laws.specs.OwnViews.{HasReadWhole, IsOwnView}
use Rattle.mark_laws.specs.Runs.{IsSoundAndBorn}
use Rattle.mark_laws.specs.Types.{Event, HelperView, Snap, Spot, World}
use Rattle.mark_world.specs.declared.event.Event.TheVariants as event
use Rattle.mark_world.specs.Naming.{IsReadOut, named, read_offsets}
use Rattle.mark_world.specs.Conditions.{MayGive, MayHelper}
use Rattle.mark_world.specs.Steps.{white, grey, black, becomes}
use Rattle.mark_world.specs.AfterEvents.{word_at}
use Rattle.mark_laws.proofs.Joins.{some_and}
use Rattle.mark_laws.proofs.OwnTelling.{board_old, snap_reached}
use Rattle.mark_laws.proofs.OwnWhole.{grey_whole}
use Rattle.mark_laws.proofs.Slots.{some_from}
use Rattle.shared_table.specs.declared.overview.Counts.{Counts}
use Rattle.shared_table.specs.declared.overview.Lent.{Lent}
use Rattle.shared_table.specs.declared.overview.View.{View}
use Rattle.shared_table.specs.declared.overview.View.TheVariants.{Helper}
use Rattle.shared_table.specs.Keeping.{AreNotWhite, KeepsRule, joined_words}
use Rattle.shared_table.specs.Worlds.{world}
use Rattle.shared_table.specs.Spots.{place_of, HasSpot, colours_with}
use Rattle.shared_table.specs.HelperTold.{FindsSettled, FindsShaded, IsReading, RefersToOld, learned, shaded}
use Rattle.shared_table.specs.HelperTold.{tells_learned, tells_settled, tells_shaded, tells_seen, tells_taken}
use Rattle.shared_table.specs.HelperTold.{tells_none}
use Rattle.shared_table.specs.HelperTold.{settling, giving, taking, cell_of_snap}
use Rattle.shared_table.specs.Told.{cell_referred}
use Rattle.shared_table.proofs.KeptRule.{allows_less, either_if}
use Rattle.shared_table.proofs.HelperEvents.{IsStep, learned_seen, look_allowed, step_allowed}
use Rattle.shared_table.proofs.HelperSpots.{settle_step, shade_step, give_step, take_step}
use Rattle.shared_table.proofs.HelperViews.{first_is_main, in_mark, not_white, not_white_joined, seen_at}
use Rattle.shared_table.proofs.OtherViews.{lent_at}
use Rattle.shared_table.proofs.SpotWords.{spot_found}

-- a step that sees nothing more, and finds nothing that has to be told
module _ {S : Type 0} (key : Counts) (id slots place : ℕ) (me : Me S View) (lent : Lent) (is_me : me ≡ (
  Helper lent,
  [],
))
    (out : IsTrue lent.view.out) where
  module _ (of : ℕ → Event) (spot : Spot) (is : IsStep lent.view of spot) (inside : HasSpot lent.counts spot)
      (is_place : place ≡ place_of lent.counts spot) (by : Lent → Step S → Event) (f : ℕ → ℕ) (first second : ℕ)
      (same : (m : ℕ) → f m ≡ becomes (of 0) m)
      (is_of : by lent (step slots (place_of lent.counts spot) first second none) ≡ of 0) where
    -- a step tells its event, and what it finds
    pub tells_may : (Finds : ℕ → Type 0)
        → ((w : World) (j : ℕ) → IsSoundAndBorn w → w.old ≡ lent.counts.old → slice_get w.helpers j ≡ Some lent.view
        → AreNotWhite w.colours lent.seen → Finds (word_at w (Some spot)))
        → Allows (KeepsRule {S = S} key) slots id me place f
        (λ n now. tells_learned by (step slots place first second none) me n now × Finds n)
    tells_may Finds finds =
        rw (is_me, is_place)
        (allows_less (KeepsRule {S = S} key) slots id (place_of lent.counts spot) (Helper lent, []) f
        (λ n now. (now ≡ (Helper (learned lent (of 0) n), [])) × Finds n)
        (λ n now. tells_learned by (step slots (place_of lent.counts spot) first second none) (Helper lent, []) n now
        × Finds n)
        (step_allowed {S = S} key slots lent of spot (λ n. lent.seen) Finds is out inside (λ w whole old are. are) finds
        id f
        same)
        (λ n now t. (t.0 ∙ ap (λ (e : Event). (Helper (learned lent e n), [])) (sym is_of), t.1)))

    -- a step tells its event
    pub learned_may : Allows (KeepsRule {S = S} key) slots id me place f
        (tells_learned by (step slots place first second none) me)
    learned_may =
        allows_less (KeepsRule {S = S} key) slots id place me f
        (λ n now. tells_learned by (step slots place first second none) me n now × Unit {0})
        (tells_learned by (step slots place first second none) me)
        (tells_may (λ n. Unit {0}) (λ w j whole old there are. tt)) (λ n now t. t.0)

-- the offset of a slot, by the place of its word
pub slot_offset : (snap : Option Snap) (cell offset : ℕ) → IsSomeAnd snap (λ one. one.cell ≡ cell)
    → event.LoadSlot 0 ((cell + offset) - cell_of_snap snap) ≡ event.LoadSlot 0 offset
slot_offset snap cell offset reads =
    let s = some_and (λ (one : Snap). one.cell ≡ cell) snap reads in
    let is : cell_of_snap snap ≡ cell = ap cell_of_snap s.1 ∙ s.2 in
    ap (λ (i : ℕ). event.LoadSlot 0 i) (omega (arith, is))

-- a colour is one of three in a whole world
three_at : (w : World) (at old : ℕ) → IsSoundAndBorn w → w.old ≡ old → at < old → slice_index w.colours at ≤ black
three_at w at old whole same inside =
    All-get_or (λ (colour : ℕ). colour ≤ black) w.colours at 0 (omega (arith, whole.0.sizes.colours, same, inside))
    whole.0.sizes.three

-- a helper of a world is among its helpers
helper_there : (w : World) (j : ℕ) (view : HelperView) → slice_get w.helpers j ≡ Some view → Contains w.helpers view
helper_there w j view there =
    (j, slice_get_within w.helpers j view there, get_or_from_slice_get w.helpers j view view there)

-- what is found where a snap is settled
settled_finds : (lent : Lent) (cell : ℕ) → IsOwnView lent.view → MayHelper lent.view (event.Settle 0)
    → IsReading lent.view cell → cell < lent.counts.old → (w : World) (j : ℕ) → IsSoundAndBorn w
    → w.old ≡ lent.counts.old → slice_get w.helpers j ≡ Some lent.view
    → FindsSettled lent.view (slice_index w.colours cell)
settled_finds lent cell own may reads inside w j whole old there =
    let s = some_and (λ (one : Snap). one.cell ≡ cell) lent.view.snap reads in
    let is_helper : Contains w.helpers lent.view = helper_there w j lent.view there in
    record {
      three = three_at w cell lent.counts.old whole old inside;
      reached = subst (λ (at : ℕ). slice_index w.colours at ≢ white) s.2
          (snap_reached w lent.view s.0 whole.0 (record { there = is_helper; has = s.1 })).coloured;
      whole = λ is_grey. some_from HasReadWhole lent.view.snap (λ snap has.
          let of : snap.cell ≡ cell =
          subst (λ (o : Option Snap). IsSomeAnd o (λ one. one.cell ≡ cell)) has reads in
          grey_whole w lent.view snap whole.0 (record { there = is_helper; has = has })
          (subst (λ (at : ℕ). slice_index w.colours at ≡ grey) (sym of) is_grey) own
          (subst (λ (o : Option Snap). IsSomeAnd o (λ one. IsReadOut (named one) (read_offsets one))) has may));
    }

-- what is found where a cell is shaded
shaded_finds : (lent : Lent) (at : ℕ) → at < lent.counts.old → (w : World) → IsSoundAndBorn w
    → w.old ≡ lent.counts.old → AreNotWhite w.colours lent.seen → FindsShaded lent at (slice_index w.colours at)
shaded_finds lent at inside w whole old are = record {
  three = three_at w at lent.counts.old whole old inside;
  seen = λ has. not_white w.colours lent.seen at are has;
}

-- what is found where a cell is taken
taken_finds : (lent : Lent) (place : ℕ) → place < board_words → (w : World) → IsSoundAndBorn w → w.old ≡ lent.counts.old
    → RefersToOld lent (slice_index w.board place)
taken_finds lent place inside w whole old =
    subst (λ (o : ℕ). (slice_index w.board place ≡ 0)
    ⊎ IsSomeAnd (reference_in (slice_index w.board place)) (λ at. at < o)) old
    (All-get_or (λ (word : ℕ). (word ≡ 0) ⊎ IsSomeAnd (reference_in word) (λ at. at < w.old)) w.board place 0
    (omega (arith, inside, whole.0.sizes.board.count)) (board_old w whole.0))

-- a cell that a word of the board refers to is old
pub taken_old : (lent : Lent) (found : ℕ) → RefersToOld lent found → IfSome (reference_in found) (λ at. at <
    lent.counts.old)
taken_old lent found (inl nothing) =
    subst (λ (m : ℕ). IfSome (reference_in m) (λ at. at < lent.counts.old)) (sym nothing) tt
taken_old lent found (inr old) =
    let at = some_and (λ (a : ℕ). a < lent.counts.old) (reference_in found) old in
    subst (λ (o : Option ℕ). IfSome o (λ a. a < lent.counts.old)) (sym at.1) at.2

-- a cell that was shaded is not white
rises_by : (n : ℕ) (b : Bool) → (n == 0) ≡ b → (if b then 1 else n) ≢ white
rises_by n true is white_now = absurd (omega (arith, white_now))
rises_by n false is white_now = let t = eq-eqb n 0 white_now in absurd cc

rises : (colours : List ℕ) (at : ℕ) → at < length colours
    → slice_index (set colours at (becomes (event.ShadeHelper 0 at) (slice_index colours at))) at ≢ white
rises colours at low =
    rw (get_or-set_same colours at (becomes (event.ShadeHelper 0 at) (slice_index colours at)) 0 low)
    (rises_by (slice_index colours at) (slice_index colours at == 0) refl)

-- the shading of a cell that is to be visited
pub shaded_event : (lent : Lent) (at found : ℕ) → Contains lent.view.visit at
    → learned_seen lent (event.ShadeHelper 0 at) (λ n. joined lent.seen at) found ≡ shaded lent at found
shaded_event lent at found visit =
    ap (λ (b : Bool). let after : Lent = record lent {
      view = if b then (learned lent (event.ShadeHelper 0 at) found).view else lent.view;
      seen = joined lent.seen at;
    } in after) (sym (found_in lent.view.visit at visit))

-- and that of another one, which was seen not white
pub shaded_again : (lent : Lent) (at found : ℕ) → is_in lent.view.visit at ≡ false → Contains lent.seen at
    → shaded lent at found ≡ lent
shaded_again lent at found other seen =
    ap (λ (b : Bool). let after : Lent = record lent {
      view = if b then (learned lent (event.ShadeHelper 0 at) found).view else lent.view;
      seen = joined lent.seen at;
    } in after) other
    ∙ ap (λ (b : Bool). let after : Lent = record lent { seen = if b then lent.seen else lent.seen ++ at ∷ [] } in
    after)
    (found_in lent.seen at seen)

-- a gift of a cell, by its place and the word that is put
pub gift : (lent : Lent) (place spot at word : ℕ) → at < 2 ^ 32 → word ≡ bits_of (Ref at)
    → place ≡ lent.counts.old + (lent.counts.shapes + (lent.counts.old + spot))
    → event.Give 0 (place - (lent.counts.old + (lent.counts.shapes + lent.counts.old))) (cell_referred (reference_in
    word))
    ≡ event.Give 0 spot at
gift lent place spot at word fits is_word is_place =
    let is_spot : place - (lent.counts.old + (lent.counts.shapes + lent.counts.old)) ≡ spot = omega (arith, is_place) in
    ap (λ (i : ℕ). event.Give 0 i (cell_referred (reference_in word))) is_spot
    ∙ ap (λ (o : Option ℕ). event.Give 0 spot (cell_referred o)) (reference_to word at fits is_word)

-- the cell of a colour's place
cell_is : (counts : Counts) (at : ℕ) → (counts.old + (counts.shapes + at)) - (counts.old + counts.shapes) ≡ at
cell_is counts at = omega arith

-- and the place of a word of the board
place_is : (counts : Counts) (at : ℕ)
    → (counts.old + (counts.shapes + (counts.old + at))) - (counts.old + (counts.shapes + counts.old)) ≡ at
place_is counts at = omega arith

-- a seat tells that a cell was shaded
tells_cell : {S : Type 0} (slots id : ℕ) (lent : Lent) (at first second n : ℕ) (now : Me S View)
    → (now ≡ (Helper (shaded lent at n), [])) × FindsShaded lent at n
    → tells_shaded (step slots (place_of lent.counts (Spot.Colour at)) first second none) (Helper lent, []) n now
tells_cell slots id lent at first second n now t =
    subst (λ (i : ℕ). (now ≡ (Helper (shaded lent i n), [])) × FindsShaded lent i n) (sym (cell_is lent.counts at)) t

module _ {S : Type 0} (key : Counts) (id slots place : ℕ) (me : Me S View) (lent : Lent) (is_me : me ≡ (
  Helper lent,
  [],
))
    (out : IsTrue lent.view.out) where
  -- a snap is settled
  pub settle_may : (cell : ℕ) → IsOwnView lent.view → MayHelper lent.view (event.Settle 0) → IsReading lent.view cell
      → cell < lent.counts.old → place ≡ lent.counts.old + (lent.counts.shapes + cell)
      → Allows (KeepsRule {S = S} key) slots id me place (λ m. either (m == 1) 2 m)
      (tells_settled (step slots place 1 2 none) me)
  settle_may cell own may reads inside is_place =
      rw (is_me, is_place)
      (tells_may {S = S} key id slots (place_of lent.counts (Spot.Colour cell)) (Helper lent, []) lent refl out
      (λ j. event.Settle j) (Spot.Colour cell) (settle_step lent.view out cell may reads) inside refl settling
      (λ m. either (m == 1) 2 m) 1 2 (λ m. either_if (m == 1) 2 m) refl (FindsSettled lent.view)
      (λ w j whole old there are. settled_finds lent cell own may reads inside w j whole old there))

  -- a cell that is to be visited is shaded
  shade_allowed : (at : ℕ) → Contains lent.view.visit at → at < lent.counts.old → (f : ℕ → ℕ)
      → ((m : ℕ) → f m ≡ becomes (event.ShadeHelper 0 at) m)
      → Allows (KeepsRule {S = S} key) slots id (Helper lent, []) (place_of lent.counts (Spot.Colour at)) f
      (λ n now. (now ≡ (Helper (shaded lent at n), [])) × FindsShaded lent at n)
  shade_allowed at visit inside f alike =
      allows_less (KeepsRule {S = S} key) slots id (place_of lent.counts (Spot.Colour at)) (Helper lent, []) f
      (λ n now. (now ≡ (Helper (learned_seen lent (event.ShadeHelper 0 at) (λ m. joined lent.seen at) n), []))
      × FindsShaded lent at n)
      (λ n now. (now ≡ (Helper (shaded lent at n), [])) × FindsShaded lent at n)
      (step_allowed {S = S} key slots lent (λ j. event.ShadeHelper j at) (Spot.Colour at) (λ n. joined lent.seen at)
      (FindsShaded lent at) (shade_step lent.view out at visit) out inside
      (λ w whole old are. not_white_joined
      (colours_with (Spot.Colour at) (becomes (event.ShadeHelper 0 at) (slice_index w.colours at)) w.colours) lent.seen
      at
      are (rises w.colours at (omega (arith, whole.0.sizes.colours, old, inside))))
      (λ w j whole old there are. shaded_finds lent at inside w whole old are) id f alike)
      (λ n now t. (t.0 ∙ ap (λ (l : Lent). (Helper l, [])) (shaded_event lent at n visit), t.1))

  pub shade_may : (at : ℕ) → Contains lent.view.visit at → at < lent.counts.old
      → place ≡ lent.counts.old + (lent.counts.shapes + at)
      → Allows (KeepsRule {S = S} key) slots id me place (λ m. either (m == 0) 1 m)
      (tells_shaded (step slots place 0 1 none) me)
  shade_may at visit inside is_place =
      rw (is_me, is_place)
      (allows_less (KeepsRule {S = S} key) slots id (place_of lent.counts (Spot.Colour at)) (Helper lent, [])
      (λ m. either (m == 0) 1 m)
      (λ n now. (now ≡ (Helper (shaded lent at n), [])) × FindsShaded lent at n)
      (tells_shaded (step slots (place_of lent.counts (Spot.Colour at)) 0 1 none) (Helper lent, []))
      (shade_allowed at visit inside (λ m. either (m == 0) 1 m) (λ m. either_if (m == 0) 1 m))
      (λ n now t. tells_cell slots id lent at 0 1 n now t))

  -- a cell is given to the board
  pub give_may : (spot at word : ℕ) → MayGive lent.view.grey spot at → at < 2 ^ 32 → word ≡ bits_of (Ref at)
      → place ≡ lent.counts.old + (lent.counts.shapes + (lent.counts.old + spot))
      → Allows (KeepsRule {S = S} key) slots id me place (λ m. either (m == 0) word m)
      (tells_learned giving (step slots place 0 word none) me)
  give_may spot at word may fits is_word is_place =
      rw is_word
      (learned_may {S = S} key id slots place me lent is_me out (λ j. event.Give j spot at) (Spot.Board spot)
      (give_step lent.view out spot at may) may.on_board is_place giving (λ m. either (m == 0) (bits_of (Ref at)) m) 0
      (bits_of (Ref at)) (λ m. either_if (m == 0) (bits_of (Ref at)) m)
      (gift lent (place_of lent.counts (Spot.Board spot)) spot at (bits_of (Ref at)) fits refl refl))

  -- a cell is taken from it
  pub take_may : (spot : ℕ) → spot < board_words
      → place ≡ lent.counts.old + (lent.counts.shapes + (lent.counts.old + spot))
      → Allows (KeepsRule {S = S} key) slots id me place (λ _. 0) (tells_taken (step slots place 0 0 none) me)
  take_may spot inside is_place =
      rw (is_me, is_place)
      (tells_may {S = S} key id slots (place_of lent.counts (Spot.Board spot)) (Helper lent, []) lent refl out
      (λ j. event.Take j spot) (Spot.Board spot) (take_step lent.view out spot inside) inside refl taking (λ _. 0) 0 0
      (λ m. refl) (ap (λ (i : ℕ). event.Take 0 i) (place_is lent.counts spot)) (RefersToOld lent)
      (λ w j whole old there are. taken_finds lent spot inside w whole old))

  -- the colour of a cell as the rule says, of whichever seat
  colour_finds : (number at : ℕ) → at < lent.counts.old → (s : State S View) → KeepsRule {S = S} key s
      → get_elem? s.views number ≡ core_some (Helper lent)
      → FindsShaded lent at (slice_index s.words (place_of lent.counts (Spot.Colour at)))
  colour_finds zero at inside s kept here = absurd (first_is_main {S = S} key s lent kept here)
  colour_finds (suc j) at inside s kept here =
      let k = kept.1 in
      let there : get_elem? k.others j ≡ core_some (Helper lent) = ap (λ vs. get_elem? vs (suc j)) (sym k.views) ∙
      here in
      let is_counts : lent.counts ≡ key = (lent_at key k.others j lent k.seats.lents there).0 in
      let marks = in_mark {S = S} key s kept.0 k j lent there in
      let w : World = world kept.0 k.others k.colours k.board in
      let found : slice_index s.words (place_of lent.counts (Spot.Colour at)) ≡ slice_index k.colours at =
      ap (λ ws. get_or ws (place_of lent.counts (Spot.Colour at)) 0) k.words
      ∙ (ap (λ (x : Counts). get_or (joined_words kept.0.words kept.0.layouts k.colours k.board)
      (place_of x (Spot.Colour at)) 0) is_counts
      ∙ spot_found key kept.0 k.others k.colours k.board (Spot.Colour at) k.sizes
      (subst (λ (x : Counts). at < x.old) is_counts inside)) in
      subst (FindsShaded lent at) (sym found)
      (shaded_finds lent at inside w (k.marking marks) (k.sizes.old ∙ ap (λ (x : Counts). x.old) (sym is_counts))
      (seen_at k.colours k.others j lent (k.seen marks) there))

  -- a load shades a cell that is not white
  seen_allowed : (at : ℕ) → Contains lent.view.visit at ⊎ Contains lent.seen at → at < lent.counts.old
      → Allows (KeepsRule {S = S} key) slots id (Helper lent, []) (place_of lent.counts (Spot.Colour at)) (λ m. m)
      (tells_seen (step slots (place_of lent.counts (Spot.Colour at)) 0 0 none) (Helper lent, []))
  seen_allowed at may inside s kept deep here bound =
      let n : ℕ = slice_index s.words (place_of lent.counts (Spot.Colour at)) in
      let finds = colour_finds id at inside s kept here in
      let look = look_allowed {S = S} key slots id (place_of lent.counts (Spot.Colour at)) (Helper lent) s kept deep
      here
      bound in
      elim (cases_eq n white) [
        | inl is_white ↦ (
          look.0,
          look.1,
          look.2,
          look.3,
          (
            (λ no. absurd (no is_white)),
            (λ e. (
              look.4,
              λ has. finds.seen (subst (λ (i : ℕ). Contains lent.seen i) (cell_is lent.counts at) has) is_white,
            )),
          ),
        )
        | inr other ↦ elim (decided (is_in lent.view.visit at)) [
          | inl visits ↦
              let r = shade_allowed at (in_found lent.view.visit at visits) inside
              (λ m. becomes (event.ShadeHelper 0 at) m) (λ m. refl) s kept deep here bound in (
                r.0,
                r.1,
                r.2,
                subst (λ (x : ℕ). KeepsRule key (stepped s (place_of lent.counts (Spot.Colour at)) x id [] r.0 r.1))
                    (ap (λ (b : Bool). if b then 1 else n) (not_equal n 0 other)) r.3,
                (
                  (λ e. tells_cell slots id lent at 0 0 n (r.0, carried_after [] r.1) r.4),
                  (λ is_white. absurd (other
                      is_white)),
                ),
              )
          | inr passes ↦
              let seen : Contains lent.seen at = elim may [
                | inl visit ↦ absurd (out_not_found lent.view.visit at passes visit)
                | inr was ↦ was
              ] in (
                look.0,
                look.1,
                look.2,
                look.3,
                (
                  (λ e. tells_cell slots id lent at 0 0 n (look.0, carried_after [] look.1)
                      (look.4 ∙ ap (λ (l : Lent). (Helper l, [])) (sym (shaded_again lent at n passes seen)), finds)),
                  (λ is_white. absurd (other is_white)),
                ),
              )
        ]
      ]

  pub seen_may : (at : ℕ) → Contains lent.view.visit at ⊎ Contains lent.seen at → at < lent.counts.old
      → place ≡ lent.counts.old + (lent.counts.shapes + at)
      → Allows (KeepsRule {S = S} key) slots id me place (λ m. m) (tells_seen (step slots place 0 0 none) me)
  seen_may at may inside is_place = rw (is_me, is_place) (seen_allowed at may inside)

  -- a load takes nothing from a place where nothing is
  none_allowed : (spot : ℕ) → spot < board_words
      → Allows (KeepsRule {S = S} key) slots id (Helper lent, []) (place_of lent.counts (Spot.Board spot)) (λ m. m)
      (tells_none (step slots (place_of lent.counts (Spot.Board spot)) 0 0 none) (Helper lent, []))
  none_allowed spot inside s kept deep here bound =
      let n : ℕ = slice_index s.words (place_of lent.counts (Spot.Board spot)) in
      elim (cases_eq n 0) [
        | inl nothing ↦
            let r = step_allowed {S = S} key slots lent (λ j. event.Take j spot) (Spot.Board spot) (λ m. lent.seen)
            (λ m. Unit {0}) (take_step lent.view out spot inside) out inside (λ w whole old are. are)
            (λ w j whole old there are. tt) id (λ m. 0) (λ m. refl) s kept deep here bound in (
              r.0,
              r.1,
              r.2,
              subst (λ (x : ℕ). KeepsRule key (stepped s (place_of lent.counts (Spot.Board spot)) x id [] r.0 r.1))
                  (sym nothing) r.3,
              (
                (λ e. r.4.0 ∙ ap (λ (i : ℕ). (Helper (learned lent (event.Take 0 i) n), [])) (sym (place_is lent.counts
                    spot))),
                (λ no. absurd (no nothing)),
              ),
            )
        | inr other ↦
            let look = look_allowed {S = S} key slots id (place_of lent.counts (Spot.Board spot)) (Helper lent) s kept
            deep
            here bound in
            (look.0, look.1, look.2, look.3, ((λ e. absurd (other e)), (λ no. look.4)))
      ]

  pub none_may : (spot : ℕ) → spot < board_words
      → place ≡ lent.counts.old + (lent.counts.shapes + (lent.counts.old + spot))
      → Allows (KeepsRule {S = S} key) slots id me place (λ m. m) (tells_none (step slots place 0 0 none) me)
  none_may spot inside is_place = rw (is_me, is_place) (none_allowed spot inside)
