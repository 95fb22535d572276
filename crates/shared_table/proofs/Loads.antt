-- Loads of the main seat, by which it learns what the rule says.
use Rattle.std.proofs.Common.{◌≡◌, ◌≤◌, ℕ, ◌+◌, ◌-◌, ◌<◌, true, List, [], length, get_or, slice_index, refl, sym, ap}
use Rattle.std.proofs.Common.{◌∙◌, arith, subst, Contains}
use Rattle.std.proofs.lemmas.List.Elements.{All-contains, All-get_or}
use mathlib.Core.Option.{none}
use Rattle.atomic_table.specs.Table.{State, Me, keeps, step, Allows}
use Rattle.mark_laws.specs.Types.{Spot, World}
use Rattle.mark_laws.proofs.Joins.{all_from}
use Rattle.mark_laws.proofs.PagesTell.{whole_main}
use Rattle.mark_world.specs.AfterEvents.{IsMarked}
use Rattle.mark_world.specs.BornCells.{Born}
use Rattle.mark_world.specs.Soundness.{AreIn, Sound}
use Rattle.mark_world.specs.Steps.{black}
use Rattle.shared_table.specs.declared.overview.Counts.{Counts}
use Rattle.shared_table.specs.declared.overview.Overview.{Overview}
use Rattle.shared_table.specs.declared.overview.View.{View}
use Rattle.shared_table.specs.declared.overview.View.TheVariants.{Main}
use Rattle.shared_table.specs.declared.phase.Phase.TheVariants.{Quiet, Mark, Paused}
use Rattle.shared_table.specs.Worlds.{world}
use Rattle.shared_table.specs.Keeping.{KeepsRule, KeptBy}
use Rattle.shared_table.specs.Spots.{FindsInMark}
use Rattle.shared_table.specs.Changes.{paused, closed, home_with}
use Rattle.shared_table.specs.Told.{tells_colour, tells_sound, tells_whole, tells_paused, tells_closed, tells_home}
use Rattle.shared_table.proofs.SpotWords.{spot_found, mark_finds}
use Rattle.shared_table.proofs.KeptRule.{main_rule, view_rule}
use Rattle.shared_table.proofs.Beginnings.{home_whole}

-- a load after which the main seat knows what it knew
stays_allowed : {S : Type 0} (counts : Counts) (slots i : ℕ) (main : Overview) (told : ℕ → Me S View → Type 0)
    → ((s : State S View) (k : KeptBy counts s main) → told (slice_index s.words i) (Main main, []))
    → Allows (KeepsRule {S = S} counts) slots 0 (Main main, []) i (λ m. m) told
stays_allowed counts slots i main told tells s kept deep at bound =
    let k = main_rule counts s main kept at in (
      Main main,
      keeps,
      tt,
      (main, view_rule counts s main main i k refl refl refl k.seats k.home k.seen k.marking),
      tells s k,
    )

-- a load after which helpers may not mark
idle_allowed : {S : Type 0} (counts : Counts) (slots i : ℕ) (main now : Overview) (told : ℕ → Me S View → Type 0)
    → main.home ≡ true → (now.phase ≡ Mark → ⊥) → now.old ≡ main.old → now.words ≡ main.words
    → now.layouts ≡ main.layouts → now.colours ≡ main.colours → now.board ≡ main.board → now.out ≡ main.out
    → now.lent ≡ main.lent
    → ((s : State S View) (k : KeptBy counts s main) → told (slice_index s.words i) (Main now, []))
    → Allows (KeepsRule {S = S} counts) slots 0 (Main main, []) i (λ m. m) told
idle_allowed counts slots i main now told home idle old words layouts colours board out lent tells s kept deep at
    bound =
    let k = main_rule counts s main kept at in
    let at_home = k.home home in (
      Main now,
      keeps,
      tt,
      (
        now,
        view_rule counts s main now i k old words layouts
            (record {
              lents = k.seats.lents;
              lent = k.seats.lent ∙ sym lent;
              out = out ∙ k.seats.out;
              idle = λ e. out ∙ at_home.2;
            })
            (λ h. (at_home.0 ∙ sym colours, at_home.1 ∙ sym board, out ∙ at_home.2)) (λ e. absurd (idle e))
            (λ e. absurd (idle e)),
      ),
      tells s k,
    )

-- with no seat out colours and board come home
home_allowed : {S : Type 0} (counts : Counts) (slots i : ℕ) (main : Overview) → main.out ≡ 0
    → Allows (KeepsRule {S = S} counts) slots 0 (Main main, []) i (λ m. m)
    (tells_home (step slots i 0 0 none) (Main main, []))
home_allowed counts slots i main none_out s kept deep at bound =
    let k = main_rule counts s main kept at in
    let now : Overview = home_with main k.colours k.board in (
      Main now,
      keeps,
      tt,
      (now, view_rule counts s main now i k refl refl refl k.seats (λ h. (refl, refl, none_out)) k.seen k.marking),
      (k.colours, k.board, k.sizes.colours ∙ sym k.sizes.old, refl),
    )

-- what waits with the mutator in a sound world is born
grey_born : (world : World) → Sound world → Born world → AreIn world.main.born world.main.grey
grey_born world sound born =
    all_from (Contains world.main.born) world.main.grey (λ at waits.
    born.reached at (All-contains (IsMarked world) world.main.grey at sound.lists.main waits))

module _ {S : Type 0} (key counts : Counts) (id slots : ℕ) (me : Me S View) (main : Overview) (is_key : key ≡ counts)
    (is_id : id ≡ 0) (is_me : me ≡ (Main main, [])) where
  pub home_may : (i : ℕ) → main.out ≡ 0
      → Allows (KeepsRule {S = S} key) slots id me i (λ m. m) (tells_home (step slots i 0 0 none) me)
  home_may i none_out = rw (is_key, is_id, is_me) (home_allowed {S = S} counts slots i main none_out)

  -- a sound world says what it says of the mutator's view
  pub sound_may : (i : ℕ) → main.phase ≡ Mark
      → Allows (KeepsRule {S = S} key) slots id me i (λ m. m) (tells_sound (step slots i 0 0 none) me)
  sound_may i marks =
      rw (is_key, is_id, is_me)
      (stays_allowed {S = S} counts slots i main (tells_sound (step slots i 0 0 none) (Main main, []))
      (λ s k. (
        refl,
        whole_main (world main k.others k.colours k.board) (k.marking marks).0 (k.marking marks).1,
        grey_born (world main k.others k.colours k.board) (k.marking marks).0 (k.marking marks).1,
      )))

  -- with no seat out the world is whole
  pub whole_may : (i : ℕ) → main.phase ≡ Mark → main.home ≡ true
      → Allows (KeepsRule {S = S} key) slots id me i (λ m. m) (tells_whole (step slots i 0 0 none) me)
  whole_may i marks home =
      rw (is_key, is_id, is_me)
      (stays_allowed {S = S} counts slots i main (tells_whole (step slots i 0 0 none) (Main main, []))
      (λ s k. (refl, home_whole {S = S} counts s main k home marks)))

  -- a cycle comes to wait
  pub pause_may : (i : ℕ) → main.phase ≡ Mark → main.home ≡ true
      → Allows (KeepsRule {S = S} key) slots id me i (λ m. m) (tells_paused (step slots i 0 0 none) me)
  pause_may i marks home =
      rw (is_key, is_id, is_me)
      (idle_allowed {S = S} counts slots i main (paused main) (tells_paused (step slots i 0 0 none) (Main main, []))
      home
      (λ e. let no : Paused ≡ Mark = e in cc) refl refl refl refl refl refl refl
      (λ s k. (refl, home_whole {S = S} counts s main k home marks)))

  -- a cycle is closed
  pub close_may : (i : ℕ) → main.phase ≡ Mark → main.home ≡ true
      → Allows (KeepsRule {S = S} key) slots id me i (λ m. m) (tells_closed (step slots i 0 0 none) me)
  close_may i marks home =
      rw (is_key, is_id, is_me)
      (idle_allowed {S = S} counts slots i main (closed main) (tells_closed (step slots i 0 0 none) (Main main, []))
      home
      (λ e. let no : Quiet ≡ Mark = e in cc) refl refl refl refl refl refl refl
      (λ s k. (refl, home_whole {S = S} counts s main k home marks)))

  -- a colour is read
  pub colour_may : (a place : ℕ) → place ≡ counts.old + (counts.shapes + a) → a < counts.old → main.old ≡ counts.old
      → length main.layouts ≡ counts.shapes
      → Allows (KeepsRule {S = S} key) slots id me place (λ m. m) (tells_colour (step slots place 0 0 none) me)
  colour_may a place is_place inside old layouts =
      let cell : (counts.old + (counts.shapes + a)) - (main.old + length main.layouts) ≡ a =
      omega (arith, old, layouts) in
      rw (is_key, is_id, is_me, is_place)
      (stays_allowed {S = S} counts slots (counts.old + (counts.shapes + a)) main
      (tells_colour (step slots (counts.old + (counts.shapes + a)) 0 0 none) (Main main, []))
      (λ s k.
      let found : slice_index s.words (counts.old + (counts.shapes + a)) ≡ slice_index k.colours a =
      ap (λ ws. get_or ws (counts.old + (counts.shapes + a)) 0) k.words
      ∙ spot_found counts main k.others k.colours k.board (Spot.Colour a) k.sizes inside in (
        refl,
        subst (λ (n : ℕ). n ≤ black) (sym found)
            (All-get_or (λ (colour : ℕ). colour ≤ black) k.colours a 0 (omega (arith, inside, k.sizes.colours))
            k.sizes.three),
        λ h. found ∙ ap (λ (all : List ℕ). slice_index all a) (k.home h).0
            ∙ ap (λ (i : ℕ). get_or main.colours i 0) (sym cell),
        λ e. subst (λ (i : ℕ). FindsInMark main i (slice_index s.words (counts.old + (counts.shapes + a)))) (sym cell)
            (subst (λ (n : ℕ). FindsInMark main a n) (sym found)
            (mark_finds main k.others k.colours k.board a (k.marking e))),
      )))
