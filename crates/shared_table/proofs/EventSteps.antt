-- A step of the main seat on a word of the table is an event of the world, and keeps the rule.
use Rattle.std.proofs.Common.{◌≡◌, ◌≤◌, ℕ, List, [], get_or, slice_index, sym, refl, ap, subst, ◌∙◌}
use Rattle.std.proofs.Common.{Some, inl, inr}
use Rattle.std.proofs.lemmas.Bool.{cases_eq}
use mathlib.Core.Option.{none}
use Rattle.atomic_table.specs.Table.{State, Me, Step, keeps, stepped, step, Allows}
use Rattle.mark_laws.specs.Types.{Event, Spot, World}
use Rattle.mark_laws.specs.Runs.{IsSoundAndBorn}
use Rattle.mark_world.specs.Steps.{becomes, main_learns, main_spot}
use Rattle.mark_world.specs.AfterEvents.{after, main_finds, word_at, Possible}
use Rattle.mark_laws.proofs.SoundWorlds.{sound_stays}
use Rattle.mark_laws.proofs.Colours.{colours_rise}
use Rattle.shared_table.specs.declared.overview.Counts.{Counts}
use Rattle.shared_table.specs.declared.overview.Overview.{Overview}
use Rattle.shared_table.specs.declared.overview.View.{View}
use Rattle.shared_table.specs.declared.overview.View.TheVariants.{Main}
use Rattle.shared_table.specs.declared.phase.Phase.TheVariants.{Mark}
use Rattle.shared_table.specs.Worlds.{world}
use Rattle.shared_table.specs.Keeping.{KeepsRule, KeptBy, AreSeen}
use Rattle.shared_table.specs.Spots.{place_of, HasSpot, colours_with, board_with, Finds}
use Rattle.shared_table.specs.Changes.{told, told_at}
use Rattle.shared_table.specs.Told.{tells_event, tells_found, tells_left}
use Rattle.shared_table.proofs.SpotWords.{spot_found, spot_finds, world_put}
use Rattle.shared_table.proofs.KeptRule.{main_rule, allows_less, spot_rule, view_rule}
use Rattle.shared_table.proofs.OtherViews.{seen_rise}

-- the event may be made, whatever the other seats know
abbrev pub MayAlways : Overview → Event → Type 0
MayAlways main of = (others : List View) (colours board : List ℕ) → Possible (world main others colours board) of

-- it is a step of the mutator at the spot
abbrev pub IsAtSpot : Overview → Spot → Event → Type 0
IsAtSpot main spot of = (others : List View) (colours board : List ℕ) → after (world main others colours board) of
    ≡ main_finds (world main others colours board) of (Some spot) (word_at (world main others colours board)
    (Some spot))

module _ {S : Type 0} (counts : Counts) (slots : ℕ) (main : Overview) (spot : Spot) (of : Event)
    (inside : HasSpot counts spot) (marks : main.phase ≡ Mark) (may : MayAlways main of) (is : IsAtSpot main spot of)
  where
    -- the world before the step, by the rule
    abbrev before : (s : State S View) → KeptBy counts s main → World
    before s k = world main k.others k.colours k.board

    -- the word that it finds
    abbrev word : (s : State S View) → KeptBy counts s main → ℕ
    word s k = word_at (before s k) (Some spot)

    found : (s : State S View) (k : KeptBy counts s main) → slice_index s.words (place_of counts spot) ≡ word s k
    found s k =
        ap (λ ws. get_or ws (place_of counts spot) 0) k.words
        ∙ spot_found counts main k.others k.colours k.board spot k.sizes inside

    -- the world after it
    abbrev later : (s : State S View) → KeptBy counts s main → World
    later s k = world (told_at main spot of (word s k)) k.others (colours_with spot (becomes of (word s k)) k.colours)
        (board_with spot (becomes of (word s k)) k.board)

    after_is : (s : State S View) (k : KeptBy counts s main) → after (before s k) of ≡ later s k
    after_is s k =
        is k.others k.colours k.board
        ∙ world_put main k.others k.colours k.board
        (main_learns main.old main.words main.layouts main.view of (word s k)) spot (becomes of (word s k))

    -- that is whole
    whole : (s : State S View) (k : KeptBy counts s main) → IsSoundAndBorn (later s k)
    whole s k =
        let sound_born = k.marking marks in
        subst IsSoundAndBorn (after_is s k)
        (sound_stays (before s k) of sound_born.0 sound_born.1 (may k.others k.colours k.board))

    -- and what was seen not white stays so
    seen : (s : State S View) (k : KeptBy counts s main)
        → AreSeen (colours_with spot (becomes of (word s k)) k.colours) k.others
    seen s k =
        seen_rise k.colours (colours_with spot (becomes of (word s k)) k.colours) k.others
        (λ at. subst (λ (w : World). slice_index k.colours at ≤ slice_index w.colours at) (after_is s k)
        (colours_rise (before s k) of (k.marking marks).0.sizes at)) (k.seen marks)

    event_rule : (s : State S View) (k : KeptBy counts s main)
        → KeptBy counts (stepped s (place_of counts spot) (becomes of (slice_index s.words (place_of counts spot))) 0 []
        (Main (told_at main spot of (slice_index s.words (place_of counts spot)))) keeps)
        (told_at main spot of (slice_index s.words (place_of counts spot)))
    event_rule s k =
        rw (found s k)
        (spot_rule counts s main spot (becomes of (word s k))
        (main_learns main.old main.words main.layouts main.view of (word s k)) k inside (whole s k).0.sizes.three
        (λ e. seen s k) (λ e. whole s k))

    -- so the step is allowed, and tells what the main seat knows then, and of the word found
    pub event_allowed : (f : ℕ → ℕ) → ((m : ℕ) → f m ≡ becomes of m)
        → Allows (KeepsRule {S = S} counts) slots 0 (Main main, []) (place_of counts spot) f
        (λ n now. (now ≡ (Main (told_at main spot of n), [])) × Finds main spot n)
    event_allowed f same s kept deep at bound =
        let k = main_rule counts s main kept at in
        let n : ℕ = slice_index s.words (place_of counts spot) in
        let q : Overview = told_at main spot of n in (
          Main q,
          keeps,
          tt,
          (
            q,
            subst (λ (x : ℕ). KeptBy counts (stepped s (place_of counts spot) x 0 [] (Main q) keeps) q) (sym (same n))
                (event_rule s k),
          ),
          (
            refl,
            subst (λ (m : ℕ). Finds main spot m) (sym (found s k))
                (spot_finds counts main k.others k.colours k.board spot k.sizes inside
                (λ h. ((k.home h).0, (k.home h).1)) (k.marking marks)),
          ),
        )

    -- a load that finds the word which the event leaves is the event; else nothing is learned
    pub left_allowed : Allows (KeepsRule {S = S} counts) slots 0 (Main main, []) (place_of counts spot) (λ m. m)
        (λ n now. (becomes of n ≡ n → (now ≡ (Main (told_at main spot of n), [])) × Finds main spot n)
        × ((becomes of n ≡ n → ⊥) → now ≡ (Main main, [])))
    left_allowed s kept deep at bound =
        let k = main_rule counts s main kept at in
        let n : ℕ = slice_index s.words (place_of counts spot) in
        elim (cases_eq (becomes of n) n) [
          | inl same ↦ let r = event_allowed (λ m. becomes of m) (λ m. refl) s kept deep at bound in (
            r.0,
            r.1,
            r.2,
            subst (λ (x : ℕ). KeepsRule counts (stepped s (place_of counts spot) x 0 [] r.0 r.1)) same r.3,
            ((λ e. r.4), (λ no. absurd (no same))),
          )
          | inr other ↦ (
            Main main,
            keeps,
            tt,
            (
              main,
              view_rule counts s main main (place_of counts spot) k refl refl refl
                  k.seats k.home k.seen k.marking,
            ),
            ((λ e. absurd (other e)), (λ no. refl)),
          )
        ]

module _ {S : Type 0} (key counts : Counts) (id slots place : ℕ) (me : Me S View) (main : Overview) (spot : Spot)
    (of : Event) (is_key : key ≡ counts) (is_id : id ≡ 0) (is_me : me ≡ (Main main, []))
    (is_place : place ≡ place_of counts spot) (inside : HasSpot counts spot) (marks : main.phase ≡ Mark)
    (may : MayAlways main of) (is : IsAtSpot main spot of) (by : Overview → Step S → Event) where
  -- a store tells its event, by the word stored
  pub store_may : (x : ℕ) → ((m : ℕ) → x ≡ becomes of m)
      → ((n : ℕ) → told_at main spot of n ≡ told main (by main (step slots (place_of counts spot) x 0 none)) x)
      → Allows (KeepsRule {S = S} key) slots id me place (λ _. x) (λ _. tells_event by (step slots place x 0 none) me x)
  store_may x same tells =
      rw (is_key, is_id, is_me, is_place)
      (allows_less (KeepsRule {S = S} counts) slots 0 (place_of counts spot) (Main main, []) (λ _. x)
      (λ n now. (now ≡ (Main (told_at main spot of n), [])) × Finds main spot n)
      (λ _. tells_event by (step slots (place_of counts spot) x 0 none) (Main main, []) x)
      (event_allowed {S = S} counts slots main spot of inside marks may is (λ _. x) same)
      (λ n now t. t.0 ∙ ap (λ (q : Overview). (Main q, [])) (tells n)))

  -- a step that finds a word tells it too
  pub found_may : (f : ℕ → ℕ) (first second : ℕ) → ((m : ℕ) → f m ≡ becomes of m)
      → by main (step slots (place_of counts spot) first second none) ≡ of → main_spot of ≡ Some spot
      → Allows (KeepsRule {S = S} key) slots id me place f (tells_found by (step slots place first second none) me)
  found_may f first second same is_of is_spot =
      rw (is_key, is_id, is_me, is_place)
      (allows_less (KeepsRule {S = S} counts) slots 0 (place_of counts spot) (Main main, []) f
      (λ n now. (now ≡ (Main (told_at main spot of n), [])) × Finds main spot n)
      (tells_found by (step slots (place_of counts spot) first second none) (Main main, []))
      (event_allowed {S = S} counts slots main spot of inside marks may is f same)
      (λ n now t. rw (is_of, is_spot) t))

  -- and a load that finds the word which its event leaves
  pub left_may : by main (step slots (place_of counts spot) 0 0 none) ≡ of → main_spot of ≡ Some spot
      → Allows (KeepsRule {S = S} key) slots id me place (λ m. m) (tells_left by (step slots place 0 0 none) me)
  left_may is_of is_spot =
      rw (is_key, is_id, is_me, is_place)
      (allows_less (KeepsRule {S = S} counts) slots 0 (place_of counts spot) (Main main, []) (λ m. m)
      (λ n now. (becomes of n ≡ n → (now ≡ (Main (told_at main spot of n), [])) × Finds main spot n)
      × ((becomes of n ≡ n → ⊥) → now ≡ (Main main, [])))
      (tells_left by (step slots (place_of counts spot) 0 0 none) (Main main, []))
      (left_allowed {S = S} counts slots main spot of inside marks may is) (λ n now t. rw (is_of, is_spot) t))
