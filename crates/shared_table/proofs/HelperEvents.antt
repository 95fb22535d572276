-- A step of a lent seat on a word of the table is an event of the world, and keeps the rule.
use Rattle.std.proofs.Common.{◌≡◌, ◌≤◌, ℕ, zero, suc, List, [], length-set, get_or, set}
use Rattle.std.proofs.Common.{slice_index, slice_set, slice_get, IsTrue, Option, Some, refl, sym, ap, subst, ◌∙◌, arith}
use Rattle.std.proofs.lemmas.List.{set-get_or}
use mathlib.Core.Option.{none, some}
use lib.ListN.{get_elem?}
use Rattle.atomic_table.specs.Table.{Me, keeps, stepped, step, Allows}
use Rattle.atomic_table.proofs.Lists.{set_again}
use Rattle.mark_laws.specs.Growing.{MovesSeat}
use Rattle.mark_laws.specs.OwnViews.{AsksOwnView}
use Rattle.mark_laws.specs.Runs.{IsSoundAndBorn}
use Rattle.mark_laws.specs.Types.{Event, Spot, Actor, HelperView, World}
use Rattle.mark_world.specs.Steps.{actor, becomes, helper_learns, helper_spot}
use Rattle.mark_world.specs.Conditions.{MayHelper}
use Rattle.mark_world.specs.AfterEvents.{after, after_step, after_helper, helper_finds, word_at, with_word, seats_out}
use Rattle.mark_laws.proofs.Colours.{colours_rise}
use Rattle.mark_laws.proofs.OwnTelling.{allowed_possible}
use Rattle.mark_laws.proofs.SeatsOut.{others_keep_count}
use Rattle.mark_laws.proofs.SoundWorlds.{sound_stays}
use Rattle.shared_table.specs.declared.overview.Counts.{Counts}
use Rattle.shared_table.specs.declared.overview.Lent.{Lent}
use Rattle.shared_table.specs.declared.overview.Overview.{Overview}
use Rattle.shared_table.specs.declared.overview.View.{View}
use Rattle.shared_table.specs.declared.overview.View.TheVariants.{Helper}
use Rattle.shared_table.specs.Worlds.{world}
use Rattle.shared_table.specs.Keeping.{AreNotWhite, KeepsRule, KeptBy, joined_words}
use Rattle.shared_table.specs.Spots.{place_of, HasSpot, words_with, layouts_with, colours_with, board_with}
use Rattle.shared_table.specs.HelperTold.{learned, tells_nothing}
use Rattle.shared_table.proofs.OtherViews.{view_there, lent_at, views_set, seen_rise, not_white_rise}
use Rattle.shared_table.proofs.SpotWords.{length-colours_with, length-board_with, spot_put, spot_found}
use Rattle.shared_table.proofs.HelperViews.{first_is_main, lents_set, seen_at, seen_set, some_out, in_mark}

-- What an event has to be, by the number of its helper, to be a step of this view at a spot. It leaves the words of the
-- pages and the layout words.
pub record IsStep (view : HelperView) (of : ℕ → Event) (spot : Spot) : Type 0 where
  pub acts : (j : ℕ) → actor (of j) ≡ Actor.Helper j
  pub stays : (j : ℕ) → MovesSeat (of j) → ⊥
  pub may : (j : ℕ) → MayHelper view (of j)
  pub asks : (j : ℕ) → AsksOwnView view (of j)
  pub touches : (j : ℕ) → helper_spot view (of j) ≡ Some spot
  pub same : (j m : ℕ) → becomes (of j) m ≡ becomes (of 0) m
  pub learns : (j old m : ℕ) → helper_learns old view (of j) m ≡ helper_learns old view (of 0) m
  pub out : (old m : ℕ) → IsTrue (helper_learns old view (of 0) m).out
  pub pages : (w : World) → words_with spot (becomes (of 0) (word_at w (Some spot))) w.words ≡ w.words
  pub layouts : (w : World) → layouts_with spot (becomes (of 0) (word_at w (Some spot))) w.layouts ≡ w.layouts

-- the world with a word put at a spot, list by list
put_by : (w : World) (spot : Spot) (x : ℕ) → with_word w (Some spot) x ≡ record w {
  words = words_with spot x w.words;
  layouts = layouts_with spot x w.layouts;
  colours = colours_with spot x w.colours;
  board = board_with spot x w.board;
}
put_by w (Spot.Heap at) x = refl
put_by w (Spot.Layout shape) x = refl
put_by w (Spot.Colour at) x = refl
put_by w (Spot.Board place) x = refl

-- a load of a seat, whichever it is, that tells nothing
pub look_allowed : {S : Type 0} (counts : Counts) (slots id place : ℕ) (view : View)
    → Allows (KeepsRule {S = S} counts) slots id (view, []) place (λ m. m)
    (tells_nothing (step slots place 0 0 none) (view, []))
look_allowed counts slots id place view s kept deep at bound =
    let k = kept.1 in (
      view,
      keeps,
      tt,
      (
        kept.0,
        record {
          others = k.others;
          colours = k.colours;
          board = k.board;
          views = set_again s.views id view at ∙ k.views;
          words = set-get_or s.words place 0 ∙ k.words;
          sizes = k.sizes;
          seats = k.seats;
          home = k.home;
          seen = k.seen;
          marking = k.marking;
        },
      ),
      refl,
    )

pub look_may : {S : Type 0} (key : Counts) (id slots place : ℕ) (me : Me S View) → me.1 ≡ []
    → Allows (KeepsRule {S = S} key) slots id me place (λ m. m) (tells_nothing (step slots place 0 0 none) me)
look_may {S} key id slots place me bare =
    let is : me ≡ (me.0, []) = ap (λ l. (me.0, l)) bare in
    rw is (look_allowed {S = S} key slots id place me.0)

-- what a seat knows after an event, and what it has seen then, by the word found
abbrev pub learned_seen : Lent → Event → (ℕ → List ℕ) → ℕ → Lent
learned_seen lent of seen found = record (learned lent of found) { seen = seen found }

module _ {S : Type 0} (counts : Counts) (slots : ℕ) (lent : Lent) (of : ℕ → Event) (spot : Spot) (seen : ℕ → List ℕ)
    (Finds : ℕ → Type 0) (is : IsStep lent.view of spot) (out : IsTrue lent.view.out)
    (inside : HasSpot lent.counts spot)
    (sees : (w : World) → IsSoundAndBorn w → w.old ≡ lent.counts.old
    → AreNotWhite (colours_with spot (becomes (of 0) (word_at w (Some spot))) w.colours) lent.seen
    → AreNotWhite (colours_with spot (becomes (of 0) (word_at w (Some spot))) w.colours) (seen (word_at w (Some spot))))
    (finds : (w : World) (j : ℕ) → IsSoundAndBorn w → w.old ≡ lent.counts.old → slice_get w.helpers j ≡ Some lent.view
    → AreNotWhite w.colours lent.seen → Finds (word_at w (Some spot)))
  where
    -- the step of the seat of a number keeps the rule, and tells what the seat knows then
    pub step_allowed : (id : ℕ) (f : ℕ → ℕ) → ((m : ℕ) → f m ≡ becomes (of 0) m)
        → Allows (KeepsRule {S = S} counts) slots id (Helper lent, []) (place_of lent.counts spot) f
        (λ n now. (now ≡ (Helper (learned_seen lent (of 0) seen n), [])) × Finds n)
    step_allowed zero f alike s kept deep at bound = absurd (first_is_main {S = S} counts s lent kept at)
    step_allowed (suc j) f alike s kept deep at bound =
        let next : ℕ → Lent = λ m. learned_seen lent (of 0) seen m in
        let main : Overview = kept.0 in
        let k = kept.1 in
        let here : get_elem? k.others j ≡ some (Helper lent) = ap (λ vs. get_elem? vs (suc j)) (sym k.views) ∙ at in
        let is_counts : lent.counts ≡ counts = (lent_at counts k.others j lent k.seats.lents here).0 in
        let old : main.old ≡ lent.counts.old = k.sizes.old ∙ ap (λ (x : Counts). x.old) (sym is_counts) in
        let place : ℕ = place_of lent.counts spot in
        let is_place : place ≡ place_of counts spot = ap (λ (x : Counts). place_of x spot) is_counts in
        let there : HasSpot counts spot = subst (λ (x : Counts). HasSpot x spot) is_counts inside in
        let w : World = world main k.others k.colours k.board in
        let marks = in_mark {S = S} counts s main k j lent here in
        let whole = k.marking marks in
        let v : ℕ = word_at w (Some spot) in
        let n : ℕ = slice_index s.words place in
        let found : n ≡ v =
        ap (λ ws. get_or ws place 0) k.words
        ∙ (ap (λ i. get_or (joined_words main.words main.layouts k.colours k.board) i 0) is_place
        ∙ spot_found counts main k.others k.colours k.board spot k.sizes there) in
        let x : ℕ = becomes (of 0) v in
        let colours : List ℕ = colours_with spot x k.colours in
        let board : List ℕ = board_with spot x k.board in
        let view : slice_get w.helpers j ≡ Some lent.view = view_there k.others j lent here in
        let learns : helper_learns main.old lent.view (of j) v ≡ (next v).view =
        is.learns j main.old v ∙ ap (λ (o : ℕ). helper_learns o lent.view (of 0) v) old in
        let helpers : List HelperView = slice_set w.helpers j (helper_learns main.old lent.view (of j) v) in
        let later : World = world main (set k.others j (Helper (next v))) colours board in
        let is_later : after w (of j) ≡ later =
        ap (after_step w (of j)) (is.acts j)
        ∙ (ap (after_helper w j (of j)) view
        ∙ (ap (λ (sp : Option Spot). helper_finds w j lent.view (of j) sp (word_at w sp)) (is.touches j)
        ∙ (ap (λ (y : ℕ). record (with_word w (Some spot) y) { helpers = helpers }) (is.same j v)
        ∙ (ap (λ (u : World). record u { helpers = helpers }) (put_by w spot x)
        ∙ (ap (λ (ws : List ℕ). record w {
          words = ws;
          layouts = layouts_with spot x w.layouts;
          colours = colours;
          board
              = board;
          helpers = helpers;
        }) (is.pages w)
        ∙ (ap (λ (ls : List ℕ). record w { layouts = ls; colours = colours; board = board; helpers = helpers })
        (is.layouts w)
        ∙ ap (λ (hs : List HelperView). record w { colours = colours; board = board; helpers = hs })
        (ap (slice_set w.helpers j) learns ∙ sym (views_set k.others j (Helper (next v)))))))))) in
        let rise : (a : ℕ) → slice_index k.colours a ≤ slice_index colours a =
        λ a. subst (λ (u : World). slice_index k.colours a ≤ slice_index u.colours a) is_later
        (colours_rise w (of j) whole.0.sizes a) in
        let was : AreNotWhite k.colours lent.seen = seen_at k.colours k.others j lent (k.seen marks) here in
        let sound : IsSoundAndBorn later =
        subst IsSoundAndBorn is_later
        (sound_stays w (of j) whole.0 whole.1
        (allowed_possible w j lent.view (of j) whole.0 view out (is.acts j) (is.may j) (is.asks j))) in
        let kept_by : KeptBy counts (stepped s place x (suc j) [] (Helper (next v)) keeps) main =
        record {
          others = set k.others j (Helper (next v));
          colours = colours;
          board = board;
          views = ap (λ vs. set vs (suc j) (Helper (next v))) k.views;
          words = ap (λ ws. set ws place x) k.words
              ∙ (ap (λ i. set (joined_words main.words main.layouts k.colours k.board) i x) is_place
              ∙ (spot_put counts main.old main.words main.layouts k.colours k.board spot x k.sizes there
              ∙ (ap (λ (ws : List ℕ). joined_words ws (layouts_with spot x main.layouts) colours board) (is.pages w)
              ∙ ap (λ (ls : List ℕ). joined_words main.words ls colours board) (is.layouts w))));
          sizes = record {
            old = k.sizes.old;
            words = k.sizes.words;
            layouts = k.sizes.layouts;
            colours = length-colours_with spot x k.colours ∙ k.sizes.colours;
            three = sound.0.sizes.three;
            board = length-board_with spot x k.board ∙ k.sizes.board;
          };
          seats = record {
            lents = lents_set counts k.others j (next v) k.seats.lents is_counts (is.out lent.counts.old v);
            lent = length-set k.others j (Helper (next v)) ∙ k.seats.lent;
            out = k.seats.out ∙ (sym (others_keep_count w (of j) (is.stays j)) ∙ ap seats_out is_later);
            idle = k.seats.idle;
          };
          home = λ h. absurd (omega (arith, (k.home h).2, k.seats.out, some_out k.others j lent here out));
          seen = λ e. seen_set colours k.others j (next v) (seen_rise k.colours colours k.others rise (k.seen marks))
              (sees w whole old (not_white_rise k.colours colours lent.seen rise was));
          marking = λ e. sound;
        } in (
          Helper (next n),
          keeps,
          tt,
          (
            main,
            subst (λ (m : ℕ). KeptBy counts (stepped s place (f n) (suc j) [] (Helper (next m)) keeps) main) (sym found)
                (subst (λ (y : ℕ). KeptBy counts (stepped s place y (suc j) [] (Helper (next v)) keeps) main)
                (sym (alike n ∙ ap (becomes (of 0)) found)) kept_by),
          ),
          (refl, subst Finds (sym found) (finds w j whole old view was)),
        )
