-- A table is opened; a cycle is opened, waits, goes on and is closed.
use Rattle.std.proofs.Common.{◌≡◌, ◌≤◌, ℕ, ◌+◌, ◌==◌, Bool, true, false, List, [], ◌++◌, length}
use Rattle.std.proofs.Common.{slice_index}
use Rattle.std.proofs.Common.{replicate, refl, sym, ap, subst, ◌∙◌, arith}
use Rattle.std.specs.List.{count_by}
use Rattle.std.proofs.lemmas.List.{length-replicate, replicate-append-replicate}
use Rattle.std.proofs.lemmas.List.Elements.{All-replicate}
use Rattle.std.proofs.lemmas.Bool.Decides.{nat_tests}
use mathlib.Core.Option.{some}
use prog.Atomic.{either}
use Rattle.atomic_table.specs.Table.{State, Me, keeps, stepped, step, Allows, opening}
use Rattle.page_space.specs.Extents.{board_words}
use Rattle.core_parts.specs.Boards.{empty_board}
use Rattle.mark_laws.specs.Types.{HelperView, MainView}
use Rattle.mark_laws.specs.Runs.{IsSoundAndBorn}
use Rattle.mark_world.specs.BetweenCommands.{Fresh}
use Rattle.mark_world.specs.Cycles.{Cycle}
use Rattle.mark_world.specs.Steps.{returned, black}
use Rattle.shared_table.specs.declared.overview.Counts.{Counts}
use Rattle.shared_table.specs.declared.overview.Overview.{Overview}
use Rattle.shared_table.specs.declared.overview.View.{View}
use Rattle.shared_table.specs.declared.overview.View.TheVariants.{Main}
use Rattle.shared_table.specs.declared.phase.Phase.TheVariants.{Mark}
use Rattle.shared_table.specs.Owned.{Own}
use Rattle.shared_table.specs.Worlds.{beginning, views_of, world, world_at_home}
use Rattle.shared_table.specs.Keeping.{AreLent, KeepsRule, KeptBy, is_out}
use Rattle.shared_table.specs.Changes.{IsContinued, opened, resumed}
use Rattle.shared_table.specs.Told.{tells_opened, tells_resumed}
use Rattle.shared_table.proofs.KeptRule.{main_rule, view_rule}
use Rattle.shared_table.proofs.OtherViews.{all_gone, none_seen}

-- words of 0 meet the rule at the beginning
pub begins : {S : Type 0} (counts : Counts) (words : List ℕ)
    → words ≡ replicate (counts.old + (counts.shapes + (counts.old + board_words))) 0
    → KeepsRule {S = S} counts (opening words [] (Main (beginning counts)))
begins {S} counts words is = (
  beginning counts,
  record {
    others = [];
    colours = replicate counts.old 0;
    board = empty_board;
    views = refl;
    words = is
        ∙ (sym (replicate-append-replicate counts.old (counts.shapes + (counts.old + board_words)) 0)
        ∙ ap (λ ys. replicate counts.old 0 ++ ys)
        (sym (replicate-append-replicate counts.shapes (counts.old + board_words) 0)
        ∙ ap (λ ys. replicate counts.shapes 0 ++ ys) (sym (replicate-append-replicate counts.old board_words 0))));
    sizes = record {
      old = refl;
      words = length-replicate {A = ℕ} counts.old 0;
      layouts = length-replicate {A = ℕ} counts.shapes 0;
      colours = length-replicate {A = ℕ} counts.old 0;
      three = All-replicate (λ (colour : ℕ). colour ≤ black) counts.old 0 (omega arith);
      board = length-replicate {A = ℕ} board_words 0;
    };
    seats = record { lents = tt; lent = refl; out = refl; idle = λ e. refl };
    home = λ h. (refl, refl, refl);
    seen = λ e. absurd cc;
    marking = λ e. absurd cc;
  },
)

-- an exchange of a number for itself leaves the word, by the value of the test
same_by : (n m : ℕ) (b : Bool) → (m == n) ≡ b → either b n m ≡ m
same_by n m true e = grind (arith, nat_tests)
same_by n m false e = refl

-- an exchange of a number for itself leaves the word
same_either : (n m : ℕ) → either (m == n) n m ≡ m
same_either n m = same_by n m (m == n) refl

-- with no seat out the world is what the main seat knows alone
pub home_world : (counts : Counts) (others : List View) (colours board : List ℕ) (main : Overview)
    → AreLent counts others
    → count_by is_out (views_of others) ≡ 0 → length others ≡ main.lent → colours ≡ main.colours → board ≡ main.board
    → world_at_home main ≡ world main others colours board
home_world counts others colours board main lents none_out lent is_colours is_board =
    let gone : replicate main.lent returned ≡ views_of others =
    ap (λ (n : ℕ). replicate n returned) (sym lent) ∙ sym (all_gone counts others lents none_out) in
    ap (λ (views : List HelperView). record (world_at_home main) { helpers = views }) gone
    ∙ (ap (λ (all : List ℕ). record (world_at_home main) { colours = all; helpers = views_of others }) (sym is_colours)
    ∙ ap (λ (all : List ℕ). record (world_at_home main) { colours = colours; board = all; helpers = views_of others })
    (sym is_board))

-- the world with no seat out, by the rule
module _ {S : Type 0} (counts : Counts) (s : State S View) (main : Overview) (k : KeptBy counts s main)
    (home : main.home ≡ true) where
  pub none_out : count_by is_out (views_of k.others) ≡ 0
  none_out = sym k.seats.out ∙ (k.home home).2

  -- so the cycle may be another one
  pub home_is : (now : Overview) → now.lent ≡ main.lent → now.colours ≡ main.colours → now.board ≡ main.board
      → world_at_home now ≡ world now k.others k.colours k.board
  home_is now lent colours board =
      home_world counts k.others k.colours k.board now k.seats.lents none_out (k.seats.lent ∙ sym lent)
      ((k.home home).0 ∙ sym colours) ((k.home home).1 ∙ sym board)

  pub home_whole : main.phase ≡ Mark → IsSoundAndBorn (world_at_home main)
  home_whole marks = subst IsSoundAndBorn (sym (home_is main refl refl refl)) (k.marking marks)

-- the main seat in a cycle
abbrev entered : Overview → MainView → List ℕ → ℕ → List ℕ → Overview
entered main view reached made dead = record main {
  phase = Mark;
  view = view;
  reached = reached;
  made = made;
  dead = dead;
}

-- a cycle is entered for which the world is whole
enter_allowed : (counts : Counts) (slots number : ℕ) (main : Overview) (view : MainView) (reached : List ℕ) (made : ℕ)
    (dead : List ℕ) (told : ℕ → Me Own View → Type 0) → main.home ≡ true
    → IsSoundAndBorn (world_at_home (entered main view reached made dead))
    → ((n : ℕ) → told n (Main (entered main view reached made dead), []))
    → Allows (KeepsRule counts) slots 0 (Main main, []) 0 (λ m. either (m == number) number m) told
enter_allowed counts slots number main view reached made dead told home whole tells s kept deep at bound =
    let k = main_rule counts s main kept at in
    let q : Overview = entered main view reached made dead in
    let rule : KeptBy counts (stepped s 0 (slice_index s.words 0) 0 [] (Main q) keeps) q =
    view_rule counts s main q 0 k refl refl refl
    (record { lents = k.seats.lents; lent = k.seats.lent; out = k.seats.out; idle = λ e. absurd (e refl) }) k.home
    (λ e. none_seen counts k.others k.colours k.seats.lents (none_out counts s main k home))
    (λ e. subst IsSoundAndBorn (home_is counts s main k home q refl refl refl) whole) in (
      Main q,
      keeps,
      tt,
      (
        q,
        subst (λ (x : ℕ). KeptBy counts (stepped s 0 x 0 [] (Main q) keeps) q)
            (sym (same_either number (slice_index s.words 0)))
            rule,
      ),
      tells (slice_index s.words 0),
    )

module _ (key counts : Counts) (id slots number : ℕ) (me : Me Own View) (main : Overview) (own : Own)
    (fits : Own → ℕ → Overview → Cycle → Type 0) (is_key : key ≡ counts) (is_id : id ≡ 0) (is_me : me ≡ (Main main, []))
    (home : main.home ≡ true) where
  -- a cycle is opened
  pub open_may : (cycle : Cycle) × fits own number main cycle × Fresh (world_at_home (opened main cycle))
      → Allows (KeepsRule key) slots id me 0 (λ m. either (m == number) number m)
      (tells_opened fits (step slots 0 number number (some own)) me)
  open_may chosen =
      rw (is_key, is_id, is_me)
      (enter_allowed counts slots number main (opened main chosen.0).view chosen.0.reached chosen.0.made
      chosen.0.dead (tells_opened fits (step slots 0 number number (some own)) (Main main, [])) home
      (chosen.2.sound, chosen.2.born)
      (λ n. (chosen.0, chosen.1, chosen.2, refl)))

  -- a cycle goes on
  pub resume_may : (cycle : Cycle) × fits own number main cycle × IsContinued main cycle
      × IsSoundAndBorn (world_at_home (resumed main cycle))
      → Allows (KeepsRule key) slots id me 0 (λ m. either (m == number) number m)
      (tells_resumed fits (step slots 0 number number (some own)) me)
  resume_may chosen =
      rw (is_key, is_id, is_me)
      (enter_allowed counts slots number main (resumed main chosen.0).view main.reached main.made main.dead
      (tells_resumed fits (step slots 0 number number (some own)) (Main main, [])) home chosen.3
      (λ n. (chosen.0, chosen.1, chosen.2, chosen.3, refl)))
