-- The rule, as a step of the main seat finds it and leaves it.
use Rattle.std.proofs.Common.{◌≡◌, ◌≤◌, ℕ, Bool, true, false, List, [], All, set, slice_index}
use Rattle.std.proofs.Common.{refl, sym, ap, subst, ◌∙◌}
use Rattle.std.specs.Prelude.{if◌then◌else◌}
use Rattle.std.proofs.lemmas.List.{set-get_or}
use mathlib.Core.Option.{some, some-injective}
use lib.ListN.{get_elem?}
use prog.Atomic.{either}
use Rattle.atomic_table.specs.Table.{State, Me, keeps, stepped, Allows, carried_after}
use Rattle.mark_laws.specs.Types.{MainView, Spot}
use Rattle.mark_laws.specs.Runs.{IsSoundAndBorn}
use Rattle.mark_world.specs.Steps.{black}
use Rattle.shared_table.specs.declared.overview.Counts.{Counts}
use Rattle.shared_table.specs.declared.overview.Overview.{Overview}
use Rattle.shared_table.specs.declared.overview.View.{View}
use Rattle.shared_table.specs.declared.overview.View.TheVariants.{Main}
use Rattle.shared_table.specs.declared.phase.Phase.TheVariants.{Mark}
use Rattle.shared_table.specs.Worlds.{overview_of, world}
use Rattle.shared_table.specs.Keeping.{AreSeen, AreSeats, KeepsRule, KeptBy}
use Rattle.shared_table.specs.Spots.{place_of, HasSpot, colours_with, board_with, with_spot}
use Rattle.shared_table.proofs.SpotWords.{length-words_with, length-layouts_with, length-colours_with}
use Rattle.shared_table.proofs.SpotWords.{length-board_with}
use Rattle.shared_table.proofs.SpotWords.{spot_put}

-- the rule with the main seat's own view
pub main_rule : {S : Type 0} (counts : Counts) (s : State S View) (main : Overview) → KeepsRule counts s
    → get_elem? s.views 0 ≡ some (Main main) → KeptBy counts s main
main_rule counts s main kept at =
    let same = some-injective (Main kept.0) (Main main) (ap (λ vs. get_elem? vs 0) (sym kept.1.views) ∙ at) in
    subst (KeptBy counts s) (ap overview_of same) kept.1

-- a step may tell less
pub allows_less : {S : Type 0} (holds : State S View → Type 0) (slots id i : ℕ) (me : Me S View) (f : ℕ → ℕ)
    (told less : ℕ → Me S View → Type 0) → Allows holds slots id me i f told
    → ((n : ℕ) (now : Me S View) → told n now → less n now) → Allows holds slots id me i f less
allows_less holds slots id i me f told less is tells s kept deep at bound =
    let r = is s kept deep at bound in (
      r.0,
      r.1,
      r.2,
      r.3,
      tells (slice_index s.words i) (r.0, carried_after me.1 r.1) r.4,
    )

-- an exchange's word is that of an `if`
pub either_if : (b : Bool) (x y : ℕ) → either b x y ≡ (if b then x else y)
either_if true x y = refl
either_if false x y = refl

-- the main seat puts a word at a spot, and its view of the cycle is another one
pub spot_rule : {S : Type 0} (counts : Counts) (s : State S View) (main : Overview) (spot : Spot) (x : ℕ)
    (view : MainView) (k : KeptBy counts s main) → HasSpot counts spot
    → All (λ colour. colour ≤ black) (colours_with spot x k.colours)
    → (main.phase ≡ Mark → AreSeen (colours_with spot x k.colours) k.others)
    → (main.phase ≡ Mark → IsSoundAndBorn (world (record (with_spot main spot x) { view = view }) k.others
    (colours_with spot x k.colours) (board_with spot x k.board)))
    → KeptBy counts (stepped s (place_of counts spot) x 0 [] (Main (record (with_spot main spot x) { view = view }))
    keeps)
    (record (with_spot main spot x) { view = view })
spot_rule counts s main spot x view k inside three seen marking = record {
  others = k.others;
  colours = colours_with spot x k.colours;
  board = board_with spot x k.board;
  views = ap (λ vs. set vs 0 (Main (record (with_spot main spot x) { view = view }))) k.views;
  words = ap (λ ws. set ws (place_of counts spot) x) k.words
      ∙ spot_put counts main.old main.words main.layouts k.colours k.board spot x k.sizes inside;
  sizes = record {
    old = k.sizes.old;
    words = length-words_with spot x main.words ∙ k.sizes.words;
    layouts = length-layouts_with spot x main.layouts ∙ k.sizes.layouts;
    colours = length-colours_with spot x k.colours ∙ k.sizes.colours;
    three = three;
    board = length-board_with spot x k.board ∙ k.sizes.board;
  };
  seats = k.seats;
  home = λ h. (
    ap (λ (all : List ℕ). colours_with spot x all) (k.home h).0,
    ap (λ (all : List ℕ). board_with spot x all) (k.home h).1,
    (k.home h).2,
  );
  seen = seen;
  marking = marking;
}

-- the main seat reads a word, and knows something else of the same words
pub view_rule : {S : Type 0} (counts : Counts) (s : State S View) (main now : Overview) (i : ℕ)
    (k : KeptBy counts s main)
    → now.old ≡ main.old → now.words ≡ main.words → now.layouts ≡ main.layouts
    → AreSeats counts now.phase now.out now.lent k.others
    → (now.home ≡ true → (k.colours ≡ now.colours) × (k.board ≡ now.board) × (now.out ≡ 0))
    → (now.phase ≡ Mark → AreSeen k.colours k.others)
    → (now.phase ≡ Mark → IsSoundAndBorn (world now k.others k.colours k.board))
    → KeptBy counts (stepped s i (slice_index s.words i) 0 [] (Main now) keeps) now
view_rule counts s main now i k old words layouts seats home seen marking = record {
  others = k.others;
  colours = k.colours;
  board = k.board;
  views = ap (λ vs. set vs 0 (Main now)) k.views;
  words = rw (words, layouts) (set-get_or s.words i 0 ∙ k.words);
  sizes = rw (old, words, layouts) k.sizes;
  seats = seats;
  home = home;
  seen = seen;
  marking = marking;
}
