-- A whole world where no seat is out is whole after a scavenge.
use Rattle.std.proofs.Common.{ℕ, ◌≡◌, ◌≢◌, ◌∙◌, inl, inr, List, All, Contains, get_or}
use Rattle.std.proofs.Common.{slice_index, Option, IfSome, sym, subst, arith}
use Rattle.std.proofs.lemmas.List.Elements.{All-contains}
use Rattle.mark_laws.specs.Types.{Snap, MainView, World}
use Rattle.mark_world.specs.Pages.{target}
use Rattle.mark_world.specs.Steps.{black, grey, white}
use Rattle.mark_world.specs.Coverage.{HasCovered, IsCovered, colour_of}
use Rattle.mark_world.specs.Soundness.{HasBlack, HasGrey, HasSnaps, HasSure, IsEmptyView, IsTrueSnap, Waits}
use Rattle.mark_world.specs.BornCells.{Born, HasBorn}
use Rattle.mark_laws.specs.Restarts.{IsRestarted}
use Rattle.mark_laws.specs.Runs.{HasNoneOut, IsSoundAndBorn}
use Rattle.mark_laws.proofs.Joins.{all_from}
use Rattle.mark_laws.proofs.Listing.{some_weaker}
use Rattle.mark_laws.proofs.Restarted.{Restart, cells_on, colour_cases, covered_on, each_joined, each_slot_on}
use Rattle.mark_laws.proofs.Restarted.{free_old, free_was, joined_in_both, lists_on, new_covered, renewed, sizes_on}

-- the view of each helper is empty
empty_views : (world : World) (promoted words colours : List ℕ) (main : MainView)
    → Restart world promoted words colours main → All IsEmptyView world.helpers
empty_views world promoted words colours main r =
    λ k d l. (r.sound.lists.helpers k d l).in_hand (r.none_out k d l)

-- what the mutator is sure of is covered, and that and what it owes is born
sure_on : (world : World) (promoted words colours : List ℕ) (main : MainView)
    → Restart world promoted words colours main → HasSure (renewed world words colours main)
sure_on world promoted words colours main r =
    let sure = r.sound.sure in
    record {
      covered = each_joined (IsCovered (renewed world words colours main)) world.main.sure promoted main.sure r.is.sure
          (λ at had. covered_on world promoted words colours main r at
          (All-contains (IsCovered world) world.main.sure at sure.covered had))
          (new_covered world promoted words colours main r);
      sure_born = joined_in_both world.main.born world.main.sure promoted main.born main.sure r.is.born r.is.sure
          sure.sure_born;
      owed_born = subst (λ (xs : List ℕ). All (Contains main.born) xs) (sym r.is.owed)
          (λ k d l. r.is.born.kept (get_or world.main.owed k d) (sure.owed_born k d l));
    }

-- the tagged slots of black free starts are covered
black_on : (world : World) (promoted words colours : List ℕ) (main : MainView)
    → Restart world promoted words colours main → HasBlack (renewed world words colours main)
black_on world promoted words colours main r start free is_black =
    let before = free_was world promoted words colours main r start free in
    let was_black : colour_of world start ≡ black =
    sym (r.is.others start (free_old world promoted words colours main r start before)) ∙ is_black in
    each_slot_on world promoted words colours main r start before (HasCovered world)
    (HasCovered (renewed world words colours main))
    (λ word covered. some_weaker (IsCovered world) (IsCovered (renewed world words colours main))
    (target world.old word) (covered_on world promoted words colours main r) covered)
    (λ word new. some_weaker (Contains promoted) (IsCovered (renewed world words colours main))
    (target world.old word) (new_covered world promoted words colours main r) new)
    (r.sound.black start before was_black)

-- what waited waits
waits_on : (world : World) (words colours : List ℕ) (main : MainView) → main.grey ≡ world.main.grey → (at : ℕ)
    → Waits world at → Waits (renewed world words colours main) at
waits_on world words colours main same at (inl waits) =
    inl (subst (λ (xs : List ℕ). Contains xs at) (sym same) waits)
waits_on world words colours main same at (inr others) = inr others

-- each grey published cell waits
grey_on : (world : World) (promoted words colours : List ℕ) (main : MainView)
    → Restart world promoted words colours main → HasGrey (renewed world words colours main)
grey_on world promoted words colours main r =
    all_from (λ (at : ℕ). slice_index colours at ≡ grey → Waits (renewed world words colours main) at) main.starts
    (λ at start is_grey. elim (colour_cases world promoted words colours main r at) [
      | inl new ↦ absurd (omega (arith, new.1, is_grey))
      | inr same ↦
          let was_grey : colour_of world at ≡ grey = sym same ∙ is_grey in
          waits_on world words colours main r.is.grey at
          (All-contains (λ (a : ℕ). colour_of world a ≡ grey → Waits world a) world.main.starts at r.sound.grey
          (r.sound.lists.coloured at (λ is_white. absurd (omega (arith, was_grey, is_white)))) was_grey)
    ])

-- there is no snap
snaps_on : (world : World) (promoted words colours : List ℕ) (main : MainView)
    → Restart world promoted words colours main → HasSnaps (renewed world words colours main)
snaps_on world promoted words colours main r =
    let empty = empty_views world promoted words colours main r in
    λ k d l. subst (λ (o : Option Snap). IfSome o (λ snap. slice_index colours snap.cell ≡ grey
    → IsTrueSnap (renewed world words colours main) snap)) (sym (empty k d l).snap) tt

-- only born cells are reached
born_on : (world : World) (promoted words colours : List ℕ) (main : MainView)
    → Restart world promoted words colours main → Born (renewed world words colours main)
born_on world promoted words colours main r =
    let later : World = renewed world words colours main in
    let empty = empty_views world promoted words colours main r in
    record {
      reached = λ at reached. elim (colour_cases world promoted words colours main r at) [
        | inl new ↦ r.is.born.new at new.0
        | inr same ↦
            let coloured : colour_of world at ≢ white = λ is_white. reached.coloured (same ∙ is_white) in
            r.is.born.kept at (r.born.reached at
            record { start = r.sound.lists.coloured at coloured; coloured = coloured })
      ];
      slots = λ start free is_born.
          let before = free_was world promoted words colours main r start free in
          each_slot_on world promoted words colours main r start before (HasBorn world)
          (HasBorn (renewed world words colours main))
          (λ word born. some_weaker (Contains world.main.born) (Contains main.born) (target world.old word)
          r.is.born.kept born)
          (λ word new. some_weaker (Contains promoted) (Contains main.born) (target world.old word)
          r.is.born.new new)
          (r.born.slots start before (elim (r.is.born.from start is_born) [
            | inl was ↦ was
            | inr new ↦ absurd (free_old world promoted words colours main r start before new)
          ]));
      snaps = λ k d l. subst (λ (o : Option Snap). IfSome o (λ snap. slice_index colours snap.cell ≡ grey
          → All (λ slot. HasBorn (renewed world words colours main) slot.word) snap.slots)) (sym (empty k d l).snap) tt;
      visits = λ k d l. subst (λ (xs : List ℕ). All (Contains main.born) xs) (sym (empty k d l).visit)
          (λ i x less. absurd (omega (arith, less)));
    }

-- the world is whole
whole_on : (world : World) (promoted words colours : List ℕ) (main : MainView)
    → Restart world promoted words colours main → IsSoundAndBorn (renewed world words colours main)
whole_on world promoted words colours main r = (
  record {
    sizes = sizes_on world promoted words colours main r;
    cells = cells_on world promoted words colours main r;
    lists = lists_on world promoted words colours main r;
    sure = sure_on world promoted words colours main r;
    black = black_on world promoted words colours main r;
    grey = grey_on world promoted words colours main r;
    snaps = snaps_on world promoted words colours main r;
  },
  born_on world promoted words colours main r,
)

-- so it is whole after a scavenge
pub restarts_stay_whole : (world : World) (promoted : List ℕ) (later : World) → IsSoundAndBorn world → HasNoneOut world
    → IsRestarted world promoted later → IsSoundAndBorn later
restarts_stay_whole world promoted later whole none is =
    subst IsSoundAndBorn (sym is.rest) (whole_on world promoted later.words later.colours later.main record {
      sound = whole.0;
      born = whole.1;
      none_out = none;
      is = subst (IsRestarted world promoted) is.rest is;
    })
