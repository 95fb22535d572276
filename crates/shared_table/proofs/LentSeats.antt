-- A lend and a return keep the rule.
use Rattle.std.proofs.Common.{◌≡◌, ℕ, zero, suc, ◌+◌, ◌<◌, List, [], ◌∷◌, ◌++◌, length, length-set, set, slice_get}
use Rattle.std.proofs.Common.{Option, Some, IsTrue, IsSomeAnd, refl, sym, ap, subst, ◌∙◌, arith}
use Rattle.std.proofs.lemmas.List.{length-append}
use Rattle.std.specs.List.{count_by}
use mathlib.Core.Option.{some}
use lib.ListN.{get_elem?}
use Rattle.atomic_table.specs.Table.{Me, Splits, Joins}
use Rattle.page_space.specs.Sizes.{helpers_most}
use Rattle.mark_laws.specs.Types.{Event, HelperView, World}
use Rattle.mark_laws.specs.Runs.{IsSoundAndBorn}
use Rattle.mark_world.specs.declared.event.Event.TheVariants as event
use Rattle.mark_world.specs.Steps.{lent, taken_back}
use Rattle.mark_world.specs.AfterEvents.{after, after_return, Possible, seats_out}
use Rattle.mark_laws.proofs.SoundWorlds.{sound_stays}
use Rattle.mark_laws.proofs.SeatsOut.{lend_counts, return_counts}
use Rattle.shared_table.specs.declared.overview.Counts.{Counts}
use Rattle.shared_table.specs.declared.overview.Overview.{Overview}
use Rattle.shared_table.specs.declared.overview.Lent.{Lent}
use Rattle.shared_table.specs.declared.overview.View.{View}
use Rattle.shared_table.specs.declared.overview.View.TheVariants.{Main, Helper, Gone}
use Rattle.shared_table.specs.declared.phase.Phase.TheVariants.{Mark}
use Rattle.shared_table.specs.Worlds.{views_of, world}
use Rattle.shared_table.specs.Keeping.{KeepsRule, is_out}
use Rattle.shared_table.specs.Changes.{lending, lent_by, taking, lending_view, lent_view, taking_view}
use Rattle.shared_table.proofs.KeptRule.{main_rule}
use Rattle.shared_table.proofs.OtherViews.{view_there, lent_at, seen_gone, lents_gone, seen_more, lents_more}
use Rattle.shared_table.proofs.OtherViews.{views_more, views_set}

-- a seat is lent
lend_allowed : {S : Type 0} (counts : Counts) (main : Overview) → main.phase ≡ Mark → main.out < helpers_most
    → Splits (KeepsRule {S = S} counts) 0 (Main main) (lending_view (Main main)) (lent_view (Main main))
lend_allowed counts main marks few s kept at =
    let k = main_rule counts s main kept at in
    let w : World = world main k.others k.colours k.board in
    let more = views_more k.others (lent_by main) in
    let knows : (lent_by main).counts ≡ counts =
    ap (λ (o : ℕ). let c : Counts = record { old = o; shapes = length main.layouts } in c) k.sizes.old
    ∙ ap (λ (m : ℕ). let c : Counts = record { old = counts.old; shapes = m } in c) k.sizes.layouts in (
      lending main,
      record {
        others = k.others ++ lent_view (Main main) ∷ [];
        colours = k.colours;
        board = k.board;
        views = ap (λ vs. set vs 0 (Main (lending main)) ++ lent_view (Main main) ∷ []) k.views;
        words = k.words;
        sizes = k.sizes;
        seats = record {
          lents = lents_more counts k.others (lent_by main) k.seats.lents knows refl;
          lent = length-append k.others (lent_view (Main main) ∷ []) ∙ ap (λ m. m + 1) k.seats.lent;
          out = ap (λ m. m + 1) k.seats.out ∙ (sym (lend_counts w) ∙ ap (count_by is_out) (sym more));
          idle = λ e. absurd (e marks);
        };
        home = λ h. absurd cc;
        seen = λ e. seen_more k.colours k.others (lent_by main) refl (k.seen marks);
        marking = λ e.
            let sound_born = k.marking marks in
            subst (λ (views : List HelperView). IsSoundAndBorn (record w { helpers = views })) (sym more)
            (sound_stays w event.Lend sound_born.0 sound_born.1
            (subst (λ (m : ℕ). m < helpers_most) k.seats.out few));
      },
    )

-- so a seat that knows itself as the main one may lend
pub lend_may : {S : Type 0} (key counts : Counts) (id : ℕ) (me : Me S View) (main : Overview) → key ≡ counts → id ≡ 0
    → me ≡ (Main main, []) → main.phase ≡ Mark → main.out < helpers_most
    → Splits (KeepsRule {S = S} key) id me.0 (lending_view me.0) (lent_view me.0)
lend_may {S} key counts id me main is_key is_id is_me marks few =
    rw (is_key, is_id, is_me) (lend_allowed {S = S} counts main marks few)

-- a seat is taken back
take_allowed : {S : Type 0} (counts : Counts) (other : ℕ) (main : Overview) (lent : Lent) → main.phase ≡ Mark
    → Joins (KeepsRule {S = S} counts) 0 (Main main) other (Helper lent) (taking_view (Main main) (Helper lent)) Gone
take_allowed counts zero main lent marks s kept at apart here = absurd (apart refl)
take_allowed counts (suc j) main lent marks s kept at apart here =
    let k = main_rule counts s main kept at in
    let w : World = world main k.others k.colours k.board in
    let of : Event = event.Return j in
    let now : Overview = taking main lent.view in
    let found : get_elem? k.others j ≡ some (Helper lent) =
    ap (λ vs. get_elem? (set vs 0 (Main now)) (suc j)) (sym k.views) ∙ here in
    let view : slice_get w.helpers j ≡ Some lent.view = view_there k.others j lent found in
    let may : Possible w of =
    subst (λ (one : Option HelperView). IsSomeAnd one (λ v. IsTrue v.out)) (sym view)
    (lent_at counts k.others j lent k.seats.lents found).1 in
    let is : after w of ≡ world now (set k.others j Gone) k.colours k.board =
    ap (after_return w j) view
    ∙ ap (λ (views : List HelperView). record w { main = taken_back w.main lent.view; helpers = views })
    (sym (views_set k.others j Gone)) in
    let count : count_by is_out (views_of (set k.others j Gone)) + 1 ≡ count_by is_out (views_of k.others) =
    ap (λ (v : World). seats_out v + 1) (sym is) ∙ return_counts w j may in (
      now,
      record {
        others = set k.others j Gone;
        colours = k.colours;
        board = k.board;
        views = ap (λ vs. set (set vs 0 (Main now)) (suc j) Gone) k.views;
        words = k.words;
        sizes = k.sizes;
        seats = record {
          lents = lents_gone counts k.others j k.seats.lents;
          lent = length-set k.others j Gone ∙ k.seats.lent;
          out = omega (arith, k.seats.out, count);
          idle = λ e. absurd (e marks);
        };
        home = λ h. absurd (omega (arith, (k.home h).2, k.seats.out, count));
        seen = λ e. seen_gone k.colours k.others j (k.seen marks);
        marking = λ e.
            let sound_born = k.marking marks in
            subst IsSoundAndBorn is (sound_stays w of sound_born.0 sound_born.1 may);
      },
    )

-- so it may take back one that it lent
pub take_may : {S : Type 0} (key counts : Counts) (id other : ℕ) (me them : Me S View) (main : Overview) (lent : Lent)
    → key ≡ counts → id ≡ 0 → me ≡ (Main main, []) → them ≡ (Helper lent, []) → main.phase ≡ Mark
    → Joins (KeepsRule {S = S} key) id me.0 other them.0 (taking_view me.0 them.0) Gone
take_may {S} key counts id other me them main lent is_key is_id is_me is_them marks =
    rw (is_key, is_id, is_me, is_them) (take_allowed {S = S} counts other main lent marks)
