-- The views of the other seats, as a step of one of them finds them and leaves them.
use Rattle.std.proofs.Common.{◌≡◌, ◌≢◌, ℕ, zero, suc, ◌<◌, Bool, true, false, List, [], ◌∷◌, ◌++◌, length, set}
use Rattle.std.proofs.Common.{slice_index, get_or, Contains, IsTrue, refl, sym, ap, subst, ◌∙◌, arith}
use Rattle.std.specs.Prelude.{if◌then◌else◌}
use Rattle.std.specs.List.{count_by}
use mathlib.Core.Option.{some, some-injective, some-ne-none}
use lib.ListN.{get_elem?}
use Rattle.atomic_table.specs.Table.{State}
use Rattle.core_parts.specs.Lists.{is_in, joined}
use Rattle.mark_world.specs.Steps.{white}
use Rattle.shared_table.specs.declared.overview.Counts.{Counts}
use Rattle.shared_table.specs.declared.overview.Lent.{Lent}
use Rattle.shared_table.specs.declared.overview.Overview.{Overview}
use Rattle.shared_table.specs.declared.overview.View.{View}
use Rattle.shared_table.specs.declared.overview.View.TheVariants.{Main, Helper, Gone}
use Rattle.shared_table.specs.declared.phase.Phase.{Phase}
use Rattle.shared_table.specs.declared.phase.Phase.TheVariants.{Quiet, Mark, Paused}
use Rattle.shared_table.specs.Worlds.{views_of}
use Rattle.shared_table.specs.Keeping.{AreLent, AreNotWhite, AreSeen, KeepsRule, KeptBy, is_out}
use Rattle.shared_table.proofs.OtherViews.{IsHelper, lent_at, one_out, out_first}

-- the first view is no helper's
pub first_is_main : {S : Type 0} (counts : Counts) (s : State S View) (lent : Lent) → KeepsRule counts s
    → get_elem? s.views 0 ≡ some (Helper lent) → ⊥
first_is_main counts s lent kept at =
    subst IsHelper (sym (some-injective (Main kept.0) (Helper lent) (ap (λ vs. get_elem? vs 0) (sym kept.1.views) ∙
    at)))
    tt

-- a lent seat that knows something else is lent still
pub lents_set : (counts : Counts) (others : List View) (j : ℕ) (lent : Lent) → AreLent counts others
    → lent.counts ≡ counts → IsTrue lent.view.out → AreLent counts (set others j (Helper lent))
lents_set counts [] j lent are is out = tt
lents_set counts (Main main ∷ rest) j lent are is out = absurd are
lents_set counts (Helper one ∷ rest) zero lent are is out = (is, out, are.2)
lents_set counts (Helper one ∷ rest) (suc j) lent are is out = (are.0, are.1, lents_set counts rest j lent are.2 is out)
lents_set counts (Gone ∷ rest) zero lent are is out = (is, out, are)
lents_set counts (Gone ∷ rest) (suc j) lent are is out = lents_set counts rest j lent are is out

-- what a view has seen is not white
abbrev HasSeen : List ℕ → View → Type 0
HasSeen colours (Main main) = Unit {0}
HasSeen colours (Helper lent) = AreNotWhite colours lent.seen
HasSeen colours Gone = Unit {0}

-- what one lent seat has seen is not white
pub seen_at : (colours : List ℕ) (others : List View) (j : ℕ) (lent : Lent) → AreSeen colours others
    → get_elem? others j ≡ some (Helper lent) → AreNotWhite colours lent.seen
seen_at colours [] j lent are at = absurd (some-ne-none (Helper lent) (sym at))
seen_at colours (Main main ∷ rest) (suc j) lent are at = seen_at colours rest j lent are at
seen_at colours (Gone ∷ rest) (suc j) lent are at = seen_at colours rest j lent are at
seen_at colours (Helper one ∷ rest) (suc j) lent are at = seen_at colours rest j lent are.1 at
seen_at colours (Helper one ∷ rest) zero lent are at =
    subst (HasSeen colours) (some-injective (Helper one) (Helper lent) at) are.0
seen_at colours (Main main ∷ rest) zero lent are at =
    subst (HasSeen colours) (some-injective (Main main) (Helper lent) at) tt
seen_at colours (Gone ∷ rest) zero lent are at = subst (HasSeen colours) (some-injective Gone (Helper lent) at) tt

-- and it may have seen more
pub seen_set : (colours : List ℕ) (others : List View) (j : ℕ) (lent : Lent) → AreSeen colours others
    → AreNotWhite colours lent.seen → AreSeen colours (set others j (Helper lent))
seen_set colours [] j lent are is = tt
seen_set colours (Main main ∷ rest) zero lent are is = (is, are)
seen_set colours (Main main ∷ rest) (suc j) lent are is = seen_set colours rest j lent are is
seen_set colours (Helper one ∷ rest) zero lent are is = (is, are.1)
seen_set colours (Helper one ∷ rest) (suc j) lent are is = (are.0, seen_set colours rest j lent are.1 is)
seen_set colours (Gone ∷ rest) zero lent are is = (is, are)
seen_set colours (Gone ∷ rest) (suc j) lent are is = seen_set colours rest j lent are is

-- an element of a list of cells that are not white is not
not_white_by : (colours list : List ℕ) (at k : ℕ) → AreNotWhite colours list → k < length list → get_or list k at ≡ at
    → slice_index colours at ≢ white
not_white_by colours [] at k are low is = absurd (omega arith)
not_white_by colours (one ∷ rest) at zero are low is = subst (λ (i : ℕ). slice_index colours i ≢ white) is are.0
not_white_by colours (one ∷ rest) at (suc k) are low is = not_white_by colours rest at k are.1 (omega arith) is

-- so is no cell of the list
pub not_white : (colours list : List ℕ) (at : ℕ) → AreNotWhite colours list → Contains list at
    → slice_index colours at ≢ white
not_white colours list at are has = not_white_by colours list at has.0 are has.1 has.2

-- a cell more that is not white
not_white_more : (colours list : List ℕ) (at : ℕ) → AreNotWhite colours list → slice_index colours at ≢ white
    → AreNotWhite colours (list ++ at ∷ [])
not_white_more colours [] at are is = (is, tt)
not_white_more colours (one ∷ rest) at are is = (are.0, not_white_more colours rest at are.1 is)

-- whether it joins the list or not, none of them is white
not_white_if : (colours list : List ℕ) (at : ℕ) (b : Bool) → AreNotWhite colours list → slice_index colours at ≢ white
    → AreNotWhite colours (if b then list else list ++ at ∷ [])
not_white_if colours list at true are is = are
not_white_if colours list at false are is = not_white_more colours list at are is

-- so where it joins once
pub not_white_joined : (colours list : List ℕ) (at : ℕ) → AreNotWhite colours list → slice_index colours at ≢ white
    → AreNotWhite colours (joined list at)
not_white_joined colours list at are is = not_white_if colours list at (is_in list at) are is

-- a seat that is out is counted
pub some_out : (others : List View) (j : ℕ) (lent : Lent) → get_elem? others j ≡ some (Helper lent)
    → IsTrue lent.view.out → 0 < count_by is_out (views_of others)
some_out [] j lent at out = absurd (some-ne-none (Helper lent) (sym at))
some_out (view ∷ rest) zero lent at out =
    let one = one_out lent rest out in
    let same : count_by is_out (views_of (view ∷ rest)) ≡ count_by is_out (views_of (Helper lent ∷ rest)) =
    ap (λ (v : View). count_by is_out (views_of (v ∷ rest))) (some-injective view (Helper lent) at) in
    omega (arith, one, same)
some_out (view ∷ rest) (suc j) lent at out =
    let low = some_out rest j lent at out in
    let front = out_first view rest in
    omega (arith, low, front)

-- a seat is out in Mark alone
in_phase : (phase : Phase) (out : ℕ) → ((phase ≡ Mark → ⊥) → out ≡ 0) → 0 < out → phase ≡ Mark
in_phase Mark out idle more = refl
in_phase Quiet out idle more =
    absurd (omega (arith, more, idle (λ is. let no : Quiet ≡ Mark = is in cc)))
in_phase Paused out idle more =
    absurd (omega (arith, more, idle (λ is. let no : Paused ≡ Mark = is in cc)))

-- so helpers may mark where one seat is lent
pub in_mark : {S : Type 0} (counts : Counts) (s : State S View) (main : Overview) (k : KeptBy counts s main) (j : ℕ)
    (lent : Lent) → get_elem? k.others j ≡ some (Helper lent) → main.phase ≡ Mark
in_mark counts s main k j lent here =
    let more = some_out k.others j lent here (lent_at counts k.others j lent k.seats.lents here).1 in
    in_phase main.phase main.out k.seats.idle (omega (arith, more, k.seats.out))
