-- The views of the seats but the main one.
use Rattle.std.proofs.Common.{◌≡◌, ◌≤◌, ℕ, zero, suc, ◌+◌, Bool, List, [], ◌∷◌, ◌++◌, length, set, slice_index}
use Rattle.std.proofs.Common.{slice_get, slice_set, replicate, cond, Some, IsTrue, refl, sym, ap, subst, arith}
use Rattle.std.specs.List.{count_by}
use Rattle.std.proofs.lemmas.List.Sums.{sum_by-cons}
use mathlib.Core.Option.{some, some-injective, some-ne-none}
use lib.ListN.{get_elem?}
use Rattle.mark_laws.specs.Types.{HelperView}
use Rattle.mark_world.specs.Steps.{returned}
use Rattle.shared_table.specs.declared.overview.Counts.{Counts}
use Rattle.shared_table.specs.declared.overview.Lent.{Lent}
use Rattle.shared_table.specs.declared.overview.View.{View}
use Rattle.shared_table.specs.declared.overview.View.TheVariants.{Main, Helper, Gone}
use Rattle.shared_table.specs.Worlds.{helper_of, views_of}
use Rattle.shared_table.specs.Keeping.{AreLent, AreNotWhite, AreSeen, is_out}

-- the view of a lent seat is among those of helpers
pub view_there : (others : List View) (j : ℕ) (lent : Lent) → get_elem? others j ≡ some (Helper lent)
    → slice_get (views_of others) j ≡ Some lent.view
view_there [] j lent at = absurd (some-ne-none (Helper lent) (sym at))
view_there (view ∷ rest) zero lent at = ap (λ (one : View). Some (helper_of one)) (some-injective view (Helper lent) at)
view_there (view ∷ rest) (suc j) lent at = view_there rest j lent at

-- a view is that of a lent seat
abbrev IsLentAs : Counts → View → Type 0
IsLentAs counts (Main main) = ⊥
IsLentAs counts (Helper lent) = (lent.counts ≡ counts) × IsTrue lent.view.out
IsLentAs counts Gone = ⊥

abbrev pub IsHelper : View → Type 0
IsHelper (Main main) = ⊥
IsHelper (Helper lent) = Unit {0}
IsHelper Gone = ⊥

-- a lent seat knows the sizes of the table, and its view is out
pub lent_at : (counts : Counts) (others : List View) (j : ℕ) (lent : Lent) → AreLent counts others
    → get_elem? others j ≡ some (Helper lent) → (lent.counts ≡ counts) × IsTrue lent.view.out
lent_at counts [] j lent are at = absurd (some-ne-none (Helper lent) (sym at))
lent_at counts (Main main ∷ rest) j lent are at = absurd are
lent_at counts (Gone ∷ rest) (suc j) lent are at = lent_at counts rest j lent are at
lent_at counts (Helper one ∷ rest) (suc j) lent are at = lent_at counts rest j lent are.2 at
lent_at counts (Helper one ∷ rest) zero lent are at =
    subst (λ (view : View). IsLentAs counts view) (some-injective (Helper one) (Helper lent) at) (are.0, are.1)
lent_at counts (Gone ∷ rest) zero lent are at = absurd (subst IsHelper (sym (some-injective Gone (Helper lent) at)) tt)

-- where no colour gets lighter, what was not white is not
pub not_white_rise : (colours later list : List ℕ) → ((at : ℕ) → slice_index colours at ≤ slice_index later at)
    → AreNotWhite colours list → AreNotWhite later list
not_white_rise colours later [] rise are = tt
not_white_rise colours later (at ∷ rest) rise are =
    ((λ white. are.0 (omega (arith, rise at, white))), not_white_rise colours later rest rise are.1)

-- and so it is with what each lent seat has seen
pub seen_rise : (colours later : List ℕ) (others : List View)
    → ((at : ℕ) → slice_index colours at ≤ slice_index later at) → AreSeen colours others → AreSeen later others
seen_rise colours later [] rise are = tt
seen_rise colours later (Main main ∷ rest) rise are = seen_rise colours later rest rise are
seen_rise colours later (Helper lent ∷ rest) rise are =
    (not_white_rise colours later lent.seen rise are.0, seen_rise colours later rest rise are.1)
seen_rise colours later (Gone ∷ rest) rise are = seen_rise colours later rest rise are

-- a seat that was taken back is not minded
pub seen_gone : (colours : List ℕ) (others : List View) (j : ℕ) → AreSeen colours others
    → AreSeen colours (set others j Gone)
seen_gone colours [] j are = tt
seen_gone colours (Main main ∷ rest) zero are = are
seen_gone colours (Main main ∷ rest) (suc j) are = seen_gone colours rest j are
seen_gone colours (Helper lent ∷ rest) zero are = are.1
seen_gone colours (Helper lent ∷ rest) (suc j) are = (are.0, seen_gone colours rest j are.1)
seen_gone colours (Gone ∷ rest) zero are = are
seen_gone colours (Gone ∷ rest) (suc j) are = seen_gone colours rest j are

-- the other seats are lent still once one was taken back
pub lents_gone : (counts : Counts) (others : List View) (j : ℕ) → AreLent counts others
    → AreLent counts (set others j Gone)
lents_gone counts [] j are = tt
lents_gone counts (Main main ∷ rest) j are = absurd are
lents_gone counts (Helper lent ∷ rest) zero are = are.2
lents_gone counts (Helper lent ∷ rest) (suc j) are = (are.0, are.1, lents_gone counts rest j are.2)
lents_gone counts (Gone ∷ rest) zero are = are
lents_gone counts (Gone ∷ rest) (suc j) are = lents_gone counts rest j are

-- one seat more that has seen nothing
pub seen_more : (colours : List ℕ) (others : List View) (lent : Lent) → lent.seen ≡ [] → AreSeen colours others
    → AreSeen colours (others ++ Helper lent ∷ [])
seen_more colours [] lent nothing are = (subst (AreNotWhite colours) (sym nothing) tt, tt)
seen_more colours (Main main ∷ rest) lent nothing are = seen_more colours rest lent nothing are
seen_more colours (Helper one ∷ rest) lent nothing are = (are.0, seen_more colours rest lent nothing are.1)
seen_more colours (Gone ∷ rest) lent nothing are = seen_more colours rest lent nothing are

-- and with one seat more that is out
pub lents_more : (counts : Counts) (others : List View) (lent : Lent) → AreLent counts others → lent.counts ≡ counts
    → IsTrue lent.view.out → AreLent counts (others ++ Helper lent ∷ [])
lents_more counts [] lent are is out = (is, out, tt)
lents_more counts (Main main ∷ rest) lent are is out = absurd are
lents_more counts (Helper one ∷ rest) lent are is out = (are.0, are.1, lents_more counts rest lent are.2 is out)
lents_more counts (Gone ∷ rest) lent are is out = lents_more counts rest lent are is out

-- its view comes last among those of the helpers
pub views_more : (others : List View) (lent : Lent)
    → views_of (others ++ Helper lent ∷ []) ≡ views_of others ++ lent.view ∷ []
views_more [] lent = refl
views_more (view ∷ rest) lent = ap (λ views. helper_of view ∷ views) (views_more rest lent)

-- the helpers' views where one seat's view was put
pub views_set : (others : List View) (j : ℕ) (view : View)
    → views_of (set others j view) ≡ slice_set (views_of others) j (helper_of view)
views_set [] j view = refl
views_set (one ∷ rest) zero view = refl
views_set (one ∷ rest) (suc j) view = ap (λ views. helper_of one ∷ views) (views_set rest j view)

-- how many of the views are out, by the first one
pub out_first : (view : View) (rest : List View)
    → count_by is_out (views_of (view ∷ rest)) ≡ cond (helper_of view).out 1 0 + count_by is_out (views_of rest)
out_first view rest = sum_by-cons (λ (one : HelperView). cond one.out 1 0) (helper_of view) (views_of rest)

-- a lent seat is out
pub one_out : (lent : Lent) (rest : List View) → IsTrue lent.view.out
    → count_by is_out (views_of (Helper lent ∷ rest)) ≡ 1 + count_by is_out (views_of rest)
one_out lent rest out =
    let one : ◌≡◌ {A = ℕ} (cond lent.view.out 1 0) 1 = ap (λ (b : Bool). cond b 1 0) out in
    omega (arith, one, out_first (Helper lent) rest)

-- with no seat out all were taken back
pub all_gone : (counts : Counts) (others : List View) → AreLent counts others → count_by is_out (views_of others) ≡ 0
    → views_of others ≡ replicate (length others) returned
all_gone counts [] are none_out = refl
all_gone counts (Main main ∷ rest) are none_out = absurd are
all_gone counts (Gone ∷ rest) are none_out =
    let front : count_by is_out (views_of (Gone ∷ rest)) ≡ 0 + count_by is_out (views_of rest) = out_first Gone rest in
    ap (λ views. returned ∷ views) (all_gone counts rest are (omega (arith, front, none_out)))
all_gone counts (Helper lent ∷ rest) are none_out = absurd (omega (arith, one_out lent rest are.1, none_out))

-- and nothing is known to be seen
pub none_seen : (counts : Counts) (others : List View) (colours : List ℕ) → AreLent counts others
    → count_by is_out (views_of others) ≡ 0 → AreSeen colours others
none_seen counts [] colours are none_out = tt
none_seen counts (Main main ∷ rest) colours are none_out = absurd are
none_seen counts (Gone ∷ rest) colours are none_out =
    let front : count_by is_out (views_of (Gone ∷ rest)) ≡ 0 + count_by is_out (views_of rest) = out_first Gone rest in
    none_seen counts rest colours are (omega (arith, front, none_out))
none_seen counts (Helper lent ∷ rest) colours are none_out =
    absurd (omega (arith, one_out lent rest are.1, none_out))
