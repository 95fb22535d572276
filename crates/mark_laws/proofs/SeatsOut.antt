-- How many seats are out after each event.
use Rattle.std.proofs.Common.{ℕ, ◌+◌, ◌<◌, ◌≤◌, ◌≡◌, ◌↔◌, Bool, true, false, IsTrue, List, [], ◌∷◌, length}
use Rattle.std.proofs.Common.{Option, Some, None, All, cond, get_or, slice_get, slice_set, refl, sym, ap, subst, arith}
use Rattle.std.proofs.lemmas.List.Sums.{get_or-le-sum_by, sum_by-cons, sum_by-set, sum_by_push}
use Rattle.std.proofs.lemmas.Option.{slice_get-get_or, slice_get_within}
use Rattle.std.proofs.lemmas.List.Elements.{All-head, All-tail}
use Rattle.std.specs.List.{count_by}
use Rattle.tagged_word.proofs.Cells.{some_same}
use Rattle.mark_laws.specs.Types.{Event, Actor, Snap, HelperView, World}
use Rattle.mark_world.specs.declared.event.Event.TheVariants as event
use Rattle.mark_world.specs.Steps.{actor, becomes, helper_learns, helper_spot, lent, main_spot, returned, snap_settled}
use Rattle.mark_world.specs.AfterEvents.{after, after_helper, after_main, after_return, after_step, word_at}
use Rattle.mark_world.specs.AfterEvents.{seats_out, Possible}
use Rattle.mark_laws.specs.Growing.{MovesSeat}
use Rattle.mark_laws.specs.Runs.{HasNoneOut}
use Rattle.mark_laws.proofs.Coverage.{with_word_views}
use Rattle.mark_laws.proofs.Joins.{some_and}

-- what a view counts for
abbrev counts : HelperView → ℕ
counts view = cond view.out 1 0

-- how many of these views are out
abbrev out_count : List HelperView → ℕ
out_count views = count_by (λ view. view.out) views

-- one seat more is out once one was lent
pub lend_counts : (world : World) → seats_out (after world event.Lend) ≡ seats_out world + 1
lend_counts world = sum_by_push counts world.helpers lent

-- the view that there is at a number
view_there : (views : List HelperView) (number : ℕ) (view : HelperView) → slice_get views number ≡ Some view
    → (number < length views) × (get_or views number view ≡ view)
view_there views number view there =
    let within : number < length views = slice_get_within views number view there in
    (within, some_same (slice_get-get_or views number view within) there)

-- a view that takes another's place counts in its stead
put_counts : (views : List HelperView) (number : ℕ) (view put : HelperView) → slice_get views number ≡ Some view
    → out_count (slice_set views number put) + counts view ≡ out_count views + counts put
put_counts views number view put there =
    let v = view_there views number view there in
    subst (λ (w : HelperView). out_count (slice_set views number put) + counts w ≡ out_count views + counts put) v.1
    (sum_by-set counts views number put view v.0)

-- a seat that is out counts for one
one_out : (view : HelperView) → IsTrue view.out → counts view ≡ 1
one_out view out = let t : view.out ≡ true = out in ap (λ b. cond b 1 0) t

-- a seat that was out, and is taken back
returned_counts : (world : World) (number : ℕ) (view : HelperView) → slice_get world.helpers number ≡ Some view
    → IsTrue view.out → seats_out (after_return world number (Some view)) + 1 ≡ seats_out world
returned_counts world number view there out =
    let put = put_counts world.helpers number view returned there in
    let one : counts view ≡ 1 = one_out view out in
    omega (arith, put, one)

-- one seat fewer is out once one that was out was taken back
pub return_counts : (world : World) (number : ℕ) → Possible world (event.Return number)
    → seats_out (after world (event.Return number)) + 1 ≡ seats_out world
return_counts world number may =
    let v = some_and (λ (view : HelperView). IsTrue view.out) (slice_get world.helpers number) may in
    subst (λ (view : Option HelperView). seats_out (after_return world number view) + 1 ≡ seats_out world) (sym v.1)
    (returned_counts world number v.0 v.1 v.2)

-- a helper whose snap ends is out as before
settled_out : (old : ℕ) (view : HelperView) (found : ℕ) (snap : Option Snap)
    → (snap_settled old view found snap).out ≡ view.out
settled_out old view found None = refl
settled_out old view found (Some snap) = refl

-- a helper is out as before after a step of its own
learns_out : (old : ℕ) (view : HelperView) (of : Event) (found : ℕ) → (helper_learns old view of found).out ≡ view.out
learns_out old view (event.Settle number) found = settled_out old view found view.snap
learns_out old view _ found = refl

-- as many seats are out after a step of a helper
helper_counts : (world : World) (number : ℕ) (of : Event) (view : Option HelperView)
    → slice_get world.helpers number ≡ view → seats_out (after_helper world number of view) ≡ seats_out world
helper_counts world number of None there = refl
helper_counts world number of (Some view) there =
    let found : ℕ = word_at world (helper_spot view of) in
    let learned : HelperView = helper_learns world.old view of found in
    let put = put_counts world.helpers number view learned there in
    let same : counts learned ≡ counts view = ap (λ b. cond b 1 0) (learns_out world.old view of found) in
    omega (arith, put, same)

-- and after one of the mutator
main_counts : (world : World) (of : Event) → seats_out (after_main world of) ≡ seats_out world
main_counts world of =
    ap out_count (with_word_views world (main_spot of) (becomes of (word_at world (main_spot of))))

-- an event of a helper, or of the mutator, moves no seat
step_counts : (world : World) (of : Event) (by : Actor) → actor of ≡ by → (MovesSeat of → ⊥)
    → seats_out (after_step world of by) ≡ seats_out world
step_counts world of Actor.Mutator is stays = main_counts world of
step_counts world of (Actor.Helper number) is stays =
    helper_counts world number of (slice_get world.helpers number) refl
step_counts world event.Lend Actor.Lends is stays = absurd (stays tt)
step_counts world (event.Return number) (Actor.Returns k) is stays = absurd (stays tt)
step_counts world event.Look Actor.Lends is stays = cc
step_counts world of by is stays = cc

-- after every other event as many seats are out
pub others_keep_count : (world : World) (of : Event) → (MovesSeat of → ⊥) → seats_out (after world of) ≡ seats_out world
others_keep_count world of = step_counts world of (actor of) refl

-- a view that counts for nothing is not out
not_out : (out : Bool) → cond out 1 0 ≤ 0 → out ≡ false
not_out true l = absurd (omega (arith, l))
not_out false l = refl

-- where no seat is counted, none is out
zero_none : (world : World) → seats_out world ≡ 0 → HasNoneOut world
zero_none world none = λ k d l.
    let most : counts (get_or world.helpers k d) ≤ seats_out world = get_or-le-sum_by counts world.helpers k d l in
    not_out (get_or world.helpers k d).out (omega (arith, most, none))

-- views of which none is out count for nothing
none_zero : (views : List HelperView) → All (λ view. view.out ≡ false) views → out_count views ≡ 0
none_zero [] none = refl
none_zero (view ∷ rest) none =
    let front : out_count (view ∷ rest) ≡ counts view + out_count rest = sum_by-cons counts view rest in
    let here : view.out ≡ false = All-head (λ (v : HelperView). v.out ≡ false) view rest none in
    let zero_here : counts view ≡ 0 = ap (λ b. cond b 1 0) here in
    let zero_rest : out_count rest ≡ 0 = none_zero rest (All-tail (λ (v : HelperView). v.out ≡ false) view rest none) in
    omega (arith, front, zero_here, zero_rest)

-- no seat is counted exactly where none is out
pub none_is_zero : (world : World) → (seats_out world ≡ 0) ↔ HasNoneOut world
none_is_zero world = (zero_none world, none_zero world.helpers)
