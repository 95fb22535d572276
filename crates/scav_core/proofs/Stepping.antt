-- How a step is put together.
use Rattle.std.proofs.Common.{ℕ, suc, ◌+◌, ◌≡◌, Bool, true, false, not, cond, nat_lt, List, []}
use Rattle.std.proofs.Common.{◌∷◌, ◌++◌, take, drop}
use Rattle.std.proofs.Common.{slice_get, slice_set, Option, Some, None, length, ◌≤◌, inl, inr, if◌then◌else◌}
use Rattle.std.proofs.Common.{arith, refl, sym, ap, subst, ◌∙◌}
use Rattle.std.specs.List.{position, position_or_len}
use Rattle.std.proofs.lemmas.Bool.{cases_lt}
use Rattle.std.proofs.lemmas.List.Sums.{prefix_len-le-length}
use Rattle.core_parts.proofs.Tested.{nat_lt-yes}
use Rattle.scav_copy.specs.declared.places.Home.{Home}
use Rattle.scav_copy.specs.Copies.{with_home}
use Rattle.scav_core.specs.declared.event.Event.{Event}
use Rattle.scav_core.specs.declared.step.Touch.{Touch}
use Rattle.scav_core.specs.declared.workers.WorkerView.{WorkerView}
use Rattle.scav_core.specs.declared.world.World.{World}
use Rattle.scav_core.specs.Views.{touched, word_after, home_made, view_after}
use Rattle.scav_core.specs.Steps.{word_found, words_after, board_after, homes_after, stepped_by}

-- whether the home is of a later cell
abbrev later : ℕ → Home → Bool
later from home = nat_lt from home.from

-- where a new home stands among a first one and the rest
abbrev placed : List Home → Home → ℕ → List Home
placed homes new at = take at homes ++ new ∷ drop at homes

-- a new home joins before the first one of a later cell
pub joined_at : (homes : List Home) (new : Home)
    → with_home homes new ≡ placed homes new (position_or_len (later new.from) homes)
joined_at [] new = refl
joined_at (home ∷ homes) new =
    let n : ℕ = position_or_len (later new.from) homes in
    let next : 1 + n ≡ suc n = omega arith in
    elim (nat_lt new.from home.from) as (λ b. (if b then new ∷ (home ∷ homes) else home ∷ with_home homes new)
    ≡ placed (home ∷ homes) new (cond (not b) (1 + n) 0)) [
      | true ↦ refl
      | false ↦ subst (λ (k : ℕ). home ∷ with_home homes new ≡ placed (home ∷ homes) new k) (sym next)
          (ap (λ (all : List Home). home ∷ all) (joined_at homes new))
    ]

-- a world by its changed parts
abbrev changed : World → List ℕ → List Home → List ℕ → List WorkerView → World
changed world words homes board workers =
    record world { words = words; homes = homes; board = board; workers = workers }

-- the world that the parts of a step make is the world after it
pub stepped_made : (world : World) (worker : ℕ) (event : Event) (view : WorkerView) (touch : Touch) (found word : ℕ)
    (made : Option Home) (words board : List ℕ) (homes : List Home) (workers : List WorkerView)
    → slice_get world.workers worker ≡ Some view → touch ≡ touched view event → found ≡ word_found world touch
    → word ≡ word_after view event found → made ≡ home_made view event found
    → words ≡ words_after world.words touch word → board ≡ board_after world.board touch word
    → homes ≡ homes_after world.homes made
    → workers ≡ slice_set world.workers worker (view_after world.cells view event found)
    → changed world words homes board workers ≡ stepped_by world worker event (slice_get world.workers worker)
stepped_made world worker event view touch found word made words board homes workers is e1 e2 e3 e4 e5 e6 e7 e8 =
    let word_is : word ≡ word_after view event (word_found world (touched view event)) =
    e3 ∙ ap (λ (f : ℕ). word_after view event f) (e2 ∙ ap (word_found world) e1) in
    let found_is : found ≡ word_found world (touched view event) = e2 ∙ ap (word_found world) e1 in
    let made_is = e4 ∙ ap (λ (f : ℕ). home_made view event f) found_is in
    let words_are = e5 ∙ ap (λ (t : Touch). words_after world.words t word) e1
    ∙ ap (words_after world.words (touched view event)) word_is in
    let board_is = e6 ∙ ap (λ (t : Touch). board_after world.board t word) e1
    ∙ ap (board_after world.board (touched view event)) word_is in
    let homes_are = e7 ∙ ap (homes_after world.homes) made_is in
    let workers_are = e8
    ∙ ap (λ (f : ℕ). slice_set world.workers worker (view_after world.cells view event f)) found_is in
    let f = word_found world (touched view event) in
    let w = words_after world.words (touched view event) (word_after view event f) in
    let h = homes_after world.homes (home_made view event f) in
    let b = board_after world.board (touched view event) (word_after view event f) in
    ap (λ (x : List ℕ). changed world x homes board workers) words_are
    ∙ ap (λ (x : List Home). changed world w x board workers) homes_are
    ∙ ap (λ (x : List ℕ). changed world w h x workers) board_is
    ∙ ap (λ (x : List WorkerView). changed world w h b x) workers_are
    ∙ ap (stepped_by world worker event) (sym is)

-- an option that holds a value is not empty
none_some : {X : Type 0} {o : Option X} {x : X} → o ≡ Some x → o ≡ None → ⊥
none_some e f = cc

-- a value that a test lets pass is that value
cond_some : (b : Bool) (n at : ℕ) → cond b (Some n) None ≡ Some at → at ≡ n
cond_some true n at e = cc
cond_some false n at e = cc

-- where no home is of a later cell, the place is behind the last
pub none_later : (homes : List Home) (from : ℕ) → position (later from) homes ≡ None
    → length homes ≡ position_or_len (later from) homes
none_later homes from e =
    let n : ℕ = position_or_len (later from) homes in
    let most : n ≤ length homes = prefix_len-le-length (λ home. not (later from home)) homes in
    let past : length homes ≤ n = elim (cases_lt n (length homes)) [
      | inl less ↦ absurd (none_some (ap (λ (b : Bool). cond b (Some n) None) (nat_lt-yes n (length homes) less)) e)
      | inr more ↦ more
    ] in
    omega (arith, most, past)

-- the first that is found is the place
pub first_is_place : (homes : List Home) (from at : ℕ) → position (later from) homes ≡ Some at
    → at ≡ position_or_len (later from) homes
first_is_place homes from at e =
    cond_some (nat_lt (position_or_len (later from) homes) (length homes)) (position_or_len (later from) homes) at e

-- the place is one in the list or behind it
pub place_within : (homes : List Home) (new : Home) (at : ℕ) → at ≡ position_or_len (later new.from) homes
    → at ≤ length homes
place_within homes new at e =
    let most : position_or_len (later new.from) homes ≤ length homes =
    prefix_len-le-length (λ home. not (later new.from home)) homes in
    omega (arith, e, most)

-- the home that was made has joined
pub home_joined : (homes : List Home) (made : Option Home) (new : Home) (at : ℕ) (all : List Home) → made ≡ Some new
    → at ≡ position_or_len (later new.from) homes → all ≡ take at homes ++ new ∷ drop at homes
    → all ≡ homes_after homes made
home_joined homes made new at all is place e =
    e ∙ ap (placed homes new) place ∙ sym (joined_at homes new) ∙ ap (homes_after homes) (sym is)
