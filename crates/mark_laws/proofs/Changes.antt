-- Steps of changes that leave alone what the mutator was done with spare it at their moments.
use Rattle.std.proofs.Common.{ℕ, suc, ◌+◌, ◌≡◌, ◌≢◌, ◌∙◌, ◌⊎◌, inl, inr, true, false, List, [], ◌∷◌, min}
use Rattle.std.proofs.Common.{Contains, IsSomeAnd, get_or, length, slice_get, slice_set, Option, Some, None}
use Rattle.std.proofs.Common.{refl, sym, ap, subst, arith}
use Rattle.std.proofs.lemmas.List.Elements.{All-contains}
use Rattle.mark_laws.specs.Types.{Reading, Event, Actor, HelperView, MainView, World}
use Rattle.tagged_word.proofs.Cells.{some_same}
use Rattle.tagged_word.proofs.Members.{first_in, rest_in}
use Rattle.core_parts.specs.Lists.{joined}
use Rattle.mark_world.specs.declared.event.Event.TheVariants as event
use Rattle.mark_world.specs.Pages.{cell_at, is_head_of, is_inside, page_end}
use Rattle.mark_world.specs.Steps.{actor}
use Rattle.mark_world.specs.Conditions.{AreSureAfter, MayMain}
use Rattle.mark_world.specs.AfterEvents.{Possible, PossibleStep, WerePossible, after, after_helper, after_main}
use Rattle.mark_world.specs.AfterEvents.{after_return, after_step}
use Rattle.mark_world.specs.Coverage.{EachSlot, cell_of}
use Rattle.mark_world.specs.Unfinished.{Spares, made_after}
use Rattle.mark_laws.specs.Changes.{ApartIsSpared, LeavesDone, LiesApart, steps_of}
use Rattle.mark_laws.proofs.Cells.{layout_keeps}
use Rattle.mark_laws.proofs.Joins.{all_from, joins, some_and}
use Rattle.mark_laws.proofs.SamePages.{SamePages, helper_pages, same_cells}
use Rattle.mark_laws.proofs.Settling.{EachBut, each_but, each_but_more, store_cell}
use Rattle.mark_laws.proofs.SettlingSteps.{made_stays}
use Rattle.mark_laws.proofs.Slots.{each_slot, outside_no_head, slot_inside}
use Rattle.mark_laws.proofs.Stores.{in_cell}
use Rattle.mark_laws.proofs.Sureness.{helper_main}
use Rattle.mark_laws.proofs.ChangeSteps.{step_leaves}

-- a cell is read, and a word lies outside
abbrev IsBeside : World → ℕ → ℕ → Type 0
IsBeside world at a = IsSomeAnd (cell_of world a) (λ cell. is_inside a (Some cell) at ≡ false)

-- it is so later, if the cell reads alike
beside_later : (world later : World) (at a : ℕ)
    → ((cell : Reading) → cell_of world a ≡ Some cell → cell_of later a ≡ Some cell)
    → IsBeside world at a → IsBeside later at a
beside_later world later at a reads beside =
    let v = some_and (λ (cell : Reading). is_inside a (Some cell) at ≡ false) (cell_of world a) beside in
    subst (λ (o : Option Reading). IsSomeAnd o (λ cell. is_inside a (Some cell) at ≡ false)) (sym (reads v.0 v.1)) v.2

-- a word outside a cell is no head of it
beside_no_head : (world : World) (at a : ℕ) → IsBeside world at a → is_head_of a (cell_of world a) at ≡ false
beside_no_head world at a beside =
    let v = some_and (λ (cell : Reading). is_inside a (Some cell) at ≡ false) (cell_of world a) beside in
    subst (λ (o : Option Reading). is_head_of a o at ≡ false) (sym v.1) (outside_no_head a v.0 at v.2)

-- nor a slot
beside_no_slot : (world : World) (at a : ℕ) → IsBeside world at a → EachSlot world a (λ offset word. a + offset ≢ at)
beside_no_slot world at a beside =
    let v = some_and (λ (cell : Reading). is_inside a (Some cell) at ≡ false) (cell_of world a) beside in
    each_slot world a (λ offset word. a + offset ≢ at) (λ cell e offset c same.
    let inside = slot_inside world a cell offset e c in
    let is : is_inside a (Some cell) at ≡ true =
    in_cell a cell at (omega (arith, same)) (omega (arith, same, inside.1)) in
    let one : v.0 ≡ cell = some_same v.1 e in
    let both : true ≡ false = sym is ∙ ap (λ (r : Reading). is_inside a (Some r) at) (sym one) ∙ v.2 in
    absurd (cc))

-- an event that leaves alone what the mutator is done with spares it
leaves_spares : (world : World) (made : List ℕ) (of : Event) → LeavesDone world made of → Spares world made of
leaves_spares world made (event.StoreSlot at word) apart =
    each_but_more made world.main.mine (IsBeside world at) (λ a. is_head_of a (cell_of world a) at ≡ false)
    (beside_no_head world at) apart
leaves_spares world made (event.StoreOwned at word) apart = record {
  no_head = each_but_more made world.main.mine (IsBeside world at) (λ a. is_head_of a (cell_of world a) at ≡ false)
      (beside_no_head world at) apart;
  slot = inl (each_but_more made world.main.mine (IsBeside world at)
      (λ a. EachSlot world a (λ offset word. a + offset ≢ at)) (beside_no_slot world at) apart);
}
leaves_spares world made (event.StoreHeader at word) apart =
    each_but_more made world.main.mine (IsBeside world at)
    (λ a. ((a ≡ at) × AreSureAfter world.old world.words world.layouts world.main at word)
    ⊎ (is_head_of a (cell_of world a) at ≡ false))
    (λ a beside. inr (beside_no_head world at a beside)) apart
leaves_spares world made _ apart = tt

-- a cell that is read beside a word, and beside which another one is stored, is read beside the first still
store_apart : (world later : World) (made : List ℕ) (place word at : ℕ) → later.old ≡ world.old
    → later.words ≡ slice_set world.words place word → later.layouts ≡ world.layouts
    → later.main.mine ≡ world.main.mine → LiesApart world made place → LiesApart world made at
    → LiesApart later made at
store_apart world later made place word at old words layouts mine stores apart =
    subst (EachBut made (IsBeside later at)) (sym mine)
    (each_but made world.main.mine (IsBeside world at) (IsBeside world place) (IsBeside later at)
    (λ a beside other. beside_later world later at a
    (λ cell e. ap (λ o. cell_at o later.words later.layouts a) old
    ∙ ap (λ (ws : List ℕ). cell_at world.old ws later.layouts a) words
    ∙ ap (λ (ls : List ℕ). cell_at world.old (slice_set world.words place word) ls a) layouts
    ∙ store_cell world place word a cell (beside_no_head world place a other) e) beside)
    apart stores)

-- where the pages and what the mutator made black stay, a word lies apart still
pages_apart : (world later : World) (made : List ℕ) (at : ℕ) → SamePages world later
    → later.main.mine ≡ world.main.mine → LiesApart world made at → LiesApart later made at
pages_apart world later made at pages mine apart =
    subst (EachBut made (IsBeside later at)) (sym mine)
    (each_but_more made world.main.mine (IsBeside world at) (IsBeside later at)
    (λ a. beside_later world later at a (λ cell e. same_cells world later pages a ∙ e)) apart)

-- so it does after a step of the mutator
main_apart : (world : World) (made : List ℕ) (of : Event) (at : ℕ)
    → MayMain world.old world.words world.layouts world.main of → LeavesDone world made of → LiesApart world made at
    → LiesApart (after_main world of) (made_after made of) at
main_apart world made (event.StoreSlot place word) at may leaves apart =
    store_apart world (after_main world (event.StoreSlot place word)) made place word at refl refl refl refl leaves
    apart
main_apart world made (event.StoreOwned place word) at may leaves apart =
    store_apart world (after_main world (event.StoreOwned place word)) made place word at refl refl refl refl leaves
    apart
main_apart world made (event.StoreHeader place word) at may leaves apart =
    store_apart world (after_main world (event.StoreHeader place word)) made place word at refl refl refl refl leaves
    apart
main_apart world made (event.AddLayout shape word) at may leaves apart =
    let later : World = after_main world (event.AddLayout shape word) in
    each_but_more made world.main.mine (IsBeside world at) (IsBeside later at)
    (λ a. beside_later world later at a (λ cell e.
    layout_keeps world.words world.layouts a (min world.old (page_end a)) shape word cell may.unused e)) apart
main_apart world made (event.Blacken a) at may leaves apart =
    let later : World = after_main world (event.Blacken a) in
    let beside : ℕ → Type 0 = λ b. Contains made b ⊎ IsBeside later at b in
    all_from beside (joined world.main.mine a) (joins beside world.main.mine a apart (inl leaves))
main_apart world made (event.NewBlack a) at may leaves apart =
    let later : World = after_main world (event.NewBlack a) in
    let beside : ℕ → Type 0 = λ b. Contains (a ∷ made) b ⊎ IsBeside later at b in
    all_from beside (joined world.main.mine a) (joins beside world.main.mine a
    (all_from beside world.main.mine (λ b c. elim
    (All-contains (λ (x : ℕ). Contains made x ⊎ IsBeside world at x) world.main.mine b apart c) [
      | inl is_made ↦ inl (rest_in a made b is_made)
      | inr holds ↦ inr holds
    ]))
    (inl (first_in a made)))
main_apart world made of at may leaves apart =
    pages_apart world (after_main world of) made at record { old = refl; words = refl; layouts = refl } refl apart

-- and after a seat was taken back
return_apart : (world : World) (made : List ℕ) (number at : ℕ) (view : Option HelperView) → LiesApart world made at
    → LiesApart (after_return world number view) made at
return_apart world made number at None apart = apart
return_apart world made number at (Some view) apart =
    pages_apart world (after_return world number (Some view)) made at
    record { old = refl; words = refl; layouts = refl } refl apart

-- so it does after every step
step_apart : (world : World) (made : List ℕ) (of : Event) (by : Actor) (at : ℕ) → actor of ≡ by
    → PossibleStep world of by → LeavesDone world made of → LiesApart world made at
    → LiesApart (after_step world of by) (made_after made of) at
step_apart world made of Actor.Mutator at is may leaves apart = main_apart world made of at may leaves apart
step_apart world made of (Actor.Helper number) at is may leaves apart =
    let view : Option HelperView = slice_get world.helpers number in
    subst (λ (m : List ℕ). LiesApart (after_helper world number of view) m at)
    (sym (made_stays made of (Actor.Helper number) is (λ e. absurd (cc))))
    (pages_apart world (after_helper world number of view) made at (helper_pages world number of view)
    (ap (λ (main : MainView). main.mine) (helper_main world number of view)) apart)
step_apart world made of Actor.Lends at is may leaves apart =
    subst (λ (m : List ℕ). LiesApart (after_step world of Actor.Lends) m at)
    (sym (made_stays made of Actor.Lends is (λ e. absurd (cc))))
    (pages_apart world (after_step world of Actor.Lends) made at record { old = refl; words = refl; layouts = refl }
    refl apart)
step_apart world made of (Actor.Returns number) at is may leaves apart =
    let view : Option HelperView = slice_get world.helpers number in
    subst (λ (m : List ℕ). LiesApart (after_return world number view) m at)
    (sym (made_stays made of (Actor.Returns number) is (λ e. absurd (cc))))
    (return_apart world made number at view apart)

-- cells that are made stay among them
made_more : (made : List ℕ) (of : Event) (at : ℕ) → Contains made at → Contains (made_after made of) at
made_more made (event.NewBlack a) at is_made = rest_in a made at is_made
made_more made _ at is_made = is_made

-- what leaves alone what the mutator is done with does so after such an event
leaves_later : (world : World) (made : List ℕ) (first of : Event) → Possible world first
    → LeavesDone world made first → LeavesDone world made of
    → LeavesDone (after world first) (made_after made first) of
leaves_later world made first (event.StoreSlot at word) may leaves apart =
    step_apart world made first (actor first) at refl may leaves apart
leaves_later world made first (event.StoreOwned at word) may leaves apart =
    step_apart world made first (actor first) at refl may leaves apart
leaves_later world made first (event.StoreHeader at word) may leaves apart =
    step_apart world made first (actor first) at refl may leaves apart
leaves_later world made first (event.Blacken at) may leaves is_made = made_more made first at is_made
leaves_later world made first _ may leaves apart = tt

-- the next event is possible
first_possible : (world : World) (of : Event) (rest : List Event)
    → WerePossible world (of ∷ rest) (length (of ∷ rest)) → Possible world of
first_possible world of rest were = were 0 of (omega arith) refl

-- and those behind it at their moments
rest_possible : (world : World) (of : Event) (rest : List Event)
    → WerePossible world (of ∷ rest) (length (of ∷ rest)) → WerePossible (after world of) rest (length rest)
rest_possible world of rest were = λ k other below there. were (suc k) other (omega (arith, below)) there

-- each event that leaves alone what the mutator was done with at the start spares what it is done with at its moment
pub apart_is_spared : ApartIsSpared
apart_is_spared world made [] were leave = tt
apart_is_spared world made (of ∷ rest) were leave =
    let may = first_possible world of rest were in
    let both = step_leaves world made of rest leave in (
      may,
      leaves_spares world made of both.0,
      apart_is_spared (after world of) (made_after made of) rest (rest_possible world of rest were)
          (λ k d l. leaves_later world made of (get_or (steps_of rest) k d) may both.0 (both.1 k d l)),
    )
