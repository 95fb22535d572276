-- The mutator's part stays under way but for some cells, event by event.
use Rattle.std.proofs.Common.{ℕ, ◌+◌, ◌≡◌, ◌≢◌, ◌==◌, ◌⊎◌, inl, inr, Bool, true, false, IsTrue, List, []}
use Rattle.std.proofs.Common.{◌∷◌, min, if◌then◌else◌, slice_index, Option, Some, None}
use Rattle.std.proofs.Common.{Contains, IfSome, slice_get, refl, sym, ap, subst}
use Rattle.std.proofs.lemmas.List.Elements.{All-contains}
use Rattle.mark_laws.specs.Types.{Reading, Event, Actor, HelperView, MainView, World}
use Rattle.tagged_word.proofs.Members.{first_in, in_map, rest_in}
use Rattle.core_parts.specs.Lists.{joined}
use Rattle.core_parts.proofs.Joining.{joined_in, joined_keeps}
use Rattle.core_parts.proofs.Leaving.{left_keeps}
use Rattle.mark_world.specs.declared.event.Event.TheVariants as event
use Rattle.mark_world.specs.Pages.{is_free, is_head_of, page_end, slots_of, target}
use Rattle.mark_world.specs.Steps.{actor, black, free_slot_words, words_in_slots}
use Rattle.mark_world.specs.Conditions.{AreSureAfter, MayAddLayout, MayMain, MayStoreHeader}
use Rattle.mark_world.specs.AfterEvents.{after, after_helper, after_main, after_return, after_step, Possible}
use Rattle.mark_world.specs.AfterEvents.{PossibleStep}
use Rattle.mark_world.specs.Coverage.{EachSlot, cell_of}
use Rattle.mark_world.specs.Soundness.{HasCells}
use Rattle.mark_world.specs.Unfinished.{HasSureOrOwed, IsNoHead, IsSureOrOwed, ReadsSlots, SettlingBut}
use Rattle.mark_world.specs.Unfinished.{Spares, SparesHeader, SparesOwned, made_after}
use Rattle.mark_laws.specs.Cells.{Widens}
use Rattle.mark_laws.proofs.Cells.{layout_keeps}
use Rattle.mark_laws.proofs.Coverage.{black_keeps}
use Rattle.mark_laws.proofs.Joins.{all_from, all_keep, joined_by_keeps, joins, of_slot, some_and, targets_keep}
use Rattle.mark_laws.proofs.Joins.{targets_there}
use Rattle.mark_laws.proofs.Laid.{laid_from, safe_from}
use Rattle.mark_laws.proofs.Listing.{some_weaker}
use Rattle.mark_laws.proofs.SafeChanges.{header_widens}
use Rattle.mark_laws.proofs.SamePages.{helper_pages}
use Rattle.mark_laws.proofs.Slots.{some_from}
use Rattle.mark_laws.proofs.Starts.{free_or_mine, value_of}
use Rattle.mark_laws.proofs.StoredSlots.{owed_target}
use Rattle.mark_laws.proofs.Stores.{changed_header_slot, header_slot_word}
use Rattle.mark_laws.proofs.Sureness.{helper_main}
use Rattle.mark_laws.proofs.Waiting.{one_or_other}
use Rattle.mark_laws.proofs.Settling.{KeepsPromises, carry, each_but, each_but_more, header_no_target}
use Rattle.mark_laws.proofs.Settling.{pages_settle, reads_slots}
use Rattle.mark_laws.proofs.Settling.{same_keeps, store_carries, word_keeps}

-- a word goes into a slot: its target is owed
store_slot_settles : (world : World) (made : List ℕ) (at word : ℕ) → SettlingBut world made → IsNoHead world made at
    → SettlingBut (after_main world (event.StoreSlot at word)) made
store_slot_settles world made at word has apart =
    let later : World = after_main world (event.StoreSlot at word) in
    let keeps : KeepsPromises world later = λ to p. elim p [
      | inl is_sure ↦ inl is_sure
      | inr owed ↦ inr (joined_by_keeps world.main.owed (target world.old word) to owed)
    ] in
    each_but made world.main.mine (ReadsSlots world (HasSureOrOwed world))
    (λ a. is_head_of a (cell_of world a) at ≡ false) (ReadsSlots later (HasSureOrOwed later))
    (λ a done no_head. store_carries world later at word a refl refl refl keeps
    (λ cell e offset c is. some_weaker (Contains later.main.owed) (IsSureOrOwed later) (target world.old word)
    (λ to owed. inr owed) (owed_target world.main.owed (target world.old word)))
    no_head done)
    has apart

-- a word goes where no helper visits, and not into a slot of a cell that is done, or its target is sure or owed
store_owned_settles : (world : World) (made : List ℕ) (at word : ℕ) → SettlingBut world made
    → SparesOwned world made at word → SettlingBut (after_main world (event.StoreOwned at word)) made
store_owned_settles world made at word has spares =
    let later : World = after_main world (event.StoreOwned at word) in
    let keeps : KeepsPromises world later = λ to p. p in
    elim spares.slot [
      | inl no_slot ↦ each_but made world.main.mine
          (λ a. ReadsSlots world (HasSureOrOwed world) a × (is_head_of a (cell_of world a) at ≡ false))
          (λ a. EachSlot world a (λ offset word. a + offset ≢ at)) (ReadsSlots later (HasSureOrOwed later))
          (λ a done apart. store_carries world later at word a refl refl refl keeps
          (λ cell e offset c is. absurd (of_slot world a offset cell (λ o w. a + o ≢ at) e c apart is))
          done.1 done.0)
          (each_but made world.main.mine (ReadsSlots world (HasSureOrOwed world))
          (λ a. is_head_of a (cell_of world a) at ≡ false)
          (λ a. ReadsSlots world (HasSureOrOwed world) a × (is_head_of a (cell_of world a) at ≡ false))
          (λ a done apart. (done, apart)) has spares.no_head)
          no_slot
      | inr word_has ↦ each_but made world.main.mine (ReadsSlots world (HasSureOrOwed world))
          (λ a. is_head_of a (cell_of world a) at ≡ false) (ReadsSlots later (HasSureOrOwed later))
          (λ a done no_head. store_carries world later at word a refl refl refl keeps
          (λ cell e offset c is. word_has) no_head done)
          has spares.no_head
    ]

-- a slot of a cell whose header changes was one before, or has a sure target
own_header_slot : (world : World) (at word : ℕ) (cell now : Reading)
    → MayStoreHeader world.old world.words world.layouts world.main at word
    → AreSureAfter world.old world.words world.layouts world.main at word
    → EachSlot world at (λ o. HasSureOrOwed world)
    → cell_of world at ≡ Some cell → cell_of (after_main world (event.StoreHeader at word)) at ≡ Some now
    → (offset : ℕ) → Contains (slots_of now) offset
    → HasSureOrOwed world (slice_index world.words (at + offset))
own_header_slot world at word cell now may are_sure slots e f offset c =
    elim (changed_header_slot world at word world.main.owed cell now offset may.safe are_sure e f c) [
      | inl before ↦ of_slot world at offset cell (λ o. HasSureOrOwed world) e before slots
      | inr is_sure ↦ some_weaker (Contains world.main.sure) (IsSureOrOwed world)
          (target world.old (slice_index world.words (at + offset))) (λ to is. inl is) is_sure
    ]

-- the header of a cell that is done changes
own_header : (world : World) (at word : ℕ) → MayStoreHeader world.old world.words world.layouts world.main at word
    → AreSureAfter world.old world.words world.layouts world.main at word
    → ReadsSlots world (HasSureOrOwed world) at
    → ReadsSlots (after_main world (event.StoreHeader at word))
    (HasSureOrOwed (after_main world (event.StoreHeader at word))) at
own_header world at word may are_sure has =
    let later : World = after_main world (event.StoreHeader at word) in
    let v = value_of (cell_of world at) has.reads in
    let w = some_and (Widens v.0) (cell_of later at) (header_widens world at word v.0 v.1 may.safe) in
    reads_slots later (HasSureOrOwed later) at w.0 w.1
    (λ offset c. same_keeps world later (slice_index later.words (at + offset)) (slice_index world.words (at + offset))
    (header_slot_word world at word world.main.owed w.0 offset w.1 c) refl (λ to p. p)
    (own_header_slot world at word v.0 w.0 may are_sure has.slots v.1 w.1 offset c))

-- a header goes into no head of a cell that is done, or is that of one, and has sure new targets
store_header_settles : (world : World) (made : List ℕ) (at word : ℕ) → SettlingBut world made
    → MayStoreHeader world.old world.words world.layouts world.main at word → SparesHeader world made at word
    → SettlingBut (after_main world (event.StoreHeader at word)) made
store_header_settles world made at word has may spares =
    let later : World = after_main world (event.StoreHeader at word) in
    let safe = safe_from world.layouts (slice_index world.words at) word may.safe in
    let none : target world.old word ≡ None =
    header_no_target world.old word safe.new.header (laid_from world.layouts word safe.new safe.is).0 in
    each_but made world.main.mine (ReadsSlots world (HasSureOrOwed world))
    (λ a. ((a ≡ at) × AreSureAfter world.old world.words world.layouts world.main at word)
    ⊎ (is_head_of a (cell_of world a) at ≡ false)) (ReadsSlots later (HasSureOrOwed later))
    (λ a done met. elim met [
      | inl own ↦ subst (ReadsSlots later (HasSureOrOwed later)) (sym own.0)
          (own_header world at word may own.1 (subst (ReadsSlots world (HasSureOrOwed world)) own.0 done))
      | inr no_head ↦ store_carries world later at word a refl refl refl (λ to p. p)
          (λ cell e offset c is. subst (λ (o : Option ℕ). IfSome o (IsSureOrOwed later)) (sym none) tt) no_head done
    ])
    has spares

-- a layout word comes where 0 stands
layout_settles : (world : World) (made : List ℕ) (shape word : ℕ) → SettlingBut world made
    → MayAddLayout world.layouts shape word → SettlingBut (after_main world (event.AddLayout shape word)) made
layout_settles world made shape word has may =
    let later : World = after_main world (event.AddLayout shape word) in
    each_but_more made world.main.mine (ReadsSlots world (HasSureOrOwed world))
    (ReadsSlots later (HasSureOrOwed later))
    (λ a. carry world later a
    (λ cell e. layout_keeps world.words world.layouts a (min world.old (page_end a)) shape word cell may.unused e)
    (λ cell e offset c w. w)) has

-- a cell is shaded: it leaves what is owed, and is sure
pub shade_settles : (world : World) (made : List ℕ) (at : ℕ) → SettlingBut world made
    → SettlingBut (after_main world (event.ShadeMain at)) made
shade_settles world made at =
    pages_settle world (after_main world (event.ShadeMain at)) made record { old = refl; words = refl; layouts = refl }
    refl
    (λ to p. elim p [
      | inl is_sure ↦ inl (joined_keeps world.main.sure at to is_sure)
      | inr owed ↦ elim (one_or_other to at) [
        | inl same ↦ inl (subst (Contains (joined world.main.sure at)) (sym same) (joined_in world.main.sure at))
        | inr other ↦ inr (left_keeps world.main.owed at to other owed)
      ]
    ])

-- what the mutator is sure of or owes once a cell is black
pub black_promises : (world : World) (at : ℕ) → KeepsPromises world (after_main world (event.Blacken at))
black_promises world at to p =
    let words : List ℕ = free_slot_words world.old world.words world.layouts world.main at in
    elim p [
      | inl is_sure ↦ inl (targets_keep world.old world.main.sure words to is_sure)
      | inr owed ↦ inr (black_keeps world.old world.main.owed words (slice_index world.colours at == black) to owed)
    ]

-- the words of a free start's tagged slots
free_words : (world : World) (at : ℕ) (cell : Reading) → IsTrue (is_free world.main at)
    → cell_of world at ≡ Some cell → (offset : ℕ)
    → Contains (slots_of cell) offset
    → Contains (free_slot_words world.old world.words world.layouts world.main at)
    (slice_index world.words (at + offset))
free_words world at cell free e offset c =
    let free_is : is_free world.main at ≡ true = free in
    let word : ℕ = slice_index world.words (at + offset) in
    subst (λ (b : Bool). Contains (if b then words_in_slots world.words at (cell_of world at) else []) word)
    (sym free_is)
    (subst (λ (o : Option Reading). Contains (words_in_slots world.words at o) word) (sym e)
    (in_map (λ (o : ℕ). slice_index world.words (at + o)) (slots_of cell) offset c))

-- a free start that turns black is done, since the mutator is sure of the targets of its slots
black_done : (world : World) (at : ℕ) → HasCells world → IsTrue (is_free world.main at)
    → ReadsSlots (after_main world (event.Blacken at)) (HasSureOrOwed (after_main world (event.Blacken at))) at
black_done world at cells free =
    let later : World = after_main world (event.Blacken at) in
    let words : List ℕ = free_slot_words world.old world.words world.layouts world.main at in
    let v = value_of (cell_of world at) (cells.read at free) in
    reads_slots later (HasSureOrOwed later) at v.0 v.1 (λ offset c.
    some_from (IsSureOrOwed later) (target world.old (slice_index world.words (at + offset))) (λ to refers.
    inl (targets_there world.old world.main.sure words (slice_index world.words (at + offset)) to
    (free_words world at v.0 free v.1 offset c) refers)))

-- a cell turns black
blacken_settles : (world : World) (made : List ℕ) (at : ℕ) → HasCells world → SettlingBut world made
    → Contains world.main.born at → SettlingBut (after_main world (event.Blacken at)) made
blacken_settles world made at cells has is_born =
    let later : World = after_main world (event.Blacken at) in
    let done : ℕ → Type 0 = λ a. Contains made a ⊎ ReadsSlots later (HasSureOrOwed later) a in
    let start : Contains world.main.starts at =
    All-contains (Contains world.main.starts) world.main.born at cells.born is_born in
    let each = each_but_more made world.main.mine (ReadsSlots world (HasSureOrOwed world))
    (ReadsSlots later (HasSureOrOwed later))
    (λ a. carry world later a (λ cell e. e)
    (λ cell e offset c. word_keeps world later (slice_index world.words (a + offset)) refl (black_promises world at)))
    has in
    all_from done (joined world.main.mine at) (joins done world.main.mine at each
    (elim (free_or_mine world at start) [
      | inl free ↦ inr (black_done world at cells free)
      | inr mine ↦ All-contains done world.main.mine at each mine
    ]))

-- a new black cell joins those that the mutator is making
new_settles : (world : World) (made : List ℕ) (at : ℕ) → SettlingBut world made
    → SettlingBut (after_main world (event.NewBlack at)) (at ∷ made)
new_settles world made at has =
    let later : World = after_main world (event.NewBlack at) in
    let done : ℕ → Type 0 = λ a. Contains (at ∷ made) a ⊎ ReadsSlots later (HasSureOrOwed later) a in
    let same : ℕ → Type 0 = λ a. Contains made a ⊎ ReadsSlots world (HasSureOrOwed world) a in
    all_from done (joined world.main.mine at) (joins done world.main.mine at
    (all_from done world.main.mine (λ a c. elim (All-contains same world.main.mine a has c) [
      | inl is_made ↦ inl (rest_in at made a is_made)
      | inr is_done ↦ inr (record { reads = is_done.reads; slots = is_done.slots })
    ]))
    (inl (first_in at made)))

-- a step of the mutator
main_settles : (world : World) (made : List ℕ) (of : Event) → HasCells world → SettlingBut world made
    → MayMain world.old world.words world.layouts world.main of → Spares world made of
    → SettlingBut (after_main world of) (made_after made of)
main_settles world made (event.StoreSlot at word) cells has may spares =
    store_slot_settles world made at word has spares
main_settles world made (event.StoreOwned at word) cells has may spares =
    store_owned_settles world made at word has spares
main_settles world made (event.StoreHeader at word) cells has may spares =
    store_header_settles world made at word has may spares
main_settles world made (event.AddLayout shape word) cells has may spares = layout_settles world made shape word has may
main_settles world made (event.ShadeMain at) cells has may spares = shade_settles world made at has
main_settles world made (event.Blacken at) cells has may spares = blacken_settles world made at cells has may
main_settles world made (event.NewBlack at) cells has may spares = new_settles world made at has
main_settles world made of cells has may spares =
    pages_settle world (after_main world of) made record { old = refl; words = refl; layouts = refl } refl (λ to p. p)
    has

-- a seat is taken back: what its helper was to visit is owed
return_settles : (world : World) (made : List ℕ) (number : ℕ) (view : Option HelperView) → SettlingBut world made
    → SettlingBut (after_return world number view) made
return_settles world made number None has = has
return_settles world made number (Some view) has =
    pages_settle world (after_return world number (Some view)) made record { old = refl; words = refl; layouts = refl }
    refl
    (λ to p. elim p [ inl is_sure ↦ inl is_sure | inr owed ↦ inr (all_keep world.main.owed view.visit to owed) ])
    has

-- a step of a helper leaves what the mutator is sure of and owes
pub helper_promises : (world : World) (number : ℕ) (of : Event) (view : Option HelperView)
    → KeepsPromises world (after_helper world number of view)
helper_promises world number of view to p =
    subst (λ (main : MainView). Contains main.sure to ⊎ Contains main.owed to)
    (sym (helper_main world number of view)) p

-- only the mutator's steps add to the cells that it is making
pub made_stays : (made : List ℕ) (of : Event) (by : Actor) → actor of ≡ by → (by ≡ Actor.Mutator → ⊥)
    → made_after made of ≡ made
made_stays made (event.NewBlack at) by is other = absurd (other (sym is))
made_stays made _ by is other = refl

-- every step
step_settles : (world : World) (made : List ℕ) (of : Event) (by : Actor) → actor of ≡ by → HasCells world
    → SettlingBut world made → PossibleStep world of by → Spares world made of
    → SettlingBut (after_step world of by) (made_after made of)
step_settles world made of Actor.Mutator is cells has may spares = main_settles world made of cells has may spares
step_settles world made of (Actor.Helper number) is cells has may spares =
    let view : Option HelperView = slice_get world.helpers number in
    subst (SettlingBut (after_helper world number of view))
    (sym (made_stays made of (Actor.Helper number) is (λ e. absurd (cc))))
    (pages_settle world (after_helper world number of view) made (helper_pages world number of view)
    (ap (λ (main : MainView). main.mine) (helper_main world number of view)) (helper_promises world number of view) has)
step_settles world made of Actor.Lends is cells has may spares =
    subst (SettlingBut (after_step world of Actor.Lends))
    (sym (made_stays made of Actor.Lends is (λ e. absurd (cc))))
    (pages_settle world (after_step world of Actor.Lends) made record { old = refl; words = refl; layouts = refl } refl
    (λ to p. p) has)
step_settles world made of (Actor.Returns number) is cells has may spares =
    let view : Option HelperView = slice_get world.helpers number in
    subst (SettlingBut (after_return world number view))
    (sym (made_stays made of (Actor.Returns number) is (λ e. absurd (cc))))
    (return_settles world made number view has)

-- each possible event that spares the cells that are done leaves the mutator's part under way but for the others
pub settling_stays : (world : World) (made : List ℕ) (of : Event) → HasCells world → SettlingBut world made
    → Possible world of → Spares world made of → SettlingBut (after world of) (made_after made of)
settling_stays world made of = step_settles world made of (actor of) refl
