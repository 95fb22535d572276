-- The mutator's part is done but for some cells: once nothing is owed, and once what is owed is shaded.
use Rattle.std.proofs.Common.{ℕ, ◌+◌, ◌≡◌, ◌↔◌, ◌∙◌, ◌⊎◌, inl, inr, List, [], ◌∷◌}
use Rattle.std.proofs.Common.{Contains, IsSome, length, slice_index, refl, sym, ap, subst}
use Rattle.std.proofs.Common.{arith, slice_get}
use Rattle.std.proofs.lemmas.List.Elements.{All-contains}
use Rattle.tagged_word.proofs.Members.{first_in, in_cases}
use Rattle.core_parts.specs.Lists.{left}
use Rattle.core_parts.proofs.Leaving.{left_from, left_out}
use Rattle.mark_laws.specs.Types.{Event, Actor, MainView, World}
use Rattle.mark_world.specs.declared.event.Event.TheVariants as event
use Rattle.mark_world.specs.Pages.{target}
use Rattle.mark_world.specs.Steps.{actor}
use Rattle.mark_world.specs.AfterEvents.{after, after_all, after_main, after_step, Possible}
use Rattle.mark_world.specs.Coverage.{EachSlot, cell_of}
use Rattle.mark_world.specs.Soundness.{AreIn, HasCells}
use Rattle.mark_world.specs.BetweenCommands.{HasSureTarget, Settled}
use Rattle.mark_world.specs.Unfinished.{HasSureOrOwed, IsSureOrOwed, MayOwe, MineAreRead, ReadsSlots, SettledBut}
use Rattle.mark_world.specs.Unfinished.{SettlingBut, Spares, made_after, shades}
use Rattle.mark_laws.proofs.Joins.{all_from, of_slot}
use Rattle.mark_laws.proofs.Listing.{some_weaker}
use Rattle.mark_laws.proofs.Sureness.{helper_main}
use Rattle.mark_laws.proofs.Starts.{value_of}
use Rattle.mark_laws.proofs.Settling.{EachBut, each_but_more, reads_slots}
use Rattle.mark_laws.proofs.SettlingSteps.{settling_stays, shade_settles}

-- an empty list has no member
in_none : (list : List ℕ) (at : ℕ) → list ≡ [] → Contains list at → ⊥
in_none list at e c = omega (arith, ap length e, c.1)

-- a list without a member is empty
none_is_empty : (list : List ℕ) → ((at : ℕ) → Contains list at → ⊥) → list ≡ []
none_is_empty [] out = refl
none_is_empty (at ∷ rest) out = absurd (out at (first_in at rest))

-- a cell with words for its slots has them for something weaker too
pub reads_weaker : (world : World) (P Q : ℕ → Type 0) (at : ℕ) → ((word : ℕ) → P word → Q word)
    → ReadsSlots world P at → ReadsSlots world Q at
reads_weaker world P Q at more has =
    let v = value_of (cell_of world at) has.reads in
    reads_slots world Q at v.0 v.1
    (λ offset c. more (slice_index world.words (at + offset)) (of_slot world at offset v.0 (λ o. P) v.1 c has.slots))

-- a sure target is sure or owed
sure_is_either : (world : World) (word : ℕ) → HasSureTarget world word → HasSureOrOwed world word
sure_is_either world word =
    some_weaker (Contains world.main.sure) (IsSureOrOwed world) (target world.old word) (λ to c. inl c)

-- and where nothing is owed, the other way round
pub either_is_sure : (world : World) → world.main.owed ≡ [] → (word : ℕ) → HasSureOrOwed world word
    → HasSureTarget world word
either_is_sure world none word =
    some_weaker (IsSureOrOwed world) (Contains world.main.sure) (target world.old word)
    (λ to p. elim p [ inl is_sure ↦ is_sure | inr owed ↦ absurd (in_none world.main.owed to none owed) ])

-- what is done is under way
pub done_settling : (world : World) (made : List ℕ) → SettledBut world made → SettlingBut world made
done_settling world made done =
    each_but_more made world.main.mine (ReadsSlots world (HasSureTarget world)) (ReadsSlots world (HasSureOrOwed world))
    (λ at. reads_weaker world (HasSureTarget world) (HasSureOrOwed world) at (sure_is_either world)) done.sure

-- what is under way is done where nothing is owed
pub settling_done : (world : World) (made : List ℕ) → world.main.owed ≡ [] → SettlingBut world made
    → SettledBut world made
settling_done world made none has = record {
  owed = none;
  sure = each_but_more made world.main.mine (ReadsSlots world (HasSureOrOwed world))
      (ReadsSlots world (HasSureTarget world))
      (λ at. reads_weaker world (HasSureOrOwed world) (HasSureTarget world) at (either_is_sure world none)) has;
}

-- it is done but for these cells exactly where it is under way but for them, and nothing is owed
pub none_owed : (world : World) (made : List ℕ)
    → SettledBut world made ↔ ((world.main.owed ≡ []) × SettlingBut world made)
none_owed world made =
    (λ done. (done.owed, done_settling world made done), λ both. settling_done world made both.0 both.1)

-- what holds of each of a list but of none holds of each
each_done : (world : World) → SettledBut world [] → (at : ℕ) → Contains world.main.mine at
    → ReadsSlots world (HasSureTarget world) at
each_done world done at c = elim
    (All-contains (λ (a : ℕ). Contains [] a ⊎ ReadsSlots world (HasSureTarget world) a) world.main.mine at done.sure
    c) [
      | inl is_made ↦ absurd (omega (arith, is_made.1))
      | inr is_done ↦ is_done
    ]

-- with no cell to make, what is done but for it is done
none_made_done : (world : World) → SettledBut world [] → Settled world × MineAreRead world
none_made_done world done = (
  record {
    owed = done.owed;
    sure = all_from (λ at. EachSlot world at (λ offset. HasSureTarget world)) world.main.mine
        (λ at c. (each_done world done at c).slots);
  },
  all_from (λ at. IsSome (cell_of world at)) world.main.mine (λ at c. (each_done world done at c).reads),
)

-- and the other way round, where each cell that the mutator made black is read
none_made_back : (world : World) → Settled world × MineAreRead world → SettledBut world []
none_made_back world both = record {
  owed = both.0.owed;
  sure = all_from (λ at. Contains [] at ⊎ ReadsSlots world (HasSureTarget world) at) world.main.mine (λ at c.
      inr record {
        reads = All-contains (λ (a : ℕ). IsSome (cell_of world a)) world.main.mine at both.1 c;
        slots = All-contains (λ (a : ℕ). EachSlot world a (λ offset. HasSureTarget world)) world.main.mine at
            both.0.sure c;
      });
}

-- with no cell to make the mutator's part is done, and each cell that it made black is read; and the other way round
pub none_made : (world : World) → SettledBut world [] ↔ (Settled world × MineAreRead world)
none_made world = (none_made_done world, none_made_back world)

-- more cells may be left out
pub more_may_be_made : (world : World) (made more : List ℕ) → AreIn more made → SettlingBut world made
    → SettlingBut world more
more_may_be_made world made more among has =
    all_from (λ at. Contains more at ⊎ ReadsSlots world (HasSureOrOwed world) at) world.main.mine (λ at c. elim
    (All-contains (λ (a : ℕ). Contains made a ⊎ ReadsSlots world (HasSureOrOwed world) a) world.main.mine at has c) [
      | inl is_made ↦ inl (All-contains (Contains more) made at among is_made)
      | inr is_done ↦ inr is_done
    ])

-- one of which this holds leaves those that are excepted
one_leaves : (P : ℕ → Type 0) (list : List ℕ) (at : ℕ) (made : List ℕ) → P at → EachBut (at ∷ made) P list
    → EachBut made P list
one_leaves P list at made holds has = all_from (λ a. Contains made a ⊎ P a) list (λ a c. elim
    (All-contains (λ (b : ℕ). Contains (at ∷ made) b ⊎ P b) list a has c) [
      | inl is_made ↦ elim (in_cases at made a is_made) [
        | inl same ↦ inr (subst P same holds)
        | inr rest ↦ inl rest
      ]
      | inr is_done ↦ inr is_done
    ])

-- a cell leaves the list once it is read and its targets are sure
pub done_leaves : (world : World) (at : ℕ) (made : List ℕ) → ReadsSlots world (HasSureTarget world) at
    → SettledBut world (at ∷ made) → SettledBut world made
done_leaves world at made holds done = record {
  owed = done.owed;
  sure = one_leaves (ReadsSlots world (HasSureTarget world)) world.main.mine at made holds done.sure;
}

-- or owed, while the mutator's part is under way
pub paid_leaves : (world : World) (at : ℕ) (made : List ℕ) → ReadsSlots world (HasSureOrOwed world) at
    → SettlingBut world (at ∷ made) → SettlingBut world made
paid_leaves world = one_leaves (ReadsSlots world (HasSureOrOwed world)) world.main.mine

-- what is owed once a cell was shaded was owed, and is another one
owed_rest : (world : World) (at : ℕ) (rest : List ℕ) → AreIn (at ∷ rest) world.main.owed
    → AreIn rest (left world.main.owed at)
owed_rest world at rest among = all_from (Contains rest) (left world.main.owed at) (λ to c. elim
    (in_cases at rest to (All-contains (Contains (at ∷ rest)) world.main.owed to among
    (left_from world.main.owed at to c))) [
      | inl same ↦ absurd (left_out world.main.owed at (subst (Contains (left world.main.owed at)) (sym same) c))
      | inr later ↦ later
    ])

-- once a list with all that is owed is shaded the mutator's part is done but for these cells
list_settles : (world : World) (made list : List ℕ) → SettlingBut world made → AreIn list world.main.owed
    → SettledBut (after_all world (shades list)) made
list_settles world made [] has among =
    settling_done world made
    (none_is_empty world.main.owed (λ at c. let l = All-contains (Contains []) world.main.owed at among c in
    absurd (omega (arith, l.1))))
    has
list_settles world made (at ∷ rest) has among =
    list_settles (after_main world (event.ShadeMain at)) made rest (shade_settles world made at has)
    (owed_rest world at rest among)

-- so it is once all that is owed is shaded
pub shades_settle : (world : World) (made : List ℕ) → SettlingBut world made
    → SettledBut (after_all world (shades world.main.owed)) made
shades_settle world made has =
    list_settles world made world.main.owed has (all_from (Contains world.main.owed) world.main.owed (λ at c. c))

-- and after each possible event that spares the others and the shades of what is owed then
pub steps_settle : (world : World) (made : List ℕ) (of : Event) → HasCells world → SettledBut world made
    → Possible world of → Spares world made of
    → SettledBut (after_all (after world of) (shades (after world of).main.owed)) (made_after made of)
steps_settle world made of cells done may spares =
    shades_settle (after world of) (made_after made of)
    (settling_stays world made of cells (done_settling world made done) may spares)

-- a step of the mutator after which nothing more is owed
main_owes_none : (world : World) (of : Event) → actor of ≡ Actor.Mutator → (MayOwe of → ⊥) → world.main.owed ≡ []
    → (after_main world of).main.owed ≡ []
main_owes_none world (event.StoreSlot at word) is owes none = absurd (owes tt)
main_owes_none world (event.Blacken at) is owes none = absurd (owes tt)
main_owes_none world (event.ShadeMain at) is owes none = ap (λ (list : List ℕ). left list at) none
main_owes_none world _ is owes none = none

-- nothing is owed after a step by which nothing may come to be
owes_none : (world : World) (of : Event) (by : Actor) → actor of ≡ by → (MayOwe of → ⊥) → world.main.owed ≡ []
    → (after_step world of by).main.owed ≡ []
owes_none world of Actor.Mutator is owes none = main_owes_none world of is owes none
owes_none world of (Actor.Helper number) is owes none =
    ap (λ (main : MainView). main.owed) (helper_main world number of (slice_get world.helpers number)) ∙ none
owes_none world of Actor.Lends is owes none = none
owes_none world (event.Return number) (Actor.Returns k) is owes none = absurd (owes tt)
owes_none world of (Actor.Returns k) is owes none = cc

-- each possible event that spares the others leaves the part done but for these, if nothing may come to be owed by it
pub settled_stays : (world : World) (made : List ℕ) (of : Event) → HasCells world → SettledBut world made
    → Possible world of → Spares world made of → (MayOwe of → ⊥) → SettledBut (after world of) (made_after made of)
settled_stays world made of cells done may spares owes =
    settling_done (after world of) (made_after made of) (owes_none world of (actor of) refl owes done.owed)
    (settling_stays world made of cells (done_settling world made done) may spares)
