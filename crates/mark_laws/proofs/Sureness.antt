-- What the mutator is sure of is covered, and stays so.
use Rattle.std.proofs.Common.{ℕ, ◌+◌, ◌≡◌, ◌==◌, inl, inr, Bool, true, false, IsTrue, List, [], ◌∷◌, get_or}
use Rattle.std.proofs.Common.{slice_index, slice_get, Option, Some, None, All, Contains, IfSome, suc, refl, sym}
use Rattle.std.proofs.Common.{subst, arith}
use Rattle.std.proofs.Common.{if◌then◌else◌, eqb-true}
use Rattle.std.proofs.lemmas.List.Elements.{All-contains}
use Rattle.mark_laws.specs.Types.{Reading, Event, Actor, HelperView, MainView, World}
use Rattle.tagged_word.proofs.Members.{map_from}
use Rattle.core_parts.specs.Lists.{joined, left}
use Rattle.core_parts.specs.Boards.{joined_by}
use Rattle.core_parts.proofs.Joining.{joined_keeps}
use Rattle.core_parts.proofs.Leaving.{left_from}
use Rattle.mark_world.specs.declared.event.Event.TheVariants as event
use Rattle.mark_world.specs.Pages.{is_free, slots_of, target, targets_joined}
use Rattle.mark_world.specs.Steps.{actor, all_joined, becomes, black, free_slot_words, helper_spot, words_in_slots}
use Rattle.mark_world.specs.Conditions.{MayMain}
use Rattle.mark_world.specs.AfterEvents.{after, after_helper, after_main, after_return, after_step, Possible}
use Rattle.mark_world.specs.AfterEvents.{PossibleStep, word_at}
use Rattle.mark_world.specs.Coverage.{HasCovered, IsCovered, cell_of, colour_of}
use Rattle.mark_world.specs.Soundness.{AreIn, HasBlack, HasCells, HasLists, HasSizes, HasSure}
use Rattle.mark_world.specs.BornCells.{Born, HasBorn}
use Rattle.mark_laws.proofs.Starts.{start_old}
use Rattle.mark_laws.proofs.Joins.{all_from, joins, of_get, of_slot, of_target, targets_from, targets_there}
use Rattle.mark_laws.proofs.Coverage.{shaded_coloured, step_covers, with_word_main}

-- a word of the tagged slots of a cell that is a free start stands in one of them
record InSlot (world : World) (at word : ℕ) : Type 0 where
  free : IsTrue (is_free world.main at)
  cell : Reading
  reads : cell_of world at ≡ Some cell
  offset : ℕ
  there : Contains (slots_of cell) offset
  is : slice_index world.words (at + offset) ≡ word

-- a word of a cell's slots, if a cell is read
in_slots : (world : World) (at word : ℕ) → IsTrue (is_free world.main at) → (cell : Option Reading)
    → cell_of world at ≡ cell
    → Contains (words_in_slots world.words at cell) word → InSlot world at word
in_slots world at word free None reads c = absurd (omega (arith, c.1))
in_slots world at word free (Some cell) reads c =
    let m = map_from (λ (o : ℕ). slice_index world.words (at + o)) (slots_of cell) word c in
    record { free = free; cell = cell; reads = reads; offset = m.0; there = m.1; is = m.2 }

-- no word is in none
in_none_of : (world : World) (at word : ℕ) → Contains [] word → InSlot world at word
in_none_of world at word c = absurd (omega (arith, c.1))

-- by the test that the cell is a free start
in_free : (world : World) (at word : ℕ) (free : Bool) → is_free world.main at ≡ free
    → Contains (if free then words_in_slots world.words at (cell_of world at) else []) word → InSlot world at word
in_free world at word true free c = in_slots world at word free (cell_of world at) refl c
in_free world at word false free c = in_none_of world at word c

-- a word of the slots of a free start stands in one
in_slot : (world : World) (at word : ℕ)
    → Contains (free_slot_words world.old world.words world.layouts world.main at) word
    → InSlot world at word
in_slot world at word c = in_free world at word (is_free world.main at) refl c

-- its target is born
slot_born : (world : World) → Born world → (at word to : ℕ) → Contains world.main.born at → InSlot world at word
    → target world.old word ≡ Some to → Contains world.main.born to
slot_born world born at word to at_born s refers =
    of_target world.old word to (Contains world.main.born) refers
    (subst (HasBorn world) s.is
    (of_slot world at s.offset s.cell (λ o. HasBorn world) s.reads s.there (born.slots at s.free at_born)))

-- in a black cell it is covered
slot_covered : (world : World) → HasBlack world → (at word to : ℕ) → colour_of world at ≡ black → InSlot world at word
    → target world.old word ≡ Some to → IsCovered world to
slot_covered world is_covered at word to is_black s refers =
    of_target world.old word to (IsCovered world) refers
    (subst (HasCovered world) s.is
    (of_slot world at s.offset s.cell (λ o. HasCovered world) s.reads s.there (is_covered at s.free is_black)))

-- the targets of a cell that turns black are covered: by it, if it was black, and else since they are owed
target_covered : (world : World) (at : ℕ) → HasBlack world
    → ((a : ℕ) → IsCovered world a → IsCovered (after_main world (event.Blacken at)) a)
    → (to word : ℕ) → Contains (free_slot_words world.old world.words world.layouts world.main at) word
    → target world.old word ≡ Some to
    → (was_black : Bool) → (colour_of world at == black) ≡ was_black
    → IsCovered (after_main world (event.Blacken at)) to
target_covered world at is_covered keeps to word c refers true was =
    keeps to (slot_covered world is_covered at word to (eqb-true _ _ was) (in_slot world at word c) refers)
target_covered world at is_covered keeps to word c refers false was =
    let words : List ℕ = free_slot_words world.old world.words world.layouts world.main at in
    inr (inl (subst (λ (b : Bool).
    Contains (if b then world.main.owed else targets_joined world.old world.main.owed words)
    to) (sym was)
    (targets_there world.old world.main.owed words word to c refers)))

-- targets that join born cells are born
targets_born : (world : World) → Born world → (at : ℕ) → Contains world.main.born at → (list : List ℕ)
    → AreIn world.main.born list
    → AreIn world.main.born
    (targets_joined world.old list (free_slot_words world.old world.words world.layouts world.main at))
targets_born world born at at_born list among =
    let words : List ℕ = free_slot_words world.old world.words world.layouts world.main at in
    all_from (Contains world.main.born) (targets_joined world.old list words)
    (λ to c. elim (targets_from world.old list words to c) [
      | inl had ↦ All-contains (Contains world.main.born) list to among had
      | inr new ↦ slot_born world born at new.0 to at_born (in_slot world at new.0 new.1) new.2
    ])

-- what is owed after a cell turns black is born
black_born : (world : World) → Born world → (at : ℕ) → Contains world.main.born at
    → AreIn world.main.born world.main.owed → (was_black : Bool)
    → AreIn world.main.born (if was_black then world.main.owed
    else targets_joined world.old world.main.owed (free_slot_words world.old world.words world.layouts world.main at))
black_born world born at at_born among true = among
black_born world born at at_born among false = targets_born world born at at_born world.main.owed among

-- a list that one cell joins
pub joined_all : (P : ℕ → Type 0) (list : List ℕ) (new : ℕ) → All P list → P new → All P (joined list new)
joined_all P list new each there = all_from P (joined list new) (λ x c. joins P list new each there x c)

-- a list that a target may join
pub target_joins : (P : ℕ → Type 0) (list : List ℕ) (new : Option ℕ) → All P list → IfSome new P
    → All P (joined_by list new)
target_joins P list None each there = each
target_joins P list (Some new) each there = joined_all P list new each there

-- a list of born cells, when more cells are born
pub more_born : (born list : List ℕ) (new : ℕ) → AreIn born list → AreIn (joined born new) list
more_born born list new among = λ k d l. joined_keeps born new (get_or list k d) (among k d l)

-- a step of the mutator
main_sure : (world : World) (of : Event) → HasSizes world → HasCells world → HasSure world → HasBlack world → Born world
    → MayMain world.old world.words world.layouts world.main of
    → ((a : ℕ) → IsCovered world a → IsCovered (after_main world of) a) → HasSure (after_main world of)
main_sure world (event.StoreSlot at word) sizes cells sure is_covered born may keeps = record {
  covered = λ k d l. keeps (get_or world.main.sure k d) (sure.covered k d l);
  sure_born = sure.sure_born;
  owed_born = target_joins (Contains world.main.born) world.main.owed (target world.old word) sure.owed_born may.born;
}
main_sure world (event.ShadeMain at) sizes cells sure is_covered born may keeps = record {
  covered = joined_all (IsCovered (after_main world (event.ShadeMain at))) world.main.sure at
      (λ k d l. keeps (get_or world.main.sure k d) (sure.covered k d l))
      (inl (shaded_coloured world.colours at (start_old world sizes cells at
      (All-contains (Contains world.main.starts) world.main.born at cells.born may))));
  sure_born = joined_all (Contains world.main.born) world.main.sure at sure.sure_born may;
  owed_born = all_from (Contains world.main.born) (left world.main.owed at) (λ x c.
      All-contains (Contains world.main.born) world.main.owed x sure.owed_born (left_from world.main.owed at x c));
}
main_sure world (event.Blacken at) sizes cells sure is_covered born may keeps =
    let words : List ℕ = free_slot_words world.old world.words world.layouts world.main at in
    record {
      covered = all_from (IsCovered (after_main world (event.Blacken at)))
          (targets_joined world.old world.main.sure words)
          (λ to c. elim (targets_from world.old world.main.sure words to c) [
            | inl had ↦ keeps to (All-contains (IsCovered world) world.main.sure to sure.covered had)
            | inr new ↦ target_covered world at is_covered keeps to new.0 new.1 new.2 (colour_of world at == black) refl
          ]);
      sure_born = targets_born world born at may world.main.sure sure.sure_born;
      owed_born = black_born world born at may sure.owed_born (colour_of world at == black);
    }
main_sure world (event.NewBlack at) sizes cells sure is_covered born may keeps = record {
  covered = λ k d l. keeps (get_or world.main.sure k d) (sure.covered k d l);
  sure_born = more_born world.main.born world.main.sure at sure.sure_born;
  owed_born = more_born world.main.born world.main.owed at sure.owed_born;
}
main_sure world _ sizes cells sure is_covered born may keeps = record {
  covered = λ k d l. keeps (get_or world.main.sure k d) (sure.covered k d l);
  sure_born = sure.sure_born;
  owed_born = sure.owed_born;
}

-- where the mutator's lists are as before
same_sure : (world later : World) → later.main ≡ world.main → HasSure world
    → ((a : ℕ) → IsCovered world a → IsCovered later a) → HasSure later
same_sure world later same sure keeps = record {
  covered = subst (λ (main : MainView). All (IsCovered later) main.sure) (sym same)
      (λ k d l. keeps (get_or world.main.sure k d) (sure.covered k d l));
  sure_born = subst (λ (main : MainView). AreIn main.born main.sure) (sym same) sure.sure_born;
  owed_born = subst (λ (main : MainView). AreIn main.born main.owed) (sym same) sure.owed_born;
}

-- a step of a helper leaves them
pub helper_main : (world : World) (number : ℕ) (of : Event) (view : Option HelperView)
    → (after_helper world number of view).main ≡ world.main
helper_main world number of None = refl
helper_main world number of (Some view) = with_word_main world (helper_spot view of)
    (becomes of (word_at world (helper_spot view of)))

-- a list that born cells join
all_born : (born list others : List ℕ) → AreIn born list → AreIn born others → AreIn born (all_joined list others)
all_born born list [] among also = among
all_born born list (at ∷ rest) among also =
    all_born born (joined list at) rest (joined_all (Contains born) list at among (also 0 0 (omega arith)))
    (λ k d l. also (suc k) d (omega arith))

-- a seat that is taken back
return_sure : (world : World) (number : ℕ) (view : Option HelperView) → HasSure world
    → ((v : HelperView) → view ≡ Some v → AreIn world.main.born v.visit)
    → ((a : ℕ) → IsCovered world a → IsCovered (after_return world number view) a)
    → HasSure (after_return world number view)
return_sure world number None sure visits keeps = sure
return_sure world number (Some view) sure visits keeps = record {
  covered = λ k d l. keeps (get_or world.main.sure k d) (sure.covered k d l);
  sure_born = sure.sure_born;
  owed_born = all_born world.main.born world.main.owed view.visit sure.owed_born (visits view refl);
}

-- every step
step_sure : (world : World) (of : Event) (by : Actor) → HasSizes world → HasCells world → HasLists world
    → HasSure world → HasBlack world
    → Born world → PossibleStep world of by → HasSure (after_step world of by)
step_sure world of Actor.Mutator sizes cells lists sure is_covered born may =
    main_sure world of sizes cells sure is_covered born may
    (step_covers world of Actor.Mutator sizes cells lists born may)
step_sure world of (Actor.Helper number) sizes cells lists sure is_covered born may =
    same_sure world (after_step world of (Actor.Helper number))
    (helper_main world number of (slice_get world.helpers number))
    sure
    (step_covers world of (Actor.Helper number) sizes cells lists born may)
step_sure world of Actor.Lends sizes cells lists sure is_covered born may =
    same_sure world (after_step world of Actor.Lends) refl sure
    (step_covers world of Actor.Lends sizes cells lists born may)
step_sure world of (Actor.Returns number) sizes cells lists sure is_covered born may =
    return_sure world number (slice_get world.helpers number) sure
    (λ v there. of_get (λ (w : HelperView). AreIn world.main.born w.visit) world.helpers number v there born.visits)
    (step_covers world of (Actor.Returns number) sizes cells lists born may)

-- after a possible event the mutator is sure only of what is covered
pub sure_stays : (world : World) (of : Event) → HasSizes world → HasCells world → HasLists world → HasSure world
    → HasBlack world → Born world
    → Possible world of → HasSure (after world of)
sure_stays world of = step_sure world of (actor of)
