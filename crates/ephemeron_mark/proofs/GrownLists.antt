-- Lists of marked cells grow: what was marked stays so, in its place.
use Rattle.std.proofs.Common.{◌≡◌, ℕ, ◌↔◌, inl, inr, Bool, true, false, [], ◌∷◌}
use Rattle.std.proofs.Common.{if◌then◌else◌, IsTrue, Contains, sym, ◌∙◌, subst}
use Rattle.std.proofs.lemmas.Bool.{false≢true}
use Rattle.std.proofs.lemmas.Option.{slice_get_within}
use Rattle.std.proofs.lemmas.List.Elements.{Contains-push_cases, Contains-append_right}
use Rattle.tagged_word.proofs.Members.{first_in}
use Rattle.heap_model.proofs.CellWords.{slice_get-append_left}
use Rattle.heap_model.specs.Heaps.{Heap}
use Rattle.heap_moves.proofs.MovedWords.{contains_or_not}
use Rattle.live_cells.proofs.ObjectTargets.{at_is_in}
use Rattle.live_cells.proofs.MarkedLinks.{element_at}
use Rattle.cell_list.specs.Listing.{Listing, pushed}
use Rattle.write_barrier.specs.MutatorState.{Mutator, heap_of}
use Rattle.ephemeron_mark.specs.Marked.{IsLiveFrom}
use Rattle.ephemeron_mark.specs.Progress.{IsMarking, HasGrown}
use Rattle.ephemeron_mark.proofs.LiveStands.{live_stands}
use Rattle.ephemeron_mark.proofs.LiveAgain.{live_at_once, live_again}

-- nothing more is marked
pub grows_nothing : {main : Mutator} {cells : Listing} → IsMarking main cells → HasGrown main cells cells
grows_nothing marking =
    record { marking = marking; kept = λ place at there. there; live = λ at there. live_at_once at there }

-- and more again
pub grows_again : {main : Mutator} {old mid new : Listing} → HasGrown main old mid → HasGrown main mid new
    → HasGrown main old new
grows_again first second = record {
  marking = second.marking;
  kept = λ place at there. second.kept place at (first.kept place at there);
  live = λ at there. live_again first.live at (second.live at there);
}

-- what was marked is marked
pub stays_marked : {main : Mutator} {old new : Listing} (at : ℕ) → HasGrown main old new
    → Contains old.addresses at → Contains new.addresses at
stays_marked {old = old} {new} at grown there =
    at_is_in new.addresses there.0 at (grown.kept there.0 at (element_at old.addresses at there))

-- with one more address, which is live, all are live from what was marked
pushed_live : {heap : Heap} (old : Listing) (at : ℕ) → IsLiveFrom heap old.addresses at
    → (one : ℕ) → Contains (pushed old at).addresses one → IsLiveFrom heap old.addresses one
pushed_live {heap} old at live one there = elim (Contains-push_cases old.addresses at one there) [
  | inl before ↦ live_at_once one before
  | inr last ↦ subst (IsLiveFrom heap old.addresses) last live
]

-- a live cell is marked by a push, where it was not before
by_push : {main : Mutator} (old : Listing) (at : ℕ) (was_new : Bool) → IsMarking main old
    → IsLiveFrom (heap_of main) old.addresses at → (IsTrue was_new ↔ (¬ Contains old.addresses at))
    → let new = (if was_new then pushed old at else old) in HasGrown main old new × Contains new.addresses at
by_push {main} old at true marking live told = (
  record {
    marking = record {
      whole = marking.whole;
      bound = marking.bound;
      stand = λ one there. live_stands marking.whole marking.stand one (pushed_live old at live one there);
    };
    kept = λ place one there.
        slice_get-append_left old.addresses (at ∷ []) place (slice_get_within old.addresses place one there) ∙ there;
    live = pushed_live old at live;
  },
  Contains-append_right old.addresses (at ∷ []) at (first_in at []),
)
by_push old at false marking live told = (
  grows_nothing marking,
  elim (contains_or_not old.addresses at) [
    | inl there ↦ there
    | inr none ↦ absurd (false≢true (told.1 none))
  ],
)

-- so a live cell is marked once it was pushed, and nothing else is that was not
pub pushed_is_marked : {main : Mutator} (old new : Listing) (at : ℕ) (was_new : Bool) → IsMarking main old
    → IsLiveFrom (heap_of main) old.addresses at → (IsTrue was_new ↔ (¬ Contains old.addresses at))
    → new ≡ (if was_new then pushed old at else old) → HasGrown main old new × Contains new.addresses at
pushed_is_marked {main} old new at was_new marking live told is =
    subst (λ (one : Listing). HasGrown main old one × Contains one.addresses at) (sym is)
    (by_push old at was_new marking live told)
