-- What waits with a seat after its steps on the board, and after a visit of the list.
use Rattle.std.proofs.Common.{◌≡◌, ◌≢◌, ◌∙◌, ℕ, ◌<◌, ◌≤◌, ◌^◌, Bool, true, false, List, [], ◌∷◌}
use Rattle.std.proofs.Common.{Option, Some, None, Result, Ok, Err, IsErr, length, get_or, refl, sym, ap, subst, arith}
use Rattle.std.proofs.Common.{Contains, if◌then◌else◌, nat_lt}
use Rattle.std.specs.Option.{option_and_then}
use Rattle.tagged_word.proofs.Readings.{reference_to}
use Rattle.core_parts.specs.Boards.{giver_left, joined_by, taker_joined}
use Rattle.core_parts.specs.Lists.{is_in, left}
use Rattle.core_parts.proofs.Handing.{lost_give}
use Rattle.core_parts.proofs.Joining.{joined_in, joined_keeps}
use Rattle.core_parts.proofs.Leaving.{left_keeps}
use Rattle.core_parts.proofs.Tested.{nat_lt-yes}
use Rattle.tagged_word.specs.Readings.{given, reference_in}
use Rattle.mark_laws.specs.Types.{HelperView, Snap, SnapSlot}
use Rattle.mark_world.specs.declared.event.Event.TheVariants as event
use Rattle.mark_world.specs.Steps.{helper_learns, snap_targets}
use Rattle.shared_table.specs.HelperTold.{learned, shaded_view}
use Rattle.shared_table.specs.Seats.{Helping}
use Rattle.work_board.specs.declared.Occupied.{Occupied}
use Rattle.work_board.specs.Handed.{IfEmpty, word_found, word_taken}
use Rattle.table_tests.specs.Steps.{IsIdle}

-- what waited waits once a word was taken
pub taker_keeps : (list : List ℕ) (to : Option ℕ) (one : ℕ) → Contains list one → Contains (joined_by list to) one
taker_keeps list None one has = has
taker_keeps list (Some to) one has = joined_keeps list to one has

-- a cell that was taken waits
pub taker_has : (list : List ℕ) (taken : Option ℕ) (at : ℕ) → at < 2 ^ 32 → taken ≡ Some at
    → Contains (taker_joined list (word_taken taken)) at
taker_has list taken at fits is =
    subst (λ (o : Option ℕ). Contains (taker_joined list (word_taken o)) at) (sym is)
    (subst (λ (to : Option ℕ). Contains (joined_by list to) at) (sym (reference_to (word_taken (Some at)) at fits refl))
    (joined_in list at))

-- a step of a seat on the board that leaves its snap and what it is to visit leaves it idle
pub taken_idle : (before after : Helping) (place word : ℕ)
    → after ≡ record before { lent = learned before.lent (event.Take 0 place) word } → IsIdle before → IsIdle after
taken_idle before after place word took idle =
    subst (λ (h : Helping). IsIdle h) (sym took)
    (record { page = idle.page; may = record { snap = idle.may.snap; visit = idle.may.visit } })

-- the same where a cell was given
pub given_idle : (before after : Helping) (place at word : ℕ)
    → after ≡ record before { lent = learned before.lent (event.Give 0 place at) word } → IsIdle before → IsIdle after
given_idle before after place at word gave idle =
    subst (λ (h : Helping). IsIdle h) (sym gave)
    (record { page = idle.page; may = record { snap = idle.may.snap; visit = idle.may.visit } })

-- another cell waits still once one was given
pub giver_keeps : (is_empty : Bool) (list : List ℕ) (at one : ℕ) → one ≢ at → Contains list one
    → Contains (if is_empty then left list at else list) one
giver_keeps true list at one other has = left_keeps list at one other has
giver_keeps false list at one other has = has

-- a cell that could not be given waits still
pub giver_has : (list : List ℕ) (at : ℕ) (result : Result Unit Occupied) → IfEmpty (word_found result) result
    → IsErr result → Contains list at → Contains (giver_left list (word_found result) at) at
giver_has list at (Ok done) empty lost has = absurd cc
giver_has list at (Err occupied) empty lost has =
    subst (λ (rest : List ℕ). Contains rest at) (sym (lost_give list occupied.found at empty.1).1) has

-- the one slot that was read refers to the store
pub to_store : (old : ℕ) (snap : Snap) (slots : List SnapSlot) (d : SnapSlot) → 2048 ≤ old → snap.slots ≡ slots
    → length slots ≡ 1 → (get_or slots 0 d).word ≡ 13 → snap_targets old snap ≡ 3 ∷ []
to_store old snap [] d page is one word = absurd (omega (arith, one))
to_store old snap (slot ∷ []) d page is one word =
    ap (λ (all : List SnapSlot). snap_targets old (record snap { slots = all })) is
    ∙ ap (λ (w : ℕ). joined_by [] (option_and_then (λ (at : ℕ). given (nat_lt at old) at) (reference_in w))) word
    ∙ ap (λ (b : Bool). joined_by [] (given b 3)) (nat_lt-yes 3 old (omega (arith, page)))
to_store old snap (slot ∷ other ∷ rest) d page is one word = absurd (omega (arith, one))

-- once the store is shaded nothing is to be visited, and the snap is as before
pub shaded_out : (old found : ℕ) (view : HelperView) → view.visit ≡ 3 ∷ [] → (shaded_view old view 3 found).visit ≡ []
shaded_out old found view is =
    ap (λ (b : Bool). (if b then helper_learns old view (event.ShadeHelper 0 3) found else view).visit)
    (ap (λ (all : List ℕ). is_in all 3) is)
    ∙ ap (λ (all : List ℕ). left all 3) is

-- a shade leaves the snap, whether the cell was to be visited or not
pub shaded_snap : (old found : ℕ) (view : HelperView) (b : Bool)
    → (if b then helper_learns old view (event.ShadeHelper 0 3) found else view).snap ≡ view.snap
shaded_snap old found view true = refl
shaded_snap old found view false = refl
