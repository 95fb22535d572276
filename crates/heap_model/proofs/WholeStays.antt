-- A heap is whole after a change that is some objects' own.
use Rattle.std.proofs.Common.{ℕ, ◌+◌, ◌<◌, List, sym, ◌∙◌, subst, arith}
use Rattle.page_space.specs.Extents.{Space}
use Rattle.page_space.proofs.Starts.{layouts_start_is}
use Rattle.heap_model.specs.Types.{Cell, Held}
use Rattle.handle_roots.specs.declared.held.Held.TheVariants as held
use Rattle.handle_roots.specs.Roots.{Holds, root_at}
use Rattle.heap_model.specs.Heaps.{Heap}
use Rattle.heap_model.specs.Wholeness.{IsHeld}
use Rattle.heap_model.specs.Changes.{CellsChange}
use Rattle.heap_model.specs.Laws.{OwnChangesKeepWhole}
use Rattle.heap_model.proofs.Moves.{Moves, place_stays}
use Rattle.heap_model.proofs.CellOutcomes.{cells_move}
use Rattle.heap_model.proofs.SoundStays.{sound_stays}
use Rattle.heap_model.proofs.OwnedStays.{owned_stays_owned}

-- what a variable may hold it may hold
pub held_stays : {old new : Heap} {gone came made : List Cell} → Moves old new gone came made → (one : Held)
    → IsHeld old one
    → IsHeld new one
held_stays moves held.Unbound is = tt
held_stays moves held.Undefined is = tt
held_stays moves (held.Int v) is = tt
held_stays moves (held.Ref at) is = (is.0, place_stays moves is.0 at is.1)

-- the root words of a variable stand for what they stood for
pub holds_stays : {old new : Heap} {gone came made : List Cell} (variable : ℕ) (one : Held)
    → CellsChange old new gone came made → variable < old.space.variables
    → Holds old.space old.words variable one → Holds new.space new.words variable one
holds_stays {old} {new} variable one change below holds =
    let at : ℕ = root_at old.space variable in
    let first = change.roots_stay at (omega arith) (omega (arith, layouts_start_is old.space)) in
    let second = change.roots_stay (at + 1) (omega arith) (omega (arith, layouts_start_is old.space)) in
    let there : Holds old.space new.words variable one =
    record { fits = holds.fits; first = first ∙ holds.first; second = second ∙ holds.second } in
    subst (λ (space : Space). Holds space new.words variable one) (sym change.same_space) there

-- a heap whose objects change inside their own cells is whole again
pub own_changes_keep_whole : OwnChangesKeepWhole
own_changes_keep_whole old new gone came made whole sized rows change own =
    let moves : Moves old new gone came made = record { whole = whole; cells = cells_move change; own = own } in
    record {
      sized = sized;
      rows = rows;
      roots = λ variable within.
          let below = subst (λ (space : Space). variable < space.variables) change.same_space within in
          let root = whole.roots variable below in
          record {
            held = root.held;
            holds = holds_stays variable root.held change below root.holds;
            is = held_stays moves root.held root.is;
          };
      sound = sound_stays moves;
      owned = owned_stays_owned moves;
    }
