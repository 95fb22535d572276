-- A moved heap is whole.
use Rattle.std.proofs.Common.{ℕ, ◌<◌, Option, subst}
use Rattle.page_space.specs.Extents.{Space}
use Rattle.heap_model.specs.Heaps.{Heap}
use Rattle.heap_model.specs.Wholeness.{HasRoot}
use Rattle.heap_moves.specs.Moved.{IsMoved}
use Rattle.heap_moves.specs.Standing.{Stays, WholeFor}
use Rattle.heap_moves.specs.Laws.{MovesKeepWhole}
use Rattle.heap_moves.proofs.MovedSound.{all_sound}
use Rattle.heap_moves.proofs.MovedOwners.{owned_moved}
use Rattle.heap_moves.proofs.MovedRoots.{root_moved, is_held_moved}

-- the root words of a variable stand for something
has_root : {old new : Heap} {to : ℕ → Option ℕ} → WholeFor old (Stays to) → IsMoved old new to → (variable : ℕ)
    → variable < new.space.variables → HasRoot new variable
has_root whole moved variable within =
    let below = subst (λ (space : Space). variable < space.variables) moved.space within in
    let was = whole.roots variable below in
    let root = root_moved moved whole.sized variable was.held below was.holds was.is in
    record { held = root.now; holds = root.holds; is = is_held_moved moved root.is was.is }

-- a moved heap is whole
pub moves_keep_whole : MovesKeepWhole
moves_keep_whole old new to whole moved = record {
  sized = moved.sized;
  rows = moved.rows;
  roots = has_root whole moved;
  sound = all_sound moved whole;
  owned = owned_moved moved whole;
}
