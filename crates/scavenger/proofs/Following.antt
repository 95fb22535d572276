-- Where a live slot refers to a cell that has no home, a copy becomes its home.
use Rattle.std.proofs.Common.{ℕ, ◌+◌, ◌≡◌, List, get_or, None}
use Rattle.std.proofs.Common.{arith, refl, sym, ap, ◌∙◌}
use Rattle.std.specs.List.{Contains}
use Rattle.tagged_word.specs.Readings.{reference_in}
use Rattle.cell_layout.specs.Cells.{IsCell}
use Rattle.cell_layout.proofs.OneCell.{one_cell}
use Rattle.heap_model.specs.Types.{Cell}
use Rattle.scav_copy.specs.declared.places.Home.{Home}
use Rattle.scav_copy.specs.Places.{Fixed, size_of}
use Rattle.scav_copy.specs.Renamings.{IsReachable}
use Rattle.scav_copy.specs.Copies.{with_home}
use Rattle.scav_copy.proofs.Redirecting.{as_before}
use Rattle.scavenger.specs.Starts.{Start, room_start}
use Rattle.scavenger.specs.Following.{IsTarget, Copies, CopyingGoesOn}
use Rattle.scavenger.proofs.Targets.{slots_have_targets}
use Rattle.scavenger.proofs.FollowCopies.{home_at}
use Rattle.scavenger.proofs.FollowNewCopies.{others_filled, others_copied}
use Rattle.scavenger.proofs.FollowRunWords.{takes_room, rest_fills}
use Rattle.scavenger.proofs.FollowFilled.{IsNew, fits_behind, fits_run, filled_behind, filled_in_page}

-- the cell that stands where a live slot refers to, with no reference as its header, is a new one
new_by : {start : Start} {fixed : Fixed} {words : List ℕ} {homes : List Home} {fill at : ℕ} (cell : Cell)
    → IsCell start.heap.space words cell → cell.at ≡ at → reference_in (get_or words at 0) ≡ None
    → Contains fixed.cells cell.at → IsReachable fixed cell.at
    → IsTarget start.heap.space fixed words homes
    (room_start start.heap.space start.half + start.heap.space.sizes.young) fill at
    → IsNew start fixed words homes fill cell
new_by cell is_cell here head is reached (IsTarget.forwarded home there from refers) = cc
new_by {start} {fixed} {words} cell is_cell here head is reached
    (IsTarget.unmoved other none is_other there size ends homeless) =
    let same : other ≡ cell = one_cell start.heap.space words other cell is_other is_cell (there ∙ sym here) in
    let long : other.size ≡ cell.size = ap (λ (one : Cell). one.size) same in
    record {
      is_cell = is_cell;
      is = is;
      reached = reached;
      none = λ home among from. homeless home among (from ∙ here);
      size = sym long ∙ size ∙ ap (size_of fixed) (sym here);
      ends = omega (arith, long, ends);
    }

-- a copy of it goes behind the other copies of the segment, or to a free run
pub copying_goes_on : CopyingGoesOn
copying_goes_on start left fixed words _ rows _ homes todo front cell fill _ _ slot place begun both filled stood
    refers is_left head is_cell Copies.stays =
    let target = slots_have_targets start left fixed words rows homes fill slot place cell.at begun both filled stood
    refers is_left in
    let reached = (as_before fixed words homes slot place cell.at begun.laid filled.copying stood refers target.0).1 in
    let new = new_by cell is_cell refl head target.0 reached target.1 in
    record {
      all = with_home homes (home_at cell fill);
      are = refl;
      filled = filled_behind begun filled new;
      others = others_copied (fits_behind begun filled new);
    }
copying_goes_on start left fixed words _ rows _ homes todo front cell fill _ _ slot place begun both filled stood
    refers is_left head is_cell (Copies.promotes after run free takes is_free) =
    let target = slots_have_targets start left fixed words rows homes fill slot place cell.at begun both filled stood
    refers is_left in
    let reached = (as_before fixed words homes slot place cell.at begun.laid filled.copying stood refers target.0).1 in
    let new = new_by cell is_cell refl head target.0 reached target.1 in
    let room = takes_room begun filled takes is_free in
    record {
      all = with_home homes (home_at cell run.at);
      are = refl;
      filled = filled_in_page begun filled new takes is_free room;
      others = λ others.
          others_copied (fits_run cell free begun filled new room)
          (others_filled begun.laid (rest_fills words room) others);
    }
