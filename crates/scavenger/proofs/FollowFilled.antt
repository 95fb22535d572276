-- With one copy more, behind the others of the segment or in a free run, a scavenge is filled so.
use Rattle.std.proofs.Common.{ℕ, ◌+◌, ◌-◌, ◌<◌, ◌≤◌, ◌≡◌, inl, inr, List, [], ◌∷◌, ◌++◌}
use Rattle.std.proofs.Common.{arith, subst}
use Rattle.std.specs.List.{Contains}
use Rattle.tagged_word.proofs.Members.{in_cases}
use Rattle.page_space.specs.Extents.{eden_start}
use Rattle.cell_layout.specs.Cells.{IsCell}
use Rattle.cell_layout.proofs.OneCell.{cells_have_words}
use Rattle.free_runs.specs.FreeRuns.{TakesFront}
use Rattle.heap_model.specs.Types.{Cell, Run}
use Rattle.write_barrier.specs.FreeCells.{with_free_cell}
use Rattle.scav_copy.specs.declared.places.Home.{Home}
use Rattle.scav_copy.specs.Places.{Fixed, size_of}
use Rattle.scav_copy.specs.Renamings.{IsReachable}
use Rattle.scav_copy.specs.Copies.{with_home, HasNoHome}
use Rattle.scavenger.specs.Starts.{Start, IsBegun, room_start, room_of}
use Rattle.scavenger.specs.Filling.{Tiles, CopiesFillRooms, homes_in}
use Rattle.scavenger.specs.Following.{IsFreeAt, moved_words}
use Rattle.scavenger.specs.Paging.{IsUnmoved, promoted_words}
use Rattle.scavenger.proofs.SegmentRooms.{own_is_among}
use Rattle.scavenger.proofs.Sums.{one_home_more}
use Rattle.scavenger.proofs.PagesRuns.{free_is_left}
use Rattle.scavenger.proofs.Backs.{backs_again, front_leaves_backs}
use Rattle.scavenger.proofs.PagesCopies.{pages_stay_for_copies, words_stay_left, free_stays_apart}
use Rattle.scavenger.proofs.PagesLeft.{words_are_left, free_is_left_apart}
use Rattle.scavenger.proofs.PagesTakesOwn.{pages_take_copies}
use Rattle.scavenger.proofs.FollowTiles.{tiles_push, same_with_home, one_between, one_behind, fill_above}
use Rattle.scavenger.proofs.FilledSegments.{segment_is_free}
use Rattle.scavenger.proofs.HandedStays.{copy_still_end, promotion_still_ends}
use Rattle.scavenger.proofs.FollowCopies.{FitsCopy, fills_copying, cell_is_there, copy_is_there, copy_is_home, home_at}
use Rattle.scavenger.proofs.FollowRunWords.{TakesRoom, rest_fills}

-- What is known of a cell that is to be copied: it stands among the words, was reached and has no home, and behind the
-- copies of the segment there is room for it.
pub record IsNew (start : Start) (fixed : Fixed) (words : List ℕ) (homes : List Home) (fill : ℕ) (cell : Cell)
    : Type 0 where
  pub is_cell : IsCell start.heap.space words cell
  pub is : Contains fixed.cells cell.at
  pub reached : IsReachable fixed cell.at
  pub none : HasNoHome homes cell.at
  pub size : cell.size ≡ size_of fixed cell.at
  pub ends : fill + cell.size ≤ room_start start.heap.space start.half + start.heap.space.sizes.young

-- it is one that is to be copied, as it was, and has no home
unmoved : {start : Start} {fixed : Fixed} {words : List ℕ} {homes : List Home} {fill : ℕ} {cell : Cell}
    → IsNew start fixed words homes fill cell → IsUnmoved start fixed words homes cell
unmoved new = record { among = new.is; is_cell = new.is_cell; none = new.none }

-- it fits behind the copies of the segment
pub fits_behind : {start : Start} {fixed : Fixed} {words : List ℕ} {rows : List (List Run)} {homes : List Home}
    {fill : ℕ} {cell : Cell} → IsBegun start fixed → CopiesFillRooms start fixed words rows homes fill
    → IsNew start fixed words homes fill cell → FitsCopy fixed words homes cell fill
fits_behind {start} begun filled new =
    let room = room_of start.heap.space start.half in
    record {
      laid = begun.laid;
      copying = filled.copying;
      size = new.size;
      room = room;
      lies = record {
        among = own_is_among begun.begins;
        from = fill_above filled;
        ends = new.ends;
      };
      free = λ at from below. segment_is_free begun filled at from (omega (arith, below, new.ends));
      is = new.is;
      reached = new.reached;
      none = new.none;
    }

-- the words with what is left of a free run as one free cell
abbrev pub rest_words : List ℕ → Cell → Cell → ℕ → List ℕ
rest_words words cell free to = with_free_cell words (to + cell.size) (free.size - cell.size)

-- and it fits in the first words of a free run
pub fits_run : {start : Start} {fixed : Fixed} {words : List ℕ} {rows : List (List Run)} {homes : List Home}
    {fill : ℕ} {run : Run} (cell free : Cell) → IsBegun start fixed → CopiesFillRooms start fixed words rows homes fill
    → IsNew start fixed words homes fill cell → TakesRoom start fixed homes cell.size free.size run
    → FitsCopy fixed (rest_words words cell free run.at) homes cell run.at
fits_run {words = words} cell free begun filled new takes = record {
  laid = begun.laid;
  copying = fills_copying begun.laid filled.copying (rest_fills words takes);
  size = new.size;
  room = takes.room;
  lies = record {
    among = takes.lies.among;
    from = takes.lies.from;
    ends = omega (arith, takes.lies.ends, takes.enough);
  };
  free = λ at from below. takes.free at from (omega (arith, below, takes.enough));
  is = new.is;
  reached = new.reached;
  none = new.none;
}

-- behind the other copies of the segment
pub filled_behind : {start : Start} {fixed : Fixed} {words : List ℕ} {rows : List (List Run)} {homes : List Home}
    {fill : ℕ} {cell : Cell} → IsBegun start fixed → CopiesFillRooms start fixed words rows homes fill
    → IsNew start fixed words homes fill cell
    → CopiesFillRooms start fixed (moved_words words cell fill) rows (with_home homes (home_at cell fill))
    (fill + cell.size)
filled_behind {start} {fixed} {words} {rows} {homes} {fill} {cell} begun filled new =
    let home : Home = home_at cell fill in
    let from : ℕ = room_start start.heap.space start.half in
    let others : List Home = filled.promoted ++ homes_in start.handed in
    let fits = fits_behind begun filled new in
    let end : fill + size_of fixed cell.at ≡ fill + cell.size = omega (arith, new.size) in
    record {
      copying = copy_is_home fits;
      stayed = filled.stayed ++ home ∷ [];
      tiles = subst (λ to. Tiles fixed from to (filled.stayed ++ home ∷ [])) end
          (tiles_push from filled.stayed home filled.tiles);
      promoted = filled.promoted;
      in_pages = filled.in_pages;
      handed_by = filled.handed_by;
      handed = filled.handed;
      behind = copy_still_end begun filled cell fill new.is (cell_is_there fits) (copy_is_there fits)
          (fill_above filled);
      same = same_with_home homes (filled.stayed ++ others) ((filled.stayed ++ home ∷ []) ++ others) home filled.same
          (one_behind filled.stayed others home);
      long = omega (arith, one_home_more (size_of fixed) homes home, filled.long, new.size);
      pages = pages_stay_for_copies start fixed words rows homes fill cell begun filled (unmoved new) new.ends;
      left = λ at. words_stay_left start fixed words rows homes fill cell at begun filled (unmoved new);
      free = filled.free;
      backs = filled.backs;
      apart = λ at. free_stays_apart start fixed words rows homes fill cell at begun filled (unmoved new);
    }

-- in a free run
pub filled_in_page : {start : Start} {fixed : Fixed} {words : List ℕ} {rows left : List (List Run)}
    {homes : List Home} {fill : ℕ} {cell free : Cell} {run : Run} → IsBegun start fixed
    → CopiesFillRooms start fixed words rows homes fill → IsNew start fixed words homes fill cell
    → TakesFront rows left cell.size run → IsFreeAt start.heap.space words free run.at
    → TakesRoom start fixed homes cell.size free.size run
    → CopiesFillRooms start fixed (promoted_words words cell free run.at) left (with_home homes (home_at cell run.at))
    fill
filled_in_page {start} {fixed} {words} {rows} {left} {homes} {fill} {cell} {free} {run} begun filled new takes
    is_free room =
    let home : Home = home_at cell run.at in
    let others : List Home = filled.promoted ++ homes_in start.handed in
    let fits = fits_run cell free begun filled new room in
    let some = (cells_have_words start.heap.space words cell new.is_cell).0 in
    let below : run.at < eden_start start.heap.space = omega (arith, some, room.enough, room.in_page) in
    record {
      copying = copy_is_home fits;
      stayed = filled.stayed;
      tiles = filled.tiles;
      promoted = home ∷ filled.promoted;
      in_pages = λ one there. elim (in_cases home filled.promoted one there) [
        | inl same ↦ subst (λ (other : Home). other.to < eden_start start.heap.space) same below
        | inr among ↦ filled.in_pages one among
      ];
      handed_by = filled.handed_by;
      handed = filled.handed;
      behind = promotion_still_ends begun filled cell free run.at new.is (cell_is_there fits, copy_is_there fits)
          room.in_page room.enough;
      same = same_with_home homes (filled.stayed ++ others) (filled.stayed ++ home ∷ others) home filled.same
          (one_between filled.stayed others home);
      long = omega (arith, one_home_more (size_of fixed) homes home, filled.long);
      pages = pages_take_copies start fixed words rows left homes fill cell free run begun filled (unmoved new) takes
          is_free;
      left = λ at.
          words_are_left start fixed words rows left homes fill cell free run at begun filled (unmoved new) takes
          is_free;
      free = free_is_left start.heap.space words rows left cell run new.is_cell filled.free takes;
      backs = backs_again start.rows rows left filled.backs (front_leaves_backs takes some filled.free);
      apart = λ at. free_is_left_apart start fixed words rows left homes fill cell run at begun filled (unmoved new)
          takes;
    }
