-- Paths that are added with their layout words.
use Rattle.std.proofs.Common.{◌≡◌, ◌==◌, ℕ, ◌+◌, List, ◌++◌, length, Option, Some, IfSome, refl, sym, ◌∙◌, ap, subst}
use Rattle.std.proofs.lemmas.Option.{cond_some}
use Rattle.tagged_word.specs.Shapes.{first_path_shape}
use Rattle.page_space.specs.Extents.{Space, eden_start, layouts_start, marks_start}
use Rattle.heap_model.specs.Types.{Path}
use Rattle.object_graph.specs.Paths.{with_path, missing, may_have}
use Rattle.object_graph.specs.Limits.{paths_most}
use Rattle.shape_tree.specs.Shapes.{AreShapes, Leads}
use Rattle.mark_barrier.specs.Waiting.{HasRoom, Waiting}
use Rattle.heap_table.specs.Seats.{Seat as TableSeat}
use Rattle.write_barrier.specs.declared.main_side.Main.TheInside.{Inside}
use Rattle.write_barrier.specs.Layouts.{AreLayouts, AreLayoutsBelow, HasBoth, HasBothBelow, HasFirst, IsUnmarked}
use Rattle.write_barrier.specs.Layouts.{PutsLayouts}
use Rattle.write_barrier.specs.Model.{mutator_of, IsTold}
use Rattle.write_barrier.specs.MutatorState.{Mutator}
use Rattle.write_barrier.specs.Opening.{LaysPath}
use Rattle.write_barrier.proofs.PutLayouts.{both_by, layouts_grown}
use Rattle.write_barrier.proofs.SeatSteps.{listed_again, paid_again}

-- a path is added behind the others, with its missing prefixes
pub added_behind : (old new : List Path) (path : Path) → with_path (Some paths_most) old path ≡ Some new
    → new ≡ old ++ missing old path
added_behind old new path added =
    let more = missing old path in
    sym (cond_some (may_have (Some paths_most) (length old + length more)) (old ++ more) new added).1

-- so the layout words of those that were there are known
pub has_first : {seat : TableSeat} {old new : List Path} {path : Path} {shape : ℕ} (count : ℕ)
    → Leads old new path shape → length old ≡ count → HasBoth seat old → HasFirst seat new count
has_first {old = old} {new} {path} count leads counted both = record {
  first = old;
  more = missing old path;
  all = added_behind old new path leads.added;
  counted = counted;
  both = both;
}

-- and those of the others are still to be put
pub first_below : (seat : TableSeat) (paths : List Path) (count : ℕ) → HasFirst seat paths count
    → HasBothBelow seat paths (first_path_shape + count)
first_below seat paths count has =
    let first = has.first in
    let more = has.more in
    subst (λ (n : ℕ). HasBothBelow seat paths (first_path_shape + n)) has.counted
    (subst (λ (all : List Path). HasBothBelow seat all (first_path_shape + length first)) (sym has.all) (record {
      own = layouts_grown seat.table (layouts_start seat.space) first more has.both.own;
      read = both_by (λ words. AreLayouts words 0 first)
          (λ words. AreLayoutsBelow words 0 (first ++ more) (first_path_shape + length first)) seat.shared
          (λ words are. layouts_grown words 0 first more are) has.both.read;
    }))

-- the mutator with another seat and other paths
abbrev pub with_seat : Inside → TableSeat → List Path → Inside
with_seat main seat paths = record main { seat = seat; shapes = paths }

-- once they are put, the path is there with its layout words
pub lays_path : (main : Inside) (old : Mutator) (seat : TableSeat) (paths : List Path) (path : Path) (shape : ℕ)
    → mutator_of main ≡ old → Leads main.shapes paths path shape → HasBoth seat paths → PutsLayouts main.seat seat
    → length seat.table ≡ marks_start seat.space → AreShapes paths
    → LaysPath old (mutator_of (with_seat main seat paths)) path shape
lays_path main old seat paths path shape is leads both puts counted are =
    subst (λ (one : Mutator). LaysPath one (mutator_of (with_seat main seat paths)) path shape) is (record {
      leads = leads;
      sized = record { words = counted; shapes = are; layouts = both.own };
      changes = record {
        seat = puts.rest;
        paths = refl;
        young = refl;
        free = refl;
        recorded = refl;
        cycle = puts.cycle;
        count = puts.rest.count;
        beside = puts.beside;
      };
    })

-- the list of grey cells has the same bound
bound_again : {old new : Space} (list : Option Waiting) → new ≡ old
    → IfSome list (λ grey. HasRoom grey (eden_start old)) → IfSome list (λ grey. HasRoom grey (eden_start new))
bound_again list same =
    subst (λ (space : Space). IfSome list (λ grey. HasRoom grey (eden_start space))) (sym same)

-- what the mutator keeps is so again
pub told_again : (main : Inside) (seat : TableSeat) (paths : List Path) → IsTold main → HasBoth seat paths
    → PutsLayouts main.seat seat → IsTold (with_seat main seat paths)
told_again main seat paths told both puts = record {
  bound = told.bound ∙ ap (λ (space : Space). eden_start space) (sym puts.rest.space);
  layouts = both.read;
  listed = listed_again main.seat seat main.grey puts.rest.shared told.listed;
  lists = bound_again main.grey puts.rest.space told.lists;
  home = puts.rest.home ∙ told.home ∙ ap (λ (many : ℕ). many == 0) (sym puts.rest.out);
  paid = λ mark. paid_again main.seat seat main.grey puts.rest.space puts.view puts.rest.home puts.colours
      (told.paid (sym puts.rest.phase ∙ mark));
  paused = λ waits. paid_again main.seat seat main.grey puts.rest.space puts.view puts.rest.home
      puts.colours (told.paused (sym puts.rest.phase ∙ waits));
  waits = λ waits. puts.rest.home ∙ told.waits (sym puts.rest.phase ∙ waits);
  clean = λ quiet. let was = told.clean (sym puts.rest.phase ∙ quiet) in record {
    out = puts.rest.out ∙ was.out;
    listed = was.listed;
    unmarked = subst (λ (space : Space). IfSome seat.shared (IsUnmarked (eden_start space))) (sym puts.rest.space)
        (puts.marks (eden_start main.seat.space) was.unmarked);
  };
}
