-- A heap with its layout words, made of a seat that was just opened.
use Rattle.std.proofs.Common.{◌≡◌, ℕ, ◌+◌, ◌<◌, ◌≤◌, ◌⊎◌, Bool, true, false, List, length, Some, slice_get}
use Rattle.std.proofs.Common.{refl, sym, ◌∙◌, ap, subst, arith}
use Rattle.std.specs.Prelude.{replicate, Option, IfSome, is_some}
use Rattle.atomic_table.specs.Seated.{TableId}
use Rattle.std.proofs.lemmas.List.{length-replicate, get_or-replicate}
use Rattle.std.proofs.lemmas.Option.{slice_get-get_or}
use Rattle.tagged_word.specs.Shapes.{shapes_most}
use Rattle.page_space.specs.Extents.{Space, eden_start, layouts_start, marks_start}
use Rattle.page_space.proofs.Starts.{marks_start_is}
use Rattle.free_runs.specs.FreeRuns.{whole_rows}
use Rattle.nursery.specs.Young.{new_young}
use Rattle.remembered_set.specs.Recorded.{Recorded}
use Rattle.object_graph.specs.Paths.{empty_paths}
use Rattle.heap_model.specs.Types.{Path}
use Rattle.mark_barrier.specs.Waiting.{HasRoom, IsEmpty}
use Rattle.heap_table.specs.Overviews.{cycle_in, unopened}
use Rattle.heap_table.specs.Seats.{Seat as TableSeat, IsFresh}
use Rattle.write_barrier.specs.declared.main_side.Main.TheInside.{Inside}
use Rattle.write_barrier.specs.Layouts.{AreLayoutsBelow, HasBoth, HasBothBelow, IsUnmarked, PutsLayouts}
use Rattle.write_barrier.specs.Model.{mutator_of, IsTold}
use Rattle.write_barrier.specs.MutatorState.{none_recorded}
use Rattle.write_barrier.specs.Opening.{IsLaid}
use Rattle.write_barrier.specs.Seats.{Seat, RestStays, fresh, table_of, told_of}
use Rattle.write_barrier.proofs.PutLayouts.{none_below}
use Rattle.write_barrier.proofs.SeatSteps.{at_home, listed_again, quiet_paused}
use Rattle.write_barrier.proofs.SlotCycles.{quiet_idle}

-- so many words of 0
abbrev zeros : ℕ → List ℕ
zeros count = replicate count 0

-- each of them is 0
zero_there : (count a : ℕ) → a < count → slice_get (zeros count) a ≡ Some 0
zero_there count a below =
    slice_get-get_or (zeros count) a 0 (omega (arith, length-replicate {A = ℕ} count 0))
    ∙ ap (λ word. Some word) (get_or-replicate count a 0 0 below)

-- among words of 0 the layout words are still to be put
zeros_below : (count from : ℕ) (paths : List Path) → from + shapes_most ≤ count
    → AreLayoutsBelow (zeros count) from paths 1
zeros_below count from paths within =
    none_below (zeros count) from paths (λ shape few. zero_there count (from + shape) (omega arith))

-- so they are in a seat that was just opened
pub fresh_below : (space : Space) (shared : Bool) (seat : TableSeat) (paths : List Path) → IsFresh space shared seat
    → HasBothBelow seat paths 1
fresh_below space false seat paths is =
    subst (λ (one : TableSeat). HasBothBelow one paths 1) (sym is) (record {
      own = zeros_below (marks_start space) (layouts_start space) paths (omega (arith, marks_start_is space));
      read = tt;
    })
fresh_below space true seat paths is =
    subst (λ (one : TableSeat). HasBothBelow one paths 1) (sym is.1) (record {
      own = zeros_below (marks_start space) (layouts_start space) paths (omega (arith, marks_start_is space));
      read = zeros_below shapes_most 0 paths (omega arith);
    })

-- what is told of it
told_fresh : (space : Space) (shared : Bool) (seat : TableSeat) → IsFresh space shared seat
    → told_of seat ≡ fresh space (table_of seat)
told_fresh space false seat is = subst (λ (one : TableSeat). told_of one ≡ fresh space (table_of one)) (sym is) refl
told_fresh space true seat is = subst (λ (one : TableSeat). told_of one ≡ fresh space (table_of one)) (sym is.1) refl

-- it knows of no cycle
cycle_fresh : (space : Space) (shared : Bool) (seat : TableSeat) → IsFresh space shared seat → cycle_in seat ≡ unopened
cycle_fresh space false seat is = ap cycle_in is
cycle_fresh space true seat is = ap cycle_in is.1

-- and of no cell with a colour
unmarked_fresh : (space : Space) (shared : Bool) (seat : TableSeat) → IsFresh space shared seat
    → IfSome seat.shared (IsUnmarked (eden_start space))
unmarked_fresh space false seat is =
    subst (λ (one : TableSeat). IfSome one.shared (IsUnmarked (eden_start space))) (sym is) tt
unmarked_fresh space true seat is =
    subst (λ (one : TableSeat). IfSome one.shared (IsUnmarked (eden_start space))) (sym is.1)
    (record { colours = refl; board = refl })

-- the parts of a heap that was just opened, in which the layout words were put
pub record AreParts (space : Space) (shared : Bool) (old : TableSeat) (main : Inside) : Type 0 where
  pub fresh_is : IsFresh space shared old
  pub puts : PutsLayouts old main.seat
  pub both : HasBoth main.seat main.shapes
  pub paths : main.shapes ≡ empty_paths
  pub young : main.nursery ≡ new_young space
  pub free : main.free ≡ whole_rows space.sizes.pages
  pub recorded : main.remembered ≡ none_recorded space
  pub listed : is_some main.grey ≡ is_some old.shared
  pub lists : IfSome main.grey (λ grey. HasRoom grey (eden_start space))
  pub empty : IfSome main.grey IsEmpty

-- nothing is there but the layout words
pub is_laid : (space : Space) (shared : Bool) (old : TableSeat) (main : Inside) → AreParts space shared old main
    → IsLaid (mutator_of main) space
is_laid space shared old main parts =
    let told = told_fresh space shared old parts.fresh_is in
    let puts = parts.puts in
    let now : Seat = told_of main.seat in
    let still : table_of old ≡ now.shared = sym puts.rest.shared in
    let same : space ≡ old.space = sym (ap (λ (seat : Seat). seat.space) told) in
    record {
      changes = record {
        seat = subst (λ (one : Option TableId). RestStays (fresh space one) now) still
            (subst (λ (seat : Seat). RestStays seat now) told puts.rest);
        paths = parts.paths;
        young = parts.young;
        free = parts.free;
        recorded = parts.recorded;
        cycle = puts.cycle ∙ cycle_fresh space shared old parts.fresh_is;
        count = puts.rest.count ∙ ap (λ (seat : Seat). length seat.table) told;
        beside = λ a out.
            puts.beside a
            (subst (λ (s : Space). (a < layouts_start s) ⊎ (marks_start s ≤ a)) same out)
            ∙ ap (λ (seat : Seat). slice_get seat.table a) told;
      };
      layouts = parts.both.own;
    }

-- what the mutator keeps is so
pub is_told : (space : Space) (shared : Bool) (old : TableSeat) (main : Inside) → AreParts space shared old main
    → IsTold main
is_told space shared old main parts =
    let told = told_fresh space shared old parts.fresh_is in
    let same : main.seat.space ≡ space = parts.puts.rest.space ∙ ap (λ (seat : Seat). seat.space) told in
    let quiet = parts.puts.rest.phase ∙ ap (λ (seat : Seat). seat.phase) told in
    let out = parts.puts.rest.out ∙ ap (λ (seat : Seat). seat.out) told in
    record {
      bound = ap (λ (recorded : Recorded). recorded.bound) parts.recorded ∙ sym (ap eden_start same);
      layouts = parts.both.read;
      listed = listed_again old main.seat main.grey parts.puts.rest.shared parts.listed;
      lists = subst (λ (s : Space). IfSome main.grey (λ grey. HasRoom grey (eden_start s))) (sym same) parts.lists;
      home = at_home (parts.puts.rest.home ∙ ap (λ (seat : Seat). seat.home) told) out;
      paid = λ mark. absurd (quiet_idle quiet mark);
      paused = λ waits. absurd (quiet_paused quiet waits);
      waits = λ waits. absurd (quiet_paused quiet waits);
      clean = λ again. record {
        out = out;
        listed = parts.empty;
        unmarked = subst (λ (s : Space). IfSome main.seat.shared (IsUnmarked (eden_start s))) (sym same)
            (parts.puts.marks (eden_start space) (unmarked_fresh space shared old parts.fresh_is));
      };
    }
