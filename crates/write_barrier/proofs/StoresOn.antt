-- What stays from store to store of a command, and what a command may change where the heap shows a graph.
use Rattle.std.proofs.Common.{◌≡◌, ℕ, ◌<◌, ◌≤◌, List, Contains, refl, sym, ◌∙◌, ap, subst, arith, slice_get}
use Rattle.std.proofs.lemmas.Bool.Decides.{nat_tests}
use Rattle.std.proofs.lemmas.List.Elements.{All-contains, All-contains_itself}
use Rattle.cell_layout.specs.Cells.{layouts_in}
use Rattle.cell_layout.proofs.CellsThere.{slice_get-layouts_in}
use Rattle.cycle_state.proofs.Claimed.{claims_go_on, page_cells_are_claimed}
use Rattle.cycle_state.proofs.GoingOn.{goes_on_again, goes_on_itself}
use Rattle.cycle_state.specs.Cycles.{words_of_pages}
use Rattle.heap_model.specs.Heaps.{HasCell}
use Rattle.heap_model.specs.Types.{Cell, Path}
use Rattle.heap_table.specs.Phases.{Mark}
use Rattle.mark_laws.specs.Types.{Kind}
use Rattle.mark_world.specs.Cycles.{Cycle}
use Rattle.mark_world.specs.Pages.{OfTarget}
use Rattle.mark_world.specs.Soundness.{AreIn}
use Rattle.nursery.specs.Young.{next_of}
use Rattle.object_graph.specs.Graphs.{Graph}
use Rattle.page_space.specs.Extents.{Space, eden_start, layouts_start}
use Rattle.write_barrier.specs.Layouts.{AreLayouts, HasLayouts}
use Rattle.write_barrier.specs.MutatorState.{MainShows, Mutator, heap_of, world_of}
use Rattle.write_barrier.specs.Storing.{IsMadeYoung, IsReadable, MayChange, MayHold, StoresOn}
use Rattle.write_barrier.proofs.SeenWorlds.{SeesOn, seen}

-- where nothing was stored, all goes on
pub stores_on_itself : (main : Mutator) → StoresOn main main
stores_on_itself main = record {
  space = refl;
  phase = refl;
  cycle = refl;
  sure = All-contains_itself main.cycle.sure;
  readable = λ mark readable. readable;
  goes = λ mark readable. goes_on_itself (world_of main);
}

-- what is in a list is in one that has grown twice
grown_again : (first next last : List ℕ) → AreIn next first → AreIn last next → AreIn last first
grown_again first next last early late k d l = All-contains (Contains last) next _ late (early k d l)

-- where words were stored twice, words were stored
pub stores_on_again : {first next last : Mutator} → StoresOn first next → StoresOn next last → StoresOn first last
stores_on_again {first} {next} {last} early late = record {
  space = late.space ∙ early.space;
  phase = late.phase ∙ early.phase;
  cycle = late.cycle ∙ ap (λ (one : Cycle). record one { sure = last.cycle.sure }) early.cycle;
  sure = grown_again first.cycle.sure next.cycle.sure last.cycle.sure early.sure late.sure;
  readable = λ mark readable. late.readable (early.phase ∙ mark) (early.readable mark readable);
  goes = λ mark readable. goes_on_again (world_of first) (world_of next) (world_of last) (early.goes mark readable)
      (late.goes (early.phase ∙ mark) (early.readable mark readable));
}

-- words with the same layout words have those of the same shapes
pub layouts_said : (space : Space) (words others : List ℕ) (paths : List Path)
    → layouts_in space others ≡ layouts_in space words → AreLayouts words (layouts_start space) paths
    → AreLayouts others (layouts_start space) paths
layouts_said space words others paths same are shape below =
    sym (slice_get-layouts_in space others shape below) ∙ ap (λ (ls : List ℕ). slice_get ls shape) same
    ∙ slice_get-layouts_in space words shape below ∙ are shape below

-- Words were stored where regions, phase and bound stay, the mutator may be sure of more, layout words stay those of
-- the shapes, and the world goes on to a sound one.
pub stores_by : {old new : Mutator} → new.seat.space ≡ old.seat.space → new.seat.phase ≡ old.seat.phase
    → new.recorded.bound ≡ old.recorded.bound → new.cycle ≡ record old.cycle { sure = new.cycle.sure }
    → AreIn new.cycle.sure old.cycle.sure → (HasLayouts old → HasLayouts new)
    → (old.seat.phase ≡ Mark → IsReadable old → SeesOn (world_of old) (world_of new)) → StoresOn old new
stores_by space phase bound cycle sure layouts sees = record {
  space = space;
  phase = phase;
  cycle = cycle;
  sure = sure;
  readable = λ mark readable. record {
    bounded = bound ∙ readable.bounded ∙ ap (λ (one : Space). eden_start one) (sym space);
    layouts = layouts readable.layouts;
    view = (sees mark readable).sound;
  };
  goes = λ mark readable. (sees mark readable).goes;
}

-- the same pages, layout words and cycle are the same world
same_world : (old new : Mutator) → new.seat.space ≡ old.seat.space → new.cycle ≡ old.cycle
    → words_of_pages (heap_of new) ≡ words_of_pages (heap_of old)
    → layouts_in new.seat.space new.seat.table ≡ layouts_in old.seat.space old.seat.table
    → world_of new ≡ world_of old
same_world old new space cycle words layouts =
    ap (λ (one : Space). seen (eden_start one) (words_of_pages (heap_of new))
    (layouts_in new.seat.space new.seat.table) new.cycle) space
    ∙ ap (λ (all : List ℕ). seen (eden_start old.seat.space) all (layouts_in new.seat.space new.seat.table) new.cycle)
    words
    ∙ ap (λ (all : List ℕ). seen (eden_start old.seat.space) (words_of_pages (heap_of old)) all new.cycle) layouts
    ∙ ap (λ (one : Cycle). seen (eden_start old.seat.space) (words_of_pages (heap_of old))
    (layouts_in old.seat.space old.seat.table) one) cycle

-- where a mutator's layout words and paths are the same
layouts_again : (old new : Mutator) → new.seat.space ≡ old.seat.space → new.paths ≡ old.paths
    → layouts_in new.seat.space new.seat.table ≡ layouts_in old.seat.space old.seat.table → HasLayouts old
    → HasLayouts new
layouts_again old new space paths layouts are =
    let here : layouts_in old.seat.space new.seat.table ≡ layouts_in old.seat.space old.seat.table =
    ap (λ (one : Space). layouts_in one new.seat.table) (sym space) ∙ layouts in
    subst (λ (one : Space). AreLayouts new.seat.table (layouts_start one) new.paths) (sym space)
    (subst (AreLayouts new.seat.table (layouts_start old.seat.space)) (sym paths)
    (layouts_said old.seat.space old.seat.table new.seat.table old.paths here are))

-- what a command does elsewhere leaves the pages
pub same_pages_store : {old new : Mutator} → new.seat.space ≡ old.seat.space → new.seat.phase ≡ old.seat.phase
    → new.cycle ≡ old.cycle → new.paths ≡ old.paths → new.recorded.bound ≡ old.recorded.bound
    → words_of_pages (heap_of new) ≡ words_of_pages (heap_of old)
    → layouts_in new.seat.space new.seat.table ≡ layouts_in old.seat.space old.seat.table → StoresOn old new
same_pages_store {old} {new} space phase cycle paths bound words layouts =
    stores_by space phase bound
    (cycle ∙ ap (λ (list : List ℕ). record old.cycle { sure = list }) (ap (λ (one : Cycle). one.sure) (sym cycle)))
    (subst (λ (one : Cycle). AreIn one.sure old.cycle.sure) (sym cycle) (All-contains_itself old.cycle.sure))
    (layouts_again old new space paths layouts)
    (λ mark readable. subst (SeesOn (world_of old)) (sym (same_world old new space cycle words layouts))
    (record { sound = readable.view; goes = goes_on_itself (world_of old) }))

-- cells that could be read can be
pub readable_stays : {old new : Mutator} → StoresOn old new → (old.seat.phase ≡ Mark → IsReadable old)
    → new.seat.phase ≡ Mark → IsReadable new
readable_stays stores readable mark =
    let was = sym stores.phase ∙ mark in stores.readable was (readable was)

-- a cell that may be changed may be changed again
pub may_change_stays : {old new : Mutator} {at size : ℕ} {kind : Kind} → StoresOn old new → MayChange old at size kind
    → MayChange new at size kind
may_change_stays {old} {new} {at} {size} {kind} stores may of_page mark =
    let was = sym stores.phase ∙ mark in
    let own = may (subst (λ (one : Space). at < eden_start one) stores.space of_page) was in
    record {
      readable = stores.readable was own.readable;
      claims = claims_go_on (world_of old) (world_of new) at size kind (stores.goes was own.readable) own.claims;
    }

-- a word that a slot may hold it may hold later
pub may_hold_stays : {old new : Mutator} {word : ℕ} → StoresOn old new → MayHold old word → MayHold new word
may_hold_stays {old} {new} {word} stores may mark =
    let holds = may (sym stores.phase ∙ mark) in
    let born : new.cycle.born ≡ old.cycle.born = ap (λ (one : Cycle). one.born) stores.cycle in
    record {
      fits = holds.fits;
      born = subst (λ (one : Space). OfTarget (eden_start one) word (Contains new.cycle.born)) (sym stores.space)
          (subst (λ (list : List ℕ). OfTarget (eden_start old.seat.space) word (Contains list)) (sym born)
          holds.born);
    }

-- what is made young is made young later
pub made_young_stays : {old new : Mutator} {at : ℕ} → StoresOn old new → IsMadeYoung old at → IsMadeYoung new at
made_young_stays {at = at} stores young mark =
    subst (λ (one : Space). eden_start one ≤ at) (sym stores.space) (young (sym stores.phase ∙ mark))

-- between two commands helpers may read cells
pub shown_is_readable : {main : Mutator} {graph : Graph} → MainShows main graph → main.seat.phase ≡ Mark
    → IsReadable main
shown_is_readable shown mark = record {
  bounded = shown.bounded;
  layouts = shown.shows.whole.sized.layouts;
  view = (shown.calm mark).view;
}

-- each cell may be changed
pub cell_may_change : {main : Mutator} {graph : Graph} {cell : Cell} {words : List ℕ} → MainShows main graph
    → HasCell (heap_of main) cell words → MayChange main cell.at cell.size cell.layout.kind
cell_may_change {main} {graph} {cell} {words} shown has of_page mark = record {
  readable = shown_is_readable shown mark;
  claims = page_cells_are_claimed (heap_of main) main.cycle (world_of main) cell words shown.shows.whole
      (shown.calm mark).rests (record { is = refl }) has of_page;
}

-- and the next cell is young where a cycle is open
pub next_is_young : {main : Mutator} {graph : Graph} → MainShows main graph → IsMadeYoung main (next_of main.young)
next_is_young {main} shown mark =
    let none = (shown.calm mark).granted in
    let space : eden_start main.young.space ≡ eden_start main.seat.space =
    ap (λ (one : Space). eden_start one) shown.tied.space in
    grind (arith, nat_tests, none, space)
