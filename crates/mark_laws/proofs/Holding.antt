-- The cells of a world stay right: free starts read cells that lie apart, and the mutator's own are published, born
-- and black.
use Rattle.std.proofs.Common.{ℕ, ◌<◌, ◌≡◌, ◌≢◌, false, IsTrue, List, length, get_or, slice_index, slice_set}
use Rattle.std.proofs.Common.{slice_get, Option, Some, None, IsSome, IsSomeAnd, All, Contains, refl, sym, ap, subst}
use Rattle.std.proofs.Common.{◌∙◌, ◌+◌, ◌&&◌, nat_le, nat_lt, arith}
use Rattle.std.proofs.lemmas.List.{get_or-set_same}
use Rattle.std.proofs.lemmas.List.Elements.{All-contains}
use Rattle.mark_laws.specs.Types.{Reading, Event, Actor, HelperView, MainView, World}
use Rattle.core_parts.specs.Lists.{joined}
use Rattle.core_parts.proofs.Joining.{joined_in}
use Rattle.mark_world.specs.declared.event.Event.TheVariants as event
use Rattle.mark_world.specs.Pages.{EachFree, is_free, is_inside}
use Rattle.mark_world.specs.Steps.{actor, black}
use Rattle.mark_world.specs.Conditions.{MayMain}
use Rattle.mark_world.specs.AfterEvents.{after, after_main, after_return, after_step, Possible, PossibleStep}
use Rattle.mark_world.specs.Coverage.{cell_of, colour_of}
use Rattle.mark_world.specs.Soundness.{AreIn, HasCells, HasLists, HasSizes}
use Rattle.mark_laws.specs.Cells.{Widens}
use Rattle.mark_laws.proofs.Colours.{each_colour, step_rises}
use Rattle.mark_laws.proofs.Starts.{start_old, value_of}
use Rattle.mark_laws.proofs.Joins.{some_and}
use Rattle.mark_laws.proofs.Sureness.{helper_main, joined_all, more_born}
use Rattle.mark_laws.proofs.Sizing.{step_sized}
use Rattle.mark_laws.proofs.FreeStarts.{step_free}
use Rattle.mark_laws.proofs.CellsAfter.{step_widens}

-- no start is free in the later world that was not, and each free start's cell is there in it, or a wider one of that
-- size
record StaysWide (world later : World) : Type 0 where
  free : (start : ℕ) → IsTrue (is_free later.main start) → IsTrue (is_free world.main start)
  widens : (start : ℕ) → IsTrue (is_free world.main start) → (cell : Reading) → cell_of world start ≡ Some cell
      → IsSomeAnd (cell_of later start) (Widens cell)

-- the cell of a free start in both worlds
record ReadTwice (world later : World) (start : ℕ) : Type 0 where
  before : Reading
  was : cell_of world start ≡ Some before
  now : Reading
  is : cell_of later start ≡ Some now
  wider : Widens before now

-- a start that is free in the later world has a cell in both
read_twice : (world later : World) → HasCells world → StaysWide world later → (start : ℕ)
    → IsTrue (is_free later.main start) → ReadTwice world later start
read_twice world later cells wide start free =
    let free_then = wide.free start free in
    let read = value_of (cell_of world start) (cells.read start free_then) in
    let now = some_and (Widens read.0) (cell_of later start) (wide.widens start free_then read.0 read.1) in
    record { before = read.0; was = read.1; now = now.0; is = now.1; wider = now.2 }

-- each free start reads a cell
reads_hold : (world later : World) → HasCells world → StaysWide world later
    → EachFree later.main (λ start. IsSome (cell_of later start))
reads_hold world later cells wide start free =
    subst (λ (o : Option Reading). IsSome o) (sym (read_twice world later cells wide start free).is) refl

-- what lies in a cell lies in one of the same size
size_inside : (start : ℕ) (before now : Reading) (other : ℕ) → now.size ≡ before.size
    → is_inside start (Some now) other ≡ is_inside start (Some before) other
size_inside start before now other same = ap (λ size. nat_le start other && nat_lt other (start + size)) same

-- no free start begins in another's cell
apart_holds : (world later : World) → HasCells world → StaysWide world later → (start other : ℕ)
    → IsTrue (is_free later.main start) → IsTrue (is_free later.main other) → start ≢ other
    → is_inside start (cell_of later start) other ≡ false
apart_holds world later cells wide start other free also differs =
    let twice = read_twice world later cells wide start free in
    let before : is_inside start (cell_of world start) other ≡ false =
    cells.apart start (wide.free start free) other (wide.free other also) differs in
    ap (λ (c : Option Reading). is_inside start c other) twice.is
    ∙ size_inside start twice.before twice.now other twice.wider.size
    ∙ sym (ap (λ (c : Option Reading). is_inside start c other) twice.was) ∙ before

-- the cells that are born, or that the mutator made black, are published; the latter are born and black
record HasOwn (world : World) : Type 0 where
  born : AreIn world.main.starts world.main.born
  mine : AreIn world.main.starts world.main.mine
  mine_born : AreIn world.main.born world.main.mine
  mine_black : All (λ at. colour_of world at ≡ black) world.main.mine

-- what is black in a world is so in a later one
abbrev StaysBlack : World → World → Type 0
StaysBlack world later = (at : ℕ) → colour_of world at ≡ black → colour_of later at ≡ black

-- the mutator's black cells stay black
own_black : (world later : World) → HasCells world → StaysBlack world later
    → All (λ at. colour_of later at ≡ black) world.main.mine
own_black world later cells stays k d l = stays (get_or world.main.mine k d) (cells.mine_black k d l)

-- a cell that is made black is black
made_black : (colours : List ℕ) (at : ℕ) → at < length colours → slice_index (slice_set colours at black) at ≡ black
made_black colours at within = get_or-set_same colours at black 0 within

-- a step of the mutator leaves its own cells right
main_own : (world : World) (of : Event) → HasSizes world → HasCells world
    → MayMain world.old world.words world.layouts world.main of → StaysBlack world (after_main world of)
    → HasOwn (after_main world of)
main_own world (event.Blacken at) sizes cells may stays =
    let start = All-contains (Contains world.main.starts) world.main.born at cells.born may in
    let later : World = after_main world (event.Blacken at) in
    record {
      born = cells.born;
      mine = joined_all (Contains world.main.starts) world.main.mine at cells.mine start;
      mine_born = joined_all (Contains world.main.born) world.main.mine at cells.mine_born may;
      mine_black = joined_all (λ (a : ℕ). colour_of later a ≡ black) world.main.mine at
          (own_black world later cells stays)
          (made_black world.colours at (start_old world sizes cells at start));
    }
main_own world (event.NewBlack at) sizes cells may stays =
    let starts : List ℕ = joined world.main.starts at in
    let born : List ℕ = joined world.main.born at in
    let later : World = after_main world (event.NewBlack at) in
    record {
      born = joined_all (Contains starts) world.main.born at (more_born world.main.starts world.main.born at cells.born)
          (joined_in world.main.starts at);
      mine = joined_all (Contains starts) world.main.mine at (more_born world.main.starts world.main.mine at cells.mine)
          (joined_in world.main.starts at);
      mine_born = joined_all (Contains born) world.main.mine at
          (more_born world.main.born world.main.mine at cells.mine_born)
          (joined_in world.main.born at);
      mine_black = joined_all (λ (a : ℕ). colour_of later a ≡ black) world.main.mine at
          (own_black world later cells stays)
          (made_black world.colours at (omega (arith, sizes.colours, may.page)));
    }
main_own world of sizes cells may stays = record {
  born = cells.born;
  mine = cells.mine;
  mine_born = cells.mine_born;
  mine_black = own_black world (after_main world of) cells stays;
}

-- where the mutator's lists are as before
same_own : (world later : World) → later.main ≡ world.main → HasCells world → StaysBlack world later → HasOwn later
same_own world later same cells stays = record {
  born = subst (λ (main : MainView). AreIn main.starts main.born) (sym same) cells.born;
  mine = subst (λ (main : MainView). AreIn main.starts main.mine) (sym same) cells.mine;
  mine_born = subst (λ (main : MainView). AreIn main.born main.mine) (sym same) cells.mine_born;
  mine_black = subst (λ (main : MainView). All (λ at. colour_of later at ≡ black) main.mine) (sym same)
      (own_black world later cells stays);
}

-- a seat that is taken back
return_own : (world : World) (number : ℕ) (view : Option HelperView) → HasCells world
    → StaysBlack world (after_return world number view) → HasOwn (after_return world number view)
return_own world number None cells stays = same_own world world refl cells stays
return_own world number (Some view) cells stays = record {
  born = cells.born;
  mine = cells.mine;
  mine_born = cells.mine_born;
  mine_black = own_black world (after_return world number (Some view)) cells stays;
}

-- every step leaves the mutator's own cells right
step_own : (world : World) (of : Event) (by : Actor) → HasSizes world → HasCells world → PossibleStep world of by
    → StaysBlack world (after_step world of by) → HasOwn (after_step world of by)
step_own world of Actor.Mutator sizes cells may stays = main_own world of sizes cells may stays
step_own world of (Actor.Helper number) sizes cells may stays =
    same_own world (after_step world of (Actor.Helper number))
    (helper_main world number of (slice_get world.helpers number))
    cells stays
step_own world of Actor.Lends sizes cells may stays = same_own world (after_step world of Actor.Lends) refl cells stays
step_own world of (Actor.Returns number) sizes cells may stays =
    return_own world number (slice_get world.helpers number) cells stays

-- what is black stays so
pub step_blacks : (world : World) (of : Event) (by : Actor) → HasSizes world → HasLists world → PossibleStep world of by
    → StaysBlack world (after_step world of by)
step_blacks world of by sizes lists may at is_black =
    let rise = step_rises world of by sizes at in
    let most = each_colour (after_step world of by) (step_sized world of by sizes lists may) at in
    let same : colour_of (after_step world of by) at ≡ black = omega (arith, rise, most, is_black) in same

-- every step leaves the cells right
pub step_hold : (world : World) (of : Event) (by : Actor) → HasSizes world → HasCells world → HasLists world
    → PossibleStep world of by → HasCells (after_step world of by)
step_hold world of by sizes cells lists may =
    let later : World = after_step world of by in
    let wide : StaysWide world later = record {
      free = step_free world of by;
      widens = step_widens world of by cells may;
    } in
    let own : HasOwn later = step_own world of by sizes cells may (step_blacks world of by sizes lists may) in
    record {
      read = reads_hold world later cells wide;
      apart = λ start free other also differs. apart_holds world later cells wide start other free also differs;
      born = own.born;
      mine = own.mine;
      mine_born = own.mine_born;
      mine_black = own.mine_black;
    }

-- a possible event leaves the cells right
pub cells_hold : (world : World) (of : Event) → HasSizes world → HasCells world → HasLists world → Possible world of
    → HasCells (after world of)
cells_hold world of = step_hold world of (actor of)
