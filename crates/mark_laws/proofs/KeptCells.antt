-- What a cell keeps while it is grey: its size, its tagged slots, and what the header that was read stands for.
use Rattle.std.proofs.Common.{ℕ, ◌≤◌, ◌≡◌, ◌∙◌, true, List, length, slice_get, slice_index, get_or}
use Rattle.std.proofs.Common.{Some, Contains, IsTrue, refl, sym, ap, subst, arith}
use Rattle.std.proofs.lemmas.List.Elements.{All-contains, All-contains_itself}
use Rattle.mark_laws.specs.Types.{Reading, Event, Laid, Actor, World}
use Rattle.tagged_word.specs.Cells.{marks_by_length}
use Rattle.tagged_word.proofs.Cells.{some_same}
use Rattle.mark_world.specs.declared.event.Event.TheVariants as event
use Rattle.mark_world.specs.Pages.{is_free, slots_of}
use Rattle.mark_world.specs.Safety.{laid_in}
use Rattle.mark_world.specs.Steps.{actor}
use Rattle.mark_world.specs.Conditions.{MayMain}
use Rattle.mark_world.specs.AfterEvents.{Possible, PossibleStep, WerePossible, after, after_main, after_step, moment}
use Rattle.mark_world.specs.Coverage.{cell_of, colour_of}
use Rattle.mark_world.specs.Soundness.{HasCells}
use Rattle.mark_world.specs.OneLayouts.{KeepsSlots}
use Rattle.mark_laws.specs.Cells.{StoresHeader, Widens}
use Rattle.mark_laws.specs.Runs.{IsSoundAndBorn}
use Rattle.mark_laws.proofs.CellsAfter.{cells_stay, step_widens}
use Rattle.mark_laws.proofs.Colours.{colours_rise}
use Rattle.mark_laws.proofs.Joins.{some_and}
use Rattle.mark_laws.proofs.Laid.{cell_laid, laid_of, laid_stays, safe_from}
use Rattle.mark_laws.proofs.Moments.{at_each_from, next_moment}
use Rattle.mark_laws.proofs.Names.{safe_unmarked}
use Rattle.mark_laws.proofs.SamePages.{helper_pages, return_pages}

-- A cell is what it was when it was read, as far as a snap that began then minds: it has its size and its tagged slots;
-- it is unchanged if marking asks for its length; and the header that was read stands for what it was.
pub record Keeps (world : World) (cell header : ℕ) (read : Reading) : Type 0 where
  pub now : Reading
  pub is : cell_of world cell ≡ Some now
  pub slots : KeepsSlots read now
  pub long : marks_by_length read.layout.kind ≡ true → now ≡ read
  pub laid : laid_in world.layouts header ≡ Some (laid_of read)

-- it is so when it is read
pub keeps_itself : (world : World) (cell header : ℕ) (read : Reading) → cell_of world cell ≡ Some read
    → header ≡ slice_index world.words cell → Keeps world cell header read
keeps_itself world cell header read e is = record {
  now = read;
  is = e;
  slots = record { size = refl; tagged = All-contains_itself (slots_of read) };
  long = λ marks. refl;
  laid = ap (laid_in world.layouts) is ∙ cell_laid world cell read e;
}

-- what a header stands for it does after a step of the mutator
main_laid : (world : World) (of : Event) → MayMain world.old world.words world.layouts world.main of → (header : ℕ)
    (laid : Laid) → laid_in world.layouts header ≡ Some laid
    → laid_in (after_main world of).layouts header ≡ Some laid
main_laid world (event.AddLayout shape word) may header laid e =
    laid_stays world.layouts shape word header laid may.unused e
main_laid world _ may header laid e = e

-- and after every step
step_laid : (world : World) (of : Event) (by : Actor) → PossibleStep world of by → (header : ℕ) (laid : Laid)
    → laid_in world.layouts header ≡ Some laid → laid_in (after_step world of by).layouts header ≡ Some laid
step_laid world of Actor.Mutator may header laid e = main_laid world of may header laid e
step_laid world of (Actor.Helper number) may header laid e =
    ap (λ (ls : List ℕ). laid_in ls header) (helper_pages world number of (slice_get world.helpers number)).layouts ∙ e
step_laid world of Actor.Lends may header laid e = e
step_laid world of (Actor.Returns number) may header laid e =
    ap (λ (ls : List ℕ). laid_in ls header) (return_pages world number (slice_get world.helpers number)).layouts ∙ e

-- the header of a cell whose length marking asks for can't change
long_no_header : (world : World) (of : Event) → Possible world of → (cell : ℕ) (now : Reading)
    → cell_of world cell ≡ Some now → marks_by_length now.layout.kind ≡ true → StoresHeader of cell → ⊥
long_no_header world (event.StoreHeader at word) may cell now e marks same =
    let s = safe_from world.layouts (slice_index world.words at) word may.safe in
    let was : s.old ≡ laid_of now = some_same s.was (cell_laid world at now (ap (cell_of world) same ∙ e)) in
    safe_unmarked s.old s.new s.change (ap (λ (l : Laid). marks_by_length l.layout.kind) was ∙ marks)
long_no_header world _ may cell now e marks stores = stores

-- a cell keeps that through an event
keeps_on : (world : World) (of : Event) → HasCells world → Possible world of → (cell header : ℕ) (read : Reading)
    → IsTrue (is_free world.main cell) → Keeps world cell header read → Keeps (after world of) cell header read
keeps_on world of cells may cell header read free keeps =
    let later : World = after world of in
    let next = some_and (Widens keeps.now) (cell_of later cell)
    (step_widens world of (actor of) cells may cell free keeps.now keeps.is) in
    record {
      now = next.0;
      is = next.1;
      slots = record {
        size = next.2.size ∙ keeps.slots.size;
        tagged = λ k d l. All-contains (Contains (slots_of next.0)) (slots_of keeps.now) (get_or (slots_of read) k d)
            next.2.slots (keeps.slots.tagged k d l);
      };
      long = λ marks.
          let same : keeps.now ≡ read = keeps.long marks in
          let asks : marks_by_length keeps.now.layout.kind ≡ true =
          ap (λ (r : Reading). marks_by_length r.layout.kind) same ∙ marks in
          let still = cells_stay world of cells may cell (long_no_header world of may cell keeps.now keeps.is asks) free
          keeps.now keeps.is in
          some_same next.1 still ∙ same;
      laid = step_laid world of (actor of) may header (laid_of read) keeps.laid;
    }

-- the worlds at the moments up to one are whole
abbrev pub AreWhole : World → List Event → ℕ → Type 0
AreWhole start events count = (k : ℕ) → k ≤ count → IsSoundAndBorn (moment start events k)

-- a cell keeps that from one moment to another, if it is a free start at each
pub keeps_along : (start : World) (events : List Event) (from count cell header : ℕ) (read : Reading)
    → count ≤ length events → WerePossible start events count → AreWhole start events count
    → ((k : ℕ) → from ≤ k → k ≤ count → IsTrue (is_free (moment start events k).main cell))
    → Keeps (moment start events from) cell header read → (k : ℕ) → from ≤ k → k ≤ count
    → Keeps (moment start events k) cell header read
keeps_along start events from count cell header read within were whole free first =
    at_each_from events from count (λ k. Keeps (moment start events k) cell header read) within first
    (λ k of begun early there keeps.
    subst (λ (w : World). Keeps w cell header read) (sym (next_moment start events k of there))
    (keeps_on (moment start events k) of (whole k (omega (arith, early))).0.cells (were k of early there) cell header
    read (free k begun (omega (arith, early))) keeps))

-- no colour is lighter at a later moment
pub rises_along : (start : World) (events : List Event) (from count cell : ℕ) → count ≤ length events
    → WerePossible start events count → AreWhole start events count → (k : ℕ) → from ≤ k → k ≤ count
    → colour_of (moment start events from) cell ≤ colour_of (moment start events k) cell
rises_along start events from count cell within were whole =
    let first : ℕ = colour_of (moment start events from) cell in
    at_each_from events from count (λ k. first ≤ colour_of (moment start events k) cell) within (omega arith)
    (λ k of begun early there before.
    subst (λ (w : World). first ≤ colour_of w cell) (sym (next_moment start events k of there))
    (let rise = colours_rise (moment start events k) of (whole k (omega (arith, early))).0.sizes cell in
    omega (arith, rise, before)))
