-- Which steps a helper's view allows, each at the spot that it touches.
use Rattle.std.proofs.Common.{◌≡◌, ℕ, ◌+◌, ◌<◌, IsTrue, Contains, Option, Some, IsSomeAnd, refl, sym, ap, subst, ◌∙◌}
use Rattle.std.specs.Option.{option_and_then, option_map}
use Rattle.std.proofs.lemmas.List.{set-get_or}
use Rattle.tagged_word.specs.Cells.{length_offset}
use Rattle.tagged_word.specs.Readings.{header_in}
use Rattle.page_space.specs.Extents.{board_words}
use Rattle.mark_laws.specs.Types.{Header, HelperView, Snap, Spot}
use Rattle.mark_world.specs.declared.event.Event.TheVariants as event
use Rattle.mark_world.specs.Conditions.{MayBegin, MayGive, MayHelper}
use Rattle.mark_world.specs.Steps.{layout_spot, snap_settled}
use Rattle.mark_laws.proofs.Joins.{some_and}
use Rattle.shared_table.specs.HelperTold.{HasReadShape, IsReading}
use Rattle.shared_table.proofs.HelperEvents.{IsStep}

module _ (view : HelperView) (out : IsTrue view.out) where
  -- the header of a cell that waits is loaded
  pub header_step : (cell : ℕ) → MayBegin view → Contains view.grey cell
      → IsStep view (λ j. event.LoadHeader j cell) (Spot.Heap cell)
  header_step cell may waits = record {
    acts = λ j. refl;
    stays = λ j no. no;
    may = λ j. may;
    asks = λ j. waits;
    touches = λ j. refl;
    same = λ j m. refl;
    learns = λ j old m. refl;
    out = λ old m. out;
    pages = λ w. set-get_or w.words cell 0;
    layouts = λ w. refl;
  }

  -- a layout word
  pub layout_step : (shape : ℕ) → MayHelper view (event.LoadLayout 0) → HasReadShape view shape
      → IsStep view (λ j. event.LoadLayout j) (Spot.Layout shape)
  layout_step shape may has =
      let s = some_and (λ (snap : Snap). IsSomeAnd (header_in snap.header) (λ header. header.shape ≡ shape)) view.snap
      has in
      let h = some_and (λ (header : Header). header.shape ≡ shape) (header_in s.0.header) s.2 in
      record {
        acts = λ j. refl;
        stays = λ j no. no;
        may = λ j. may;
        asks = λ j. tt;
        touches = λ j. ap (option_and_then layout_spot) s.1
            ∙ (ap (option_map (λ (header : Header). Spot.Layout header.shape)) h.1
            ∙ ap (λ (i : ℕ). Some (Spot.Layout i)) h.2);
        same = λ j m. refl;
        learns = λ j old m. refl;
        out = λ old m. out;
        pages = λ w. refl;
        layouts = λ w. set-get_or w.layouts shape 0;
      }

  -- the length of the snap's cell
  pub length_step : (cell : ℕ) → MayHelper view (event.LoadLength 0) → IsReading view cell
      → IsStep view (λ j. event.LoadLength j) (Spot.Heap (cell + 1))
  length_step cell may reads =
      let s = some_and (λ (snap : Snap). snap.cell ≡ cell) view.snap reads in
      record {
        acts = λ j. refl;
        stays = λ j no. no;
        may = λ j. may;
        asks = λ j. tt;
        touches = λ j. ap (option_map (λ (snap : Snap). Spot.Heap (snap.cell + length_offset))) s.1
            ∙ ap (λ (i : ℕ). Some (Spot.Heap (i + length_offset))) s.2;
        same = λ j m. refl;
        learns = λ j old m. refl;
        out = λ old m. out;
        pages = λ w. set-get_or w.words (cell + 1) 0;
        layouts = λ w. refl;
      }

  -- a slot of it
  pub slot_step : (cell offset : ℕ) → MayHelper view (event.LoadSlot 0 offset) → IsReading view cell
      → IsStep view (λ j. event.LoadSlot j offset) (Spot.Heap (cell + offset))
  slot_step cell offset may reads =
      let s = some_and (λ (snap : Snap). snap.cell ≡ cell) view.snap reads in
      record {
        acts = λ j. refl;
        stays = λ j no. no;
        may = λ j. may;
        asks = λ j. tt;
        touches = λ j. ap (option_map (λ (snap : Snap). Spot.Heap (snap.cell + offset))) s.1
            ∙ ap (λ (i : ℕ). Some (Spot.Heap (i + offset))) s.2;
        same = λ j m. refl;
        learns = λ j old m. refl;
        out = λ old m. out;
        pages = λ w. set-get_or w.words (cell + offset) 0;
        layouts = λ w. refl;
      }

  -- the colour of the snap's cell, when it is settled
  pub settle_step : (cell : ℕ) → MayHelper view (event.Settle 0) → IsReading view cell
      → IsStep view (λ j. event.Settle j) (Spot.Colour cell)
  settle_step cell may reads =
      let s = some_and (λ (snap : Snap). snap.cell ≡ cell) view.snap reads in
      record {
        acts = λ j. refl;
        stays = λ j no. no;
        may = λ j. may;
        asks = λ j. tt;
        touches = λ j. ap (option_map (λ (snap : Snap). Spot.Colour snap.cell)) s.1
            ∙ ap (λ (i : ℕ). Some (Spot.Colour i)) s.2;
        same = λ j m. refl;
        learns = λ j old m. refl;
        out = λ old m. subst (λ (o : Option Snap). IsTrue (snap_settled old view m o).out) (sym s.1) out;
        pages = λ w. refl;
        layouts = λ w. refl;
      }

  -- that of a cell that is to be visited
  pub shade_step : (at : ℕ) → Contains view.visit at → IsStep view (λ j. event.ShadeHelper j at) (Spot.Colour at)
  shade_step at may = record {
    acts = λ j. refl;
    stays = λ j no. no;
    may = λ j. may;
    asks = λ j. tt;
    touches = λ j. refl;
    same = λ j m. refl;
    learns = λ j old m. refl;
    out = λ old m. out;
    pages = λ w. refl;
    layouts = λ w. refl;
  }

  -- a word of the board, where a cell is given
  pub give_step : (place at : ℕ) → MayGive view.grey place at
      → IsStep view (λ j. event.Give j place at) (Spot.Board place)
  give_step place at may = record {
    acts = λ j. refl;
    stays = λ j no. no;
    may = λ j. may;
    asks = λ j. tt;
    touches = λ j. refl;
    same = λ j m. refl;
    learns = λ j old m. refl;
    out = λ old m. out;
    pages = λ w. refl;
    layouts = λ w. refl;
  }

  -- or taken
  pub take_step : (place : ℕ) → place < board_words → IsStep view (λ j. event.Take j place) (Spot.Board place)
  take_step place may = record {
    acts = λ j. refl;
    stays = λ j no. no;
    may = λ j. may;
    asks = λ j. tt;
    touches = λ j. refl;
    same = λ j m. refl;
    learns = λ j old m. refl;
    out = λ old m. out;
    pages = λ w. refl;
    layouts = λ w. refl;
  }
