-- A helper's step, and a seat that is lent or taken back, leave the words of the heap and the layout words.
use Rattle.std.proofs.Common.{subst, sym, ℕ, ◌≡◌, ◌∙◌, Option, Some, None, refl, ap}
use Rattle.mark_laws.specs.Types.{Event, HelperView, World}
use Rattle.mark_world.specs.Pages.{cell_at}
use Rattle.mark_world.specs.AfterEvents.{after_helper, after_return}
use Rattle.mark_world.specs.Coverage.{cell_of}
use Rattle.mark_laws.proofs.Helped.{helper_helped}

-- two worlds have as many old words, the same words and the same layout words
pub record SamePages (world later : World) : Type 0 where
  pub old : later.old ≡ world.old
  pub words : later.words ≡ world.words
  pub layouts : later.layouts ≡ world.layouts

-- so they read the same cells
pub same_cells : (world later : World) → SamePages world later → (at : ℕ) → cell_of later at ≡ cell_of world at
same_cells world later same at =
    ap (λ old. cell_at old later.words later.layouts at) same.old
    ∙ ap (λ words. cell_at world.old words later.layouts at) same.words
    ∙ ap (λ layouts. cell_at world.old world.words layouts at) same.layouts

-- a world has its own pages
pub own_pages : (world : World) → SamePages world world
own_pages world = record { old = refl; words = refl; layouts = refl }

-- a step of a helper leaves the pages
pub helper_pages : (world : World) (number : ℕ) (of : Event) (view : Option HelperView)
    → SamePages world (after_helper world number of view)
helper_pages world number of None = own_pages world
helper_pages world number of (Some view) =
    subst (SamePages world) (sym (helper_helped world number view of).is) record
    { old = refl; words = refl; layouts = refl }

-- taking a seat back leaves them
pub return_pages : (world : World) (number : ℕ) (view : Option HelperView)
    → SamePages world (after_return world number view)
return_pages world number None = own_pages world
return_pages world number (Some view) = record { old = refl; words = refl; layouts = refl }
