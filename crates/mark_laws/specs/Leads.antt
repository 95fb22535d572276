-- The old cells to which words lead, and what they are at the end of a cycle.
use Rattle.std.specs.Prelude.{◌≡◌, ◌≢◌, ℕ, ◌+◌, List, All, Contains, slice_index, Some}
use Rattle.mark_laws.specs.Types.{Reading, World}
use Rattle.mark_world.specs.Pages.{OfTarget, slots_of, target}
use Rattle.mark_world.specs.Steps.{white, black}
use Rattle.mark_world.specs.Coverage.{cell_of, colour_of}
use Rattle.mark_world.specs.Soundness.{Sound}
use Rattle.mark_world.specs.BetweenCommands.{IsDrained, Settled}
use Rattle.mark_laws.specs.Runs.{HasNoneOut}

-- words lead to an old cell: one of them refers to it, or a tagged slot of a cell that they lead to
pub data LedTo (world : World) (words : List ℕ) : ℕ → Type 0 where
  root : (word at : ℕ) → Contains words word → target world.old word ≡ Some at → LedTo world words at
  next : (from at offset : ℕ) (cell : Reading) → LedTo world words from → cell_of world from ≡ Some cell
      → Contains (slots_of cell) offset → target world.old (slice_index world.words (from + offset)) ≡ Some at
      → LedTo world words at

-- a word has no target, or one that is not white
abbrev pub HasColouredTarget : World → ℕ → Type 0
HasColouredTarget world word = OfTarget world.old word (λ to. colour_of world to ≢ white)

-- In a sound world where nothing waits and the mutator's part is done, words of which none has a white target lead to
-- black cells alone. So a pause has to shade the targets of root words and of young cells' words, and no more.
abbrev pub LedToIsBlack : Type 0
LedToIsBlack =
    (world : World) (words : List ℕ) → Sound world → Settled world → IsDrained world
    → All (HasColouredTarget world) words → (at : ℕ) → LedTo world words at → colour_of world at ≡ black

-- in such a world each cell that the mutator is sure of is black
abbrev pub SureIsBlack : Type 0
SureIsBlack =
    (world : World) → Sound world → Settled world → IsDrained world
    → All (λ at. colour_of world at ≡ black) world.main.sure

-- In a sound world with no seat out, where the mutator's part is done, what a tagged slot of a published black cell
-- refers to is not white. Grey cells may wait anywhere: so a pause may end a cycle with a marking of its own, which
-- looks at no slot of a black cell.
abbrev pub BlackLeadsOn : Type 0
BlackLeadsOn =
    (world : World) (from at offset : ℕ) (cell : Reading) → Sound world → Settled world → HasNoneOut world
    → Contains world.main.starts from → colour_of world from ≡ black → cell_of world from ≡ Some cell
    → Contains (slots_of cell) offset → target world.old (slice_index world.words (from + offset)) ≡ Some at
    → colour_of world at ≢ white
