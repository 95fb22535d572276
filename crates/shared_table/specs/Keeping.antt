-- The rule of the table: what holds between any two steps on its words.
use Rattle.std.specs.Prelude.{◌≡◌, ◌≢◌, ◌≤◌, ℕ, Bool, true, IsTrue, List, [], ◌∷◌, ◌++◌, All, length, slice_index}
use Rattle.std.specs.List.{count_by}
use Rattle.atomic_table.specs.Table.{State}
use Rattle.page_space.specs.Extents.{board_words}
use Rattle.mark_laws.specs.Types.{HelperView}
use Rattle.mark_laws.specs.Runs.{IsSoundAndBorn}
use Rattle.mark_world.specs.Steps.{white, black}
use Rattle.shared_table.specs.declared.overview.Counts.{Counts}
use Rattle.shared_table.specs.declared.overview.Overview.{Overview}
use Rattle.shared_table.specs.declared.overview.View.{View}
use Rattle.shared_table.specs.declared.overview.View.TheVariants.{Main, Helper, Gone}
use Rattle.shared_table.specs.declared.phase.Phase.{Phase}
use Rattle.shared_table.specs.declared.phase.Phase.TheVariants.{Mark}
use Rattle.shared_table.specs.Worlds.{views_of, world}

-- Each seat but the main one is lent, knows the sizes of the table, and its helper's view is out; or it was taken back.
abbrev pub AreLent : Counts → List View → Type 0
AreLent counts [] = Unit {0}
AreLent counts (Main main ∷ others) = ⊥
AreLent counts (Helper lent ∷ others) = (lent.counts ≡ counts) × IsTrue lent.view.out × AreLent counts others
AreLent counts (Gone ∷ others) = AreLent counts others

-- none of these cells is white
abbrev pub AreNotWhite : List ℕ → List ℕ → Type 0
AreNotWhite colours [] = Unit {0}
AreNotWhite colours (at ∷ rest) = (slice_index colours at ≢ white) × AreNotWhite colours rest

-- what a lent seat has seen not white is not white
abbrev pub AreSeen : List ℕ → List View → Type 0
AreSeen colours [] = Unit {0}
AreSeen colours (Main main ∷ others) = AreSeen colours others
AreSeen colours (Helper lent ∷ others) = AreNotWhite colours lent.seen × AreSeen colours others
AreSeen colours (Gone ∷ others) = AreSeen colours others

-- a helper's view is out
abbrev pub is_out : HelperView → Bool
is_out view = view.out

-- the words of the table: those of the pages, the layout words, the colours and the board
abbrev pub joined_words : List ℕ → List ℕ → List ℕ → List ℕ → List ℕ
joined_words words layouts colours board = words ++ (layouts ++ (colours ++ board))

-- the lists are of the sizes of the table, and each colour is one of three
pub record FitsCounts (counts : Counts) (n : ℕ) (ws ls cs bs : List ℕ) : Type 0 where
  pub old : n ≡ counts.old
  pub words : length ws ≡ counts.old
  pub layouts : length ls ≡ counts.shapes
  pub colours : length cs ≡ counts.old
  pub three : All (λ colour. colour ≤ black) cs
  pub board : length bs ≡ board_words

-- The seats but the main one are as it knows: so many were ever lent, and so many are out; none is out where helpers
-- may not mark.
pub record AreSeats (counts : Counts) (phase : Phase) (now ever : ℕ) (others : List View) : Type 0 where
  pub lents : AreLent counts others
  pub lent : length others ≡ ever
  pub out : now ≡ count_by is_out (views_of others)
  pub idle : (phase ≡ Mark → ⊥) → now ≡ 0

-- The rule, where the main seat has this view. The words of the pages and the layout words are as it knows in each
-- phase, since no other seat puts one. So are the colours and the board while they are at home, where no seat is out.
-- While helpers may mark, the world is sound, and marking reaches born cells alone.
pub record KeptBy {S : Type 0} (counts : Counts) (state : State S View) (main : Overview) : Type 0 where
  pub others : List View
  pub colours : List ℕ
  pub board : List ℕ
  pub views : state.views ≡ Main main ∷ others
  pub words : state.words ≡ joined_words main.words main.layouts colours board
  pub sizes : FitsCounts counts main.old main.words main.layouts colours board
  pub seats : AreSeats counts main.phase main.out main.lent others
  pub home : main.home ≡ true → (colours ≡ main.colours) × (board ≡ main.board) × (main.out ≡ 0)
  pub seen : main.phase ≡ Mark → AreSeen colours others
  pub marking : main.phase ≡ Mark → IsSoundAndBorn (world main others colours board)

-- the rule
abbrev pub KeepsRule : {S : Type 0} → Counts → State S View → Type 0
KeepsRule counts state = (main : Overview) × KeptBy counts state main
