-- Lists of what waits: what stays, what joins and leaves, and what loads leave.
use Rattle.std.proofs.Common.{ℕ, ◌+◌, ◌≡◌, ◌≢◌, ◌==◌, ◌∙◌, ◌⊎◌, inl, inr, Bool, true, false}
use Rattle.std.proofs.Common.{List, [], ◌∷◌, get_or, slice_index, slice_set, slice_get, Option, Some, None, IfSome, All}
use Rattle.std.proofs.Common.{Contains, refl, sym, subst, arith, suc, if◌then◌else◌}
use Rattle.std.specs.Option.{option_map, option_and_then}
use Rattle.std.proofs.lemmas.List.Elements.{All-contains}
use Rattle.tagged_word.specs.declared.word.Class.TheVariants.{Ref}
use Rattle.mark_laws.specs.Types.{Header, Event, Actor, Spot, Snap, HelperView, MainView, World}
use Rattle.tagged_word.specs.Words.{bits_of}
use Rattle.tagged_word.specs.Readings.{header_in, reference_in}
use Rattle.tagged_word.proofs.Readings.{reference_from}
use Rattle.core_parts.specs.Lists.{joined, left}
use Rattle.core_parts.specs.Boards.{given_word}
use Rattle.core_parts.proofs.Joining.{joined_keeps}
use Rattle.core_parts.proofs.Leaving.{left_from}
use Rattle.mark_world.specs.declared.event.Event.TheVariants as event
use Rattle.mark_world.specs.Steps.{all_joined, layout_spot, white}
use Rattle.mark_world.specs.AfterEvents.{after_main, after_return, after_step, IsMarked, with_word, word_at}
use Rattle.mark_world.specs.Coverage.{colour_of}
use Rattle.mark_world.specs.Soundness.{HasLists, HasSizes, HasViewLists}
use Rattle.mark_laws.proofs.Colours.{put_or_stays, step_rises}
use Rattle.mark_laws.proofs.Joins.{all_from}
use Rattle.mark_laws.proofs.Sureness.{helper_main, joined_all}

-- a list that a cell leaves where a word was free
pub given_all : (P : ℕ → Type 0) (list : List ℕ) (at : ℕ) (free : Bool) → All P list
    → All P (if free then left list at else list)
given_all P list at true each = all_from P (left list at) (λ x c. All-contains P list x each (left_from list at x c))
given_all P list at false each = each

-- a list that a cell joins where it was white
pub white_joins : (P : ℕ → Type 0) (list : List ℕ) (at : ℕ) (was_white : Bool) → All P list → P at
    → All P (if was_white then joined list at else list)
white_joins P list at true each there = joined_all P list at each there
white_joins P list at false each there = each

-- a list that cells join
pub all_join : (P : ℕ → Type 0) (list others : List ℕ) → All P list → All P others → All P (all_joined list others)
all_join P list [] each also = each
all_join P list (at ∷ rest) each also =
    all_join P (joined list at) rest (joined_all P list at each (also 0 0 (omega arith)))
    (λ k d l. also (suc k) d (omega arith))

-- each of a list is another thing too
pub all_weaker : {X : Type 0} (P Q : X → Type 0) (list : List X) → ((x : X) → P x → Q x) → All P list → All Q list
all_weaker P Q list more each k d l = more (get_or list k d) (each k d l)

-- and what there may be
pub some_weaker : {X : Type 0} (P Q : X → Type 0) (o : Option X) → ((x : X) → P x → Q x) → IfSome o P → IfSome o Q
some_weaker P Q None more h = h
some_weaker P Q (Some x) more h = more x h

-- what is published stays so, by a step of the mutator
main_starts : (world : World) (of : Event) (at : ℕ) → Contains world.main.starts at
    → Contains (after_main world of).main.starts at
main_starts world (event.NewBlack a) at c = joined_keeps world.main.starts a at c
main_starts world _ at c = c

-- and where a seat is taken back
return_starts : (world : World) (number : ℕ) (view : Option HelperView) (at : ℕ) → Contains world.main.starts at
    → Contains (after_return world number view).main.starts at
return_starts world number None at c = c
return_starts world number (Some view) at c = c

-- what is published stays so
pub starts_stay : (world : World) (of : Event) (by : Actor) (at : ℕ) → Contains world.main.starts at
    → Contains (after_step world of by).main.starts at
starts_stay world of Actor.Mutator at c = main_starts world of at c
starts_stay world of (Actor.Helper number) at c =
    subst (λ (main : MainView). Contains main.starts at)
    (sym (helper_main world number of (slice_get world.helpers number))) c
starts_stay world of Actor.Lends at c = c
starts_stay world of (Actor.Returns number) at c = return_starts world number (slice_get world.helpers number) at c

-- what is reached stays so
pub reached_stays : (world : World) (of : Event) (by : Actor) → HasSizes world → (at : ℕ) → IsMarked world at
    → IsMarked (after_step world of by) at
reached_stays world of by sizes at reached = record {
  start = starts_stay world of by at reached.start;
  coloured = λ is_white. reached.coloured (let rise = step_rises world of by sizes at in
      let none : colour_of world at ≡ 0 = omega (arith, rise, is_white) in none);
}

-- a reference to a reached cell on the board
reference_reached : (P : ℕ → Type 0) (at : ℕ) → P at → (o : Option ℕ) → reference_in (bits_of (Ref at)) ≡ o
    → IfSome o P
reference_reached P at there None e = tt
reference_reached P at there (Some b) e =
    let is = (reference_from (bits_of (Ref at)) b e).1 in
    let same : at ≡ b = omega (arith, is) in
    subst P same there

-- a word of the board to which a cell may be given
pub given_refers : (P : ℕ → Type 0) (found at : ℕ) → IfSome (reference_in found) P → P at
    → IfSome (reference_in (given_word found at)) P
given_refers P found at before there =
    elim (found == 0) as (λ (b : Bool). IfSome (reference_in (if b then bits_of (Ref at) else found)) P)
    [ true ↦ reference_reached P at there (reference_in (bits_of (Ref at))) refl | false ↦ before ]

-- a colour that is put touches one cell alone
pub put_colour : (colours : List ℕ) (a word at : ℕ) → slice_index (slice_set colours a word) at ≢ white
    → (slice_index colours at ≢ white) ⊎ (at ≡ a)
put_colour colours a word at coloured = elim (put_or_stays colours a word at) [
  | inl same ↦ inr same
  | inr stays ↦ inl (λ is_white. coloured (stays ∙ is_white))
]

-- the lists of a helper whose view is as before
pub view_lists_stay : (world later : World) (view : HelperView) → ((a : ℕ) → IsMarked world a → IsMarked later a)
    → HasViewLists world view → HasViewLists later view
view_lists_stay world later view keeps has = record {
  grey = all_weaker (IsMarked world) (IsMarked later) view.grey keeps has.grey;
  snap = some_weaker (λ (s : Snap). IsMarked world s.cell) (λ (s : Snap). IsMarked later s.cell) view.snap
      (λ s. keeps s.cell) has.snap;
  one_at_once = has.one_at_once;
  in_hand = has.in_hand;
}

-- what holds of a view holds of the list of it alone
pub all_one : (P : HelperView → Type 0) (view : HelperView) → P view → All P (view ∷ [])
all_one P view holds k d l = let first : k ≡ 0 = omega (arith, l) in subst (λ (i : ℕ). P (get_or (view ∷ []) i d))
    (sym first) holds

-- the spot is no word of the board, and no colour
abbrev pub IsLoad : Option Spot → Type 0
IsLoad (Some (Spot.Board place)) = ⊥
IsLoad (Some (Spot.Colour at)) = ⊥
IsLoad _ = Unit {0}

-- a load of the heap is one
pub loads_heap : (offset : ℕ) (snap : Option Snap) → IsLoad (option_map (λ s. Spot.Heap (s.cell + offset)) snap)
loads_heap offset None = tt
loads_heap offset (Some snap) = tt

-- and one of a layout word
loads_shape : (header : Option Header) → IsLoad (option_map (λ h. Spot.Layout h.shape) header)
loads_shape None = tt
loads_shape (Some header) = tt

-- the spot of the layout that a snap names is only loaded
pub loads_layout : (snap : Option Snap) → IsLoad (option_and_then layout_spot snap)
loads_layout None = tt
loads_layout (Some snap) = loads_shape (header_in snap.header)

-- such a word leaves the board
pub load_board : (world : World) (spot : Option Spot) (word : ℕ) → IsLoad spot
    → (with_word world spot word).board ≡ world.board
load_board world None word is = refl
load_board world (Some (Spot.Heap at)) word is = refl
load_board world (Some (Spot.Layout shape)) word is = refl
load_board world (Some (Spot.Colour at)) word is = absurd is
load_board world (Some (Spot.Board place)) word is = absurd is

-- and the colours
pub load_colours : (world : World) (spot : Option Spot) (word : ℕ) → IsLoad spot
    → (with_word world spot word).colours ≡ world.colours
load_colours world None word is = refl
load_colours world (Some (Spot.Heap at)) word is = refl
load_colours world (Some (Spot.Layout shape)) word is = refl
load_colours world (Some (Spot.Colour at)) word is = absurd is
load_colours world (Some (Spot.Board place)) word is = absurd is

-- a cell that is coloured after a load was so before
pub load_coloured : (world : World) (spot : Option Spot) → IsLoad spot → (at : ℕ)
    → colour_of (with_word world spot (word_at world spot)) at ≢ white → colour_of world at ≢ white
load_coloured world spot load at coloured =
    subst (λ (cs : List ℕ). slice_index cs at ≢ white) (load_colours world spot (word_at world spot) load) coloured

-- the end of a snap leaves the board
pub settle_board : (world : World) (word : ℕ) (snap : Option Snap)
    → (with_word world (option_map (λ s. Spot.Colour s.cell) snap) word).board ≡ world.board
settle_board world word None = refl
settle_board world word (Some snap) = refl

-- words of the board that stay
pub board_stays : (world : World) (R : ℕ → Type 0) → HasLists world → ((a : ℕ) → IsMarked world a → R a)
    → All (λ word. IfSome (reference_in word) R) world.board
board_stays world R lists keeps =
    all_weaker (λ (w : ℕ). IfSome (reference_in w) (IsMarked world)) (λ (w : ℕ). IfSome (reference_in w) R) world.board
    (λ w. some_weaker (IsMarked world) R (reference_in w) keeps) lists.board

-- a word that is put leaves the number of old words
pub with_word_old : (world : World) (spot : Option Spot) (word : ℕ) → (with_word world spot word).old ≡ world.old
with_word_old world None word = refl
with_word_old world (Some (Spot.Heap a)) word = refl
with_word_old world (Some (Spot.Layout a)) word = refl
with_word_old world (Some (Spot.Colour a)) word = refl
with_word_old world (Some (Spot.Board a)) word = refl
