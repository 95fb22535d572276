-- After a scavenge sizes, cells and lists are right, and what is covered stays covered.
use Rattle.std.proofs.Common.{ℕ, ◌+◌, ◌≡◌, ◌≢◌, ◌∙◌, ◌⊎◌, inl, inr, false, IsTrue, List, All, Contains}
use Rattle.std.proofs.Common.{get_or, slice_index, Option, Some, IsSome, sym, subst}
use Rattle.std.proofs.Common.{arith}
use Rattle.std.proofs.lemmas.Grind.{get_or_default_zero}
use Rattle.std.proofs.lemmas.List.Elements.{All-contains}
use Rattle.mark_laws.specs.Types.{Reading, Snap, HelperView, MainView, World}
use Rattle.tagged_word.specs.Readings.{reference_in}
use Rattle.tagged_word.proofs.Cells.{some_same}
use Rattle.core_parts.specs.Lists.{is_in}
use Rattle.core_parts.proofs.Joining.{decided, in_found, out_not_found}
use Rattle.mark_world.specs.Pages.{OfTarget, is_free, is_inside, slots_of}
use Rattle.mark_world.specs.Steps.{black, white}
use Rattle.mark_world.specs.AfterEvents.{IsMarked}
use Rattle.mark_world.specs.Coverage.{EachSlot, IsCovered, cell_of, colour_of}
use Rattle.mark_world.specs.Soundness.{AreIn, HasCells, HasLists, HasSizes, HasViewLists, Sound}
use Rattle.mark_world.specs.BornCells.{Born}
use Rattle.mark_laws.specs.Restarts.{HasJoined, IsRestarted}
use Rattle.mark_laws.specs.Runs.{HasNoneOut}
use Rattle.mark_laws.proofs.Colours.{each_colour}
use Rattle.mark_laws.proofs.Joins.{all_from, of_slot}
use Rattle.mark_laws.proofs.Listing.{some_weaker}
use Rattle.mark_laws.proofs.RestartedCells.{restarted_cell, restarted_slot}
use Rattle.mark_laws.proofs.Slots.{each_slot, free_cell}
use Rattle.mark_laws.proofs.Stores.{free_is, free_made}

-- the world with other words, colours and another view of the mutator
abbrev pub renewed : World → List ℕ → List ℕ → MainView → World
renewed world words colours main = record world { words = words; colours = colours; main = main }

-- a world, and what it is after a scavenge with the cells that it promoted
pub record Restart (world : World) (promoted words colours : List ℕ) (main : MainView) : Type 0 where
  pub sound : Sound world
  pub born : Born world
  pub none_out : HasNoneOut world
  pub is : IsRestarted world promoted (renewed world words colours main)

-- a cell that is a free start then was one before
pub free_was : (world : World) (promoted words colours : List ℕ) (main : MainView)
    → Restart world promoted words colours main → (at : ℕ) → IsTrue (is_free main at)
    → IsTrue (is_free world.main at)
free_was world promoted words colours main r at free =
    let f = free_is main at free in
    elim (r.is.starts.from at f.0) [
      | inl start ↦ free_made world.main at start (λ mine. f.1 (r.is.mine.kept at mine))
      | inr new ↦ absurd (f.1 (r.is.mine.new at new))
    ]

-- it was not promoted
pub free_old : (world : World) (promoted words colours : List ℕ) (main : MainView)
    → Restart world promoted words colours main → (at : ℕ) → IsTrue (is_free world.main at)
    → Contains promoted at → ⊥
free_old world promoted words colours main r at free new =
    r.is.unpublished at new (free_is world.main at free).0

-- a cell was promoted and is black, or has the colour of before
pub colour_cases : (world : World) (promoted words colours : List ℕ) (main : MainView)
    → Restart world promoted words colours main → (at : ℕ)
    → (Contains promoted at × (slice_index colours at ≡ black)) ⊎ (slice_index colours at ≡ colour_of world at)
colour_cases world promoted words colours main r at = elim (decided (is_in promoted at)) [
  | inl found ↦ let new = in_found promoted at found in inl (new, r.is.blackened at new)
  | inr other ↦ inr (r.is.others at (out_not_found promoted at other))
]

-- a cell that was not white is not white
coloured_on : (world : World) (promoted words colours : List ℕ) (main : MainView)
    → Restart world promoted words colours main → (at : ℕ) → colour_of world at ≢ white
    → slice_index colours at ≢ white
coloured_on world promoted words colours main r at coloured is_white =
    elim (colour_cases world promoted words colours main r at) [
      | inl new ↦ absurd (omega (arith, new.1, is_white))
      | inr same ↦ coloured (sym same ∙ is_white)
    ]

-- what was reached is reached
pub reached_on : (world : World) (promoted words colours : List ℕ) (main : MainView)
    → Restart world promoted words colours main → (at : ℕ) → IsMarked world at
    → IsMarked (renewed world words colours main) at
reached_on world promoted words colours main r at reached = record {
  start = r.is.starts.kept at reached.start;
  coloured = coloured_on world promoted words colours main r at reached.coloured;
}

-- what was covered is covered
pub covered_on : (world : World) (promoted words colours : List ℕ) (main : MainView)
    → Restart world promoted words colours main → (at : ℕ) → IsCovered world at
    → IsCovered (renewed world words colours main) at
covered_on world promoted words colours main r at (inl coloured) =
    inl (coloured_on world promoted words colours main r at coloured)
covered_on world promoted words colours main r at (inr (inl owed)) =
    inr (inl (subst (λ (xs : List ℕ). Contains xs at) (sym r.is.owed) owed))
covered_on world promoted words colours main r at (inr (inr visit)) = inr (inr visit)

-- a promoted cell is covered
pub new_covered : (world : World) (promoted words colours : List ℕ) (main : MainView)
    → Restart world promoted words colours main → (at : ℕ) → Contains promoted at
    → IsCovered (renewed world words colours main) at
new_covered world promoted words colours main r at new =
    inl (λ is_white. absurd (let is_black = r.is.blackened at new in omega (arith, is_black, is_white)))

-- a free start reads the same cell
same_cell : (world : World) (promoted words colours : List ℕ) (main : MainView)
    → Restart world promoted words colours main → (start : ℕ) → IsTrue (is_free world.main start) → (cell : Reading)
    → cell_of world start ≡ Some cell → cell_of (renewed world words colours main) start ≡ Some cell
same_cell world promoted words colours main r start free cell e =
    restarted_cell world promoted words r.sound.cells r.is.words r.is.count start cell free e

-- the same, read or not
cell_is : (world : World) (promoted words colours : List ℕ) (main : MainView)
    → Restart world promoted words colours main → (start : ℕ) → IsTrue (is_free world.main start)
    → cell_of world start ≡ cell_of (renewed world words colours main) start
cell_is world promoted words colours main r start free =
    let was = free_cell world r.sound.cells start free in
    was.1 ∙ sym (same_cell world promoted words colours main r start free was.0 was.1)

-- what held of the word of each tagged slot of a free start, and holds of words that refer to promoted cells alone,
-- holds of each then
pub each_slot_on : (world : World) (promoted words colours : List ℕ) (main : MainView)
    → Restart world promoted words colours main → (start : ℕ) → IsTrue (is_free world.main start)
    → (P Q : ℕ → Type 0) → ((word : ℕ) → P word → Q word)
    → ((word : ℕ) → OfTarget world.old word (Contains promoted) → Q word)
    → EachSlot world start (λ offset. P) → EachSlot (renewed world words colours main) start (λ offset. Q)
each_slot_on world promoted words colours main r start free P Q kept new each =
    let was = free_cell world r.sound.cells start free in
    each_slot (renewed world words colours main) start (λ offset. Q) (λ now f offset c.
    let is : now ≡ was.0 = some_same f (same_cell world promoted words colours main r start free was.0 was.1) in
    let there : Contains (slots_of was.0) offset = subst (λ (x : Reading). Contains (slots_of x) offset) is c in
    elim (restarted_slot world promoted words r.is.words start was.0 free was.1 offset there) [
      | inl same ↦ subst Q (sym same)
          (kept (slice_index world.words (start + offset))
          (of_slot world start offset was.0 (λ o. P) was.1 there each))
      | inr into ↦ new (slice_index words (start + offset)) into
    ])

-- what each member of a list and each that joins it is, each member is then
pub each_joined : (P : ℕ → Type 0) (list others now : List ℕ) → HasJoined list others now
    → ((at : ℕ) → Contains list at → P at) → ((at : ℕ) → Contains others at → P at) → All P now
each_joined P list others now joined kept new =
    all_from P now (λ at there. elim (joined.from at there) [ inl had ↦ kept at had | inr more ↦ new at more ])

-- a list that is in another is so when the same joins both
pub joined_in_both : (big small others big_now small_now : List ℕ) → HasJoined big others big_now
    → HasJoined small others small_now → AreIn big small → AreIn big_now small_now
joined_in_both big small others big_now small_now joins joins_small are =
    each_joined (Contains big_now) small others small_now joins_small
    (λ at had. joins.kept at (All-contains (Contains big) small at are had)) joins.new

-- the sizes are right
pub sizes_on : (world : World) (promoted words colours : List ℕ) (main : MainView)
    → Restart world promoted words colours main → HasSizes (renewed world words colours main)
sizes_on world promoted words colours main r =
    let sizes = r.sound.sizes in
    record {
      pages = sizes.pages;
      addresses = sizes.addresses;
      words = let enough = sizes.words in omega (arith, enough, r.is.count);
      colours = r.is.coloured ∙ sizes.colours;
      three = λ k d l.
          let is : get_or colours k d ≡ slice_index colours k = get_or_default_zero colours k d l in
          elim (colour_cases world promoted words colours main r k) [
            | inl new ↦ omega (arith, is, new.1)
            | inr same ↦ let most = each_colour world sizes k in omega (arith, is, same, most)
          ];
      board = sizes.board;
      layouts = sizes.layouts;
    }

-- the cells are right
pub cells_on : (world : World) (promoted words colours : List ℕ) (main : MainView)
    → Restart world promoted words colours main → HasCells (renewed world words colours main)
cells_on world promoted words colours main r =
    let cells = r.sound.cells in
    record {
      read = λ start free.
          let before = free_was world promoted words colours main r start free in
          subst (λ (c : Option Reading). IsSome c) (cell_is world promoted words colours main r start before)
          (cells.read start before);
      apart = λ start free other other_free differ.
          let before = free_was world promoted words colours main r start free in
          subst (λ (c : Option Reading). is_inside start c other ≡ false)
          (cell_is world promoted words colours main r start before)
          (cells.apart start before other (free_was world promoted words colours main r other other_free) differ);
      born = joined_in_both world.main.starts world.main.born promoted main.starts main.born r.is.starts r.is.born
          cells.born;
      mine = joined_in_both world.main.starts world.main.mine promoted main.starts main.mine r.is.starts r.is.mine
          cells.mine;
      mine_born = joined_in_both world.main.born world.main.mine promoted main.born main.mine r.is.born r.is.mine
          cells.mine_born;
      mine_black = each_joined (λ (at : ℕ). slice_index colours at ≡ black) world.main.mine promoted main.mine
          r.is.mine
          (λ at had. elim (colour_cases world promoted words colours main r at) [
            | inl new ↦ new.1
            | inr same ↦ same ∙ All-contains (λ (a : ℕ). colour_of world a ≡ black) world.main.mine at
                cells.mine_black had
          ])
          r.is.blackened;
    }

-- the lists of a helper are right
view_on : (world : World) (promoted words colours : List ℕ) (main : MainView)
    → Restart world promoted words colours main → (view : HelperView) → HasViewLists world view
    → HasViewLists (renewed world words colours main) view
view_on world promoted words colours main r view has = record {
  grey = λ k d l. reached_on world promoted words colours main r (get_or view.grey k d) (has.grey k d l);
  snap = some_weaker (λ (s : Snap). IsMarked world s.cell) (λ s. IsMarked (renewed world words colours main) s.cell)
      view.snap (λ s reached. reached_on world promoted words colours main r s.cell reached) has.snap;
  one_at_once = has.one_at_once;
  in_hand = has.in_hand;
}

-- all lists are right
pub lists_on : (world : World) (promoted words colours : List ℕ) (main : MainView)
    → Restart world promoted words colours main → HasLists (renewed world words colours main)
lists_on world promoted words colours main r =
    let lists = r.sound.lists in
    record {
      main = subst (λ (xs : List ℕ). All (IsMarked (renewed world words colours main)) xs) (sym r.is.grey)
          (λ k d l. reached_on world promoted words colours main r (get_or world.main.grey k d) (lists.main k d l));
      helpers = λ k d l. view_on world promoted words colours main r (get_or world.helpers k d) (lists.helpers k d l);
      board = λ k d l. some_weaker (IsMarked world) (IsMarked (renewed world words colours main))
          (reference_in (get_or world.board k d)) (reached_on world promoted words colours main r)
          (lists.board k d l);
      coloured = λ at coloured. elim (colour_cases world promoted words colours main r at) [
        | inl new ↦ r.is.starts.new at new.0
        | inr same ↦ r.is.starts.kept at (lists.coloured at (λ is_white. coloured (same ∙ is_white)))
      ];
    }
