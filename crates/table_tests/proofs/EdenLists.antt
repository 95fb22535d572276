-- A worker may copy the list: no way leads to another cell.
use Rattle.std.proofs.Common.{◌≡◌, ◌∙◌, ℕ, ◌+◌, ◌<◌, inl, inr, List, [], ◌∷◌, length, get_or, set, Some}
use Rattle.std.proofs.Common.{refl, sym, ap, subst, arith}
use Rattle.std.specs.List.{Contains}
use Rattle.std.proofs.lemmas.List.{get_or-set_same, get_or-set_other, length-set}
use Rattle.std.proofs.lemmas.Option.{get_or_from_slice_get, slice_get-get_or, slice_get_within}
use Rattle.tagged_word.specs.declared.layout.Kind.TheVariants as kind
use Rattle.tagged_word.specs.Readings.{reference_in}
use Rattle.tagged_word.proofs.Cells.{some_same}
use Rattle.tagged_word.proofs.Members.{in_cases, one_in}
use Rattle.page_space.specs.declared.region.Region.TheVariants.{Eden}
use Rattle.page_space.specs.Extents.{Space, roots_start, layouts_start, marks_start, segments_start}
use Rattle.page_space.proofs.Standing.{extent_of, eden_stands}
use Rattle.page_space.proofs.Starts.{roots_start_is, layouts_start_is, marks_start_is}
use Rattle.shared_table.specs.Owned.{Own}
use Rattle.cell_layout.specs.declared.cell.Cell.{Cell}
use Rattle.cell_layout.specs.Cells.{IsCell}
use Rattle.cell_layout.proofs.CellsThere.{slice_get-layouts_in}
use Rattle.eden_copies.specs.Eden.{deal_of, word_at, size_in, slots_in}
use Rattle.eden_copies.specs.Eden.{IsDealt, IsLed, MayCopy, RefersToEden, StandsInEden}
use Rattle.eden_copies.proofs.KnownCells.{size_known, slots_known}
use Rattle.table_tests.specs.EdenList.{small, HaveList, HasList}

-- where the roots and the layout words stand, and where they end
pub record AreStarts : Type 0 where
  pub roots : roots_start small ≡ 2368
  pub layouts : layouts_start small ≡ 2372
  pub marks : marks_start small ≡ 10572

-- where the regions of the small heap start
pub starts : AreStarts
starts =
    let roots : roots_start small ≡ 2368 = omega (arith, roots_start_is small) in
    let layouts : layouts_start small ≡ 2372 = omega (arith, layouts_start_is small, roots) in
    record { roots = roots; layouts = layouts; marks = omega (arith, marks_start_is small, layouts) }

-- the list
list : Cell
list = record {
  at = 2048;
  header = record { shape = 1; object = 0 };
  layout = record { kind = kind.List; cap = 0; used = 0; raw = 0 };
  length = 0;
  size = 3;
}

module _ (words : List ℕ) (have : HaveList words) where
  -- these words and where they stand
  abbrev own : Own
  own = record { space = small; words = words }

  -- it stands at the first address of eden
  list_stands : IsCell small words list
  unfolding list
  list_stands = record {
    end = segments_start small;
    stands = record {
      extent = extent_of small Eden;
      stands = eden_stands small;
      of_cells = refl;
      holds = record { from = omega arith; below = omega arith };
      ends = refl;
    };
    reads = record {
      is_header = record { shape = omega arith; object = omega arith };
      first = have.header;
      known = omega arith;
      is_layout = record { cap = refl; used = refl; raw = refl };
      of_shape = slice_get-layouts_in small words 1 (omega arith) ∙ have.layout;
      second = refl;
      sized = refl;
      ends = omega arith;
      there = omega (arith, have.counted, starts.marks);
    };
  }

  -- it has three words
  list_size : size_in own 2048 ≡ 3
  unfolding list
  list_size = size_known own list list_stands (omega arith)

  -- and one slot
  list_slots : slots_in own 2048 ≡ 1 ∷ []
  unfolding list
  list_slots = slots_known own list list_stands (omega arith)

  -- a word that refers to it refers to nothing else
  refers_there : (word cell : ℕ) → word ≡ 8193 → RefersToEden own word cell → cell ≡ 2048
  refers_there word cell is refers =
      let there : reference_in 8193 ≡ Some 2048 = refl in
      some_same (subst (λ (w : ℕ). reference_in w ≡ Some cell) is refers.refers) there

  module _ (first every : ℕ) where
    -- the word of a slot that is dealt refers to it
    dealt_word : (slot : ℕ) → IsDealt own (deal_of [] first every) slot → word_at own slot ≡ 8193
    dealt_word slot dealt =
        let slots : List ℕ = (roots_start small + 0) ∷ (roots_start small + 2) ∷ [] in
        let has : Contains slots slot = (
          dealt.number,
          slice_get_within slots dealt.number slot dealt.stands,
          get_or_from_slice_get slots dealt.number slot slot dealt.stands,
        ) in
        elim (in_cases (roots_start small + 0) ((roots_start small + 2) ∷ []) slot has) [
          | inl is ↦
              let here : roots_start small ≡ slot = omega (arith, is) in
              subst (λ (n : ℕ). word_at own n ≡ 8193) here have.first
          | inr rest ↦
              subst (λ (n : ℕ). word_at own n ≡ 8193) (one_in (roots_start small + 2) slot rest) have.second
        ]

    -- no way leads to another cell
    led_there : (cell : ℕ) → IsLed own (deal_of [] first every) cell → cell ≡ 2048
    led_there cell (IsLed.by_slot slot _ dealt refers) =
        refers_there (word_at own slot) cell (dealt_word slot dealt) refers
    led_there cell (IsLed.by_cell host offset _ led visited refers) =
        let at : host ≡ 2048 = led_there host led in
        let slot : Contains (1 ∷ []) offset =
        subst (λ (offsets : List ℕ). Contains offsets offset) list_slots
        (subst (λ (n : ℕ). Contains (slots_in own n) offset) at visited) in
        let here : 2049 ≡ host + offset = omega (arith, at, one_in 1 offset slot) in
        refers_there (word_at own (host + offset)) cell
        (subst (λ (n : ℕ). word_at own n ≡ 8193) here have.slot) refers

    -- the list stands in eden
    in_eden : StandsInEden own 2048
    unfolding list
    in_eden = record {
      cell = list;
      starts = refl;
      is_cell = list_stands;
      from = omega arith;
      below = omega arith;
      some = omega (arith, list_size);
      ends = omega (arith, list_size);
    }

    -- so a worker may copy
    pub list_may : MayCopy own (deal_of [] first every)
    list_may = record {
      stand = λ cell led. subst (StandsInEden own) (sym (led_there cell led)) in_eden;
      apart = λ one other at led also here there. led_there one led ∙ sym (led_there other also);
    }

-- a worker may copy in such a heap
pub may_copy : (own : Own) (first every : ℕ) → HasList own → MayCopy own (deal_of [] first every)
may_copy own first every has =
    subst (λ (space : Space). MayCopy (record { space = space; words = own.words }) (deal_of [] first every))
    (sym has.space) (list_may own.words has.words first every)

-- the words after the puts
abbrev pub put_words : List ℕ → List ℕ
put_words words =
    set (set (set (set (set words 2048 6) 2049 8193) (layouts_start small + 1) 2) 2368 8193) 2370 8193

-- a word at another address than that of a put stays
stays : (words : List ℕ) (at word other : ℕ) → (other ≡ at → ⊥)
    → get_or (set words at word) other 0 ≡ get_or words other 0
stays words at word other apart = get_or-set_other words at other word 0 apart

-- they have the list
pub put_list : (words : List ℕ) → length words ≡ marks_start small → HaveList (put_words words)
put_list words counted =
    let one : List ℕ = set words 2048 6 in
    let two : List ℕ = set one 2049 8193 in
    let three : List ℕ = set two (layouts_start small + 1) 2 in
    let four : List ℕ = set three 2368 8193 in
    let five : List ℕ = set four 2370 8193 in
    let long : length five ≡ marks_start small =
    length-set four 2370 8193 ∙ (length-set three 2368 8193 ∙ (length-set two (layouts_start small + 1) 2
    ∙ (length-set one 2049 8193 ∙ (length-set words 2048 6 ∙ counted)))) in
    let layout : ℕ = layouts_start small + 1 in
    let other : (at : ℕ) → at < 2368 → (at ≡ layout → ⊥) → get_or five at 0 ≡ get_or two at 0 =
    λ at low apart.
    stays four 2370 8193 at (λ e. omega (arith, e, low)) ∙ (stays three 2368 8193 at (λ e. omega (arith, e, low))
    ∙ stays two layout 2 at apart) in
    record {
      counted = long;
      header = slice_get-get_or five 2048 0 (omega (arith, long, starts.marks))
          ∙ ap Some (other 2048 (omega arith) (λ e. omega (arith, e, starts.layouts))
          ∙ (stays one 2049 8193 2048 (λ e. omega (arith, e))
          ∙ get_or-set_same words 2048 6 0 (omega (arith, counted, starts.marks))));
      slot = other 2049 (omega arith) (λ e. omega (arith, e, starts.layouts))
          ∙ get_or-set_same one 2049 8193 0 (omega (arith, length-set words 2048 6, counted, starts.marks));
      layout = slice_get-get_or five layout 0 (omega (arith, long, starts.marks, starts.layouts))
          ∙ ap Some (stays four 2370 8193 layout (λ e. omega (arith, e, starts.layouts))
          ∙ (stays three 2368 8193 layout (λ e. omega (arith, e, starts.layouts))
          ∙ get_or-set_same two layout 2 0
          (omega (arith, length-set one 2049 8193, length-set words 2048 6, counted, starts.marks, starts.layouts))));
      first = ap (λ (n : ℕ). get_or five n 0) starts.roots
          ∙ (stays four 2370 8193 2368 (λ e. omega (arith, e))
          ∙ get_or-set_same three 2368 8193 0
          (omega (
            arith,
            length-set two layout 2,
            length-set one 2049 8193,
            length-set words 2048 6,
            counted,
            starts.marks,
          )));
      second = ap (λ (n : ℕ). get_or five (n + 2) 0) starts.roots
          ∙ get_or-set_same four 2370 8193 0
          (omega (
            arith,
            length-set three 2368 8193,
            length-set two layout 2,
            length-set one 2049 8193,
            length-set words 2048 6,
            counted,
            starts.marks,
          ));
    }
