-- What a way of references leads to in eden, where a scavenge has begun.
use Rattle.std.proofs.Common.{◌≡◌, ◌∙◌, ℕ, ◌+◌, ◌<◌, ◌≤◌, inl, inr, List, map, refl, sym, ap, subst, arith}
use Rattle.std.specs.List.{Contains, range_with_len}
use Rattle.std.proofs.lemmas.Option.{get_or_from_slice_get, slice_get_within}
use Rattle.std.proofs.lemmas.List.Elements.{Contains-append_cases}
use Rattle.tagged_word.specs.Readings.{read_cell}
use Rattle.tagged_word.proofs.Members.{map_from, range_bounds}
use Rattle.page_space.specs.declared.region.Region.TheVariants.{Eden}
use Rattle.page_space.specs.Extents.{Space, Extent, eden_start, segments_start}
use Rattle.page_space.proofs.Covering.{disjoint}
use Rattle.page_space.proofs.Standing.{extent_of, eden_stands}
use Rattle.cell_layout.proofs.OneCell.{cells_have_words}
use Rattle.handle_roots.specs.Roots.{root_at}
use Rattle.heap_model.proofs.CellsApart.{has_is_cell}
use Rattle.scav_copy.specs.Places.{Fixed, cell_before, last_address, words_in, offsets_in, size_of, offsets_of}
use Rattle.scav_copy.specs.Renamings.{RefersToAddress}
use Rattle.scavenger.specs.Starts.{Start, IsBegun, IsSlotPlace, IsYoungCell, start_of}
use Rattle.scavenger.proofs.Started.{shown_heaps_may_begin}
use Rattle.scavenger.proofs.TargetCells.{young_size}
use Rattle.shared_table.specs.Owned.{Own}
use Rattle.eden_copies.specs.Eden.{Deal, deal_of, ground, outer_slots, size_in, slots_in, word_at}
use Rattle.eden_copies.specs.Eden.{IsLed, MayCopy, RefersToEden, StandsInEden}
use Rattle.lent_eden.specs.Lent.{BegunMayBeLent, ShownHeapsMayBeLent, lent}

module _ (start : Start) (fixed : Fixed) (first every : ℕ) (begun : IsBegun start fixed) where
  abbrev own : Own
  own = lent start.heap

  abbrev deal : Deal
  deal = deal_of start.recorded first every

  -- what stood at an address before stands there in the words that are lent
  same_before : (at : ℕ) → cell_before (ground own) at ≡ cell_before fixed at
  unfolding cell_before
  same_before at =
      sym (ap (λ (words : List ℕ). read_cell words fixed.layouts at last_address) begun.begins.before
      ∙ ap (λ (layouts : List ℕ). read_cell start.heap.words layouts at last_address) begun.begins.layouts)

  -- with as many words
  pub same_size : (at : ℕ) → size_in own at ≡ size_of fixed at
  same_size at = ap words_in (same_before at)

  -- and the same slots
  pub same_slots : (at : ℕ) → slots_in own at ≡ offsets_of fixed at
  same_slots at = ap offsets_in (same_before at)

  -- a slot outside eden is one of the slots
  pub outer_among : (slot : ℕ) → Contains (outer_slots own.space start.recorded) slot → Contains fixed.slots slot
  outer_among slot there =
      let roots : List ℕ = map (root_at own.space) (range_with_len 0 own.space.variables) in
      (begun.begins.slots slot).1 (elim (Contains-append_cases roots start.recorded slot there) [
        | inl root ↦
            let found = map_from (root_at own.space) (range_with_len 0 own.space.variables) slot root in
            inl (record {
              variable = found.0;
              known = omega (arith, (range_bounds 0 own.space.variables found.0 found.1).1);
              stands = sym found.2;
            })
        | inr recorded ↦ inr recorded
      ])

  -- what a slot refers to in eden is one of the cells
  target_among : (place cell : ℕ) → IsSlotPlace fixed place → RefersToEden own (word_at own place) cell
      → Contains fixed.cells cell
  target_among place cell slot refers =
      begun.targets place cell slot
      (subst (λ (words : List ℕ). RefersToAddress words place cell) (sym begun.begins.before) refers.refers) refers.from

  -- so is what a way leads to
  pub led_among : (cell : ℕ) → IsLed own deal cell → Contains fixed.cells cell
  led_among cell (IsLed.by_slot slot _ dealt refers) =
      let among : Contains (outer_slots own.space start.recorded) slot = (
        dealt.number,
        slice_get_within _ dealt.number slot dealt.stands,
        get_or_from_slice_get _ dealt.number slot slot dealt.stands,
      ) in
      target_among slot cell (inl (outer_among slot among)) refers
  led_among cell (IsLed.by_cell host offset _ led visited refers) =
      let of_cell : Contains (offsets_of fixed host) offset =
      subst (λ (offsets : List ℕ). Contains offsets offset) (same_slots host) visited in
      target_among (host + offset) cell (inr (host, offset, led_among host led, of_cell, refl)) refers

  -- it is an address of eden
  led_in_eden : (cell : ℕ) → IsLed own deal cell → (eden_start own.space ≤ cell) × (cell < segments_start own.space)
  led_in_eden cell (IsLed.by_slot slot _ dealt refers) = (refers.from, refers.below)
  led_in_eden cell (IsLed.by_cell host offset _ led visited refers) = (refers.from, refers.below)

  -- a young cell that begins in eden ends there
  stands_in_eden : (at : ℕ) → IsYoungCell start.heap at → eden_start own.space ≤ at → at < segments_start own.space
      → StandsInEden own at
  stands_in_eden at young from below =
      let space : Space = own.space in
      let is_cell = has_is_cell young.has in
      let some = (cells_have_words space start.heap.words young.cell is_cell).0 in
      let size : young.cell.size ≡ size_in own at = young_size begun young ∙ sym (same_size at) in
      let own_extent : Extent = extent_of space Eden in
      let here : is_cell.stands.extent ≡ own_extent =
      disjoint space is_cell.stands.extent own_extent young.cell.at is_cell.stands.stands (eden_stands space)
      is_cell.stands.holds
      (record { from = omega (arith, from, young.stands); below = omega (arith, below, young.stands) }) in
      record {
        cell = young.cell;
        starts = young.stands;
        is_cell = is_cell;
        from = from;
        below = below;
        some = omega (arith, some, size);
        ends = omega (
          arith,
          size,
          young.stands,
          is_cell.reads.ends,
          is_cell.stands.ends,
          ap (λ (one : Extent). one.start) here,
          ap (λ (one : Extent). one.words) here,
        );
      }

  -- so workers may copy
  may_copy : MayCopy own deal
  may_copy = record {
    stand = λ cell led.
        let inside = led_in_eden cell led in
        stands_in_eden cell ((begun.begins.cells cell).0 (led_among cell led)) inside.0 inside.1;
    apart = λ one other at led also here there.
        begun.laid.one_cell one other at (led_among one led) (led_among other also)
        (record { from = here.from; below = omega (arith, here.below, same_size one) })
        (record { from = there.from; below = omega (arith, there.below, same_size other) });
  }

-- the laws
pub begun_may_be_lent : BegunMayBeLent
begun_may_be_lent start fixed first every begun = may_copy start fixed first every begun

pub shown_heaps_may_be_lent : ShownHeapsMayBeLent
shown_heaps_may_be_lent main graph first every limits shows young free =
    let begun = shown_heaps_may_begin main graph limits shows young free in
    begun_may_be_lent (start_of main) begun.0 first every begun.1
