-- The weak maps among the first so many cells, when the next one is looked at.
use Rattle.std.proofs.Common.{◌≡◌, ◌≢◌, ℕ, ◌+◌, ◌<◌, ◌≤◌, inl, inr, List, [], ◌∷◌, ◌++◌, Some, Contains, slice_get}
use Rattle.std.proofs.Common.{refl, length, get_or, sym, ◌∙◌, subst, arith}
use Rattle.std.specs.List.{AllPairs}
use Rattle.std.proofs.lemmas.Option.{same_Some, slice_get_within, get_or_from_slice_get}
use Rattle.std.proofs.lemmas.List.{length-append, get_or_default}
use Rattle.std.proofs.lemmas.List.Elements.{Contains-append_left, Contains-append_right, Contains-push_cases}
use Rattle.std.proofs.lemmas.List.Quantifiers.{all_pairs_push}
use Rattle.tagged_word.specs.declared.layout.Kind.TheVariants as kind
use Rattle.tagged_word.proofs.Members.{first_in}
use Rattle.heap_model.specs.Types.{Kind, Cell}
use Rattle.heap_model.specs.Heaps.{Heap}
use Rattle.heap_model.proofs.BoundHeaps.{none_in}
use Rattle.heap_model.proofs.CellsApart.{one_at}
use Rattle.heap_model.specs.Slots.{IsWeakCellAt}
use Rattle.cell_list.specs.Listing.{Listing}
use Rattle.write_barrier.specs.MutatorState.{Mutator, heap_of}
use Rattle.ephemeron_mark.specs.Progress.{HasGrown, IsCellOf, IsAmong, AreMapsAmong, noted}
use Rattle.ephemeron_mark.proofs.VisitedCells.{WhichAmong, which_among, among_before, among_after}

-- among no cells there are none
pub none_noted : {heap : Heap} (cells : Listing) → AreMapsAmong heap cells [] 0
none_noted cells = record {
  are = λ at. (λ there. absurd (none_in at there), λ both. absurd (omega (arith, both.0.below)));
  once = λ i j d less within. absurd (omega (arith, within));
  few = omega arith;
}

-- they are the same while more cells are marked
pub maps_stay : {main : Mutator} {old new : Listing} (maps : List ℕ) (count : ℕ) → HasGrown main old new
    → count ≤ length old.addresses → AreMapsAmong (heap_of main) old maps count
    → AreMapsAmong (heap_of main) new maps count
maps_stay maps count grown few maps_are = record {
  are = λ at. (
    λ there. let both = (maps_are.are at).0 there in (among_after grown count at both.0, both.1),
    λ both. (maps_are.are at).1 (among_before grown count at few both.0, both.1),
  );
  once = maps_are.once;
  few = maps_are.few;
}

module _ {heap : Heap} {cells : Listing} {maps : List ℕ} {place : ℕ} {cell : Cell} (stands : IsCellOf heap cell)
    (there : slice_get cells.addresses place ≡ Some cell.at) (maps_are : AreMapsAmong heap cells maps place) where
  -- one that is among the first so many is among one more
  among_more : (at : ℕ) → IsAmong cells place at → IsAmong cells (place + 1) at
  among_more at among =
      record { place = among.place; below = omega (arith, among.below); there = among.there }

  -- a map at the next address is the next cell, of the kind of weak maps
  map_of_kind : (at : ℕ) → slice_get cells.addresses place ≡ Some at → IsWeakCellAt heap at
      → cell.layout.kind ≡ kind.Weak
  map_of_kind at here map =
      let at_is : at ≡ cell.at = same_Some at cell.at (sym here ∙ there) in
      let same : map.cell ≡ cell = one_at map.has stands.1 (map.stands ∙ at_is) in
      subst (λ (one : Cell). one.layout.kind ≡ kind.Weak) same map.of_kind

  -- where the next cell is of another kind, there is no map more
  no_map_more : (cell.layout.kind ≡ kind.Weak → ⊥) → AreMapsAmong heap cells maps (place + 1)
  no_map_more other = record {
    are = λ at. (
      λ in_maps. let both = (maps_are.are at).0 in_maps in (among_more at both.0, both.1),
      λ both. elim (which_among cells place at both.0) [
        | WhichAmong.before earlier ↦ (maps_are.are at).1 (earlier, both.1)
        | WhichAmong.last here ↦ absurd (other (map_of_kind at here both.1))
      ],
    );
    once = maps_are.once;
    few = omega (arith, maps_are.few);
  }

  -- a map that is listed stands at a place before
  not_before : AllPairs (λ at other. at ≢ other) cells.addresses → (k d : ℕ) → k < length maps
      → get_or maps k d ≢ cell.at
  not_before once k d within same =
      let in_maps : Contains maps cell.at = (k, within, get_or_default maps k cell.at d within ∙ same) in
      let among = ((maps_are.are cell.at).0 in_maps).0 in
      once among.place place 0 among.below (slice_get_within cells.addresses place cell.at there)
      (get_or_from_slice_get cells.addresses among.place cell.at 0 among.there
      ∙ sym (get_or_from_slice_get cells.addresses place cell.at 0 there))

  -- and where it is a weak map's, there is one more
  one_map_more : cell.layout.kind ≡ kind.Weak → AllPairs (λ at other. at ≢ other) cells.addresses
      → AreMapsAmong heap cells (maps ++ cell.at ∷ []) (place + 1)
  one_map_more of_kind once = record {
    are = λ at. (
      λ in_maps. elim (Contains-push_cases maps cell.at at in_maps) [
        | inl before ↦ let both = (maps_are.are at).0 before in (among_more at both.0, both.1)
        | inr last ↦ (
          record {
            place = place;
            below = omega arith;
            there = subst (λ (one : ℕ). slice_get cells.addresses place ≡ Some one) last there;
          },
          record { cell = cell; words = stands.0; has = stands.1; stands = last; of_kind = of_kind },
        )
      ],
      λ both. elim (which_among cells place at both.0) [
        | WhichAmong.before earlier ↦
            Contains-append_left maps (cell.at ∷ []) at ((maps_are.are at).1 (earlier, both.1))
        | WhichAmong.last here ↦
            let at_is : cell.at ≡ at = same_Some cell.at at (sym there ∙ here) in
            subst (Contains (maps ++ cell.at ∷ [])) at_is
            (Contains-append_right maps (cell.at ∷ []) cell.at (first_in cell.at []))
      ],
    );
    once = all_pairs_push (λ one other. one ≢ other) maps cell.at maps_are.once (not_before once);
    few = omega (arith, maps_are.few, length-append maps (cell.at ∷ []));
  }

  -- by the kind of the next cell
  by_kind : (k : Kind) → cell.layout.kind ≡ k → AllPairs (λ at other. at ≢ other) cells.addresses
      → AreMapsAmong heap cells (noted k maps cell.at) (place + 1)
  by_kind kind.Weak of_kind once = one_map_more of_kind once
  by_kind other of_kind once = no_map_more (λ weak. let clash = sym of_kind ∙ weak in cc)

  -- so the maps among one more are those with the next cell, if it is a map's
  pub next_noted : AllPairs (λ at other. at ≢ other) cells.addresses
      → AreMapsAmong heap cells (noted cell.layout.kind maps cell.at) (place + 1)
  next_noted once = by_kind cell.layout.kind refl once
