-- Which addresses are in which region.
use Rattle.std.proofs.Common.{◌≡◌, ℕ, ◌+◌, ◌<◌, ◌≤◌, ◌↔◌, refl, sym, ◌∙◌, ap, subst, arith}
use Rattle.page_space.specs.declared.region.Region.{Region}
use Rattle.page_space.specs.declared.region.Region.TheVariants.{Outside}
use Rattle.page_space.specs.Extents.{Space, Extent, IsIn, StartsAt, IsRegion, words_count}
use Rattle.page_space.proofs.Standing.{start_of, length_of, extent_of, stands}
use Rattle.page_space.proofs.Placed.{IsPlaced, placed}

-- the region is one of the heap's, and the address is one of its
pub record IsInRegion (space : Space) (region : Region) (a : ℕ) : Type 0 where
  pub is_region : IsRegion space region
  pub from : start_of space region ≤ a
  pub below : a < start_of space region + length_of space region

-- such an address is in the region
pub is_in : (space : Space) (region : Region) (a : ℕ) → IsInRegion space region a → IsIn space a region
is_in space region a within = record {
  extent = extent_of space region;
  stands = stands space region within.is_region;
  of_region = refl;
  holds = record { from = within.from; below = within.below };
}

-- an address that is in a region is such an address
pub within : (space : Space) (region : Region) (a : ℕ) → IsIn space a region → IsInRegion space region a
within space region a is =
    let place : IsPlaced space is.extent = placed space is.extent is.stands in
    let P : Region → Type 0 = λ r. IsInRegion space r a in
    subst P is.of_region (record {
      is_region = place.is_region;
      from = omega (arith, is.holds.from, ap (λ (e : Extent). e.start) place.place);
      below = omega (
        arith,
        is.holds.below,
        ap (λ (e : Extent). e.start) place.place,
        ap (λ (e : Extent). e.words) place.place,
      );
    })

-- a region of the heap begins at its place, and nowhere else
pub starts_at : (space : Space) (region : Region) (a : ℕ) → IsRegion space region → start_of space region ≡ a →
    StartsAt space region a
starts_at space region a is_one begins = record {
  extent = extent_of space region;
  stands = stands space region is_one;
  of_region = refl;
  starts = begins;
}

-- where a region begins is its place
pub start_of_is : (space : Space) (region : Region) (a : ℕ) → StartsAt space region a → start_of space region ≡ a
start_of_is space region a starts =
    let place : IsPlaced space starts.extent = placed space starts.extent starts.stands in
    ap (start_of space) (sym starts.of_region) ∙ sym (ap (λ (e : Extent). e.start) place.place) ∙ starts.starts

-- an address of a region is not outside, and not behind the last word
pub inside_only : (space : Space) (region : Region) (a : ℕ) → (region ≡ Outside → ⊥) → a < words_count space →
    (region ≡ Outside) ↔ (words_count space ≤ a)
inside_only space region a inside below = (λ same. absurd (inside same), λ behind. absurd (omega arith))
