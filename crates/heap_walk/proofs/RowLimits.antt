-- Where the used row of a region ends at the latest.
use Rattle.std.proofs.Common.{◌≡◌, ℕ, ◌+◌, ◌<◌, inl, inr, refl, sym, ◌∙◌, subst, arith}
use Rattle.heap_model.specs.Types.{Region}
use Rattle.page_space.specs.declared.region.Region.TheVariants.{Page, Eden, Segment}
use Rattle.page_space.specs.Extents.{Space, Extent, IsIn, words_count}
use Rattle.page_space.specs.RegionLaws.{IsSpace}
use Rattle.heap_model.specs.Heaps.{Heap, Row, EndsUsed}
use Rattle.heap_model.specs.RegionRows.{StandsBetween, IsRowFrom}
use Rattle.heap_model.specs.Wholeness.{HasRows}
use Rattle.heap_model.proofs.CellsApart.{used_few}
use Rattle.heap_model.proofs.RegionRows.{start_inside, row_between, region_ends, region_is, lies_between}
use Rattle.heap_walk.specs.Limits.{EndsBy, IsLimit}

-- the first address of a region of cells is in the region that is told of it
pub told_inside : (space told : Space) (start end : ℕ) (region : Region) → IsSpace space → StandsBetween space start end
    → told ≡ space → (start < words_count told → IsIn told start region) → IsIn space start region
told_inside space told start end region limits stands same inside =
    let In : Space → Type 0 = λ one. IsIn one start region in
    let Below : Space → Type 0 = λ one. start < words_count one in
    subst In same (inside (subst Below (sym same) (start_inside space start end limits stands)))

-- a used row ends where the region ends, or where a word is 0; but in eden
ends_of : (heap : Heap) (extent : Extent) (row_end end : ℕ) (region : Region) → (region ≡ Eden → ⊥)
    → extent.start + extent.words ≡ end → EndsUsed heap extent row_end region → EndsBy heap.words end row_end
ends_of heap extent row_end end (Page page) not_eden ends used =
    record { within = omega (arith, used, ends); stops = inl (used ∙ ends) }
ends_of heap extent row_end end Eden not_eden ends used = absurd (not_eden refl)
ends_of heap extent row_end end (Segment half worker) not_eden ends used = record {
  within = omega (arith, used.0, ends);
  stops = elim used.1 [ inl last ↦ inl (last ∙ ends) | inr zero ↦ inr zero ];
}
ends_of heap extent row_end end _ not_eden ends used = absurd used

-- it ends where the region does, but in eden and in segments
whole_of : (heap : Heap) (extent : Extent) (row_end end : ℕ) (region : Region) → (region ≡ Eden → ⊥)
    → ((half worker : ℕ) → region ≡ Segment half worker → ⊥) → extent.start + extent.words ≡ end
    → EndsUsed heap extent row_end region → row_end ≡ end
whole_of heap extent row_end end (Page page) not_eden no_segment ends used = used ∙ ends
whole_of heap extent row_end end Eden not_eden no_segment ends used = absurd (not_eden refl)
whole_of heap extent row_end end (Segment half worker) not_eden no_segment ends used =
    absurd (no_segment half worker refl)
whole_of heap extent row_end end _ not_eden no_segment ends used = absurd used

-- so the end of the region is a limit
pub end_is_limit : (heap : Heap) (start end : ℕ) (region : Region) → IsSpace heap.space
    → StandsBetween heap.space start end → IsIn heap.space start region → (region ≡ Eden → ⊥)
    → IsLimit heap start end end
end_is_limit heap start end region limits stands inside not_eden = record {
  within = omega arith;
  ends = λ row is.
      let same = region_is region limits inside is in
      ends_of heap row.extent row.end end row.extent.region (λ eden. not_eden (same ∙ eden))
      (region_ends limits stands is) is.used.ends;
  exact = λ row is no_segment.
      let same = region_is region limits inside is in
      whole_of heap row.extent row.end end row.extent.region (λ eden. not_eden (same ∙ eden)) no_segment
      (region_ends limits stands is) is.used.ends;
}

-- in eden it ends after the used words
eden_ends : (heap : Heap) (start : ℕ) (region : Region) (row : Row) → IsSpace heap.space → IsIn heap.space start region
    → region ≡ Eden → IsRowFrom heap start row → row.end ≡ start + heap.used
eden_ends heap start region row limits inside of_eden is =
    let same = region_is region limits inside is in
    let ends : EndsUsed heap row.extent row.end Eden =
    subst (EndsUsed heap row.extent row.end) (sym same ∙ of_eden) is.used.ends in
    omega (arith, ends, is.starts)

-- so that is a limit
pub used_is_limit : (heap : Heap) (start end : ℕ) (region : Region) → IsSpace heap.space → HasRows heap
    → StandsBetween heap.space start end → IsIn heap.space start region → region ≡ Eden
    → IsLimit heap start end (start + heap.used)
used_is_limit heap start end region limits rows stands inside of_eden =
    let own = row_between rows.are stands in
    let lies = lies_between limits (used_few rows) stands own.is in
    let ends = eden_ends heap start region own.row limits inside of_eden own.is in
    record {
      within = omega (arith, lies.within, ends);
      ends = λ row is.
          let at_limit = eden_ends heap start region row limits inside of_eden is in
          record { within = omega (arith, at_limit); stops = inl at_limit };
      exact = λ row is no_segment. eden_ends heap start region row limits inside of_eden is;
    }
