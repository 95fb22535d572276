-- Where the marks begin.
use Rattle.std.proofs.Common.{◌≡◌, ◌∙◌, ℕ, ◌<◌, ap, sym, arith}
use Rattle.page_space.specs.declared.region.Region.TheVariants.{Mark}
use Rattle.page_space.specs.Sizes.{AreWithin}
use Rattle.page_space.specs.Extents.{Space, StartsAt, mark_words, marks_start}
use Rattle.page_space.proofs.LawsHold.{regions_stand_once, stand_by_number}

-- a heap has a page, and so a first mark
pub some_mark : (space : Space) → AreWithin space.sizes space.variables → 0 < mark_words space.sizes.pages
some_mark space within = omega (arith, within.some_page)

-- the first mark begins at one address, where the marks begin
pub first_mark_starts : (space : Space) (a : ℕ) → AreWithin space.sizes space.variables → StartsAt space (Mark 0) a →
    a ≡ marks_start space
first_mark_starts space a within there =
    let known = (stand_by_number space).marks 0 (some_mark space within) in
    let region = there.of_region ∙ sym known.of_region in
    let same = regions_stand_once space there.extent known.extent there.stands known.stands region in
    omega (arith, there.starts, known.starts, ap (λ extent. extent.start) same)
