-- Where eden begins.
use Rattle.std.proofs.Common.{◌≡◌, ◌∙◌, ℕ, ap, sym}
use Rattle.page_space.specs.declared.region.Region.TheVariants.{Eden}
use Rattle.page_space.specs.Extents.{Space, StartsAt, eden_start}
use Rattle.page_space.proofs.LawsHold.{regions_stand_once, stand_by_number}

-- eden begins at one address, the first behind the pages
pub eden_starts : (space : Space) (a : ℕ) → StartsAt space Eden a → a ≡ eden_start space
eden_starts space a there =
    let known = (stand_by_number space).eden in
    sym there.starts
    ∙ ap (λ extent. extent.start)
    (regions_stand_once space there.extent known.extent there.stands known.stands
    (there.of_region ∙ sym known.of_region))
    ∙ known.starts
