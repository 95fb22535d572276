use Rattle.std.proofs.Common.{◌≡◌, ◌-◌, ◌<◌, refl, sym, ◌∙◌, ap, arith}
use Rattle.std.proofs.lemmas.Bool.Decides.{nat_tests}
use Rattle.page_space.specs.Extents.{Extent}
use Rattle.page_space.specs.declared.region.Region.TheVariants.{Eden}
use Rattle.page_space.proofs.Covering.{disjoint}
use Rattle.image_walk.proofs.Boundaries.{starts_once}
use Rattle.image_walk.proofs.next_cell.is_used.Goals as goal

pub overflow_sub-result : goal.overflow_sub-result
overflow_sub-result c =
    let inside = c.in-Eden.ensures.inside c.requires in
    omega (
      arith,
      inside.holds.from,
      starts_once c.args.image.now.regions Eden c.start.result inside.extent c.start.ensures.starts inside.stands
          inside.of_region,
    )

pub returns-in-Eden : goal.returns-in-Eden
returns-in-Eden c =
    let space = c.args.image.now.regions in
    let inside = c.in-Eden.ensures.inside c.requires in
    let start = c.start.result in
    let starts = starts_once space Eden start inside.extent c.start.ensures.starts inside.stands inside.of_region in (
      λ yes extent stands eden holds.
          let below : c.args.at - start < c.args.image.now.used = grind (arith, nat_tests, yes) in
          omega (
            arith,
            below,
            holds.from,
            starts_once space Eden start extent c.start.ensures.starts stands eden,
          ),
      λ used.
          let below = used inside.extent inside.stands inside.of_region inside.holds in
          let less : c.args.at - start < c.args.image.now.used = omega (arith, below, starts, inside.holds.from) in
          grind (arith, nat_tests, less),
    )

-- an address in another region is none of eden's
pub returns-in_default : goal.returns-in_default
returns-in_default c = (
  λ yes extent stands eden holds.
      let inside = c.region.ensures.inside c.requires in
      let same : inside.extent ≡ extent =
      disjoint c.args.image.now.regions inside.extent extent c.args.at inside.stands stands inside.holds holds in
      absurd (c.in_default.not-Eden (sym inside.of_region ∙ ap (λ (e : Extent). e.region) same ∙ eden)),
  λ used. refl,
)
