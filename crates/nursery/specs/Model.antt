-- What a nursery keeps in its fields.
use Rattle.std.specs.Prelude.{◌≡◌}
use Rattle.nursery.specs.declared.Nursery.TheInside.{Inside}
use Rattle.page_space.specs.Sizes.{AreWithin}
use Rattle.page_space.specs.Extents.{eden_start}
use Rattle.nursery.specs.Young.{Young, IsYoung}

-- the regions, the three numbers, and what is granted
abbrev pub young_of : Inside → Young
young_of nursery = record {
  space = nursery.regions;
  used = nursery.used;
  survivors = nursery.survivors;
  half = nursery.half;
  granted = nursery.granted;
}

-- the words fit, the sizes are within their limits, and eden begins where it does
pub record IsValid (nursery : Inside) : Type 0 where
  pub is_young : IsYoung (young_of nursery)
  pub within : AreWithin nursery.regions.sizes nursery.regions.variables
  pub eden : nursery.eden ≡ eden_start nursery.regions
