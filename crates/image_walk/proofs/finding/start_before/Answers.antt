use Rattle.std.proofs.Common.{◌<◌, arith}
use Rattle.page_space.specs.Extents.{words_count}
use Rattle.page_space.proofs.Addresses.{within}
use Rattle.page_space.proofs.CellEnds.{before_end}
use Rattle.image_walk.proofs.RegionStarts.{stands_from, starts_before}
use Rattle.image_walk.proofs.finding.start_before.Goals as goal

-- the address is one of the heap's, so its region is too
pub start-requires : goal.start-requires
start-requires c =
    let space = c.args.image.now.regions in
    let below : c.args.address < words_count space =
    omega (arith, before_end space c.args.address c.args.end c.requires.within, c.requires.inside) in
    (within space c.region.result c.args.address (c.region.ensures.inside below)).is_region

pub returns-clause-stands : goal.returns-clause-stands
returns-clause-stands c =
    let space = c.args.image.now.regions in
    let below : c.args.address < words_count space =
    omega (arith, before_end space c.args.address c.args.end c.requires.within, c.requires.inside) in
    stands_from space c.args.address c.start.result c.args.end c.region.result (c.region.ensures.inside below)
    c.start.ensures.starts c.requires.within

pub returns-clause-before : goal.returns-clause-before
returns-clause-before c =
    let space = c.args.image.now.regions in
    let below : c.args.address < words_count space =
    omega (arith, before_end space c.args.address c.args.end c.requires.within, c.requires.inside) in
    starts_before space c.args.address c.start.result c.args.end c.region.result (c.region.ensures.inside below)
    c.start.ensures.starts c.requires.within
