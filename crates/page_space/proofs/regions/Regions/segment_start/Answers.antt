use Rattle.std.proofs.Common.{arith}
use Rattle.std.proofs.Common.{◌≡◌, ◌+◌, ◌*◌, ◌∙◌}
use Rattle.page_space.specs.declared.region.Region.TheVariants.{Segment}
use Rattle.page_space.specs.Extents.{segments_start}
use Rattle.page_space.proofs.Standing.{start_of}
use Rattle.page_space.proofs.Addresses.{starts_at, start_of_is}
use Rattle.page_space.proofs.CellAddresses.{segment_ends}
use Rattle.page_space.proofs.Computed.{computed_for}
use Rattle.page_space.proofs.regions.Regions.segment_start.Goals as goal

pub returns-clause-starts : goal.returns-clause-starts
returns-clause-starts c =
    let is = computed_for c.self.inside c.args.self.now c.self.view_is c.self.invariant in
    let space = c.args.self.now in
    let half = c.args.half in
    let worker = c.args.worker in
    let begins : start_of space (Segment half worker)
    ≡ segments_start space + (half * (space.sizes.helpers + 1) + worker) * space.sizes.young = omega arith in
    let same : segments_start space + (half * (space.sizes.helpers + 1) + worker) * space.sizes.young
    ≡ c.self.inside.segments + (half * (c.self.inside.sizes.helpers + 1) + worker) * c.self.inside.sizes.young =
    cc (is.segments, is.helpers, is.young) in
    starts_at space (Segment half worker) _ c.requires (begins ∙ same)

pub returns-clause-inside : goal.returns-clause-inside
returns-clause-inside c =
    let is = computed_for c.self.inside c.args.self.now c.self.view_is c.self.invariant in
    let begins = start_of_is c.args.self.now (Segment c.args.half c.args.worker) _ (returns-clause-starts c) in
    let ends = segment_ends c.args.self.now c.args.half c.args.worker c.requires in
    omega arith
