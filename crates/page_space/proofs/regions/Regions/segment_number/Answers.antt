use Rattle.std.proofs.Common.{◌≡◌, ◌-◌, ◌/◌, subst, arith}
use Rattle.page_space.specs.Extents.{IsNumberOf, segments_start}
use Rattle.page_space.proofs.Computed.{computed_for}
use Rattle.page_space.proofs.Segments.{number_of}
use Rattle.page_space.proofs.regions.Regions.segment_number.Goals as goal

pub returns : goal.returns
returns c =
    let is = computed_for c.self.inside c.args.self.now c.self.view_is c.self.invariant in
    let found : IsNumberOf c.args.self.now c.args.a
    ((c.args.a - segments_start c.args.self.now) / c.args.self.now.sizes.young) =
    number_of c.args.self.now c.args.a (omega arith) c.requires.from c.requires.below in
    let same : (c.args.a - segments_start c.args.self.now) / c.args.self.now.sizes.young
    ≡ (c.args.a - c.self.inside.segments) / c.self.inside.sizes.young = cc (is.segments, is.young) in
    subst (IsNumberOf c.args.self.now c.args.a) same found
