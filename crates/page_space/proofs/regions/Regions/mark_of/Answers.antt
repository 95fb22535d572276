use Rattle.std.proofs.Common.{arith}
use Rattle.page_space.specs.declared.region.Region.TheVariants.{Mark}
use Rattle.page_space.specs.Extents.{mark_number}
use Rattle.page_space.proofs.Addresses.{starts_at}
use Rattle.page_space.proofs.Computed.{computed_for}
use Rattle.page_space.proofs.regions.Regions.mark_of.Goals as goal

pub overflow_add-result : goal.overflow_add-result
overflow_add-result c =
    let is = computed_for c.self.inside c.args.self.now c.self.view_is c.self.invariant in
    omega arith

pub returns-clause-starts : goal.returns-clause-starts
returns-clause-starts c =
    let is = computed_for c.self.inside c.args.self.now c.self.view_is c.self.invariant in
    starts_at c.args.self.now (Mark (mark_number c.args.a)) _ c.requires (omega arith)

pub returns-clause-inside : goal.returns-clause-inside
returns-clause-inside c =
    let is = computed_for c.self.inside c.args.self.now c.self.view_is c.self.invariant in
    omega arith
