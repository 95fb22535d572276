use Rattle.std.proofs.Common.{arith}
use Rattle.std.proofs.Common.{◌-◌, ◌/◌}
use Rattle.page_space.specs.declared.region.Region.TheVariants.{Root, Layout, Mark, Board}
use Rattle.page_space.proofs.Addresses.{is_in, inside_only}
use Rattle.page_space.proofs.Computed.{computed_for}
use Rattle.page_space.proofs.regions.Regions.region.Goals as goal

pub returns-then-a-self-clause-outside : goal.returns-then-a-self-clause-outside
returns-then-a-self-clause-outside c =
    let is = computed_for c.self.inside c.args.self.now c.self.view_is c.self.invariant in
    inside_only c.args.self.now c.cell_region.result c.args.a c.cell_region.ensures.inside (omega arith)

pub returns-then-a-self-2-clause-inside : goal.returns-then-a-self-2-clause-inside
returns-then-a-self-2-clause-inside c =
    let is = computed_for c.self.inside c.args.self.now c.self.view_is c.self.invariant in
    λ below. is_in c.args.self.now (Root ((c.args.a - c.self.inside.roots) / 2)) c.args.a (record {
      is_region = omega arith;
      from = omega arith;
      below = omega arith;
    })

pub returns-then-a-self-2-clause-outside : goal.returns-then-a-self-2-clause-outside
returns-then-a-self-2-clause-outside c =
    let is = computed_for c.self.inside c.args.self.now c.self.view_is c.self.invariant in
    inside_only c.args.self.now (Root ((c.args.a - c.self.inside.roots) / 2)) c.args.a (λ same. cc) (omega arith)

pub returns-then-a-self-3-clause-inside : goal.returns-then-a-self-3-clause-inside
returns-then-a-self-3-clause-inside c =
    let is = computed_for c.self.inside c.args.self.now c.self.view_is c.self.invariant in
    λ below. is_in c.args.self.now (Layout (c.args.a - c.self.inside.layouts)) c.args.a (record {
      is_region = omega arith;
      from = omega arith;
      below = omega arith;
    })

pub returns-then-a-self-3-clause-outside : goal.returns-then-a-self-3-clause-outside
returns-then-a-self-3-clause-outside c =
    let is = computed_for c.self.inside c.args.self.now c.self.view_is c.self.invariant in
    inside_only c.args.self.now (Layout (c.args.a - c.self.inside.layouts)) c.args.a (λ same. cc) (omega arith)

pub returns-then-a-self-4-clause-inside : goal.returns-then-a-self-4-clause-inside
returns-then-a-self-4-clause-inside c =
    let is = computed_for c.self.inside c.args.self.now c.self.view_is c.self.invariant in
    λ below. is_in c.args.self.now (Mark (c.args.a - c.self.inside.marks)) c.args.a (record {
      is_region = omega arith;
      from = omega arith;
      below = omega arith;
    })

pub returns-then-a-self-4-clause-outside : goal.returns-then-a-self-4-clause-outside
returns-then-a-self-4-clause-outside c =
    let is = computed_for c.self.inside c.args.self.now c.self.view_is c.self.invariant in
    inside_only c.args.self.now (Mark (c.args.a - c.self.inside.marks)) c.args.a (λ same. cc) (omega arith)

pub returns-then-a-self-5-clause-inside : goal.returns-then-a-self-5-clause-inside
returns-then-a-self-5-clause-inside c =
    let is = computed_for c.self.inside c.args.self.now c.self.view_is c.self.invariant in
    λ below. is_in c.args.self.now (Board (c.args.a - c.self.inside.board)) c.args.a (record {
      is_region = omega arith;
      from = omega arith;
      below = omega arith;
    })
