use Rattle.std.proofs.Common.{arith}
use Rattle.std.proofs.Common.{ℕ, ◌+◌, ◌/◌, ◌%◌, sym, subst}
use Rattle.page_space.specs.declared.region.Region.TheVariants.{Segment}
use Rattle.page_space.specs.Extents.{IsIn}
use Rattle.page_space.proofs.Addresses.{is_in}
use Rattle.page_space.proofs.CellAddresses.{in_page, in_eden, in_segment}
use Rattle.page_space.proofs.Computed.{computed_for}
use Rattle.page_space.proofs.regions.Regions.cell_region.Goals as goal

pub returns-then-a-self-clause-is_in : goal.returns-then-a-self-clause-is_in
returns-then-a-self-clause-is_in c =
    let is = computed_for c.self.inside c.args.self.now c.self.view_is c.self.invariant in
    is_in c.args.self.now _ c.args.a (in_page c.args.self.now c.args.a (omega arith))

pub returns-then-a-self-2-clause-is_in : goal.returns-then-a-self-2-clause-is_in
returns-then-a-self-2-clause-is_in c =
    let is = computed_for c.self.inside c.args.self.now c.self.view_is c.self.invariant in
    is_in c.args.self.now _ c.args.a (in_eden c.args.self.now c.args.a (omega arith) (omega arith))

pub returns-clause-is_in : goal.returns-clause-is_in
returns-clause-is_in c =
    let is = computed_for c.self.inside c.args.self.now c.self.view_is c.self.invariant in
    let number = c.segment_number-number.result in
    let P : ℕ → Type 0 = λ h. IsIn c.args.self.now c.args.a (Segment (number / (h + 1)) (number % (h + 1))) in
    subst P (sym is.helpers)
    (is_in c.args.self.now _ c.args.a (in_segment c.args.self.now c.args.a number c.segment_number-number.ensures))
