use Rattle.std.proofs.Common.{arith}
use Rattle.std.proofs.Common.{subst}
use Rattle.page_space.specs.declared.region.Region.TheVariants.{Page, Eden, Mark, Board}
use Rattle.page_space.specs.Extents.{IsRegion}
use Rattle.page_space.proofs.Addresses.{starts_at}
use Rattle.page_space.proofs.Computed.{computed_for}
use Rattle.page_space.proofs.regions.Regions.start.Goals as goal

pub overflow_add-result : goal.overflow_add-result
overflow_add-result c =
    let is = computed_for c.self.inside c.args.self.now c.self.view_is c.self.invariant in
    let is_one : IsRegion c.args.self.now (Mark c.in-Mark.mark) =
    subst (IsRegion c.args.self.now) c.in-Mark.is c.requires in
    omega arith

pub overflow_add-result-in-Board : goal.overflow_add-result-in-Board
overflow_add-result-in-Board c =
    let is = computed_for c.self.inside c.args.self.now c.self.view_is c.self.invariant in
    let is_one : IsRegion c.args.self.now (Board c.in-Board.place) =
    subst (IsRegion c.args.self.now) c.in-Board.is c.requires in
    omega arith

pub returns-in-Page-clause-starts : goal.returns-in-Page-clause-starts
returns-in-Page-clause-starts c =
    let is = computed_for c.self.inside c.args.self.now c.self.view_is c.self.invariant in
    let is_one : IsRegion c.args.self.now (Page c.in-Page.page) =
    subst (IsRegion c.args.self.now) c.in-Page.is c.requires in
    rw c.in-Page.is (starts_at c.args.self.now (Page c.in-Page.page) _ is_one (omega arith))

pub returns-in-Eden-clause-starts : goal.returns-in-Eden-clause-starts
returns-in-Eden-clause-starts c =
    let is = computed_for c.self.inside c.args.self.now c.self.view_is c.self.invariant in
    let is_one : IsRegion c.args.self.now (Eden) = subst (IsRegion c.args.self.now) c.in-Eden.is c.requires in
    rw c.in-Eden.is (starts_at c.args.self.now (Eden) _ is_one (omega arith))

pub returns-in-Mark-clause-starts : goal.returns-in-Mark-clause-starts
returns-in-Mark-clause-starts c =
    let is = computed_for c.self.inside c.args.self.now c.self.view_is c.self.invariant in
    let is_one : IsRegion c.args.self.now (Mark c.in-Mark.mark) =
    subst (IsRegion c.args.self.now) c.in-Mark.is c.requires in
    rw c.in-Mark.is (starts_at c.args.self.now (Mark c.in-Mark.mark) _ is_one (omega arith))

pub returns-in-Board-clause-starts : goal.returns-in-Board-clause-starts
returns-in-Board-clause-starts c =
    let is = computed_for c.self.inside c.args.self.now c.self.view_is c.self.invariant in
    let is_one : IsRegion c.args.self.now (Board c.in-Board.place) =
    subst (IsRegion c.args.self.now) c.in-Board.is c.requires in
    rw c.in-Board.is (starts_at c.args.self.now (Board c.in-Board.place) _ is_one (omega arith))

pub returns-in-Page-clause-inside : goal.returns-in-Page-clause-inside
returns-in-Page-clause-inside c =
    let is = computed_for c.self.inside c.args.self.now c.self.view_is c.self.invariant in
    let is_one : IsRegion c.args.self.now (Page c.in-Page.page) =
    subst (IsRegion c.args.self.now) c.in-Page.is c.requires in
    omega arith

pub returns-in-Mark-clause-inside : goal.returns-in-Mark-clause-inside
returns-in-Mark-clause-inside c =
    let is = computed_for c.self.inside c.args.self.now c.self.view_is c.self.invariant in
    let is_one : IsRegion c.args.self.now (Mark c.in-Mark.mark) =
    subst (IsRegion c.args.self.now) c.in-Mark.is c.requires in
    omega arith

pub returns-in-Board-clause-inside : goal.returns-in-Board-clause-inside
returns-in-Board-clause-inside c =
    let is = computed_for c.self.inside c.args.self.now c.self.view_is c.self.invariant in
    let is_one : IsRegion c.args.self.now (Board c.in-Board.place) =
    subst (IsRegion c.args.self.now) c.in-Board.is c.requires in
    omega arith

pub returns-in-Eden-clause-inside : goal.returns-in-Eden-clause-inside
returns-in-Eden-clause-inside c =
    let is = computed_for c.self.inside c.args.self.now c.self.view_is c.self.invariant in
    omega arith
