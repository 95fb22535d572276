use Rattle.std.proofs.Common.{arith}
use Rattle.std.proofs.Common.{◌≡◌, ◌+◌, ◌*◌, ◌/◌, ◌%◌, ◌∙◌, refl}
use Rattle.std.proofs.lemmas.Bool.{true≢false}
use Rattle.page_space.specs.declared.region.Region.TheVariants.{Page, Eden, Segment}
use Rattle.page_space.specs.Sizes.{page_words}
use Rattle.page_space.specs.Extents.{segments_start, half_segments}
use Rattle.page_space.proofs.Standing.{start_of}
use Rattle.page_space.proofs.Segments.{start_of-segment}
use Rattle.page_space.proofs.CellAddresses.{in_page, in_eden, in_segment, cells_end, cells_are}
use Rattle.page_space.proofs.CellEnds.{end_before_roots}
use Rattle.page_space.proofs.Computed.{computed_for}
use Rattle.page_space.proofs.regions.Regions.cells_end.Goals as goal

pub returns-then-a-self-clause-cells : goal.returns-then-a-self-clause-cells
returns-then-a-self-clause-cells c =
    let is = computed_for c.self.inside c.args.self.now c.self.view_is c.self.invariant in
    cells_end c.args.self.now (Page (c.args.a / page_words)) c.args.a _ refl
    (in_page c.args.self.now c.args.a (omega arith)) (omega arith)

pub returns-then-a-self-clause-behind : goal.returns-then-a-self-clause-behind
returns-then-a-self-clause-behind c =
    let is = computed_for c.self.inside c.args.self.now c.self.view_is c.self.invariant in
    (λ same. absurd (true≢false same), λ behind. absurd (omega arith))

pub returns-then-a-self-2-clause-cells : goal.returns-then-a-self-2-clause-cells
returns-then-a-self-2-clause-cells c =
    let is = computed_for c.self.inside c.args.self.now c.self.view_is c.self.invariant in
    cells_end c.args.self.now Eden c.args.a _ refl
    (in_eden c.args.self.now c.args.a (omega arith) (omega arith)) (omega arith)

pub returns-then-a-self-2-clause-behind : goal.returns-then-a-self-2-clause-behind
returns-then-a-self-2-clause-behind c =
    let is = computed_for c.self.inside c.args.self.now c.self.view_is c.self.invariant in
    (λ same. absurd (true≢false same), λ behind. absurd (omega arith))

pub returns-then-a-self-3-clause-cells : goal.returns-then-a-self-3-clause-cells
returns-then-a-self-3-clause-cells c =
    let is = computed_for c.self.inside c.args.self.now c.self.view_is c.self.invariant in
    let space = c.args.self.now in
    let number = c.segment_number.result in
    let segment = Segment (number / half_segments space) (number % half_segments space) in
    let ends : start_of space segment + space.sizes.young ≡ segments_start space + (number + 1) * space.sizes.young =
    omega (arith, start_of-segment space number) in
    let same : segments_start space + (number + 1) * space.sizes.young
    ≡ c.self.inside.segments + (number + 1) * c.self.inside.sizes.young = cc (is.segments, is.young) in
    cells_end space segment c.args.a _ refl (in_segment space c.args.a number c.segment_number.ensures) (ends ∙ same)

pub returns-else-a-self-3-clause-cells : goal.returns-else-a-self-3-clause-cells
returns-else-a-self-3-clause-cells c =
    let is = computed_for c.self.inside c.args.self.now c.self.view_is c.self.invariant in
    λ inside. let before = (cells_are c.args.self.now c.args.a is.numbers.within).1 inside in omega arith

pub returns-then-a-self-clause-inside : goal.returns-then-a-self-clause-inside
returns-then-a-self-clause-inside c =
    let is = computed_for c.self.inside c.args.self.now c.self.view_is c.self.invariant in
    let before = end_before_roots c.args.self.now c.args.a _ (returns-then-a-self-clause-cells c) in
    omega arith

pub returns-then-a-self-2-clause-inside : goal.returns-then-a-self-2-clause-inside
returns-then-a-self-2-clause-inside c =
    let is = computed_for c.self.inside c.args.self.now c.self.view_is c.self.invariant in
    let before = end_before_roots c.args.self.now c.args.a _ (returns-then-a-self-2-clause-cells c) in
    omega arith

pub returns-then-a-self-3-clause-inside : goal.returns-then-a-self-3-clause-inside
returns-then-a-self-3-clause-inside c =
    let is = computed_for c.self.inside c.args.self.now c.self.view_is c.self.invariant in
    let before = end_before_roots c.args.self.now c.args.a _ (returns-then-a-self-3-clause-cells c) in
    omega arith
