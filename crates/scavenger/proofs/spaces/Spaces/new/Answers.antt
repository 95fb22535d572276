-- The spaces begin where their regions do, and end before the marks.
use Rattle.std.proofs.Common.{◌≡◌, ap, arith}
use Rattle.page_space.specs.declared.sizes.Sizes.{Sizes}
use Rattle.page_space.proofs.LawsHold.{kinds_by_number}
use Rattle.page_space.proofs.Limits.{words_count_most}
use Rattle.scavenger.proofs.CodeSegments.{spaces_are, half_before_marks}
use Rattle.scavenger.proofs.spaces.Spaces.new.Goals as goal

pub returns : goal.returns
returns c =
    spaces_are c.args.regions.now c.sizes-sizes.result c.args.half c.start-eden.result c.start-left.result
    c.start-room.result c.args.promote_all c.sizes-sizes.ensures c.requires c.start-eden.ensures.starts
    c.start-left.ensures.starts
    c.start-room.ensures.starts

pub overflow_add-result : goal.overflow_add-result
overflow_add-result c =
    let limits = c.sizes_fit.ensures in
    let young : c.sizes-sizes.result.young ≡ c.args.regions.now.sizes.young =
    ap (λ (sizes : Sizes). sizes.young) c.sizes-sizes.ensures in
    omega (arith, words_count_most c.args.regions.now limits, c.start-eden.ensures.inside, limits.young, young)

pub overflow_add-result-4 : goal.overflow_add-result-4
overflow_add-result-4 c =
    let limits = c.sizes_fit.ensures in
    let young : c.sizes-sizes.result.young ≡ c.args.regions.now.sizes.young =
    ap (λ (sizes : Sizes). sizes.young) c.sizes-sizes.ensures in
    omega (arith, words_count_most c.args.regions.now limits, c.start-room.ensures.inside, limits.young, young)

pub overflow_add-result-3 : goal.overflow_add-result-3
overflow_add-result-3 c =
    let space = c.args.regions.now in
    let kinds = kinds_by_number space in
    let are = spaces_are space c.sizes-sizes.result c.args.half c.start-eden.result c.start-left.result
    c.start-room.result c.args.promote_all c.sizes-sizes.ensures c.requires c.start-eden.ensures.starts
    c.start-left.ensures.starts
    c.start-room.ensures.starts in
    omega (
      arith,
      words_count_most space c.sizes_fit.ensures,
      are.left_end,
      half_before_marks space c.args.half c.requires,
      kinds.board,
      kinds.count,
    )
