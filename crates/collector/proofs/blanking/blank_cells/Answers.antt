use Rattle.std.proofs.Common.{◌≤◌, refl, subst}
use Rattle.page_space.specs.declared.region.Region.TheVariants.{Eden}
use Rattle.page_space.specs.Extents.{Space, StartsAt, CellsEndAt, roots_start}
use Rattle.collector.proofs.BlankedWords.{blanking_begins, next_blank, blanking_goes_on, blanking_ends}
use Rattle.collector.proofs.blanking.blank_cells.Goals as goal

pub loop-end-init : goal.loop-end-init
loop-end-init c =
    let Starts : Space → Type 0 = λ space. StartsAt space Eden c.start-at.result in
    blanking_begins c.args.main.now c.start-at.result c.requires.whole.rows
    (subst Starts c.regions-regions.ensures.regions c.start-at.ensures.starts)

pub blank_region-requires-clause-rows : goal.blank_region-requires-clause-rows
blank_region-requires-clause-rows c =
    let Ends : Space → Type 0 = λ space. CellsEndAt space c.loop-end.at c.in-Some.end in
    (next_blank c.args.main.now c.loop-end.main c.loop-end.at c.in-Some.end c.requires.whole
    c.regions-regions.ensures.within c.loop-end.invariant
    (subst Ends c.regions-regions.ensures.regions c.in-Some.ensures.cells)).now_rows

pub blank_region-requires-clause-stands : goal.blank_region-requires-clause-stands
blank_region-requires-clause-stands c =
    let Ends : Space → Type 0 = λ space. CellsEndAt space c.loop-end.at c.in-Some.end in
    (next_blank c.args.main.now c.loop-end.main c.loop-end.at c.in-Some.end c.requires.whole
    c.regions-regions.ensures.within c.loop-end.invariant
    (subst Ends c.regions-regions.ensures.regions c.in-Some.ensures.cells)).now_stands

pub loop-end-preserved : goal.loop-end-preserved
loop-end-preserved c =
    let Ends : Space → Type 0 = λ space. CellsEndAt space c.loop-end.at c.in-Some.end in
    blanking_goes_on c.args.main.now c.loop-end.main c.blank_region.new.main c.loop-end.at c.in-Some.end
    c.requires.whole c.regions-regions.ensures.within c.loop-end.invariant
    (subst Ends c.regions-regions.ensures.regions c.in-Some.ensures.cells) c.blank_region.ensures.blanked
    c.blank_region.ensures.rest

pub returns-clause-words : goal.returns-clause-words
returns-clause-words c =
    let Past : Space → Type 0 = λ space. roots_start space ≤ c.loop-end.at in
    blanking_ends c.args.main.now c.loop-end.main c.loop-end.at c.requires.whole c.regions-regions.ensures.within
    c.loop-end.invariant (subst Past c.regions-regions.ensures.regions (c.in_default.ensures.behind.0 refl))
