-- Both words of a box that is made are no slots.
use Rattle.std.proofs.Common.{sym, subst, arith, to_z, of_z, w64}
use Rattle.write_barrier.specs.MutatorState.{Mutator}
use Rattle.write_barrier.specs.Recording.{Touches}
use Rattle.write_barrier.specs.Storing.{StoresOn}
use Rattle.write_barrier.proofs.StoresOn.{stores_on_itself}
use Rattle.object_cells.specs.Contents.{with_box}
use Rattle.object_cells.specs.Made.{content_touch}
use Rattle.object_cells.specs.declared.content.SlotContent.{SlotContent}
use Rattle.object_cells.proofs.FilledTouches.{box_touch}
use Rattle.object_cells.proofs.YoungStores.{box_stores_on}
use Rattle.object_cells.proofs.RestOfWords.{layouts_before_marks}
use Rattle.object_cells.proofs.boxes.boxed_word.Goals as goal

pub returns-in-Boxed-clause-touches : goal.returns-in-Boxed-clause-touches
returns-in-Boxed-clause-touches c =
    let old : Mutator = c.args.main.now in
    let at = c.args.at in
    let v = to_z w64 (of_z w64 c.in-Boxed.v) in
    subst (λ (new : Mutator). Touches old new (content_touch c.args.content at))
    (sym c.make_box.ensures.made)
    (subst (λ (holds : SlotContent). Touches old (with_box old at v) (content_touch holds at)) (sym c.in-Boxed.is)
    (box_touch old at v (omega (arith, c.requires.within c.in-Boxed.v c.in-Boxed.is, layouts_before_marks old.seat.space))))

pub returns-in-Tagged-clause-stores : goal.returns-in-Tagged-clause-stores
returns-in-Tagged-clause-stores c = stores_on_itself c.args.main.now

pub returns-in-Raw-clause-stores : goal.returns-in-Raw-clause-stores
returns-in-Raw-clause-stores c = stores_on_itself c.args.main.now

pub returns-in-Boxed-clause-stores : goal.returns-in-Boxed-clause-stores
returns-in-Boxed-clause-stores c =
    let v = to_z w64 (of_z w64 c.in-Boxed.v) in
    subst (StoresOn c.args.main.now) (sym c.make_box.ensures.made)
    (box_stores_on c.args.at v (c.requires.young c.in-Boxed.v c.in-Boxed.is)
    (c.requires.within c.in-Boxed.v c.in-Boxed.is))
