use Rattle.std.proofs.Common.{subst, sym}
use Rattle.page_space.specs.Extents.{Space}
use Rattle.page_space.specs.Sizes.{AreWithin}
use Rattle.write_barrier.specs.MutatorState.{heap_of}
use Rattle.heap_model.specs.Images.{image_heap}
use Rattle.heap_script.proofs.Judged.{judged_sound, judged_counts}
use Rattle.heap_script.proofs.inspecting.InspectorJudge.judge.Goals as goal

pub returns-clause-judged : goal.returns-clause-judged
returns-clause-judged c =
    let (graph, shown) = c.requires.shown in
    let heap = heap_of c.args.heap.now.main in
    let image = image_heap c.put_image.new.image in
    let is = c.put_image.ensures.image in
    let shows = shown.main.shows in
    record {
      image = image;
      is = is;
      judges = c.check.ensures.judges;
      no_flaw = judged_sound {heap = image} c.check.result c.laws_of_flaws.ensures
          (subst (λ (space : Space). AreWithin space.sizes space.variables) (sym is.space)
          (rw c.main.ensures at c.addresses_fit.ensures.within))
          (c.laws_of_images.ensures.show heap image graph shows is).whole
          (c.laws_of_images.ensures.blank heap image shows.whole is) c.check.ensures.judges;
    }

pub returns-clause-counted : goal.returns-clause-counted
returns-clause-counted c = λ graph shown exact.
    let heap = heap_of c.args.heap.now.main in
    let image = image_heap c.put_image.new.image in
    judged_counts {heap = image} {graph = graph} c.check.result c.laws_of_counts.ensures.census shown.main.is_graph
    (c.laws_of_images.ensures.exact heap image graph exact c.put_image.ensures.image) c.check.ensures.judges
