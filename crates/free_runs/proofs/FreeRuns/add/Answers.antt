use Rattle.std.proofs.Common.{◌≡◌, ◌∙◌, ◌<◌, [], ◌∷◌, ◌++◌, length, length-append, ap, subst, sym, arith}
use Rattle.std.proofs.lemmas.List.{get_or_default, length-set}
use Rattle.free_runs.specs.FreeRuns.{IsBehind, IsRowOf, row_of}
use Rattle.free_runs.proofs.Ascents.{row_added, row_is_few}
use Rattle.free_runs.proofs.Pages.{page_put}
use Rattle.free_runs.proofs.FreeRuns.add.Goals as goal

pub add-requires : goal.add-requires
add-requires c =
    let rows = c.self.inside.rows.items in
    let page = c.args.page in
    let row = row_of rows page in
    let there : page < length rows = omega (arith, c.requires.there, ap length c.self.view_is) in
    let row_is : c.index_mut.result.now ≡ row =
    c.index_mut.ensures.value ∙ get_or_default rows page c.index_mut.result.now [] there in
    let behind : IsBehind row c.args.run = rw c.self.view_is c.requires.behind in
    let is = row_added page row c.args.run (c.self.invariant.free page there) c.requires.lies behind in
    rw row_is (omega (arith, row_is_few page (row ++ c.args.run ∷ []) is, length-append row (c.args.run ∷ [])))

pub invariant_of-self : goal.invariant_of-self
invariant_of-self c =
    let rows = c.self.inside.rows.items in
    let page = c.args.page in
    let row = row_of rows page in
    let there : page < length rows = omega (arith, c.requires.there, ap length c.self.view_is) in
    let row_is : c.index_mut.result.now ≡ row =
    c.index_mut.ensures.value ∙ get_or_default rows page c.index_mut.result.now [] there in
    let behind : IsBehind row c.args.run = rw c.self.view_is c.requires.behind in
    let is = row_added page row c.args.run (c.self.invariant.free page there) c.requires.lies behind in
    let added : c.add.new.self ≡ row ++ c.args.run ∷ [] =
    c.add.ensures ∙ ap (λ all. all ++ c.args.run ∷ []) row_is in
    let same_count = length-set rows page c.add.new.self in
    record {
      few = omega (arith, c.self.invariant.few, same_count);
      free = page_put rows page c.add.new.self c.self.invariant.free there (subst (IsRowOf page) (sym added) is);
      cursor = omega (arith, c.self.invariant.cursor, same_count);
    }
