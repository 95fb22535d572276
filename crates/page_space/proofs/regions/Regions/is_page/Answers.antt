use Rattle.std.proofs.Common.{ℕ, ◌<◌, ◌↔◌, sym, subst}
use borrow.Author.Tests.{ltb-true}
use Rattle.std.proofs.lemmas.Bool.{lt-ltb}
use Rattle.page_space.specs.Extents.{IsInOne, is_page_region}
use Rattle.page_space.proofs.CellAddresses.{pages_are}
use Rattle.page_space.proofs.Computed.{computed_for}
use Rattle.page_space.proofs.regions.Regions.is_page.Goals as goal

pub returns : goal.returns
returns c =
    let is = computed_for c.self.inside c.args.self.now c.self.view_is c.self.invariant in
    let same : (c.args.a < c.self.inside.eden) ↔ IsInOne c.args.self.now is_page_region c.args.a =
    subst (λ (n : ℕ). (c.args.a < n) ↔ IsInOne c.args.self.now is_page_region c.args.a) (sym is.eden)
    (pages_are c.args.self.now c.args.a) in
    (λ holds. same.0 (ltb-true _ _ holds), λ inside. lt-ltb _ _ (same.1 inside))
