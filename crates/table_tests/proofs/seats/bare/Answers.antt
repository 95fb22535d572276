-- A seat that was just opened is bare.
use Rattle.std.proofs.Common.{subst, sym}
use Rattle.page_space.specs.Sizes.{AreWithin}
use Rattle.page_space.specs.Extents.{Space}
use Rattle.table_tests.proofs.BareSeats.{one_page, opened_bare, opened_layouts, opened_page, if_ok}
use Rattle.table_tests.proofs.seats.bare.Goals as goal

pub returns : goal.returns
returns c =
    let regions : Space = c.new.result in
    let within : AreWithin regions.sizes regions.variables =
    subst (λ (space : Space). AreWithin space.sizes space.variables) (sym c.new.ensures) one_page in
    record {
      bare = if_ok c.open.result (λ seat fresh. opened_bare regions seat within fresh) c.open.ensures.opened;
      layouts = if_ok c.open.result (λ seat fresh. opened_layouts regions seat fresh) c.open.ensures.opened;
      page = if_ok c.open.result (λ seat fresh. opened_page regions seat c.new.ensures fresh) c.open.ensures.opened;
    }
