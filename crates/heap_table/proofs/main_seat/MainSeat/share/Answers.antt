-- All words are 0 in both.
use Rattle.std.proofs.Common.{◌≡◌, ◌∙◌, ◌*◌, ℕ, sym, ap, subst, arith}
use Rattle.tagged_word.specs.Shapes.{shapes_most}
use Rattle.page_space.specs.declared.sizes.Sizes.{Sizes}
use Rattle.page_space.specs.Sizes.{page_words}
use Rattle.page_space.specs.Extents.{Space}
use Rattle.shared_table.specs.declared.overview.Counts.{Counts}
use Rattle.shared_table.specs.declared.overview.Overview.{Overview}
use Rattle.shared_table.specs.Worlds.{beginning}
use Rattle.shared_table.specs.Owned.{Own, zeros}
use Rattle.heap_table.specs.Seats.{counts_of}
use Rattle.heap_table.specs.Sharing.{Agrees}
use Rattle.heap_table.proofs.Agreeing.{zeros_agree}
use Rattle.heap_table.proofs.SeatSteps.{shown}
use Rattle.heap_table.proofs.main_seat.MainSeat.share.Goals as goal

-- what a table knows that was opened with the sizes of regions
opened_is : (regions : Space) (pages : ℕ) (main : Overview) → pages ≡ regions.sizes.pages
    → main ≡ beginning (record { old = pages * page_words; shapes = shapes_most })
    → main ≡ beginning (counts_of regions)
opened_is regions pages main same opened =
    let of : ℕ → Counts = λ old. record { old = old; shapes = shapes_most } in
    let counts : of (pages * page_words) ≡ counts_of regions = ap of (omega (arith, same)) in
    opened ∙ ap beginning counts

pub invariant_of-result : goal.invariant_of-result
invariant_of-result c =
    let (regions, is) = c.requires in
    let pages : c.sizes.result.pages ≡ regions.sizes.pages =
    ap (λ (sizes : Sizes). sizes.pages) c.sizes.ensures
    ∙ ap (λ (space : Space). space.sizes.pages) c.regions-regions.ensures.regions
    ∙ ap (λ (one : Own). one.space.sizes.pages) is in
    let main = opened_is regions c.sizes.result.pages c.in_ok-side.side.main pages c.in_ok-side.ensures.opened in
    record {
      agrees = subst (λ (one : Own). Agrees one c.in_ok-side.side.main) (sym is)
          (subst (λ (one : Overview). Agrees (zeros regions) one) (sym main) (zeros_agree regions));
    }

pub returns : goal.returns
returns c = λ regions is.
    let pages : c.sizes.result.pages ≡ regions.sizes.pages =
    ap (λ (sizes : Sizes). sizes.pages) c.sizes.ensures
    ∙ ap (λ (space : Space). space.sizes.pages) c.regions-regions.ensures.regions
    ∙ ap (λ (one : Own). one.space.sizes.pages) is in
    let main = opened_is regions c.sizes.result.pages c.in_ok-side.side.main pages c.in_ok-side.ensures.opened in (
      c.in_ok-side.side.table,
      ap (λ (own : Own). shown own c.in_ok-side.side) is
          ∙ ap (λ (now : Overview). shown (zeros regions) (record { table = c.in_ok-side.side.table; main = now }))
          main,
    )
