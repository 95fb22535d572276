use Rattle.std.proofs.Common.{ℕ, get_or, refl, sym, ◌∙◌, arith}
use Rattle.std.specs.Prelude.{pos}
use Rattle.std.proofs.lemmas.Bool.{false≢true}
use Rattle.std.proofs.lemmas.Option.{slice_get_within, slice_get-get_or}
use Rattle.heap_model.specs.Types.{Entry}
use Rattle.object_graph.specs.declared.value.Value.TheVariants.{Int}
use Rattle.heap_model.specs.Images.{image_heap}
use Rattle.image_walk.specs.TablePairs.{table_pairs}
use Rattle.slow_check.specs.KeyPairs.{ShowsIfReached}
use Rattle.slow_check.proofs.EachItem.{each_item_more}
use Rattle.slow_check.proofs.entries.show_entries.Goals as goal

pub returns-then-not-shows_if_reached : goal.returns-then-not-shows_if_reached
returns-then-not-shows_if_reached c =
    let entries = c.args.entries.now in
    let at = c.loop-entry.entry-index in
    let none : Entry = record { key = 0; value = Int (pos 0) } in (
      λ wrong. absurd (false≢true wrong),
      λ shown. sym c.if-not-shows_if_reached.true ∙ c.shows_if_reached.ensures.1
          (shown at (get_or entries at none) (slice_get-get_or entries at none c.loop-entry-test.true)),
    )

pub loop-entry-preserved : goal.loop-entry-preserved
loop-entry-preserved c =
    let heap = image_heap c.args.image.now in
    let entries = c.args.entries.now in
    let at = c.loop-entry.entry-index in
    let none : Entry = record { key = 0; value = Int (pos 0) } in
    let Shown : ℕ → Entry → Type 0 = λ k one.
    ShowsIfReached heap c.args.marks.now (table_pairs heap c.args.table) one in
    each_item_more entries Shown at (get_or entries at none) c.loop-entry.invariant
    (slice_get-get_or entries at none c.loop-entry-test.true)
    (c.shows_if_reached.ensures.0 c.if-not-shows_if_reached.false)

pub returns : goal.returns
returns c =
    let entries = c.args.entries.now in (
      λ done at entry there. c.loop-entry.invariant at
          (omega (arith, c.loop-entry-test.false, slice_get_within entries at entry there)) entry there,
      λ shown. refl,
    )
