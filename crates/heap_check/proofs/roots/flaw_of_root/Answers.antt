use Rattle.std.proofs.Common.{ℕ, ◌+◌, Some, length, slice_index_or, ap, arith, refl, sym, ◌∙◌, subst}
use Rattle.std.proofs.lemmas.Bool.{false≢true}
use Rattle.page_space.proofs.Starts.{layouts_start_is, marks_start_is}
use Rattle.handle_roots.specs.Roots.{root_at}
use Rattle.heap_model.specs.Images.{image_heap}
use Rattle.heap_check.specs.Roots.{IsRootOf}
use Rattle.heap_check.proofs.WordsRead.{read_at}
use Rattle.heap_check.proofs.RootFlaws.{root_first, root_second}
use Rattle.page_space.proofs.Limits.{words_count_most}
use Rattle.heap_check.proofs.roots.flaw_of_root.Goals as goal

pub bounds-as_slice-at : goal.bounds-as_slice-at
bounds-as_slice-at c =
    omega (
      arith,
      ap length c.as_slice.ensures,
      c.requires.sized,
      c.requires.known,
      c.root_at-at.ensures.at,
      layouts_start_is c.args.image.now.regions,
      marks_start_is c.args.image.now.regions,
    )

pub bounds-as_slice-at-2 : goal.bounds-as_slice-at-2
bounds-as_slice-at-2 c =
    omega (
      arith,
      ap length c.as_slice-2.ensures,
      c.requires.sized,
      c.requires.known,
      c.root_at-at.ensures.at,
      layouts_start_is c.args.image.now.regions,
      marks_start_is c.args.image.now.regions,
    )

pub returns-then-is_root : goal.returns-then-is_root
returns-then-is_root c =
    let space = c.args.image.now.regions in
    let words = c.args.image.now.words in
    let at = c.root_at-at.result in
    let starts = layouts_start_is space in
    let marks = marks_start_is space in
    let one = ap length c.as_slice.ensures in
    let two = ap length c.as_slice-2.ensures in
    let first = read_at words c.as_slice.result.now (root_at space c.args.variable) at c.as_slice.ensures
    c.root_at-at.ensures.at (omega (arith, one, c.requires.sized, c.requires.known, c.root_at-at.ensures.at)) in
    let second = read_at words c.as_slice-2.result.now (root_at space c.args.variable + 1) (at + 1)
    c.as_slice-2.ensures (omega (arith, c.root_at-at.ensures.at))
    (omega (arith, two, c.requires.sized, c.requires.known, c.root_at-at.ensures.at)) in
    let root = c.is_root.ensures.0 c.if-is_root.true in
    record {
      held = root.held;
      holds = record {
        fits = root.fits;
        first = first ∙ ap (λ (word : ℕ). Some word) root.is_first;
        second = second ∙ ap (λ (word : ℕ). Some word) root.is_second;
      };
      is = root.is;
    }

pub returns-then-is_root-2 : goal.returns-then-is_root-2
returns-then-is_root-2 c =
    let heap = image_heap c.args.image.now in
    let space = c.args.image.now.regions in
    let words = c.args.image.now.words in
    let at = c.root_at-at.result in
    let starts = layouts_start_is space in
    let marks = marks_start_is space in
    let one = ap length c.as_slice.ensures in
    let two = ap length c.as_slice-2.ensures in
    let first = slice_index_or c.as_slice.result.now at 0 in
    let second = slice_index_or c.as_slice-2.result.now (at + 1) 0 in
    let alone = c.is_root-2.ensures.0 c.if-is_root-2.true in
    root_second heap c.args.variable first (record { at = at + 1; found = second; wanted = 0 })
    (read_at words c.as_slice.result.now (root_at space c.args.variable) at c.as_slice.ensures
    c.root_at-at.ensures.at (omega (arith, one, c.requires.sized, c.requires.known, c.root_at-at.ensures.at)))
    (read_at words c.as_slice-2.result.now (root_at space c.args.variable + 1) (at + 1) c.as_slice-2.ensures
    (omega (arith, c.root_at-at.ensures.at))
    (omega (arith, two, c.requires.sized, c.requires.known, c.root_at-at.ensures.at)))
    alone
    (λ zero. false≢true (sym c.if-is_root.false
    ∙ c.is_root.ensures.1 (subst (λ (word : ℕ). IsRootOf heap first word) (sym zero) alone)))
    (omega (arith, c.root_at-at.ensures.at)) refl

pub returns : goal.returns
returns c =
    let heap = image_heap c.args.image.now in
    let space = c.args.image.now.regions in
    let words = c.args.image.now.words in
    let at = c.root_at-at.result in
    let starts = layouts_start_is space in
    let marks = marks_start_is space in
    let one = ap length c.as_slice.ensures in
    let two = ap length c.as_slice-2.ensures in
    let first = slice_index_or c.as_slice.result.now at 0 in
    let second = slice_index_or c.as_slice-2.result.now (at + 1) 0 in
    root_first heap c.args.variable second (record { at = at; found = first; wanted = c.odd.result.0 })
    (read_at words c.as_slice.result.now (root_at space c.args.variable) at c.as_slice.ensures
    c.root_at-at.ensures.at (omega (arith, one, c.requires.sized, c.requires.known, c.root_at-at.ensures.at)))
    (read_at words c.as_slice-2.result.now (root_at space c.args.variable + 1) (at + 1) c.as_slice-2.ensures
    (omega (arith, c.root_at-at.ensures.at))
    (omega (arith, two, c.requires.sized, c.requires.known, c.root_at-at.ensures.at)))
    (λ alone. false≢true (sym c.if-is_root-2.false ∙ c.is_root-2.ensures.1 alone))
    (λ both. false≢true (sym c.if-is_root.false ∙ c.is_root.ensures.1 both))
    c.root_at-at.ensures.at c.odd.ensures

pub overflow_add-result : goal.overflow_add-result
overflow_add-result c =
    omega (arith, c.root_at-at.ensures.inside, words_count_most c.args.image.now.regions c.sizes_fit.ensures)
