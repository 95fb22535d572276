-- Both root words stand among the words.
use Rattle.std.proofs.Common.{◌+◌, List, ℕ, length, length-set, ap, arith}
use Rattle.handle_roots.proofs.RootWords.{root_before_layouts, layouts_start_most}
use Rattle.word_tests.proofs.variables.put_pair.Goals as goal

pub put-requires-clause-within : goal.put-requires-clause-within
put-requires-clause-within c =
    omega (
      arith,
      c.root_at-root.ensures.at,
      c.requires.within,
      root_before_layouts c.args.regions.now c.args.variable c.requires.known,
    )

pub overflow_add-root : goal.overflow_add-root
overflow_add-root c =
    omega (
      arith,
      c.root_at-root.ensures.at,
      root_before_layouts c.args.regions.now c.args.variable c.requires.known,
      layouts_start_most c.args.regions.now c.sizes_fit.ensures,
    )

pub put-requires-2-clause-within : goal.put-requires-2-clause-within
put-requires-2-clause-within c =
    omega (
      arith,
      c.root_at-root.ensures.at,
      c.requires.within,
      root_before_layouts c.args.regions.now c.args.variable c.requires.known,
      ap (λ (words : List ℕ). length words) c.put.ensures.put,
      length-set c.args.words.now c.root_at-root.result c.args.pair.first,
    )
