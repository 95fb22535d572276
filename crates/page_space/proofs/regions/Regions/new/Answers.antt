use Rattle.std.proofs.Common.{arith}
use Rattle.std.proofs.Common.{refl}
use Rattle.page_space.specs.Extents.{Space}
use Rattle.page_space.proofs.Starts.{roots_start_is, layouts_start_is, marks_start_is, board_start_is, words_count_is}
use Rattle.page_space.proofs.regions.Regions.new.Goals as goal

pub invariant_of-result : goal.invariant_of-result
invariant_of-result c =
    let space : Space = record { sizes = c.args.sizes; variables = c.args.variables } in
    record {
      within = c.requires;
      eden = refl;
      segments = refl;
      roots = omega (arith, c.half_words.ensures.words, roots_start_is space);
      layouts = omega (arith, c.half_words.ensures.words, roots_start_is space, layouts_start_is space);
      marks = omega (
        arith,
        c.half_words.ensures.words,
        roots_start_is space,
        layouts_start_is space,
        marks_start_is space,
      );
      board = omega (
        arith,
        c.half_words.ensures.words,
        roots_start_is space,
        layouts_start_is space,
        marks_start_is space,
        board_start_is space,
      );
      count = omega (
        arith,
        c.half_words.ensures.words,
        roots_start_is space,
        layouts_start_is space,
        marks_start_is space,
        board_start_is space,
        words_count_is space,
      );
    }
