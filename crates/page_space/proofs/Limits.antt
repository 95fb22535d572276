-- How many words there may be.
use Rattle.std.proofs.Common.{◌+◌, ◌*◌, ◌≤◌, arith}
use Rattle.std.proofs.Math.Nat.{mul-le-mul}
use Rattle.page_space.specs.Sizes.{young_most, helpers_most, AreWithin}
use Rattle.page_space.specs.Extents.{Space, words_count, words_most, half_segments}
use Rattle.page_space.proofs.Starts.{half_words, roots_start_is, layouts_start_is, marks_start_is, board_start_is}
use Rattle.page_space.proofs.Starts.{words_count_is}

-- within the limits a half has at most 524,288 words
pub half_words_most : (space : Space) → AreWithin space.sizes space.variables →
    half_words space ≤ (helpers_most + 1) * young_most
half_words_most space within =
    mul-le-mul {n₁ = half_segments space} {m₁ = space.sizes.young} {n₂ = helpers_most + 1} {m₂ = young_most}
    (omega (arith, within.helpers)) within.young

-- and there are at most 3,221,576 words in all
pub words_count_most : (space : Space) → AreWithin space.sizes space.variables → words_count space ≤ words_most
words_count_most space within =
    omega (
      arith,
      half_words_most space within,
      within.pages,
      within.young,
      within.of_variables,
      roots_start_is space,
      layouts_start_is space,
      marks_start_is space,
      board_start_is space,
      words_count_is space,
    )
