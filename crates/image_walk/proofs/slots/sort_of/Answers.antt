use Rattle.std.proofs.Common.{refl, arith}
use Rattle.tagged_word.specs.declared.word.Class.TheVariants.{Small, Ref, Odd}
use Rattle.tagged_word.specs.Odds.{undefined_code, hole_code}
use Rattle.heap_model.specs.Images.{image_heap}
use Rattle.image_walk.proofs.SpanWords.{address_few, words_count_few}
use Rattle.image_walk.proofs.slots.sort_of.Goals as goal

-- a word of no class stands for nothing
pub returns-in-None : goal.returns-in-None
returns-in-None c =
    let no_class = c.in-None.ensures.none.0 refl in
    record {
      not_small = λ is. no_class (Small is.0) is.1 is.2;
      not_undefined = λ same. no_class (Odd undefined_code) (omega arith) same;
      not_hole = λ same. no_class (Odd hole_code) (omega arith) same;
      refers_not = λ cell words refers.
          no_class (Ref cell.at)
          (address_few (image_heap c.args.image.now) cell words c.requires.sized refers.has
          (words_count_few c.args.image.now.regions c.sizes_fit.ensures))
          refers.refers;
    }
