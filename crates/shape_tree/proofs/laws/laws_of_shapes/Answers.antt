-- The laws of shapes, each by its lemma.
use Rattle.shape_tree.proofs.ShapePaths.{one_shape}
use Rattle.shape_tree.proofs.LedPaths.{AreShapes-after}
use Rattle.shape_tree.proofs.PathLayouts.{layout_word-after}
use Rattle.shape_tree.proofs.laws.laws_of_shapes.Goals as goal

pub returns-clause-words_stay : goal.returns-clause-words_stay
returns-clause-words_stay c = layout_word-after

pub returns-clause-are_one : goal.returns-clause-are_one
returns-clause-are_one c = λ paths a b good. one_shape paths a b good.are.distinct

pub returns-clause-stay_good : goal.returns-clause-stay_good
returns-clause-stay_good c = AreShapes-after
