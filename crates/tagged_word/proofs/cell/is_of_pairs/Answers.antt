use Rattle.std.proofs.Common.{◌≡◌, ◌*◌, true, false, arith, lt-ltb, ltb-true}
use Rattle.tagged_word.proofs.Members.{in_range, range_bounds}
use Rattle.tagged_word.proofs.cell.is_of_pairs.Goals as goal

pub returns-then-offset-lt-STORE_HEAD : goal.returns-then-offset-lt-STORE_HEAD
returns-then-offset-lt-STORE_HEAD c = (
  (λ (e : false ≡ true). cc),
  λ m. let b = range_bounds 2 (2 * c.args.pairs) c.args.offset m in absurd (omega arith),
)

pub returns : goal.returns
returns c = (
  (λ t. let l = ltb-true _ _ t in in_range 2 (2 * c.args.pairs) c.args.offset (omega arith) (omega arith)),
  λ m. let b = range_bounds 2 (2 * c.args.pairs) c.args.offset m in lt-ltb _ _ (omega arith),
)
