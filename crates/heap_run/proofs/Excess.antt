-- A source that has more bytes than it may have.
use Rattle.std.proofs.Common.{◌≡◌, ℕ, ◌+◌, ◌<◌, List, length, drop, Option}
use Rattle.std.proofs.Common.{Some, None, IfSome, sym, ap, ◌∙◌, arith, length-append}
use Rattle.std.proofs.lemmas.List.{drop_at}
use Rattle.byte_ends.proofs.Consuming.{Consumes}
use Rattle.heap_run.specs.Answers.{source_most}

-- where one byte more than a source may have was taken, the source had so many, and the others are left
pub too_many : (old new : Option (List ℕ)) (bytes : List ℕ) → Consumes old new bytes → length bytes ≡ source_most + 1
    → IfSome old (λ left. (source_most < length left) × (new ≡ Some (drop (source_most + 1) left)))
too_many None new bytes c one_more = tt
too_many (Some left) new bytes (rest, left-is, new-is) one_more =
    let long : length left ≡ length bytes + length rest = ap length left-is ∙ length-append bytes rest in
    let after : drop (source_most + 1) left ≡ rest =
    ap (drop (source_most + 1)) left-is ∙ drop_at bytes rest (source_most + 1) one_more in
    (omega arith, new-is ∙ ap Some (sym after))
