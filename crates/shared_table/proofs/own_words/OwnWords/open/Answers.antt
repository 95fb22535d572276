use Rattle.std.proofs.Common.{◌≡◌, ◌∙◌, ℕ, List, replicate, ap, arith, rules}
use Rattle.shared_table.specs.Owned.{Own}
use Rattle.shared_table.proofs.MarksStart.{first_mark_starts}
use Rattle.shared_table.proofs.own_words.OwnWords.open.Goals as goal

pub invariant_of-result : goal.invariant_of-result
invariant_of-result c =
    let starts = first_mark_starts c.args.regions c.start-heap_count.result c.sizes_fit.ensures
    c.start-heap_count.ensures.starts in
    record { counted = omega (arith, c.in_ok-items.ensures.len, starts); heap_count = starts }

pub returns : goal.returns
returns c =
    let starts = first_mark_starts c.args.regions c.start-heap_count.result c.sizes_fit.ensures
    c.start-heap_count.ensures.starts in
    let all : c.in_ok-items.items.items ≡ replicate c.start-heap_count.result 0 = search rules in
    let of_words : List ℕ → Own = λ words. record { space = c.args.regions; words = words } in
    record { opened = ap of_words (all ∙ ap (λ (n : ℕ). replicate n 0) starts) }
