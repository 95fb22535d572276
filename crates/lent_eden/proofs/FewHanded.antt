-- How many words workers copied, and how many slots they left.
use Rattle.std.proofs.Common.{◌≡◌, ◌+◌, ◌≤◌, List, [], ◌∷◌, ◌++◌, length, arith}
use Rattle.std.specs.List.{Contains, sum_by}
use Rattle.std.proofs.lemmas.List.{length-append}
use Rattle.std.proofs.lemmas.List.Sums.{sum_by-cons}
use Rattle.tagged_word.proofs.Members.{first_in, rest_in}
use Rattle.write_barrier.specs.MutatorState.{heap_of}
use Rattle.scav_copy.specs.Places.{size_of}
use Rattle.scav_copy.proofs.Spots.{from_is}
use Rattle.scavenger.proofs.Sums.{few_homes, sum_of_homes}
use Rattle.eden_copies.specs.Together.{Finished}
use Rattle.eden_copies.proofs.AllTogether.{has_copied}
use Rattle.lent_eden.specs.Lent.{lent}
use Rattle.lent_eden.specs.Handed.{HandedAreFew, left_by, words_by}
use Rattle.lent_eden.proofs.RanWorkers.{has_began, may}
use Rattle.lent_eden.proofs.HandedOver.{workers_hand_over}

-- where each left no more slots than its room has words, all together did not
left_few : (all : List Finished)
    → ((one : Finished) → Contains all one → length one.worker.left ≤ length one.worker.room)
    → length (left_by all) ≤ words_by all
left_few [] each = omega arith
left_few (one ∷ all) each =
    let slots : length (one.worker.left ++ left_by all) ≡ length one.worker.left + length (left_by all) =
    length-append one.worker.left (left_by all) in
    let words : words_by (one ∷ all) ≡ length one.worker.room + words_by all =
    sum_by-cons (λ (other : Finished). length other.worker.room) one all in
    let rest : length (left_by all) ≤ words_by all =
    left_few all (λ other there. each other (rest_in one all other there)) in
    omega (arith, slots, words, rest, each one (first_in one all))

-- the law
pub handed_are_few : HandedAreFew
handed_are_few main graph all now run taken beside =
    let hands = workers_hand_over main graph all now run taken beside in
    let began = has_began main graph all run in
    let few : sum_of_homes (size_of hands.fixed) hands.homes ≤ sum_by (size_of hands.fixed) hands.fixed.cells =
    few_homes (size_of hands.fixed) hands.fixed.cells hands.homes hands.begun.ascend hands.copying.ascend
    (λ home there. from_is home hands.copying there) in (
      omega (arith, few, hands.counted, hands.words, hands.begun.counted, hands.begun.whole.rows.few),
      left_few all
          (λ one there.
          let copied = has_copied (lent (heap_of main)) main.recorded.slots all (may began) run.copied one there in
          omega (arith, copied.1.copying.left_few)),
    )
