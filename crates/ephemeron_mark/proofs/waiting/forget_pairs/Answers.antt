-- The pair that is taken off was the last.
use Rattle.std.proofs.Common.{rules, ◌≡◌, ◌∙◌, ◌∷◌, ◌++◌, [], List, subst, arith}
use Rattle.ephemeron_mark.specs.declared.waiting.WaitingPair.{WaitingPair}
use Rattle.ephemeron_mark.specs.Model.{AreTold}
use Rattle.ephemeron_mark.proofs.AddedPairs.{key_told, told_taken}
use Rattle.ephemeron_mark.proofs.waiting.forget_pairs.Goals as goal

pub index_mut-requires : goal.index_mut-requires
index_mut-requires c =
    let rest : List WaitingPair = c.pop.new.self.items in
    let pair : WaitingPair = c.in-Some.pair in
    let items : c.loop-pair.pairs.items ≡ rest ++ pair ∷ [] = search rules in
    let told = subst (AreTold c.loop-pair.last.items) items c.loop-pair.invariant.told in
    omega (arith, key_told rest pair c.loop-pair.last.items told)

pub loop-pair-preserved : goal.loop-pair-preserved
loop-pair-preserved c =
    let last = c.loop-pair.last.items in
    let rest : List WaitingPair = c.pop.new.self.items in
    let pair : WaitingPair = c.in-Some.pair in
    let items : c.loop-pair.pairs.items ≡ rest ++ pair ∷ [] = search rules in
    let told = subst (AreTold last) items c.loop-pair.invariant.told in
    record {
      told = told_taken rest pair last told;
      capacity_of_last = c.loop-pair.invariant.capacity_of_last;
      capacity = c.pop.ensures.capacity ∙ c.loop-pair.invariant.capacity;
    }
