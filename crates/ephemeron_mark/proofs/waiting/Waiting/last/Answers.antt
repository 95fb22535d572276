-- What is told of a key is the last pair of it, and no pair waits for one of which nothing is told.
use Rattle.std.proofs.Common.{◌<◌, ◌≤◌, ℕ, length, sym, ◌∙◌, subst, arith}
use Rattle.std.proofs.lemmas.List.{get_or_past, get_or_default}
use Rattle.ephemeron_mark.specs.Pairs.{Waits, IsLastOf}
use Rattle.ephemeron_mark.specs.Model.{keys_of}
use Rattle.ephemeron_mark.proofs.AddedPairs.{told_of_all}
use Rattle.ephemeron_mark.proofs.waiting.Waiting.last.Goals as goal

pub returns-then-key-len-clause-last : goal.returns-then-key-len-clause-last
returns-then-key-len-clause-last c =
    let key : ℕ = c.args.key in
    let last = c.self.inside.last.items in
    let pairs = c.self.inside.pairs.items in
    let past : length last ≤ key = omega (arith, c.if-key-len.true, c.len.ensures) in
    subst (λ (waits : Waits). IsLastOf waits.keys (length waits.keys) key 0) c.self.view_is
    (subst (λ (n : ℕ). IsLastOf (keys_of pairs) (length (keys_of pairs)) key n) (get_or_past last key 0 past)
    (told_of_all pairs last key c.self.invariant.told))

pub returns-clause-last : goal.returns-clause-last
returns-clause-last c =
    let key : ℕ = c.args.key in
    let last = c.self.inside.last.items in
    let pairs = c.self.inside.pairs.items in
    let within : key < length last = omega (arith, c.if-key-len.false, c.len.ensures) in
    let read = get_or_default last key 0 c.index.result.now within ∙ sym c.index.ensures in
    subst (λ (waits : Waits). IsLastOf waits.keys (length waits.keys) key c.index.result.now) c.self.view_is
    (subst (λ (n : ℕ). IsLastOf (keys_of pairs) (length (keys_of pairs)) key n) read
    (told_of_all pairs last key c.self.invariant.told))
