-- One word more is put behind those of the room.
use Rattle.std.proofs.Common.{◌≡◌, ◌∙◌, ℕ, ◌+◌, ◌<◌, ◌++◌, ◌∷◌, [], List, length, get_or, take, drop, sym, ap, arith}
use Rattle.std.proofs.lemmas.List.{append_assoc, get_or-drop, length-drop, take_more}
use Rattle.std.proofs.lemmas.Option.{get_or_from_slice_get}
use Rattle.eden_copies.proofs.worker.append.Goals as goal

pub loop-offset-preserved : goal.loop-offset-preserved
loop-offset-preserved c =
    let room : List ℕ = c.args.room.now.items in
    let rest : List ℕ = drop c.args.at c.args.words.now.words in
    let offset : ℕ = c.loop-offset.offset in
    let word : ℕ = c.slot.result in
    let inside : offset < length rest =
    omega (
      arith,
      length-drop c.args.at c.args.words.now.words,
      c.requires.there,
      c.count-count.ensures.counted,
      c.loop-offset-test.true,
    ) in
    let is : get_or rest offset 0 ≡ word =
    get_or-drop c.args.at c.args.words.now.words offset 0
    ∙ get_or_from_slice_get c.args.words.now.words (c.args.at + offset) word 0 c.slot.ensures.of_heap in
    record {
      items = c.push_reserved.ensures.items
          ∙ (ap (λ (xs : List ℕ). xs ++ word ∷ []) c.loop-offset.invariant.items
          ∙ (append_assoc room (take offset rest) (word ∷ [])
          ∙ ap (λ (xs : List ℕ). room ++ xs) (ap (λ (w : ℕ). take offset rest ++ w ∷ []) (sym is)
          ∙ sym (take_more rest offset 0 inside))));
      capacity = c.push_reserved.ensures.capacity ∙ c.loop-offset.invariant.capacity;
    }
