use Rattle.std.proofs.Common.{ℕ, ◌+◌, ◌≡◌, ◌∙◌, [], ◌∷◌, ◌++◌, map, min, slice_index, ap, sym, arith}
use Rattle.tagged_word.proofs.Ascents.{tagged_ascend}
use Rattle.mark_world.specs.Pages.{page_end, slots_of}
use Rattle.mark_core.proofs.SlotWalks.{below_none, below_all, put_at, put_none, slots_inside}
use Rattle.mark_core.proofs.learning.slot_words.Goals as goal
use Rattle.mark_core.proofs.learning.slot_words.Goals.{then-is_slot+in_ok-push, else-is_slot}

pub loop-offset-init : goal.loop-offset-init
loop-offset-init c =
    c.new-words.ensures ∙ ap (map (λ offset. slice_index c.args.world.now.words (c.args.at + offset)))
    (sym (below_none (slots_of c.args.cell)))

pub loop-offset-preserved : goal.loop-offset-preserved
loop-offset-preserved c =
    let f : ℕ → ℕ = λ offset. slice_index c.args.world.now.words (c.args.at + offset) in
    let ascends = tagged_ascend c.args.cell.layout c.args.cell.length in
    elim c.if-is_slot.branch [
      | then-is_slot+in_ok-push w ↦
          let word : w.word_at.result ≡ f c.loop-offset.offset = cc (w.word_at.ensures, w.as_slice.ensures) in
          w.words-is ∙ w.in_ok-push.ensures.ok ∙ ap (λ (v : ℕ). c.loop-offset.words ++ v ∷ []) word
          ∙ put_at f (slots_of c.args.cell) c.loop-offset.offset c.loop-offset.words ascends
          c.loop-offset.invariant (sym c.is_slot.ensures ∙ w.if-is_slot.true)
      | else-is_slot w ↦ w.words-is ∙ put_none f (slots_of c.args.cell) c.loop-offset.offset c.loop-offset.words ascends
          c.loop-offset.invariant (sym c.is_slot.ensures ∙ w.if-is_slot.false)
    ]

pub returns : goal.returns
returns c =
    c.loop-offset.invariant ∙ ap (map (λ offset. slice_index c.args.world.now.words (c.args.at + offset)))
    (below_all (slots_of c.args.cell) c.loop-offset.offset
    (λ k d l. omega (
      arith,
      slots_inside c.args.world.now.words c.args.world.now.layouts c.args.at
          (min c.args.world.now.old (page_end c.args.at)) c.args.cell c.requires k d l,
    )))
