use Rattle.std.proofs.Common.{◌≡◌, ℕ, List, sym, ◌∙◌, subst, slice_index}
use Rattle.mark_world.specs.Safety.{IsSafe}
use Rattle.mark_core.proofs.conditions.may_store_header.Goals as goal

pub returns : goal.returns
returns c =
    let w = c.args.world.now in
    let found : c.word_at-found.result ≡ slice_index w.words c.args.at =
    cc (c.word_at-found.ensures, c.as_slice.ensures) in (
      λ t. record {
        place = c.may_change_at.ensures.0 c.if-not-may_change_at.false;
        safe = subst (λ (f : ℕ). IsSafe w.layouts f c.args.word) found
            (subst (λ (ls : List ℕ). IsSafe ls c.word_at-found.result c.args.word) c.as_slice-2.ensures
            (c.is_safe.ensures.0 c.if-not-is_safe.false));
        sure = λ free. c.are_sure_after.ensures.0 t;
      },
      λ may. c.are_sure_after.ensures.1 (may.sure (sym c.is_free.ensures ∙ c.if-not-is_free.false)),
    )
