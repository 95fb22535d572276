use Rattle.std.proofs.Common.{◌∙◌, sym, ap, append-nil}
use Rattle.ideal_parts.proofs.PathLists.{and_unless, missing_below-more}
use Rattle.ideal_parts.proofs.paths.missing.Goals as goal
use Rattle.ideal_parts.proofs.paths.missing.Goals.{then-not-is_among+in_ok-push, else-not-is_among}

pub loop-count-preserved : goal.loop-count-preserved
loop-count-preserved c =
    let next = c.in_ok-prefix.prefix in
    let some = c.loop-count.more.items in
    let more = missing_below-more c.args.paths.now c.args.path.now next c.loop-count.count c.is_among.result some
    c.loop-count.invariant c.in_ok-prefix.ensures c.is_among.ensures in
    elim c.if-not-is_among.branch [
      | then-not-is_among+in_ok-push w ↦
          let absent = ap (λ among. and_unless among next some) (sym w.if-not-is_among.true) in
          ap (λ v. v.items) w.more-is ∙ w.in_ok-push.ensures.items ∙ absent ∙ more
      | else-not-is_among w ↦
          let present = ap (λ among. and_unless among next some) (sym w.if-not-is_among.false) in
          ap (λ v. v.items) w.more-is ∙ sym (append-nil some) ∙ present ∙ more
    ]
