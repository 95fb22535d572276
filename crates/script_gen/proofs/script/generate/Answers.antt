-- The opening lines and a form are written: the forms after it are left, and the lists are short for them.
use Rattle.std.proofs.Common.{◌≡◌, suc, ◌+◌, ap, ◌∙◌, subst, sym, arith}
use Rattle.script_gen.specs.declared.draws.Kept.{Kept}
use Rattle.script_gen.specs.Forms.{form_of, after_form}
use Rattle.script_gen.proofs.Lengths.{AreShortBefore, AreShortBefore-next}
use Rattle.script_gen.proofs.Steps.{written-next}
use Rattle.script_gen.proofs.script.generate.Goals as goal

pub loop-number-preserved : goal.loop-number-preserved
loop-number-preserved c =
    let number = c.loop-number.number in
    let kept = c.loop-number.kept in
    let opened = c.in_ok-write_opening.ensures in
    let formed = c.in_ok-write_form.ensures in
    let after = formed.after ∙ ap (λ (k : Kept). after_form (form_of k)) opened.kept in
    let on : suc number ≡ number + 1 = omega arith in
    let short = AreShortBefore-next number kept c.loop-number.invariant.short in
    record {
      written = written-next c.args.n number kept c.write_opening.new.kept c.write_form.new.kept c.loop-number.out.items
          c.write_opening.new.out.items c.write_form.new.out.items _ (omega arith) opened.written opened.kept formed
          c.loop-number.invariant.written;
      short = subst (λ n. AreShortBefore n c.write_form.new.kept) on
          (subst (AreShortBefore (suc number)) (sym after) short);
    }
