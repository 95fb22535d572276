use Rattle.std.proofs.Common.{◌≡◌, ◌<◌, ◌^◌, true, false, arith}
use Rattle.tagged_word.specs.declared.word.Class.TheVariants.{Ref, Odd}
use Rattle.tagged_word.specs.Words.{bits_of}
use Rattle.tagged_word.proofs.word.Word.class.Goals as goal

pub returns-in_ok-payload-in-1-clause-none : goal.returns-in_ok-payload-in-1-clause-none
returns-in_ok-payload-in-1-clause-none c =
    let v = c.in_ok-payload-in-1.field-0 in
    let e = c.in_ok-payload-in-1.ensures in
    let small : v < 2 ^ 32 = omega (arith, e) in
    let bits : c.args.self.0 ≡ bits_of (Ref v) = omega (arith, e, c.in-1.is) in
    (λ (e : true ≡ false) h i b. cc, λ f. absurd (f (Ref v) small bits))

pub returns-in_ok-payload-in-3-clause-none : goal.returns-in_ok-payload-in-3-clause-none
returns-in_ok-payload-in-3-clause-none c =
    let v = c.in_ok-payload-in-3.field-0 in
    let e = c.in_ok-payload-in-3.ensures in
    let small : v < 2 ^ 32 = omega (arith, e) in
    let bits : c.args.self.0 ≡ bits_of (Odd v) = omega (arith, e, c.in-3.is) in
    (λ (e : true ≡ false) h i b. cc, λ f. absurd (f (Odd v) small bits))
