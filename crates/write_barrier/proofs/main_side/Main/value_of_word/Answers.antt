-- What a word stands for, by its class.
use Rattle.std.proofs.Common.{Some, ap, sym, ◌∙◌, subst}
use Rattle.std.proofs.lemmas.Option.{none-some}
use Rattle.tagged_word.specs.declared.word.Class.TheVariants.{Small, Ref}
use Rattle.tagged_word.specs.Words.{IsClass, bits_of}
use Rattle.tagged_word.proofs.Readings.{reference_to}
use Rattle.handle_roots.specs.declared.held.Held.TheVariants as held
use Rattle.write_barrier.specs.MutatorState.{heap_of}
use Rattle.write_barrier.proofs.ClassValues.{held_by_class, small_back}
use Rattle.write_barrier.proofs.main_side.Main.value_of_word.Goals as goal

pub value_at-requires : goal.value_at-requires
value_at-requires c =
    c.requires c.in-Some-Ref.at
    (reference_to c.args.word.0 c.in-Some-Ref.at (subst IsClass c.in-Some-Ref.field-0-is c.in-Some-Ref.ensures.one.0)
    (c.in-Some-Ref.ensures.one.1 ∙ ap bits_of c.in-Some-Ref.field-0-is))

pub returns-in-Some-Small : goal.returns-in-Some-Small
returns-in-Some-Small c = λ class is bits.
    ap (λ n. held.Int n)
    (small_back c.in-Some-Small.v (subst IsClass c.in-Some-Small.field-0-is c.in-Some-Small.ensures.one.0))
    ∙ held_by_class (heap_of c.args.self.now) (Small c.in-Some-Small.v) class
    (c.in-Some-Small.is ∙ ap (λ k. Some k) c.in-Some-Small.field-0-is) (c.class.ensures.parses class is bits)

pub returns-in-Some-Ref : goal.returns-in-Some-Ref
returns-in-Some-Ref c = λ class is bits.
    c.value_at.ensures
    ∙ held_by_class (heap_of c.args.self.now) (Ref c.in-Some-Ref.at) class
    (c.in-Some-Ref.is ∙ ap (λ k. Some k) c.in-Some-Ref.field-0-is) (c.class.ensures.parses class is bits)

pub returns-in-Some-Odd : goal.returns-in-Some-Odd
returns-in-Some-Odd c = λ class is bits.
    held_by_class (heap_of c.args.self.now) _ class
    (c.in-Some-Odd.is ∙ ap (λ k. Some k) c.in-Some-Odd.field-0-is) (c.class.ensures.parses class is bits)

pub returns-in-None : goal.returns-in-None
returns-in-None c = λ class is bits.
    absurd (none-some class (sym c.in-None.is ∙ c.class.ensures.parses class is bits))
