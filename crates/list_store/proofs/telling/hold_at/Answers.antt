-- A variable comes to hold an element by the word of its slot.
use Rattle.std.proofs.Common.{Ok, subst, ℤ, w64, SFits, rules}
use Rattle.std.proofs.lemmas.Int.{to_z-of_z}
use Rattle.write_barrier.specs.MutatorState.{heap_of}
use Rattle.write_barrier.specs.Values.{held_of_class}
use Rattle.list_store.specs.ListChanges.{TellsWord}
use Rattle.list_store.proofs.telling.hold_at.Goals as goal

pub hold_word-requires-clause-class : goal.hold_word-requires-clause-class
hold_word-requires-clause-class c =
    let asked = c.requires.shown in
    let (value, element, by) = c.in_ok-word.ensures asked.graph asked.list asked.shows asked.is in
    (by.class, by.is_class, by.bits)

pub hold_word-requires-clause-within : goal.hold_word-requires-clause-within
hold_word-requires-clause-within c =
    let asked = c.requires.shown in
    let (value, element, by) = c.in_ok-word.ensures asked.graph asked.list asked.shows asked.is in
    by.within

pub returns : goal.returns
returns c graph one shows is =
    let fits : SFits w64 c.args.index = search rules in
    let (value, element, by) =
    subst (λ (k : ℤ). TellsWord c.args.main.now one k (Ok c.in_ok-word.word)) (to_z-of_z w64 c.args.index fits)
    (c.in_ok-word.ensures graph one shows is) in (
      held_of_class (heap_of c.args.main.now) by.class,
      (value, element, by.shows),
      record {
        fits = c.hold_word.ensures.fits by.class by.is_class by.bits;
        is = c.hold_word.ensures.held by.class by.is_class by.bits;
        heap = c.hold_word.ensures.heap by.class by.is_class by.bits;
      },
    )
