-- An element is told by the word of its slot.
use Rattle.std.proofs.Common.{Ok, sym, subst, ℤ, w64, SFits, rules}
use Rattle.std.proofs.lemmas.Int.{to_z-of_z}
use Rattle.std.specs.Prelude.{Some}
use Rattle.heap_model.specs.Types.{Held}
use Rattle.heap_model.specs.Showing.{ShowsHeld}
use Rattle.write_barrier.specs.MutatorState.{heap_of}
use Rattle.list_store.specs.ListChanges.{TellsWord}
use Rattle.list_store.proofs.telling.at.Goals as goal

pub value_of_word-requires : goal.value_of_word-requires
value_of_word-requires c =
    let (value, element, by) =
    c.in_ok-word.ensures c.requires.graph c.requires.list c.requires.shows c.requires.is in
    by.within

pub returns : goal.returns
returns c graph one shows is =
    let fits : SFits w64 c.args.index = search rules in
    let (value, element, by) =
    subst (λ (k : ℤ). TellsWord c.args.main.now one k (Ok c.in_ok-word.word)) (to_z-of_z w64 c.args.index fits)
    (c.in_ok-word.ensures graph one shows is) in (
      value,
      element,
      subst (λ (held : Held). ShowsHeld (heap_of c.args.main.now) held (Some value))
          (sym (c.value_of_word.ensures by.class by.is_class by.bits))
          by.shows,
    )
