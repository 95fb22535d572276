-- The integer that is put is the one that was given.
use Rattle.std.proofs.Common.{◌≡◌, ◌∙◌, ℕ, ◌+◌, ℤ, SFits, w64, ap, subst, rules}
use Rattle.std.proofs.lemmas.Int.{to_z-of_z}
use Rattle.handle_roots.specs.declared.held.Held.TheVariants.{Int}
use Rattle.handle_roots.specs.Roots.{FitsHeld, root_at, second_word}
use Rattle.write_barrier.specs.Seats.{heap_words}
use Rattle.write_barrier.specs.MutatorState.{Mutator, put_word}
use Rattle.write_barrier.proofs.RootsPut.{wide_put, holds_put}
use Rattle.write_barrier.proofs.main_side.Main.replace_wide.Goals as goal

pub returns : goal.returns
returns c =
    let old : Mutator = c.args.self.now in
    let fits : SFits w64 c.args.v = search rules in
    let held_fits : FitsHeld (Int c.args.v) = search rules in
    let (was, is, holds) = c.requires.was in
    let P : ℤ → Type 0 = λ v. c.wide_word.result ≡ second_word (Int v) in
    let word : P c.args.v = subst P (to_z-of_z w64 c.args.v fits) c.wide_word.ensures in
    let put = c.put_own_slot.ensures.put
    ∙ ap (λ (at : ℕ). put_word old (at + 1) c.wide_word.result) c.root_of-root.ensures.at
    ∙ ap (put_word old (root_at old.seat.space c.args.variable + 1)) word in
    let held = wide_put old c.put_own_slot.new.self c.args.variable was c.args.v is c.requires.wide holds put in
    let heap = ap (λ (main : Mutator). heap_words main.seat) held in
    record {
      held = held;
      heap = heap;
      holds = holds_put old c.put_own_slot.new.self c.args.variable (Int c.args.v) held_fits c.requires.known
          c.addresses_fit.ensures.heap_counted heap;
    }
