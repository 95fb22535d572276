-- The variable is bound to the value, which is a literal or what another variable is bound to.
use Rattle.std.proofs.Common.{◌≡◌, ◌≢◌, ◌<◌, ℕ, ℤ, List, [], Ok, Err, Some, refl, sym, ap, subst, rules}
use Rattle.std.proofs.Common.{to_z, of_z, w64, SFits}
use Rattle.std.proofs.lemmas.Bool.{false≢true}
use Rattle.std.proofs.lemmas.Int.{to_z-of_z}
use Rattle.std.specs.FinMap.{get}
use Rattle.heap_command.specs.declared.command.Command.TheVariants.{LetValue}
use Rattle.heap_model.specs.Types.{Operand, Value, Held}
use Rattle.heap_command.specs.declared.command.Operand.TheVariants as operand
use Rattle.heap_command.specs.declared.command.FaultWord.TheVariants.{Unbound}
use Rattle.heap_command.specs.Commands.{NamesBelow}
use Rattle.object_graph.specs.declared.value.Value.TheVariants.{Int, Undefined}
use Rattle.object_graph.specs.Graphs.{Graph, bind, value_of}
use Rattle.object_graph.specs.Meaning.{given, done}
use Rattle.handle_roots.specs.declared.held.Held.TheVariants as held
use Rattle.handle_roots.specs.Roots.{Holds, IsRoot}
use Rattle.write_barrier.specs.Seats.{heap_words}
use Rattle.write_barrier.specs.MutatorState.{Mutator, heap_of, MainShows, with_variable}
use Rattle.heap_model.specs.Showing.{ShowsHeld}
use Rattle.mutator.specs.Reading.{StandsFor}
use Rattle.mutator.specs.Binding.{Binds}
use Rattle.mutator.specs.CarriesOut.{Carries}
use Rattle.mutator.specs.declared.stop.Stop.TheVariants.{Fault}
use Rattle.mutator.proofs.HeldValues.{is_root, operand_fits, some_shown, none_shown, bound_stands}
use Rattle.mutator.proofs.Rebinding.{HoldsAnew, binds_after, holds_after, value_carried}
use Rattle.mutator.proofs.bindings.let_value.Goals as goal

-- a literal integer stands for itself
integer_stands : (main : Mutator) (graph : Graph) (v : ℤ) → SFits w64 v → StandsFor main graph (Int v) (held.Int v)
integer_stands main graph v fits = record { is = record { shows = ShowsHeld.integer v; reached = tt }; fits = fits }

-- and so does `undefined`
undefined_stands : (main : Mutator) (graph : Graph) → StandsFor main graph Undefined held.Undefined
undefined_stands main graph = record { is = record { shows = ShowsHeld.undefined; reached = tt }; fits = tt }

-- a variable that was made to hold what stands for the value is bound to it
let_carried : {old new : Mutator} {graph : Graph} {one : Held} (names : List (List ℕ)) (x : ℕ) (v : Operand)
    (value : Value) → MainShows old graph → value_of graph v ≡ Some value → StandsFor old graph value one
    → x < old.seat.space.variables → HoldsAnew old new x one → Carries names old new graph (LetValue x v) [] (Ok tt)
let_carried {graph = graph} {one} names x v value shows is stands known holds =
    value_carried names x one refl shows (ap (λ found. given Unbound found (λ one. done (bind graph x one) [])) is) refl
    (operand_fits v value one is stands) known stands.fits stands.is.shows holds (λ rooms. (refl, λ number. refl))

-- so is one to which what another variable holds was copied, where that is something
copy_carried : {old now new : Mutator} {graph : Graph} (names : List (List ℕ)) (x source : ℕ) → MainShows old graph
    → x < old.seat.space.variables → source < old.seat.space.variables → now ≡ old
    → ((one : Held) → Holds old.seat.space (heap_words old.seat) source one → one ≢ held.Unbound)
    → ((one : Held) → Holds now.seat.space (heap_words now.seat) source one → HoldsAnew now new x one)
    → Carries names old new graph (LetValue x (operand.Var source)) [] (Ok tt)
copy_carried {graph = graph} names x source shows within known same bound copied =
    let binding = shows.shows.bindings source known in
    let one = binding.held in
    let some = some_shown one (get graph.bindings source) (bound one binding.holds) binding.shows in
    let stands = bound_stands source one some.value shows some.is binding.holds.fits some.shows in
    let holds = subst (λ (main : Mutator). Holds main.seat.space (heap_words main.seat) source one)
    (sym same) binding.holds in
    let_carried names x (operand.Var source) some.value shows some.is stands within
    (holds_after x one same (copied one holds))

-- only the variable to which what another variable holds was copied is bound anew
copy_binds : {old now new : Mutator} (x source : ℕ) → IsRoot old.seat.space (heap_words old.seat) source → now ≡ old
    → ((one : Held) → Holds now.seat.space (heap_words now.seat) source one → new ≡ with_variable now x one)
    → Binds old new x
copy_binds x source root same copied =
    let P : Mutator → Type 0 = λ main. Holds main.seat.space (heap_words main.seat) source root.held in
    binds_after x root.held same (copied root.held (subst P (sym same) root.holds))

-- what is not something is nothing
nothing_held : (one : Held) → (one ≢ held.Unbound → ⊥) → one ≡ held.Unbound
nothing_held held.Unbound none = refl
nothing_held held.Undefined none = absurd (none (λ same. cc))
nothing_held (held.Int v) none = absurd (none (λ same. cc))
nothing_held (held.Ref at) none = absurd (none (λ same. cc))

-- where the other variable is bound to nothing, the command stops
unbound_stops : {old now : Mutator} {graph : Graph} (names : List (List ℕ)) (x source : ℕ) → MainShows old graph
    → source < old.seat.space.variables → now ≡ old
    → ((one : Held) → Holds old.seat.space (heap_words old.seat) source one → one ≢ held.Unbound → ⊥)
    → Carries names old now graph (LetValue x (operand.Var source)) [] (Err (Fault Unbound))
unbound_stops {old} {graph = graph} names x source shows known same unbound =
    let binding = shows.shows.bindings source known in
    let found = get graph.bindings source in
    let nothing = nothing_held binding.held (unbound binding.held binding.holds) in
    let none = none_shown found (subst (λ h. ShowsHeld (heap_of old) h found) nothing binding.shows) in
    (ap (λ found. given Unbound found (λ one. done (bind graph x one) [])) none, same)

pub is_bound-requires : goal.is_bound-requires
is_bound-requires c =
    let shows = c.requires.shown.1 in
    let known = subst (NamesBelow c.args.main.now.seat.space.variables) c.in-Var.is c.requires.within.1 in
    record { known = known; root = is_root c.in-Var.from shows known }

pub returns-then-not-is_bound : goal.returns-then-not-is_bound
returns-then-not-is_bound c = record {
  carried = λ graph names shows.
      let known = subst (NamesBelow c.args.main.now.seat.space.variables) c.in-Var.is c.requires.within.1 in
      subst
      (λ v. Carries names c.args.main.now c.is_bound.new.self graph (LetValue c.args.x v) [] (Err (Fault Unbound)))
      (sym c.in-Var.is)
      (unbound_stops names c.args.x c.in-Var.from shows known c.is_bound.ensures.same
      (λ one holds apart. false≢true ((c.if-not-is_bound.ensures.bound one holds).1 apart)));
  binds = tt;
}

pub copy-requires-clause-root : goal.copy-requires-clause-root
copy-requires-clause-root c =
    let shows = c.requires.shown.1 in
    let known = subst (NamesBelow c.args.main.now.seat.space.variables) c.in-Var.is c.requires.within.1 in
    subst (λ (main : Mutator). IsRoot main.seat.space (heap_words main.seat) c.in-Var.from)
    (sym c.is_bound.ensures.same) (is_root c.in-Var.from shows known)

pub returns-in-Int : goal.returns-in-Int
returns-in-Int c = record {
  carried = λ graph names shows.
      let v = c.in-Int.v in
      let fits : SFits w64 v = search rules in
      let P : ℤ → Type 0 = λ w. StandsFor c.args.main.now graph (Int v) (held.Int w) in
      let stands = subst P (sym (to_z-of_z w64 v fits)) (integer_stands c.args.main.now graph v fits) in
      let_carried names c.args.x c.args.v (Int v) shows (ap (value_of graph) c.in-Int.is) stands c.requires.within.0
      (record { held = c.hold.ensures.held; heap = c.hold.ensures.heap });
  binds = binds_after c.args.x (held.Int (to_z w64 (of_z w64 c.in-Int.v))) refl c.hold.ensures.held;
}

pub returns-in-Undefined : goal.returns-in-Undefined
returns-in-Undefined c = record {
  carried = λ graph names shows.
      let_carried names c.args.x c.args.v Undefined shows (ap (value_of graph) c.in-Undefined.is)
      (undefined_stands c.args.main.now graph) c.requires.within.0
      (record { held = c.hold-in-Undefined.ensures.held; heap = c.hold-in-Undefined.ensures.heap });
  binds = binds_after c.args.x held.Undefined refl c.hold-in-Undefined.ensures.held;
}

pub returns-else-not-is_bound : goal.returns-else-not-is_bound
returns-else-not-is_bound c = record {
  carried = λ graph names shows.
      let known = subst (NamesBelow c.args.main.now.seat.space.variables) c.in-Var.is c.requires.within.1 in
      subst (λ v. Carries names c.args.main.now c.copy.new.self graph (LetValue c.args.x v) [] (Ok tt))
      (sym c.in-Var.is)
      (copy_carried names c.args.x c.in-Var.from shows c.requires.within.0 known c.is_bound.ensures.same
      (λ one holds. (c.if-not-is_bound.ensures.bound one holds).0 refl)
      (λ one holds. record { held = c.copy.ensures.held one holds; heap = c.copy.ensures.heap one holds }));
  binds =
      let known = subst (NamesBelow c.args.main.now.seat.space.variables) c.in-Var.is c.requires.within.1 in
      copy_binds c.args.x c.in-Var.from (is_root c.in-Var.from c.requires.shown.1 known) c.is_bound.ensures.same
      c.copy.ensures.held;
}
