-- What a command that only binds a variable leaves as it was, or one that makes an object and binds it.
use Rattle.std.specs.Prelude.{◌≡◌, ℕ, List, length}
use Rattle.nursery.specs.Young.{next_of, bumped}
use Rattle.heap_model.specs.Types.{Held}
use Rattle.handle_roots.specs.declared.held.Held.TheVariants.{Ref}
use Rattle.write_barrier.specs.MutatorState.{Mutator, with_table, with_variable}
use Rattle.write_barrier.specs.Values.{with_range}

-- Only the two root words of the variable have changed: it holds something, or nothing.
pub record Binds (old new : Mutator) (variable : ℕ) : Type 0 where
  pub held : Held
  pub is : new ≡ with_variable old variable held

-- Only words where cells are made have changed, those of a new cell, which were taken, and the two root words of the
-- variable: it holds the cell's address. What is recorded is told beside it.
pub record BindsMade (old new : Mutator) (variable : ℕ) : Type 0 where
  pub at : ℕ
  pub words : List ℕ
  pub next : at ≡ next_of old.young
  pub seat : let filled = with_table old (with_range old.seat.table at words) in
      new.seat ≡ (with_variable filled variable (Ref at)).seat
  pub paths : new.paths ≡ old.paths
  pub young : new.young ≡ bumped old.young (length words)
  pub free : new.free ≡ old.free
