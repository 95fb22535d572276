-- A variable may be bound to a new cell before the words of the cell are put: that comes to the same.
use Rattle.std.proofs.Common.{◌≡◌, ℕ, ◌+◌, ◌-◌, ◌≤◌, ◌<◌, List, ◌++◌, length, take, drop}
use Rattle.std.proofs.Common.{refl, sym, ◌∙◌, ap, subst, arith}
use Rattle.std.specs.Prelude.{slice_set, slice_get}
use Rattle.std.proofs.Math.ListN.{length-set}
use Rattle.std.proofs.lemmas.List.{length-append, length-take-le, take-set-le, drop-set-add, set-append_right}
use Rattle.page_space.specs.Extents.{Space}
use Rattle.handle_roots.specs.declared.held.Held.TheVariants as held
use Rattle.handle_roots.specs.Roots.{root_at, first_word, second_word, with_root}
use Rattle.handle_roots.proofs.RootsHeld.{slice_get-with_root}
use Rattle.write_barrier.specs.Seats.{Seat}
use Rattle.heap_model.specs.Types.{Held}
use Rattle.heap_model.specs.Remembered.{Touch}
use Rattle.write_barrier.specs.MutatorState.{Mutator, with_table, with_variable, reserved}
use Rattle.write_barrier.specs.Recording.{Touches, untouched, touched_again}
use Rattle.write_barrier.specs.Values.{with_range}
use Rattle.write_barrier.proofs.Recording.{same_touch, then_touch, touch_alike}
use Rattle.object_cells.specs.Contents.{next_at}
use Rattle.mutator.specs.Making.{new_touch}
use Rattle.mutator.proofs.MadeHeaps.{MakesObject}
use Rattle.mutator.proofs.NewCells.{NewCell}

-- a word behind a stretch may be put before the stretch is
put_across : (words others : List ℕ) (at a word : ℕ) → at + length others ≤ length words → at + length others ≤ a
    → with_range (slice_set words a word) at others ≡ slice_set (with_range words at others) a word
put_across words others at a word within behind =
    let end : ℕ = at + length others in
    let front = take at words ++ others in
    let place : a ≡ end + (a - end) = omega arith in
    let long : length front ≡ end =
    omega (arith, length-append (take at words) others, length-take-le at words (omega arith)) in
    ap (λ first. first ++ others ++ drop end (slice_set words a word)) (take-set-le at words a word (omega arith))
    ∙ ap (λ rest. front ++ rest)
    (ap (λ n. drop end (slice_set words n word)) place ∙ drop-set-add end words (a - end) word)
    ∙ sym (set-append_right front (drop end words) end a word long behind)

-- so may the root words of a variable
root_across : (space : Space) (words others : List ℕ) (at x : ℕ) (one : Held) → at + length others ≤ length words
    → at + length others ≤ root_at space x
    → with_range (with_root space words x one) at others ≡ with_root space (with_range words at others) x one
root_across space words others at x one within behind =
    let root : ℕ = root_at space x in
    let first = slice_set words root (first_word one) in
    let long : length first ≡ length words = length-set words root (first_word one) in
    put_across first others at (root + 1) (second_word one) (omega (arith, long)) (omega arith)
    ∙ ap (λ all. slice_set all (root + 1) (second_word one))
    (put_across words others at root (first_word one) within behind)

-- the same where the cell was put first
abbrev pub filled_first : Mutator → Mutator → ℕ → List ℕ → Mutator
filled_first mid new at words = record new { seat = (with_table mid (with_range mid.seat.table at words)).seat }

-- Words are taken, the variable is made to hold their address, and then the cell is put there, before the roots.
pub record BindsFirst (old mid bound new : Mutator) (x at : ℕ) (one : NewCell) : Type 0 where
  pub run : at ≡ next_at old
  pub taken : mid ≡ reserved old one.size
  pub held : bound ≡ with_variable mid x (held.Ref at)
  pub put : new.seat ≡ (with_table bound (with_range bound.seat.table at one.words)).seat
  pub paths : new.paths ≡ bound.paths
  pub young : new.young ≡ bound.young
  pub cycle : new.cycle ≡ bound.cycle
  pub touches : Touches bound new (new_touch one.head one.size at)
  pub within : at + length one.words ≤ length mid.seat.table
  pub behind : at + length one.words ≤ root_at mid.seat.space x
  pub pages : mid.recorded.bound ≤ root_at mid.seat.space x

-- what nothing touches before and after is touched so
none_after : (touch : Touch) → touched_again (touched_again Touch.Kept touch) Touch.Kept ≡ touch
none_after Touch.Kept = refl
none_after Touch.Stored = refl
none_after Touch.Wiped = refl

module _ {old mid bound new : Mutator} {x at : ℕ} {one : NewCell} (binds : BindsFirst old mid bound new x at one) where
  -- the variable is bound to the cell that was put
  seat_is : new.seat ≡ (with_variable (filled_first mid new at one.words) x (held.Ref at)).seat
  seat_is =
      binds.put
      ∙ ap (λ (main : Mutator). (with_table main (with_range main.seat.table at one.words)).seat) binds.held
      ∙ ap (λ table. record mid.seat { table = table })
      (root_across mid.seat.space mid.seat.table one.words at x (held.Ref at) binds.within binds.behind)

  -- no word of a page is a root word
  beside : (table : List ℕ) (a : ℕ) → a < mid.recorded.bound
      → slice_get (with_root mid.seat.space table x (held.Ref at)) a ≡ slice_get table a
  beside table a below =
      slice_get-with_root mid.seat.space table x a (held.Ref at) (omega (arith, below, binds.pages))
      (omega (arith, below, binds.pages))

  -- in pages nothing was touched but by the cell
  touches : Touches mid (filled_first mid new at one.words) (new_touch one.head one.size at)
  touches =
      let filled = filled_first mid new at one.words in
      let first : Touches mid bound untouched =
      subst (λ (main : Mutator). Touches mid main untouched) (sym binds.held)
      (same_touch mid (with_variable mid x (held.Ref at)) refl refl (λ a below. beside mid.seat.table a below)) in
      let bounds : new.recorded.bound ≡ mid.recorded.bound = binds.touches.bound ∙ first.bound in
      let last : Touches new filled untouched =
      same_touch new filled refl refl
      (λ a below.
      sym (ap (λ (seat : Seat). slice_get seat.table a) seat_is
      ∙ beside (with_range mid.seat.table at one.words) a (omega (arith, below, bounds)))) in
      touch_alike (λ a below. none_after (new_touch one.head one.size at a))
      (then_touch (then_touch first binds.touches) last)

  -- so it is made as if the cell had been put first
  pub makes_first : MakesObject old mid (filled_first mid new at one.words) new x at one
  makes_first = record {
    run = binds.run;
    taken = binds.taken;
    put = refl;
    heap = refl;
    paths = binds.paths ∙ ap (λ (main : Mutator). main.paths) binds.held;
    young = binds.young ∙ ap (λ (main : Mutator). main.young) binds.held;
    cycle = binds.cycle ∙ ap (λ (main : Mutator). main.cycle) binds.held;
    touches = touches;
    holds = record {
      held = ap (λ (seat : Seat). record new { seat = seat }) seat_is;
      heap = ap (λ (seat : Seat). seat.table) seat_is;
    };
  }
