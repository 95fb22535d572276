-- What the mutator is, and what it keeps, after steps on its seat.
use Rattle.std.proofs.Common.{◌≡◌, ◌⊎◌, ◌==◌, ℕ, Bool, true, List, [], Contains, Option, Some, None, IfSome, IsTrue}
use Rattle.std.proofs.Common.{eq-eqb, slice_index, refl, sym, ◌∙◌, ap, subst}
use Rattle.std.specs.Prelude.{is_some, option_map, IsSomeAnd}
use Rattle.std.proofs.lemmas.Bool.{false≢true}
use Rattle.atomic_table.specs.Seated.{TableId}
use Rattle.page_space.specs.Extents.{Space, eden_start}
use Rattle.mark_world.specs.declared.views.MainView.{MainView}
use Rattle.mark_world.specs.Cycles.{Cycle}
use Rattle.heap_table.specs.Overviews.{known, overview}
use Rattle.heap_table.specs.Phases.{Phase, Quiet, Mark, Paused}
use Rattle.heap_table.specs.Seats.{Seat as TableSeat, Beside}
use Rattle.mark_barrier.specs.Paid.{IsPaid, MovesTo, StepsTo}
use Rattle.mark_barrier.specs.Waiting.{HasRoom, IsOn, Waiting}
use Rattle.write_barrier.specs.declared.main_side.Main.TheInside.{Inside}
use Rattle.write_barrier.specs.Layouts.{AreLayouts}
use Rattle.write_barrier.specs.Model.{mutator_of, without_words, IsTold}
use Rattle.write_barrier.specs.MutatorState.{Mutator}
use Rattle.write_barrier.specs.Seats.{Marks, Seat, marks_by, marks_in, table_of, told_of}

-- own words play no part in what the mutator owes
pub paid_without : {seat : TableSeat} {grey : Waiting} → IsPaid seat grey → IsPaid (without_words seat) grey
paid_without paid = record {
  lists = record {
    room = paid.lists.room;
    waits = paid.lists.waits;
    was = paid.lists.was;
    born = paid.lists.born;
    passed = paid.lists.passed;
  };
  owed = paid.owed;
}

-- own words play no part in what is paid
pub paid_with : {seat : TableSeat} {grey : Waiting} → IsPaid (without_words seat) grey → IsPaid seat grey
paid_with paid = record {
  lists = record {
    room = paid.lists.room;
    waits = paid.lists.waits;
    was = paid.lists.was;
    born = paid.lists.born;
    passed = paid.lists.passed;
  };
  owed = paid.owed;
}

-- so the list of grey cells is there in an open cycle, and is paid
pub paid_list : (main : Inside) (grey : Waiting) → IsTold main → main.grey ≡ Some grey → main.seat.phase ≡ Mark
    → IsPaid main.seat grey
paid_list main grey told is mark =
    paid_with (subst (λ (list : Option Waiting). IsSomeAnd list (IsPaid (without_words main.seat))) is (told.paid mark))

-- no cycle is open where there is no list of grey cells
pub no_list : (main : Inside) → IsTold main → main.grey ≡ None → main.seat.phase ≡ Mark → ⊥
no_list main told none mark =
    subst (λ (list : Option Waiting). IsSomeAnd list (IsPaid (without_words main.seat))) none (told.paid mark)

-- the seat is in an open cycle where the mutator is
pub in_mark : (main : Inside) (now : Mutator) → mutator_of main ≡ now → now.seat.phase ≡ Mark → main.seat.phase ≡ Mark
in_mark main now is mark = ap (λ (one : Mutator). one.seat.phase) is ∙ mark

-- what is owed in an open cycle, where there is a list
pub owed_by : (seat : TableSeat) (list : Option Waiting) → IsSomeAnd list (IsPaid (without_words seat))
    → (overview seat).view.owed ≡ []
owed_by seat (Some grey) paid = paid.owed
owed_by seat None paid = absurd paid

-- so nothing is
pub nothing_owed : (main : Inside) → IsTold main → main.seat.phase ≡ Mark → (overview main.seat).view.owed ≡ []
nothing_owed main told mark = owed_by main.seat main.grey (told.paid mark)

-- the table of a seat that has one
pub table_there : (shared : Option Beside) → IsTrue (is_some shared)
    → option_map (λ (beside : Beside). beside.id) shared ≡ Some (known shared).id
table_there (Some beside) some = refl
table_there None some = absurd (false≢true some)

-- what is said of the layout words that helpers read goes on where these stay
pub read_same : (P : List ℕ → Type 0) (old new : Option Beside) → IsTrue (is_some old) → IsTrue (is_some new)
    → (known new).layouts ≡ (known old).layouts → IfSome old (λ beside. P beside.layouts)
    → IfSome new (λ beside. P beside.layouts)
read_same P (Some a) (Some b) old new same is = subst P (sym same) is
read_same P None new old_some new_some same is = absurd (false≢true old_some)
read_same P (Some a) None old new same is = absurd (false≢true new)

-- a cycle that is open does not wait
pub mark_paused : {phase : Phase} → phase ≡ Mark → phase ≡ Paused → ⊥
mark_paused mark paused = let no : Mark ≡ Paused = sym mark ∙ paused in cc

-- and none waits in Quiet
pub quiet_paused : {phase : Phase} → phase ≡ Quiet → phase ≡ Paused → ⊥
quiet_paused quiet paused = let no : Quiet ≡ Paused = sym quiet ∙ paused in cc

-- with none out colours and board are known
pub at_home : {home : Bool} {out : ℕ} → home ≡ true → out ≡ 0 → home ≡ (out == 0)
at_home home out = home ∙ sym (eq-eqb _ 0 out)

-- nor is one open
pub mark_quiet : {phase : Phase} → phase ≡ Mark → phase ≡ Quiet → ⊥
mark_quiet mark quiet = let no : Mark ≡ Quiet = sym mark ∙ quiet in cc

-- no marks are told in an open cycle
pub no_marks : {phase : Phase} → phase ≡ Mark → (marks : Marks) → marks_in phase marks ≡ None
no_marks mark marks = ap (λ (one : Phase). marks_in one marks) mark

-- nor in another state of it
unmarked_there : {new old : Phase} → new ≡ Mark → (now was : Marks) → old ≡ Mark
    → marks_in new now ≡ marks_in old was
unmarked_there new now was old = no_marks new now ∙ sym (no_marks old was)

module _ (main : Inside) (seat : TableSeat) (grey : Waiting) (words : List ℕ) (next : Cycle)
    (shared : IsTrue (is_some main.seat.shared)) (moves : MovesTo main.seat seat words next) where
  -- the mutator after whole steps of marking
  abbrev pub stepped_to : Inside
  stepped_to = record main { seat = seat; grey = Some grey }

  -- which shared table there is
  named_moves : table_of seat ≡ table_of main.seat
  named_moves =
      table_there seat.shared moves.shared ∙ ap (λ (id : TableId). Some id) moves.id
      ∙ sym (table_there main.seat.shared shared)

  -- what is told of its seat
  told_moves : main.seat.phase ≡ Mark → told_of seat ≡ record (told_of main.seat) { table = words }
  told_moves mark =
      let old : Seat = told_of main.seat in
      let new : Seat = told_of seat in
      ap (λ (one : Option Marks). record new { marks = one })
      (unmarked_there (moves.phase ∙ mark) (marks_by (known seat.shared)) (marks_by (known main.seat.shared)) mark)
      ∙ ap (λ (one : Space). record new { space = one; marks = old.marks }) moves.space
      ∙ ap (λ (one : Phase). record new { space = old.space; phase = one; marks = old.marks }) moves.phase
      ∙ ap (λ (one : List ℕ). record new {
        space = old.space;
        phase = old.phase;
        table = one;
        marks = old.marks;
      }) moves.table
      ∙ ap (λ (one : Option TableId). record new {
        space = old.space;
        phase = old.phase;
        table = words;
        shared = one;
        marks = old.marks;
      }) named_moves
      ∙ ap (λ (one : Bool). record old { table = words; home = one; out = new.out; lent = new.lent }) moves.home
      ∙ ap (λ (one : ℕ). record old { table = words; out = one; lent = new.lent }) moves.out
      ∙ ap (λ (one : ℕ). record old { table = words; lent = one }) moves.lent

  -- the words and the cycle are others, and nothing else
  pub mutator_moves : main.seat.phase ≡ Mark → mutator_of stepped_to
      ≡ record (mutator_of main) { seat = record (told_of main.seat) { table = words }; cycle = next }
  mutator_moves mark =
      ap (λ (one : Seat). record (mutator_of stepped_to) { seat = one }) (told_moves mark)
      ∙ ap (λ (one : Cycle). record (mutator_of main) {
        seat = record (told_of main.seat) { table = words };
        cycle = one;
      }) moves.cycle

  -- it keeps what it kept
  pub told_moves_on : IsTold main → main.seat.phase ≡ Mark → IsPaid seat grey → IsTold stepped_to
  told_moves_on told mark paid = record {
    bound = told.bound ∙ sym (ap eden_start moves.space);
    layouts = read_same (λ all. AreLayouts all 0 main.shapes) main.seat.shared seat.shared shared moves.shared
        moves.layouts told.layouts;
    listed = sym moves.shared;
    lists = paid.lists.room;
    home = moves.home ∙ told.home ∙ ap (λ (many : ℕ). many == 0) (sym moves.out);
    paid = λ again. paid_without paid;
    paused = λ waits. absurd (mark_paused (moves.phase ∙ mark) waits);
    waits = λ waits. absurd (mark_paused (moves.phase ∙ mark) waits);
    clean = λ quiet. absurd (mark_quiet (moves.phase ∙ mark) quiet);
  }

module _ (main : Inside) (seat : TableSeat) (grey : Waiting) (words : List ℕ) (next : Cycle)
    (shared : IsTrue (is_some main.seat.shared)) (steps : StepsTo main.seat seat words next) where
  -- so after steps that give no cell to the board
  pub mutator_steps : main.seat.phase ≡ Mark → mutator_of (record main { seat = seat; grey = Some grey })
      ≡ record (mutator_of main) { seat = record (told_of main.seat) { table = words }; cycle = next }
  mutator_steps mark = mutator_moves main seat grey words next shared steps.moves mark

  -- it keeps what it kept
  pub told_steps_on : IsTold main → main.seat.phase ≡ Mark → IsPaid seat grey
      → IsTold (record main { seat = seat; grey = Some grey })
  told_steps_on told mark paid = told_moves_on main seat grey words next shared steps.moves told mark paid

-- words of its own may be any
pub told_put : (main : Inside) (words : List ℕ) → IsTold main
    → IsTold (record main { seat = record main.seat { table = words } })
told_put main words told =
    record {
      bound = told.bound;
      layouts = told.layouts;
      listed = told.listed;
      lists = told.lists;
      home = told.home;
      paid = told.paid;
      paused = told.paused;
      waits = told.waits;
      clean = told.clean;
    }

-- there is a shared table where there is its name
pub named_some : (shared : Option Beside)
    → is_some (option_map (λ (beside : Beside). beside.id) shared) ≡ is_some shared
named_some (Some beside) = refl
named_some None = refl

-- a list of grey cells is right for a seat with the same regions and view
pub paid_again : (old new : TableSeat) (list : Option Waiting) → new.space ≡ old.space
    → (overview new).view ≡ (overview old).view → (overview new).home ≡ (overview old).home
    → (overview new).colours ≡ (overview old).colours → IsSomeAnd list (IsPaid (without_words old))
    → IsSomeAnd list (IsPaid (without_words new))
paid_again old new None space view home colours was = was
paid_again old new (Some grey) space view home colours was = record {
  lists = record {
    room = subst (HasRoom grey) (sym (ap eden_start space)) was.lists.room;
    waits = subst (λ (one : MainView). (at : ℕ) → Contains one.grey at → IsOn grey at) (sym view) was.lists.waits;
    was = subst (λ (one : MainView). (at : ℕ) → IsOn grey at → Contains one.grey at ⊎ Contains one.mine at) (sym view)
        was.lists.was;
    born = subst (λ (one : MainView). (at : ℕ) → IsOn grey at → Contains one.born at) (sym view) was.lists.born;
    passed = λ at on known.
        ap (λ (all : List ℕ). slice_index all at) colours ∙ was.lists.passed at on (sym home ∙ known);
  };
  owed = ap (λ (one : MainView). one.owed) view ∙ was.owed;
}

-- it is there where there is a shared table
pub listed_again : (old new : TableSeat) (list : Option Waiting) → table_of new ≡ table_of old
    → is_some list ≡ is_some old.shared → is_some list ≡ is_some new.shared
listed_again old new list named listed =
    listed ∙ sym (named_some old.shared) ∙ sym (ap (λ (id : Option TableId). is_some id) named)
    ∙ named_some new.shared
