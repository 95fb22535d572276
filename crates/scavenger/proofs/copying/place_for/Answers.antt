-- A copy goes to a free run, or to the segment: then it was not to be promoted, or no free run has its words.
use Rattle.std.proofs.Common.{◌≡◌, IsTrue, refl, sym, subst}
use Rattle.write_barrier.specs.Seats.{heap_words}
use Rattle.heap_model.specs.Types.{Cell, Run}
use Rattle.write_barrier.specs.MutatorState.{Mutator}
use Rattle.scavenger.specs.declared.progress.Progress.{Progress}
use Rattle.scavenger.specs.Following.{IsFreeAt}
use Rattle.scavenger.specs.Walking.{IsToPromote, Places, stays_young}
use Rattle.scavenger.proofs.copying.place_for.Goals.{then-size-progress+in_default, else-size-progress}
use Rattle.scavenger.proofs.copying.place_for.Goals as goal

pub returns-then-not-are_promoted : goal.returns-then-not-are_promoted
returns-then-not-are_promoted c all are =
    let main = c.args.main.now in
    let now : Progress = c.args.progress.now in
    let goes : Places main main all c.args.at c.args.size now (stays_young now c.args.size) now.fill =
    Places.stays refl (λ (promote : IsToPromote main.seat.space all c.args.at).
    let is : IsTrue c.are_promoted.result =
    (c.are_promoted.ensures main.seat.space main.young.half all are).1 promote in
    let is_not = c.if-not-are_promoted.true in cc) in
    subst (Places main main all c.args.at c.args.size now c.stays_young.new.self) (sym c.stays_young.ensures.to)
    (subst (λ (after : Progress). Places main main all c.args.at c.args.size now after now.fill)
    (sym c.stays_young.ensures.stays) goes)

pub returns-in-Some : goal.returns-in-Some
returns-in-Some c all are =
    let main = c.args.main.now in
    let new = c.take_run.new.main in
    let is : IsTrue c.are_promoted.result = let is_not = c.if-not-are_promoted.false in cc in
    let promote : IsToPromote main.seat.space all c.args.at =
    (c.are_promoted.ensures main.seat.space main.young.half all are).0 is in
    let taken = c.in-Some.ensures.taken in
    let run : Run = taken.0 in
    let free : Cell = taken.1 in
    let begins : run.at ≡ c.in-Some.to = taken.2 in
    subst (Places main new all c.args.at c.args.size c.args.progress.now c.args.progress.now) begins
    (Places.promotes run free promote taken.3
    (subst (IsFreeAt main.seat.space (heap_words main.seat) free) (sym begins) taken.4) taken.5)

pub returns : goal.returns
returns c all are =
    let main = c.args.main.now in
    let now : Progress = c.args.progress.now in
    let mid : Mutator = c.if-size-progress.main in
    let is : IsTrue c.are_promoted.result = let is_not = c.if-not-are_promoted.false in cc in
    let promote : IsToPromote main.seat.space all c.args.at =
    (c.are_promoted.ensures main.seat.space main.young.half all are).0 is in
    let Goes : Mutator → Progress → Type 0 = λ new progress.
    Places main new all c.args.at c.args.size now (stays_young progress c.args.size) progress.fill in
    let goes : Goes mid c.if-size-progress.progress =
    elim c.if-size-progress.branch [
      | then-size-progress+in_default w ↦
          let none = w.in_default.ensures.none refl in
          subst (λ (new : Mutator). Goes new c.if-size-progress.progress) (sym w.main-is)
          (subst (Goes w.take_run.new.main) (sym w.progress-is)
          (Places.refuses none.1 promote w.if-size-progress.true none.0))
      | else-size-progress w ↦
          subst (λ (new : Mutator). Goes new c.if-size-progress.progress) (sym w.main-is)
          (subst (Goes main) (sym w.progress-is) (Places.passes refl promote w.if-size-progress.false))
    ] in
    subst (Places main mid all c.args.at c.args.size now c.stays_young-2.new.self) (sym c.stays_young-2.ensures.to)
    (subst (λ (after : Progress). Places main mid all c.args.at c.args.size now after c.if-size-progress.progress.fill)
    (sym c.stays_young-2.ensures.stays) goes)
