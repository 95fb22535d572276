-- Each turn is counted.
use Rattle.std.proofs.Common.{◌≡◌, ◌∙◌, ◌<◌, ◌+◌, ◌%◌, ℕ, Bool, true, false, List, Contains, refl, sym, ap, subst}
use Rattle.std.proofs.Common.{inl, inr, arith}
use Rattle.core_parts.specs.declared.note.Note.{Note}
use Rattle.marker.specs.Resting.{StaysAt, Turned}
use Rattle.marker.specs.Turns.{LooksEverywhere}
use Rattle.marker.proofs.Going.{IsGoing, finds_on, full_round, looks_on, next_is_new, none_waits_idle, not_begun}
use Rattle.marker.proofs.Going.{round, visits_on}
use Rattle.marker.proofs.marking.mark.Goals.{then-turn, else-turn, then-loop-made-test+else-idle-lt-BOARD_WORDS}
use Rattle.marker.proofs.marking.mark.Goals.{else-loop-made-test}
use Rattle.marker.proofs.marking.mark.Goals as goal

pub loop-made-init : goal.loop-made-init
loop-made-init g c = record {
  most = omega arith;
  few = omega arith;
  stays = record { table = refl; counts = refl };
  rests = c.requires.rests;
  place = c.requires.place;
  bound = refl;
  going = not_begun c.args.seat.now.lent.view.log c.args.room.now.list.addresses c.args.room.now.place c.requires.place;
}

pub loop-made-preserved : goal.loop-made-preserved
loop-made-preserved g c =
    let inv = c.loop-made.invariant in
    let before : List Note = c.args.seat.now.lent.view.log in
    let after : List Note = c.loop-made.seat.lent.view.log in
    let later : List Note = c.turn.new.seat.lent.view.log in
    let was : ℕ = c.loop-made.room.place in
    let now : ℕ = c.turn.new.room.place in
    let had : List ℕ = c.loop-made.room.list.addresses in
    let listed : List ℕ = c.turn.new.room.list.addresses in
    let fewer = c.if-idle-lt-BOARD_WORDS.true in
    let stays : StaysAt c.args.seat.now c.turn.new.seat = record {
      table = c.turn.ensures.stays.table ∙ inv.stays.table;
      counts = c.turn.ensures.stays.counts ∙ inv.stays.counts;
    } in
    elim c.if-turn.branch [
      | then-turn w ↦
          let t : Turned after later was now had listed true =
          subst (λ (b : Bool). Turned after later was now had listed b) w.if-turn.true c.turn.ensures.turned in
          let idle = w.idle-is in
          record {
            most = omega (arith, c.loop-made-test.true);
            few = omega (arith, idle, fewer);
            stays = stays;
            rests = c.turn.ensures.rests;
            place = omega (arith, t.1);
            bound = c.turn.ensures.bound ∙ inv.bound;
            going = subst (λ (n : ℕ). IsGoing before later listed (c.loop-made.made + 1) now n) (sym idle)
                (subst (λ (p : ℕ). IsGoing before later listed (c.loop-made.made + 1) p (c.loop-made.idle + 1)) (sym
                t.1)
                (looks_on before after later had c.loop-made.made was c.loop-made.idle inv.going listed t.0 fewer t.2
                t.3));
          }
      | else-turn w ↦
          let t : Turned after later was now had listed false =
          subst (λ (b : Bool). Turned after later was now had listed b) w.if-turn.false c.turn.ensures.turned in
          let idle = w.idle-is in
          record {
            most = omega (arith, c.loop-made-test.true);
            few = omega (arith, idle);
            stays = stays;
            rests = c.turn.ensures.rests;
            place = t.1;
            bound = c.turn.ensures.bound ∙ inv.bound;
            going = subst (λ (n : ℕ). IsGoing before later listed (c.loop-made.made + 1) now n) (sym idle)
                (elim t.0 [
                  | inl visit ↦ visits_on before after later had c.loop-made.made was c.loop-made.idle inv.going listed
                      now visit t.1
                  | inr look ↦ finds_on before after later had c.loop-made.made was c.loop-made.idle inv.going listed
                      now look.0.0 look.0.1 look.0.2 fewer look.1 look.2 t.1
                ]);
          }
    ]

pub returns-then-idle-eq-BOARD_WORDS-clause-marked : goal.returns-then-idle-eq-BOARD_WORDS-clause-marked
returns-then-idle-eq-BOARD_WORDS-clause-marked g c =
    let r = c.loop-made.invariant.going in
    let all = c.if-idle-eq-BOARD_WORDS.true in
    record {
      new = r.new;
      is = r.is;
      once = r.once;
      none_waits = none_waits_idle _ _ _ _ _ _ r;
      stops = (
        omega (arith, r.made_is, c.loop-made.invariant.most),
        r.none_waits (omega (arith, all)),
        subst LooksEverywhere (sym (r.places ∙ ap (round r.from) all)) (full_round r.from),
      );
    }

pub returns-else-idle-eq-BOARD_WORDS-clause-marked : goal.returns-else-idle-eq-BOARD_WORDS-clause-marked
returns-else-idle-eq-BOARD_WORDS-clause-marked g c =
    let r = c.loop-made.invariant.going in
    let most = c.loop-made.invariant.most in
    let few = c.loop-made.invariant.few in
    let other = c.if-idle-eq-BOARD_WORDS.false in
    let fewer : c.loop-made.idle < 64 = omega (arith, few, other) in
    let ended : c.loop-made.made ≡ c.args.turns = elim c.loop-made-test.branch [
      | then-loop-made-test+else-idle-lt-BOARD_WORDS w ↦ absurd (omega (arith, w.if-idle-lt-BOARD_WORDS.false, fewer))
      | else-loop-made-test w ↦ omega (arith, w.loop-made-test.false, most)
    ] in
    record {
      new = r.new;
      is = r.is;
      once = r.once;
      none_waits = none_waits_idle _ _ _ _ _ _ r;
      stops = (
        ended,
        r.made_is ∙ ended,
        λ all. next_is_new r.from c.loop-made.idle fewer
            (subst (λ xs. Contains xs ((r.from + c.loop-made.idle) % 64)) r.places
            (all ((r.from + c.loop-made.idle) % 64) (omega arith))),
      );
    }
