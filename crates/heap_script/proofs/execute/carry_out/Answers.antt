use Rattle.std.proofs.Common.{◌∙◌, Bool, Some, refl, ap}
use Rattle.heap_script.specs.MakingRoom.{noted_by}
use Rattle.heap_script.proofs.Retrying.{ready_first, ready_space}
use Rattle.heap_script.proofs.Stopping.{unchanged, servable, clearable, ready_next, stops}
use Rattle.heap_script.proofs.Noted.{carried_at, next_noted, noted_stop}
use Rattle.heap_script.proofs.execute.carry_out.Goals as goal

pub tries-init : goal.tries-init
tries-init c = record {
  ready = ready_first c.args.script.now.fields c.args.heap.now c.args.objects.now c.args.command.now;
  noted = refl;
  objects = refl;
  out = refl;
}

pub attempt-requires : goal.attempt-requires
attempt-requires c =
    let now = c.tries.invariant in
    let (graph, shown, made) = c.requires.shown in
    record {
      apart = c.requires.apart;
      shown = (graph, now.ready.shows graph shown, now.objects ∙ made);
      within = rw (ready_space now.ready c.requires.shown) c.requires.within;
      few = rw now.objects c.requires.few;
      short = c.requires.short;
      room = rw now.out c.requires.room;
    }

pub make_room_for-requires-clause-servable : goal.make_room_for-requires-clause-servable
make_room_for-requires-clause-servable c =
    let now = c.tries.invariant in
    let tried = c.in-Err.ensures in
    servable c.args.script.now.fields c.attempt.new.heap now.ready now.objects tried.rest tried.noted c.requires.shown
    tried.carried c.requires.within

pub make_room_for-requires-clause-clearable : goal.make_room_for-requires-clause-clearable
make_room_for-requires-clause-clearable c =
    let now = c.tries.invariant in
    let tried = c.in-Err.ensures in
    clearable c.args.script.now.fields c.attempt.new.heap now.ready now.objects tried.rest tried.noted
    c.requires.shown tried.carried

pub make_room_for-requires-clause-shown : goal.make_room_for-requires-clause-shown
make_room_for-requires-clause-shown c =
    let now = c.tries.invariant in
    let tried = c.in-Err.ensures in
    let (graph, shown, made) = c.requires.shown in
    let same = unchanged c.args.script.now.fields c.attempt.new.heap now.ready now.objects tried.rest tried.noted
    c.requires.shown tried.carried in
    (graph, rw same (now.ready.shows graph shown))

pub returns-in_default-clause-carried : goal.returns-in_default-clause-carried
returns-in_default-clause-carried c = λ graph shown made.
    let now = c.tries.invariant in
    let (text, tries, out-is) =
    c.in_default.ensures.carried graph (now.ready.shows graph shown) (now.objects ∙ made) in (
      text,
      carried_at (now.ready.stands graph shown made) (now.ready.shows graph shown) tries
          (c.in_default.ensures.noted ∙ now.noted),
      rw now.out at out-is,
    )

pub tries-preserved : goal.tries-preserved
tries-preserved c =
    let now = c.tries.invariant in
    let tried = c.in-Err.ensures in
    let room = c.make_room_for.ensures in
    let way = c.in-Some.ensures in
    let (graph, shown, made) = c.requires.shown in
    let (text, tries, out-is) = tried.carried graph (now.ready.shows graph shown) (now.objects ∙ made) in
    record {
      ready = ready_next c.args.script.now.fields c.attempt.new.heap now.ready now.objects tried.rest tried.noted
          c.requires.shown tried.carried room.shows room.rest way.way;
      noted = way.noted ∙ ap (λ (noted : Bool). noted_by noted (Some c.in-Some.next)) (tried.noted ∙ now.noted)
          ∙ next_noted c.attempt.new.heap c.make_room_for.new.heap c.tries.tried c.in-Err.stop c.in-Some.next
          c.args.heap.now.collected way.way;
      objects = tried.counted ∙ now.objects;
      out = out-is ∙ now.out;
    }

pub returns-in_default-make_room_for-clause-carried : goal.returns-in_default-make_room_for-clause-carried
returns-in_default-make_room_for-clause-carried c = λ graph shown made.
    let now = c.tries.invariant in
    let tried = c.in-Err.ensures in
    let room = c.make_room_for.ensures in
    let none = c.in_default-make_room_for.ensures in
    let shows = now.ready.shows graph shown in
    let names = c.args.script.now.fields in
    let (text, tries, out-is) = tried.carried graph shows (now.objects ∙ made) in (
      text,
      record {
        carries = stops names c.attempt.new.heap now.ready now.objects tried.rest tried.noted c.requires.shown
            tried.carried room.shows room.rest c.laws_of_counts.ensures.full c.laws_of_fitting.ensures.nowhere none.way
            graph shown made;
        noted = none.noted ∙ tried.noted ∙ now.noted
            ∙ noted_stop names c.args.heap.now c.tries.heap c.attempt.new.heap c.make_room_for.new.heap
            c.attempt.new.heap.main graph c.args.command.now text shown shows c.tries.tried c.in-Err.stop
            c.args.heap.now.collected (now.ready.stands graph shown made) tries.carries tries.asks none.way;
      },
      out-is ∙ now.out,
    )
