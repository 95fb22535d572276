use Rattle.std.proofs.Common.{[], is_ok, refl}
use Rattle.heap_script.proofs.Counts.{written_nothing}
use Rattle.heap_script.proofs.Trying.{shows_lent, some_lent, tried}
use Rattle.heap_script.proofs.Executed.{executes_told}
use Rattle.heap_script.proofs.execute.attempt.Goals as goal

pub print-requires-clause-shown : goal.print-requires-clause-shown
print-requires-clause-shown c = some_lent c.main_mut.ensures.main c.requires.shown

pub same-requires-clause-shown : goal.same-requires-clause-shown
same-requires-clause-shown c = some_lent c.main_mut-in-Same.ensures.main c.requires.shown

pub alike-requires-clause-shown : goal.alike-requires-clause-shown
alike-requires-clause-shown c = some_lent c.main_mut-in-Alike.ensures.main c.requires.shown

pub shape-requires-clause-shown : goal.shape-requires-clause-shown
shape-requires-clause-shown c = some_lent c.main_mut-in-Shape.ensures.main c.requires.shown

pub returns-in-Print-clause-carried : goal.returns-in-Print-clause-carried
returns-in-Print-clause-carried c = λ graph shown made.
    let (text, carries, out-is) =
    c.print.ensures.carried graph c.args.script.now.fields (shows_lent c.main_mut.ensures.main shown) in
    (text, rw c.in-Print.is (tried c.main_mut.ensures.main refl refl shown carries), out-is)

pub returns-in-Same-clause-carried : goal.returns-in-Same-clause-carried
returns-in-Same-clause-carried c = λ graph shown made.
    let (text, carries, out-is) =
    c.same.ensures.carried graph c.args.script.now.fields (shows_lent c.main_mut-in-Same.ensures.main shown) in
    (text, rw c.in-Same.is (tried c.main_mut-in-Same.ensures.main refl refl shown carries), out-is)

pub returns-in-Alike-clause-carried : goal.returns-in-Alike-clause-carried
returns-in-Alike-clause-carried c = λ graph shown made.
    let (text, carries, out-is) =
    c.alike.ensures.carried graph c.args.script.now.fields (shows_lent c.main_mut-in-Alike.ensures.main shown) in
    (text, rw c.in-Alike.is (tried c.main_mut-in-Alike.ensures.main refl refl shown carries), out-is)

pub returns-in-Shape-clause-carried : goal.returns-in-Shape-clause-carried
returns-in-Shape-clause-carried c = λ graph shown made.
    let (text, carries, out-is) = c.shape.ensures.carried graph (shows_lent c.main_mut-in-Shape.ensures.main shown) in
    (text, rw c.in-Shape.is (tried c.main_mut-in-Shape.ensures.main refl refl shown carries), out-is)

pub returns-in-Some : goal.returns-in-Some
returns-in-Some c =
    let (came, is, executed) = c.in-Some.ensures.executed in
    let did = executes_told c.in-Some.told.came came is executed in
    record {
      carried = λ graph shown made. (
        [],
        did.tries c.args.script.now.fields graph shown made,
        written_nothing (is_ok c.in-Some.told.came) c.args.out.now,
      );
      rest = did.rest;
      noted = did.noted;
      counted = did.counted;
    }
